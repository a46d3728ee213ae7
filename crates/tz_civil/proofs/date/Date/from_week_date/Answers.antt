-- A week date has one day, and a day one date.
use Rattle.std.proofs.Common.{◌∙◌, sym, rules}
use Rattle.std.proofs.lemmas.Int.{to_z-of_z}
use mir.Syntax.{w64}
use Rattle.tz_civil.specs.Dates.{number_of}
use Rattle.tz_civil.proofs.CivilDates.{IfNone_then}
use Rattle.tz_civil.proofs.YearsOfWeeks.{one_day}
use Rattle.tz_civil.proofs.date.Date.from_week_date.Goals as goal

pub returns-in_default-clause-none : goal.returns-in_default-clause-none
returns-in_default-clause-none c = λ d is. c.in_default.ensures.none (number_of d)

pub returns-clause-none : goal.returns-clause-none
returns-clause-none c =
    let w = c.args.week_date in
    IfNone_then c.from_day_number.result _ _ c.from_day_number.ensures.none
    (λ none d is h. none d is (one_day (number_of d) _ w.year w.week w.week_day h c.in-Some.ensures.some
    ∙ sym (to_z-of_z w64 c.in-Some.day (search rules))))
