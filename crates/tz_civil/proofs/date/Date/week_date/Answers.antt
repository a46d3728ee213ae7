-- A date is in its year.
use Rattle.std.proofs.Common.{◌≡◌, ℤ, arith, rules, sym, subst, ◌∙◌, to_z, of_z}
use Rattle.std.proofs.lemmas.Int.{ints, to_z-of_z}
use mir.Syntax.{w32, w64}
use Rattle.tz_base.proofs.DaysOfYears.{day_in_year}
use Rattle.tz_civil.specs.Dates.{number_of}
use Rattle.tz_civil.specs.WeekDates.{IsWeekDate}
use Rattle.tz_civil.proofs.CivilDates.{IfNone_then}
use Rattle.tz_civil.proofs.date.Date.week_date.Goals as goal

pub week_date_of_day-requires-clause-in_year : goal.week_date_of_day-requires-clause-in_year
week_date_of_day-requires-clause-in_year c =
    let d = c.self.inside in
    let day = c.self.invariant.day_is in
    let value = rw (← c.self.view_is) at c.day_number.ensures.value in
    let inside = day_in_year d.year d.month d.month_day day.month_is.0 day.month_is.1 day.month_day_is.0
    day.month_day_is.1 in
    rw (to_z-of_z w32 d.year (search rules), to_z-of_z w64 c.day_number.result (search rules), value)
    (inside.0, omega (arith, ints, inside.1))

pub returns-clause-none : goal.returns-clause-none
returns-clause-none c =
    let day = c.day_number.result in
    let is : number_of c.args.self ≡ to_z w64 (of_z w64 day) =
    sym c.day_number.ensures.value ∙ sym (to_z-of_z w64 day (search rules)) in
    IfNone_then c.week_date_of_day.result _ _ c.week_date_of_day.ensures.none
    (λ none year week week_day h fits. none year week week_day
    (subst (λ (day : ℤ). IsWeekDate day year week week_day) is h) fits)
