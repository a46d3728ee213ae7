-- A leap year has a day more.
use Rattle.std.proofs.Common.{◌≡◌, sym, ◌∙◌, ap, cond, ℕ, true, false}
use Rattle.std.proofs.lemmas.Int.{to_z-of_z}
use mir.Syntax.{w32}
use Rattle.tz_base.specs.Days.{is_leap}
use Rattle.tz_base.proofs.DaysOfYears.{year_length-is}
use Rattle.tz_civil.proofs.date.week_dates.days_of_year.Goals as goal

pub returns-then-is_leap_year-clause-value : goal.returns-then-is_leap_year-clause-value
returns-then-is_leap_year-clause-value c =
    let same = to_z-of_z w32 c.args.year c.ranges.year in
    let leap : is_leap c.args.year ≡ true = sym (rw same at c.is_leap_year.ensures) ∙ c.if-is_leap_year.true in
    sym (year_length-is c.args.year ∙ ap (λ b. cond {A = ℕ} b 366 365) leap)

pub returns-else-is_leap_year-clause-value : goal.returns-else-is_leap_year-clause-value
returns-else-is_leap_year-clause-value c =
    let same = to_z-of_z w32 c.args.year c.ranges.year in
    let leap : is_leap c.args.year ≡ false = sym (rw same at c.is_leap_year.ensures) ∙ c.if-is_leap_year.false in
    sym (year_length-is c.args.year ∙ ap (λ b. cond {A = ℕ} b 366 365) leap)
