-- By the closed form of the days before the year, which is moved by cycles of 400 years.
use Rattle.tz_rule.proofs.Common.{arith, ◌≡◌, ints, pos, ◌∙◌, ◌+ℤ◌, sym, ap, ◌-ℤ◌, ◌+◌, ◌%◌, is_leap, year_kind, kind_of, first_day-moved, is_leap-moved, days_of_years_bounds}
use Rattle.tz_rule.proofs.Weeks.{week_day_of_year-moved}
use Rattle.tz_rule.proofs.UtcYears.{year_fits}
use Rattle.tz_rule.proofs.timezone.year_table.moved_year_start.Goals as goal

pub returns-clause-start : goal.returns-clause-start
returns-clause-start c =
    let n = c.args.moved_year in
    omega (
      arith,
      ints,
      first_day-moved (pos n -ℤ pos 2147484000) n 5368710
          (omega (arith, ints)),
      c.days_before_moved_year-days.ensures.value,
      c.days_before_moved_year-days.ensures.bound,
    )

pub returns-clause-kind : goal.returns-clause-kind
unfolding year_kind
returns-clause-kind c =
    let n = c.args.moved_year in
    let year = pos n -ℤ pos 2147484000 in
    let moved : year +ℤ pos 2147484000 ≡ pos n = omega (arith, ints) in
    let week_day = c.days_over_weeks.ensures.value ∙ ap (λ d. (d + 6) % 7) c.days_before_moved_year-days.ensures.value
    ∙ sym (week_day_of_year-moved year n 5368710 moved) in
    c.kind_of-kind.ensures.value ∙ ap (λ b. kind_of b c.days_over_weeks.result) (c.is_moved_year_leap.ensures
    ∙ sym (is_leap-moved year n 5368710 moved)) ∙ ap (kind_of (is_leap year)) week_day

pub returns-clause-bound : goal.returns-clause-bound
returns-clause-bound c =
    let n = c.args.moved_year in
    let year = pos n -ℤ pos 2147484000 in
    let bounds = days_of_years_bounds year n (year_fits year (omega (arith, ints, c.requires.0))
    (omega (arith, ints, c.requires.1))) (omega (arith, ints)) in (
      omega (
        arith,
        ints,
        bounds,
        c.days_before_moved_year-days.ensures.value,
        c.days_before_moved_year-days.ensures.bound,
      ),
      omega (
        arith,
        ints,
        bounds,
        c.days_before_moved_year-days.ensures.value,
        c.days_before_moved_year-days.ensures.bound,
      ),
    )
