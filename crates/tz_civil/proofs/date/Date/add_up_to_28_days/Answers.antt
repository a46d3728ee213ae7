-- A day past the end of its month is so many days of the next one, which has 28 days at least.
use Rattle.std.proofs.Common.{◌≡◌, ◌+◌, ◌-◌, pos, ◌+ℤ◌, arith, rules, subst, ℤ, inl, inr}
use Rattle.std.proofs.lemmas.Int.{ints, to_z-of_z}
use mir.Syntax.{w32}
use Rattle.tz_base.specs.Days.{day_number}
use Rattle.tz_base.proofs.CivilReadings.{month_length-ge, month_length-le}
use Rattle.tz_base.proofs.DateOrder.{first_day-mono}
use Rattle.tz_base.proofs.DaysOfYears.{day_in_year}
use Rattle.tz_civil.proofs.DaysOfMonths.{days_on, in_next_month, in_next_year, from_first_day}
use Rattle.tz_civil.proofs.DaysOfWeeks.{compare}
use Rattle.tz_civil.proofs.date.Date.add_up_to_28_days.Goals as goal

pub overflow_add-month_day : goal.overflow_add-month_day
overflow_add-month_day c =
    record { fits = omega (arith, month_length-le, c.self.invariant.day_is.month_day_is, c.requires) }

pub invariant_of-result : goal.invariant_of-result
invariant_of-result c =
    record {
      year_is = search rules;
      day_is = record {
        month_is = c.self.invariant.day_is.month_is;
        month_day_is = (
          omega (arith, c.self.invariant.day_is.month_day_is),
          omega (arith, month_length-ge, c.if-month_day-le28.true),
        );
      };
    }

pub returns-then-month_day-le28-clause-some : goal.returns-then-month_day-le28-clause-some
returns-then-month_day-le28-clause-some c =
    let d = c.self.inside in
    rw (← c.self.view_is, to_z-of_z w32 d.year (search rules)) (days_on d.year d.month d.month_day c.args.days)

pub returns-then-month_day-last-clause-some : goal.returns-then-month_day-last-clause-some
returns-then-month_day-last-clause-some c =
    let d = c.self.inside in
    rw (← c.self.view_is, to_z-of_z w32 d.year (search rules)) (days_on d.year d.month d.month_day c.args.days)

pub invariant_of-result-then-self-lt12 : goal.invariant_of-result-then-self-lt12
invariant_of-result-then-self-lt12 c =
    let last = rw (to_z-of_z w32 c.self.inside.year (search rules)) at c.days_in_month-last.ensures in
    record {
      year_is = search rules;
      day_is = record {
        month_is = (omega arith, omega (arith, c.if-self-lt12.true));
        month_day_is = (
          omega (arith, c.if-month_day-last.false),
          omega (arith, month_length-ge, c.self.invariant.day_is.month_day_is, last, c.requires),
        );
      };
    }

pub returns-then-self-lt12-clause-some : goal.returns-then-self-lt12-clause-some
returns-then-self-lt12-clause-some c =
    let d = c.self.inside in
    let same = to_z-of_z w32 d.year (search rules) in
    let last = rw same at c.days_in_month-last.ensures in
    rw (← c.self.view_is, same) (in_next_month d.year d.month d.month_day c.args.days _
    c.self.invariant.day_is.month_is.0 (omega (arith, last, c.if-month_day-last.false)))

pub returns-in_default-clause-none : goal.returns-in_default-clause-none
returns-in_default-clause-none c = λ e is later.
    let d = c.self.inside in
    let same = to_z-of_z w32 d.year (search rules) in
    let last = rw same at c.days_in_month-last.ensures in
    let december : d.month ≡ 12 = omega (arith, c.if-self-lt12.false, c.self.invariant.day_is.month_is) in
    let rest = d.month_day + c.args.days - c.days_in_month-last.result in
    let next = in_next_year d.year d.month_day c.args.days rest
    (omega (arith, rw december at last, c.if-month_day-last.false)) in
    let from = from_first_day (d.year +ℤ pos 1) rest (omega (arith, c.if-month_day-last.false)) in
    let here = rw december at (rw (← c.self.view_is) at later) in
    let day = is.day_is in
    let inside = day_in_year e.year e.month e.month_day day.month_is.0 day.month_is.1 day.month_day_is.0
    day.month_day_is.1 in
    elim (compare e.year d.year) [
      | inl up ↦
          let years = first_day-mono (e.year +ℤ pos 1) (d.year +ℤ pos 1) (omega (arith, ints, up)) in
          omega (arith, ints, years, inside, next, from, here)
      | inr down ↦
          c.in_default.ensures
          (record { sfits = omega (arith, ints, down, is.year_is, c.self.invariant.year_is) })
    ]

pub invariant_of-result-2 : goal.invariant_of-result-2
invariant_of-result-2 c =
    let last = rw (to_z-of_z w32 c.self.inside.year (search rules)) at c.days_in_month-last.ensures in
    record {
      year_is = search rules;
      day_is = record {
        month_is = (omega arith, omega arith);
        month_day_is = (
          omega (arith, c.if-month_day-last.false),
          omega (arith, month_length-ge, c.self.invariant.day_is.month_day_is, last, c.requires),
        );
      };
    }

pub returns-clause-some : goal.returns-clause-some
returns-clause-some c =
    let d = c.self.inside in
    let last = rw (to_z-of_z w32 d.year (search rules)) at c.days_in_month-last.ensures in
    let december : d.month ≡ 12 = omega (arith, c.if-self-lt12.false, c.self.invariant.day_is.month_is) in
    let rest = d.month_day + c.args.days - c.days_in_month-last.result in
    let next = in_next_year d.year d.month_day c.args.days rest
    (omega (arith, rw december at last, c.if-month_day-last.false)) in
    let year_is : d.year +ℤ pos 1 ≡ c.in-Some.year = omega (arith, ints, c.in-Some.ensures) in
    rw (← c.self.view_is, to_z-of_z w32 c.in-Some.year (search rules), december)
    (subst (λ (y : ℤ). day_number y 1 rest ≡ day_number d.year 12 d.month_day +ℤ pos c.args.days) year_is next)
