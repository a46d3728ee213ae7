-- Each day of the month with the week day is weeks after the first one.
use Rattle.std.proofs.Common.{◌≡◌, ℕ, ◌+◌, ◌-◌, ◌*◌, ◌/◌, arith, rules, inl, refl, subst}
use Rattle.std.proofs.lemmas.Int.{ints, to_z-of_z}
use mir.Syntax.{w8, w32}
use Rattle.tz_base.proofs.CivilReadings.{month_length-ge, month_length-le}
use Rattle.tz_civil.specs.Steps.{last_day_of}
use Rattle.tz_civil.specs.WeekDays.{IsNth}
use Rattle.tz_civil.proofs.DaysOfWeeks.{week_day-lt, weeks_from_first, weeks_later}
use Rattle.tz_civil.proofs.date.Date.nth_week_day.Goals as goal
use Rattle.tz_civil.proofs.date.Date.nth_week_day.Goals.{then-month-lt1-via-then-month-lt1, then-month-lt1-via-else-month-lt1+then-month-gt12, then-month-lt1-via-else-month-lt1+else-month-gt12+then-week_day-gt6}

pub returns-then-month-lt1-clause-none : goal.returns-then-month-lt1-clause-none
returns-then-month-lt1-clause-none c = λ month_day h.
    elim c.then-month-lt1.branch [
      | then-month-lt1-via-then-month-lt1 w ↦ omega (arith, h.day_is.month_is, w.if-month-lt1)
      | then-month-lt1-via-else-month-lt1+then-month-gt12 w ↦ omega (arith, h.day_is.month_is, w.if-month-gt12)
      | then-month-lt1-via-else-month-lt1+else-month-gt12+then-week_day-gt6 w ↦
          omega (arith, week_day-lt _ c.args.week_day h.week_day_is, w.if-week_day-gt6)
    ]

pub invariant_of-result : goal.invariant_of-result
invariant_of-result c =
    record {
      year_is = search rules;
      day_is = record {
        month_is = (omega (arith, c.if-month-lt1.false), omega (arith, c.if-month-gt12.false));
        month_day_is = (
          omega (arith, c.first_with_week_day-first.ensures.bound),
          omega (
            arith,
            ints,
            month_length-ge,
            c.first_with_week_day-first.ensures.bound,
            c.if-n-ge1.true,
            c.if-n-le4.true,
          ),
        );
      };
    }

pub returns-then-n-le4-clause-some : goal.returns-then-n-le4-clause-some
returns-then-n-le4-clause-some c =
    let year = c.args.year in
    let same = to_z-of_z w32 year c.ranges.year in
    let first = c.first_with_week_day-first.result in
    let bound = c.first_with_week_day-first.ensures.bound in
    let shown = rw same at c.first_with_week_day-first.ensures.value in (
      same,
      refl,
      record {
        day_is = record {
          month_is = (omega (arith, c.if-month-lt1.false), omega (arith, c.if-month-gt12.false));
          month_day_is = (
            omega (arith, bound),
            omega (arith, ints, month_length-ge, bound, c.if-n-ge1.true, c.if-n-le4.true),
          );
        };
        week_day_is = weeks_later year c.args.month first _ c.args.week_day shown;
        nth = inl (omega (arith, ints, bound, c.if-n-ge1.true, c.if-n-le4.true));
      },
    )

pub weeks_after_first-requires : goal.weeks_after_first-requires
weeks_after_first-requires c =
    let bound = c.first_with_week_day-first.ensures.bound in (
      bound.0,
      bound.1,
      omega (arith, month_length-ge, c.days_in_month-last.ensures),
      omega (arith, month_length-le, c.days_in_month-last.ensures),
    )

pub returns-in_default-clause-none : goal.returns-in_default-clause-none
returns-in_default-clause-none c = λ d h.
    let year = c.args.year in
    let same = to_z-of_z w32 year c.ranges.year in
    let first = c.first_with_week_day-first.result in
    let last_is = rw same at c.days_in_month-last.ensures in
    let shown = rw same at c.first_with_week_day-first.ensures.value in
    let at : d ≡ first + 7 * ((d - first) / 7) = weeks_from_first year c.args.month first d c.args.week_day
    c.first_with_week_day-first.ensures.bound shown h.day_is.month_day_is.0 h.week_day_is in
    let none = rw (to_z-of_z w8 c.args.n c.ranges.n, last_is) at c.in_default.ensures.none in
    none ((d - first) / 7) (omega (arith, at, h.day_is.month_day_is.1))
    (subst (λ (k : ℕ). IsNth c.args.n k (last_day_of year c.args.month)) at h.nth)

pub returns-clause-some : goal.returns-clause-some
returns-clause-some c =
    let year = c.args.year in
    let same = to_z-of_z w32 year c.ranges.year in
    let first = c.first_with_week_day-first.result in
    let last_is = rw same at c.days_in_month-last.ensures in
    let shown = rw same at c.first_with_week_day-first.ensures.value in
    let some = rw (to_z-of_z w8 c.args.n c.ranges.n, last_is) at c.in-Some.ensures.some in (
      same,
      refl,
      record {
        day_is = record {
          month_is = (omega (arith, c.if-month-lt1.false), omega (arith, c.if-month-gt12.false));
          month_day_is = (omega (arith, c.first_with_week_day-first.ensures.bound), some.0);
        };
        week_day_is = weeks_later year c.args.month first c.in-Some.weeks c.args.week_day shown;
        nth = some.1;
      },
    )
