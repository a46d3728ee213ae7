-- The Thursday of the week is in the year before, in the year of the date, or in the year after.
use Rattle.std.proofs.Common.{◌≡◌, arith, rules, pos, ◌+ℤ◌}
use Rattle.std.proofs.lemmas.Int.{ints, to_z-of_z}
use mir.Syntax.{w32, w64}
use mir.Val.{SFits}
use Rattle.tz_base.proofs.DaysOfYears.{first_day-next}
use Rattle.tz_civil.proofs.YearsOfWeeks.{too_early, too_late, week_date_in, first_day-after, year_length-range}
use Rattle.tz_civil.proofs.date.week_dates.week_date_of_day.Goals as goal

pub returns-in_default-clause-none : goal.returns-in_default-clause-none
returns-in_default-clause-none c = λ later week w' h fits.
    let day = c.args.day in
    let year = c.args.this_year in
    let same = to_z-of_z w32 year c.ranges.this_year in
    let first_is = rw same at c.first_day_of_year-first.ensures.value in
    let first_bound = c.first_day_of_year-first.ensures.bound in
    let w = c.week_day_from_monday-week_day.result in
    let range = c.week_day_from_monday-week_day.ensures.bound in
    let shown = rw (to_z-of_z w64 day c.ranges.day) at c.week_day_from_monday-week_day.ensures.value in
    let before = too_early day year later w week w' range shown h
    (omega (arith, ints, first_is, first_bound, range, c.if-thursday-first.true)) in
    let own : SFits w32 year = search rules in
    (rw same at c.in_default.ensures) (record { sfits = omega (arith, ints, before, own.sfits, fits.sfits) })

pub week_of-week-requires-clause-in_year : goal.week_of-week-requires-clause-in_year
week_of-week-requires-clause-in_year c =
    let day = c.args.day in
    let year = c.args.this_year in
    let same = to_z-of_z w32 year c.ranges.this_year in
    let first_is = rw same at c.first_day_of_year-first.ensures.value in
    let first_bound = c.first_day_of_year-first.ensures.bound in
    let w = c.week_day_from_monday-week_day.result in
    let range = c.week_day_from_monday-week_day.ensures.bound in
    let inside = c.requires.in_year in
    let before : c.in-Some.year +ℤ pos 1 ≡ year = omega (arith, ints, rw same at c.in-Some.ensures.1) in
    let prior = rw (to_z-of_z w32 c.in-Some.year (search rules)) at c.first_day_of_year.ensures.value in
    let bound = c.first_day_of_year.ensures.bound in
    let after = first_day-after c.in-Some.year year before in
    let length = year_length-range c.in-Some.year in (
      omega (arith, ints, first_is, first_bound, range, inside, prior, bound, after, length, c.if-thursday-first.true),
      omega (arith, ints, first_is, first_bound, range, inside, prior, bound, after, length, c.if-thursday-first.true),
    )

pub returns-then-thursday-first-clause-some : goal.returns-then-thursday-first-clause-some
returns-then-thursday-first-clause-some c =
    let day = c.args.day in
    let year = c.args.this_year in
    let same = to_z-of_z w32 year c.ranges.this_year in
    let first_is = rw same at c.first_day_of_year-first.ensures.value in
    let first_bound = c.first_day_of_year-first.ensures.bound in
    let w = c.week_day_from_monday-week_day.result in
    let range = c.week_day_from_monday-week_day.ensures.bound in
    let shown = rw (to_z-of_z w64 day c.ranges.day) at c.week_day_from_monday-week_day.ensures.value in
    let inside = c.requires.in_year in
    let before : c.in-Some.year +ℤ pos 1 ≡ year = omega (arith, ints, rw same at c.in-Some.ensures.1) in
    let prior = rw (to_z-of_z w32 c.in-Some.year (search rules)) at c.first_day_of_year.ensures.value in
    let bound = c.first_day_of_year.ensures.bound in
    let after = first_day-after c.in-Some.year year before in
    let length = year_length-range c.in-Some.year in
    rw (to_z-of_z w32 c.in-Some.year (search rules))
    (week_date_in day c.in-Some.year w _ range shown
    (omega (arith, ints, first_is, first_bound, range, inside, prior, bound, after, length, c.if-thursday-first.true))
    (rw before (omega (
      arith,
      ints,
      first_is,
      first_bound,
      range,
      inside,
      prior,
      bound,
      after,
      length,
      c.if-thursday-first.true,
    )))
    (λ days e. c.week_of-week.ensures days
    (omega (arith, ints, prior, bound, range, e))))

pub returns-then-thursday-next-clause-some : goal.returns-then-thursday-next-clause-some
returns-then-thursday-next-clause-some c =
    let day = c.args.day in
    let year = c.args.this_year in
    let same = to_z-of_z w32 year c.ranges.this_year in
    let first_is = rw same at c.first_day_of_year-first.ensures.value in
    let first_bound = c.first_day_of_year-first.ensures.bound in
    let w = c.week_day_from_monday-week_day.result in
    let range = c.week_day_from_monday-week_day.ensures.bound in
    let shown = rw (to_z-of_z w64 day c.ranges.day) at c.week_day_from_monday-week_day.ensures.value in
    let length = rw same at c.days_of_year.ensures.value in
    let next = first_day-next year in
    rw same (week_date_in day year w _ range shown
    (omega (arith, ints, first_is, first_bound, range, c.if-thursday-first.false))
    (omega (
      arith,
      ints,
      first_is,
      first_bound,
      range,
      length,
      next,
      c.days_of_year.ensures.bound,
      c.if-thursday-next.true,
    ))
    (λ days e. c.week_of-week-then-thursday-next.ensures days
    (omega (arith, ints, first_is, first_bound, range, e))))

pub returns-in_default-checked_add-clause-none : goal.returns-in_default-checked_add-clause-none
returns-in_default-checked_add-clause-none c = λ earlier week w' h fits.
    let day = c.args.day in
    let year = c.args.this_year in
    let same = to_z-of_z w32 year c.ranges.this_year in
    let first_is = rw same at c.first_day_of_year-first.ensures.value in
    let first_bound = c.first_day_of_year-first.ensures.bound in
    let w = c.week_day_from_monday-week_day.result in
    let range = c.week_day_from_monday-week_day.ensures.bound in
    let shown = rw (to_z-of_z w64 day c.ranges.day) at c.week_day_from_monday-week_day.ensures.value in
    let length = rw same at c.days_of_year.ensures.value in
    let next = first_day-next year in
    let after = too_late day year earlier w week w' range shown h
    (omega (
      arith,
      ints,
      first_is,
      first_bound,
      range,
      length,
      next,
      c.days_of_year.ensures.bound,
      c.if-thursday-next.false,
    )) in
    let own : SFits w32 year = search rules in
    (rw same at c.in_default-checked_add.ensures) (record { sfits = omega (arith, ints, after, own.sfits, fits.sfits) })

pub returns-clause-some : goal.returns-clause-some
returns-clause-some c =
    let day = c.args.day in
    let year = c.args.this_year in
    let same = to_z-of_z w32 year c.ranges.this_year in
    let first_is = rw same at c.first_day_of_year-first.ensures.value in
    let first_bound = c.first_day_of_year-first.ensures.bound in
    let w = c.week_day_from_monday-week_day.result in
    let range = c.week_day_from_monday-week_day.ensures.bound in
    let shown = rw (to_z-of_z w64 day c.ranges.day) at c.week_day_from_monday-week_day.ensures.value in
    let inside = c.requires.in_year in
    let length = rw same at c.days_of_year.ensures.value in
    let next = first_day-next year in
    let year_is : c.in-Some-checked_add.year ≡ year +ℤ pos 1 = rw same at c.in-Some-checked_add.ensures.1 in
    let after = first_day-next (year +ℤ pos 1) in
    let length_after = year_length-range (year +ℤ pos 1) in
    rw (to_z-of_z w32 c.in-Some-checked_add.year (search rules), year_is)
    (week_date_in day (year +ℤ pos 1) w 1 range shown
    (omega (
      arith,
      ints,
      first_is,
      first_bound,
      range,
      length,
      next,
      c.days_of_year.ensures.bound,
      c.if-thursday-next.false,
    ))
    (omega (arith, ints, range, inside, after, length_after))
    (λ days e. omega (arith, ints, range, inside, e)))
