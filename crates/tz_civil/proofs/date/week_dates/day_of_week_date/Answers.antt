-- The day that is found has the week date, and there is none where the year has no such Thursday.
use Rattle.std.proofs.Common.{◌+◌, ◌-◌, ◌*◌, ◌<◌, arith, rules}
use Rattle.std.proofs.lemmas.Int.{ints, to_z-of_z}
use mir.Syntax.{w32, w64}
use Rattle.tz_base.specs.Days.{year_length}
use Rattle.tz_civil.proofs.YearsOfWeeks.{year_length-range, thursday_of_week, day_has_week_date}
use Rattle.tz_civil.proofs.date.week_dates.day_of_week_date.Goals as goal
use Rattle.tz_civil.proofs.date.week_dates.day_of_week_date.Goals.{then-date-lt1-via-then-date-lt1, then-date-lt1-via-else-date-lt1+then-date-gt53, then-date-lt1-via-else-date-lt1+else-date-gt53+then-date-lt1-2, then-date-lt1-via-else-date-lt1+else-date-gt53+else-date-lt1-2+then-date-gt7, else-date-eq53-via-then-date-eq53+else-days-days_of_year, else-date-eq53-via-else-date-eq53}

pub returns-then-date-lt1-clause-none : goal.returns-then-date-lt1-clause-none
returns-then-date-lt1-clause-none c = λ day h.
    let length = year_length-range c.args.date.year in
    elim c.then-date-lt1.branch [
      | then-date-lt1-via-then-date-lt1 w ↦ omega (arith, h.week_is, w.if-date-lt1)
      | then-date-lt1-via-else-date-lt1+then-date-gt53 w ↦ omega (arith, h.week_is, h.in_year, length, w.if-date-gt53)
      | then-date-lt1-via-else-date-lt1+else-date-gt53+then-date-lt1-2 w ↦ omega (arith, h.week_day_is, w.if-date-lt1-2)
      | then-date-lt1-via-else-date-lt1+else-date-gt53+else-date-lt1-2+then-date-gt7 w ↦
          omega (arith, h.week_day_is, w.if-date-gt7)
    ]

pub returns-then-days-days_of_year-clause-none : goal.returns-then-days-days_of_year-clause-none
returns-then-days-days_of_year-clause-none c = λ day h.
    let year = c.args.date.year in
    let same = to_z-of_z w32 year (search rules) in
    let first_is = rw same at c.first_day_of_year-first.ensures.value in
    let length = rw same at c.days_of_year.ensures.value in
    let first = c.days_until.result in
    let thursday = rw (
      to_z-of_z w64 c.first_day_of_year-first.result (search rules),
      first_is,
    ) at c.days_until.ensures.value in
    let few = c.days_until.ensures.bound in
    let days = thursday_of_week day year first c.args.date.week c.args.date.week_day thursday few h in
    omega (arith, days, length, h.in_year, c.if-days-days_of_year.true)

pub returns-clause-some : goal.returns-clause-some
returns-clause-some c =
    let year = c.args.date.year in
    let same = to_z-of_z w32 year (search rules) in
    let first_is = rw same at c.first_day_of_year-first.ensures.value in
    let range = year_length-range year in
    let first = c.days_until.result in
    let thursday = rw (
      to_z-of_z w64 c.first_day_of_year-first.result (search rules),
      first_is,
    ) at c.days_until.ensures.value in
    let few = c.days_until.ensures.bound in
    let within : first + 7 * (c.args.date.week - 1) < year_length year = elim c.else-date-eq53.branch [
      | else-date-eq53-via-then-date-eq53+else-days-days_of_year w ↦
          let length = rw same at w.days_of_year.ensures.value in
          omega (arith, length, w.if-days-days_of_year)
      | else-date-eq53-via-else-date-eq53 w ↦ omega (arith, range, w.if-date-eq53, c.if-date-gt53.false)
    ] in
    day_has_week_date _ year first c.args.date.week c.args.date.week_day thursday few
    (omega (arith, c.if-date-lt1.false)) (omega (arith, c.if-date-lt1-2.false), omega (arith, c.if-date-gt7.false))
    within
    (omega (arith, ints, first_is, c.first_day_of_year-first.ensures.bound, c.if-date-gt53.false, c.if-date-gt7.false))
