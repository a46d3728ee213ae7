-- Of the years that 100 divides those are leap that 400 divides, and so 16 does.
use Rattle.std.proofs.Common.{◌≡◌, ◌%◌, ◌≢◌, arith}
use Rattle.std.proofs.lemmas.Bool.Decides.{nat_tests}
use Rattle.tz_base.specs.Days.{is_leap}
use Rattle.tz_base.proofs.calendar.is_moved_year_leap.Goals as goal

pub returns-then-centuries_before-years : goal.returns-then-centuries_before-years
unfolding is_leap
returns-then-centuries_before-years c =
    let centuries = c.centuries_before.ensures in
    let hundreds : c.args.years % 100 ≡ 0 = omega (arith, centuries, c.if-centuries_before-years.true) in
    grind (arith, nat_tests, hundreds)

pub returns-else-centuries_before-years : goal.returns-else-centuries_before-years
unfolding is_leap
returns-else-centuries_before-years c =
    let others : c.args.years % 100 ≢ 0 = λ e. c.if-centuries_before-years.false
    (omega (arith, c.centuries_before.ensures, e)) in
    grind (arith, nat_tests, others)
