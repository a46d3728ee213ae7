-- Two years before the year of the instant all switches are over, and two years after it they are yet to come.
use Rattle.tz_rule.proofs.Common.{arith, ◌≡◌, ints, pos, ◌+ℤ◌, to_z-of_z, ◌-ℤ◌, w64, w32, of_z, to_z}
use Rattle.tz_rule.proofs.RuleSegments.{determining_before, determining_after}
use Rattle.tz_rule.proofs.timezone.alternate_time.AlternateData.determining_year.Goals as goal

pub returns-then-unix_time-switch_in-clause-determines : goal.returns-then-unix_time-switch_in-clause-determines
returns-then-unix_time-switch_in-clause-determines c =
    let sound = c.parts_are_sound.ensures in
    let year = to_z-of_z w32 c.args.year c.ranges.year in
    let unix = to_z-of_z w64 c.args.unix_time c.ranges.unix_time in
    let before : to_z w32 (of_z w32 (c.args.year -ℤ pos 1)) ≡ c.args.year -ℤ pos 1 =
    omega (arith, ints, c.requires.1) in
    rw (year, before)
    (determining_before _ sound.rule.in_range sound.days _ _ c.args.year c.requires.0
    (omega (arith, ints, unix, rw year at c.switch_in.ensures.value, c.if-unix_time-switch_in.true)))

pub returns-then-unix_time-switch_in-2-clause-determines : goal.returns-then-unix_time-switch_in-2-clause-determines
returns-then-unix_time-switch_in-2-clause-determines c =
    let year = to_z-of_z w32 c.args.year c.ranges.year in
    let unix = to_z-of_z w64 c.args.unix_time c.ranges.unix_time in
    let after : to_z w32 (of_z w32 (c.args.year +ℤ pos 1)) ≡ c.args.year +ℤ pos 1 = omega (arith, ints, c.requires.1) in
    rw year (
      λ here. absurd (omega (
        arith,
        ints,
        unix,
        rw year at c.switch_in.ensures.value,
        c.if-unix_time-switch_in.false,
        here,
      )),
      omega (arith, ints, unix, rw (year, after) at c.switch_in-2.ensures.value, c.if-unix_time-switch_in-2.true),
    )

pub returns-clause-determines : goal.returns-clause-determines
returns-clause-determines c =
    let sound = c.parts_are_sound.ensures in
    let year = to_z-of_z w32 c.args.year c.ranges.year in
    let unix = to_z-of_z w64 c.args.unix_time c.ranges.unix_time in
    let after : to_z w32 (of_z w32 (c.args.year +ℤ pos 1)) ≡ c.args.year +ℤ pos 1 = omega (arith, ints, c.requires.1) in
    rw (year, after)
    (determining_after _ sound.rule.in_range sound.days _ _ c.args.year c.requires.0
    (omega (arith, ints, unix, rw (year, after) at c.switch_in-2.ensures.value, c.if-unix_time-switch_in-2.false)))
