-- Without leap seconds it is the second before.
use Rattle.tz_zone.proofs.Common.{◌≡◌, arith, to_z-of_z, rules, ints, w64, ℤ, ◌≤ℤ◌, ◌<ℤ◌, pos, ◌-ℤ◌, [], SFits, negsuc}
use Rattle.tz_zone.proofs.EmptyLists.{none_if_empty}
use Rattle.tz_zone.proofs.LeapTimes.{IsInstant-from_bounds, instant_bounds}
use Rattle.tz_zone.proofs.LeapReached.{not_least, plain_last_before}
use Rattle.tz_zone.proofs.leap.leap_time.last_before.Goals as goal

before_fits : (v u : ℤ) → SFits w64 v → negsuc 9223372036854775807 ≤ℤ u → u <ℤ v → SFits w64 (v -ℤ pos 1)
before_fits v u fits low ahead = IsInstant-from_bounds (v -ℤ pos 1) (omega (arith, ints, low, ahead))
    (omega (arith, ints, instant_bounds v fits))

pub overflow_sub-result : goal.overflow_sub-result
overflow_sub-result c =
    let leaps = c.args.leap_seconds.now in
    let v = c.args.unix_leap_time in
    let none : leaps ≡ [] = none_if_empty leaps c.if-is_empty.ensures in
    rw (to_z-of_z w64 v c.ranges.unix_leap_time)
    (before_fits v c.requires.before.0 c.ranges.unix_leap_time c.requires.before.1
    (not_least leaps none c.requires.before.0 v c.requires.before.3))

pub returns-then-is_empty : goal.returns-then-is_empty
returns-then-is_empty c =
    let leaps = c.args.leap_seconds.now in
    let v = c.args.unix_leap_time in
    let none : leaps ≡ [] = none_if_empty leaps c.if-is_empty.ensures in
    let fits = before_fits v c.requires.before.0 c.ranges.unix_leap_time c.requires.before.1
    (not_least leaps none c.requires.before.0 v c.requires.before.3) in
    rw (to_z-of_z w64 v c.ranges.unix_leap_time, to_z-of_z w64 (v -ℤ pos 1) fits)
    (plain_last_before leaps none v (instant_bounds v c.ranges.unix_leap_time).0)

pub returns : goal.returns
returns c = rw (to_z-of_z w64 c.last_before_by_seconds.result (search rules))
    (rw (to_z-of_z w64 c.args.unix_leap_time c.ranges.unix_leap_time) at c.last_before_by_seconds.ensures)
