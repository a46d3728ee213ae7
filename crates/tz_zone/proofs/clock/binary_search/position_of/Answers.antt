-- If the last transition is reached, all are.
use Rattle.tz_zone.proofs.Common.{arith, to_z-of_z, ℕ, rules, ints, w64, length, subst, ◌≤ℤ◌, ◌<ℤ◌, ◌-◌, slice_get_within, AreReached, list_of}
use Rattle.tz_zone.proofs.RisingTimes.{ahead_from, reached_through}
use Rattle.tz_zone.proofs.clock.binary_search.position_of.Goals as goal

pub position_before-requires-clause-ahead : goal.position_before-requires-clause-ahead
position_before-requires-clause-ahead c =
    let list = list_of c.args.view.now in
    let l = c.args.unix_leap_time in
    let last = c.args.last in
    let time_is = to_z-of_z w64 l c.ranges.unix_leap_time in
    let read_is = to_z-of_z w64 c.unix_leap_time.result (search rules) in
    let ahead : l <ℤ last.unix_leap_time =
    omega (arith, ints, c.if-unix_leap_time.false, c.unix_leap_time.ensures, read_is, time_is) in
    rw time_is (ahead_from list c.requires.rising l (length list - 1) last c.requires.last ahead)

pub returns-then-unix_leap_time-clause-at : goal.returns-then-unix_leap_time-clause-at
returns-then-unix_leap_time-clause-at c =
    let list = list_of c.args.view.now in
    let l = c.args.unix_leap_time in
    let last = c.args.last in
    let time_is = to_z-of_z w64 l c.ranges.unix_leap_time in
    let read_is = to_z-of_z w64 c.unix_leap_time.result (search rules) in
    let reached : last.unix_leap_time ≤ℤ l =
    omega (arith, ints, c.if-unix_leap_time.true, c.unix_leap_time.ensures, read_is, time_is) in
    let all : AreReached list l (length list) =
    subst (λ (k : ℕ). AreReached list l k) (omega (arith, c.requires.at_least_one))
    (reached_through list c.requires.rising l (length list - 1) last c.requires.last reached) in
    rw c.len.ensures (all, λ i change above at_i. absurd (omega (arith, above, slice_get_within list i change at_i)))

pub returns-clause-at : goal.returns-clause-at
returns-clause-at c =
    rw (to_z-of_z w64 c.args.unix_leap_time c.ranges.unix_leap_time) at c.position_before.ensures.at
