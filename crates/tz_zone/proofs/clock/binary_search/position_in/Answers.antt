-- The leap time lies at the position.
use Rattle.tz_zone.proofs.Common.{arith, to_z-of_z, rules, w64, refl, length, ◌<◌, zone_of_data, ◌-◌, slice_get_read}
use Rattle.tz_zone.proofs.Positions.{found_at}
use Rattle.tz_zone.proofs.RisingTimes.{rising}
use Rattle.tz_zone.proofs.SegmentTypes.{match_none}
use Rattle.tz_zone.proofs.clock.binary_search.position_in.Goals as goal

pub returns-in_err-unix_leap_time : goal.returns-in_err-unix_leap_time
returns-in_err-unix_leap_time c =
    let refused = rw (to_z-of_z w64 c.args.unix_time c.ranges.unix_time) at c.in_err-unix_leap_time.ensures in
    match_none c.from_residual.result _ _ c.from_residual.ensures refused

pub position_of-requires-clause-rising : goal.position_of-requires-clause-rising
position_of-requires-clause-rising c =
    rw c.new.ensures.list (rising (zone_of_data c.args.zone.now) c.args.zone.now.sound)

pub position_of-requires-clause-last : goal.position_of-requires-clause-last
position_of-requires-clause-last c =
    let list = c.args.zone.now.transitions.now in
    let last = c.index-transitions-transitions.result in
    let inside : length list - 1 < length list = omega (arith, c.requires) in
    rw c.new.ensures.list (slice_get_read list _ (length list - 1) last refl inside c.index-transitions-transitions.is)

pub returns : goal.returns
returns c =
    let same = c.new.ensures.list in
    let found = c.position_of.ensures in (
      rw same at found.within,
      found_at (zone_of_data c.args.zone.now) c.args.unix_time c.in_ok-unix_leap_time.unix_leap_time
          c.position_of.result c.ranges.unix_time (search rules) same c.in_ok-unix_leap_time.ensures found.at,
    )
