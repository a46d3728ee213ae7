-- Between two transitions from the start of the one up to the last instant before the other.
use Rattle.tz_zone.proofs.Common.{◌≡◌, arith, to_z-of_z, rules, ints, w64, length, Some, zone_of_data, SFits, slice_get, slice_get_within}
use Rattle.tz_zone.proofs.LeapTimes.{instant_bounds}
use Rattle.tz_zone.proofs.LeapReached.{up_to_last_before}
use Rattle.tz_zone.proofs.Positions.{clock_at_position, names_type, not_reached, type_of_before}
use Rattle.tz_zone.proofs.PositionRuns.{types_from_last}
use Rattle.tz_zone.proofs.SegmentEnds.{before_reached, all_reached, ends_between, ends_after_all}
use Rattle.tz_zone.proofs.SegmentPositions.{start_up_to, lies_since}
use Rattle.tz_zone.proofs.clock.segment.segment_at_position.Goals as goal

pub returns-then-position-len : goal.returns-then-position-len
returns-then-position-len c =
    let zone = c.args.zone.now in
    let z = zone_of_data zone in
    let u = c.args.unix_time in
    let k = c.args.position in
    let at = c.requires.at in
    let before = c.before-before.result in
    let is = rw c.requires.view at c.before-before.ensures.before in
    let s = c.segment_from_last.result in
    let from_last = c.segment_from_last.ensures in
    let some = rw c.requires.view at c.requires.at_least_one in
    let count = rw (c.before-before.ensures.looks.same, c.requires.view) at c.len.ensures in
    let all : k ≡ length z.transitions = omega (arith, c.if-position-len.true, count) in
    let within = rw (to_z-of_z w64 u c.ranges.unix_time) at from_last.within in
    record {
      at = record {
        within = within;
        holds = λ v low high.
            let since = from_last.reached v low high in
            let reached = all_reached z zone.sound u k c.ranges.unix_time at before is all v since in
            types_from_last z zone.sound some v reached s.local_time_type (from_last.holds v low high);
      };
      ends = ends_after_all z zone.sound u k c.ranges.unix_time at before is all s.from s.last
          (omega (arith, ints, within.0, within.1)) from_last.reached from_last.from from_last.last;
      looks = search rules;
    }

pub effect_of_reached-requires-clause-reached : goal.effect_of_reached-requires-clause-reached
effect_of_reached-requires-clause-reached c =
    let zone = c.args.zone.now in
    let u = c.args.unix_time in
    let at = c.requires.at in
    let is = rw c.requires.view at c.before-before.ensures.before in
    rw (to_z-of_z w64 c.unix_leap_time.result (search rules), c.unix_leap_time.ensures) (
      u,
      (instant_bounds u c.ranges.unix_time).1,
      (
        at.time,
        at.time_is,
        before_reached (zone_of_data zone) zone.sound u c.args.position c.ranges.unix_time at c.before-before.result is,
      ),
    )

pub last_before-requires-clause-before : goal.last_before-requires-clause-before
last_before-requires-clause-before c =
    let zone = c.args.zone.now in
    let z = zone_of_data zone in
    let u = c.args.unix_time in
    let k = c.args.position in
    let next = c.look-next.result in
    let at_next = rw (c.before-before.ensures.looks.same, c.requires.view) at c.look-next.ensures.value in
    rw (to_z-of_z w64 c.unix_leap_time-2.result (search rules), c.unix_leap_time-2.ensures) (
      u,
      (instant_bounds u c.ranges.unix_time).0,
      c.requires.at.time_is.not_refused,
      not_reached z zone.sound u k k next c.requires.at (omega arith) at_next,
    )

pub type_of-requires : goal.type_of-requires
type_of-requires c =
    let zone = c.args.zone.now in
    names_type (zone_of_data zone) zone.sound c.args.position c.before-before.result
    (rw c.requires.view at c.before-before.ensures.before)

pub returns : goal.returns
returns c =
    let zone = c.args.zone.now in
    let z = zone_of_data zone in
    let u = c.args.unix_time in
    let k = c.args.position in
    let at = c.requires.at in
    let before = c.before-before.result in
    let is = rw c.requires.view at c.before-before.ensures.before in
    let next = c.look-next.result in
    let at_next : slice_get z.transitions k ≡ Some next =
    rw (c.before-before.ensures.looks.same, c.requires.view) at c.look-next.ensures.value in
    let last : SFits w64 c.last_before.result = search rules in
    let time = c.unix_leap_time.ensures in
    let wide = rw (to_z-of_z w64 c.unix_leap_time.result (search rules), time) at c.effect_of_reached.ensures in
    let next_time = c.unix_leap_time-2.ensures in
    let end = rw (to_z-of_z w64 c.unix_leap_time-2.result (search rules), next_time) at c.last_before.ensures in
    rw (to_z-of_z w64 c.effect_of_reached.result (search rules), to_z-of_z w64 c.last_before.result last) (record {
      at = record {
        within = (
          start_up_to z zone.sound u k c.ranges.unix_time at before is c.effect_of_reached.result wide,
          up_to_last_before z.leap_seconds zone.sound.leap_seconds_are next.unix_leap_time c.last_before.result u end
              (instant_bounds u c.ranges.unix_time).1 at.time_is.not_refused
              (not_reached z zone.sound u k k next at (omega arith) at_next),
        );
        holds = λ v low high.
            clock_at_position z zone.sound k v c.type_of.result.now (slice_get_within z.transitions k next at_next)
            (lies_since z zone.sound u k c.ranges.unix_time at before is c.effect_of_reached.result wide next at_next
            c.last_before.result v end.within end.before low high)
            (type_of_before z zone.sound k before c.type_of.result.now is c.type_of.ensures);
      };
      ends = ends_between z zone.sound u k c.ranges.unix_time at before is next at_next c.effect_of_reached.result
          c.last_before.result (instant_bounds c.last_before.result last).1 wide end.next;
      looks = search rules;
    })
