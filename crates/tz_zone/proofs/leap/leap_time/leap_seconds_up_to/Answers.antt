-- Times rise, so the index at which the halving ends is the count.
use Rattle.tz_zone.proofs.Common.{rules, arith, to_z-of_z, LeapSecond}
use Rattle.tz_zone.proofs.RisingTimes.{up_to_before_point, later_from_point, leap_seconds_rise}
use Rattle.tz_zone.proofs.leap.leap_time.leap_seconds_up_to.Goals as goal

pub returns : goal.returns
returns c =
    let inv = c.loop-low.invariant in
    record {
      within = search rules;
      up_to = up_to_before_point (λ (l : LeapSecond). l.unix_leap_time) c.args.leap_seconds.now
          (leap_seconds_rise c.args.leap_seconds.now c.requires) c.args.unix_leap_time c.loop-low.low
          (omega (arith, inv.order, inv.within)) (simp (to_z-of_z, c.ranges.unix_leap_time) at inv.before);
      later = λ i l from at. later_from_point (λ (l : LeapSecond). l.unix_leap_time) c.args.leap_seconds.now
          (leap_seconds_rise c.args.leap_seconds.now c.requires) c.args.unix_leap_time c.loop-low.high inv.within
          (simp (to_z-of_z, c.ranges.unix_leap_time) at inv.after) i l
          (omega (arith, inv.order, from, c.loop-low-test.false)) at;
    }
