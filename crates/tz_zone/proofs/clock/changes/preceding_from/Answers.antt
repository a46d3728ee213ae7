-- By the rule, and then from position to position, to the last change or to the first instant that has a leap time.
use Rattle.tz_zone.proofs.Common.{◌≡◌, arith, to_z-of_z, ℕ, rules, ints, w64, subst, ◌<ℤ◌, pos, zone_of_data, ◌-ℤ◌, ◌+ℤ◌, SFits, negsuc, IsReachedAt, change_of}
use Rattle.tz_zone.proofs.LeapTimes.{instant_bounds}
use Rattle.tz_zone.proofs.SegmentTypes.{match_none}
use Rattle.tz_zone.proofs.ChangeSpans.{none_back, none_joined, none_from_start, is_preceding, preceding_earlier}
use Rattle.tz_zone.proofs.PositionRuns.{effect_up_to, clock_before_start, defined_at_start, position_at_start, clock_at_start, none_since, position_earlier, none_at_front}
use Rattle.tz_zone.proofs.RuleChanges.{none_before_first}
use Rattle.tz_zone.proofs.clock.changes.preceding_from.Goals as goal

pub returns-in-Some : goal.returns-in-Some
returns-in-Some c =
    let z = zone_of_data c.args.zone.now in
    let walked = c.requires.walked in
    let found = rw (to_z-of_z w64 c.args.last c.ranges.last) at c.in-Some.ensures in
    preceding_earlier z c.args.unix_time (c.args.last +ℤ pos 1) (change_of c.in-Some.change)
    (omega (arith, ints, walked.0)) (λ d above below. walked.2 d (omega (arith, ints, above)) below) found

pub loop-position-init : goal.loop-position-init
loop-position-init c =
    let u = c.args.unix_time in
    let last = c.args.last in
    let walked = c.requires.walked in
    let after = rw (to_z-of_z w64 last c.ranges.last) at c.in_default.ensures in
    rw (to_z-of_z w64 u c.ranges.unix_time) (record {
      walked = (last, walked);
      seam = λ all m seam. none_joined (zone_of_data c.args.zone.now) m last u
          (after all m seam) walked.2;
    })

pub run_start-start-requires-clause-at : goal.run_start-start-requires-clause-at
run_start-start-requires-clause-at c =
    let u = c.args.unix_time in
    let (w, walked) = (rw (to_z-of_z w64 u c.ranges.unix_time) at c.loop-position.invariant).walked in
    (w, omega (arith, ints, walked.0, (instant_bounds u c.ranges.unix_time).1), walked.1.1)

pub position_before_effect-requires-clause-not_least : goal.position_before_effect-requires-clause-not_least
position_before_effect-requires-clause-not_least c =
    let (start, m) = c.run_start-start.result in
    let fits = to_z-of_z w64 m (search rules) in
    rw fits (omega (arith, ints, c.if-effect.false, fits, c.run_start-start.ensures.effect.low))

pub position_before_effect-requires-clause-transition : goal.position_before_effect-requires-clause-transition
position_before_effect-requires-clause-transition c =
    let (start, m) = c.run_start-start.result in
    let run = c.run_start-start.ensures in
    rw (to_z-of_z w64 m (search rules)) (run.change, run.change_is, run.effect)

pub returns-then-effect : goal.returns-then-effect
returns-then-effect c =
    let z = zone_of_data c.args.zone.now in
    let u = c.args.unix_time in
    let so_far = rw (to_z-of_z w64 u c.ranges.unix_time) at c.loop-position.invariant in
    let (w, walked) = so_far.walked in
    let (start, m) = c.run_start-start.result in
    none_from_start z m u (omega (arith, ints, c.if-effect.true, to_z-of_z w64 m (search rules)))
    (none_since z c.args.zone.now.sound start _ m c.run_start-start.ensures w walked.1 u walked.2 so_far.seam)

pub returns-in_err-earlier : goal.returns-in_err-earlier
returns-in_err-earlier c =
    let z = zone_of_data c.args.zone.now in
    let u = c.args.unix_time in
    let so_far = rw (to_z-of_z w64 u c.ranges.unix_time) at c.loop-position.invariant in
    let (w, walked) = so_far.walked in
    let (start, m) = c.run_start-start.result in
    let run = c.run_start-start.ensures in
    let refused = rw (to_z-of_z w64 m (search rules)) at c.in_err-earlier.ensures in
    let none = none_since z c.args.zone.now.sound start _ m run w walked.1 u walked.2 so_far.seam in
    match_none c.from_residual.result _ _ c.from_residual.ensures
    (none_before_first z c.args.zone.now.sound.leap_seconds_are c.requires.at_least_one m u none
    (defined_at_start z c.args.zone.now.sound start _ m run w walked.1) refused)

pub type_at-after-requires-clause-before : goal.type_at-after-requires-clause-before
type_at-after-requires-clause-before c = λ inside s type.
    let z = zone_of_data c.args.zone.now in
    let (w, walked) = c.loop-position.invariant.walked in
    let (start, m) = c.run_start-start.result in
    rw (to_z-of_z w64 m (search rules)) (clock_at_start z c.args.zone.now.sound start _ m c.run_start-start.ensures w
    walked.1 inside s type)

pub type_at-after-requires-clause-all : goal.type_at-after-requires-clause-all
type_at-after-requires-clause-all c = λ all.
    let z = zone_of_data c.args.zone.now in
    let (w, walked) = c.loop-position.invariant.walked in
    let (start, m) = c.run_start-start.result in
    rw (to_z-of_z w64 m (search rules)) (position_at_start z c.args.zone.now.sound start _ m c.run_start-start.ensures w
    walked.1 all)

pub returns-in-Some-change_at : goal.returns-in-Some-change_at
returns-in-Some-change_at c =
    let z = zone_of_data c.args.zone.now in
    let u = c.args.unix_time in
    let so_far = rw (to_z-of_z w64 u c.ranges.unix_time) at c.loop-position.invariant in
    let (w, walked) = so_far.walked in
    let (start, m) = c.run_start-start.result in
    let run = c.run_start-start.ensures in
    let fits : SFits w64 m = search rules in
    let low : negsuc 9223372036854775807 <ℤ m =
    omega (arith, ints, c.if-effect.false, to_z-of_z w64 m fits, run.effect.low) in
    let position = rw (to_z-of_z w64 m fits) at c.in_ok-earlier.ensures in
    let before = clock_before_start z c.args.zone.now.sound start _ m run _ position c.type_before-before.result.now
    (c.type_before-before.ensures.value) in
    let found = (rw (to_z-of_z w64 m fits) at c.in-Some-change_at.ensures.change) z low before
    (rw (to_z-of_z w64 m fits) at c.type_at-after.ensures) in
    is_preceding z u m (change_of c.in-Some-change_at.change)
    (omega (arith, ints, effect_up_to z c.args.zone.now.sound start _ m run w walked.1, walked.0))
    (none_since z c.args.zone.now.sound start _ m run w walked.1 u walked.2 so_far.seam) found.0 found.1

pub loop-position-smaller : goal.loop-position-smaller
loop-position-smaller c =
    let z = zone_of_data c.args.zone.now in
    let (start, m) = c.run_start-start.result in
    let run = c.run_start-start.ensures in
    let fits : SFits w64 m = search rules in
    let earlier = rw (to_z-of_z w64 m fits) at c.in_ok-earlier.ensures in
    omega (arith, run.up_to, position_earlier z c.args.zone.now.sound start _ m run _ earlier)

pub loop-position-preserved : goal.loop-position-preserved
loop-position-preserved c =
    let z = zone_of_data c.args.zone.now in
    let u = c.args.unix_time in
    let so_far = rw (to_z-of_z w64 u c.ranges.unix_time) at c.loop-position.invariant in
    let (w, walked) = so_far.walked in
    let (start, m) = c.run_start-start.result in
    let run = c.run_start-start.ensures in
    let fits : SFits w64 m = search rules in
    let low : negsuc 9223372036854775807 <ℤ m =
    omega (arith, ints, c.if-effect.false, to_z-of_z w64 m fits, run.effect.low) in
    let position = rw (to_z-of_z w64 m fits) at c.in_ok-earlier.ensures in
    let before = clock_before_start z c.args.zone.now.sound start _ m run _ position c.type_before-before.result.now
    (c.type_before-before.ensures.value) in
    let none_at_m = (rw (to_z-of_z w64 m fits) at c.in_default-change_at.ensures.change) z low before
    (rw (to_z-of_z w64 m fits) at c.type_at-after.ensures) in
    let none = none_since z c.args.zone.now.sound start _ m run w walked.1 u walked.2 so_far.seam in
    rw (to_z-of_z w64 u c.ranges.unix_time) (record {
      walked = (
        m -ℤ pos 1,
        (
          omega (
            arith,
            ints,
            effect_up_to z c.args.zone.now.sound start _ m run w walked.1,
            walked.0,
          ),
          position,
          none_back z u
              m none none_at_m,
        ),
      );
      seam = λ all. absurd (omega (
        arith,
        all,
        position_earlier z c.args.zone.now.sound start _ m run _ position,
        run.up_to,
        walked.1.0,
      ));
    })

pub returns : goal.returns
returns c =
    let list = c.args.zone.now.transitions.now in
    let z = zone_of_data c.args.zone.now in
    let u = c.args.unix_time in
    let so_far = rw (to_z-of_z w64 u c.ranges.unix_time) at c.loop-position.invariant in
    let (w, walked) = so_far.walked in
    let front : c.loop-position.position ≡ 0 = omega (arith, c.loop-position-test.false) in
    let at_front = subst (λ (j : ℕ). IsReachedAt z w j) front walked.1.1 in
    none_at_front z c.args.zone.now.sound c.requires.at_least_one w u at_front walked.2
