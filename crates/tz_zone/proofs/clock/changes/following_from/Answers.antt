-- From position to position, to the first change or to the last transition, and then by the rule.
use Rattle.tz_zone.proofs.Common.{arith, to_z-of_z, ℕ, rules, ints, w64, refl, length, ℤ, subst, ◌<ℤ◌, pos, zone_of_data, ◌-ℤ◌, ◌≤◌, Zone, SFits, negsuc, slice_get_read, to_z, IsReachedAt, IsClock, change_of, HasNoChange, LiesAt}
use Rattle.tz_zone.proofs.LeapTimes.{instant_bounds}
use Rattle.tz_zone.proofs.Positions.{clock_at_position}
use Rattle.tz_zone.proofs.SegmentTypes.{match_none}
use Rattle.tz_zone.proofs.ChangeSpans.{none_up, none_at, none_to_end, is_following, following_later, no_following_later}
use Rattle.tz_zone.proofs.PositionRuns.{one_type_until, until_effect}
use Rattle.tz_zone.proofs.RuleChanges.{following_from_rule, no_following_from_rule}
use Rattle.tz_zone.proofs.clock.changes.following_from.Goals.{After-type_at-after}
use Rattle.tz_zone.proofs.clock.changes.following_from.Goals as goal

at_end : (z : Zone) (k : ℕ) (v : ℤ) → LiesAt z v k → length z.transitions ≤ k → IsReachedAt z v (length z.transitions)
at_end z k v lies end = subst (λ (j : ℕ). IsReachedAt z v j) (omega (arith, end, lies.0)) lies.1

pub returns-in_err-effect : goal.returns-in_err-effect
returns-in_err-effect c =
    let list = c.args.zone.now.transitions.now in
    let z = zone_of_data c.args.zone.now in
    let u = c.args.unix_time in
    let k = c.loop-position.position in
    let since = to_z w64 c.loop-position.since-bits in
    let walked = rw (to_z-of_z w64 u c.ranges.unix_time) at c.loop-position.invariant in
    let at = walked.1.1 in
    let end = c.end_of_run-end.result in
    let change = c.index-transitions-end.result in
    let run = c.end_of_run-end.ensures in
    let at_end = slice_get_read list _ end change refl run.within.1 c.index-transitions-end.is in
    let ahead = rw (
      to_z-of_z w64 c.unix_leap_time.result (search rules),
      c.unix_leap_time.ensures,
    ) at c.in_err-effect.ensures in
    let one = one_type_until z c.args.zone.now.sound k end since c.type_before-before.result.now change at run.within.0
    at_end run.types (pos 9223372036854775807) ahead in
    match_none c.from_residual.result _ _ c.from_residual.ensures
    (none_to_end z u (pos 9223372036854775807) refl (none_up z u since (pos 9223372036854775807) walked.2 one))

pub position_at_effect-next-requires-clause-transition : goal.position_at_effect-next-requires-clause-transition
position_at_effect-next-requires-clause-transition c =
    let change = c.index-transitions-end.result in
    let at_end = slice_get_read c.args.zone.now.transitions.now _ c.end_of_run-end.result change refl
    c.end_of_run-end.ensures.within.1 c.index-transitions-end.is in
    let takes = rw (
      to_z-of_z w64 c.unix_leap_time.result (search rules),
      c.unix_leap_time.ensures,
    ) at c.in_ok-effect.ensures in
    rw (to_z-of_z w64 c.in_ok-effect.effect (search rules)) (change, at_end, takes.0)

pub position_at_effect-next-requires-clause-defined : goal.position_at_effect-next-requires-clause-defined
position_at_effect-next-requires-clause-defined c =
    rw (to_z-of_z w64 c.in_ok-effect.effect (search rules)) c.in_ok-effect.ensures.1

pub type_at-after-requires-clause-before : goal.type_at-after-requires-clause-before
type_at-after-requires-clause-before c = λ inside s type.
    clock_at_position (zone_of_data c.args.zone.now) c.args.zone.now.sound c.position_at_effect-next.result _ s inside
    c.position_at_effect-next.ensures.at.1 type

-- up to the effect of the run's last transition no change comes, and right before it the clock has the type of the run
until : (c : After-type_at-after) → (c.args.unix_time <ℤ c.in_ok-effect.effect)
    × (negsuc 9223372036854775807 <ℤ c.in_ok-effect.effect)
    × HasNoChange (zone_of_data c.args.zone.now) c.args.unix_time c.in_ok-effect.effect
    × IsClock (zone_of_data c.args.zone.now) (c.in_ok-effect.effect -ℤ pos 1) c.type_before-before.result.now
until c =
    let list = c.args.zone.now.transitions.now in
    let u = c.args.unix_time in
    let k = c.loop-position.position in
    let walked = rw (to_z-of_z w64 u c.ranges.unix_time) at c.loop-position.invariant in
    let at = walked.1.1 in
    let end = c.end_of_run-end.result in
    let change = c.index-transitions-end.result in
    let run = c.end_of_run-end.ensures in
    let at_end = slice_get_read list _ end change refl run.within.1 c.index-transitions-end.is in
    let takes = rw (
      to_z-of_z w64 c.unix_leap_time.result (search rules),
      c.unix_leap_time.ensures,
    ) at c.in_ok-effect.ensures in
    until_effect (zone_of_data c.args.zone.now) c.args.zone.now.sound k end _ c.type_before-before.result.now
    change at run.within.0 at_end run.types c.in_ok-effect.effect takes.0 takes.1
    u (instant_bounds u c.ranges.unix_time).0 walked.0 walked.2

pub returns-in-Some : goal.returns-in-Some
returns-in-Some c =
    let z = zone_of_data c.args.zone.now in
    let m = c.in_ok-effect.effect in
    let (later, low, none, before) = until (goal.at.returns-in-Some c).After-type_at-after in
    let found = (rw (to_z-of_z w64 m (search rules)) at c.in-Some.ensures.change) z low before
    (rw (to_z-of_z w64 m (search rules)) at c.type_at-after.ensures) in
    is_following z c.args.unix_time m (change_of c.in-Some.change) later none found.0 found.1

pub loop-position-preserved : goal.loop-position-preserved
loop-position-preserved c =
    let z = zone_of_data c.args.zone.now in
    let u = c.args.unix_time in
    let m = c.in_ok-effect.effect in
    let fits : SFits w64 m = search rules in
    let (later, low, none, before) = until (goal.at.loop-position-preserved c).After-type_at-after in
    let none_at_m = (rw (to_z-of_z w64 m fits) at c.in_default.ensures.change) z low before
    (rw (to_z-of_z w64 m fits) at c.type_at-after.ensures) in
    let next_at = rw (to_z-of_z w64 m fits) at c.position_at_effect-next.ensures.at in
    rw (to_z-of_z w64 u c.ranges.unix_time, to_z-of_z w64 m fits)
    (omega (arith, ints, later), next_at, none_at z u m none none_at_m)

pub returns-in_err-change : goal.returns-in_err-change
returns-in_err-change c =
    let list = c.args.zone.now.transitions.now in
    let z = zone_of_data c.args.zone.now in
    let u = c.args.unix_time in
    let since = to_z w64 c.loop-position.since-bits in
    let walked = rw (to_z-of_z w64 u c.ranges.unix_time) at c.loop-position.invariant in
    match_none c.from_residual-in_err-change.result _ _ c.from_residual-in_err-change.ensures
    (no_following_later z u since walked.2 (no_following_from_rule z c.args.zone.now.sound c.requires.at_least_one since
    (at_end z c.loop-position.position since walked.1 c.loop-position-test.false) c.in_err-change.ensures))

pub returns : goal.returns
returns c =
    let list = c.args.zone.now.transitions.now in
    let z = zone_of_data c.args.zone.now in
    let u = c.args.unix_time in
    let since = to_z w64 c.loop-position.since-bits in
    let walked = rw (to_z-of_z w64 u c.ranges.unix_time) at c.loop-position.invariant in
    let at = at_end z c.loop-position.position since walked.1 c.loop-position-test.false in
    let change = change_of c.in_ok-change.change in
    following_later z u since change walked.0 walked.2
    (following_from_rule z c.args.zone.now.sound c.requires.at_least_one since at change c.in_ok-change.ensures)
