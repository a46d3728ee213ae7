-- From the seam on the changes are those of the rule.
use Rattle.tz_zone.proofs.Common.{◌≡◌, arith, to_z-of_z, ℕ, rules, ints, w64, refl, length, subst, ◌<◌, Some, pos, zone_of_data, ◌-◌, ◌+ℤ◌, slice_get, slice_get_read, IsReachedAt, change_of, IsSeam}
use Rattle.tz_zone.proofs.LeapTimes.{instant_bounds}
use Rattle.tz_zone.proofs.RuleChanges.{at_seam, seam_up_to, preceding_from_rule, none_from_rule, none_after_found}
use Rattle.tz_zone.proofs.SegmentTypes.{match_none}
use Rattle.tz_zone.proofs.clock.changes.preceding_after_table.Goals.{After-effect_of_reached-seam}
use Rattle.tz_zone.proofs.clock.changes.preceding_after_table.Goals as goal

pub returns-in_err-change : goal.returns-in_err-change
returns-in_err-change c =
    let list = c.args.zone.now.transitions.now in
    let z = zone_of_data c.args.zone.now in
    let w = c.args.last in
    let some = c.requires.at_least_one in
    let all : c.args.position ≡ length list = omega (arith, c.if-position-transitions.false, c.requires.at.0) in
    let at = subst (λ (k : ℕ). IsReachedAt z w k) all c.requires.at.1 in
    let none = rw (to_z-of_z w64 w c.ranges.last) at c.in_err-change.ensures in
    match_none c.from_residual.result _ _ c.from_residual.ensures (λ all m seam.
    none_from_rule z c.args.zone.now.sound some m (at_seam z c.args.zone.now.sound w m some at seam) (w +ℤ pos 1) none)

pub effect_of_reached-seam-requires-clause-reached : goal.effect_of_reached-seam-requires-clause-reached
effect_of_reached-seam-requires-clause-reached c =
    let list = c.args.zone.now.transitions.now in
    let k = c.args.position in
    let w = c.args.last in
    let at = c.requires.at.1 in
    let inside : c.args.position - 1 < length list =
    omega (arith, c.if-position-transitions.false, c.requires.at_least_one, c.requires.at.0) in
    let first : k - 1 < k = omega (arith, c.if-position-transitions.false, c.requires.at_least_one) in
    let last = c.index-transitions-position.result in
    let at_last = slice_get_read list _ (k - 1) last refl inside c.index-transitions-position.is in
    rw (to_z-of_z w64 c.unix_leap_time.result (search rules), c.unix_leap_time.ensures)
    (w, (instant_bounds w c.ranges.last).1, (at.time, at.time_is, at.reached (k - 1) last first at_last))

is_seam : (c : After-effect_of_reached-seam)
    → IsSeam (zone_of_data c.args.zone.now) c.effect_of_reached-seam.result
is_seam c =
    let list = c.args.zone.now.transitions.now in
    let last = c.index-transitions-position.result in
    let inside : c.args.position - 1 < length list =
    omega (arith, c.if-position-transitions.false, c.requires.at_least_one, c.requires.at.0) in
    let at_last = slice_get_read list _ (c.args.position - 1) last refl inside c.index-transitions-position.is in
    let all : c.args.position - 1 ≡ length list - 1 = omega (arith, c.if-position-transitions.false, c.requires.at.0) in
    let time = to_z-of_z w64 c.unix_leap_time.result (search rules) in
    let wide = rw (time, c.unix_leap_time.ensures) at c.effect_of_reached-seam.ensures in
    (last, subst (λ (i : ℕ). slice_get list i ≡ Some last) all at_last, wide)

pub returns-then-unix_time-seam : goal.returns-then-unix_time-seam
returns-then-unix_time-seam c = λ all m seam.
    let list = c.args.zone.now.transitions.now in
    let z = zone_of_data c.args.zone.now in
    let w = c.args.last in
    let n = c.effect_of_reached-seam.result in
    let some = c.requires.at_least_one in
    let found = rw (to_z-of_z w64 w c.ranges.last) at c.in_ok-change.ensures in
    let at_end = subst (λ (k : ℕ). IsReachedAt z w k) all c.requires.at.1 in
    let at = at_seam z c.args.zone.now.sound w m some at_end seam in
    let order = seam_up_to z n m some (is_seam
    (goal.at.returns-then-unix_time-seam c).After-effect_of_reached-seam) at in
    let seam_time = to_z-of_z w64 n (search rules) in
    let change_time = to_z-of_z w64 c.unix_time.result (search rules) in
    none_after_found z c.args.zone.now.sound some m at (w +ℤ pos 1) (change_of c.in_ok-change.change)
    (omega (arith, ints, order, c.if-unix_time-seam.true, c.unix_time.ensures, seam_time, change_time)) found

pub returns : goal.returns
returns c =
    let list = c.args.zone.now.transitions.now in
    let z = zone_of_data c.args.zone.now in
    let w = c.args.last in
    let m = c.effect_of_reached-seam.result in
    let some = c.requires.at_least_one in
    let found = rw (to_z-of_z w64 w c.ranges.last) at c.in_ok-change.ensures in
    let all : c.args.position ≡ length list = omega (arith, c.if-position-transitions.false, c.requires.at.0) in
    let at_end = subst (λ (k : ℕ). IsReachedAt z w k) all c.requires.at.1 in
    let at = at_seam z c.args.zone.now.sound w m some at_end
    (is_seam (goal.at.returns c).After-effect_of_reached-seam) in
    let seam_time = to_z-of_z w64 m (search rules) in
    let change_time = to_z-of_z w64 c.unix_time.result (search rules) in
    preceding_from_rule z c.args.zone.now.sound some m at (w +ℤ pos 1) (change_of c.in_ok-change.change)
    (omega (arith, ints, c.if-unix_time-seam.false, c.unix_time.ensures, seam_time, change_time)) found
