-- What follows the first instant with a leap time follows the instant before it.
use Rattle.tz_zone.proofs.Common.{◌≡◌, arith, to_z-of_z, ℕ, rules, w64, length, subst, zone_of_data, Zone, IsReachedAt, change_of, IsFollowing, HasNoFollowing}
use Rattle.tz_zone.proofs.EmptyLists.{none_if_empty, some_unless_empty, length_of_some}
use Rattle.tz_zone.proofs.SegmentTypes.{match_none}
use Rattle.tz_zone.proofs.ChangeSpans.{following_later, no_following_later, match_mapped}
use Rattle.tz_zone.proofs.RuleChanges.{without_none, following_from_rule, no_following_from_rule}
use Rattle.tz_zone.proofs.clock.changes.find_following.Goals as goal

pub returns-in_err-change : goal.returns-in_err-change
returns-in_err-change c =
    let u = c.args.unix_time in
    let none = rw (to_z-of_z w64 u c.ranges.unix_time) at c.in_err-change.ensures in
    let empty = none_if_empty c.args.zone.now.transitions.now c.if-is_empty.ensures in
    match_none c.from_residual.result _ _ c.from_residual.ensures
    (subst (λ (z : Zone). HasNoFollowing z u) (without_none (zone_of_data c.args.zone.now) empty) none)

pub returns-then-is_empty : goal.returns-then-is_empty
returns-then-is_empty c =
    let u = c.args.unix_time in
    let change = change_of c.in_ok-change.change in
    let found = rw (to_z-of_z w64 u c.ranges.unix_time) at c.in_ok-change.ensures in
    let empty = none_if_empty c.args.zone.now.transitions.now c.if-is_empty.ensures in
    subst (λ (z : Zone). IsFollowing z u change) (without_none (zone_of_data c.args.zone.now) empty) found

pub returns-in_err-change-2 : goal.returns-in_err-change-2
returns-in_err-change-2 c =
    let list = c.args.zone.now.transitions.now in
    let z = zone_of_data c.args.zone.now in
    let u = c.args.unix_time in
    let since = c.in_ok-since.since in
    let some = length_of_some list (some_unless_empty list c.if-is_empty.ensures) in
    let walked = rw (to_z-of_z w64 u c.ranges.unix_time) at c.in_ok-since.ensures in
    let all : c.in_ok-since.position ≡ length list = omega (arith, c.if-position-transitions.true) in
    let at = subst (λ (k : ℕ). IsReachedAt z since k) all walked.1.1 in
    let none = rw (to_z-of_z w64 since (search rules)) at c.in_err-change-2.ensures in
    match_none c.from_residual-in_err-change-2.result _ _ c.from_residual-in_err-change-2.ensures
    (no_following_later z u since walked.2 (no_following_from_rule z c.args.zone.now.sound some since at none))

pub returns-then-position-transitions : goal.returns-then-position-transitions
returns-then-position-transitions c =
    let list = c.args.zone.now.transitions.now in
    let z = zone_of_data c.args.zone.now in
    let u = c.args.unix_time in
    let since = c.in_ok-since.since in
    let some = length_of_some list (some_unless_empty list c.if-is_empty.ensures) in
    let walked = rw (to_z-of_z w64 u c.ranges.unix_time) at c.in_ok-since.ensures in
    let all : c.in_ok-since.position ≡ length list = omega (arith, c.if-position-transitions.true) in
    let at = subst (λ (k : ℕ). IsReachedAt z since k) all walked.1.1 in
    let change = change_of c.in_ok-change-2.change in
    let found = rw (to_z-of_z w64 since (search rules)) at c.in_ok-change-2.ensures in
    following_later z u since change walked.0 walked.2
    (following_from_rule z c.args.zone.now.sound some since at change found)

pub returns-in-Some : goal.returns-in-Some
returns-in-Some c =
    let u = c.args.unix_time in
    let since = c.in_ok-since.since in
    let walked = rw (to_z-of_z w64 u c.ranges.unix_time) at c.in_ok-since.ensures in
    following_later (zone_of_data c.args.zone.now) u since (change_of c.in-Some.found.0) walked.0 walked.2
    (rw (to_z-of_z w64 since (search rules)) at c.in-Some.ensures)

pub returns : goal.returns
returns c =
    let z = zone_of_data c.args.zone.now in
    let u = c.args.unix_time in
    let since = c.in_ok-since.since in
    let walked = rw (to_z-of_z w64 u c.ranges.unix_time) at c.in_ok-since.ensures in
    match_mapped c.following_from.result _ _ _ _ (rw (to_z-of_z w64 since (search rules)) at c.following_from.ensures)
    (no_following_later z u since walked.2)
    (λ x. following_later z u since (change_of x.0) walked.0 walked.2)
