-- Between the last instant with a leap time and the instant there is no change.
use Rattle.tz_zone.proofs.Common.{◌≡◌, arith, to_z-of_z, rules, ints, w64, ℤ, subst, ◌<ℤ◌, pos, zone_of_data, ◌-ℤ◌, Zone, ◌+ℤ◌, SFits, negsuc, change_of, HasNoPreceding, IsPreceding}
use Rattle.std.proofs.Common.{to_z, of_z}
use Rattle.tz_zone.proofs.EmptyLists.{none_if_empty}
use Rattle.tz_zone.proofs.LeapTimes.{instant_bounds}
use Rattle.tz_zone.proofs.SegmentTypes.{match_none}
use Rattle.tz_zone.proofs.ChangeSpans.{preceding_earlier}
use Rattle.tz_zone.proofs.RuleChanges.{without_none}
use Rattle.tz_zone.proofs.clock.changes.find_preceding.Goals as goal

pub returns-in-Some : goal.returns-in-Some
returns-in-Some c =
    let z = zone_of_data c.args.zone.now in
    let u = c.args.unix_time in
    let last = c.in_ok-last.last in
    let fits : SFits w64 last = search rules in
    let walked = rw (to_z-of_z w64 u c.ranges.unix_time) at c.in_ok-last.ensures in
    let next : to_z w64 (of_z w64 (to_z w64 (of_z w64 last) +ℤ pos 1)) ≡ last +ℤ pos 1 =
    omega (arith, ints, walked.0, fits, c.ranges.unix_time) in
    let found = rw next at c.in-Some.ensures in
    preceding_earlier z u (last +ℤ pos 1) (change_of c.in-Some.found.0) (omega (arith, ints, walked.0))
    (λ d above below. walked.2 d (omega (arith, ints, above)) below) found

pub change_at_last-requires : goal.change_at_last-requires
change_at_last-requires c =
    let last = c.in_ok-last.last in
    let fits : SFits w64 last = search rules in
    let walked = rw (to_z-of_z w64 c.args.unix_time c.ranges.unix_time) at c.in_ok-last.ensures in
    let next : to_z w64 (of_z w64 (to_z w64 (of_z w64 last) +ℤ pos 1)) ≡ last +ℤ pos 1 =
    omega (arith, ints, walked.0, fits, c.ranges.unix_time) in
    let back : last +ℤ pos 1 -ℤ pos 1 ≡ last = omega (arith, ints) in
    rw (next, back) walked.1

pub preceding_from-requires-clause-walked : goal.preceding_from-requires-clause-walked
preceding_from-requires-clause-walked c =
    let u = c.args.unix_time in
    rw (to_z-of_z w64 u c.ranges.unix_time, to_z-of_z w64 c.in_ok-last.last (search rules))
    (rw (to_z-of_z w64 u c.ranges.unix_time) at c.in_ok-last.ensures)

one_before : (u : ℤ) → SFits w64 u → negsuc 9223372036854775807 <ℤ u
    → to_z w64 (of_z w64 (to_z w64 (of_z w64 u) -ℤ pos 1)) +ℤ pos 1 ≡ u
one_before u fits low = omega (arith, ints)

pub returns-in_err-change : goal.returns-in_err-change
returns-in_err-change c =
    let u = c.args.unix_time in
    let low : negsuc 9223372036854775807 <ℤ u =
    omega (
      arith,
      ints,
      c.if-unix_time-eqminus9223372036854775808.false,
      to_z-of_z w64 u
          c.ranges.unix_time,
      (instant_bounds u c.ranges.unix_time).0,
    ) in
    let none = rw (one_before u c.ranges.unix_time low) at c.in_err-change.ensures in
    let empty = none_if_empty c.args.zone.now.transitions.now c.if-is_empty.ensures in
    match_none c.from_residual.result _ _ c.from_residual.ensures
    (subst (λ (z : Zone). HasNoPreceding z u) (without_none (zone_of_data c.args.zone.now) empty) none)

pub returns-then-is_empty : goal.returns-then-is_empty
returns-then-is_empty c =
    let u = c.args.unix_time in
    let low : negsuc 9223372036854775807 <ℤ u =
    omega (
      arith,
      ints,
      c.if-unix_time-eqminus9223372036854775808.false,
      to_z-of_z w64 u
          c.ranges.unix_time,
      (instant_bounds u c.ranges.unix_time).0,
    ) in
    let found = rw (one_before u c.ranges.unix_time low) at c.in_ok-change.ensures in
    let empty = none_if_empty c.args.zone.now.transitions.now c.if-is_empty.ensures in
    let change = change_of c.in_ok-change.change in
    subst (λ (z : Zone). IsPreceding z u change) (without_none (zone_of_data c.args.zone.now) empty) found

pub returns : goal.returns
returns c = rw (to_z-of_z w64 c.args.unix_time c.ranges.unix_time) at c.preceding_from.ensures
