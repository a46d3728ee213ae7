-- A power of two that is not another one up to it is twice a power of two, which is not less than that one.
use Rattle.tz_zone.proofs.Common.{arith, to_z-of_z, ℕ, w64, ◌+◌, ◌∙◌, subst, IsAmongPositions, pow_mono, list_of}
use Rattle.tz_zone.proofs.AfterLooks.{looks_and_looks, looks_up_to}
use Rattle.tz_zone.proofs.PowerSteps.{half_power}
use Rattle.tz_zone.proofs.clock.binary_search.halved.Goals as goal

pub half-position-requires-clause-some : goal.half-position-requires-clause-some
half-position-requires-clause-some c =
    let (e, f, count_is, least_is, order) = c.requires.powers in
    let (k, n, left_is, within, whole, looks) = c.loop-left.invariant.steps e f count_is least_is order in
    let half = half_power c.loop-left.left c.args.least k f left_is least_is c.loop-left-test.true within in
    omega (arith, half.2, pow_mono {i = 0} {j = half.0} (omega arith))

pub half-position-requires-clause-among : goal.half-position-requires-clause-among
half-position-requires-clause-among c =
    let time_is = to_z-of_z w64 c.args.unix_leap_time c.ranges.unix_leap_time in
    let (e, f, count_is, least_is, order) = c.requires.powers in
    let (k, n, left_is, within, whole, looks) = c.loop-left.invariant.steps e f count_is least_is order in
    let half = half_power c.loop-left.left c.args.least k f left_is least_is c.loop-left-test.true within in
    rw time_is (subst (λ (n : ℕ). IsAmongPositions (list_of c.loop-left.view) c.args.unix_leap_time
    c.loop-left.position n) (omega (arith, half.2, half.3)) (rw time_is at c.loop-left.invariant.among))

pub loop-left-preserved : goal.loop-left-preserved
loop-left-preserved c =
    let time_is = to_z-of_z w64 c.args.unix_leap_time c.ranges.unix_leap_time in
    let inv = c.loop-left.invariant in
    let moved = c.half-position.ensures in
    rw time_is (record {
      same = moved.looks.same ∙ inv.same;
      among = rw time_is at moved.among;
      steps = λ e f count_is least_is order.
          let (k, n, left_is, within, whole, looks) = inv.steps e f count_is least_is order in
          let half = half_power c.loop-left.left c.args.least k f left_is least_is c.loop-left-test.true within in
          (half.0, n + 1, half.2, half.4, omega (arith, whole, half.1), looks_and_looks looks moved.looks);
    })

pub returns-clause-among : goal.returns-clause-among
returns-clause-among c =
    let time_is = to_z-of_z w64 c.args.unix_leap_time c.ranges.unix_leap_time in
    subst (λ (n : ℕ). IsAmongPositions (list_of c.loop-left.view) c.args.unix_leap_time
    c.loop-left.position n) (omega (arith, c.loop-left-test.false)) (rw time_is at c.loop-left.invariant.among)

pub returns-clause-looks : goal.returns-clause-looks
returns-clause-looks c = λ e f count_is least_is order.
    let (k, n, left_is, within, whole, looks) = c.loop-left.invariant.steps e f count_is least_is order in
    looks_up_to looks (omega (arith, within, whole))
