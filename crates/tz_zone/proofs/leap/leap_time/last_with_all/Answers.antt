-- Each leap second leaves the instants up to the last one so far, or fewer.
use Rattle.tz_zone.proofs.Common.{arith, to_z-of_z, ℕ, rules, ints, w64, inr, inl, subst, by_lt_z, slice_get_within, to_z, cases_lt, IsReached}
use Rattle.tz_zone.proofs.leap.leap_time.last_with_all.Goals as goal

pub loop-index-preserved : goal.loop-index-preserved
loop-index-preserved c =
    let inv = c.loop-index.invariant in
    let k = c.loop-index.index in
    let next = c.last_with-last.ensures in
    rw (to_z-of_z w64 c.last_with-last.result (search rules)) (record {
      up_to = omega (arith, ints, next.up_to, inv.up_to);
      within = λ i x u less up_to r. elim (cases_lt i k) [
        | inl before ↦ inv.within i x u before (omega (arith, ints, up_to, next.up_to)) r
        | inr here ↦
            next.within x u up_to (subst (λ (j : ℕ). IsReached c.args.leap_seconds.now j x u)
            (omega (arith, less, here)) r)
      ];
      past = λ u after up_to. by_lt_z (to_z w64 c.loop-index.last-bits) u
          (λ h. inv.past u h up_to)
          (λ h. let out = next.past u after h in (k, out.0, out.1, out.2));
    })

pub returns-clause-within : goal.returns-clause-within
returns-clause-within c =
    λ u up_to past.
    past.3 (c.loop-index.invariant.within past.0 past.1 u
    (omega (arith, slice_get_within c.args.leap_seconds.now past.0 past.1 past.2.0, c.loop-index-test.false)) up_to
    past.2)
