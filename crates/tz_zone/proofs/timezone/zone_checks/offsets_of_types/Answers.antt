-- One more type.
use Rattle.tz_zone.proofs.Common.{◌≡◌, arith, to_z-of_z, ℕ, rules, ints, refl, sym, inr, inl, ℤ, ◌∙◌, ap, List, Some, LocalTimeType, slice_get, slice_get_within, slice_get_read, same_Some, ◌⊎◌, w32, cases_lt, IsOffsetOfTypes}
use Rattle.tz_zone.proofs.timezone.zone_checks.offsets_of_types.Goals as goal

-- an end is that of the types so far, or that of one more
of_more : (types : List LocalTimeType) (end offset new : ℤ) (k : ℕ) (item : LocalTimeType)
    → slice_get types k ≡ Some item → offset ≡ item.ut_offset → IsOffsetOfTypes types end → (new ≡ end) ⊎ (new ≡ offset)
    → IsOffsetOfTypes types new
of_more types end offset new k item at is so_far (inl e) = (so_far.0, so_far.1, so_far.2, e ∙ so_far.3)
of_more types end offset new k item at is so_far (inr e) = (k, item, at, e ∙ is)

pub loop-index-preserved : goal.loop-index-preserved
loop-index-preserved c =
    let so_far = c.loop-index.invariant in
    let types = c.args.local_time_types.now in
    let k = c.loop-index.index in
    let item = c.index-local_time_types-index.result in
    let at : slice_get types k ≡ Some item =
    slice_get_read types _ k item refl c.loop-index-test.true c.index-local_time_types-index.is in
    let offset = c.ut_offset.result in
    let is = c.ut_offset.ensures.value in
    let ends = rw (to_z-of_z w32 offset (search rules)) at c.with_offset-ends.ensures in
    rw (
      to_z-of_z w32 c.with_offset-ends.result.0 (search rules),
      to_z-of_z w32 c.with_offset-ends.result.1
          (search rules),
    ) (record {
      of_types = (
        of_more types _ offset _ k item at is so_far.of_types.0 ends.exact.0,
        of_more types _ offset _ k item at is
            so_far.of_types.1 ends.exact.1,
      );
      between = λ i t until at_i. elim (cases_lt i k) [
        | inl before ↦ (
          omega (arith, ints, (so_far.between i t before at_i).0, ends.least),
          omega (
            arith,
            ints,
            (so_far.between i t before at_i).1,
            ends.greatest,
          ),
        )
        | inr not_before ↦
            let same = ap (λ (x : LocalTimeType). x.ut_offset)
            (same_Some item t (sym at ∙ ap (slice_get types) (sym (omega (arith, until, not_before))) ∙ at_i)) in
            (omega (arith, ints, same, is, ends.between.0), omega (arith, ints, same, is, ends.between.1))
      ];
    })

pub returns-clause-between : goal.returns-clause-between
returns-clause-between c = λ o of_type.
    let inside = slice_get_within c.args.local_time_types.now of_type.0 of_type.1 of_type.2 in
    let between = c.loop-index.invariant.between of_type.0 of_type.1 (omega (arith, inside, c.loop-index-test.false))
    of_type.2 in
    (omega (arith, ints, between.0, of_type.3), omega (arith, ints, between.1, of_type.3))
