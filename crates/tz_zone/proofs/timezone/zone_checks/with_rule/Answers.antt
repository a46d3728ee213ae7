-- The types of the rule have its offsets.
use Rattle.tz_zone.proofs.Common.{◌≡◌, arith, to_z-of_z, rules, ints, inr, inl, ◌∙◌, ap, LocalTimeType, w32}
use Rattle.tz_zone.proofs.timezone.zone_checks.with_rule.Goals as goal

pub returns-in-Fixed : goal.returns-in-Fixed
returns-in-Fixed c =
    let is = c.ut_offset.ensures.value in
    let ends = rw (
      to_z-of_z w32 c.args.least c.ranges.least,
      to_z-of_z w32 c.args.greatest c.ranges.greatest,
      to_z-of_z w32
          c.ut_offset.result (search rules),
    ) at c.with_offset.ensures in
    rw c.in-Fixed.is (record {
      least = ends.least;
      greatest = ends.greatest;
      between = λ o e. (omega (arith, ints, e, is, ends.between.0), omega (arith, ints, e, is, ends.between.1));
      exact = (
        elim ends.exact.0 [ inl e ↦ inl e | inr e ↦ inr (e ∙ is) ],
        elim ends.exact.1 [ inl e ↦ inl e | inr e ↦ inr (e ∙ is) ],
      );
    })

pub returns-in-Alternate : goal.returns-in-Alternate
returns-in-Alternate c =
    let rule = c.in-Alternate.rule.now in
    let (low, high) = c.with_offset-with_std.result in
    let std_is : c.ut_offset-in-Alternate.result ≡ rule.std.ut_offset = c.ut_offset-in-Alternate.ensures.value
    ∙ ap (λ (t : LocalTimeType). t.ut_offset) c.std.ensures in
    let dst_is : c.ut_offset-in-Alternate-2.result ≡ rule.dst.ut_offset = c.ut_offset-in-Alternate-2.ensures.value
    ∙ ap (λ (t : LocalTimeType). t.ut_offset) c.dst.ensures in
    let one = rw (
      to_z-of_z w32 c.args.least c.ranges.least,
      to_z-of_z w32 c.args.greatest c.ranges.greatest,
      to_z-of_z w32
          c.ut_offset-in-Alternate.result (search rules),
    ) at c.with_offset-with_std.ensures in
    let both = rw (
      to_z-of_z w32 low (search rules),
      to_z-of_z w32 high (search rules),
      to_z-of_z w32
          c.ut_offset-in-Alternate-2.result (search rules),
    ) at c.with_offset-in-Alternate.ensures in
    rw c.in-Alternate.is (record {
      least = omega (arith, ints, one.least, both.least);
      greatest = omega (arith, ints, one.greatest, both.greatest);
      between = λ o is. elim is [
        | inl e ↦ (
          omega (arith, ints, e, std_is, one.between.0, both.least),
          omega (arith, ints, e, std_is, one.between.1, both.greatest),
        )
        | inr e ↦ (omega (arith, ints, e, dst_is, both.between.0), omega (arith, ints, e, dst_is, both.between.1))
      ];
      exact = (
        elim both.exact.0 [
          | inl e ↦ elim one.exact.0
              [ inl e' ↦ inl (e ∙ e') | inr e' ↦ inr (inl (e ∙ e' ∙ std_is)) ]
          | inr e ↦ inr (inr (e ∙ dst_is))
        ],
        elim both.exact.1 [
          | inl e ↦ elim one.exact.1
              [ inl e' ↦ inl (e ∙ e') | inr e' ↦ inr (inl (e ∙ e' ∙ std_is)) ]
          | inr e ↦ inr (inr (e ∙ dst_is))
        ],
      );
    })
