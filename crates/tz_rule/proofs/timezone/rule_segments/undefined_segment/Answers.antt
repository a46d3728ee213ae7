-- Rules are defined in all of their years and in no others.
use Rattle.tz_rule.proofs.Common.{arith, ◌≡◌, ints, pos, refl, ◌≤ℤ◌, ◌-ℤ◌, w64, inl, inr, by_lt_z, IsRuleType, of_z, to_z}
use Rattle.tz_rule.proofs.RuleSegments.{IsInRuleYears-between, IsInRuleYears-bounds}
use Rattle.tz_rule.proofs.timezone.rule_segments.undefined_segment.Goals as goal

pub returns-then-unix_time-first : goal.returns-then-unix_time-first
unfolding IsRuleType
returns-then-unix_time-first c =
    let u = c.args.unix_time in
    let first = c.new_year-first.ensures in
    let last : to_z w64 (of_z w64 (to_z w64 (of_z w64 c.new_year-first.result) -ℤ pos 1)) ≡ c.new_year-first.result
    -ℤ pos 1 = omega (arith, ints, first.bound) in
    λ rule. record {
      within = (omega (arith, ints), omega (arith, ints, last, c.if-unix_time-first.true));
      holds = λ v from to t is. omega (arith, ints, first.value, last, to, (IsInRuleYears-bounds v is.0).0);
      from_is = λ later. absurd (later refl);
      last_is = λ _. inr (inl (omega (arith, ints, first.value, last)));
    }

pub returns : goal.returns
unfolding IsRuleType
returns c =
    let u = c.args.unix_time in
    let end = c.new_year.ensures in
    let from : to_z w64 (of_z w64 c.new_year.result) ≡ c.new_year.result = omega (arith, ints, end.bound) in
    let over : c.new_year.result ≤ℤ u = by_lt_z u c.new_year.result
    (λ less. absurd (c.requires (IsInRuleYears-between u
    (omega (arith, ints, c.new_year-first.ensures.value, c.if-unix_time-first.false))
    (omega (arith, ints, end.value, less))))) (λ h. h) in
    λ rule. record {
      within = (omega (arith, ints, from, over), omega (arith, ints));
      holds = λ v low high t is. omega (arith, ints, end.value, from, low, (IsInRuleYears-bounds v is.0).1);
      from_is = λ _. inr (inr (omega (arith, ints, end.value, from)));
      last_is = λ earlier. absurd (earlier refl);
    }
