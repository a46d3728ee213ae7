-- How the next change of a rule is found from segment to segment, or by the switch next to an instant.
use Rattle.tz_rule.proofs.Common.{arith, ◌≡◌, ints, pos, ◌∙◌, ◌+ℤ◌, ℤ, sym, ◌≤ℤ◌, ◌-ℤ◌, rules, Bool, true, false, ◌<ℤ◌, AlternateTime, by_lt_z, negsuc, Alternate, IsRuleType, not, LocalTimeType, HasNoTypeChange, Option, Fixed, HasOneType, IsSwitchAfter, IsSwitchUpTo, Some, TransitionRule, first_day_bounds, type_by, HasNoChangeAfter, HasNoChangeUpTo, IsChangeAfter, IsChangeUpTo, IsTypeChange, MatchOption, TypeChange, ◌≢◌}
use Rattle.std.proofs.Common.{None}
use Rattle.std.specs.Borrow.{Bor}
use Rattle.tz_rule.proofs.RuleSegments.{IsInRuleYears-bounds}
use Rattle.tz_rule.proofs.RuleTypes.{rule_type_unique}

-- the rule has the type at an instant, if there is one, or none
abbrev pub HasTypeOrNone : TransitionRule → ℤ → Option (Bor LocalTimeType) → Type 0
HasTypeOrNone rule v type = MatchOption type ((t : LocalTimeType) → ¬ IsRuleType rule v t)
    (λ t. IsRuleType rule v t.now)

module _ (rule : TransitionRule) where
  -- no change is inside a span of one type, or of none
  none_of_type : (low high : ℤ) (t : LocalTimeType) → ((v : ℤ) → low ≤ℤ v → v ≤ℤ high → IsRuleType rule v t)
      → HasNoTypeChange rule low high
  none_of_type low high t holds c above up_to change =
      let v = c.unix_time -ℤ pos 1 in
      let before = rule_type_unique rule v c.before t change.before_is
      (holds v (omega (arith, ints, above)) (omega (arith, ints, up_to))) in
      let after = rule_type_unique rule c.unix_time c.after t change.after_is
      (holds c.unix_time (omega (arith, ints, above)) up_to) in
      change.differ (before ∙ sym after)

  pub none_within : (low high : ℤ) (type : Option (Bor LocalTimeType))
      → ((v : ℤ) → low ≤ℤ v → v ≤ℤ high → HasTypeOrNone rule v type) → HasNoTypeChange rule low high
  none_within low high (Some t) holds = none_of_type low high t.now holds
  none_within low high None holds = λ c above up_to change. holds (c.unix_time -ℤ pos 1) (omega (arith, ints, above))
      (omega (arith, ints, up_to)) c.before change.before_is

  -- nor inside spans that meet at an instant without one
  pub none_joined : (low last next high : ℤ) → next ≡ last +ℤ pos 1 → HasNoTypeChange rule low last
      → ((c : TypeChange) → c.unix_time ≡ next → ¬ IsTypeChange rule c) → HasNoTypeChange rule next high
      → HasNoTypeChange rule low high
  none_joined low last next high follows before here after c above up_to =
      by_lt_z last c.unix_time
      (λ past. by_lt_z next c.unix_time (λ over. after c over up_to)
      (λ at. here c (omega (arith, ints, follows, past, at))))
      (λ not_past. before c above not_past)

  pub is_change_after : (u last next : ℤ) (c : TypeChange) → next ≡ last +ℤ pos 1 → u ≤ℤ last
      → HasNoTypeChange rule u last → c.unix_time ≡ next → IsTypeChange rule c → IsChangeAfter rule u c
  is_change_after u last next c follows order none at change = record {
    is = change;
    above = omega (arith, ints, follows, order, at);
    least = λ d above below. none d above (omega (arith, ints, follows, at, below));
  }

  pub is_change_up_to : (u from : ℤ) (c : TypeChange) → from ≤ℤ u → HasNoTypeChange rule from u → c.unix_time ≡ from
      → IsTypeChange rule c → IsChangeUpTo rule u c
  is_change_up_to u from c order none at change = record {
    is = change;
    up_to = omega (arith, ints, order, at);
    greatest = λ d above below. none d (omega (arith, ints, at, above)) below;
  }

  -- the ends of 64 bits
  pub none_to_end : (u last : ℤ) → pos 9223372036854775807 ≤ℤ last → HasNoTypeChange rule u last
      → HasNoChangeAfter rule u
  none_to_end u last end none c above change = none c above (omega (arith, ints, end, change.up_to)) change

  pub none_from_start : (from u : ℤ) → from ≤ℤ negsuc 9223372036854775807 → HasNoTypeChange rule from u
      → HasNoChangeUpTo rule u
  none_from_start from u start none c up_to change = none c (omega (arith, ints, start, change.not_least)) up_to change

  -- a rule of one type has no change
  pub none_of_one_type : HasOneType rule → (c : TypeChange) → ¬ IsTypeChange rule c
  none_of_one_type one c change = change.differ
      (one (c.unix_time -ℤ pos 1) c.unix_time c.before c.after change.before_is change.after_is)

pub none_of_fixed : (t : LocalTimeType) (c : TypeChange) → ¬ IsTypeChange (Fixed t) c
unfolding IsRuleType
none_of_fixed t = none_of_one_type (Fixed t) (λ u v a b is is'. is ∙ sym is')

module _ (r : AlternateTime) (differ : r.std ≢ r.dst) (switch : ℤ) (is_start : Bool) (before after : LocalTimeType)
    (was : before ≡ type_by r (not is_start)) (is : after ≡ type_by r is_start) where
  abbrev change : TypeChange
  change = record { unix_time = switch; before = before; after = after }

  types_differ : (b : Bool) → type_by r (not b) ≢ type_by r b
  types_differ true = differ
  types_differ false = λ e. differ (sym e)

  -- rules are defined far from the least instant
  bound : IsRuleType (Alternate r) (switch -ℤ pos 1) before → negsuc 9223372036854775807 <ℤ switch
  unfolding IsRuleType
  bound here =
      omega (
        arith,
        ints,
        (IsInRuleYears-bounds (switch -ℤ pos 1) here.0).0,
        (first_day_bounds (negsuc 2147483645)
            (search rules)).0,
      )

  is_change : switch ≤ℤ pos 9223372036854775807 → IsRuleType (Alternate r) (switch -ℤ pos 1) (type_by r (not is_start))
      → IsRuleType (Alternate r) switch (type_by r is_start) → IsTypeChange (Alternate r) change
  is_change up_to before_is after_is =
      let held : IsRuleType (Alternate r) (switch -ℤ pos 1) before = rw was before_is in
      record {
        not_least = bound held;
        up_to = up_to;
        before_is = held;
        after_is = rw is after_is;
        differ = λ e. types_differ is_start (sym was ∙ e ∙ is);
      }

  pub switch_is_change_after : (u : ℤ) → switch ≤ℤ pos 9223372036854775807 → IsSwitchAfter r u switch is_start
      → IsChangeAfter (Alternate r) u change
  switch_is_change_after u up_to at = record {
    is = is_change up_to (at.before_is (switch -ℤ pos 1) (omega (arith, ints, at.above)) (omega (arith, ints)))
        at.after_is;
    above = at.above;
    least = none_of_type (Alternate r) u (switch -ℤ pos 1) (type_by r (not is_start))
        (λ v low high. at.before_is v low (omega (arith, ints, high)));
  }

  pub switch_is_change_up_to : (u : ℤ) → u ≤ℤ pos 9223372036854775807 → IsSwitchUpTo r u switch is_start
      → IsChangeUpTo (Alternate r) u change
  switch_is_change_up_to u high at = record {
    is = is_change (omega (arith, ints, at.up_to, high)) at.before_is
        (at.after_is switch (omega (arith, ints)) at.up_to);
    up_to = at.up_to;
    greatest = none_of_type (Alternate r) switch u (type_by r is_start) at.after_is;
  }
