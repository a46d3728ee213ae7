-- Spans of one type have no change inside, and the change where one ends is the next one.
use Rattle.tz_zone.proofs.Common.{◌≡◌, arith, ints, sym, inl, ℤ, ◌∙◌, subst, ◌≤ℤ◌, Some, ◌<ℤ◌, pos, ◌-ℤ◌, LocalTimeType, Zone, [], ◌+ℤ◌, Option, by_lt_z, negsuc, None, IsClock, TransitionRule, MatchOption, IsTypeWithout, Change, IsRuleType, HasNoChange, HasNoPreceding, IsChange, IsFollowing, IsPreceding, HasNoFollowing, HasNoChangeAfter, HasNoChangeUpTo, IsChangeAfter, IsChangeUpTo, IsTypeChange, TypeChange}
use Rattle.tz_zone.proofs.InstantsWithLeapTime.{clock_without}

-- from one instant up to another the clock has no two types
abbrev pub HasOneType : Zone → ℤ → ℤ → Type 0
HasOneType z low last = (v w : ℤ) (s t : LocalTimeType) → low ≤ℤ v → v ≤ℤ last → low ≤ℤ w → w ≤ℤ last → IsClock z v s
    → IsClock z w t → s ≡ t

module _ (z : Zone) where
  pub one_type_of : (low last : ℤ) (t : LocalTimeType) → ((v : ℤ) (s : LocalTimeType) → low ≤ℤ v → v ≤ℤ last
      → IsClock z v s → s ≡ t) → HasOneType z low last
  one_type_of low last t all v w s s' a b c d first second = all v s a b first ∙ sym (all w s' c d second)

  -- no change lies inside such a span
  none_inside : (low last : ℤ) → HasOneType z low last → (c : Change) → low <ℤ c.unix_time → c.unix_time ≤ℤ last
      → ¬ IsChange z c
  none_inside low last one c above below change =
      change.differ (one (c.unix_time -ℤ pos 1) c.unix_time c.before c.after (omega (arith, ints, above))
      (omega (arith, ints, below)) (omega (arith, ints, above)) below change.before_is change.after_is)

  -- nor where one goes on
  pub none_up : (u low last : ℤ) → HasNoChange z u (low +ℤ pos 1) → HasOneType z low last
      → HasNoChange z u (last +ℤ pos 1)
  none_up u low last none one c above below =
      by_lt_z low c.unix_time (λ over change. none_inside low last one c over (omega (arith, ints, below)) change)
      (λ up. none c above (omega (arith, ints, up)))

  pub none_until : (u low m : ℤ) → low <ℤ m → HasNoChange z u (low +ℤ pos 1) → HasOneType z low (m -ℤ pos 1)
      → HasNoChange z u m
  none_until u low m order none one c above below =
      none_up u low (m -ℤ pos 1) none one c above (omega (arith, ints, below))

  pub none_down : (u low last : ℤ) → HasNoChange z last u → HasOneType z low last → HasNoChange z low u
  none_down u low last none one c above below =
      by_lt_z last c.unix_time (λ over. none c over below) (λ up change. none_inside low last one c above up change)

  pub none_joined : (low mid u : ℤ) → HasNoChange z low (mid +ℤ pos 1) → HasNoChange z mid u → HasNoChange z low u
  none_joined low mid u before after c above below =
      by_lt_z mid c.unix_time (λ over. after c over below) (λ up. before c above (omega (arith, ints, up)))

  -- nor at an instant at which there is none
  pub none_at : (u m : ℤ) → HasNoChange z u m → ((c : Change) → c.unix_time ≡ m → ¬ IsChange z c)
      → HasNoChange z u (m +ℤ pos 1)
  none_at u m none at c above below = by_lt_z c.unix_time m (none c above)
      (λ from. at c (omega (arith, ints, below, from)))

  pub none_back : (u m : ℤ) → HasNoChange z m u → ((c : Change) → c.unix_time ≡ m → ¬ IsChange z c)
      → HasNoChange z (m -ℤ pos 1) u
  none_back u m none at c above below = by_lt_z m c.unix_time (λ over. none c over below)
      (λ up. at c (omega (arith, ints, above, up)))

  -- the change at the end is the first one
  pub is_following : (u m : ℤ) (c : Change) → u <ℤ m → HasNoChange z u m → c.unix_time ≡ m → IsChange z c
      → IsFollowing z u c
  is_following u m c order none at change = record {
    is = change;
    above = omega (arith, ints, order, at);
    least = λ d above below. none d above (omega (arith, ints, at, below));
  }

  pub is_preceding : (u m : ℤ) (c : Change) → m <ℤ u → HasNoChange z m u → c.unix_time ≡ m → IsChange z c
      → IsPreceding z u c
  is_preceding u m c order none at change = record {
    is = change;
    below = omega (arith, ints, order, at);
    greatest = λ d above below. none d (omega (arith, ints, at, above)) below;
  }

  -- after a span without one comes the one after it
  pub following_later : (u s : ℤ) (c : Change) → u ≤ℤ s → HasNoChange z u (s +ℤ pos 1) → IsFollowing z s c
      → IsFollowing z u c
  following_later u s c order none found = record {
    is = found.is;
    above = omega (arith, ints, order, found.above);
    least = λ d above below. by_lt_z s d.unix_time (λ over. found.least d over below)
        (λ up. none d above (omega (arith, ints, up)));
  }

  pub no_following_later : (u s : ℤ) → HasNoChange z u (s +ℤ pos 1) → HasNoFollowing z s → HasNoFollowing z u
  no_following_later u s none after c above =
      by_lt_z s c.unix_time (after c) (λ up. none c above (omega (arith, ints, up)))

  pub preceding_earlier : (u w : ℤ) (c : Change) → w ≤ℤ u → HasNoChange z (w -ℤ pos 1) u → IsPreceding z w c
      → IsPreceding z u c
  preceding_earlier u w c order none found = record {
    is = found.is;
    below = omega (arith, ints, order, found.below);
    greatest = λ d above below. by_lt_z d.unix_time w (λ under. found.greatest d above under)
        (λ from. none d (omega (arith, ints, from)) below);
  }

  -- the ends of 64 bits
  pub none_to_end : (u last : ℤ) → last ≡ pos 9223372036854775807 → HasNoChange z u (last +ℤ pos 1) → HasNoFollowing z u
  none_to_end u last end none c above change = none c above (omega (arith, ints, end, change.up_to)) change

  pub none_from_start : (low u : ℤ) → low ≤ℤ negsuc 9223372036854775807 → HasNoChange z low u → HasNoPreceding z u
  none_from_start low u start none c below change = none c (omega (arith, ints, start, change.not_least)) below change

-- the clock of a zone that has a rule and no transitions
module _ (z : Zone) (none : z.transitions ≡ []) (rule : TransitionRule) (is : z.extra_rule ≡ Some rule) where
  pub clock_of_rule : (v : ℤ) (t : LocalTimeType) → IsRuleType rule v t → IsClock z v t
  clock_of_rule v t type = inl (none, subst (λ (o : Option TransitionRule). IsTypeWithout z o v t) (sym is) type)

  pub rule_of_clock : (v : ℤ) (t : LocalTimeType) → IsClock z v t → IsRuleType rule v t
  rule_of_clock v t clock = subst (λ (o : Option TransitionRule). IsTypeWithout z o v t) is
      ((clock_without z none v t).1 clock)

  -- its changes are those of the rule

  abbrev pub zone_change : TypeChange → Change
  zone_change c = record { unix_time = c.unix_time; before = c.before; after = c.after }

  of_rule : (c : TypeChange) → IsTypeChange rule c → IsChange z (zone_change c)
  of_rule c change = record {
    not_least = change.not_least;
    up_to = change.up_to;
    before_is = clock_of_rule (c.unix_time -ℤ pos 1) c.before change.before_is;
    after_is = clock_of_rule c.unix_time c.after change.after_is;
    differ = change.differ;
  }

  abbrev rule_change : Change → TypeChange
  rule_change c = record { unix_time = c.unix_time; before = c.before; after = c.after }

  to_rule : (c : Change) → IsChange z c → IsTypeChange rule (rule_change c)
  to_rule c change = record {
    not_least = change.not_least;
    up_to = change.up_to;
    before_is = rule_of_clock (c.unix_time -ℤ pos 1) c.before change.before_is;
    after_is = rule_of_clock c.unix_time c.after change.after_is;
    differ = change.differ;
  }

  pub following_of_rule : (u : ℤ) (c : TypeChange) → IsChangeAfter rule u c → IsFollowing z u (zone_change c)
  following_of_rule u c found = record {
    is = of_rule c found.is;
    above = found.above;
    least = λ d over under change. found.least (rule_change d) over (omega (arith, ints, under)) (to_rule d change);
  }

  pub no_following_of_rule : (u : ℤ) → HasNoChangeAfter rule u → HasNoFollowing z u
  no_following_of_rule u none c above change = none (rule_change c) above (to_rule c change)

  pub preceding_of_rule : (u : ℤ) (c : TypeChange) → IsChangeUpTo rule u c → IsPreceding z (u +ℤ pos 1) (zone_change c)
  preceding_of_rule u c found = record {
    is = of_rule c found.is;
    below = omega (arith, ints, found.up_to);
    greatest = λ d over under change. found.greatest (rule_change d) over (omega (arith, ints, under))
        (to_rule d change);
  }

  pub no_preceding_of_rule : (u : ℤ) → HasNoChangeUpTo rule u → HasNoPreceding z (u +ℤ pos 1)
  no_preceding_of_rule u none c below change = none (rule_change c) (omega (arith, ints, below)) (to_rule c change)

-- what is known of an option by cases, and what follows from that
pub match_mapped : {X : Type 0} (o : Option X) (P P' : Type 0) (Q Q' : X → Type 0) → MatchOption o P Q → (P → P')
    → ((x : X) → Q x → Q' x) → MatchOption o P' Q'
match_mapped (Some x) P P' Q Q' is on each = each x is
match_mapped None P P' Q Q' is on each = on is
