-- The changes of a rule are those of a clock whose transitions are all reached.
use Rattle.tz_zone.proofs.Common.{◌≡◌, arith, rules, ints, refl, sym, inr, inl, length, ℤ, ◌∙◌, subst, ◌<◌, ap, List, ◌≤ℤ◌, Some, ◌<ℤ◌, pos, ◌-ℤ◌, ◌-◌, LocalTimeType, Zone, [], ◌+ℤ◌, Option, by_lt_z, slice_get_within, ◌≢◌, None, same_Some, IsReachedAt, AreLeapSeconds, IsClock, TransitionRule, Transition, IsLeapTimeRefused, IsPastInstants, IsLeapTime, IsSoundTable, IsTypeWithout, Change, IsBeforeStart, IsRuleType, IsTypeAfter, HasNoChange, HasNoPreceding, IsChange, IsFollowing, IsPreceding, Fixed, HasNoFollowing, zone_with, Alternate, IsRunStart, without_transitions, IsSeam}
use Rattle.tz_base.proofs.DaysOfYears.{first_day_bounds}
use Rattle.tz_rule.proofs.RuleSegments.{IsInRuleYears-bounds}
use Rattle.tz_zone.proofs.LeapTimes.{past_later}
use Rattle.tz_zone.proofs.InstantsWithLeapTime.{clock_without, leap_unless_refused, defined_within, past_from}
use Rattle.tz_zone.proofs.Positions.{clock_after_position, type_after_position, position_later}
use Rattle.tz_zone.proofs.ChangeSpans.{rule_of_clock}
use Rattle.tz_zone.proofs.PositionRuns.{leap_of_clock, position_at_start}

-- a rule has no other type after the years in which it answers, and so it does not change there
rule_change_bound : (rule : TransitionRule) (a b : LocalTimeType) (u : ℤ) → IsRuleType rule (u -ℤ pos 1) a
    → IsRuleType rule u b → a ≢ b → u ≤ℤ pos 80000000000000000
unfolding IsRuleType
rule_change_bound (Fixed fixed) a b u before after differ = absurd (differ (before ∙ sym after))
rule_change_bound (Alternate rule) a b u before after differ =
    omega (arith, ints, (IsInRuleYears-bounds u after.0).1, (first_day_bounds (pos 2147483645) (search rules)).1)

-- a zone that has no transitions is the one without them
pub without_none : (z : Zone) → z.transitions ≡ [] → without_transitions z ≡ z
without_none z none =
    ap (λ (list : List Transition). zone_with list z.types z.leap_seconds z.extra_rule) (sym none)

without_from_after : (z : Zone) (rule : Option TransitionRule) (v : ℤ) (t : LocalTimeType) → IsTypeAfter rule v t
    → IsTypeWithout z rule v t
without_from_after z (Some rule) v t type = type
without_from_after z None v t type = absurd type

-- a zone without transitions changes by its rule alone
change_has_rule : (z : Zone) → z.transitions ≡ [] → (c : Change) → IsChange z c → (rule : TransitionRule)
    × (z.extra_rule ≡ Some rule)
change_has_rule z none c change = by_rule z.extra_rule refl
  where
    type_at : (v : ℤ) (t : LocalTimeType) → z.extra_rule ≡ None → IsClock z v t → IsTypeWithout z None v t
    type_at v t is clock = subst (λ (o : Option TransitionRule). IsTypeWithout z o v t) is
        ((clock_without z none v t).1 clock)

    by_rule : (o : Option TransitionRule) → z.extra_rule ≡ o → (rule : TransitionRule) × (z.extra_rule ≡ Some rule)
    by_rule (Some rule) is = (rule, is)
    by_rule None is = absurd (change.differ
        (same_Some c.before c.after (sym (type_at (c.unix_time -ℤ pos 1) c.before is change.before_is)
        ∙ type_at c.unix_time c.after is change.after_is)))

-- where all transitions are reached a zone has the types of its rule
module _ (z : Zone) (sound : IsSoundTable z) (some : 0 < length z.transitions) where
  rule_clock : (v : ℤ) (t : LocalTimeType) → IsReachedAt z v (length z.transitions) → IsClock z v t
      → IsClock (without_transitions z) v t
  rule_clock v t at clock =
      let type = type_after_position z sound v t some at clock in
      inl (refl, without_from_after (without_transitions z) z.extra_rule v t type)

  clock_rule : (rule : TransitionRule) → z.extra_rule ≡ Some rule → (v : ℤ) (t : LocalTimeType)
      → IsReachedAt z v (length z.transitions) → IsClock (without_transitions z) v t → IsClock z v t
  clock_rule rule is v t at clock =
      let type = rule_of_clock (without_transitions z) refl rule is v t clock in
      clock_after_position z sound v t some at (subst (λ (o : Option TransitionRule). IsTypeAfter o v t) (sym is) type)

  module _ (s : ℤ) (at : IsReachedAt z s (length z.transitions)) where
    at_later : (v l : ℤ) → s ≤ℤ v → IsLeapTime z.leap_seconds v l → IsReachedAt z v (length z.transitions)
    at_later v l order leap =
        let all = length z.transitions in
        position_later z sound all s v l at order leap
        (λ next at_next. absurd (omega (arith, slice_get_within z.transitions all next at_next)))

    -- each change after such an instant is one of the rule
    pub change_to_rule : (c : Change) → s <ℤ c.unix_time → IsChange z c → IsChange (without_transitions z) c
    change_to_rule c above change = record {
      not_least = change.not_least;
      up_to = change.up_to;
      before_is = by_rule (c.unix_time -ℤ pos 1) c.before (omega (arith, ints, above)) change.before_is;
      after_is = by_rule c.unix_time c.after (omega (arith, ints, above)) change.after_is;
      differ = change.differ;
    }
      where
        by_rule : (v : ℤ) (t : LocalTimeType) → s ≤ℤ v → IsClock z v t → IsClock (without_transitions z) v t
        by_rule v t order clock =
            let leap = leap_of_clock z some v t clock in
            rule_clock v t (at_later v leap.0 order leap.1) clock

    -- and each of the rule is one
    pub change_from_rule : (c : Change) → s <ℤ c.unix_time → IsChange (without_transitions z) c → IsChange z c
    change_from_rule c above change = record {
      not_least = change.not_least;
      up_to = change.up_to;
      before_is = by_clock (c.unix_time -ℤ pos 1) c.before (omega (arith, ints, above))
          (omega (arith, ints)) change.before_is;
      after_is = by_clock c.unix_time c.after (omega (arith, ints, above)) (omega (arith, ints)) change.after_is;
      differ = change.differ;
    }
      where
        z' : Zone
        z' = without_transitions z

        rule : (rule : TransitionRule) × (z'.extra_rule ≡ Some rule)
        rule = change_has_rule z' refl c change

        bound : c.unix_time ≤ℤ pos 80000000000000000
        bound = rule_change_bound rule.0 c.before c.after c.unix_time
            (rule_of_clock z' refl rule.0 rule.1 (c.unix_time -ℤ pos 1) c.before change.before_is)
            (rule_of_clock z' refl rule.0 rule.1 c.unix_time c.after change.after_is) change.differ

        by_clock : (v : ℤ) (t : LocalTimeType) → s ≤ℤ v → v ≤ℤ c.unix_time → IsClock z' v t → IsClock z v t
        by_clock v t order up_to clock =
            let are = sound.leap_seconds_are in
            let near : v ≤ℤ pos 80000000000000000 = omega (arith, ints, up_to, bound) in
            let defined = defined_within z.leap_seconds are s v at.time_is.not_refused order near in
            let leap = leap_unless_refused z.leap_seconds are v defined in
            clock_rule rule.0 rule.1 v t (at_later v leap.0 order leap.1) clock

    pub following_from_rule : (c : Change) → IsFollowing (without_transitions z) s c → IsFollowing z s c
    following_from_rule c found = record {
      is = change_from_rule c found.above found.is;
      above = found.above;
      least = λ d over under change. found.least d over under (change_to_rule d over change);
    }

    pub no_following_from_rule : HasNoFollowing (without_transitions z) s → HasNoFollowing z s
    no_following_from_rule none c above change = none c above (change_to_rule c above change)

    pub preceding_from_rule : (w : ℤ) (c : Change) → s <ℤ c.unix_time → IsPreceding (without_transitions z) w c
        → IsPreceding z w c
    preceding_from_rule w c over found = record {
      is = change_from_rule c over found.is;
      below = found.below;
      greatest = λ d above under change. found.greatest d above under
          (change_to_rule d (omega (arith, ints, over, above)) change);
    }

    pub none_from_rule : (w : ℤ) → HasNoPreceding (without_transitions z) w → HasNoChange z s w
    none_from_rule w none d over under change = none d under (change_to_rule d over change)

    pub none_after_found : (w : ℤ) (c : Change) → c.unix_time ≤ℤ s → IsPreceding (without_transitions z) w c
        → HasNoChange z s w
    none_after_found w c up_to found d over under change =
        found.greatest d (omega (arith, ints, up_to, over)) under (change_to_rule d over change)

-- where all transitions are reached at an instant, they are at the seam
pub at_seam : (z : Zone) → IsSoundTable z → (w m : ℤ) → 0 < length z.transitions
    → IsReachedAt z w (length z.transitions) → IsSeam z m → IsReachedAt z m (length z.transitions)
at_seam z sound w m some at (last, is_last, wide) =
    let count = length z.transitions in
    let run : IsRunStart z count count m = record {
      some = some;
      up_to = omega arith;
      change = last;
      change_is = is_last;
      effect = wide;
      types = λ less. absurd (omega (arith, less));
      all = λ e. refl;
    } in
    position_at_start z sound count count m run w (omega arith, at) refl

-- what comes before a zone's clock begins, and after it ends
module _ (z : Zone) (are : AreLeapSeconds z.leap_seconds) (some : 0 < length z.transitions) where
  not_refused : (v : ℤ) (t : LocalTimeType) → IsClock z v t → ¬ IsLeapTimeRefused z.leap_seconds v
  not_refused v t clock = (leap_of_clock z some v t clock).1.not_refused

  pub none_before_start : (u first : ℤ) → ((v : ℤ) → u ≤ℤ v → v <ℤ first → IsBeforeStart z.leap_seconds v)
      → HasNoChange z u (first +ℤ pos 1)
  none_before_start u first early c above below change =
      not_refused (c.unix_time -ℤ pos 1) c.before change.before_is
      (inl (early (c.unix_time -ℤ pos 1) (omega (arith, ints, above)) (omega (arith, ints, below))))

  pub none_after_end : (u first : ℤ) → ((v : ℤ) → u ≤ℤ v → v <ℤ first → IsBeforeStart z.leap_seconds v)
      → ¬ IsBeforeStart z.leap_seconds first → IsLeapTimeRefused z.leap_seconds first → HasNoFollowing z u
  none_after_end u first early begun refused c above change =
      not_refused c.unix_time c.after change.after_is
      (by_lt_z c.unix_time first (λ before. inl (early c.unix_time (omega (arith, ints, above)) before))
      (λ from. past_from z.leap_seconds are first c.unix_time begun refused from))

  pub none_past_last : (last u : ℤ) → ((v : ℤ) → last <ℤ v → v ≤ℤ (u -ℤ pos 1) → IsPastInstants z.leap_seconds v)
      → HasNoChange z last u
  none_past_last last u past c above below change =
      not_refused c.unix_time c.after change.after_is (inr (past c.unix_time above (omega (arith, ints, below))))

  -- before a truncated start all instants are
  early_too : (w v : ℤ) → v ≤ℤ w → IsBeforeStart z.leap_seconds w → IsLeapTimeRefused z.leap_seconds v
  early_too w v order (l, start, before) = inl (l, start, omega (arith, ints, order, before))

  pub none_up_to_start : (last u : ℤ) → HasNoChange z last u → IsLeapTimeRefused z.leap_seconds last
      → ¬ IsPastInstants z.leap_seconds last → HasNoPreceding z u
  none_up_to_start last u none (inr past) not_past c below change = absurd (not_past past)
  none_up_to_start last u none (inl early) not_past c below change =
      by_lt_z last c.unix_time (λ over. none c over below change) (λ up. not_refused c.unix_time c.after change.after_is
      (early_too last c.unix_time up early))

  pub none_before_first : (m u : ℤ) → HasNoChange z m u → ¬ IsLeapTimeRefused z.leap_seconds m
      → IsLeapTimeRefused z.leap_seconds (m -ℤ pos 1) → HasNoPreceding z u
  none_before_first m u none defined (inr past) c below change =
      absurd (defined (inr (past_later z.leap_seconds are (m -ℤ pos 1) m (omega (arith, ints)) past)))
  none_before_first m u none defined (inl early) c below change =
      by_lt_z m c.unix_time (λ over. none c over below change)
      (λ up. not_refused (c.unix_time -ℤ pos 1) c.before change.before_is
      (early_too (m -ℤ pos 1) (c.unix_time -ℤ pos 1) (omega (arith, ints, up)) early))

-- the seam comes no later than an instant at which all transitions are reached
pub seam_up_to : (z : Zone) (m n : ℤ) → 0 < length z.transitions → IsSeam z m
    → IsReachedAt z n (length z.transitions) → m ≤ℤ n
seam_up_to z m n some (last, is_last, wide) at =
    let reached = at.reached (length z.transitions - 1) last (omega (arith, some)) is_last in
    wide.least n (at.time, at.time_is, reached)
