-- A lookup has one result, and a search has one error.
use Rattle.tz.proofs.Common.{arith, ◌≡◌, subst, ◌∙◌, ints, inr, sym, inl, ap, ℕ, ℤ, Fields, IsClock, Zone, ◌+ℤ◌, IsValid, LocalTimeType, reading, DateTime, EachCanBeMade, IsReading, TzError, ShowsByClock, IsClockFault, IsFindFault, ShowsInstant, nat_tests, DateTimeError, InvalidHour, InvalidMinute, InvalidMonth, InvalidMonthDay, InvalidNanoseconds, InvalidSecond, IsFirstFault, IsTypeAfter, ◌&&◌, IsOver, Transition, cond, last_unique, leb, one_leap_time, one_type, some_from_last}
use Rattle.tz_base.specs.declared.error.TzError.TheVariants.{DateTime as FieldFault}
use Rattle.tz_zone.specs.Clock.{IsLookupFault}
use Rattle.tz.proofs.PromisedLists.{not_out_of_range, valid_without_fault}
use Rattle.tz.proofs.DatedEntries.{side_unique}

module _ (z : Zone) (u : ℤ) where
  -- a zone that is over has no type
  no_type_when_over : IsOver z u → (t : LocalTimeType) → ¬ IsClock z u t
  no_type_when_over (last, l, is_last, leap, from, none) t (inl (without, type)) =
      some_from_last z.transitions last is_last without
  no_type_when_over (last, l, is_last, leap, from, none) t (inr (last', is_last', (l', leap', inl (before, type)))) =
      omega (
        arith,
        ints,
        from,
        before,
        one_leap_time z.leap_seconds u l l' leap leap',
        ap
            (λ (c : Transition). c.unix_leap_time) (last_unique z.transitions last last' is_last is_last'),
      )
  no_type_when_over (last, l, is_last, leap, from, none) t (inr (last', is_last', (l', leap', inr (from', type)))) =
      subst (λ rule. IsTypeAfter rule u t) none type

  -- nor has one whose lookup is refused
  pub no_type_at_fault : (e : TzError) → IsLookupFault z u e → (t : LocalTimeType) → ¬ IsClock z u t
  no_type_at_fault e (inl (_, over)) t clock = no_type_when_over over t clock
  no_type_at_fault e (inr (_, none, _)) t clock = none t clock

module _ (z : Zone) (u : ℤ) (n : ℕ) where
  pub clock_fault_unique : (e e' : TzError) → IsClockFault z u n e → IsClockFault z u n e' → e ≡ e'
  clock_fault_unique e e' (inl (is, many)) (inl (is', many')) = is ∙ sym is'
  clock_fault_unique e e' (inl (is, many)) (inr (inl (few, fault))) = absurd (omega (arith, many, few))
  clock_fault_unique e e' (inl (is, many)) (inr (inr (is', few, out))) = absurd (omega (arith, many, few))
  clock_fault_unique e e' (inr (inl (few, fault))) (inl (is', many)) = absurd (omega (arith, many, few))
  clock_fault_unique e e' (inr (inl (few, inl (is, over)))) (inr (inl (few', inl (is', over')))) = is ∙ sym is'
  clock_fault_unique e e' (inr (inl (few, inl (is, over)))) (inr (inl (few', inr (is', none, not_over)))) =
      absurd (not_over over)
  clock_fault_unique e e' (inr (inl (few, inr (is, none, not_over)))) (inr (inl (few', inl (is', over)))) =
      absurd (not_over over)
  clock_fault_unique e e' (inr (inl (few, inr (is, none, not_over)))) (inr (inl (few', inr (is', none', not_over')))) =
      is ∙ sym is'
  clock_fault_unique e e' (inr (inl (few, inl (is, over)))) (inr (inr (is', few', (t, clock, out)))) =
      absurd (no_type_when_over z u over t clock)
  clock_fault_unique e e' (inr (inl (few, inr (is, none, not_over)))) (inr (inr (is', few', out))) = is ∙ sym is'
  clock_fault_unique e e' (inr (inr (is, few, out))) (inl (is', many)) = absurd (omega (arith, many, few))
  clock_fault_unique e e' (inr (inr (is, few, (t, clock, out)))) (inr (inl (few', inl (is', over)))) =
      absurd (no_type_when_over z u over t clock)
  clock_fault_unique e e' (inr (inr (is, few, out))) (inr (inl (few', inr (is', none, not_over)))) = is ∙ sym is'
  clock_fault_unique e e' (inr (inr (is, few, out))) (inr (inr (is', few', out'))) = is ∙ sym is'

  -- if the clock shows a date time, there is no refusal
  pub no_fault_where_shown : (d : DateTime) (e : TzError) → ShowsByClock z u n d → IsReading (reading d.fields)
      → ¬ IsClockFault z u n e
  no_fault_where_shown d e (t, clock, shows) in_range (inl (is, many)) =
      omega (arith, many, shows.civil.valid.in_range.nanoseconds, shows.civil.nanoseconds_are)
  no_fault_where_shown d e (t, clock, shows) in_range (inr (inl (few, inl (is, over)))) =
      no_type_when_over z u over t clock
  no_fault_where_shown d e (t, clock, shows) in_range (inr (inl (few, inr (is, none, not_over)))) = none t clock
  no_fault_where_shown d e (t, clock, shows) in_range (inr (inr (is, few, (t', clock', out)))) =
      out (subst IsReading (shows.civil.reads ∙ ap (λ x. u +ℤ x.ut_offset) (one_type z u t t' clock clock')) in_range)

  -- the clock shows one date time
  pub shown_unique : (d d' : DateTime) → ShowsByClock z u n d → ShowsByClock z u n d' → d ≡ d'
  shown_unique d d' (t, clock, shows) (t', clock', shows') =
      side_unique u n t d d' shows (subst (λ (x : LocalTimeType). ShowsInstant u n x d')
      (one_type z u t' t clock' clock) shows')

-- fields have one first fault
first_fault_of : Fields → DateTimeError
first_fault_of f = cond (leb 1 f.month && leb f.month 12)
    (cond (leb 1 f.month_day && leb f.month_day 31) (cond (leb f.hour 23) (cond (leb f.minute 59)
    (cond (leb f.second 60) (cond (leb f.nanoseconds 999999999) InvalidMonthDay InvalidNanoseconds) InvalidSecond)
    InvalidMinute) InvalidHour) InvalidMonthDay) InvalidMonth

is_first_fault_of : (f : Fields) (a : DateTimeError) → IsFirstFault f a → a ≡ first_fault_of f
unfolding first_fault_of
is_first_fault_of f InvalidMonth is = grind (arith, nat_tests, is)
is_first_fault_of f InvalidMonthDay (month, inl day) = grind (arith, nat_tests, month, day)
is_first_fault_of f InvalidMonthDay (month, inr (r, past)) =
    grind (arith, nat_tests, month, r.month_day, r.hour, r.minute, r.second, r.nanoseconds)
is_first_fault_of f InvalidHour is = grind (arith, nat_tests, is)
is_first_fault_of f InvalidMinute is = grind (arith, nat_tests, is)
is_first_fault_of f InvalidSecond is = grind (arith, nat_tests, is)
is_first_fault_of f InvalidNanoseconds is = grind (arith, nat_tests, is)

pub first_fault_unique : (f : Fields) (a b : DateTimeError) → IsFirstFault f a → IsFirstFault f b → a ≡ b
first_fault_unique f a b is is' = is_first_fault_of f a is ∙ sym (is_first_fault_of f b is')

-- why a search is refused, an allocation failure aside, is one reason
pub search_fault_unique : (z : Zone) (f : Fields) (e e' : TzError) → IsFindFault ⊥ (IsClock z) f e
    → IsFindFault ⊥ (IsClock z) f e' → e ≡ e'
search_fault_unique z f e e' (inl (a, is, first)) (inl (b, is', first')) =
    is ∙ ap (λ x. FieldFault x) (first_fault_unique f a b first first') ∙ sym is'
search_fault_unique z f e e' (inl (a, is, first)) (inr (valid, fault)) = absurd (valid_without_fault f valid a first)
search_fault_unique z f e e' (inr (valid, fault)) (inl (b, is, first)) = absurd (valid_without_fault f valid b first)
search_fault_unique z f e e' (inr (valid, inl (is, none))) (inr fault) = absurd none
search_fault_unique z f e e' (inr (valid, inr (is, near))) (inr (valid', inl (is', none))) = absurd none
search_fault_unique z f e e' (inr (valid, inr (is, near))) (inr (valid', inr (is', near'))) = is ∙ sym is'

-- if each entry can be made, valid fields have an answer that is no refusal
pub no_fault_where_made : (z : Zone) (f : Fields) → IsValid f → EachCanBeMade (IsClock z) f → (e : TzError)
    → ¬ IsFindFault ⊥ (IsClock z) f e
no_fault_where_made z f valid made e (inl (fault, is, first)) = valid_without_fault f valid fault first
no_fault_where_made z f valid made e (inr (valid', inl (is, none))) = none
no_fault_where_made z f valid made e (inr (valid', inr (is, one))) =
    not_out_of_range ⊥ (IsClock z) f (λ valid. made) e (inr (valid', inr (is, one))) is
