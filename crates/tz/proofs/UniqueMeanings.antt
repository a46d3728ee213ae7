-- A search finds one list, of which a choice means one entry, and this gives one date time or one error.
use Rattle.tz.proofs.Common.{arith, refl, ◌≡◌, subst, ◌∙◌, inr, sym, inl, ap, List, Fields, IsClock, Some, Zone, IsValid, None, Option, reading, Normal, FoundDateTimeKind, DateTime, EachCanBeMade, Skipped, TzError, valid_reading, Disambiguation, IsMeaning, IsMeantIn, instant_meant, same_Some, IsMeaningFault, entry_meant, IsMeantFault}
use Rattle.std.proofs.Common.{IfSome, FitsSigned}
use Rattle.std.specs.Int.{w32}
use Rattle.tz.proofs.UniqueLists.{found_unique}
use Rattle.tz.proofs.UniqueResults.{clock_fault_unique, no_fault_where_made, no_fault_where_shown, search_fault_unique, shown_unique}

module _ (z : Zone) (choice : Disambiguation) (f : Fields) where
  meant_unique : (entry : Option FoundDateTimeKind) (d e : Option DateTime) → IsMeantIn z choice f entry d
      → IsMeantIn z choice f entry e → d ≡ e
  meant_unique (Some (Normal shown)) (Some d) (Some e) is is' = ap Some (is ∙ sym is')
  meant_unique (Some (Skipped before after)) (Some d) (Some e) is is' =
      ap Some (shown_unique z (instant_meant choice (reading f) before after) f.nanoseconds d e is is')
  meant_unique (Some entry) (Some d) None is is' = absurd is'
  meant_unique (Some entry) None e is is' = absurd is
  meant_unique None None None is is' = refl
  meant_unique None None (Some e) is is' = absurd is'
  meant_unique None (Some d) e is is' = absurd is

  meant_fault_unique : (entry : FoundDateTimeKind) (e e' : TzError) → IsMeantFault z choice f entry e
      → IsMeantFault z choice f entry e' → e ≡ e'
  meant_fault_unique (Normal shown) e e' is is' = absurd is
  meant_fault_unique (Skipped before after) e e' is is' =
      clock_fault_unique z (instant_meant choice (reading f) before after) f.nanoseconds e e' is is'

  pub meaning_unique : (d e : Option DateTime) → IsMeaning z choice f d → IsMeaning z choice f e → d ≡ e
  meaning_unique d e (found, is, meant) (others, is', meant') =
      meant_unique (entry_meant choice found) d e meant
      (subst (λ (list : List FoundDateTimeKind). IsMeantIn z choice f (entry_meant choice list) e)
      (found_unique (IsClock z) f others found is' is) meant')

  pub meaning_fault_unique : (e e' : TzError) → IsMeaningFault z choice f e → IsMeaningFault z choice f e' → e ≡ e'
  meaning_fault_unique e e' (inl fault) (inl fault') = search_fault_unique z f e e' fault fault'
  meaning_fault_unique e e' (inl fault) (inr (found, entry, valid, is, made, at, meant)) =
      absurd (no_fault_where_made z f valid made e fault)
  meaning_fault_unique e e' (inr (found, entry, valid, is, made, at, meant)) (inl fault) =
      absurd (no_fault_where_made z f valid made e' fault)
  meaning_fault_unique e e' (inr (found, entry, valid, is, made, at, meant))
      (inr (others, other, valid', is', made', at', meant')) =
      let same = found_unique (IsClock z) f others found is' is in
      meant_fault_unique entry e e' meant (subst (λ (x : FoundDateTimeKind). IsMeantFault z choice f x e')
      (same_Some other entry (sym at' ∙ ap (entry_meant choice) same ∙ at)) meant')

  meant_or_fault : (entry : FoundDateTimeKind) (d : Option DateTime) (e : TzError) → IsMeantIn z choice f (Some entry) d
      → IfSome d (λ shown. FitsSigned w32 shown.fields.year) → ¬ IsMeantFault z choice f entry e
  meant_or_fault (Normal shown) d e meant fits fault = fault
  meant_or_fault (Skipped before after) None e meant fits fault = meant
  meant_or_fault (Skipped before after) (Some d) e (t, clock, shows) fits fault =
      let reads = valid_reading d.fields shows.civil.valid fits (λ past. omega (arith, past.5, shows.civil.below_60)) in
      let at = instant_meant choice (reading f) before after in
      no_fault_where_shown z at f.nanoseconds d e (t, clock, shows) reads fault

  -- what is meant is not refused
  pub meaning_or_fault : (d : Option DateTime) (e : TzError) → IsMeaning z choice f d → IsValid f
      → EachCanBeMade (IsClock z) f → IfSome d (λ shown. FitsSigned w32 shown.fields.year)
      → ¬ IsMeaningFault z choice f e
  meaning_or_fault d e is valid made fits (inl fault) = no_fault_where_made z f valid made e fault
  meaning_or_fault d e (found, is, meant) valid made fits (inr (others, entry, _, is', _, at, fault)) =
      let same = ap (entry_meant choice) (found_unique (IsClock z) f found others is is') ∙ at in
      let meant_in = subst (λ (x : Option FoundDateTimeKind). IsMeantIn z choice f x d) same meant in
      meant_or_fault entry d e meant_in fits fault
