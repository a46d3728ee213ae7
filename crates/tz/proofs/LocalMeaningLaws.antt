-- A meaning is that of one list, and of this list each choice means one entry or none.
use Rattle.tz.proofs.Common.{arith, refl, ◌≡◌, subst, ◌∙◌, sym, [], ap, ℕ, ◌∷◌, List, length, Fields, IsClock, Some, Zone, ◌≤◌, ◌-◌, None, Option, reading, ◌≢◌, Normal, FoundDateTimeKind, DateTime, Skipped, IsFound, ShowsByClock, Disambiguation, HasMeaning, IsMeaning, IsMeantIn, More, instant_meant, Compatible, Earlier, Later, Nothing, Once, Reject, Twice, entry_meant, meaning_of, option_or, ChoicesAgree, first_shown, last_entry, only_shown}
use Rattle.std.proofs.Common.{◌↔◌, slice_get}
use Rattle.tz.specs.declared.datetime.meaning.Meaning.{Meaning}
use Rattle.tz.specs.declared.datetime.meaning.Meaning.TheVariants.{Skipped as Gap}
use Rattle.tz.proofs.UniqueLists.{found_unique}
use Rattle.tz.proofs.UniqueMeanings.{meaning_unique}

abbrev Entries : Type 0
Entries = List FoundDateTimeKind

-- which list has a meaning
list_of_nothing : (found : Entries) → Nothing ≡ meaning_of found → found ≡ []
list_of_nothing [] is = refl
list_of_nothing (Normal d ∷ []) is = absurd (cc is)
list_of_nothing (Normal d ∷ Normal e ∷ []) is = absurd (cc is)
list_of_nothing (Normal d ∷ Normal e ∷ x ∷ xs) is = absurd (cc is)
list_of_nothing (Normal d ∷ Skipped a b ∷ xs) is = absurd (cc is)
list_of_nothing (Skipped a b ∷ []) is = absurd (cc is)
list_of_nothing (Skipped a b ∷ x ∷ xs) is = absurd (cc is)

list_of_once : (d : DateTime) (found : Entries) → Once d ≡ meaning_of found → found ≡ Normal d ∷ []
list_of_once d [] is = absurd (cc is)
list_of_once d (Normal e ∷ []) is = cc is
list_of_once d (Normal e ∷ Normal e' ∷ []) is = absurd (cc is)
list_of_once d (Normal e ∷ Normal e' ∷ x ∷ xs) is = absurd (cc is)
list_of_once d (Normal e ∷ Skipped a b ∷ xs) is = absurd (cc is)
list_of_once d (Skipped a b ∷ []) is = absurd (cc is)
list_of_once d (Skipped a b ∷ x ∷ xs) is = absurd (cc is)

list_of_twice : (d d' : DateTime) (found : Entries) → Twice d d' ≡ meaning_of found
    → found ≡ Normal d ∷ Normal d' ∷ []
list_of_twice d d' [] is = absurd (cc is)
list_of_twice d d' (Normal e ∷ []) is = absurd (cc is)
list_of_twice d d' (Normal e ∷ Normal e' ∷ []) is = cc is
list_of_twice d d' (Normal e ∷ Normal e' ∷ x ∷ xs) is = absurd (cc is)
list_of_twice d d' (Normal e ∷ Skipped a b ∷ xs) is = absurd (cc is)
list_of_twice d d' (Skipped a b ∷ []) is = absurd (cc is)
list_of_twice d d' (Skipped a b ∷ x ∷ xs) is = absurd (cc is)

list_of_gap : (a b : DateTime) (found : Entries) → Gap a b ≡ meaning_of found → found ≡ Skipped a b ∷ []
list_of_gap a b [] is = absurd (cc is)
list_of_gap a b (Normal e ∷ []) is = absurd (cc is)
list_of_gap a b (Normal e ∷ Normal e' ∷ []) is = absurd (cc is)
list_of_gap a b (Normal e ∷ Normal e' ∷ x ∷ xs) is = absurd (cc is)
list_of_gap a b (Normal e ∷ Skipped a' b' ∷ xs) is = absurd (cc is)
list_of_gap a b (Skipped a' b' ∷ []) is = cc is
list_of_gap a b (Skipped a' b' ∷ x ∷ xs) is = absurd (cc is)

count_of_more : (n : ℕ) (found : Entries) → More n ≡ meaning_of found → (n ≡ length found) × (2 ≤ length found)
count_of_more n [] is = absurd (cc is)
count_of_more n (Normal e ∷ []) is = absurd (cc is)
count_of_more n (Normal e ∷ Normal e' ∷ []) is = absurd (cc is)
count_of_more n (Normal e ∷ Normal e' ∷ x ∷ xs) is = (cc is, omega arith)
count_of_more n (Normal e ∷ Skipped a b ∷ xs) is = (cc is, omega arith)
count_of_more n (Skipped a b ∷ []) is = absurd (cc is)
count_of_more n (Skipped a b ∷ x ∷ xs) is = (cc is, omega arith)

-- a list with an entry has a last one
at_last : (x : FoundDateTimeKind) (xs : Entries)
    → (e : FoundDateTimeKind) × (slice_get (x ∷ xs) (length xs) ≡ Some e)
at_last x [] = (x, refl)
at_last x (y ∷ ys) = at_last y ys

has_last : (x : FoundDateTimeKind) (xs : Entries) → (e : FoundDateTimeKind) × (last_entry (x ∷ xs) ≡ Some e)
has_last x xs =
    let position : length xs ≡ length (x ∷ xs) - 1 = omega arith in
    subst (λ (k : ℕ). (e : FoundDateTimeKind) × (slice_get (x ∷ xs) k ≡ Some e)) position (at_last x xs)

-- `Reject` means the entry of one date time alone
rejected_if_not : (found : Entries) → ((d : DateTime) → meaning_of found ≢ Once d) → only_shown found ≡ None
rejected_if_not [] other = refl
rejected_if_not (Normal d ∷ []) other = absurd (other d refl)
rejected_if_not (Normal d ∷ x ∷ xs) other = refl
rejected_if_not (Skipped a b ∷ xs) other = refl

module _ (z : Zone) (f : Fields) where
  pub local_meaning_unique : (m m' : Meaning) → HasMeaning z f m → HasMeaning z f m' → m ≡ m'
  local_meaning_unique m m' (found, is, at) (others, is', at') =
      at ∙ ap meaning_of (found_unique (IsClock z) f found others is is') ∙ sym at'

  -- the list that has the meaning is what is found
  found_of : (list : Entries) (m : Meaning) → ((found : Entries) → m ≡ meaning_of found → found ≡ list)
      → HasMeaning z f m → IsFound (IsClock z) f list
  found_of list m only (found, is, at) = subst (λ (l : Entries). IsFound (IsClock z) f l) (only found at) is

  pub found_of_nothing : HasMeaning z f Nothing ↔ IsFound (IsClock z) f []
  found_of_nothing = (found_of [] Nothing list_of_nothing, λ is. ([], is, refl))

  pub found_of_once : (d : DateTime) → HasMeaning z f (Once d) ↔ IsFound (IsClock z) f (Normal d ∷ [])
  found_of_once d = (found_of (Normal d ∷ []) (Once d) (list_of_once d), λ is. (Normal d ∷ [], is, refl))

  pub found_of_twice : (d d' : DateTime) → HasMeaning z f (Twice d d')
      ↔ IsFound (IsClock z) f (Normal d ∷ Normal d' ∷ [])
  found_of_twice d d' =
      let list = Normal d ∷ Normal d' ∷ [] in
      (found_of list (Twice d d') (list_of_twice d d'), λ is. (list, is, refl))

  pub found_of_gap : (a b : DateTime) → HasMeaning z f (Gap a b) ↔ IsFound (IsClock z) f (Skipped a b ∷ [])
  found_of_gap a b = (found_of (Skipped a b ∷ []) (Gap a b) (list_of_gap a b), λ is. (Skipped a b ∷ [], is, refl))

  pub found_of_more : (n : ℕ) (found : Entries) → HasMeaning z f (More n) → IsFound (IsClock z) f found
      → (n ≡ length found) × (2 ≤ n)
  found_of_more n found (list, is, at) is' =
      let counted = count_of_more n list at in
      let same = ap length (found_unique (IsClock z) f list found is is') in
      (counted.0 ∙ same, omega (arith, counted.0, counted.1))

  -- what the choices mean of a list with this meaning
  choices_of : (found : Entries) → IsFound (IsClock z) f found → ChoicesAgree z f (meaning_of found)
  choices_of [] is = nothing
    where
      nothing : (choice : Disambiguation) → IsMeaning z choice f None
      nothing Compatible = ([], is, tt)
      nothing Earlier = ([], is, tt)
      nothing Later = ([], is, tt)
      nothing Reject = ([], is, tt)
  choices_of (Normal d ∷ []) is = once
    where
      once : (choice : Disambiguation) → IsMeaning z choice f (Some d)
      once Compatible = (Normal d ∷ [], is, refl)
      once Earlier = (Normal d ∷ [], is, refl)
      once Later = (Normal d ∷ [], is, refl)
      once Reject = (Normal d ∷ [], is, refl)
  choices_of (Normal d ∷ Normal e ∷ []) is =
      let list = Normal d ∷ Normal e ∷ [] in
      ((list, is, refl), (list, is, refl), (list, is, refl), (list, is, tt))
  choices_of (Normal d ∷ Normal e ∷ x ∷ xs) is = (Normal d ∷ Normal e ∷ x ∷ xs, is, tt)
  choices_of (Normal d ∷ Skipped a b ∷ xs) is = (Normal d ∷ Skipped a b ∷ xs, is, tt)
  choices_of (Skipped a b ∷ []) is = ((Skipped a b ∷ [], is, tt), looked_up)
    where
      looked_up : (choice : Disambiguation) (d : DateTime) → choice ≢ Reject
          → ShowsByClock z (instant_meant choice (reading f) a b) f.nanoseconds d → IsMeaning z choice f (Some d)
      looked_up Compatible d other shows = (Skipped a b ∷ [], is, shows)
      looked_up Earlier d other shows = (Skipped a b ∷ [], is, shows)
      looked_up Later d other shows = (Skipped a b ∷ [], is, shows)
      looked_up Reject d other shows = absurd (other refl)
  choices_of (Skipped a b ∷ x ∷ xs) is = (Skipped a b ∷ x ∷ xs, is, tt)

  pub choices_agree : (m : Meaning) → HasMeaning z f m → ChoicesAgree z f m
  choices_agree m (found, is, at) = subst (λ (x : Meaning). ChoicesAgree z f x) (sym at) (choices_of found is)

  -- a date time that `Reject` gives is the meaning
  once_of_rejected : (d : DateTime) → IsMeaning z Reject f (Some d) → HasMeaning z f (Once d)
  once_of_rejected d (Normal e ∷ [], is, same) = (Normal e ∷ [], is, ap Once same)
  once_of_rejected d ([], is, none) = absurd none
  once_of_rejected d (Normal e ∷ x ∷ xs, is, none) = absurd none
  once_of_rejected d (Skipped a b ∷ xs, is, none) = absurd none

  pub once_by_choices : (d : DateTime) → HasMeaning z f (Once d)
      ↔ ((choice : Disambiguation) → IsMeaning z choice f (Some d))
  once_by_choices d = (choices_agree (Once d), λ each. once_of_rejected d (each Reject))

  pub rejected_unless_once : (m : Meaning) → HasMeaning z f m
      → IsMeaning z Reject f None ↔ ((d : DateTime) → m ≢ Once d)
  rejected_unless_once m (found, is, at) = (not_once, rejected)
    where
      not_once : IsMeaning z Reject f None → (d : DateTime) → m ≢ Once d
      not_once none d once =
          let some = choices_agree (Once d) (found, is, sym once ∙ at) Reject in
          absurd (cc (meaning_unique z Reject f None (Some d) none some))

      rejected : ((d : DateTime) → m ≢ Once d) → IsMeaning z Reject f None
      rejected other =
          let none = rejected_if_not found (λ d once. other d (at ∙ once)) in
          (found, is, subst (λ (entry : Option FoundDateTimeKind). IsMeantIn z Reject f entry None) (sym none) tt)

  -- but for `Reject`, a choice means an entry of each list that has one
  not_none : (a b : Option FoundDateTimeKind) (choice : Disambiguation) → (e : FoundDateTimeKind) × (b ≡ Some e)
      → ¬ IsMeantIn z choice f (option_or a b) None
  not_none (Some x) b choice last none = none
  not_none None b choice (e, same) none =
      subst (λ (entry : Option FoundDateTimeKind). IsMeantIn z choice f entry None) same none

  nothing_of_none : (choice : Disambiguation) (found : Entries) → choice ≢ Reject
      → IsMeantIn z choice f (entry_meant choice found) None → found ≡ []
  nothing_of_none choice [] other none = refl
  nothing_of_none Compatible (x ∷ xs) other none =
      absurd (not_none (first_shown (x ∷ xs)) (last_entry (x ∷ xs)) Compatible (has_last x xs) none)
  nothing_of_none Earlier (x ∷ xs) other none = absurd none
  nothing_of_none Later (x ∷ xs) other none =
      absurd (not_none None (last_entry (x ∷ xs)) Later (has_last x xs) none)
  nothing_of_none Reject (x ∷ xs) other none = absurd (other refl)

  pub nothing_by_choice : (choice : Disambiguation) → choice ≢ Reject
      → HasMeaning z f Nothing ↔ IsMeaning z choice f None
  nothing_by_choice choice other = (
    (λ nothing. choices_agree Nothing nothing choice),
    (λ (found, is, none). (found, is, sym (ap meaning_of (nothing_of_none choice found other none)))),
  )
