-- A walk past spans of time, in each of which a clock has one type or none, finds all entries of a reading in its
-- window.
use Rattle.tz.proofs.Common.{arith, refl, ◌≡◌, subst, ◌∙◌, ints, inr, sym, inl, [], ap, ℕ, ◌∷◌, ◌<◌, List, length, pos, ℤ, IsClock, Some, Zone, ◌≤◌, ◌++◌, suc, ◌-ℤ◌, zero, ◌+ℤ◌, ◌<ℤ◌, ◌≤ℤ◌, None, Option, negsuc, LocalTimeType, Shown, ◌⊎◌, get_or, Jump, Entry, append-nil, Clock, All-nil, Contains, HasTwoTypes, IsEntryIn, by_lt_z, borrowed_type, AreEntries, PassesOver, same_Some, All-weaker, AreLeapSeconds, Bor, IsEntryOf, IsJumpOver, MatchOption, All-push, AreEntriesBefore, Contains-append_left, Contains-push, HasNoType, HoldsAt, IsEarlier, IsGiven, clock_unique, none-some}
use Rattle.std.proofs.lemmas.List.Quantifiers.{all_pairs_push}
use Rattle.tz.specs.Entries.{instant_of}

-- the offsets of all types that a clock has, such as a reading's window has them
abbrev pub AreOffsetsAround : Clock → ℤ → ℤ → ℤ → Type 0
AreOffsetsAround clock low high r = (u : ℤ) (t : LocalTimeType) → clock u t → ((r -ℤ high) ≤ℤ t.ut_offset)
    × (t.ut_offset ≤ℤ (r -ℤ low))

-- the type just before an instant, of which nothing is known before the window's first
abbrev pub IsJustBefore : Clock → ℤ → ℤ → Option LocalTimeType → Type 0
IsJustBefore clock low since before = ((since ≡ low) × (before ≡ None)) ⊎ HoldsAt clock (since -ℤ pos 1) before

-- the type throughout a span
abbrev pub HoldsTo : Clock → ℤ → ℤ → Option LocalTimeType → Type 0
HoldsTo clock since last type = (u : ℤ) → since ≤ℤ u → u ≤ℤ last → HoldsAt clock u type

-- the offset of the one type there
same_offset : (type : Option LocalTimeType) (s t : LocalTimeType) → type ≡ Some s → type ≡ Some t
    → s.ut_offset ≡ t.ut_offset
same_offset type s t is is' = ap (λ (x : LocalTimeType). x.ut_offset) (same_Some s t (sym is ∙ is'))

-- the entry of a span, by the instants at which its type and the one before it show the reading
module _ (r : ℤ) (before : Option LocalTimeType) (since : ℤ) (type : Option LocalTimeType) (last : ℤ) where
  pub given_shown : (t : LocalTimeType) (u : ℤ) → type ≡ Some t → u ≡ r -ℤ t.ut_offset → since ≤ℤ u → u ≤ℤ last
      → IsEntryOf r before since type last (Shown u t)
  given_shown t u is at from to = (is, (from, to), omega (arith, ints, at))

  pub none_without : type ≡ None → (e : Entry) → ¬ IsEntryOf r before since type last e
  none_without none (Shown u t) (is, within, shown) = none-some t (sym none ∙ is)
  none_without none (Jump u a b) (at, was, is, (low, high)) = none-some b (sym none ∙ is)

  pub none_late : (t : LocalTimeType) (u : ℤ) → type ≡ Some t → u ≡ r -ℤ t.ut_offset → since ≤ℤ u → last <ℤ u
      → (e : Entry) → ¬ IsEntryOf r before since type last e
  none_late t u is at from late (Shown v s) (type_is, within, shown) =
      absurd (omega (arith, ints, at, late, shown, within.1, same_offset type t s is type_is))
  none_late t u is at from late (Jump v a b) (here, was, type_is, (low, high)) =
      absurd (omega (arith, ints, at, from, here, high, same_offset type t b is type_is))

  pub none_first : (t : LocalTimeType) (u : ℤ) → before ≡ None → type ≡ Some t → u ≡ r -ℤ t.ut_offset → u <ℤ since
      → (e : Entry) → ¬ IsEntryOf r before since type last e
  none_first t u none is at early (Shown v s) (type_is, within, shown) =
      absurd (omega (arith, ints, at, early, shown, within.0, same_offset type t s is type_is))
  none_first t u none is at early (Jump v a b) (here, was, type_is, (low, high)) = none-some a (sym none ∙ was)

  pub none_beside : (s t : LocalTimeType) (v : ℤ) → before ≡ Some s → type ≡ Some t → v ≡ r -ℤ t.ut_offset → v <ℤ since
      → ¬ IsJumpOver r since s t → (e : Entry) → ¬ IsEntryOf r before since type last e
  none_beside s t v was is at_v early not_over (Shown w x) (type_is, within, shown) =
      absurd (omega (arith, ints, at_v, early, shown, within.0, same_offset type t x is type_is))
  none_beside s t v was is at_v early not_over (Jump w a b) (here, was', type_is, over) =
      let same = same_offset before s a was was' in
      let same' = same_offset type t b is type_is in
      absurd (not_over (omega (arith, ints, here, over.0, same), omega (arith, ints, here, over.1, same')))

  -- it is one entry at most
  entry_unique : (e g : Entry) → IsEntryOf r before since type last e → IsEntryOf r before since type last g → e ≡ g
  entry_unique (Shown u t) (Shown v s) (is, within, shown) (is', within', shown') =
      ap (λ w. Shown w t) (omega (arith, ints, same_offset type t s is is', shown, shown'))
      ∙ ap (λ x. Shown v x) (same_Some t s (sym is ∙ is'))
  entry_unique (Shown u t) (Jump v a b) (is, within, shown) (at, was, is', (low, high)) =
      absurd (omega (arith, ints, same_offset type t b is is', shown, within.0, at, high))
  entry_unique (Jump v a b) (Shown u t) (at, was, is', (low, high)) (is, within, shown) =
      absurd (omega (arith, ints, same_offset type t b is is', shown, within.0, at, high))
  entry_unique (Jump u a b) (Jump v a' b') (at, was, is, (low, high)) (at', was', is', (low', high')) =
      ap (λ w. Jump w a b) (at ∙ sym at') ∙ ap (λ s. Jump v s b) (same_Some a a' (sym was ∙ was'))
      ∙ ap (λ s. Jump v a' s) (same_Some b b' (sym is ∙ is'))

module _ (clock : Clock) (low high r : ℤ) (offsets : AreOffsetsAround clock low high r) where
  -- an entry is in the window, with the instant before a jump
  in_window : (e : Entry) → IsEntryIn clock r e → (low ≤ℤ instant_of e) × (instant_of e ≤ℤ high)
  in_window (Shown u t) shows = let offset = offsets u t shows.0 in
      (omega (arith, ints, shows.1, offset.1), omega (arith, ints, shows.1, offset.0))
  in_window (Jump u a b) passes = let before = offsets (u -ℤ pos 1) a passes.0 in
      (omega (arith, ints, passes.2.1, (offsets u b passes.1).1), omega (arith, ints, passes.2.0, before.0))

  jump_in_window : (u : ℤ) (a b : LocalTimeType) → PassesOver clock r u a b → low <ℤ u
  jump_in_window u a b passes = omega (arith, ints, passes.2.1, (offsets u b passes.1).1)

  -- before the window there is none
  pub entries_at_first : AreEntriesBefore clock r low []
  entries_at_first = record {
    sound = All-nil (λ e. IsEntryIn clock r e × (instant_of e <ℤ low));
    in_order = λ i j d less within. absurd (omega (arith, within));
    complete = λ e is early. absurd (omega (arith, ints, early, (in_window e is).0));
  }

  -- and after it there is none
  pub entries_at_last : (es : List Entry) (until : ℤ) → high <ℤ until → AreEntriesBefore clock r until es
      → AreEntries clock r es
  entries_at_last es until end are = record {
    sound = All-weaker (λ e. IsEntryIn clock r e × (instant_of e <ℤ until)) (IsEntryIn clock r)
        (λ e h. h.0) es are.sound;
    in_order = are.in_order;
    complete = λ e is. are.complete e is (omega (arith, ints, end, (in_window e is).1));
  }

  -- a list of rising instants in a window is no longer than the window
  pub few_entries : (es : List Entry) → (high -ℤ low) ≤ℤ pos 4294967296 → AreEntries clock r es → length es ≤ 8589934592
  few_entries [] width are = omega arith
  few_entries (first ∷ rest) width are =
      let until = in_window (get_or (first ∷ rest) (length rest) first) (are.sound (length rest) first (omega arith)) in
      omega (arith, ints, rising (length rest) (omega arith), until.1, width)
    where
      rising : (i : ℕ) → i < length (first ∷ rest) → (low +ℤ pos i) ≤ℤ instant_of (get_or (first ∷ rest) i first)
      rising zero h = omega (arith, ints, (in_window first (are.sound 0 first h)).0)
      rising (suc i) h = omega (arith, ints, rising i (omega arith), are.in_order i (suc i) first (omega arith) h)

  -- a span in which the clock has one type, or none
  module _ (before : Option LocalTimeType) (since : ℤ) (type : Option LocalTimeType) (last : ℤ)
      (just : IsJustBefore clock low since before) (holds : HoldsTo clock since last type) (some : since ≤ℤ last) where
    -- an entry of it is one of the clock
    pub entry_in : (e : Entry) → IsEntryOf r before since type last e → IsEntryIn clock r e × (since ≤ℤ instant_of e)
        × (instant_of e ≤ℤ last)
    entry_in (Shown u t) (is, within, shown) = (((holds u within.0 within.1 t).1 is, shown), within.0, within.1)
    entry_in (Jump u a b) (at, was, is, over) =
        let from : since ≤ℤ u = omega (arith, ints, at) in
        let to : u ≤ℤ last = omega (arith, ints, at, some) in
        elim just [
          | inl begins ↦ absurd (none-some a (sym begins.1 ∙ was))
          | inr goes_on ↦ (
            (
              subst (λ v. clock v a) (omega (arith, ints, at)) ((goes_on a).1 was),
              (holds u from to b).1
                  is,
              over,
            ),
            from,
            to,
          )
        ]

    -- and the other way round
    entry_of : (e : Entry) → IsEntryIn clock r e → since ≤ℤ instant_of e → instant_of e ≤ℤ last
        → IsEntryOf r before since type last e
    entry_of (Shown u t) shows from to = ((holds u from to t).0 shows.0, (from, to), shows.1)
    entry_of (Jump u a b) passes from to =
        let is = (holds u from to b).0 passes.1 in
        by_lt_z since u
        (λ later.
        let was = (holds (u -ℤ pos 1) (omega (arith, ints, later)) (omega (arith, ints, to)) a).0 passes.0 in
        absurd (omega (arith, ints, passes.2.0, passes.2.1, same_offset type a b was is)))
        (λ not_later.
        let at : u ≡ since = omega (arith, ints, not_later, from) in
        elim just [
          | inl begins ↦ absurd (omega (arith, ints, begins.0, at, jump_in_window u a b passes))
          | inr goes_on ↦
              (at, (goes_on a).0 (subst (λ v. clock v a) (omega (arith, ints, at)) passes.0), is, passes.2)
        ])

    -- all entries before the span, and its own entry, are all before its end
    pub entries_after : (es new : List Entry) (until : ℤ) → until ≡ last +ℤ pos 1 → AreEntriesBefore clock r since es
        → IsGiven r before since type last new → AreEntriesBefore clock r until (es ++ new)
    entries_after es new until end are (inl (is, none)) =
        subst (λ all. AreEntriesBefore clock r until all) (sym (ap (λ more. es ++ more) is ∙ append-nil es))
        (record {
          sound = All-weaker (λ e. IsEntryIn clock r e × (instant_of e <ℤ since)) (λ e. IsEntryIn clock r e
              × (instant_of e <ℤ until)) (λ e h. (h.0, omega (arith, ints, h.1, some, end))) es are.sound;
          in_order = are.in_order;
          complete = λ e is_in early. by_lt_z (instant_of e) since
              (λ earlier. are.complete e is_in earlier)
              (λ later. absurd (none e (entry_of e is_in (omega (arith, ints, later))
              (omega (arith, ints, early, end)))));
        })
    entries_after es new until end are (inr (g, of, is)) =
        let here = entry_in g of in
        subst (λ all. AreEntriesBefore clock r until all) (sym (ap (λ more. es ++ more) is))
        (record {
          sound = All-push (λ e. IsEntryIn clock r e × (instant_of e <ℤ until)) es g
              (All-weaker (λ e. IsEntryIn clock r e × (instant_of e <ℤ since)) (λ e. IsEntryIn clock r e
              × (instant_of e <ℤ until)) (λ e h. (h.0, omega (arith, ints, h.1, some, end))) es are.sound)
              (here.0, omega (arith, ints, here.2, end));
          in_order = all_pairs_push IsEarlier es g are.in_order
              (λ k d within. omega (arith, ints, (are.sound k d within).1, here.1));
          complete = λ e is_in early. by_lt_z (instant_of e) since
              (λ earlier. Contains-append_left es (g ∷ []) e (are.complete e is_in earlier))
              (λ later.
              let same = entry_unique r before since type last g e of
              (entry_of e is_in (omega (arith, ints, later)) (omega (arith, ints, early, end))) in
              subst (λ (x : Entry). Contains (es ++ g ∷ []) x) same (Contains-push es g));
        })

-- a type of the clock is the one that it has
pub holds_at : (z : Zone) → AreLeapSeconds z.leap_seconds → (u : ℤ) (t : LocalTimeType) → IsClock z u t
    → HoldsAt (IsClock z) u (Some t)
holds_at z leaps u t clock s = (
  (λ other. ap Some (clock_unique z u t s leaps clock other)),
  (λ same. subst (λ (x : LocalTimeType). IsClock z u x)
      (same_Some t s same) clock),
)

-- it has none
pub holds_none : (clock : Clock) (u : ℤ) → ((t : LocalTimeType) → ¬ clock u t) → HoldsAt clock u None
holds_none clock u none t = ((λ is. absurd (none t is)), (λ same. absurd (none-some t same)))

-- a walk has come to an instant: it took all entries before that, and the type just before it is known
pub record IsWalkedTo (clock : Clock) (r low : ℤ) (before : Option LocalTimeType) (since : ℤ) (es : List Entry) : Type 0
  where
    pub so_far : AreEntriesBefore clock r since es
    pub just_before : IsJustBefore clock low since before

module _ (clock : Clock) (low high r : ℤ) (offsets : AreOffsetsAround clock low high r) where
  -- past a span the walk comes to the second after it
  module _ (before : Option LocalTimeType) (since : ℤ) (es : List Entry) (way : IsWalkedTo clock r low before since es)
      (type : Option LocalTimeType) (last : ℤ) (holds : HoldsTo clock since last type) (some : since ≤ℤ last) where
    pub walked_on : (new : List Entry) → IsGiven r before since type last new → (until : ℤ) → until ≡ last +ℤ pos 1
        → IsWalkedTo clock r low type until (es ++ new)
    walked_on new given until at = record {
      so_far = entries_after clock low high r offsets before since type last way.just_before holds some es new
          until at way.so_far given;
      just_before = inr (holds (until -ℤ pos 1) (omega (arith, ints, at, some)) (omega (arith, ints, at)));
    }

    pub refused_there : (e : Entry) → IsEntryOf r before since type last e → IsEntryIn clock r e
    refused_there e of = (entry_in clock low high r offsets before since type last way.just_before holds some e of).0

  -- it begins with the window, or later if the clock has no type before that
  pub walked_to_first : (first : ℤ) → low ≤ℤ first → ((u : ℤ) → low ≤ℤ u → u <ℤ first → (t : LocalTimeType)
      → ¬ clock u t) → IsWalkedTo clock r low None first []
  walked_to_first first order never = by_lt_z low first
      (λ later. walked_on None low [] begin None (first -ℤ pos 1)
      (λ u from to. holds_none clock u (never u from (omega (arith, ints, to)))) (omega (arith, ints, later))
      [] (inl (refl, none_without r None low None (first -ℤ pos 1) refl)) first (omega (arith, ints)))
      (λ same. let at : low ≡ first = omega (arith, ints, same, order) in
      subst (λ v. IsWalkedTo clock r low None v []) at begin)
    where
      begin : IsWalkedTo clock r low None low []
      begin = record { so_far = entries_at_first clock low high r offsets; just_before = inl (refl, refl) }

  -- and ends after the window
  pub walked_to_end : (before : Option LocalTimeType) (since : ℤ) (es : List Entry)
      → IsWalkedTo clock r low before since es → high <ℤ since → AreEntries clock r es
  walked_to_end before since es way over = entries_at_last clock low high r offsets es since over way.so_far

-- throughout a span the clock has its type
pub span_holds : (z : Zone) → AreLeapSeconds z.leap_seconds → (since last : ℤ) (type : Option (Bor LocalTimeType))
    → ((u : ℤ) → since ≤ℤ u → u ≤ℤ last → MatchOption type (HasNoType z u) (λ t. IsClock z u t.now))
    → HoldsTo (IsClock z) since last (borrowed_type type)
span_holds z leaps since last type holds u from to = by_type type (holds u from to)
  where
    by_type : (type : Option (Bor LocalTimeType)) → MatchOption type (HasNoType z u) (λ t. IsClock z u t.now)
        → HoldsAt (IsClock z) u (borrowed_type type)
    by_type None none = holds_none (IsClock z) u none
    by_type (Some t) clock = holds_at z leaps u t.now clock

-- the clock has one type in all the window
pub entries_once : (z : Zone) → AreLeapSeconds z.leap_seconds → (r low high : ℤ) (t : LocalTimeType) (u : ℤ)
    → low ≤ℤ high → AreOffsetsAround (IsClock z) low high r →
    ((v : ℤ) → low ≤ℤ v → v ≤ℤ high → IsClock z v t) → u ≡ r -ℤ t.ut_offset → AreEntries (IsClock z) r (Shown u t ∷ [])
entries_once z leaps r low high t u order offsets through at =
    let clock = IsClock z in
    let offset = offsets low t (through low (omega (arith, ints)) order) in
    let holds : HoldsTo clock low high (Some t) = λ v from to. holds_at z leaps v t (through v from to) in
    let given = given_shown r None low (Some t) high t u refl at (omega (arith, ints, at, offset.1))
    (omega (arith, ints, at, offset.0)) in
    entries_at_last clock low high r offsets (Shown u t ∷ []) (high +ℤ pos 1) (omega (arith, ints))
    (entries_after clock low high r offsets None low (Some t) high (inl (refl, refl)) holds order [] (Shown u t ∷ [])
    (high +ℤ pos 1) refl (entries_at_first clock low high r offsets) (inr (Shown u t, given, refl)))

-- it has one type up to a jump, and another from there on
module _ (z : Zone) (r jump : ℤ) (a b : LocalTimeType) (has : HasTwoTypes z r jump a b) where
  first_holds : HoldsTo (IsClock z) has.low (jump -ℤ pos 1) (Some a)
  first_holds u from to = holds_at z has.leap_seconds_are u a (has.types_are.2 u from (omega (arith, ints, to)))

  second_holds : HoldsTo (IsClock z) jump has.high (Some b)
  second_holds u from to = holds_at z has.leap_seconds_are u b (has.types_are.3 u from to)

  begins : IsJustBefore (IsClock z) has.low has.low None
  begins = inl (refl, refl)

  goes_on : IsJustBefore (IsClock z) has.low jump (Some a)
  goes_on = inr (first_holds (jump -ℤ pos 1) (omega (arith, ints, has.types_are.0)) (omega (arith, ints)))

  -- the instants at which the types show the reading are in the window
  pub from_low : (u : ℤ) → u ≡ r -ℤ a.ut_offset → has.low ≤ℤ u
  from_low u at =
      let offset = has.offsets_are has.low a (has.types_are.2 has.low (omega (arith, ints)) has.types_are.0) in
      omega (arith, ints, at, offset.1)

  pub up_to_high : (v : ℤ) → v ≡ r -ℤ b.ut_offset → v ≤ℤ has.high
  up_to_high v at =
      let offset = has.offsets_are jump b (has.types_are.3 jump (omega (arith, ints)) has.types_are.1) in
      omega (arith, ints, at, offset.0)

  first_some : has.low ≤ℤ (jump -ℤ pos 1)
  first_some = omega (arith, ints, has.types_are.0)

  pub first_in : (e : Entry) → IsEntryOf r None has.low (Some a) (jump -ℤ pos 1) e → IsEntryIn (IsClock z) r e
  first_in e of = (entry_in (IsClock z) has.low has.high r has.offsets_are None has.low (Some a)
      (jump -ℤ pos 1) begins first_holds first_some e of).0

  pub second_in : (e : Entry) → IsEntryOf r (Some a) jump (Some b) has.high e → IsEntryIn (IsClock z) r e
  second_in e of = (entry_in (IsClock z) has.low has.high r has.offsets_are (Some a) jump (Some b) has.high goes_on
      second_holds has.types_are.1 e of).0

  pub entries_around : (es fs : List Entry) → IsGiven r None has.low (Some a) (jump -ℤ pos 1) es
      → IsGiven r (Some a) jump (Some b) has.high fs → AreEntries (IsClock z) r (es ++ fs)
  entries_around es fs first second =
      let clock = IsClock z in
      let before = entries_after clock has.low has.high r has.offsets_are None has.low (Some a)
      (jump -ℤ pos 1) begins first_holds first_some [] es jump (omega (arith, ints))
      (entries_at_first clock has.low has.high r has.offsets_are) first in
      entries_at_last clock has.low has.high r has.offsets_are (es ++ fs) (has.high +ℤ pos 1) (omega (arith, ints))
      (entries_after clock has.low has.high r has.offsets_are (Some a) jump (Some b) has.high goes_on second_holds
      has.types_are.1 es fs (has.high +ℤ pos 1) refl before second)

-- how many instants are left of the window
abbrev pub room : ℤ → ℕ
room (pos n) = n
room (negsuc n) = 0

pub room_less : (a b : ℤ) → pos 0 <ℤ a → b <ℤ a → room b < room a
room_less (pos a) (pos b) some less = omega (arith, ints, less)
room_less (pos a) (negsuc b) some less = omega (arith, ints, some)
room_less (negsuc a) b some less = absurd (omega (arith, ints, some))
