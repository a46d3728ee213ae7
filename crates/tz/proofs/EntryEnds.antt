-- Entries that are all inside the years of 32 bits have a list of date times, and its ends are those of the entries.
use Rattle.tz.proofs.Common.{arith, refl, ◌≡◌, ◌≢◌, subst, ◌∙◌, inr, sym, [], ap, ℕ, ◌∷◌, ◌<◌, List, length, ℤ, Fields, IsClock, Some, Zone, ◌++◌, suc, ◌-ℤ◌, zero, ◌+ℤ◌, ◌-◌, IsValid, None, Option, LocalTimeType, reading, Shown, Jump, Normal, Entry, FoundDateTimeKind, length-append, Clock, DateTime, EachCanBeMade, IsReading, Skipped, TzError, IsEntryInside, IsFound, IsEntryIn, ShowsByClock, All, Disambiguation, HasMeaning, IsClockFault, IsMeaning, IsMeantIn, More, ShowsInstant, entry_of, instant_meant, moment_of, ⊤, AllZip, AllZip-long, Bor, Compatible, Earlier, IsMadeOf, IsMeaningFault, IsRefused, IsSearchFault, Later, Nothing, Once, Reject, Shows, Twice, meaning_of, option_map, option_or, slice_get, All-head, All-tail, AreMore, GainsInside, HasInside, IsEndsOf, IsOutsideFault, IsTaker, first_entry, gains_more, gains_none, instant_between}
use Rattle.tz.specs.EntryEnds.{entry_meant, first_shown, last_entry}
use Rattle.tz.specs.Choices.{entry_meant as found_meant, first_shown as first_found_shown, last_entry as last_found}
use Rattle.tz.specs.declared.datetime.entry_ends.EntryEnds.{EntryEnds}
use Rattle.tz.specs.declared.datetime.entry_ends.Entry.{Entry as BorrowedEntry}
use Rattle.tz.specs.declared.datetime.entry_ends.Entry.TheVariants as borrowed
use Rattle.tz.specs.declared.datetime.meaning.Meaning.TheVariants.{Skipped as Gap}
use Rattle.tz.proofs.DatedEntries.{fault_from_refused, found_from_entries, made_from_entries, side_exists, side_unique}

-- the ends take entries of any reading
pub takes_all : IsTaker GainsInside (λ (ends : EntryEnds) (r : ℤ). ⊤)
takes_all = record { none = gains_none; more = gains_more; goes_on = λ ends grown es r gains takes. takes }

-- the first of a list and of one entry more, and so on
pub first_of_grown : (before : List Entry) (e : Entry)
    → first_entry (before ++ e ∷ []) ≡ option_or (first_entry before) (Some e)
first_of_grown [] e = refl
first_of_grown (first ∷ before) e = refl

-- the entry after a list stands at its length
behind : (before : List Entry) (e : Entry) → slice_get (before ++ e ∷ []) (length before) ≡ Some e
behind [] e = refl
behind (first ∷ before) e = behind before e

pub last_of_grown : (before : List Entry) (e : Entry) → last_entry (before ++ e ∷ []) ≡ Some e
last_of_grown before e =
    let size = length-append before (e ∷ []) in
    ap (λ i. slice_get (before ++ e ∷ []) i) (omega arith) ∙ behind before e

pub shown_of_grown : (before : List Entry) (u : ℤ) (t : LocalTimeType)
    → first_shown (before ++ Shown u t ∷ []) ≡ option_or (first_shown before) (Some (Shown u t))
shown_of_grown [] u t = refl
shown_of_grown (Shown v s ∷ before) u t = refl
shown_of_grown (Jump v a b ∷ before) u t = shown_of_grown before u t

pub shown_of_skipped : (before : List Entry) (u : ℤ) (a b : LocalTimeType)
    → first_shown (before ++ Jump u a b ∷ []) ≡ first_shown before
shown_of_skipped [] u a b = refl
shown_of_skipped (Shown v s ∷ before) u a b = refl
shown_of_skipped (Jump v s t ∷ before) u a b = shown_of_skipped before u a b

map_or : {X Y : Type 0} (f : X → Y) (a b : Option X)
    → option_map f (option_or a b) ≡ option_or (option_map f a) (option_map f b)
map_or f None b = refl
map_or f (Some x) b = refl

-- with one entry more
module _ (before : List Entry) (ends grown : EntryEnds) (are : IsEndsOf before ends) where
  ends_grown : (e : BorrowedEntry) → grown.count ≡ length (before ++ entry_of e ∷ [])
      → grown.first ≡ option_or ends.first (Some e) → grown.last ≡ Some e
      → option_map entry_of grown.shown ≡ first_shown (before ++ entry_of e ∷ [])
      → IsEndsOf (before ++ entry_of e ∷ []) grown
  ends_grown e count first last shown = record {
    count_is = count;
    first_is = ap (λ (x : Option BorrowedEntry). option_map entry_of x) first ∙ map_or entry_of ends.first (Some e)
        ∙ ap (λ (x : Option Entry). option_or x (Some (entry_of e))) are.first_is
        ∙ sym (first_of_grown before (entry_of e));
    last_is = ap (λ (x : Option BorrowedEntry). option_map entry_of x) last ∙ sym (last_of_grown before (entry_of e));
    shown_is = shown;
  }

  pub with_shown : (u : ℤ) (t : Bor LocalTimeType) → grown.count ≡ length (before ++ Shown u t.now ∷ [])
      → grown.first ≡ option_or ends.first (Some (borrowed.Shown u t))
      → grown.last ≡ Some (borrowed.Shown u t) → grown.shown ≡ option_or ends.shown (Some (borrowed.Shown u t))
      → IsEndsOf (before ++ Shown u t.now ∷ []) grown
  with_shown u t count first last shown = ends_grown (borrowed.Shown u t) count first last
      (ap (λ (x : Option BorrowedEntry). option_map entry_of x) shown
      ∙ map_or entry_of ends.shown (Some (borrowed.Shown u t))
      ∙ ap (λ (x : Option Entry). option_or x (Some (Shown u t.now))) are.shown_is
      ∙ sym (shown_of_grown before u t.now))

  pub with_jump : (e : BorrowedEntry) (u : ℤ) (a b : LocalTimeType) → entry_of e ≡ Jump u a b
      → grown.count ≡ length (before ++ Jump u a b ∷ []) → grown.first ≡ option_or ends.first (Some e)
      → grown.last ≡ Some e → grown.shown ≡ ends.shown → IsEndsOf (before ++ Jump u a b ∷ []) grown
  with_jump e u a b is count first last shown =
      subst (λ (x : Entry). IsEndsOf (before ++ x ∷ []) grown) is (ends_grown e
      (subst (λ (x : Entry). grown.count ≡ length (before ++ x ∷ [])) (sym is) count) first last
      (subst (λ (x : Entry). option_map entry_of grown.shown ≡ first_shown (before ++ x ∷ [])) (sym is)
      (ap (λ (x : Option BorrowedEntry). option_map entry_of x) shown ∙ are.shown_is
      ∙ sym (shown_of_skipped before u a b))))

-- all choices mean one that is shown alone
pub one_shown_meant : (choice : Disambiguation) (u : ℤ) (t : LocalTimeType)
    → Some (Shown u t) ≡ entry_meant choice (Shown u t ∷ [])
one_shown_meant Compatible u t = refl
one_shown_meant Earlier u t = refl
one_shown_meant Later u t = refl
one_shown_meant Reject u t = refl

-- the entries, by their number and ends
pub none_of : (es : List Entry) (ends : EntryEnds) → IsEndsOf es ends → ends.first ≡ None → es ≡ []
none_of [] ends are none = refl
none_of (e ∷ es) ends are none = let wrong = ap (λ (k : Option BorrowedEntry). option_map entry_of k) none in
    absurd (cc (are.first_is, wrong))

pub one_of : (es : List Entry) (ends : EntryEnds) → IsEndsOf es ends → (e : BorrowedEntry) → ends.count ≡ 1
    → ends.first ≡ Some e
    → es ≡ entry_of e ∷ []
one_of [] ends are e one first = absurd (omega (arith, are.count_is, one))
one_of (x ∷ []) ends are e one first =
    let same : Some x ≡ Some (entry_of e) =
    sym are.first_is ∙ ap (λ (k : Option BorrowedEntry). option_map entry_of k) first in
    ap (λ (k : Entry). k ∷ []) (cc same)
one_of (x ∷ y ∷ es) ends are e one first = absurd (omega (arith, are.count_is, one))

pub two_of : (es : List Entry) (ends : EntryEnds) → IsEndsOf es ends → (e g : BorrowedEntry) → ends.count ≡ 2
    → ends.first ≡ Some e → ends.last ≡ Some g
    → es ≡ entry_of e ∷ entry_of g ∷ []
two_of [] ends are e g two first last = absurd (omega (arith, are.count_is, two))
two_of (x ∷ []) ends are e g two first last = absurd (omega (arith, are.count_is, two))
two_of (x ∷ y ∷ []) ends are e g two first last =
    let same : Some x ≡ Some (entry_of e) =
    sym are.first_is ∙ ap (λ (k : Option BorrowedEntry). option_map entry_of k) first in
    let same' : Some y ≡ Some (entry_of g) =
    sym are.last_is ∙ ap (λ (k : Option BorrowedEntry). option_map entry_of k) last in
    ap (λ (k : Entry). k ∷ y ∷ []) (cc same) ∙ ap (λ (k : Entry). entry_of e ∷ k ∷ []) (cc same')
two_of (x ∷ y ∷ w ∷ es) ends are e g two first last = absurd (omega (arith, are.count_is, two))

-- two of which the last is a jump are more than a fold
ends_in_jump : (x : Entry) (u : ℤ) (a b : LocalTimeType) → AreMore (x ∷ Jump u a b ∷ [])
ends_in_jump (Shown v t) u a b = tt
ends_in_jump (Jump v s t) u a b = tt

pub more_with_jump : (es : List Entry) (ends : EntryEnds) → IsEndsOf es ends → (e : BorrowedEntry) → ends.count ≡ 2
    → ends.first ≡ Some e → (u : ℤ) (a b : Bor LocalTimeType) → ends.last ≡ Some (borrowed.Jump u a b) → AreMore es
more_with_jump es ends are e two first u a b last =
    subst AreMore (sym (two_of es ends are e (borrowed.Jump u a b) two first last))
    (ends_in_jump (entry_of e) u a.now b.now)

-- and so are three
pub more_than_two : (es : List Entry) (ends : EntryEnds) → IsEndsOf es ends → (e : BorrowedEntry) → ends.first ≡ Some e
    → ends.count ≢ 1 → ends.count ≢ 2 → AreMore es
more_than_two [] ends are e first one two =
    let some = ap (λ (k : Option BorrowedEntry). option_map entry_of k) first in
    absurd (cc (are.first_is, some))
more_than_two (x ∷ []) ends are e first one two = absurd (one are.count_is)
more_than_two (x ∷ y ∷ []) ends are e first one two = absurd (two are.count_is)
more_than_two (Shown u a ∷ Shown v b ∷ x ∷ es) ends are e first one two = tt
more_than_two (Shown u a ∷ Jump v b d ∷ x ∷ es) ends are e first one two = tt
more_than_two (Jump u a b ∷ y ∷ x ∷ es) ends are e first one two = tt

-- and more than a jump, if it is the first
pub more_than_jump : (es : List Entry) (ends : EntryEnds) → IsEndsOf es ends → (u : ℤ) (a b : Bor LocalTimeType)
    → ends.first ≡ Some (borrowed.Jump u a b) → ends.count ≢ 1 → AreMore es
more_than_jump [] ends are u a b first one =
    let some = ap (λ (k : Option BorrowedEntry). option_map entry_of k) first in
    absurd (cc (are.first_is, some))
more_than_jump (x ∷ []) ends are u a b first one = absurd (one are.count_is)
more_than_jump (Shown v t ∷ y ∷ es) ends are u a b first one =
    let some = ap (λ (k : Option BorrowedEntry). option_map entry_of k) first in
    absurd (cc (are.first_is, some))
more_than_jump (Jump v s t ∷ y ∷ es) ends are u a b first one = tt

-- an entry of the clock, and its date time
abbrev pub IsDated : Clock → Fields → Entry → FoundDateTimeKind → Type 0
IsDated clock f e x = IsMadeOf f e x × IsEntryIn clock (reading f) e

-- one is made of the other, or there is neither
abbrev pub MapsTo : {X Y : Type 0} → (X → Y → Type 0) → Option X → Option Y → Type 0
MapsTo R None None = ⊤
MapsTo R None (Some y) = ⊥
MapsTo R (Some x) None = ⊥
MapsTo R (Some x) (Some y) = R x y

-- at each index of two lists
either_at : {X Y : Type 0} (R : X → Y → Type 0) (xs : List X) (ys : List Y) → AllZip R xs ys → (i : ℕ)
    → MapsTo R (slice_get xs i) (slice_get ys i)
either_at R [] [] all i = tt
either_at R [] (y ∷ ys) all i = absurd all
either_at R (x ∷ xs) [] all i = absurd all
either_at R (x ∷ xs) (y ∷ ys) all zero = all.0
either_at R (x ∷ xs) (y ∷ ys) all (suc i) = either_at R xs ys all.1 i

module _ (clock : Clock) (f : Fields) where
  dated_list : (n : f.nanoseconds < 1000000000) (es : List Entry) → All (IsEntryIn clock (reading f)) es
      → All IsEntryInside es → (found : List FoundDateTimeKind) × AllZip (IsDated clock f) es found
  dated_list n [] are inside = ([], tt)
  dated_list n (Shown u t ∷ es) are inside =
      let rest = dated_list n es (All-tail (IsEntryIn clock (reading f)) (Shown u t) es are)
      (All-tail IsEntryInside (Shown u t) es inside) in (
        Normal (moment_of f t u) ∷ rest.0,
        (
          (
            (refl, tt),
            All-head (IsEntryIn clock (reading f))
                (Shown u t) es are,
          ),
          rest.1,
        ),
      )
  dated_list n (Jump u a b ∷ es) are inside =
      let rest = dated_list n es (All-tail (IsEntryIn clock (reading f)) (Jump u a b) es are)
      (All-tail IsEntryInside (Jump u a b) es inside) in
      let x = side_exists u f.nanoseconds a n in
      let y = side_exists u f.nanoseconds b n in
      let here = All-head IsEntryInside (Jump u a b) es inside in (
        Skipped x.0 y.0 ∷ rest.0,
        (
          (
            (
              (x.0, y.0, refl, x.1, y.1),
              (
                subst IsReading (sym x.1.civil.reads) here.0,
                subst IsReading
                    (sym y.1.civil.reads) here.1,
              ),
            ),
            All-head (IsEntryIn clock (reading f)) (Jump u a b) es are,
          ),
          rest.1,
        ),
      )

  made_alone : (es : List Entry) (found : List FoundDateTimeKind) → AllZip (IsDated clock f) es found
      → AllZip (IsMadeOf f) es found
  made_alone [] [] all = tt
  made_alone [] (x ∷ found) all = absurd all
  made_alone (e ∷ es) [] all = absurd all
  made_alone (e ∷ es) (x ∷ found) all = (all.0.0, made_alone es found all.1)

  -- the first shown of both lists, and the only one
  first_either : (es : List Entry) (found : List FoundDateTimeKind) → AllZip (IsDated clock f) es found
      → MapsTo (IsDated clock f) (first_shown es) (first_found_shown found)
  first_either [] [] all = tt
  first_either [] (x ∷ found) all = absurd all
  first_either (e ∷ es) [] all = absurd all
  first_either (Shown u t ∷ es) (Normal d ∷ found) all = all.0
  first_either (Shown u t ∷ es) (Skipped x y ∷ found) all = let wrong = all.0.0.0 in absurd (cc wrong)
  first_either (Jump u a b ∷ es) (Normal d ∷ found) all = let (x, y, wrong, shows, shows') = all.0.0.0 in
      absurd (cc wrong)
  first_either (Jump u a b ∷ es) (Skipped x y ∷ found) all = first_either es found all.1

  last_either : (es : List Entry) (found : List FoundDateTimeKind) → AllZip (IsDated clock f) es found
      → MapsTo (IsDated clock f) (last_entry es) (last_found found)
  last_either es found all =
      let size = AllZip-long (IsDated clock f) es found all in
      subst (λ (n : ℕ). MapsTo (IsDated clock f) (last_entry es) (slice_get found (n - 1))) (sym size)
      (either_at (IsDated clock f) es found all (length es - 1))

  either_or : (e g : Option Entry) (x y : Option FoundDateTimeKind) → MapsTo (IsDated clock f) e x
      → MapsTo (IsDated clock f) g y → MapsTo (IsDated clock f) (option_or e g) (option_or x y)
  either_or None g None y first second = second
  either_or None g (Some x) y first second = absurd first
  either_or (Some e) g None y first second = absurd first
  either_or (Some e) g (Some x) y first second = first

  -- so the entry that is meant has the date time that is meant
  meant_either : (choice : Disambiguation) (es : List Entry) (found : List FoundDateTimeKind)
      → AllZip (IsDated clock f) es found
      → MapsTo (IsDated clock f) (entry_meant choice es) (found_meant choice found)
  meant_either Compatible es found all = either_or (first_shown es) (last_entry es) (first_found_shown found)
      (last_found found) (first_either es found all) (last_either es found all)
  meant_either Earlier es found all = either_at (IsDated clock f) es found all 0
  meant_either Later es found all = last_either es found all
  meant_either Reject [] [] all = tt
  meant_either Reject [] (x ∷ found) all = absurd all
  meant_either Reject (e ∷ es) [] all = absurd all
  meant_either Reject (Shown u t ∷ []) (Normal d ∷ []) all = all.0
  meant_either Reject (Shown u t ∷ []) (Skipped x y ∷ []) all = let wrong = all.0.0.0 in absurd (cc wrong)
  meant_either Reject (Jump u a b ∷ []) (Normal d ∷ []) all = let (x, y, wrong, shows, shows') = all.0.0.0 in
      absurd (cc wrong)
  meant_either Reject (Jump u a b ∷ []) (Skipped x y ∷ []) all = tt
  meant_either Reject (e ∷ []) (x ∷ y ∷ found) all = absurd all.1
  meant_either Reject (e ∷ g ∷ es) (x ∷ []) all = absurd all.1
  meant_either Reject (Shown u t ∷ g ∷ es) (Normal d ∷ y ∷ found) all = tt
  meant_either Reject (Shown u t ∷ g ∷ es) (Skipped x x' ∷ y ∷ found) all = tt
  meant_either Reject (Jump u a b ∷ g ∷ es) (Normal d ∷ y ∷ found) all = tt
  meant_either Reject (Jump u a b ∷ g ∷ es) (Skipped x x' ∷ y ∷ found) all = tt

-- what is found of valid fields
module _ (z : Zone) (f : Fields) (valid : IsValid f) (has : HasInside (IsClock z) (reading f)) where
  found : (found : List FoundDateTimeKind) × AllZip (IsDated (IsClock z) f) has.0 found
  found = dated_list (IsClock z) f valid.in_range.nanoseconds has.0 has.1.sound has.2

  made : AllZip (IsMadeOf f) has.0 found.0
  made = made_alone (IsClock z) f has.0 found.0 found.1

  is_found : IsFound (IsClock z) f found.0
  is_found = found_from_entries (IsClock z) f has.0 found.0 has.1 made

  pub each_made : EachCanBeMade (IsClock z) f
  each_made = made_from_entries (IsClock z) f has.0 found.0 has.1 made

  module _ (choice : Disambiguation) where
    meant : MapsTo (IsDated (IsClock z) f) (entry_meant choice has.0) (found_meant choice found.0)
    meant = meant_either (IsClock z) f choice has.0 found.0 found.1

    -- the entry that is meant is none
    pub none_meant : entry_meant choice has.0 ≡ None → IsMeaning z choice f None
    none_meant none = (
      found.0,
      is_found,
      by_meant (found_meant choice found.0)
          (subst (λ (e : Option Entry). MapsTo (IsDated (IsClock z) f) e (found_meant choice found.0)) none meant),
    )
      where
        by_meant : (x : Option FoundDateTimeKind) → MapsTo (IsDated (IsClock z) f) None x → IsMeantIn z choice f x None
        by_meant None either = tt
        by_meant (Some x) either = absurd either

    -- it is shown
    pub shown_meant : (u : ℤ) (t : LocalTimeType) → entry_meant choice has.0 ≡ Some (Shown u t)
        → Shows (IsClock z) (reading f) u t × IsMeaning z choice f (Some (moment_of f t u))
    shown_meant u t is =
        let both = by_meant (found_meant choice found.0)
        (subst (λ (e : Option Entry). MapsTo (IsDated (IsClock z) f) e (found_meant choice found.0)) is meant) in
        (both.0, (found.0, is_found, both.1))
      where
        by_meant : (x : Option FoundDateTimeKind) → MapsTo (IsDated (IsClock z) f) (Some (Shown u t)) x
            → Shows (IsClock z) (reading f) u t × IsMeantIn z choice f x (Some (moment_of f t u))
        by_meant None either = absurd either
        by_meant (Some (Normal d)) either = let is = either.0.0 in (either.1, cc)
        by_meant (Some (Skipped x y)) either = let wrong = either.0.0 in absurd (cc wrong)

    -- it is a jump, so the clock is looked up
    module _ (u : ℤ) (a b : LocalTimeType) (is : entry_meant choice has.0 ≡ Some (Jump u a b)) where
      jump : (entry : FoundDateTimeKind) × (found_meant choice found.0 ≡ Some entry) × IsMadeOf f (Jump u a b) entry
      jump = by_meant (found_meant choice found.0) refl
          (subst (λ (e : Option Entry). MapsTo (IsDated (IsClock z) f) e (found_meant choice found.0)) is meant)
        where
          by_meant : (x : Option FoundDateTimeKind) → found_meant choice found.0 ≡ x
              → MapsTo (IsDated (IsClock z) f) (Some (Jump u a b)) x → (entry : FoundDateTimeKind)
              × (found_meant choice found.0 ≡ Some entry) × IsMadeOf f (Jump u a b) entry
          by_meant None same either = absurd either
          by_meant (Some entry) same either = (entry, same, either.0)

      instant : (choice : Disambiguation) (x y : DateTime) → x.local_time_type ≡ a → y.local_time_type ≡ b
          → instant_between choice (reading f) a b ≡ instant_meant choice (reading f) x y
      instant Compatible x y before after = ap (λ (t : LocalTimeType). reading f -ℤ t.ut_offset) (sym before)
      instant Earlier x y before after = ap (λ (t : LocalTimeType). reading f -ℤ t.ut_offset) (sym after)
      instant Later x y before after = ap (λ (t : LocalTimeType). reading f -ℤ t.ut_offset) (sym before)
      instant Reject x y before after = ap (λ (t : LocalTimeType). reading f -ℤ t.ut_offset) (sym before)

      pub jump_meant : (d : DateTime) → ShowsByClock z (instant_between choice (reading f) a b) f.nanoseconds d
          → IsMeaning z choice f (Some d)
      jump_meant d shows =
          let (x, y, is_skipped, first, second) = jump.2.0 in
          let same : found_meant choice found.0 ≡ Some (Skipped x y) =
          jump.1 ∙ ap (λ (e : FoundDateTimeKind). Some e) is_skipped in
          let by : IsMeantIn z choice f (Some (Skipped x y)) (Some d) =
          subst (λ (v : ℤ). ShowsByClock z v f.nanoseconds d) (instant choice x y first.type_is second.type_is)
          shows in
          (found.0, is_found, subst (λ (e : Option FoundDateTimeKind). IsMeantIn z choice f e (Some d)) (sym same) by)

      pub jump_fault : (e : TzError) → IsClockFault z (instant_between choice (reading f) a b) f.nanoseconds e
          → IsMeaningFault z choice f e
      jump_fault e fault =
          let (x, y, is_skipped, first, second) = jump.2.0 in
          let same : found_meant choice found.0 ≡ Some (Skipped x y) =
          jump.1 ∙ ap (λ (e : FoundDateTimeKind). Some e) is_skipped in
          let by = subst (λ (v : ℤ). IsClockFault z v f.nanoseconds e) (instant choice x y first.type_is second.type_is)
          fault in
          inr (found.0, Skipped x y, valid, is_found, each_made, same, by)

  -- the fields have the meaning of their entries
  pub means_nothing : has.0 ≡ [] → HasMeaning z f Nothing
  means_nothing none = (
    found.0,
    is_found,
    by found.0 (subst (λ (es : List Entry). AllZip (IsDated (IsClock z) f) es found.0) none
        found.1),
  )
    where
      by : (xs : List FoundDateTimeKind) → AllZip (IsDated (IsClock z) f) [] xs → Nothing ≡ meaning_of xs
      by [] all = refl
      by (x ∷ xs) all = absurd all

  pub means_once : (u : ℤ) (t : LocalTimeType) → has.0 ≡ Shown u t ∷ [] → Shows (IsClock z) (reading f) u t
      × HasMeaning z f (Once (moment_of f t u))
  means_once u t one =
      let all = by found.0 (subst (λ (es : List Entry). AllZip (IsDated (IsClock z) f) es found.0) one found.1) in
      (all.0, (found.0, is_found, all.1))
    where
      by : (xs : List FoundDateTimeKind) → AllZip (IsDated (IsClock z) f) (Shown u t ∷ []) xs
          → Shows (IsClock z) (reading f) u t × (Once (moment_of f t u) ≡ meaning_of xs)
      by [] all = absurd all
      by (Normal d ∷ []) all = let is = all.0.0.0 in
          (all.0.1, ap (λ (x : FoundDateTimeKind). meaning_of (x ∷ [])) (sym is))
      by (Skipped x y ∷ []) all = let wrong = all.0.0.0 in absurd (cc wrong)
      by (x ∷ y ∷ xs) all = absurd all.1

  pub means_twice : (u : ℤ) (a : LocalTimeType) (v : ℤ) (b : LocalTimeType) → has.0 ≡ Shown u a ∷ Shown v b ∷ []
      → Shows (IsClock z) (reading f) u a × Shows (IsClock z) (reading f) v b
      × HasMeaning z f (Twice (moment_of f a u) (moment_of f b v))
  means_twice u a v b two =
      let all = by found.0 (subst (λ (es : List Entry). AllZip (IsDated (IsClock z) f) es found.0) two found.1) in
      (all.0, all.1, (found.0, is_found, all.2))
    where
      by : (xs : List FoundDateTimeKind) → AllZip (IsDated (IsClock z) f) (Shown u a ∷ Shown v b ∷ []) xs
          → Shows (IsClock z) (reading f) u a × Shows (IsClock z) (reading f) v b
          × (Twice (moment_of f a u) (moment_of f b v) ≡ meaning_of xs)
      by [] all = absurd all
      by (x ∷ []) all = absurd all.1
      by (x ∷ y ∷ []) all = (
        all.0.1,
        all.1.0.1,
        ap (λ (w : FoundDateTimeKind). meaning_of (w ∷ Normal (moment_of f b v) ∷ []))
            (sym all.0.0.0) ∙ ap (λ (w : FoundDateTimeKind). meaning_of (x ∷ w ∷ [])) (sym all.1.0.0.0),
      )
      by (x ∷ y ∷ w ∷ xs) all = absurd all.1.1

  module _ (u : ℤ) (a b : LocalTimeType) (one : has.0 ≡ Jump u a b ∷ []) where
    pub sides_inside : IsReading (u +ℤ a.ut_offset) × IsReading (u +ℤ b.ut_offset)
    sides_inside = All-head IsEntryInside (Jump u a b) [] (subst (λ (es : List Entry). All IsEntryInside es) one has.2)

    pub means_gap : (x y : DateTime) → ShowsInstant u f.nanoseconds a x → ShowsInstant u f.nanoseconds b y
        → HasMeaning z f (Gap x y)
    means_gap x y first second = (
      found.0,
      is_found,
      by found.0 (subst (λ (es : List Entry). AllZip (IsDated (IsClock z) f) es found.0) one
          found.1),
    )
      where
        by : (xs : List FoundDateTimeKind) → AllZip (IsDated (IsClock z) f) (Jump u a b ∷ []) xs
            → Gap x y ≡ meaning_of xs
        by [] all = absurd all
        by (w ∷ []) all =
            let (x', y', is, first', second') = all.0.0.0 in
            ap (λ (d : DateTime). Gap d y) (side_unique u f.nanoseconds a x x' first first')
            ∙ ap (λ (d : DateTime). Gap x' d) (side_unique u f.nanoseconds b y y' second second')
            ∙ ap (λ (k : FoundDateTimeKind). meaning_of (k ∷ [])) (sym is)
        by (v ∷ w ∷ xs) all = absurd all.1

  pub means_more : AreMore has.0 → HasMeaning z f (More (length has.0))
  means_more more = (
    found.0,
    is_found,
    ap (λ (n : ℕ). More n) (sym (AllZip-long (IsDated (IsClock z) f) has.0 found.0 found.1))
        ∙ by has.0 found.0 found.1 more,
  )
    where
      by : (es : List Entry) (xs : List FoundDateTimeKind) → AllZip (IsDated (IsClock z) f) es xs → AreMore es
          → More (length xs) ≡ meaning_of xs
      by [] xs all more = absurd more
      by (e ∷ []) xs all more = absurd more
      by (Shown u a ∷ Shown v b ∷ []) xs all more = absurd more
      by (e ∷ g ∷ es) [] all more = absurd all
      by (e ∷ g ∷ es) (x ∷ []) all more = absurd all.1
      by (Shown u a ∷ Jump v b b' ∷ []) (Normal d ∷ Normal d' ∷ []) all more = let (x, y, wrong, shows, shows') =
          all.1.0.0.0 in absurd (cc wrong)
      by (Jump u a a' ∷ g ∷ []) (Normal d ∷ Normal d' ∷ []) all more = let (x, y, wrong, shows, shows') = all.0.0.0 in
          absurd (cc wrong)
      by (e ∷ g ∷ h ∷ es) (x ∷ y ∷ []) all more = absurd all.1.1
      by (e ∷ g ∷ es) (Normal d ∷ Skipped x y ∷ xs) all more = refl
      by (e ∷ g ∷ es) (Skipped x y ∷ w ∷ xs) all more = refl
      by (e ∷ g ∷ []) (x ∷ y ∷ w ∷ xs) all more = absurd all.1.1
      by (e ∷ g ∷ h ∷ es) (Normal d ∷ Normal d' ∷ w ∷ xs) all more = refl

-- a refused entry refuses the search
pub outside_refused : (clock : Clock) (f : Fields) → IsValid f → (fault : TzError)
    → IsRefused IsOutsideFault clock (reading f) fault → IsSearchFault ⊥ clock f fault
outside_refused clock f valid fault (e, is, refused) = fault_from_refused clock f valid ⊥ fault (e, is, inr refused)
