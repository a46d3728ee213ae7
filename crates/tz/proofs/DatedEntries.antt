-- The date times of all entries of a reading are all that is found of fields with it.
use Rattle.tz.proofs.Common.{arith, refl, ◌≡◌, subst, ◌∙◌, ints, inr, sym, inl, [], ap, ℕ, ◌∷◌, ◌<◌, List, length, pos, ℤ, Fields, suc, zero, ◌+ℤ◌, IsValid, LocalTimeType, reading, Shown, get_or, Jump, Normal, Entry, FoundDateTimeKind, Clock, DateTime, EachCanBeMade, IsReading, Skipped, TzError, IsFound, IsEntryIn, IsFoundBy, AreEntries, PassesOver, ShowsInstant, moment_of, AllZip, AllZip-long, IsMadeOf, IsRefused, IsSearchFault, civil_unique, instant_of, IsDateTimeOf, IsDatedFault, IsEntryOutside, OneCannotBeMade, first_side}
use Rattle.tz.specs.Entries.{instant_of as entry_instant}
use Rattle.tz.proofs.CivilFields.{civil_exists}
use Rattle.tz.proofs.UniqueLists.{each_from_list}

-- a type shows a date time at each instant
pub side_exists : (u : ℤ) (n : ℕ) (t : LocalTimeType) → n < 1000000000 → (d : DateTime) × ShowsInstant u n t d
side_exists u n t part =
    let f = civil_exists (u +ℤ t.ut_offset) n part in (
      record { fields = f.0; local_time_type = t; unix_time = u },
      record {
        civil = f.1;
        type_is = refl;
        instant_is =
            refl;
      },
    )

-- which is one alone
pub side_unique : (u : ℤ) (n : ℕ) (t : LocalTimeType) (d e : DateTime) → ShowsInstant u n t d → ShowsInstant u n t e
    → d ≡ e
side_unique u n t d e a b =
    ap (λ f. moment_of f d.local_time_type d.unix_time)
    (civil_unique (u +ℤ t.ut_offset) n d.fields e.fields a.civil b.civil)
    ∙ ap (λ s. moment_of e.fields s d.unix_time) (a.type_is ∙ sym b.type_is)
    ∙ ap (λ v. moment_of e.fields e.local_time_type v) (a.instant_is ∙ sym b.instant_is)

-- and so is that of an entry
date_time_unique : (f : Fields) (e : Entry) (x y : FoundDateTimeKind) → IsDateTimeOf f e x → IsDateTimeOf f e y → x ≡ y
date_time_unique f (Shown u t) x y is is' = is ∙ sym is'
date_time_unique f (Jump u a b) x y (d, e, is, shows_d, shows_e) (d', e', is', shows_d', shows_e') =
    is ∙ ap (λ side. Skipped side e) (side_unique u f.nanoseconds a d d' shows_d shows_d')
    ∙ ap (λ side. Skipped d' side) (side_unique u f.nanoseconds b e e' shows_e shows_e') ∙ sym is'

-- a jump with a side outside the years of 32 bits cannot be made
jump_outside : (clock : Clock) (f : Fields) → IsValid f → (u : ℤ) (a b : LocalTimeType)
    → PassesOver clock (reading f) u a b → IsEntryOutside (Jump u a b) → OneCannotBeMade clock f
jump_outside clock f valid u a b passes outside =
    let x = side_exists u f.nanoseconds a valid.in_range.nanoseconds in
    let y = side_exists u f.nanoseconds b valid.in_range.nanoseconds in (
      Skipped x.0 y.0,
      (u, a, b, passes, x.1, y.1),
      λ made. elim outside [
        | inl before ↦ before (subst IsReading x.1.civil.reads made.0)
        | inr after ↦ after
            (subst IsReading y.1.civil.reads made.1)
      ],
    )

-- if an entry is refused, so is the search
pub fault_from_refused : (clock : Clock) (f : Fields) → IsValid f → (takes_memory : Type 0) (fault : TzError)
    → IsRefused (IsDatedFault takes_memory) clock (reading f) fault → IsSearchFault takes_memory clock f fault
fault_from_refused clock f valid takes_memory fault (e, is, inl memory) = inl memory
fault_from_refused clock f valid takes_memory fault (Shown u t, is, inr (range, outside)) = absurd outside
fault_from_refused clock f valid takes_memory fault (Jump u a b, is, inr (range, outside)) =
    inr (range, jump_outside clock f valid u a b is outside)

-- at each position of two lists
zip_at : {X Y : Type 0} (R : X → Y → Type 0) (xs : List X) (ys : List Y) → AllZip R xs ys → (i : ℕ) (x : X) (y : Y)
    → i < length ys → R (get_or xs i x) (get_or ys i y)
zip_at R [] [] all i x y h = absurd (omega arith)
zip_at R [] (first ∷ ys) all i x y h = absurd all
zip_at R (first ∷ xs) [] all i x y h = absurd all
zip_at R (first ∷ xs) (second ∷ ys) all zero x y h = all.0
zip_at R (first ∷ xs) (second ∷ ys) all (suc i) x y h = zip_at R xs ys all.1 i x y (omega arith)

module _ (clock : Clock) (f : Fields) where
  -- whatever is found is the date time of an entry
  entry_of : (d : FoundDateTimeKind) → IsFoundBy clock f d → (e : Entry) × IsEntryIn clock (reading f) e
      × IsDateTimeOf f e d
  entry_of (Normal d) (fields, shows) = (
    Shown d.unix_time d.local_time_type,
    shows,
    ap
        (λ (g : Fields). Normal (moment_of g d.local_time_type d.unix_time)) fields,
  )
  entry_of (Skipped x y) (u, a, b, passes, shows_x, shows_y) = (Jump u a b, passes, (x, y, refl, shows_x, shows_y))

  -- and the other way round, at the same instant
  found_by : (e : Entry) (d : FoundDateTimeKind) → IsEntryIn clock (reading f) e → IsDateTimeOf f e d
      → IsFoundBy clock f d × (instant_of d ≡ entry_instant e)
  found_by (Shown u t) d shows is =
      subst (λ (x : FoundDateTimeKind). IsFoundBy clock f x × (instant_of x ≡ u)) (sym is) ((refl, shows), refl)
  found_by (Jump u a b) d passes (x, y, is, shows_x, shows_y) =
      subst (λ (z : FoundDateTimeKind). IsFoundBy clock f z × (instant_of z ≡ u)) (sym is)
      ((u, a, b, passes, shows_x, shows_y), shows_x.instant_is)

  module _ (es : List Entry) (found : List FoundDateTimeKind) (are : AreEntries clock (reading f) es)
      (made : AllZip (IsMadeOf f) es found) where
    pub as_long : length found ≡ length es
    as_long = AllZip-long (IsMadeOf f) es found made

    -- what stands for an entry if there is none
    no_entry : FoundDateTimeKind → Entry
    no_entry d = Shown (pos 0) (first_side d).local_time_type

    at : (k : ℕ) (d : FoundDateTimeKind) → k < length found → IsFoundBy clock f (get_or found k d)
        × (instant_of (get_or found k d) ≡ entry_instant (get_or es k (no_entry d)))
    at k d within =
        found_by (get_or es k (no_entry d)) (get_or found k d)
        (are.sound k (no_entry d) (omega (arith, within, as_long)))
        (zip_at (IsMadeOf f) es found made k (no_entry d) d within).0

    pub found_from_entries : IsFound clock f found
    found_from_entries = record {
      sound = λ k d within. (at k d within).0;
      in_order = λ i j d less within.
          omega (
            arith,
            ints,
            (at i d (omega (arith, less, within))).1,
            (at j d within).1,
            are.in_order i j
                (no_entry d) less (omega (arith, within, as_long)),
          );
      complete = λ d by.
          let (e, is, of) = entry_of d by in
          let (k, within, same) = are.complete e is in
          let here : k < length found = omega (arith, within, as_long) in
          let of_e : IsDateTimeOf f e (get_or found k d) =
          subst (λ (x : Entry). IsDateTimeOf f x (get_or found k d)) same
          (zip_at (IsMadeOf f) es found made k e d here).0 in
          (k, here, date_time_unique f e (get_or found k d) d of_e of);
    }

    pub made_from_entries : EachCanBeMade clock f
    made_from_entries = each_from_list clock f found found_from_entries
        (λ k d within. (zip_at (IsMadeOf f) es found made k (no_entry d) d within).1)
