-- The instant that a reading means, by the entries that it has.
use Rattle.tz.proofs.Common.{arith, refl, ◌≡◌, subst, ints, inr, sym, inl, [], ℕ, ◌∷◌, List, ℤ, Fields, IsClock, Some, Zone, ◌-ℤ◌, ◌≤ℤ◌, None, Option, LocalTimeType, reading, Shown, Jump, Entry, Clock, DateTime, IsReading, IsCivil, TzError, IsEntryInside, ShowsByClock, All, All-nil, All-cons, Disambiguation, IsClockFault, moment_of, instant_between, AreEntries, AreLeapSeconds, AreOffsetsOf, IsRefused, IsOutsideFault}
use Rattle.tz.specs.EntryEnds.{entry_meant}
use Rattle.tz.specs.InstantColumns.{HasNoInstantOfReading, IsInstantOfReading}
use Rattle.tz.proofs.CivilFields.{civil_exists}
use Rattle.tz.proofs.EntryEnds.{each_made, jump_fault, jump_meant, none_meant, one_shown_meant, outside_refused, shown_meant}
use Rattle.tz.proofs.EntryWalks.{entries_once}

-- all that a reading has is inside the years, and this of it is meant
abbrev pub MeansEntry : Clock → Disambiguation → Option Entry → ℤ → Type 0
MeansEntry clock choice e r = (es : List Entry) × AreEntries clock r es × All IsEntryInside es
    × (entry_meant choice es ≡ e)

module _ (z : Zone) (choice : Disambiguation) (r : ℤ) (in_range : IsReading r) where
  -- the fields that are read so
  civil : (f : Fields) × IsCivil r 0 f
  civil = civil_exists r 0 (omega arith)

  of_fields : (e : Option Entry) → MeansEntry (IsClock z) choice e r → MeansEntry (IsClock z) choice e (reading civil.0)
  of_fields e means = subst (MeansEntry (IsClock z) choice e) (sym civil.1.reads) means

  pub means_none : MeansEntry (IsClock z) choice None r → HasNoInstantOfReading z choice r None
  means_none means =
      let f = civil.0 in
      let valid = civil.1.valid in
      let has = of_fields None means in
      inl (
        in_range,
        (
          f,
          civil.1,
          (
            valid,
            each_made z f valid (has.0, has.1, has.2),
            none_meant z f valid (has.0, has.1, has.2) choice has.3,
          ),
        ),
      )

  pub means_shown : (u : ℤ) (t : LocalTimeType) → MeansEntry (IsClock z) choice (Some (Shown u t)) r
      → IsInstantOfReading z choice r u
  means_shown u t means =
      let f = civil.0 in
      let valid = civil.1.valid in
      let has = of_fields (Some (Shown u t)) means in
      let meant = shown_meant z f valid (has.0, has.1, has.2) choice u t has.3 in
      (in_range, (f, civil.1, each_made z f valid (has.0, has.1, has.2), (moment_of f t u, meant.1, refl)))

  -- it is shown by the one type that the clock has as far from the reading as offsets go
  pub means_by_one : (least greatest : ℤ) (t : LocalTimeType) → AreLeapSeconds z.leap_seconds → least ≤ℤ greatest
      → AreOffsetsOf z least greatest
      → ((u : ℤ) → (r -ℤ greatest) ≤ℤ u → u ≤ℤ (r -ℤ least) → IsClock z u t)
      → IsInstantOfReading z choice r (r -ℤ t.ut_offset)
  means_by_one least greatest t leaps order offsets through =
      let u = r -ℤ t.ut_offset in
      let once = entries_once z leaps r (r -ℤ greatest) (r -ℤ least) t u (omega (arith, ints, order))
      (λ v s clock. (
        omega (arith, ints, (offsets v s clock).0),
        omega (arith, ints, (offsets v s clock).1),
      )) through refl in
      means_shown u t (
        Shown u t ∷ [],
        once,
        All-cons IsEntryInside (Shown u t) [] tt (All-nil IsEntryInside),
        sym (one_shown_meant choice u t),
      )

  -- it is a jump, so the clock is looked up
  module _ (u : ℤ) (a b : LocalTimeType) (means : MeansEntry (IsClock z) choice (Some (Jump u a b)) r) (v : ℤ)
      (beside : v ≡ instant_between choice r a b) where
    pub means_beside : (d : DateTime) → ShowsByClock z v 0 d → IsInstantOfReading z choice r v
    means_beside d shows =
        let f = civil.0 in
        let valid = civil.1.valid in
        let has = of_fields (Some (Jump u a b)) means in
        let there = subst (λ (w : ℤ). ShowsByClock z w 0 d) beside shows in
        let by_fields = subst (λ (x : ℤ). ShowsByClock z (instant_between choice x a b) 0 d) (sym civil.1.reads)
        there in
        let shown = subst (λ (n : ℕ). ShowsByClock z (instant_between choice (reading f) a b) n d)
        (sym civil.1.nanoseconds_are) by_fields in
        let meant = jump_meant z f valid (has.0, has.1, has.2) choice u a b has.3 d shown in
        (in_range, (f, civil.1, each_made z f valid (has.0, has.1, has.2), (d, meant, sym shows.2.instant_is)))

    pub fault_beside : (e : TzError) → IsClockFault z v 0 e → HasNoInstantOfReading z choice r (Some e)
    fault_beside e fault =
        let f = civil.0 in
        let valid = civil.1.valid in
        let has = of_fields (Some (Jump u a b)) means in
        let there = subst (λ (w : ℤ). IsClockFault z w 0 e) beside fault in
        let by_fields = subst (λ (x : ℤ). IsClockFault z (instant_between choice x a b) 0 e) (sym civil.1.reads)
        there in
        let due = subst (λ (n : ℕ). IsClockFault z (instant_between choice (reading f) a b) n e)
        (sym civil.1.nanoseconds_are) by_fields in
        inl (in_range, (f, civil.1, jump_fault z f valid (has.0, has.1, has.2) choice u a b has.3 e due))

  -- an entry of it is refused
  pub refuses : (e : TzError) → IsRefused IsOutsideFault (IsClock z) r e → HasNoInstantOfReading z choice r (Some e)
  refuses e refused =
      let f = civil.0 in
      let valid = civil.1.valid in
      let by_fields = subst (λ (x : ℤ). IsRefused IsOutsideFault (IsClock z) x e) (sym civil.1.reads) refused in
      inl (in_range, (f, civil.1, inl (inr (valid, outside_refused (IsClock z) f valid e by_fields))))
