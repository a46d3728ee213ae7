-- Lists with several values set.
use Rattle.std.proofs.Common.{refl, ◌≡◌, ◌≢◌, ◌∙◌, ap, sym, subst, ℕ, [], ◌∷◌, length, List, get_or, true, false, Bool, inl, inr}
use Rattle.std.specs.Prelude.{◌||◌, ◌&&◌, ◌==◌, ◌⊎◌, ⊤, nat_lt, set}
use Rattle.std.proofs.lemmas.Bool.{eqb-false, and_parts, ltb-true}
use Rattle.std.proofs.lemmas.Bool.Decides.{eqb_tells}
use Rattle.std.proofs.lemmas.Grind.{get_or-set_at}
use Rattle.std.proofs.lemmas.List.{get_or-set_other, length-set}
use Rattle.tz_format.specs.Readings.{is_part, parts_of, set_all}
use Rattle.tz_format.specs.declared.conversion.Conversion.{Conversion}
use Rattle.tz_format.specs.declared.conversion.Conversion.TheVariants.{Year, YearOfCentury, WeekYear, WeekYearOfCentury, Month, MonthName, ShortMonthName, MonthDay, SpacedMonthDay, YearDay, Hour, SpacedHour, HalfDayHour, HalfDay, Minute, Second, WeekDayName, ShortWeekDayName, WeekDayFromMonday, WeekDayFromSunday, Week as WeekNumber, WeekFromSunday, WeekFromMonday, UnixTime, Offset, OffsetWithColon, Designation, Date, DateWithSlashes, Time, TimeToMinutes, Milliseconds, Microseconds, Nanoseconds, PointMilliseconds, PointMicroseconds, PointNanoseconds, LineFeed, Tab, Percent}

pub known : (b : Bool) → (b ≡ true) ⊎ (b ≡ false)
known true = inl refl
known false = inr refl

-- all positions are below a bound
abbrev pub are_below : ℕ → List ℕ → Bool
are_below n [] = true
are_below n (part ∷ parts) = nat_lt part n && are_below n parts

or_parts : (a b : Bool) → (a || b) ≡ false → (a ≡ false) × (b ≡ false)
or_parts true b none = absurd (cc none)
or_parts false b none = (refl, none)

or_first : (a b : Bool) → (a || b) ≡ true → b ≡ false → a ≡ true
or_first true b some none = refl
or_first false b some none = absurd (cc (some, none))

differ : (part k : ℕ) → (part == k) ≡ false → k ≢ part
differ part k other same = eqb-false part k other (sym same)

equal : (part k : ℕ) → (part == k) ≡ true → k ≡ part
equal part k is = elim (eqb_tells part k) [
  | inl same ↦ sym same.1
  | inr differs ↦ absurd (cc (is, differs.0))
]

pub length-set_all : {A : Type 0} (parts : List ℕ) (v : ℕ → A) (xs : List A) → length (set_all parts v xs) ≡ length
    xs
length-set_all [] v xs = refl
length-set_all (part ∷ parts) v xs = length-set_all parts v (set xs part (v part)) ∙ length-set xs part (v part)

pub set_all_same : {A : Type 0} (parts : List ℕ) (v : ℕ → A) (xs : List A) (k : ℕ) (d : A) → is_part k parts ≡ false
    → get_or (set_all parts v xs) k d ≡ get_or xs k d
set_all_same [] v xs k d none = refl
set_all_same (part ∷ parts) v xs k d none =
    let apart = or_parts (part == k) (is_part k parts) none in
    set_all_same parts v (set xs part (v part)) k d apart.1
    ∙ get_or-set_other xs part k (v part) d (differ part k apart.0)

pub set_all_at : {A : Type 0} (parts : List ℕ) (v : ℕ → A) (xs : List A) (k : ℕ) (d : A) → is_part k parts ≡ true
    → are_below (length xs) parts ≡ true → get_or (set_all parts v xs) k d ≡ v k
set_all_at [] v xs k d part_is below = absurd (cc part_is)
set_all_at (part ∷ parts) v xs k d part_is below =
    let both = and_parts (nat_lt part (length xs)) (are_below (length xs) parts) below in
    elim (known (is_part k parts)) [
      | inl later ↦ set_all_at parts v (set xs part (v part)) k d later
          (ap (λ n. are_below n parts) (length-set xs part (v part)) ∙ both.1)
      | inr none ↦
          let same = equal part k (or_first (part == k) (is_part k parts) part_is none) in
          set_all_same parts v (set xs part (v part)) k d none
          ∙ get_or-set_at xs part k (v part) d same (ltb-true part (length xs) both.0) ∙ ap v (sym same)
    ]

-- what holds of each of some positions
abbrev pub Each : (ℕ → Type 0) → List ℕ → Type 0
Each P [] = ⊤
Each P (part ∷ parts) = P part × Each P parts

pub pick : (P : ℕ → Type 0) (parts : List ℕ) → Each P parts → (k : ℕ) → is_part k parts ≡ true → P k
pick P [] each k part_is = absurd (cc part_is)
pick P (part ∷ parts) each k part_is = elim (known (part == k)) [
  | inl is ↦ subst P (sym (equal part k is)) each.0
  | inr other ↦ pick P parts each.1 k (sym (ap (λ b. b || is_part k parts) other) ∙ part_is)
]

parts_few : (c : Conversion) → are_below 13 (parts_of c) ≡ true
unfolding parts_of
parts_few Year = refl
parts_few YearOfCentury = refl
parts_few WeekYear = refl
parts_few WeekYearOfCentury = refl
parts_few Month = refl
parts_few MonthName = refl
parts_few ShortMonthName = refl
parts_few MonthDay = refl
parts_few SpacedMonthDay = refl
parts_few YearDay = refl
parts_few Hour = refl
parts_few SpacedHour = refl
parts_few HalfDayHour = refl
parts_few HalfDay = refl
parts_few Minute = refl
parts_few Second = refl
parts_few WeekDayName = refl
parts_few ShortWeekDayName = refl
parts_few WeekDayFromMonday = refl
parts_few WeekDayFromSunday = refl
parts_few WeekNumber = refl
parts_few WeekFromSunday = refl
parts_few WeekFromMonday = refl
parts_few UnixTime = refl
parts_few Offset = refl
parts_few OffsetWithColon = refl
parts_few Designation = refl
parts_few Date = refl
parts_few DateWithSlashes = refl
parts_few Time = refl
parts_few TimeToMinutes = refl
parts_few Milliseconds = refl
parts_few Microseconds = refl
parts_few Nanoseconds = refl
parts_few PointMilliseconds = refl
parts_few PointMicroseconds = refl
parts_few PointNanoseconds = refl
parts_few LineFeed = refl
parts_few Tab = refl
parts_few Percent = refl

pub parts_below : (c : Conversion) (n : ℕ) → n ≡ 13 → are_below n (parts_of c) ≡ true
parts_below c n is = ap (λ n. are_below n (parts_of c)) is ∙ parts_few c
