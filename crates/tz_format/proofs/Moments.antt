-- Date times that are read, and their parts.
use Rattle.std.proofs.Common.{arith, refl, ◌≡◌, ◌∙◌, ap, sym, subst, [], ℕ, zero, suc, ◌<◌, ◌+◌, ◌*◌, ◌/◌, ◌%◌, List, get_or, Option, Some, None, ℤ, pos, lit<, lit≤}
use Rattle.std.specs.Prelude.{unsigned_abs, IfNone, MatchBool, nat_eq}
use Rattle.std.proofs.lemmas.Bool.Decides.{eqb_tells}
use Rattle.std.proofs.Common.{inl, inr}
use Rattle.std.proofs.lemmas.Str.Ascii.{IsAscii-nil}
use Rattle.tz_base.specs.declared.fields.Fields.{Fields}
use Rattle.tz_base.specs.Fields.{IsValid}
use Rattle.tz.specs.DateTimes.{IsUtcFault}
use Rattle.tz.proofs.PromisedLists.{valid_without_fault}
use Rattle.tz_base.specs.declared.error.TzError.{TzError}
use Rattle.tz_format.specs.Readings.{IsPlain, AreParts, value}
use Rattle.tz_format.specs.Shown.{Shown}

-- no date time that is read has the parts
abbrev pub HasNone : List ℤ → Type 0
HasNone values = (s : Shown) → IsPlain s → AreParts values s → ⊥

-- what holds without a result
pub none_of : {A : Type 0} (r : Option A) (values : List ℤ) → HasNone values → IfNone r (HasNone values)
none_of None values holds = holds
none_of (Some x) values holds = tt

pub offset_cases : (size : ℕ) → size < 360000
    → MatchBool (nat_eq (size % 60) 0) ((m : ℕ) × (m < 6000) × (size ≡ 60 * m))
    ((m : ℕ) → m < 6000 → size ≡ 60 * m → ⊥)
offset_cases size below = elim (eqb_tells (size % 60) 0) [
  | inl same ↦ rw same.0 (size / 60, omega (arith, below), omega (arith, same.1))
  | inr other ↦ rw other.0 (λ m few is. other.1 (omega (arith, is)))
]

abbrev pub shown_with : Fields → ℤ → Shown
shown_with f o = record { fields = f; ut_offset = o; designation = []; unix_time = pos 0 }

pub plain_with : (f : Fields) (o : ℤ) (y m : ℕ) → IsValid f → f.year ≡ pos y → y < 10000
    → m < 6000 → unsigned_abs o ≡ 60 * m → IsPlain (shown_with f o)
plain_with f o y m valid year year_below below offset = record {
  shown = record {
    valid = valid;
    year_is = rw year (omega (arith, year_below));
    offset_is = omega (arith, below, offset);
    short = lit≤ tt;
    ascii = IsAscii-nil;
    unix_time_is = lit< tt;
  };
  year = (y, year_below, year);
  offset = (m, below, offset);
  no_name = refl;
  no_time = refl;
}

-- the halves of a day, and thousands
halves : (half in_half : ℕ) → in_half < 12
    → ((12 * half + in_half) / 12 ≡ half) × ((12 * half + in_half) % 12 ≡ in_half)
halves half in_half below = (omega (arith, below), omega (arith, below))

thousands : (a b c : ℕ) → b < 1000 → c < 1000 → ((1000000 * a + 1000 * b + c) / 1000000 ≡ a)
    × ((1000000 * a + 1000 * b + c) / 1000 % 1000 ≡ b) × ((1000000 * a + 1000 * b + c) % 1000 ≡ c)
thousands a b c b_below c_below =
    (omega (arith, b_below, c_below), omega (arith, b_below, c_below), omega (arith, b_below, c_below))

pub parts_with : (values : List ℤ) (f : Fields) (o : ℤ) (half in_half a b c : ℕ) → get_or values 0 (pos 0) ≡ f.year
    → get_or values 1 (pos 0) ≡ pos f.month
    → get_or values 2 (pos 0) ≡ pos f.month_day
    → get_or values 3 (pos 0) ≡ pos half
    → get_or values 4 (pos 0) ≡ pos in_half → in_half < 12 → f.hour ≡ 12 * half + in_half
    → get_or values 5 (pos 0) ≡ pos f.minute
    → get_or values 6 (pos 0) ≡ pos f.second
    → get_or values 7 (pos 0) ≡ pos a
    → get_or values 8 (pos 0) ≡ pos b → b < 1000
    → get_or values 9 (pos 0) ≡ pos c → c < 1000 → f.nanoseconds ≡ 1000000 * a + 1000 * b + c
    → get_or values 10 (pos 0) ≡ o
    → AreParts values (shown_with f o)
unfolding value
parts_with values f o half in_half a b c year month month_day half_is in_half_is in_half_below hour minute second a_is
    b_is b_below c_is c_below nanoseconds offset k below =
    at k below
  where
    hours : (pos half ≡ pos (f.hour / 12)) × (pos in_half ≡ pos (f.hour % 12))
    hours = let both = halves half in_half in_half_below in (
      ap pos (sym (ap (λ n. n / 12) hour ∙ both.0)),
      ap pos (sym (ap (λ n. n % 12) hour ∙ both.1)),
    )

    fractions : (pos a ≡ pos (f.nanoseconds / 1000000)) × (pos b ≡ pos (f.nanoseconds / 1000 % 1000))
        × (pos c ≡ pos (f.nanoseconds % 1000))
    fractions = let all = thousands a b c b_below c_below in (
      ap pos (sym (ap (λ n. n / 1000000) nanoseconds ∙ all.0)),
      ap pos (sym (ap (λ n. n / 1000 % 1000) nanoseconds ∙ all.1)),
      ap pos (sym (ap (λ n. n % 1000) nanoseconds ∙ all.2)),
    )

    at : (k : ℕ) → k < 11 → get_or values k (pos 0) ≡ value (shown_with f o) k
    at zero below = year
    at (suc zero) below = month
    at (suc (suc zero)) below = month_day
    at (suc (suc (suc zero))) below = half_is ∙ hours.0
    at (suc (suc (suc (suc zero)))) below = in_half_is ∙ hours.1
    at (suc (suc (suc (suc (suc zero))))) below = minute
    at (suc (suc (suc (suc (suc (suc zero)))))) below = second
    at (suc (suc (suc (suc (suc (suc (suc zero))))))) below = a_is ∙ fractions.0
    at (suc (suc (suc (suc (suc (suc (suc (suc zero)))))))) below = b_is ∙ fractions.1
    at (suc (suc (suc (suc (suc (suc (suc (suc (suc zero))))))))) below = c_is ∙ fractions.2
    at (suc (suc (suc (suc (suc (suc (suc (suc (suc (suc zero)))))))))) below = offset
    at (suc (suc (suc (suc (suc (suc (suc (suc (suc (suc (suc k))))))))))) below = absurd (omega (arith, below))

pub same_fields : (f g : Fields) → f.year ≡ g.year → f.month ≡ g.month → f.month_day ≡ g.month_day → f.hour ≡ g.hour
    → f.minute ≡ g.minute → f.second ≡ g.second → f.nanoseconds ≡ g.nanoseconds → f ≡ g
same_fields f g year month month_day hour minute second nanoseconds = λ i. record {
  year = year i;
  month = month i;
  month_day = month_day i;
  hour = hour i;
  minute = minute i;
  second = second i;
  nanoseconds = nanoseconds i;
}

number : (m n : ℕ) → pos m ≡ pos n → m ≡ n
number m n same = ap unsigned_abs same

-- parts are those of the fields of one date time
pub fields_once : (s t : Shown) → ((k : ℕ) → k < 11 → value s k ≡ value t k) → s.fields ≡ t.fields
unfolding value
fields_once s t same =
    let half = number (s.fields.hour / 12) (t.fields.hour / 12) (same 3 (lit< tt)) in
    let in_half = number (s.fields.hour % 12) (t.fields.hour % 12) (same 4 (lit< tt)) in
    let hour : s.fields.hour ≡ t.fields.hour = omega (arith, half, in_half) in
    let a = number (s.fields.nanoseconds / 1000000) (t.fields.nanoseconds / 1000000) (same 7 (lit< tt)) in
    let b = number (s.fields.nanoseconds / 1000 % 1000) (t.fields.nanoseconds / 1000 % 1000) (same 8 (lit< tt)) in
    let c = number (s.fields.nanoseconds % 1000) (t.fields.nanoseconds % 1000) (same 9 (lit< tt)) in
    let nanoseconds : s.fields.nanoseconds ≡ t.fields.nanoseconds = omega (arith, a, b, c) in
    same_fields s.fields t.fields (same 0 (lit< tt)) (number _ _ (same 1 (lit< tt))) (number _ _ (same 2 (lit< tt)))
    hour (number _ _ (same 5 (lit< tt))) (number _ _ (same 6 (lit< tt))) nanoseconds

-- a date time that is read has no other parts
pub same_shown : (s t : Shown) → IsPlain s → IsPlain t → ((k : ℕ) → k < 11 → value s k ≡ value t k) → s ≡ t
unfolding value
same_shown s t plain plain' same =
    let fields = fields_once s t same in
    let offset : s.ut_offset ≡ t.ut_offset = same 10 (lit< tt) in
    let name = plain.no_name ∙ sym plain'.no_name in
    let time = plain.no_time ∙ sym plain'.no_time in
    λ i. record { fields = fields i; ut_offset = offset i; designation = name i; unix_time = time i }

-- there is a date time of each fields that are read
pub no_fault : (f g : Fields) (e : TzError) (y : ℕ) → f ≡ g → IsValid g → g.year ≡ pos y → y < 10000
    → IsUtcFault f e → ⊥
no_fault f g e y same valid year below (inl past) =
    let last = sym year ∙ sym (ap (λ (h : Fields). h.year) same) ∙ past.1.0 in
    let number_is = number y 2147483647 last in
    absurd (omega (arith, number_is, below))
no_fault f g e y same valid year below (inr fault) =
    valid_without_fault f (subst IsValid (sym same) valid) fault.0 fault.3
