-- What the parts of a TZ string are by their cases, and how long a number is.
use Rattle.tz_zone.proofs.Common.{arith, refl, ◌≡◌, ints, inr, inl, [], ap, ℕ, ◌∷◌, ◌<◌, length, pos, ℤ, ◌≤◌, ◌+ℤ◌, ◌<ℤ◌, ◌≤ℤ◌, negsuc, ◌≢◌, Bool, decimal, false, if◌then◌else◌, Decides-int_eq, daylight_offset_text, int_eq, length-decimal-le, plain_time_text, signed_time_text, minus_sign, offset_of_text, slash, time_of_day_text, unsigned_abs, cases_Bool}

pub three_digits : (n : ℕ) → n < 1000 → length (decimal n) ≤ 3
three_digits n below = length-decimal-le 3 n (omega arith) (omega arith) (omega arith)

-- a time by its sign
pub signed_time_text-negative : (z : ℤ) → z <ℤ pos 0
    → signed_time_text z ≡ minus_sign ∷ plain_time_text (unsigned_abs z)
unfolding signed_time_text
signed_time_text-negative (pos n) below = absurd (omega (arith, ints))
signed_time_text-negative (negsuc n) below = refl

pub signed_time_text-plain : (z : ℤ) → pos 0 ≤ℤ z → signed_time_text z ≡ plain_time_text (unsigned_abs z)
unfolding signed_time_text
signed_time_text-plain (pos n) from = refl
signed_time_text-plain (negsuc n) from = absurd (omega (arith, ints))

int_eq-other : (x y : ℤ) → x ≢ y → int_eq x y ≡ false
int_eq-other x y other = elim (cases_Bool (int_eq x y)) [
  | inl same ↦ absurd (other ((Decides-int_eq x y).0 same))
  | inr e ↦ e
]

-- a time of day, and the one that is left out
pub time_of_day_text-default : (time : ℤ) → time ≡ pos 7200 → time_of_day_text time ≡ []
unfolding time_of_day_text
time_of_day_text-default time e = ap (λ (b : Bool). if b then [] else slash ∷ signed_time_text time)
    ((Decides-int_eq time (pos 7200)).1 e)

pub time_of_day_text-other : (time : ℤ) → time ≢ pos 7200 → time_of_day_text time ≡ slash ∷ signed_time_text time
unfolding time_of_day_text
time_of_day_text-other time other = ap (λ (b : Bool). if b then [] else slash ∷ signed_time_text time)
    (int_eq-other time (pos 7200) other)

-- a daylight offset, and the one that is left out
pub daylight_offset_text-default : (std dst : ℤ) → dst ≡ std +ℤ pos 3600 → daylight_offset_text std dst ≡ []
unfolding daylight_offset_text
daylight_offset_text-default std dst e =
    ap (λ (b : Bool). if b then [] else offset_of_text dst) ((Decides-int_eq dst (std +ℤ pos 3600)).1 e)

pub daylight_offset_text-other : (std dst : ℤ) → dst ≢ std +ℤ pos 3600
    → daylight_offset_text std dst ≡ offset_of_text dst
unfolding daylight_offset_text
daylight_offset_text-other std dst other =
    ap (λ (b : Bool). if b then [] else offset_of_text dst) (int_eq-other dst (std +ℤ pos 3600) other)
