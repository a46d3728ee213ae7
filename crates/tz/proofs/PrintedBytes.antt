-- Bytes at positions of a text, and what follows them.
use Rattle.tz.proofs.Common.{arith, refl, ◌≡◌, ◌∙◌, sym, [], ap, ℕ, ◌∷◌, ◌<◌, List, length, ◌+◌, pos, ℤ, Fields, ◌≤◌, ◌++◌, suc, zero, ◌*◌, ◌-◌, ◌%◌, append_assoc, ◌/◌, get_or, two_digits, append-nil, decimal, drop, neg_ℤ, duration_text, nine_digits, offset_text, printed_text, signed_decimal, IsDigitByte}
use Rattle.std.proofs.Math.ListN.{drop_of_length-le}
use Rattle.tz.proofs.PrintedDigits.{decimal-pairs, decimal-two_digits, nine_digits-pairs, duration_text-short, two_digits-below}
use Rattle.tz.proofs.ReadBack.{after_second, after_minute, after_hour, after_date, after_month, after_year, in_parts}

pub byte_at : (text : List ℕ) (position : ℕ) → position < length text
    → drop position text ≡ get_or text position 0 ∷ drop (position + 1) text
byte_at [] position within = absurd (omega (arith, within))
byte_at (b ∷ text) zero within = refl
byte_at (b ∷ text) (suc position) within =
    let next : suc position + 1 ≡ suc (position + 1) = omega arith in
    rw next (byte_at text position (omega (arith, within)))

pub pair_at_position : (text : List ℕ) (position number : ℕ) → position + 2 ≤ length text
    → IsDigitByte (get_or text position 0) → IsDigitByte (get_or text (position + 1) 0)
    → number ≡ 10 * (get_or text position 0 - 48) + (get_or text (position + 1) 0 - 48)
    → (number < 100) × (drop position text ≡ two_digits number ++ drop (position + 2) text)
pair_at_position text position number within tens ones is =
    let few : number < 100 = omega (arith, is, tens, ones) in
    let first : get_or text position 0 ≡ 48 + number / 10 = omega (arith, is, tens, ones) in
    let second : get_or text (position + 1) 0 ≡ 48 + number % 10 = omega (arith, is, tens, ones) in
    let next : position + 1 + 1 ≡ position + 2 = omega arith in (
      few,
      byte_at text position (omega (arith, within))
          ∙ ap (λ rest. get_or text position 0 ∷ rest) (byte_at text (position + 1) (omega (arith, within)))
          ∙ rw (first, second, next, two_digits-below number few) refl,
    )

-- hours and minutes at the end
hours_and_minutes : (text : List ℕ) (h m : ℕ) → length text ≡ 35 → h < 100 → m ≤ 59
    → drop 30 text ≡ two_digits h ++ drop 32 text → get_or text 32 0 ≡ 58
    → drop 33 text ≡ two_digits m ++ drop 35 text → drop 30 text ≡ duration_text (3600 * h + 60 * m)
hours_and_minutes text h m long few few' hours colon minutes =
    let s = 3600 * h + 60 * m in
    hours
    ∙ ap (λ rest. two_digits h ++ rest) (byte_at text 32 (omega (arith, long)) ∙ ap (λ b. b ∷ drop 33 text) colon
    ∙ ap (λ rest. 58 ∷ rest) (minutes ∙ ap (λ rest. two_digits m ++ rest)
    (drop_of_length-le text {i = 35} (omega (arith, long))) ∙ append-nil (two_digits m)))
    ∙ ap (λ n. two_digits n ++ 58 ∷ two_digits m) (omega arith)
    ∙ ap (λ n. two_digits (s / 3600) ++ 58 ∷ two_digits n) (omega arith)
    ∙ sym (duration_text-short s (omega arith) (omega arith))

positive_text : (s : ℕ) → 0 < s → offset_text (pos s) ≡ 43 ∷ duration_text s
unfolding offset_text
positive_text zero above = absurd (omega (arith, above))
positive_text (suc n) above = refl

negative_text : (s : ℕ) → 0 < s → offset_text (neg_ℤ (pos s)) ≡ 45 ∷ duration_text s
unfolding offset_text
negative_text zero above = absurd (omega (arith, above))
negative_text (suc n) above = refl

pub offset_ahead : (text : List ℕ) (h m : ℕ) (z : ℤ) → length text ≡ 35 → h < 100 → m ≤ 59
    → drop 30 text ≡ two_digits h ++ drop 32 text → get_or text 32 0 ≡ 58
    → drop 33 text ≡ two_digits m ++ drop 35 text → get_or text 29 0 ≡ 43 → 0 < 3600 * h + 60 * m
    → z ≡ pos (3600 * h + 60 * m) → drop 29 text ≡ offset_text z
offset_ahead text h m z long few few' hours colon minutes sign above is =
    byte_at text 29 (omega (arith, long)) ∙ ap (λ b. b ∷ drop 30 text) sign
    ∙ ap (λ rest. 43 ∷ rest) (hours_and_minutes text h m long few few' hours colon minutes)
    ∙ sym (positive_text (3600 * h + 60 * m) above) ∙ ap offset_text (sym is)

pub offset_behind : (text : List ℕ) (h m : ℕ) (z : ℤ) → length text ≡ 35 → h < 100 → m ≤ 59
    → drop 30 text ≡ two_digits h ++ drop 32 text → get_or text 32 0 ≡ 58
    → drop 33 text ≡ two_digits m ++ drop 35 text → get_or text 29 0 ≡ 45 → 0 < 3600 * h + 60 * m
    → z ≡ neg_ℤ (pos (3600 * h + 60 * m)) → drop 29 text ≡ offset_text z
offset_behind text h m z long few few' hours colon minutes sign above is =
    byte_at text 29 (omega (arith, long)) ∙ ap (λ b. b ∷ drop 30 text) sign
    ∙ ap (λ rest. 45 ∷ rest) (hours_and_minutes text h m long few few' hours colon minutes)
    ∙ sym (negative_text (3600 * h + 60 * m) above) ∙ ap offset_text (sym is)

pub offset_of_utc : (text : List ℕ) → length text ≡ 30 → get_or text 29 0 ≡ 90 → drop 29 text ≡ offset_text (pos 0)
unfolding offset_text
offset_of_utc text long is =
    byte_at text 29 (omega (arith, long)) ∙ ap (λ b. b ∷ drop 30 text) is ∙ ap (λ rest. 90 ∷ rest)
    (drop_of_length-le text {i = 30} (omega (arith, long)))

-- nine digits, the first alone and then two at a time
pub nine_from_pairs : (first a b c e n : ℕ) (rest : List ℕ) → first < 10 → a < 100 → b < 100 → c < 100 → e < 100
    → n ≡ 100000000 * first + (1000000 * a + 10000 * b + 100 * c + e)
    → (48 + first) ∷ (two_digits a ++ (two_digits b ++ (two_digits c ++ (two_digits e ++ rest)))) ≡ nine_digits n
    ++ rest
unfolding two_digits
nine_from_pairs first a b c e n rest few few-a few-b few-c few-e is =
    let below : n < 1000000000 = omega arith in
    let first_is : n / 10000 / 10000 ≡ first = omega arith in
    let a_is : n / 10000 % 10000 / 100 ≡ a = omega arith in
    let b_is : n / 10000 % 100 ≡ b = omega arith in
    let c_is : n % 10000 / 100 ≡ c = omega arith in
    let e_is : n % 10000 % 100 ≡ e = omega arith in
    sym (ap (λ ds. ds ++ rest) (nine_digits-pairs n below) ∙ rw (first_is, a_is, b_is, c_is, e_is) (simp append_assoc))

-- a year of four digits, two at a time
pub four_digits : (p q : ℕ) → 10 ≤ p → p < 100 → q < 100 → two_digits p ++ two_digits q ≡ decimal (100 * p + q)
four_digits p q some few few' =
    let n = 100 * p + q in
    let front : n / 100 ≡ p = omega arith in
    let back : n % 100 ≡ q = omega arith in
    sym (decimal-pairs n (omega arith) (omega arith)
    ∙ rw (front, back) (ap (λ ds. ds ++ two_digits q) (decimal-two_digits p some few)))

-- the parts of a printed text at their positions
pub record PrintedAt (text : List ℕ) (f : Fields) (z : ℤ) : Type 0 where
  pub year : text ≡ signed_decimal f.year ++ drop 4 text
  pub hyphen : drop 4 text ≡ 45 ∷ drop 5 text
  pub month : drop 5 text ≡ two_digits f.month ++ drop 7 text
  pub second_hyphen : drop 7 text ≡ 45 ∷ drop 8 text
  pub month_day : drop 8 text ≡ two_digits f.month_day ++ drop 10 text
  pub separator : drop 10 text ≡ 84 ∷ drop 11 text
  pub hour : drop 11 text ≡ two_digits f.hour ++ drop 13 text
  pub colon : drop 13 text ≡ 58 ∷ drop 14 text
  pub minute : drop 14 text ≡ two_digits f.minute ++ drop 16 text
  pub second_colon : drop 16 text ≡ 58 ∷ drop 17 text
  pub second : drop 17 text ≡ two_digits f.second ++ drop 19 text
  pub point : drop 19 text ≡ 46 ∷ drop 20 text
  pub nanoseconds : drop 20 text ≡ nine_digits f.nanoseconds ++ drop 29 text
  pub offset : drop 29 text ≡ offset_text z

pub printed_from_positions : (text : List ℕ) (f : Fields) (z : ℤ) → PrintedAt text f z → text ≡ printed_text f z
unfolding after_year after_month after_date after_hour after_minute after_second
printed_from_positions text f z at =
    let from_second : drop 19 text ≡ after_second f z =
    at.point ∙ ap (λ r. 46 ∷ r) (at.nanoseconds ∙ ap (λ r. nine_digits f.nanoseconds ++ r) at.offset) in
    let from_minute : drop 16 text ≡ after_minute f z =
    at.second_colon ∙ ap (λ r. 58 ∷ r) (at.second ∙ ap (λ r. two_digits f.second ++ r) from_second) in
    let from_hour : drop 13 text ≡ after_hour f z =
    at.colon ∙ ap (λ r. 58 ∷ r) (at.minute ∙ ap (λ r. two_digits f.minute ++ r) from_minute) in
    let from_date : drop 10 text ≡ after_date f z =
    at.separator ∙ ap (λ r. 84 ∷ r) (at.hour ∙ ap (λ r. two_digits f.hour ++ r) from_hour) in
    let from_month : drop 7 text ≡ after_month f z =
    at.second_hyphen ∙ ap (λ r. 45 ∷ r) (at.month_day ∙ ap (λ r. two_digits f.month_day ++ r) from_date) in
    let from_year : drop 4 text ≡ after_year f z =
    at.hyphen ∙ ap (λ r. 45 ∷ r) (at.month ∙ ap (λ r. two_digits f.month ++ r) from_month) in
    at.year ∙ ap (λ r. signed_decimal f.year ++ r) from_year ∙ sym (in_parts f z)

-- a year of four digits at the beginning
pub year_at : (text : List ℕ) (p q : ℕ) (y : ℤ) → 10 ≤ p → p < 100 → q < 100 → text ≡ two_digits p ++ drop 2 text
    → drop 2 text ≡ two_digits q ++ drop 4 text → y ≡ pos (100 * p + q)
    → text ≡ signed_decimal y ++ drop 4 text
year_at text p q y some few few' first second is =
    first ∙ ap (λ r. two_digits p ++ r) second ∙ sym (append_assoc (two_digits p) (two_digits q) (drop 4 text))
    ∙ ap (λ ds. ds ++ drop 4 text) (four_digits p q some few few' ∙ ap signed_decimal (sym is))

-- a byte that is in a range of one
pub only_byte : (text : List ℕ) (position b : ℕ) → position < length text → (b ≤ get_or text position 0)
    × (get_or text position 0 ≤ b) → drop position text ≡ b ∷ drop (position + 1) text
only_byte text position b within is =
    byte_at text position within ∙ ap (λ c. c ∷ drop (position + 1) text) (omega (arith, is))

pub digit_byte : (b low high : ℕ) → 48 ≤ low → high ≤ 57 → (low ≤ b) × (b ≤ high) → IsDigitByte b
digit_byte b low high from to is = (omega (arith, from, is), omega (arith, to, is))
