-- The numbers, times, names and days of a TZ string are read back, whatever stands after them that none of them goes on
-- with.
use Rattle.tz_zone.proofs.Common.{arith, refl, ◌≡◌, subst, ◌∙◌, ints, inr, sym, inl, [], ap, ℕ, ◌∷◌, ◌<◌, List, length, ◌+◌, pos, ℤ, ◌≤◌, ◌++◌, suc, ◌*◌, ◌<ℤ◌, ◌%◌, ◌^◌, append_assoc, ◌/◌, negsuc, digits_value, ◌⊎◌, ◌≢◌, cases_lt, true, two_digits, Bool, decimal, false, if◌then◌else◌, decimal_digit, eqb-true, Begins, IsTimeUpTo, is_ascii_alphabetic, plain_time_text, signed_time_text, ◌==◌, ◌||◌, IsNumber, IsNumeralModel, TimeText, and_parts, comma, decimal_is_IsNumeral, is_ascii_digit, list_all, minus_sign, numerals_by_value, seconds_of, seconds_text, ◌&&◌, IsHms, IsPart, IsRun, IsSignedTime, colon, digits_decimal, digits_value-decimal, is_in_range, leb-true, lt-leb, minutes_text, nat_le, plus_sign, take_while, take_while-cons, tells_all_ascii_digits}
use Rattle.std.proofs.Common.{cond}
use Rattle.std.specs.Prelude.{neg_ℤ}
use Rattle.std.specs.Str.{all_ascii_digits}
use Rattle.tz_zone.proofs.TextReadings.{no_digit}
use Rattle.tz_base.proofs.PrintedDigits.{two_digits-below, decimal-two_digits}

-- the text is over, or its first byte does not pass the test
abbrev pub Stops : (ℕ → Bool) → List ℕ → Type 0
Stops test [] = Unit {0}
Stops test (b ∷ bs) = test b ≡ false

stopped : (test : ℕ → Bool) (rest : List ℕ) → Stops test rest → [] ≡ take_while test rest
stopped test [] stops = refl
stopped test (b ∷ bs) stops = sym (take_while-cons test b bs ∙ ap (λ t. cond t (b ∷ take_while test bs) []) stops)

longest_run : (test : ℕ → Bool) (run rest : List ℕ) → list_all test run ≡ true → Stops test rest
    → run ≡ take_while test (run ++ rest)
longest_run test [] rest pass stops = stopped test rest stops
longest_run test (b ∷ bs) rest pass stops =
    let each = and_parts (test b) (list_all test bs) pass in
    ap (λ xs. b ∷ xs) (longest_run test bs rest each.1 stops)
    ∙ sym (take_while-cons test b (bs ++ rest) ∙ ap (λ t. cond t (b ∷ take_while test (bs ++ rest)) []) each.0)

-- bytes that pass the test are a run
pub run_before : (test : ℕ → Bool) (run rest : List ℕ) → list_all test run ≡ true → Stops test rest
    → IsRun test (run ++ rest) run rest
run_before test run rest pass stops = record { longest = longest_run test run rest pass stops; parts = refl }

-- after a time or a day stands neither a digit nor a colon nor a slash
abbrev pub IsBehind : List ℕ → Type 0
IsBehind [] = Unit {0}
IsBehind (b ∷ bs) = (b < 47) ⊎ (58 < b)

pub first_of : {b c : ℕ} {bs cs : List ℕ} → b ∷ bs ≡ c ∷ cs → b ≡ c
first_of e = cc

pub no_byte_behind : (byte : ℕ) (rest : List ℕ) → 47 ≤ byte → byte ≤ 58 → IsBehind rest → ¬ Begins byte rest
no_byte_behind byte [] from to behind begins = absurd (let e = begins.1 in cc)
no_byte_behind byte (b ∷ bs) from to behind begins =
    let e : b ≡ byte = first_of begins.1 in
    elim behind [ inl h ↦ absurd (omega arith) | inr h ↦ absurd (omega arith) ]

and_false : (x : Bool) → (x && false) ≡ false
and_false true = refl
and_false false = refl

no_digit_byte : (b : ℕ) → (b < 48) ⊎ (57 < b) → is_ascii_digit b ≡ false
no_digit_byte b h = elim h [
  | inl low ↦ ap (λ x. x && nat_le b 57) (lt-leb 48 b low)
  | inr high ↦ ap (λ x. nat_le 48 b && x) (lt-leb b 57 high) ∙ and_false (nat_le 48 b)
]

pub no_letter_byte : (b : ℕ) → b ≤ 64 → is_ascii_alphabetic b ≡ false
no_letter_byte b low =
    ap (λ x. (x && nat_le b 90) || is_in_range 97 122 b) (lt-leb 65 b (omega arith)) ∙ ap (λ x. x && nat_le b 122)
    (lt-leb 97 b (omega arith))

pub no_digit_behind : (rest : List ℕ) → IsBehind rest → Stops is_ascii_digit rest
no_digit_behind [] behind = tt
no_digit_behind (b ∷ bs) behind = no_digit_byte b
    (elim behind [ inl h ↦ inl (omega arith) | inr h ↦ inr (omega arith) ])

-- digits and the number that they write
all_pass : (digits : List ℕ) → all_ascii_digits digits ≡ true → list_all is_ascii_digit digits ≡ true
all_pass [] h = refl
all_pass (d ∷ ds) h =
    let each = and_parts (is_ascii_digit d) (all_ascii_digits ds) h in
    ap (λ t. t && list_all is_ascii_digit ds) each.0 ∙ all_pass ds each.1

number_before : (digits : List ℕ) (n : ℕ) (rest : List ℕ) → all_ascii_digits digits ≡ true → digits ≢ []
    → n ≡ digits_value 10 digits → Stops is_ascii_digit rest → IsNumber (digits ++ rest) n rest
number_before digits n rest pass some value stops =
    record {
      digits = digits;
      run = run_before is_ascii_digit digits rest (all_pass digits pass) stops;
      some = some;
      value = value;
    }

own : IsNumeralModel (λ ds. all_ascii_digits ds ≡ true) (digits_value 10)
own = numerals_by_value _ tells_all_ascii_digits

pub decimal_digits : (n : ℕ) → n < 2 ^ 64 → all_ascii_digits (decimal n) ≡ true
decimal_digits n fits = digits_decimal own n fits

pub decimal_some : (n : ℕ) → n < 2 ^ 64 → decimal n ≢ []
decimal_some n fits none =
    let has : 0 < length (decimal n) = (decimal_is_IsNumeral n fits).0.0 in
    let over : length (decimal n) ≡ 0 = ap length none in
    absurd (omega arith)

pub decimal_read : (n : ℕ) (rest : List ℕ) → n < 2 ^ 64 → Stops is_ascii_digit rest
    → IsNumber (decimal n ++ rest) n rest
decimal_read n rest fits stops = number_before (decimal n) n rest (decimal_digits n fits) (decimal_some n fits)
    (sym (digits_value-decimal own n fits)) stops

-- two digits, the first of which may be a zero
leading_zero : (n : ℕ) → n < 10 → two_digits n ≡ 48 ∷ decimal n
leading_zero n below =
    let tens : n / 10 ≡ 0 = omega arith in
    let ones : n % 10 ≡ n = omega arith in
    two_digits-below n (omega arith) ∙ rw (tens, ones, decimal_digit n below) refl

pub two_digits_read : (n : ℕ) (rest : List ℕ) → n < 60 → Stops is_ascii_digit rest
    → IsNumber (two_digits n ++ rest) n rest
two_digits_read n rest below stops = elim (cases_lt n 10) [
  | inl low ↦ subst (λ (text : List ℕ). IsNumber (text ++ rest) n rest) (sym (leading_zero n low))
      (number_before (48 ∷ decimal n) n rest (decimal_digits n (omega arith)) (λ e. cc)
      (sym (digits_value-decimal own n (omega arith))) stops)
  | inr high ↦ subst (λ (text : List ℕ). IsNumber (text ++ rest) n rest) (decimal-two_digits n high (omega arith))
      (decimal_read n rest (omega arith) stops)
]

-- minutes and seconds
pub no_colon : (rest : List ℕ) → IsBehind rest → ¬ Begins colon rest
no_colon rest behind = no_byte_behind colon rest (omega arith) (omega arith) behind

seconds_read_by : (none : Bool) (s : ℕ) (rest : List ℕ) → (s == 0) ≡ none → s < 60 → IsBehind rest
    → IsPart ((if none then [] else colon ∷ two_digits s) ++ rest) s rest
    × Stops is_ascii_digit ((if none then [] else colon ∷ two_digits s) ++ rest)
seconds_read_by true s rest e below behind =
    (inr (no_colon rest behind, eqb-true s 0 e, refl), no_digit_behind rest behind)
seconds_read_by false s rest e below behind =
    (inl (two_digits s ++ rest, refl, two_digits_read s rest below (no_digit_behind rest behind)), refl)

seconds_read : (s : ℕ) (rest : List ℕ) → s < 60 → IsBehind rest → IsPart (seconds_text s ++ rest) s rest
    × Stops is_ascii_digit (seconds_text s ++ rest)
seconds_read s rest below behind = seconds_read_by (s == 0) s rest refl below behind

-- what is read of the seconds of an hour
record AreMinutes (text : List ℕ) (m : ℕ) (rest : List ℕ) : Type 0 where
  pub after : List ℕ
  pub minutes_are : IsPart text (m / 60) after
  pub seconds_are : IsPart after (m % 60) rest
  pub stops : Stops is_ascii_digit text

minutes_read_by : (none : Bool) (m : ℕ) (rest : List ℕ) → (m == 0) ≡ none → m < 3600 → IsBehind rest
    → AreMinutes ((if none then [] else colon ∷ two_digits (m / 60) ++ seconds_text (m % 60)) ++ rest) m rest
minutes_read_by true m rest e below behind =
    let zero_is : m ≡ 0 = eqb-true m 0 e in record {
      after = rest;
      minutes_are = inr (no_colon rest behind, omega arith, refl);
      seconds_are = inr (no_colon rest behind, omega arith, refl);
      stops = no_digit_behind rest behind;
    }
minutes_read_by false m rest e below behind =
    let seconds = seconds_read (m % 60) rest (omega arith) behind in record {
      after = seconds_text (m % 60) ++ rest;
      minutes_are = inl (
        two_digits (m / 60) ++ (seconds_text (m % 60) ++ rest),
        ap (λ xs. colon ∷ xs)
            (append_assoc (two_digits (m / 60)) (seconds_text (m % 60)) rest),
        two_digits_read (m / 60)
            (seconds_text (m % 60) ++ rest) (omega arith) seconds.1,
      );
      seconds_are = seconds.0;
      stops = refl;
    }

minutes_read : (m : ℕ) (rest : List ℕ) → m < 3600 → IsBehind rest → AreMinutes (minutes_text m ++ rest) m rest
unfolding minutes_text
minutes_read m rest below behind = minutes_read_by (m == 0) m rest refl below behind

-- a time of this many seconds
abbrev pub written_time : Bool → ℕ → TimeText
written_time minus n = record { minus = minus; hours = n / 3600; minutes = n % 3600 / 60; seconds = n % 3600 % 60 }

abbrev pub time_of : ℤ → TimeText
time_of (pos n) = written_time false n
time_of (negsuc n) = written_time true (suc n)

pub plain_time_read : (minus : Bool) (n : ℕ) (rest : List ℕ) → n < 2 ^ 32 → IsBehind rest
    → IsHms (plain_time_text n ++ rest) (written_time minus n) rest
unfolding plain_time_text
plain_time_read minus n rest fits behind =
    let part = minutes_read (n % 3600) rest (omega arith) behind in
    subst (λ (text : List ℕ). IsHms text (written_time minus n) rest)
    (sym (append_assoc (decimal (n / 3600)) (minutes_text (n % 3600)) rest)) (record {
      after_hours = minutes_text (n % 3600) ++ rest;
      after_minutes = part.after;
      hours_are = decimal_read (n / 3600) (minutes_text (n % 3600) ++ rest) (omega arith) part.stops;
      minutes_are = part.minutes_are;
      seconds_are = part.seconds_are;
    })

no_sign : (byte : ℕ) (text : List ℕ) (t : TimeText) (rest : List ℕ) → is_ascii_digit byte ≡ false → IsHms text t rest
    → ¬ Begins byte text
no_sign byte text t rest none hms begins =
    no_digit text byte begins.0 t.hours hms.after_hours none begins.1 hms.hours_are

-- a time with its sign, as it is read back
pub record IsReadTime (text : List ℕ) (z : ℤ) (rest : List ℕ) : Type 0 where
  pub time_is : IsSignedTime text (time_of z) rest
  pub no_comma : ¬ Begins comma text
  pub no_letter : Stops is_ascii_alphabetic text

-- the bounds of a time that can be read back
abbrev pub IsTimeBelow : ℕ → ℤ → Type 0
IsTimeBelow limit z = (negsuc limit <ℤ z) × (z <ℤ pos (suc limit))

digit_first : (digits rest : List ℕ) → all_ascii_digits digits ≡ true → digits ≢ []
    → Stops is_ascii_alphabetic (digits ++ rest)
digit_first [] rest pass some = absurd (some refl)
digit_first (d ∷ ds) rest pass some =
    let to : d ≤ 57 = leb-true d 57 (and_parts (nat_le 48 d) (nat_le d 57)
    ((and_parts (is_ascii_digit d) (all_ascii_digits ds) pass).0)).1 in
    no_letter_byte d (omega arith)

plain_time_first : (n : ℕ) (rest : List ℕ) → n < 2 ^ 32 → Stops is_ascii_alphabetic (plain_time_text n ++ rest)
unfolding plain_time_text
plain_time_first n rest fits =
    subst (Stops is_ascii_alphabetic) (sym (append_assoc (decimal (n / 3600)) (minutes_text (n % 3600)) rest))
    (digit_first (decimal (n / 3600)) (minutes_text (n % 3600) ++ rest) (decimal_digits (n / 3600) (omega arith))
    (decimal_some (n / 3600) (omega arith)))

pub signed_time_read : (z : ℤ) (rest : List ℕ) → IsTimeBelow 604799 z → IsBehind rest
    → IsReadTime (signed_time_text z ++ rest) z rest
unfolding signed_time_text
signed_time_read (pos n) rest range behind =
    let fits : n < 2 ^ 32 = omega (arith, ints, range.1) in
    let hms = plain_time_read false n rest fits behind in
    let text = plain_time_text n ++ rest in record {
      time_is = (
        text,
        inr (inr (
          no_sign minus_sign text (written_time false n) rest refl hms,
          no_sign plus_sign text
              (written_time false n) rest refl hms,
          refl,
          refl,
        )),
        hms,
      );
      no_comma = no_sign comma text (written_time false n) rest refl hms;
      no_letter = plain_time_first n rest fits;
    }
signed_time_read (negsuc n) rest range behind = record {
  time_is = (
    plain_time_text (suc n) ++ rest,
    inl (refl, refl),
    plain_time_read true (suc n) rest
        (omega (arith, ints, range.0)) behind,
  );
  no_comma = λ begins. let e : minus_sign ≡ comma = first_of begins.1 in absurd (omega arith);
  no_letter = refl;
}

-- its seconds
pub seconds_of_time : (z : ℤ) → seconds_of (time_of z) ≡ z
seconds_of_time (pos n) = let e : 3600 * (n / 3600) + 60 * (n % 3600 / 60) + n % 3600 % 60 ≡ n = omega arith in ap pos e
seconds_of_time (negsuc n) = let e : 3600 * (suc n / 3600) + 60 * (suc n % 3600 / 60) + suc n % 3600 % 60 ≡ suc n =
    omega arith in ap (λ m. neg_ℤ (pos m)) e

-- its numbers
pub time_up_to : (hours limit : ℕ) (z : ℤ) → limit < 3600 * hours + 3600 → IsTimeBelow limit z
    → IsTimeUpTo hours (time_of z)
time_up_to hours limit (pos n) bound range =
    let below : n ≤ limit = omega (arith, ints, range.1) in
    record { hours_are = omega arith; minutes_are = omega arith; seconds_are = omega arith }
time_up_to hours limit (negsuc n) bound range =
    let below : suc n ≤ limit = omega (arith, ints, range.0) in
    record { hours_are = omega arith; minutes_are = omega arith; seconds_are = omega arith }
