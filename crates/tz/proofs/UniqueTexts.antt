-- A text of a date time has one reading, or one part that is missing first, and not both, and neither is followed by
-- more bytes than the text has: this holds of each part, and so of parts in turn.
use Rattle.tz.proofs.Common.{arith, refl, ◌≡◌, subst, ◌∙◌, inr, sym, inl, [], ap, ℕ, ◌∷◌, List, length, ◌+◌, pos, Fields, Some, ◌≤◌, ◌*◌, ◌-◌, ◌^◌, None, digits_value, fields_of, two_digits, length-append, drop, if◌then◌else◌, IsPair, neg_ℤ, IsDateTimeText, IsFraction, date, is_leap, time, Ahead, Behind, IsDigits, IsYear, Utc, duration, length-drop, month_length, offset, ◌==◌, Absent, IsHours, IsSecond, IsSeconds, ParsedDateTime, IsByte, IsDateTimeTextFault, IsEnd, IsMark, IsMinutes, IsSeparator, after_mark, byte, date_time}
use Rattle.tz.specs.GrammarSteps.{Grammar, one, ◌▸◌, done}
use Rattle.tz.specs.declared.parse.ParseDateTimeError.{ParseDateTimeError}
use Rattle.tz.specs.declared.parse.DateTimePart.{DateTimePart}
use Rattle.tz.specs.declared.parse.DateTimePart.TheVariants as parts
use Rattle.tz.specs.declared.parse.OffsetMark.{OffsetMark}
use Rattle.tz.proofs.TextFronts.{digits_unique, no_digits_at_minus, pair_unique}

-- at most one value and one rest
abbrev pub IsUnique : {A : Type 0} → (List ℕ → A → List ℕ → Type 0) → Type 0
IsUnique {A} begins = (text : List ℕ) (v w : A) (rest rest' : List ℕ) → begins text v rest → begins text w rest'
    → (v ≡ w) × (rest ≡ rest')

-- what follows is no longer than the text
abbrev pub IsWithin : {A : Type 0} → (List ℕ → A → List ℕ → Type 0) → Type 0
IsWithin {A} begins = (text : List ℕ) (v : A) (rest : List ℕ) → begins text v rest → length rest ≤ length text

pub record IsExact {A : Type 0} (g : Grammar A) : Type 0 where
  pub read : IsUnique g.reads
  pub missing : (text : List ℕ) (e e' : DateTimePart) (rest rest' : List ℕ) → g.misses text e rest
      → g.misses text e' rest' → (e ≡ e') × (rest ≡ rest')
  pub either : (text : List ℕ) (v : A) (e : DateTimePart) (rest rest' : List ℕ) → g.reads text v rest
      → ¬ g.misses text e rest'
  pub read_within : IsWithin g.reads
  pub missing_within : IsWithin g.misses

pub exact_one : {A : Type 0} (part : DateTimePart) (begins : List ℕ → A → List ℕ → Type 0) → IsUnique begins
    → IsWithin begins → IsExact (one part begins)
exact_one part begins unique within = record {
  read = unique;
  missing = λ text e e' rest rest' m m'. (m.0 ∙ sym m'.0, m.1 ∙ sym m'.1);
  either = λ text v e rest rest' reads m. m.2 v rest reads;
  read_within = within;
  missing_within = λ text e rest m. omega (arith, ap length m.1);
}

pub exact_done : {A : Type 0} (v : A) → IsExact (done v)
exact_done v = record {
  read = λ text w w' rest rest' reads reads'. (reads.0 ∙ sym reads'.0, reads.1 ∙ sym reads'.1);
  missing = λ text e e' rest rest' m m'. absurd m;
  either = λ text w e rest rest' reads m. absurd m;
  read_within = λ text w rest reads. omega (arith, ap length reads.1);
  missing_within = λ text e rest m. absurd m;
}

-- what follows the second reading of a part follows the first
moved : {A B : Type 0} (next : A → Grammar B) (v v' : A) (after after' : List ℕ) → (v ≡ v') × (after ≡ after')
    → (P : Grammar B → List ℕ → Type 0) → P (next v') after' → P (next v) after
moved next v v' after after' same P holds =
    subst (λ x. P (next x) after) (sym same.0) (subst (P (next v')) (sym same.1) holds)

pub exact_then : {A B : Type 0} (first : Grammar A) (next : A → Grammar B) → IsExact first
    → ((v : A) → IsExact (next v)) → IsExact (first ▸ next)
exact_then {A} {B} first next exact exacts = record {
  read = read;
  missing = missing;
  either = either;
  read_within = λ text w rest (v, after, is, more).
      omega (arith, exact.read_within text v after is, (exacts v).read_within after w rest more);
  missing_within = λ text e rest misses. elim misses [
    | inl m ↦ exact.missing_within text e rest m
    | inr (v, after, is, m) ↦ omega (arith, exact.read_within text v after is, (exacts v).missing_within after e rest m)
  ];
}
  where
    read : IsUnique (first ▸ next).reads
    read text w w' rest rest' (v, after, is, more) (v', after', is', more') =
        (exacts v).read after w w' rest rest' more
        (moved next v v' after after' (exact.read text v v' after after' is is')
        (λ g behind. g.reads behind w' rest') more')

    missing : (text : List ℕ) (e e' : DateTimePart) (rest rest' : List ℕ) → (first ▸ next).misses text e rest
        → (first ▸ next).misses text e' rest' → (e ≡ e') × (rest ≡ rest')
    missing text e e' rest rest' (inl m) (inl m') = exact.missing text e e' rest rest' m m'
    missing text e e' rest rest' (inl m) (inr (v, after, is, m')) = absurd (exact.either text v e after rest is m)
    missing text e e' rest rest' (inr (v, after, is, m)) (inl m') = absurd (exact.either text v e' after rest' is m')
    missing text e e' rest rest' (inr (v, after, is, m)) (inr (v', after', is', m')) =
        (exacts v).missing after e e' rest rest' m
        (moved next v v' after after' (exact.read text v v' after after' is is')
        (λ g behind. g.misses behind e' rest') m')

    either : (text : List ℕ) (w : B) (e : DateTimePart) (rest rest' : List ℕ) → (first ▸ next).reads text w rest
        → ¬ (first ▸ next).misses text e rest'
    either text w e rest rest' (v, after, is, more) (inl m) = exact.either text v e after rest' is m
    either text w e rest rest' (v, after, is, more) (inr (v', after', is', m')) =
        (exacts v).either after w e rest rest' more
        (moved next v v' after after' (exact.read text v v' after after' is is')
        (λ g behind. g.misses behind e rest') m')

pair_within : {least greatest : ℕ} {text : List ℕ} {n : ℕ} (rest : List ℕ) → IsPair least greatest text n rest
    → length rest ≤ length text
pair_within {n = n} rest is = omega (arith, ap length is.1 ∙ length-append (two_digits n) rest)

digits_within : {text digits rest : List ℕ} → IsDigits text digits rest → length rest ≤ length text
digits_within {digits = digits} {rest = rest} front = omega (arith, ap length front.whole ∙ length-append digits rest)

byte_exact : (part : DateTimePart) (b : ℕ) → IsExact (byte part b)
byte_exact part b = exact_one part (IsByte b) (λ text v w rest rest' is is'. (refl, cc (is, is')))
    (λ text v rest is. omega (arith, ap length is))

pair_exact : (part : DateTimePart) (least greatest : ℕ) → IsExact (one part (IsPair least greatest))
pair_exact part least greatest = exact_one part (IsPair least greatest)
    (λ text v w rest rest' is is'. pair_unique rest rest' is is') (λ text v rest is. pair_within rest is)

year_unique : IsUnique IsYear
year_unique text y y' rest rest' (digits, are, fits, inl (front, value)) (digits', are', fits', inl (front', value')) =
    let same = digits_unique front front' in
    (value ∙ ap (λ ds. pos (digits_value 10 ds)) same.0 ∙ sym value', same.1)
year_unique text y y' rest rest' (digits, are, fits, inr (unsigned, minus, front, value))
    (digits', are', fits', inr (unsigned', minus', front', value')) =
    let same = digits_unique front (subst (λ bs. IsDigits bs digits' rest') (cc (minus, minus')) front') in
    (value ∙ ap (λ ds. neg_ℤ (pos (digits_value 10 ds))) same.0 ∙ sym value', same.1)
year_unique text y y' rest rest' (digits, are, fits, inl (front, value))
    (digits', are', fits', inr (unsigned', minus', front', value')) =
    absurd (no_digits_at_minus text unsigned' digits rest minus' front are)
year_unique text y y' rest rest' (digits, are, fits, inr (unsigned, minus, front, value))
    (digits', are', fits', inl (front', value')) =
    absurd (no_digits_at_minus text unsigned digits' rest' minus front' are')

year_within : IsWithin IsYear
year_within text y rest (digits, are, fits, inl (front, value)) = digits_within front
year_within text y rest (digits, are, fits, inr (unsigned, minus, front, value)) =
    omega (arith, ap length minus, digits_within front)

pub date_exact : IsExact date
date_exact =
    exact_then _ _ (exact_one parts.Year IsYear year_unique year_within) (λ year.
    exact_then _ _ (byte_exact parts.Hyphen 45) (λ _.
    exact_then _ _ (pair_exact parts.Month 1 12) (λ month.
    exact_then _ _ (byte_exact parts.Hyphen 45) (λ _.
    exact_then _ _ (pair_exact parts.MonthDay 1 (month_length (is_leap year) month)) (λ month_day.
    exact_done (fields_of year month month_day 0 0 0 0))))))

fraction_unique : IsUnique IsFraction
fraction_unique text n n' rest rest' (inl is) (inl is') = (is.1 ∙ sym is'.1, is.2 ∙ sym is'.2)
fraction_unique text n n' rest rest' (inl is) (inr (after, digits, point, front, some, few, value)) =
    absurd (is.0 (after, point))
fraction_unique text n n' rest rest' (inr (after, digits, point, front, some, few, value)) (inl is') =
    absurd (is'.0 (after, point))
fraction_unique text n n' rest rest' (inr (after, digits, point, front, some, few, value))
    (inr (after', digits', point', front', some', few', value')) =
    let same = digits_unique front (subst (λ bs. IsDigits bs digits' rest') (cc (point, point')) front') in
    (value ∙ ap (λ ds. digits_value 10 ds * 10 ^ (9 - length ds)) same.0 ∙ sym value', same.1)

fraction_within : IsWithin IsFraction
fraction_within text n rest (inl is) = omega (arith, ap length is.2)
fraction_within text n rest (inr (after, digits, point, front, some, few, value)) =
    omega (arith, ap length point, digits_within front)

pub time_exact : (f : Fields) → IsExact (time f)
time_exact f =
    exact_then _ _ (pair_exact parts.Hour 0 23) (λ hour.
    exact_then _ _ (byte_exact parts.Colon 58) (λ _.
    exact_then _ _ (pair_exact parts.Minute 0 59) (λ minute.
    exact_then _ _ (byte_exact parts.Colon 58) (λ _.
    exact_then _ _ (exact_one parts.Second (IsSecond f hour minute)
    (λ text v w rest rest' is is'. pair_unique rest rest' is.0 is'.0) (λ text v rest is. pair_within rest is.0))
    (λ second.
    exact_then _ _ (exact_one parts.Fraction IsFraction fraction_unique fraction_within) (λ nanoseconds.
    exact_done (fields_of f.year f.month f.month_day hour minute second nanoseconds)))))))

hours_unique : IsUnique IsHours
hours_unique text h h' rest rest' (digits, front, some, value, below) (digits', front', some', value', below') =
    let same = digits_unique front front' in
    (value ∙ ap (digits_value 10) same.0 ∙ sym value', same.1)

seconds_unique : (hours minutes : ℕ) → IsUnique (IsSeconds hours minutes)
seconds_unique hours minutes text s s' rest rest' (inl is, below) (inl is', below') =
    (is.1 ∙ sym is'.1, is.2 ∙ sym is'.2)
seconds_unique hours minutes text s s' rest rest' (inl is, below) (inr (after, colon, is'), below') =
    absurd (is.0 (after, colon))
seconds_unique hours minutes text s s' rest rest' (inr (after, colon, is), below) (inl is', below') =
    absurd (is'.0 (after, colon))
seconds_unique hours minutes text s s' rest rest' (inr (after, colon, is), below) (inr (after', colon', is'), below') =
    pair_unique rest rest' is (subst (λ bs. IsPair 0 59 bs s' rest') (cc (colon, colon')) is')

seconds_within : (hours minutes : ℕ) → IsWithin (IsSeconds hours minutes)
seconds_within hours minutes text n rest (inl is, below) = omega (arith, ap length is.2)
seconds_within hours minutes text n rest (inr (after, colon, is), below) =
    omega (arith, ap length colon, pair_within rest is)

duration_exact : IsExact duration
duration_exact =
    exact_then _ _ (exact_one parts.OffsetHour IsHours hours_unique (λ text v rest is. digits_within is.1)) (λ hours.
    exact_then _ _ (byte_exact parts.Colon 58) (λ _.
    exact_then _ _ (exact_one parts.OffsetMinute (IsMinutes hours)
    (λ text v w rest rest' is is'. pair_unique rest rest' is.0 is'.0) (λ text v rest is. pair_within rest is.0))
    (λ minutes.
    exact_then _ _ (exact_one parts.OffsetSecond (IsSeconds hours minutes) (seconds_unique hours minutes)
    (seconds_within hours minutes)) (λ seconds.
    exact_done (3600 * hours + 60 * minutes + seconds)))))

-- the mark at which a text begins, if it begins with one
abbrev mark_at : List ℕ → OffsetMark
mark_at [] = Absent
mark_at (b ∷ bs) = if b == 43 then Ahead else (if b == 45 then Behind else Utc)

mark_is : (text : List ℕ) (mark : OffsetMark) (rest : List ℕ) → IsMark text mark rest
    → (mark ≡ mark_at text) × (rest ≡ drop 1 text)
mark_is text Absent rest is = (sym (ap mark_at is.0), is.1 ∙ sym (ap (drop 1) is.0))
mark_is text Utc rest (inl is) = (sym (ap mark_at is), sym (ap (drop 1) is))
mark_is text Utc rest (inr is) = (sym (ap mark_at is), sym (ap (drop 1) is))
mark_is text Ahead rest is = (sym (ap mark_at is), sym (ap (drop 1) is))
mark_is text Behind rest is = (sym (ap mark_at is), sym (ap (drop 1) is))

pub mark_unique : IsUnique IsMark
mark_unique text v w rest rest' is is' =
    let same = mark_is text v rest is in
    let same' = mark_is text w rest' is' in
    (same.0 ∙ sym same'.0, same.1 ∙ sym same'.1)

pub mark_within : IsWithin IsMark
mark_within text mark rest is = omega (arith, length-drop 1 text, ap length (mark_is text mark rest is).1)

offset_exact : IsExact offset
offset_exact = exact_then _ _ (exact_one parts.Offset IsMark mark_unique mark_within) after
  where
    after : (mark : OffsetMark) → IsExact (after_mark mark)
    after Absent = exact_done None
    after Utc = exact_done (Some (pos 0))
    after Ahead = exact_then _ _ duration_exact (λ seconds. exact_done (Some (pos seconds)))
    after Behind = exact_then _ _ duration_exact (λ seconds. exact_done (Some (neg_ℤ (pos seconds))))

separator_is : (text : List ℕ) (v : Unit {0}) (rest : List ℕ) → IsSeparator text v rest → rest ≡ drop 1 text
separator_is text v rest (inl is) = sym (ap (drop 1) is)
separator_is text v rest (inr (inl is)) = sym (ap (drop 1) is)
separator_is text v rest (inr (inr is)) = sym (ap (drop 1) is)

pub separator_exact : IsExact (one parts.Separator IsSeparator)
separator_exact = exact_one _ _ (λ text v w rest rest' is is'. (
  refl,
  separator_is text v rest is ∙ sym (separator_is text w rest' is'),
))
    (λ text v rest is. omega (arith, length-drop 1 text, ap length (separator_is text v rest is)))

pub end_exact : IsExact (one parts.End IsEnd)
end_exact = exact_one parts.End IsEnd (λ text v w rest rest' is is'. (refl, is.1 ∙ sym is'.1))
    (λ text v rest is. omega (arith, ap length is.1))

date_time_exact : IsExact date_time
date_time_exact =
    exact_then _ _ date_exact (λ f.
    exact_then _ _ separator_exact (λ _.
    exact_then _ _ (time_exact f) (λ local.
    exact_then _ _ offset_exact (λ ut_offset.
    exact_then _ _ end_exact (λ _.
    exact_done (record { local = local; ut_offset = ut_offset }))))))

pub text_unique : (text : List ℕ) (p q : ParsedDateTime) → IsDateTimeText text p → IsDateTimeText text q → p ≡ q
text_unique text p q is is' = (date_time_exact.read text p q [] [] is is').0

pub errors_same : (e e' : ParseDateTimeError) → e.expected ≡ e'.expected → e.position ≡ e'.position → e ≡ e'
errors_same e e' part position =
    let first : e ≡ record { expected = e'.expected; position = e.position } =
    ap (λ (p : DateTimePart). record { expected = p; position = e.position }) part in
    first ∙ ap (λ (k : ℕ). record { expected = e'.expected; position = k }) position

pub text_fault_unique : (text : List ℕ) (e e' : ParseDateTimeError) → IsDateTimeTextFault text e
    → IsDateTimeTextFault text e' → e ≡ e'
text_fault_unique text e e' (rest, m, at) (rest', m', at') =
    let same = date_time_exact.missing text e.expected e'.expected rest rest' m m' in
    errors_same e e' same.0 (omega (arith, at, at', ap length same.1))

pub text_or_fault : (text : List ℕ) (p : ParsedDateTime) (e : ParseDateTimeError) → IsDateTimeText text p
    → ¬ IsDateTimeTextFault text e
text_or_fault text p e is (rest, m, at) = date_time_exact.either text p e.expected [] rest is m

pub missing_within : (text : List ℕ) (e : DateTimePart) (rest : List ℕ) → date_time.misses text e rest
    → length rest ≤ length text
missing_within = date_time_exact.missing_within
