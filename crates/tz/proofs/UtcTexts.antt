-- A text of a UTC date time has one reading, or one part that is missing first, and it is a text of the same local
-- time at offset 0.
use Rattle.tz.proofs.Common.{arith, refl, ◌≡◌, ap, [], ℕ, List, length, pos, Fields, Some, ◌≤◌, Utc, IsDateTimeText}
use Rattle.tz.specs.GrammarSteps.{one}
use Rattle.tz.specs.UtcText.{IsUtcMark, utc_date_time, IsUtcText, IsUtcTextFault}
use Rattle.tz.specs.declared.parse.ParseDateTimeError.{ParseDateTimeError}
use Rattle.tz.specs.declared.parse.DateTimePart.{DateTimePart}
use Rattle.tz.specs.declared.parse.DateTimePart.TheVariants as parts
use Rattle.tz.proofs.UniqueTexts.{IsExact, exact_then, exact_one, exact_done, date_exact, separator_exact, time_exact, mark_unique, mark_within, end_exact, errors_same}

mark_exact : IsExact (one parts.Offset IsUtcMark)
mark_exact = exact_one parts.Offset IsUtcMark
    (λ text v w rest rest' is is'. (refl, (mark_unique text Utc Utc rest rest' is is').1))
    (λ text v rest is. mark_within text Utc rest is)

utc_exact : IsExact utc_date_time
utc_exact =
    exact_then _ _ date_exact (λ f.
    exact_then _ _ separator_exact (λ _.
    exact_then _ _ (time_exact f) (λ local.
    exact_then _ _ mark_exact (λ _.
    exact_then _ _ end_exact (λ _.
    exact_done local)))))

pub utc_text_unique : (text : List ℕ) (f g : Fields) → IsUtcText text f → IsUtcText text g → f ≡ g
utc_text_unique text f g is is' = (utc_exact.read text f g [] [] is is').0

pub utc_text_fault_unique : (text : List ℕ) (e e' : ParseDateTimeError) → IsUtcTextFault text e → IsUtcTextFault text e'
    → e ≡ e'
utc_text_fault_unique text e e' (rest, m, at) (rest', m', at') =
    let same = utc_exact.missing text e.expected e'.expected rest rest' m m' in
    errors_same e e' same.0 (omega (arith, at, at', ap length same.1))

pub utc_text_or_fault : (text : List ℕ) (f : Fields) (e : ParseDateTimeError) → IsUtcText text f
    → ¬ IsUtcTextFault text e
utc_text_or_fault text f e is (rest, m, at) = utc_exact.either text f e.expected [] rest is m

pub utc_missing_within : (text : List ℕ) (e : DateTimePart) (rest : List ℕ) → utc_date_time.misses text e rest
    → length rest ≤ length text
utc_missing_within = utc_exact.missing_within

pub utc_is_date_time : (text : List ℕ) (f : Fields) → IsUtcText text f
    → IsDateTimeText text (record { local = f; ut_offset = Some (pos 0) })
utc_is_date_time text f (
  d,
  after,
  date_is,
  (
    _,
    time_text,
    separator,
    (
      local,
      after_time,
      time_is,
      (
        _,
        behind,
        mark,
        (_, end, is_end, (same, over)),
      ),
    ),
  ),
) = (
  d,
  after,
  date_is,
  (
    tt,
    time_text,
    separator,
    (
      local,
      after_time,
      time_is,
      (
        Some (pos 0),
        behind,
        (Utc, behind, mark, (refl, refl)),
        (tt, end, is_end, (ap (λ (g : Fields). record { local = g; ut_offset = Some (pos 0) }) same, over)),
      ),
    ),
  ),
)
