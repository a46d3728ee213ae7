-- Dates are read as they are printed, and a text has one date, or none and one fault.
use Rattle.std.proofs.Common.{◌≡◌, ℕ, suc, ◌≤◌, refl, sym, ap, subst, ◌∙◌, arith, ℤ, pos, negsuc, ◌++◌, ◌∷◌, List, length, length-append, Some, inl, inr}
use Rattle.std.proofs.lemmas.Int.{ints}
use Rattle.std.specs.Fmt.{signed_decimal}
use Rattle.std.specs.Prelude.{FitsSigned}
use Rattle.std.specs.Int.{w32}
use Rattle.tz_base.specs.Fields.{IsValid}
use Rattle.tz_base.proofs.CivilReadings.{month_length-le}
use Rattle.tz.specs.DateTimeGrammar.{IsDateTimeText}
use Rattle.tz.specs.PrintedText.{date_text, nine_digits, offset_text, printed_text, time_text, two_digits}
use Rattle.tz.specs.declared.parse.ParseDateTimeError.{ParseDateTimeError}
use Rattle.tz.specs.declared.parse.ParsedDateTime.{ParsedDateTime}
use Rattle.tz.proofs.PrintedDigits.{length-two_digits, ten_digits}
use Rattle.tz.proofs.ReadBack.{printed_is_read}
use Rattle.tz.proofs.UniqueTexts.{text_unique, text_or_fault}
use Rattle.tz_civil.specs.Dates.{Date, IsDate, date_of, midnight_of}
use Rattle.tz_civil.specs.DateTexts.{IsDateText, IsDateTextFault, midnight_text}

-- the text of the date's midnight in UTC
printed_midnight : (d : Date) → printed_text (midnight_of d) (pos 0) ≡ date_text (midnight_of d) ++ midnight_text
unfolding printed_text time_text offset_text two_digits nine_digits
printed_midnight d = refl

year_text-short : (y : ℤ) → FitsSigned w32 y → length (signed_decimal y) ≤ 11
year_text-short (pos n) fits = omega (arith, ten_digits n (omega (arith, ints, fits)))
year_text-short (negsuc n) fits = omega (arith, ten_digits (suc n) (omega (arith, ints, fits)))

date_text-short : (d : Date) → IsDate d → length (date_text (midnight_of d)) ≤ 100
unfolding date_text
date_text-short d is =
    let month = two_digits d.month in
    let month_day = two_digits d.month_day in
    omega (
      arith,
      length-append (signed_decimal d.year) (45 ∷ (month ++ (45 ∷ month_day))),
      length-append month (45 ∷ month_day),
      length-two_digits d.month,
      length-two_digits d.month_day,
      year_text-short d.year is.year_is,
    )

midnight_is_valid : (d : Date) → IsDate d → IsValid (midnight_of d)
midnight_is_valid d is =
    record {
      in_range = record {
        month = is.day_is.month_is;
        month_day = (is.day_is.month_day_is.0, omega (arith, month_length-le, is.day_is.month_day_is.1));
        hour = omega arith;
        minute = omega arith;
        second = omega arith;
        nanoseconds = omega arith;
      };
      in_month = is.day_is.month_day_is.1;
    }

pub printed_date_is_read : (d : Date) → IsDate d → IsDateText (date_text (midnight_of d)) d
printed_date_is_read d is =
    let local = midnight_of d in
    let read = printed_is_read local (pos 0) (midnight_is_valid d is) (λ past. omega (arith, past.5)) is.year_is
    (record { sfits = omega (arith, ints) }) (λ same. omega (arith, ints, same)) in
    let p : ParsedDateTime = record { local = local; ut_offset = Some (pos 0) } in (
      date_text-short d is,
      p,
      subst (λ (text : List ℕ). IsDateTimeText text p) (printed_midnight d) read,
      refl,
    )

pub text_has_one_date : (text : List ℕ) (d e : Date) → IsDateText text d → IsDateText text e → d ≡ e
text_has_one_date text d e (few, p, is, date) (few', q, is', date') =
    let same = text_unique (text ++ midnight_text) p q is is' in
    date ∙ ap (λ (r : ParsedDateTime). date_of r.local.year r.local.month r.local.month_day) same ∙ sym date'

pub date_or_fault : (text : List ℕ) (d : Date) (e : ParseDateTimeError) → IsDateText text d → ¬ IsDateTextFault text e
date_or_fault text d e (few, p, is, date) (inl long) = absurd (omega (arith, few, long.0))
date_or_fault text d e (few, p, is, date) (inr (few', missing, fault, part)) =
    text_or_fault (text ++ midnight_text) p (record { expected = missing; position = e.position }) is fault
