-- What a text is read as is printed in its own form, which is read as the same.
use Rattle.tz.proofs.Common.{arith, ◌≡◌, subst, ◌∙◌, ints, sym, ap, ℕ, ◌<◌, List, pos, ℤ, Fields, Some, ◌^◌, Option, neg_ℤ, IsDateTimeText, date, printed_text, time, Ahead, Behind, IsUtc, Utc, duration, offset, same_Some, Absent, IsOffset, ParsedDateTime}
use Rattle.std.proofs.Common.{FitsSigned}
use Rattle.std.specs.Int.{w32}
use Rattle.tz.proofs.ReadBack.{printed_is_read, utc_not_past}
use Rattle.tz.proofs.TextValues.{fields_are_utc}

-- the seconds of an offset are below 2^31
duration_below : (text : List ℕ) (n : ℕ) (rest : List ℕ) → duration.reads text n rest → n < 2 ^ 31
duration_below text n rest (hours, _, _, (_, _, _, (minutes, _, _, (seconds, _, is_seconds, (total, _))))) =
    omega (arith, is_seconds.1, total)

offset_fits : (text : List ℕ) (z : ℤ) (rest : List ℕ) → offset.reads text (Some z) rest → FitsSigned w32 z × IsOffset z
offset_fits text z rest (Absent, _, _, (is, _)) = absurd (cc is)
offset_fits text z rest (Utc, _, _, (is, _)) =
    let same : z ≡ pos 0 = same_Some z (pos 0) is in
    (omega (arith, ints, same), λ least. omega (arith, ints, same, least))
offset_fits text z rest (Ahead, after, _, (n, _, reads, (is, _))) =
    let same : z ≡ pos n = same_Some z (pos n) is in
    let below = duration_below after n _ reads in
    (omega (arith, ints, same, below), λ least. omega (arith, ints, same, least))
offset_fits text z rest (Behind, after, _, (n, _, reads, (is, _))) =
    let same : z ≡ neg_ℤ (pos n) = same_Some z (neg_ℤ (pos n)) is in
    let below = duration_below after n _ reads in
    (omega (arith, ints, same, below), λ least. omega (arith, ints, same, least, below))

-- the year of a date fits 32 bits
year_fits : (text between after rest : List ℕ) (d f : Fields) → date.reads text d between → (time d).reads after f rest
    → FitsSigned w32 f.year
year_fits text between after rest d f
    (year, _, is_year, (_, _, _, (month, _, _, (_, _, _, (month_day, _, _, (date_is, _))))))
    (hour, _, _, (_, _, _, (minute, _, _, (_, _, _, (second, _, _, (nanoseconds, _, _, (fields_are, _))))))) =
    let same : f.year ≡ year = ap (λ (g : Fields). g.year) fields_are ∙ ap (λ (g : Fields). g.year) date_is in
    subst (λ (y : ℤ). FitsSigned w32 y) (sym same) is_year.2

pub printed_form_is_read : (text : List ℕ) (p : ParsedDateTime) (z : ℤ) → IsDateTimeText text p → p.ut_offset ≡ Some z
    → IsDateTimeText (printed_text p.local z) p
printed_form_is_read text p z
    (d, between, date_is, (_, after, _, (f, rest, time_is, (ut_offset, end, offset_is, (_, _, _, (parsed_is, _)))))) is
    =
    let local_is : p.local ≡ f = ap (λ (q : ParsedDateTime). q.local) parsed_is in
    let offset_same : ut_offset ≡ Some z = sym (ap (λ (q : ParsedDateTime). q.ut_offset) parsed_is) ∙ is in
    let utc : IsUtc f = fields_are_utc text between after rest d f date_is time_is in
    let year = year_fits text between after rest d f date_is time_is in
    let fits = offset_fits rest z end (subst (λ (o : Option ℤ). offset.reads rest o end) offset_same offset_is) in
    let read = printed_is_read f z utc.valid (utc_not_past f utc) year fits.0 fits.1 in
    let same : p ≡ record { local = f; ut_offset = Some z } =
    parsed_is ∙ ap (λ (o : Option ℤ). record { local = f; ut_offset = o }) offset_same in
    let of_p = subst (λ (q : ParsedDateTime). IsDateTimeText (printed_text f z) q) (sym same) read in
    subst (λ (g : Fields). IsDateTimeText (printed_text g z) p) (sym local_is) of_p
