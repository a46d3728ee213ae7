-- Two answers for one value have one code, and one value where that is 0: so a column has what single calls write.
use Rattle.tz_c.proofs.Common.{refl, inl, inr, ◌≡◌, arith, pos, ◌<◌, ℕ, Zone, length, sym, Some, IsClock, List, Option, slice_index_or, IsLookupFault, ap, slice_get, ◌∙◌, ◌≢◌, IsReading, slice_get_within, suc, zero, Disambiguation, IsDateTimeAt, IsInstantAt, IsOffsetAt, None, slice_get-get_or, ℤ, AreAnswers, AreInstantsBy, IsChoiceAnswer, LocalTimeType, TzError, choice_of, code_of, AreOfLength, DateTime, FitsSigned, IsAnswer, IsAnswerOr, IsClockFault, IsDateTimeDataOf, IsInstantAnswer, IsMeaningAnswer, IsOffset, ShowsByClock, buffer_length, fields_code, reading, same_Some, slice_get_cases}
use Rattle.std.specs.Int.{w32}
use Rattle.tz_base.specs.declared.fields.Fields.{Fields}
use Rattle.tz_base.specs.declared.error.DateTimeError.{DateTimeError}
use Rattle.tz_base.specs.declared.error.DateTimeError.TheVariants as faults
use Rattle.tz_base.proofs.LastSeconds.{valid_reading}
use Rattle.tz_zone.proofs.Clocks.{one_type}
use Rattle.tz.specs.Choices.{IsMeaning, IsMeaningFault, instant_meant}
use Rattle.tz_c.specs.DateTimeData.{date_time_data, date_time_of}
use Rattle.tz_c.specs.declared.date_time_data.DateTimeData.{DateTimeData}
use Rattle.tz.specs.declared.datetime.found.FoundDateTimeKind.TheVariants.{Normal, Skipped}
use Rattle.tz.proofs.UniqueMeanings.{meaning_fault_unique, meaning_or_fault, meaning_unique}
use Rattle.tz.proofs.UniqueResults.{clock_fault_unique, no_fault_where_shown, no_type_at_fault, shown_unique}

-- a column has an answer at an index: a code, and a value that answers or that was there before
record HasAnswer {V : Type 0} (IsAnswerAt : ℕ → ℕ → V → Type 0) (before after : List V) (codes : List ℕ) (i : ℕ)
    : Type 0 where
  code : ℕ
  value : V
  code_at : slice_get codes i ≡ Some code
  value_at : slice_get after i ≡ Some value
  answers : IsAnswerAt i code value
  kept : code ≢ 0 → slice_get after i ≡ slice_get before i

element : {X : Type 0} (xs : List X) (i : ℕ) → i < length xs → (x : X) × (slice_get xs i ≡ Some x)
element xs i within = elim ((slice_get_cases xs i).1) [
  | inl (x, inside, at, _) ↦ (x, at)
  | inr (past, _) ↦ absurd (omega (arith, past, within))
]

answer_at : {V : Type 0} (IsAnswerAt : ℕ → ℕ → V → Type 0) (before after : List V) (codes : List ℕ) (i : ℕ)
    → AreAnswers IsAnswerAt before after codes → i < length before → HasAnswer IsAnswerAt before after codes i
answer_at P before after codes i all within =
    let code = element codes i (omega (arith, all.lengths_are.1, within)) in
    let value = element after i (omega (arith, all.lengths_are.0, within)) in
    record {
      code = code.0;
      value = value.0;
      code_at = code.1;
      value_at = value.1;
      answers = all.answered i code.0 value.0 code.1 value.1;
      kept = all.kept i code.0 code.1;
    }

-- no fault of these calls has the code 0
field_not_ok : (fault : DateTimeError) → fields_code fault ≢ 0
field_not_ok faults.InvalidMonth ok = omega (arith, ok)
field_not_ok faults.InvalidMonthDay ok = omega (arith, ok)
field_not_ok faults.InvalidHour ok = omega (arith, ok)
field_not_ok faults.InvalidMinute ok = omega (arith, ok)
field_not_ok faults.InvalidSecond ok = omega (arith, ok)
field_not_ok faults.InvalidNanoseconds ok = omega (arith, ok)

not_ok : (n : ℕ) (e f : TzError) → e ≡ f → code_of f ≡ n → 0 < n → code_of e ≢ 0
not_ok n e f is has above ok = let same : code_of e ≡ n = ap code_of is ∙ has in omega (arith, same, above, ok)

module _ (z : Zone) (u : ℤ) where
  lookup_not_ok : (e : TzError) → IsLookupFault z u e → code_of e ≢ 0
  lookup_not_ok e (inl (is, _)) = not_ok 2 e _ is refl (omega arith)
  lookup_not_ok e (inr (is, _, _)) = not_ok 1 e _ is refl (omega arith)

  clock_not_ok : (n : ℕ) (e : TzError) → IsClockFault z u n e → code_of e ≢ 0
  clock_not_ok n e (inl (is, _)) = not_ok 21 e _ is refl (omega arith)
  clock_not_ok n e (inr (inl (_, fault))) = lookup_not_ok e fault
  clock_not_ok n e (inr (inr (is, _, _))) = not_ok 1 e _ is refl (omega arith)

  lookup_fault_unique : (e e' : TzError) → IsLookupFault z u e → IsLookupFault z u e' → e ≡ e'
  lookup_fault_unique e e' fault fault' =
      clock_fault_unique z u 0 e e' (inr (inl (omega arith, fault))) (inr (inl (omega arith, fault')))

  -- an offset of a column, and the type of a single call
  one_offset : (code other : ℕ) (offset : ℤ) (t : LocalTimeType)
      → IsAnswer code (IsOffset z u offset) (IsLookupFault z u) → IsAnswer other (IsClock z u t) (IsLookupFault z u)
      → (code ≡ other) × (other ≡ 0 → offset ≡ t.ut_offset)
  one_offset code other offset t (inl (is, (t', clock', same))) (inl (is', clock)) =
      (is ∙ sym is', λ _. same ∙ ap (λ x. x.ut_offset) (one_type z u t' t clock' clock))
  one_offset code other offset t (inl (is, (t', clock', same))) (inr (e, is', fault)) =
      absurd (no_type_at_fault z u e fault t' clock')
  one_offset code other offset t (inr (e, is, fault)) (inl (is', clock)) = absurd (no_type_at_fault z u e fault t clock)
  one_offset code other offset t (inr (e, is, fault)) (inr (e', is', fault')) =
      let same = ap code_of (lookup_fault_unique e e' fault fault') in
      (is ∙ same ∙ sym is', λ ok. absurd (lookup_not_ok e' fault' (sym is' ∙ ok)))

  -- a date time that is written is in a year of 32 bits, so it is no fault
  shown_without_fault : (n : ℕ) (d : DateTimeData) (e : TzError) → FitsSigned w32 d.fields.year
      → IsDateTimeDataOf (ShowsByClock z u n) d → ¬ IsClockFault z u n e
  shown_without_fault n d e fits (is, (t, clock, shows)) fault =
      let reads : IsReading (reading d.fields) =
      valid_reading d.fields shows.civil.valid fits (λ past. omega (arith, past.5, shows.civil.below_60)) in
      no_fault_where_shown z u n (date_time_of d) e (t, clock, shows) reads fault

  -- a date time of a column, and that of a single call
  one_date_time : (n code other : ℕ) (d d' : DateTimeData)
      → FitsSigned w32 d.fields.year → FitsSigned w32 d'.fields.year
      → IsAnswer code (IsDateTimeDataOf (ShowsByClock z u n) d) (IsClockFault z u n)
      → IsAnswer other (IsDateTimeDataOf (ShowsByClock z u n) d') (IsClockFault z u n)
      → (code ≡ other) × (other ≡ 0 → d ≡ d')
  one_date_time n code other d d' fits fits' (inl (is, (date, shows))) (inl (is', (date', shows'))) =
      (is ∙ sym is', λ _. ap date_time_data (shown_unique z u n (date_time_of d) (date_time_of d') shows shows'))
  one_date_time n code other d d' fits fits' (inl (is, shown)) (inr (e, is', fault)) =
      absurd (shown_without_fault n d e fits shown fault)
  one_date_time n code other d d' fits fits' (inr (e, is, fault)) (inl (is', shown)) =
      absurd (shown_without_fault n d' e fits' shown fault)
  one_date_time n code other d d' fits fits' (inr (e, is, fault)) (inr (e', is', fault')) =
      let same = ap code_of (clock_fault_unique z u n e e' fault fault') in
      (is ∙ same ∙ sym is', λ ok. absurd (clock_not_ok n e' fault' (sym is' ∙ ok)))

module _ (z : Zone) (choice : Disambiguation) (f : Fields) where
  meaning_not_ok : (e : TzError) → IsMeaningFault z choice f e → code_of e ≢ 0
  meaning_not_ok e (inl (inl (fault, is, _))) ok = field_not_ok fault (sym (ap code_of is) ∙ ok)
  meaning_not_ok e (inl (inr (_, inl (_, none)))) ok = none
  meaning_not_ok e (inl (inr (_, inr (is, _)))) ok = not_ok 1 e _ is refl (omega arith) ok
  meaning_not_ok e (inr (found, Normal shown, _, _, _, _, fault)) ok = fault
  meaning_not_ok e (inr (found, Skipped before after, _, _, _, _, fault)) ok =
      clock_not_ok z (instant_meant choice (reading f) before after) f.nanoseconds e fault ok

  some_or_none : (d : DateTime) → IsMeaning z choice f (Some d) → ¬ IsMeaning z choice f None
  some_or_none d meant none = let same : Some d ≡ None = meaning_unique z choice f (Some d) None meant none in cc

  -- an instant of a column, and the date time of a single call
  one_instant : (code other : ℕ) (u : ℤ) (d : DateTimeData) → FitsSigned w32 d.fields.year
      → IsInstantAnswer z choice f code u → IsMeaningAnswer z choice f other d
      → (code ≡ other) × (other ≡ 0 → u ≡ d.unix_time)
  one_instant code other u d fits (inl (is, _, (d', meant', _, at))) (inl (is', _, (_, meant))) =
      let same = meaning_unique z choice f (Some d') (Some (date_time_of d)) meant' meant in
      (is ∙ sym is', λ _. at ∙ ap (λ x. x.unix_time) (same_Some d' (date_time_of d) same))
  one_instant code other u d fits (inl (is, _, (d', meant', _, at))) (inr (inl (is', _, none))) =
      absurd (some_or_none d' meant' none)
  one_instant code other u d fits (inl (is, (valid, made), (d', meant', fits', at))) (inr (inr (e, is', fault))) =
      absurd (meaning_or_fault z choice f (Some d') e meant' valid made fits' fault)
  one_instant code other u d fits (inr (inl (is, _, none))) (inl (is', _, (_, meant))) =
      absurd (some_or_none (date_time_of d) meant none)
  one_instant code other u d fits (inr (inl (is, _, none))) (inr (inl (is', _, none'))) =
      (is ∙ sym is', λ ok. absurd (omega (arith, is', ok)))
  one_instant code other u d fits (inr (inl (is, (valid, made), none))) (inr (inr (e, is', fault))) =
      absurd (meaning_or_fault z choice f None e none valid made tt fault)
  one_instant code other u d fits (inr (inr (e, is, fault))) (inl (is', (valid, made), (_, meant))) =
      absurd (meaning_or_fault z choice f (Some (date_time_of d)) e meant valid made fits fault)
  one_instant code other u d fits (inr (inr (e, is, fault))) (inr (inl (is', (valid, made), none))) =
      absurd (meaning_or_fault z choice f None e none valid made tt fault)
  one_instant code other u d fits (inr (inr (e, is, fault))) (inr (inr (e', is', fault'))) =
      let same = ap code_of (meaning_fault_unique z choice f e e' fault fault') in
      (is ∙ same ∙ sym is', λ ok. absurd (meaning_not_ok e' fault' (sym is' ∙ ok)))

-- the call for one value is what the column has at its index
pub record IsElement {V : Type 0} (before after : List V) (codes : List ℕ) (i code : ℕ) (value : V) : Type 0 where
  pub code_is : slice_get codes i ≡ Some code
  pub value_is : code ≡ 0 → slice_get after i ≡ Some value
  pub kept : code ≢ 0 → slice_get after i ≡ slice_get before i

from_same : {V : Type 0} (IsAnswerAt : ℕ → ℕ → V → Type 0) (before after : List V) (codes : List ℕ)
    (i other : ℕ) (value : V) → AreAnswers IsAnswerAt before after codes → i < length before
    → ((code : ℕ) (v : V) → slice_get after i ≡ Some v → IsAnswerAt i code v → (code ≡ other) × (other ≡ 0 → v ≡ value))
    → IsElement before after codes i other value
from_same P before after codes i other value all within same =
    let has = answer_at P before after codes i all within in
    let both = same has.code has.value has.value_at has.answers in
    record {
      code_is = has.code_at ∙ ap Some both.0;
      value_is = λ ok. has.value_at ∙ ap Some (both.1 ok);
      kept = λ fault. has.kept (λ ok. fault (sym both.0 ∙ ok));
    }

-- a column whose lengths fit is answered
answered : (code other : ℕ) (Fits All : Type 0) → IsAnswerOr code other (Fits × All) (¬ Fits) → Fits → All
answered code other Fits All (inl (_, (_, all))) fits = all
answered code other Fits All (inr (_, not)) fits = absurd (not fits)

answered_both : (code other : ℕ) (First Fits All : Type 0)
    → IsAnswerOr code other (First × Fits × All) (¬ (First × Fits)) → First → Fits → All
answered_both code other First Fits All (inl (_, (_, _, all))) first fits = all
answered_both code other First Fits All (inr (_, not)) first fits = absurd (not (first, fits))

pub offset_element : (z : Zone) (unix_times before after : List ℤ) (codes_before codes : List ℕ)
    (i column code : ℕ) (t : LocalTimeType)
    → IsAnswerOr column buffer_length
    (AreOfLength (length unix_times) before codes_before × AreAnswers (IsOffsetAt z unix_times) before after codes)
    (¬ AreOfLength (length unix_times) before codes_before)
    → AreOfLength (length unix_times) before codes_before → i < length unix_times
    → IsAnswer code (IsClock z (slice_index_or unix_times i (pos 0)) t)
    (IsLookupFault z (slice_index_or unix_times i (pos 0)))
    → IsElement before after codes i code t.ut_offset
offset_element z unix_times before after codes_before codes i column code t is fits within single =
    let u = slice_index_or unix_times i (pos 0) in
    from_same (IsOffsetAt z unix_times) before after codes i code t.ut_offset
    (answered _ _ _ _ is fits) (omega (arith, within, fits.0))
    (λ other offset _ answer.
    one_offset z u other code offset t (answer u (slice_get-get_or unix_times i (pos 0) within)) single)

pub date_time_element : (z : Zone) (unix_times : List ℤ) (nanoseconds : List ℕ) (before after : List DateTimeData)
    (codes_before codes : List ℕ) (i column code : ℕ) (d : DateTimeData)
    → IsAnswerOr column buffer_length
    ((length nanoseconds ≡ length unix_times) × AreOfLength (length unix_times) before codes_before
    × AreAnswers (IsDateTimeAt z unix_times nanoseconds) before after codes)
    (¬ ((length nanoseconds ≡ length unix_times) × AreOfLength (length unix_times) before codes_before))
    → length nanoseconds ≡ length unix_times → AreOfLength (length unix_times) before codes_before
    → i < length unix_times
    → ((d' : DateTimeData) → slice_get after i ≡ Some d' → FitsSigned w32 d'.fields.year) → FitsSigned w32 d.fields.year
    → IsAnswer code
    (IsDateTimeDataOf (ShowsByClock z (slice_index_or unix_times i (pos 0)) (slice_index_or nanoseconds i 0)) d)
    (IsClockFault z (slice_index_or unix_times i (pos 0)) (slice_index_or nanoseconds i 0))
    → IsElement before after codes i code d
date_time_element z unix_times nanoseconds before after codes_before codes i column code d is same fits within
    in_range in_range_too single =
    let u = slice_index_or unix_times i (pos 0) in
    let n = slice_index_or nanoseconds i 0 in
    let at_u = slice_get-get_or unix_times i (pos 0) within in
    let at_n = slice_get-get_or nanoseconds i 0 (omega (arith, within, same)) in
    from_same (IsDateTimeAt z unix_times nanoseconds) before after codes i code d
    (answered_both _ _ _ _ _ is same fits) (omega (arith, within, fits.0))
    (λ other d' at answer.
    one_date_time z u n other code d' d (in_range d' at) in_range_too (answer u n at_u at_n) single)

pub instant_element : (z : Zone) (choice : Option Disambiguation) (fields : List Fields) (f : Fields)
    (before after : List ℤ) (codes_before codes : List ℕ) (i column code : ℕ) (d : DateTimeData)
    → AreInstantsBy z choice fields column before after codes_before codes → choice ≢ None
    → AreOfLength (length fields) before codes_before → slice_get fields i ≡ Some f → FitsSigned w32 d.fields.year
    → IsChoiceAnswer z choice f code d → IsElement before after codes i code d.unix_time
instant_element z None fields f before after codes_before codes i column code d is known fits at in_range one =
    absurd (known refl)
instant_element z (Some choice) fields f before after codes_before codes i column code d is known fits at in_range one =
    from_same (IsInstantAt z choice fields) before after codes i code d.unix_time
    (answered _ _ _ _ is fits) (omega (arith, slice_get_within fields i f at, fits.0))
    (λ other u _ answer. one_instant z choice f other code u d in_range (answer f at) one)

pub known_choice : (choice : ℕ) → choice < 4 → choice_of choice ≢ None
known_choice zero less is = cc
known_choice (suc zero) less is = cc
known_choice (suc (suc zero)) less is = cc
known_choice (suc (suc (suc zero))) less is = cc
known_choice (suc (suc (suc (suc more)))) less is = omega (arith, less)
