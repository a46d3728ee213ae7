-- The names of other libraries and of the definitions that several proofs cite, passed on from one place.
pub use Rattle.std.proofs.Common.{arith, refl, ◌≡◌, subst, ◌∙◌, inr, sym, inl, [], ap, ℕ, ◌∷◌, ◌<◌, rules, List, length, ◌+◌, pos, ℤ, Some, ◌≤◌, ◌++◌, suc, ◌-ℤ◌, zero, ◌*◌, ◌+ℤ◌, ◌-◌, ◌<ℤ◌, ◌%◌, ◌^◌, append_assoc, ◌/◌, ◌≤ℤ◌, None, Option, negsuc, ◌⊎◌, get_or, ◌≢◌, true, Bool, append-nil, length-append, drop, false, Err, neg_ℤ, Ok, take, IsAscii, T, lit<, min, slice_index_or, MatchBool, eq-zero-or-pos, eqb, eqb→eq, nat_eq, set, w8, ◌*ℤ◌}
pub use Rattle.std.proofs.Math.Nat.{pow-suc, mul-lt-mul_of_pos_right}
pub use Rattle.std.proofs.lemmas.Bool.{cases_lt, eqb-true, false≢true, and_parts, cases_Bool, eq-eqb, eqb-false, le-ltb, leb-true, lt-leb, ltb-false, ltb-true, ne_eqb}
pub use Rattle.std.proofs.lemmas.Bool.Decides.{Decides-int_eq, nat_tests}
pub use Rattle.std.proofs.lemmas.Fmt.{decimal_digit, length-decimal-le, decimal_is_IsNumeral, decimal-digits_value, decimal_step, digits_decimal, digits_value-decimal}
pub use Rattle.std.proofs.lemmas.Grind.{common_steps}
pub use Rattle.std.proofs.lemmas.Int.{ints, to_z-of_z, by_lt_z, fits_signed_from_abs}
pub use Rattle.std.proofs.lemmas.Int.Digits.{digits_value-lt, digits_more, digits_value_more, digits_value_push}
pub use Rattle.std.proofs.lemmas.List.{length-drop, length-take, nil_from_length, take_all, get_or_default, take_more_set}
pub use Rattle.std.proofs.lemmas.List.Elements.{All-nil, All-cons, All-contains, All-weaker, All-head, All-push, All-tail, Contains-append_left, Contains-push}
pub use Rattle.std.proofs.lemmas.List.Sums.{list_all-from_AllPass, take_while-cons}
pub use Rattle.std.proofs.lemmas.Option.{same_Some, slice_get-get_or, none-some}
pub use Rattle.std.proofs.lemmas.Result.{err_from_is_err_and, IfErr-weaker, on_ok_weaker, IfOk-weaker}
pub use Rattle.std.proofs.lemmas.Slice.{take-put_mid}
pub use Rattle.std.proofs.lemmas.Slice.Zip.{AllZip-long}
pub use Rattle.std.proofs.lemmas.Str.{IsUtf8-had, IsUtf8-append, IsAscii-append, IsUtf8-from_ascii}
pub use Rattle.std.proofs.lemmas.Str.Ascii.{IsAscii-cons, IsAscii-nil}
pub use Rattle.std.proofs.lemmas.Str.Parse.{IsNumeralModel, numerals_by_value, digits_value_short, tells_all_ascii_digits, tells_digits}
pub use Rattle.std.specs.Borrow.{Bor}
pub use Rattle.std.specs.Char.{is_ascii_alphabetic, is_ascii_digit, digit_value}
pub use Rattle.std.specs.Cmp.{int_cmp_is, int_ranks, ranks}
pub use Rattle.std.specs.Duration.{as_nanos}
pub use Rattle.std.specs.Fmt.{decimal, signed_decimal}
pub use Rattle.std.specs.Int.{is_in_range}
pub use Rattle.std.specs.List.{Contains, All, AllZip, list_all, AllPairs, range_with_len, take_while}
pub use Rattle.std.specs.Option.{option_or}
pub use Rattle.std.specs.Ordering.{int_eq, int_cmp, nat_cmp, ordering_then, MatchOrdering}
pub use Rattle.std.specs.Prelude.{if◌then◌else◌, Result, FitsSigned, ⊤, ◌==◌, ◌||◌, IfErr, IfOk, IfSome, MatchOption, OnOk, option_map, slice_get, unsigned_abs, ◌&&◌, IsSome, OkIff, cond, leb, map, nat_le, nat_lt, not, unwrap_or, ◌↔◌}
pub use Rattle.std.specs.Str.Parse.{digits_value, AllDigits}
pub use Rattle.std.specs.declared.cmp.Ordering.{Ordering}
pub use denote.Builtin.{SliceRefMutOf, i32, u32, u64, u8}
pub use denote.Slice.{MutSlice, mut_slice_Lawful, mut_slice_Tells, mut_slice_vals}
pub use mir.Syntax.{w64, w32, w128, named}
pub use mir.Val.{SFits, of_z, to_z}
pub use seplogic.Ra.Ura.{Ura}
pub use types.Logic.{Logic, sem}
pub use Rattle.tz_base.proofs.CivilReadings.{month_length-le, civil_from_parts}
pub use Rattle.tz_base.proofs.DateOrder.{civil_unique, day_number-mono, first_day-mono, first_day-period, gap_between, is_leap-period, valid_day}
pub use Rattle.tz_base.proofs.DaysOfYears.{day_in_year, day_number-is, first_day_bounds}
pub use Rattle.tz_base.proofs.LastSeconds.{valid_reading}
pub use Rattle.tz_base.specs.Days.{is_leap, month_length, IsDateOf, IsEarlierDate, day_number, first_day, months_length}
pub use Rattle.tz_base.specs.Fields.{IsValid, reading, fields_of, IsReading, IsCivil, IsFirstFault, day_of, total_nanoseconds_of, IsTimespec}
pub use Rattle.tz_base.specs.declared.error.DateTimeError.{DateTimeError}
pub use Rattle.tz_base.specs.declared.error.DateTimeError.TheVariants.{InvalidHour, InvalidMinute, InvalidMonth, InvalidMonthDay, InvalidNanoseconds, InvalidSecond}
pub use Rattle.tz_base.specs.declared.error.TzError.{TzError}
pub use Rattle.tz_base.specs.declared.fields.Fields.{Fields}
pub use Rattle.tz_rule.specs.Alternate.{AlternateTime, AreRuleDays, IsConsistentRule, IsRuleTime}
pub use Rattle.tz_rule.specs.LocalTimeType.{LocalTimeType, IsDesignation, IsOffset, IsDesignationByte, IsLocalTimeType, designation_text, type_of}
pub use Rattle.tz_rule.specs.Rule.{IsSoundRule}
unfoldable pub use Rattle.tz_rule.specs.Rule.{IsRuleType}
pub use Rattle.tz_rule.specs.declared.timezone.transition_rule.TransitionRule.{TransitionRule}
pub use Rattle.tz_rule.specs.declared.timezone.transition_rule.TransitionRule.TheVariants.{Fixed, Alternate}
pub use Rattle.tz_zone.proofs.Clocks.{clock_unique, last_unique, one_type, some_from_last}
pub use Rattle.tz_zone.proofs.LeapTimes.{IsInstant-from_bounds, instant_bounds, leap_time_mono, one_leap_time}
pub use Rattle.tz_zone.specs.Bytes.{comma, minus_sign, slash, closing_bracket, colon, dot, opening_bracket, plus_sign}
pub use Rattle.tz_zone.specs.Clock.{IsClock, IsTypeAfter, HasNoType, IsOver, IsTypeAt, IsTypeWithout}
pub use Rattle.tz_zone.specs.ClockSpans.{IsStage}
pub use Rattle.tz_zone.specs.Looks.{list_of, looks_of}
pub use Rattle.tz_zone.specs.Offsets.{AreEndOffsets, IsGreatestOffset, IsLeastOffset, IsOffsetOfRule}
pub use Rattle.tz_zone.specs.Table.{Zone, LeapSecond, Transition}
pub use Rattle.tz_zone.specs.TzText.{Begins, IsTimeUpTo, IsNumber, IsRuleText, IsTimeOfRule, TimeText, seconds_of, AlternateText, IsAlternateInRange, IsAlternateText, IsDay, IsDayTime, IsDaylightOffset, IsHms, IsName, IsNameAndOffset, IsPart, IsRuleInRange, IsRun, IsSignedTime, IsTzText, SwitchText, day_time_hours, daylight_offset_of, dst_type_of, is_in_brackets, offset_hours, rule_of, std_type_of, ut_offset_of}
pub use Rattle.tz_zone.specs.ValidZone.{AreLeapSeconds, IsSoundTable}
pub use Rattle.tz_zone.specs.ZoneOfData.{zone_of_data}
pub use Rattle.tz.specs.Buffers.{placed}
pub use Rattle.tz.specs.DateTimeGrammar.{IsPair, IsDateTimeText, IsFraction, date, time, AreYearDigits, IsDigits, IsYear, duration, offset, EndsDigits, IsHours, IsSecond, IsSeconds, IsByte, IsDateTimeTextFault, IsEnd, IsMark, IsMinutes, IsSeparator, after_mark, byte, date_time}
pub use Rattle.tz.specs.DateTimes.{DateTime, ShowsByClock, IsClockFault, IsPastTheEnd, IsUtc, ShowsInstant, moment_of, IsDateTime, IsUtcTotal, moment_cmp, total_of, utc_total}
pub use Rattle.tz.specs.EntryEnds.{entry_of, AreMore, GainsInside, HasInside, IsEndsOf, IsOutsideFault, first_entry, gains_more, gains_none, instant_between}
pub use Rattle.tz.specs.Entries.{Shown, Jump, Entry, IsEntryInside, HasTwoTypes, IsEntryIn, borrowed_type, AreEntries, IsEntryOf, IsRefused, AreEntriesBefore, HoldsAt, IsEarlier, IsEntryOutside, IsGiven, IsTaker}
pub use Rattle.tz.specs.EntryDateTimes.{IsMadeOf, IsDateTimeOf, IsDatedFault, dated_goes_on, dated_more, dated_none}
pub use Rattle.tz.specs.FindFaults.{IsFindFault, IsPromised, IsSearchFault, HasPlainOffsets, HasRuleOffsets, IsFarFromEnds, IsInsideEnds}
pub use Rattle.tz.specs.Found.{EachCanBeMade, IsFound, IsFoundBy, instant_of, CanBeMade, OneCannotBeMade, first_side}
pub use Rattle.tz.specs.GapsAndFolds.{Clock, PassesOver, IsJumpOver, Shows}
pub use Rattle.tz.specs.Meanings.{HasMeaning, meaning_of, ChoicesAgree}
pub use Rattle.tz.specs.Choices.{IsMeaning, IsMeantIn, instant_meant, IsMeaningFault, entry_meant, IsMeantFault, first_shown, last_entry, only_shown}
pub use Rattle.tz.specs.Outcomes.{IsOutcome}
pub use Rattle.tz.specs.PrintedBytes.{AreBetween, IsDigitByte}
pub use Rattle.tz.specs.PrintedText.{last_digits, seconds_text}
unfoldable pub use Rattle.tz.specs.PrintedText.{two_digits, duration_text, nine_digits, offset_text, printed_text, date_text, time_text, two_digits_or_more, middle_text}
pub use Rattle.tz.specs.Reached.{AreOffsetsOf}
pub use Rattle.tz.specs.Windows.{AtMostTakeEffectAround, AtMostTakeEffectIn, IsWindow, TakesEffectIn, first_looks, AreRising, looks_after}
pub use Rattle.tz.specs.declared.datetime.disambiguation.Disambiguation.{Disambiguation}
pub use Rattle.tz.specs.declared.datetime.disambiguation.Disambiguation.TheVariants.{Compatible, Earlier, Later, Reject}
pub use Rattle.tz.specs.declared.datetime.meaning.Meaning.TheVariants.{More, Nothing, Once, Twice}
pub use Rattle.tz.specs.declared.datetime.found.FoundDateTimeKind.{FoundDateTimeKind}
pub use Rattle.tz.specs.declared.datetime.found.FoundDateTimeKind.TheVariants.{Normal, Skipped}
pub use Rattle.tz.specs.declared.parse.OffsetMark.TheVariants.{Ahead, Behind, Utc, Absent}
pub use Rattle.tz.specs.declared.parse.ParsedDateTime.{ParsedDateTime}
