-- The names of other libraries and of the definitions that several proofs cite, passed on from one place.
pub use Rattle.std.proofs.Common.{◌≡◌, arith, ℕ, rules, refl, sym, inr, inl, length, ℤ, ◌∙◌, subst, ◌<◌, ap, List, ◌≤ℤ◌, Some, ◌<ℤ◌, pos, ◌-ℤ◌, ◌-◌, ◌≤◌, [], ◌+ℤ◌, ◌+◌, Option, negsuc, ◌≢◌, None, false, ◌∷◌, ◌⊎◌, suc, true, Bool, zero, eqb, get_or, ◌++◌, Err, Ok, Result, cond, ◌^◌, drop, option_map, MatchBool, below_more, take, neg_ℤ, ◌*◌, ◌↔◌, All, add-one, le-leb, ltb, not, zero-add, ◌&&◌, ◌*ℤ◌, ◌/◌, ◌%◌, append-nil}
pub use Rattle.std.proofs.Math.Dec.{eqb-suc-zero}
pub use Rattle.std.proofs.Math.Pow.{pow_mono}
pub use Rattle.std.proofs.lemmas.Bool.{cases_lt, false≢true, eqb-true, ne_eqb, OnTrue_at, cases_Bool, cond-false, cond-true, eq-eqb, eqb-false, ltb-false, ltb-true, not-false, and_parts, le-ltb, leb-true, lt-leb}
pub use Rattle.std.proofs.lemmas.Bool.Decides.{Decides-int_eq, nat_tests}
pub use Rattle.std.proofs.lemmas.Int.{to_z-of_z, ints, by_lt_z, int_max_is}
pub use Rattle.std.proofs.lemmas.Iterator.{YieldsList-from_slice, cases_from_all}
pub use Rattle.std.proofs.lemmas.Iterator.Consumers.{count_from_yields_List}
pub use Rattle.std.proofs.lemmas.Iterator.Search.{YieldsList-from_take_while, true_from_All}
pub use Rattle.std.proofs.lemmas.List.{nil_from_length, append_assoc, append_cancel_left, get_or-drop, get_or_append_left, get_or_past, length-append, length-drop, length-take, length-take-le, take-append-drop}
pub use Rattle.std.proofs.lemmas.List.Sums.{take_while-cons, fails_before_first, passes_at_first, list_all-from_AllPass}
pub use Rattle.std.proofs.lemmas.Option.{slice_get_within, slice_get_read, same_Some, none-some, slice_get-get_or, get_or_from_slice_get, MatchOption-at_none, MatchOption-at_some}
pub use Rattle.std.proofs.lemmas.Result.{IfErr-weaker, err_from_is_err_and, IfOk-weaker, MatchResult-from_both}
pub use Rattle.std.specs.Borrow.{Bor}
pub use Rattle.std.specs.Char.{is_ascii_digit, digit_value, is_ascii_alphabetic, is_ascii_whitespace}
pub use Rattle.std.specs.Fn.{FnReturnsAt}
pub use Rattle.std.specs.Int.{int_max, int_min, Width, IsInRange, is_in_range}
pub use Rattle.std.specs.Io.KnownBytes.{Consumes}
pub use Rattle.std.specs.List.{take_while, slice_index, AllWithin, HoldsAt, position_from, position_or_len, prefix_len, slice_split, list_all}
pub use Rattle.std.specs.Prelude.{slice_get, MatchOption, FitsSigned, alloc_error, option_copied, IfOk, IfSome, Vec, IfNone, OnOk, int_lt, is_some, unsigned_abs, vec_capacity, vec_items, vec_len, ◌==◌, if◌then◌else◌, ◌||◌, nat_le, nat_lt, unwrap_or}
pub use Rattle.std.specs.Result.{MatchResult, IsErrAnd, OkIff}
pub use Rattle.std.specs.Str.{IsAscii, IsTrimAscii, IsUtf8, all_ascii_digits}
pub use Rattle.std.specs.Str.Parse.{digits_value, ExplainsSignedError, ExplainsUnsignedError, IsParseIntError, ParsesSigned, ParsesUnsigned, error_kind, starts_with_minus}
pub use Rattle.std.specs.declared.alloc.Global.{Global}
pub use borrow.Author.Tests.{tests}
pub use mir.Syntax.{w64, w32, w128}
pub use mir.Val.{SFits, to_z, of_z}
pub use Rattle.tz_base.specs.declared.error.Error.TheVariants.{Tz}
pub use Rattle.tz_base.specs.declared.error.LocalTimeTypeError.{LocalTimeTypeError}
pub use Rattle.tz_base.specs.declared.error.LocalTimeTypeError.TheVariants.{InvalidTimeZoneDesignationChar, InvalidTimeZoneDesignationLength, InvalidUtcOffset}
pub use Rattle.tz_base.specs.declared.error.ParseDataError.TheVariants.{UnexpectedEof, InvalidData}
pub use Rattle.tz_base.specs.declared.error.ReadFault.TheVariants.{Failed}
pub use Rattle.tz_base.specs.declared.error.TransitionRuleError.{TransitionRuleError}
pub use Rattle.tz_base.specs.declared.error.TransitionRuleError.TheVariants.{InvalidRuleDayMonth, InvalidRuleDayWeek, InvalidRuleDayWeekDay, InvalidDstStartEndTime, InvalidDstUtcOffset, InvalidRuleDayJulianDay, InvalidStdUtcOffset}
pub use Rattle.tz_base.specs.declared.error.TzError.{TzError}
pub use Rattle.tz_base.specs.declared.error.TzError.TheVariants.{TzString, Memory, OutOfRange, NoAvailableLocalTimeType, TzFile}
pub use Rattle.tz_base.specs.declared.error.TzStringError.{TzStringError}
pub use Rattle.tz_base.specs.declared.error.TzStringError.TheVariants.{ParseInt}
pub use Rattle.tz_rule.proofs.RuleTypes.{rule_type_unique}
pub use Rattle.tz_rule.proofs.WeakerClauses.{MatchBool-lt_z, IfSome-weaker, MatchBool-by_test, MatchBool-weaker}
pub use Rattle.tz_rule.specs.Alternate.{alternate_of, AlternateTime, IsConsistentRule, IsFirstRuleFault, IsInRuleRange, IsRangeFault, AreRuleDays, IsRuleTime}
pub use Rattle.tz_rule.specs.LocalTimeType.{LocalTimeType, IsLocalTimeType, IsFirstTypeFault, type_of, IsDesignation, plain_type, IsDesignationByte, designation_text}
pub use Rattle.tz_rule.specs.MonthWeek.{month_week, IsRuleWeek, IsRuleWeekDay, MonthWeek, IsFirstMonthWeekFault, IsMonthWeek, IsRuleMonth}
unfoldable pub use Rattle.tz_rule.specs.Rule.{IsRuleType}
pub use Rattle.tz_rule.specs.RuleChanges.{type_change_of, HasNoChangeAfter, HasNoChangeUpTo, IsChangeAfter, IsChangeUpTo, IsTypeChange, TypeChange}
pub use Rattle.tz_rule.specs.RuleRef.{rule_seen}
pub use Rattle.tz_rule.specs.Same.{Decides-same_type, same_type}
pub use Rattle.tz_rule.specs.declared.timezone.rule_day.RuleDay.{RuleDay}
pub use Rattle.tz_rule.specs.declared.timezone.rule_day.RuleDay.TheVariants.{Julian0WithLeap, Julian1WithoutLeap, MonthWeekDay}
pub use Rattle.tz_rule.specs.declared.timezone.transition_rule.TransitionRule.{TransitionRule}
pub use Rattle.tz_rule.specs.declared.timezone.transition_rule.TransitionRule.TheVariants.{Fixed, Alternate}
pub use Rattle.std.proofs.lemmas.Fmt.{decimal_digit, length-decimal-le, decimal_is_IsNumeral, digits_decimal, digits_value-decimal}
pub use Rattle.std.proofs.lemmas.List.Elements.{All-weaker}
pub use Rattle.std.proofs.lemmas.Str.Parse.{IsNumeralModel, numerals_by_value, tells_all_ascii_digits}
pub use Rattle.std.specs.Fmt.{decimal}
pub use Rattle.std.specs.Ordering.{int_eq}
pub use Rattle.tz_rule.specs.Rule.{IsSoundRule}
pub use Rattle.tz_base.specs.PrintedText.{seconds_text}
unfoldable pub use Rattle.tz_base.specs.PrintedText.{two_digits}
pub use Rattle.tz_zone.specs.Bytes.{comma, dot, slash, capital_j, capital_m, closing_bracket, colon, opening_bracket, minus_sign, plus_sign}
pub use Rattle.tz_zone.specs.Changes.{change_of, Change, HasNoChange, HasNoPreceding, IsChange, IsFollowing, IsPreceding, HasNoFollowing, HasTypeOrNone, IsTrueSegment}
pub use Rattle.tz_zone.specs.Clock.{IsClock, AreReached, IsTypeOfLast, IsTypeAt, IsTypeWithout, IsTypeAfter, AreAhead, HasNoType, IsLast, IsTypeAfterTable, IsFaultAfter, IsLookupFault, IsPositionAt, IsTransitionType, IsOver, IsTypeWith}
pub use Rattle.tz_zone.specs.ClockSegments.{IsReachedAt, IsBefore, from_start, IsSegmentAt}
pub use Rattle.tz_zone.specs.LeapTime.{IsWideEffect, IsInstant, IsLeapTimeRefused, IsPastInstants, IsReached, IsLeapTime, IsTimeReached, correction_before, IsBeforeStart, IsStart, IsCorrection, IsEffect, IsLastBefore, IsOneSecond, correction_at, correction_at_start, IsEffectRefused}
pub use Rattle.tz_zone.specs.Looks.{list_of, looks_of, IsAfterLooks, IsAfterSearch}
pub use Rattle.tz_zone.specs.Offsets.{IsOffsetOfTypes, IsOffsetOfRule, AreEndOffsets, IsOffset}
pub use Rattle.tz_zone.specs.PositionsLeft.{IsAmongPositions}
pub use Rattle.tz_zone.specs.Runs.{IsRunStart, LiesAt, HasNoneAfterSeam, IsSeam, IsWalkedDown, IsWalkedUp}
pub use Rattle.tz_zone.specs.Settings.{FindsIn, Read, Finds, texts_of, Answer, IsFileAnswer, IsNamedOrTextAnswer, Opens, path_in}
pub use Rattle.tz_zone.specs.SettingsParts.{reader_of, directories_of}
pub use Rattle.tz_zone.specs.Table.{Zone, LeapSecond, Transition, zone_with, without_transitions, zone_of_type}
pub use Rattle.tz_zone.specs.TableChanges.{IsChangeByRule, HasTableEnds, IsFar, IsTableChange}
pub use Rattle.tz_zone.specs.TzFile.{IsTypeRecord, Part, after, Block, HoldsLeapSeconds, IsContent, IsTzFile, part_with, zone_of_part, HasIndicators, HasName, IsExtraRule, IsFirstVersion, IsFooter, IsFramed, IsHeader, IsUnit, MayHold, change_at, is_extended, leap_at}
unfoldable pub use Rattle.tz_zone.specs.TzFile.{part_of, type_at, footer_of, leaps_of, transitions_of, trimmed, types_of, name_at, trimmed_start}
pub use Rattle.tz_zone.specs.TzFileFault.{IsReadFault, ContentFails, ExtraRuleFails, FileFails, FooterFails, FrameFails, HeaderFails, TypeFails, UnitFails}
pub use Rattle.tz_zone.specs.TzParts.{block_view, width_of, HasTables, unit_view}
pub use Rattle.tz_zone.specs.TzText.{IsNumber, AlternateText, IsAlternateText, IsRuleText, IsRun, Begins, IsDaylightOffset, IsMonthWeekText, IsName, IsSignedTime, rule_of, IsAlternateInRange, IsDay, IsDayTime, IsDayTimeSign, IsHms, IsNameAndOffset, IsPart, IsSign, is_in_brackets, std_type_of, IsRuleInRange, IsTimeOfRule, IsTimeUpTo, IsTzText, day_time_hours, dst_type_of, offset_hours, seconds_of, ut_offset_of, TimeText, SwitchText, daylight_offset_of}
pub use Rattle.tz_zone.specs.TzTextFault.{IsTzTextFault, IsDayNumberFault, IsDaylightFault, IsMonthWeekDayFault, IsNameFault, IsNumberFault, IsOffsetFault, IsRulesFault, IsUnclosed, FailsFrom, InText, IsDayFault, IsDayTimeFault, IsHmsFault, IsLastRuleFault, IsMissingByte, IsPartFault, IsRuleTextFault, IsTimeAbove, IsTimeFault, LacksRules, Reached, TimeFaults, day_time_faults, offset_faults}
pub use Rattle.tz_zone.specs.ValidZone.{AreLeapSeconds, IsSoundTable, FollowsAt, HasBegunAt, HasTypeAtIndex, RisesAtIndex, ExpiresAt, Follows, IsFirstZoneFault, IsRising, IsValidZone, IsFirstTransitionFault, IsRuleTypeAt, MayBeFirst, RuleAgrees, RuleAnswers}
pub use Rattle.tz_zone.specs.WindowTypes.{AreTypesIn, IfMore, IsPositionOf}
pub use Rattle.tz_zone.specs.ZoneNames.{IsZoneNameAnswer, IsZoneNameByte, IsZoneNamePart}
pub use Rattle.tz_zone.specs.ZoneOfData.{zone_of_data}
pub use Rattle.tz_zone.specs.ZoneRef.{own_zone_of, zone_of}
pub use Rattle.tz_zone.specs.declared.parse.tz_string.DayAndTime.{DayAndTime}
pub use Rattle.tz_zone.specs.declared.parse.tz_string.WrittenTime.{WrittenTime}
pub use Rattle.tz_zone.specs.TzStrings.{offset_of_text, turn_text, tz_text, AreNamed, IsDaylightText, IsShortOffset, IsStandardText, IsWritable, daylight_text, name_and_offset_text}
unfoldable pub use Rattle.tz_zone.specs.TzStrings.{daylight_offset_text, plain_time_text, signed_time_text, is_extended_time, name_text, time_of_day_text, day_text, is_bare, minutes_text}
