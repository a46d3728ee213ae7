-- The names of other libraries and of the definitions that several proofs cite, passed on from one place.
pub use Rattle.std.proofs.Common.{sym, subst, refl, arith, ◌≡◌, [], ap, ◌∷◌, ◌∙◌, ◌++◌, length, rules, ℕ, inl, List, inr, ◌+◌, ◌<◌, append_assoc, take, ℤ, drop, pos, get_or, ◌≤◌, append-nil, ◌≢◌, length-append, negsuc, suc, zero, ◌*◌, ◌-◌, ◌^◌, ◌⊎◌, Bool, cond, false, neg_ℤ, replicate, ◌%◌, ◌+ℤ◌, set, true, ◌/◌, eqb, eqb-true, lit<, ltb, nat_abs, ◌*ℤ◌, ◌-ℤ◌, ◌==◌, ◌≤ℤ◌}
pub use Rattle.std.proofs.Math.Seq.{drop-append_seam, get_or-append_seam, take-append-add, take-length}
pub use Rattle.std.proofs.lemmas.Bool.{cases_eq, cases_lt, cond-true, cond_both}
pub use Rattle.std.proofs.lemmas.Bool.Decides.{nat_tests}
pub use Rattle.std.proofs.lemmas.Int.{to_z-of_z, ints, int_rem_euclid_is}
pub use Rattle.std.proofs.lemmas.List.{take_rest, take_all, length-take-le, drop_more, nil_from_length, length-set, take-append-drop, take_more, append_cancel_right, drop-drop, drop-take, flat_map_more, length-drop, length-map, map-append, take-append-le, take-take}
pub use Rattle.std.proofs.lemmas.List.Elements.{All-cons, All-nil, All-append, All-tail, All-from_recursion, All-head, All-map, All-weaker}
pub use Rattle.std.proofs.lemmas.List.Folds.{length-prefix_len, list_all-append}
pub use Rattle.std.proofs.lemmas.List.Sums.{AllPass-from_list_all, list_all-from_AllPass, prefix_len-le-length}
pub use Rattle.std.proofs.lemmas.Result.{IfOk-weaker, err_from_is_err_and}
pub use Rattle.std.specs.Char.{digit_value, is_ascii_digit}
pub use Rattle.std.specs.Float.Numeral.{digits_len}
pub use Rattle.std.specs.Fmt.{decimal, signed_decimal}
pub use Rattle.std.specs.Int.{FitsUnsignedBits, int_rem_euclid}
pub use Rattle.std.specs.Io.KnownBytes.{Appends}
pub use Rattle.std.specs.List.{flat_map, All, AllZip, list_all}
pub use Rattle.std.specs.Prelude.{codes, map, Err, FitsSigned, IfOk, Result, Some, IfSome, Ok, slice_range, None, Option, IfErr, IfNone, OkIff, OnOk, alloc_error, not, option_copied, unwrap_or, ⊤}
pub use Rattle.std.specs.Result.{result_ok}
pub use Rattle.std.specs.Str.Parse.{digits_value, AllDigits}
pub use Rattle.std.specs.declared.num.TryFromIntError.{TryFromIntError}
pub use mir.Syntax.{w64, w32}
pub use mir.Val.{SFits}
pub use Rattle.core.proofs.dec2flt.DigitsLemmas.{is_digit, digit_range}
pub use Rattle.tz.specs.DateTimeGrammar.{EndsDigits, IsDigits}
pub use Rattle.tz.specs.DateTimes.{DateTime, moment_of, IsClockFault, IsUtc, ShowsInstant}
pub use Rattle.tz.specs.Entries.{AreEntries, Shown, Entry, Jump}
pub use Rattle.tz.specs.Found.{IsFoundBy, IsFound}
pub use Rattle.tz.specs.GapsAndFolds.{Clock}
pub use Rattle.tz.specs.PrintedText.{last_digits, type_name_text, seconds_text}
unfoldable pub use Rattle.tz.specs.PrintedText.{moment_text, nine_digits, suffix_text, date_text, middle_text, offset_text, printed_text, time_text, two_digits, duration_text, two_digits_or_more}
pub use Rattle.tz.specs.Windows.{IsSearchable}
pub use Rattle.tz.specs.declared.datetime.found.FoundDateTimeKind.{FoundDateTimeKind}
pub use Rattle.tz.specs.declared.datetime.found.FoundDateTimeKind.TheVariants.{Normal, Skipped}
pub use Rattle.tz_base.specs.Days.{IsDateOf, is_leap}
pub use Rattle.tz_base.specs.Fields.{IsCivil, IsReading, reading, IsValid, day_of}
pub use Rattle.tz_base.specs.declared.error.DateTimeError.{DateTimeError}
pub use Rattle.tz_base.specs.declared.error.DateTimeError.TheVariants.{InvalidNanoseconds, InvalidHour, InvalidMinute, InvalidMonth, InvalidMonthDay, InvalidSecond}
pub use Rattle.tz_base.specs.declared.error.TzError.{TzError}
pub use Rattle.tz_base.specs.declared.error.TzError.TheVariants.{OutOfRange, NoAvailableLocalTimeType, Memory}
pub use Rattle.tz_base.specs.declared.fields.Fields.{Fields}
pub use Rattle.tz_rule.specs.LocalTimeType.{LocalTimeType, IsDesignation, IsDesignationByte, IsLocalTimeType, IsOffset}
pub use Rattle.tz_zone.specs.Clock.{IsClock}
pub use Rattle.tz_zone.specs.Settings.{Read, IsSettingsAnswer}
pub use Rattle.tz_zone.specs.Table.{Zone}
pub use Rattle.tz_zone.specs.WindowTypes.{AreTypesIn, IfMore, IsPositionOf}
pub use Rattle.tz_zone.specs.ZoneRef.{zone_of, own_zone_of}
pub use Rattle.tz_query.specs.Answers.{entry_text, AreAnswers, IsAnswer, IsSearchAnswer, field_fault_text, AreWeekAnswers, IsWeekAnswer, found_lines, IsFaultText, IsTimeAnswer, meeting_lines, IsQueryAnswer, IsGroup, IsMeetingAnswer, IsSearchGroup, IsSingle}
pub use Rattle.tz_query.specs.Lines.{ended, line_feed, IsFirstLine, IsLine, AreLines, IsCut, IsLineEnd}
pub use Rattle.tz_query.specs.MeetingDates.{midnight, day_after, IsWeekOf}
pub use Rattle.tz_query.specs.Nanoseconds.{number_of, with_nanoseconds, HasNanoseconds}
pub use Rattle.tz_query.specs.Numbers.{IsPartFront, ArePartsFront, IsNumberFront, space, AreNumbers, hyphen, IsNumber}
pub use Rattle.tz_query.specs.Outputs.{Adds, written, IsAnswered, IsSound, Leaves}
pub use Rattle.tz_query.specs.Program.{NamesZone, BeginsAnswers, IsRefusedOption, IsRefusedText, IsZoneOfOption, NamesRefusedZone, fixed_zone, texts_of, usual_directories}
pub use Rattle.tz_query.specs.Queries.{meeting_letter, numbers_of, search_letter, AreFieldsOfBits, IsLineOf, time_letter, IsQueryLine}
pub use Rattle.tz_query.specs.declared.query.answers.Answers.{Answers}
pub use Rattle.tz_query.specs.declared.query.read_query.Query.{Query}
pub use Rattle.tz_query.specs.declared.query.read_query.Query.TheVariants.{Search, Time, Meeting}
