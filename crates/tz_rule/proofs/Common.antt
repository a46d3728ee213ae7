-- The names of other libraries and of the definitions that several proofs cite, passed on from one place.
pub use Rattle.std.proofs.Common.{arith, ◌≡◌, pos, ◌∙◌, ℕ, refl, ◌+ℤ◌, ℤ, sym, ◌<◌, ◌≤ℤ◌, ap, ◌-ℤ◌, rules, ◌+◌, ◌-◌, Bool, inl, inr, true, false, ◌<ℤ◌, List, ◌≤◌, ◌%◌, get_or, suc, zero, negsuc, length, not, of_z, to_z, ◌&&◌, MatchBool, [], eqb, subst, ◌*◌, ◌∷◌, Decides, Option, cond, ◌/◌, All, Some, lit<, ltb, replicate, take, ◌||◌, ◌⊎◌, below_more, bytes_eq, leb, length-append, map, min, ◌*ℤ◌, ◌++◌, ◌^◌, ◌↔◌, ◌≢◌}
pub use Rattle.std.proofs.lemmas.Bool.{cases_lt, false≢true, eqb-true}
pub use Rattle.std.proofs.lemmas.Bool.Decides.{Decides-eqb, nat_tests, same_from_decides, Decides-and, Decides-below_or, Decides-int_eq, Decides-like, Decides-or}
pub use Rattle.std.proofs.lemmas.Int.{ints, to_z-of_z, by_lt_z, clamps, int_max_is, int_min_is, int_rem_euclid_is}
pub use Rattle.std.proofs.lemmas.List.{get_or-replicate, get_or-map, get_or-set_other, length-map}
pub use Rattle.std.proofs.lemmas.List.FromFn.{fill_by_all, get_or-map-range_with_len, length-map-range_with_len}
pub use Rattle.std.specs.Bool.{OnTrue, beq, IsTrue}
pub use Rattle.std.specs.Int.{int_max, int_min, to_le_bytes}
pub use Rattle.std.specs.Int.Signed.{lt_z}
pub use Rattle.std.specs.Option.{IfNone, IfSome, option_eq}
pub use Rattle.std.specs.Prelude.{None, unsigned_abs, MatchOption}
pub use base.Fml.{ftrue, Lft, flft}
pub use base.Logic.{id⊢, ent}
pub use denote.Memory.{hidden_shr, lone, pointee}
pub use denote.Steps.{nothing, heard}
pub use mir.Syntax.{w64, w32, Body, Callee, Fn, addr_of, assign, block, copy, deref, erased, imm, local, named, place, return, rv_opd, seq, ty_ptr, ty_ref, value_local}
pub use mir.Val.{SFits, Val, vptr}
pub use types.Kit.{ !, done, move, qed, ‵, ◌$◌, ◌∵◌, at_ret, feq_i, fjoin, fpack, fsplit, join, keep, raw, rewrite, split, suffices, use1, use2, ◌⊛◌}
pub use Rattle.tz_base.proofs.CivilReadings.{month_length-ge, month_length-le}
pub use Rattle.tz_base.proofs.DateOrder.{first_day-mono, first_day-period, is_leap-period, moved_together, week_day_of-period, weeks_before}
pub use Rattle.tz_base.proofs.DaysOfYears.{first_day-next, year_length-is, day_number-is, first_day_bounds, day_in_year, months_length-le_year}
pub use Rattle.tz_base.proofs.TestsBelow.{passes_at}
unfoldable pub use Rattle.tz_base.proofs.TestsBelow.{all_below}
pub use Rattle.tz_base.proofs.YearStarts.{first_day-moved, is_leap-moved, days_of_years_bounds}
unfoldable pub use Rattle.tz_base.specs.Cycles.{days_of_years}
pub use Rattle.tz_base.specs.Days.{first_day, year_length, day_number}
unfoldable pub use Rattle.tz_base.specs.Days.{is_leap, week_day_of, month_length, months_length}
pub use Rattle.tz_rule.specs.Alternate.{AlternateTime, AreRuleDays, IsInRuleRange, switch_of, IsAlternateType, IsInRuleYears, IsUtcYear, IsConsistentRule, IsNearYear, IsRuleOffset, IsRuleTime, IsRuleYear, IsUnchanged}
unfoldable pub use Rattle.tz_rule.specs.Alternate.{end_of, start_of}
pub use Rattle.tz_rule.specs.KeptDesignation.{IsKept, kept, word_of, IsKeptType, kept_stored_name, same_designation, seven_bytes, shown, stored_name}
pub use Rattle.tz_rule.specs.Kinds.{kind_of, IsPairOf, is_leap_kind, week_day_of_kind}
unfoldable pub use Rattle.tz_rule.specs.Kinds.{first_kind, week_day_of_year, year_kind, second_kind, first_days}
pub use Rattle.tz_rule.specs.LikelyYears.{moved_back, HasInnerSwitches, IsDeterminingYear, IsLikelyYear, IsTriedYear, IsInnerSwitch}
pub use Rattle.tz_rule.specs.LocalTimeType.{IsDesignationByte, LocalTimeType, IsDesignation, plain_type}
pub use Rattle.tz_rule.specs.MonthWeek.{IsMonthWeek, MonthWeek, month_week}
pub use Rattle.tz_rule.specs.Pairing.{EndsNextYear, IsConflict, IsDaylight, IsInconsistent, IsPairedEnd}
pub use Rattle.tz_rule.specs.Parts.{rule_of}
pub use Rattle.tz_rule.specs.Rule.{IsSoundRule}
unfoldable pub use Rattle.tz_rule.specs.Rule.{IsRuleType}
pub use Rattle.tz_rule.specs.RuleChanges.{HasNoTypeChange, HasOneType, IsSwitchAfter, IsSwitchUpTo, type_change_of, HasNoChangeAfter, HasNoChangeUpTo, IsChangeAfter, IsChangeUpTo, IsTypeChange, TypeChange}
pub use Rattle.tz_rule.specs.RuleDays.{IsRuleDay, day_at, is_leap_day}
unfoldable pub use Rattle.tz_rule.specs.RuleDays.{rule_day, days_from}
pub use Rattle.tz_rule.specs.RuleInside.{IsRuleInside, parts_of}
unfoldable pub use Rattle.tz_rule.specs.RuleInside.{ends_come_first, switches_are_inner, ends_first_in}
pub use Rattle.tz_rule.specs.RuleSegments.{IsWholeSegment, type_by, IsSwitch, IsSwitchSegment}
pub use Rattle.tz_rule.specs.Same.{Decides-beq, Decides-same_type, Decides-name, same_type}
pub use Rattle.tz_rule.specs.YearDays.{nth_week_day}
unfoldable pub use Rattle.tz_rule.specs.YearDays.{year_day_of, week_day_in_month, julian_year_day}
pub use Rattle.tz_rule.specs.YearTables.{entry, ComesFirst, IsTableOf, ChangesOrder, IsNear, is_inner, next_entry, AreBounds, ComesAfterNext, ComesBeforeNext, seconds_in_kind}
unfoldable pub use Rattle.tz_rule.specs.YearTables.{end_table, start_table, day_table, instant_in, greatest_entry, least_entry}
pub use Rattle.tz_rule.specs.declared.timezone.local_time_type.Designation.{Designation}
pub use Rattle.tz_rule.specs.declared.timezone.rule_day.RuleDay.{RuleDay}
pub use Rattle.tz_rule.specs.declared.timezone.rule_day.RuleDay.TheVariants.{MonthWeekDay, Julian0WithLeap, Julian1WithoutLeap}
pub use Rattle.tz_rule.specs.declared.timezone.transition_rule.TransitionRule.{TransitionRule}
pub use Rattle.tz_rule.specs.declared.timezone.transition_rule.TransitionRule.TheVariants.{Alternate, Fixed}
