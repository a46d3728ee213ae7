-- The names of other libraries and of the definitions that several proofs cite, passed on from one place.
pub use Rattle.std.proofs.Common.{refl, inl, inr, rules, subst, ◌≡◌, arith, pos, ◌<◌, ℕ, ◌≤◌, length, sym, Some, List, Option, slice_index_or, ap, ◌∙◌, ◌≢◌, [], suc, zero, ◌+ℤ◌, ◌+◌, ◌-ℤ◌, ◌<ℤ◌, ◌∷◌, ◌≤ℤ◌, None, ℤ, Bool, false, true, ◌*◌, All, FitsSigned, IfErr, IfOk, cond, negsuc, slice_set, ◌⊎◌}
pub use Rattle.std.proofs.lemmas.Bool.{false≢true, cases_lt, eqb-true, leb-true}
pub use Rattle.std.proofs.lemmas.Int.{to_z-of_z, ints}
pub use Rattle.std.proofs.lemmas.Option.{get_or_from_slice_get, slice_get_within, slice_get-get_or, same_Some, slice_get_cases, slice_get_read}
pub use Rattle.std.specs.Duration.{as_nanos}
pub use Rattle.std.specs.List.{list_all, onto_first, slice_split}
pub use Rattle.std.specs.Prelude.{slice_get, ◌==◌, codes, if◌then◌else◌, nat_le, ◌&&◌, ◌++◌}
pub use mir.Syntax.{w64, w32}
pub use mir.Val.{SFits, of_z, to_z}
pub use Rattle.tz.specs.Columns.{IsOffset}
pub use Rattle.tz.specs.DateTimes.{IsUtcTotal, utc_total, DateTime, IsClockFault, IsUtcAt, ShowsByClock}
pub use Rattle.tz.specs.declared.datetime.disambiguation.Disambiguation.{Disambiguation}
pub use Rattle.tz_base.specs.Fields.{IsReading, IsCivil, reading}
pub use Rattle.tz_base.specs.declared.error.TzError.{TzError}
pub use Rattle.tz_rule.specs.LocalTimeType.{LocalTimeType}
pub use Rattle.tz_rule.specs.declared.timezone.transition_rule.TransitionRule.{TransitionRule}
pub use Rattle.tz_zone.specs.Changes.{IsTrueSegment, segment_of}
pub use Rattle.tz_zone.specs.Clock.{IsClock, IsLookupFault, IsTypeAfter, IsOver, IsTypeWithout}
pub use Rattle.tz_zone.specs.Offsets.{AreEndOffsets}
pub use Rattle.tz_zone.specs.Table.{Zone}
pub use Rattle.tz_c.specs.Codes.{code_of, IsAnswer, IsAnswerOr, buffer_length, fields_code, number_code}
pub use Rattle.tz_c.specs.Columns.{IsDateTimeAt, IsInstantAt, IsOffsetAt, AreAnswers, AreInstantsBy, AreOfLength, IsInstantAnswer}
pub use Rattle.tz_c.specs.DateTimes.{IsChoiceAnswer, choice_of, IsDateTimeDataOf, IsMeaningAnswer}
pub use Rattle.tz_c.specs.ErrorTexts.{error_text, text_of_code, texts, number_text, text_in}
pub use Rattle.tz_c.specs.Texts.{IsRuleTextAnswer, IsTextAnswer}
pub use Rattle.tz_c.specs.ZoneOfData.{zone_of_data}
