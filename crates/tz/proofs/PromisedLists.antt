-- If the list is promised, each entry can be made, so a search is never refused as out of range.
use Rattle.tz.proofs.Common.{arith, subst, ◌∙◌, ints, inr, sym, inl, ap, ◌+◌, pos, ℤ, Fields, IsClock, Some, Zone, ◌-ℤ◌, ◌*◌, ◌+ℤ◌, ◌<ℤ◌, w32, IsValid, ◌≤ℤ◌, negsuc, LocalTimeType, reading, ◌≢◌, Normal, SFits, Clock, EachCanBeMade, IsReading, Skipped, TzError, Fixed, TransitionRule, Alternate, AreOffsetsOf, IsFindFault, IsRuleType, DateTimeError, InvalidHour, InvalidMinute, InvalidMonth, InvalidMonthDay, InvalidNanoseconds, InvalidSecond, IsFirstFault, IsPromised, AreEndOffsets, HasPlainOffsets, HasRuleOffsets, IsFarFromEnds, IsInsideEnds, day_in_year, first_day-mono, first_day_bounds}
use Rattle.tz_base.specs.declared.error.TzError.TheVariants.{OutOfRange}
use Rattle.tz_rule.proofs.UtcYears.{year_fits}
use Rattle.tz.proofs.ClockTypes.{fixed_type, alternate_type, offsets_from_types}
use Rattle.tz.proofs.ReadingWindows.{clock_between}

-- far from the ends all that is less than 2^32 seconds, which are 136.1 years, from a reading is in years of 32 bits
far_from_ends : (f : Fields) → IsValid f → IsFarFromEnds f.year → (x : ℤ) → (reading f -ℤ pos 4294967296) <ℤ x
    → x <ℤ (reading f +ℤ pos 4294967296) → IsReading x
far_from_ends f valid far x from until =
    let after = first_day-mono (f.year +ℤ pos 1) (f.year +ℤ pos 199 +ℤ pos 1) (omega (arith, ints)) in
    let first = first_day_bounds (f.year -ℤ pos 200) (year_fits (f.year -ℤ pos 200) (omega (arith, ints, far.0))
    (omega (arith, ints, far.1))) in
    let last = first_day_bounds (f.year +ℤ pos 199) (year_fits (f.year +ℤ pos 199) (omega (arith, ints, far.0))
    (omega (arith, ints, far.1))) in
    let r = valid.in_range in
    let in_year = day_in_year f.year f.month f.month_day r.month.0 r.month.1 r.month_day.0 valid.in_month in
    let time = 3600 * f.hour + 60 * f.minute + f.second in (
      omega (
        arith,
        ints,
        from,
        first_day-mono (f.year -ℤ pos 200) f.year
            (omega (arith, ints)),
        first.0,
        in_year,
      ),
      omega (
        arith,
        ints,
        until,
        after,
        last.1,
        in_year,
        r.hour,
        r.minute,
        r.second,
      ),
    )

-- up to near the ends all within three days of one does
inside_ends : (f : Fields) → IsValid f → IsInsideEnds f.year → (x : ℤ) → (reading f -ℤ pos 259200) ≤ℤ x
    → x ≤ℤ (reading f +ℤ pos 259200) → IsReading x
inside_ends f valid inside x from until =
    let after = first_day-mono (f.year +ℤ pos 1) (f.year +ℤ pos 2 +ℤ pos 1) (omega (arith, ints)) in
    let first = first_day_bounds (f.year -ℤ pos 2) (year_fits (f.year -ℤ pos 2) (omega (arith, ints, inside.0))
    (omega (arith, ints, inside.1))) in
    let last = first_day_bounds (f.year +ℤ pos 2) (year_fits (f.year +ℤ pos 2) (omega (arith, ints, inside.0))
    (omega (arith, ints, inside.1))) in
    let r = valid.in_range in
    let in_year = day_in_year f.year f.month f.month_day r.month.0 r.month.1 r.month_day.0 valid.in_month in
    let time = 3600 * f.hour + 60 * f.minute + f.second in (
      omega (
        arith,
        ints,
        from,
        first_day-mono (f.year -ℤ pos 2) f.year
            (omega (arith, ints)),
        first.0,
        in_year,
      ),
      omega (
        arith,
        ints,
        until,
        after,
        last.1,
        in_year,
        r.hour,
        r.minute,
        r.second,
      ),
    )

-- the offsets that the clock of such a zone has are above -25 and below 26 hours
plain_offsets : (z : Zone) → HasPlainOffsets z → AreOffsetsOf z (negsuc 89998) (pos 93599)
plain_offsets z (types, rule) = offsets_from_types z (negsuc 89998) (pos 93599)
    (λ i t at. let offset = types i t at in (omega (arith, ints, offset.0), omega (arith, ints, offset.1)))
    (λ r is u t at. of_rule r (subst HasRuleOffsets is rule) u t at)
  where
    of_rule : (r : TransitionRule) → HasRuleOffsets (Some r) → (u : ℤ) (t : LocalTimeType) → IsRuleType r u t
        → (negsuc 89998 ≤ℤ t.ut_offset) × (t.ut_offset ≤ℤ pos 93599)
    of_rule (Fixed fixed) offset u t at =
        let same = ap (λ (s : LocalTimeType). s.ut_offset) (fixed_type fixed u t at) in
        (omega (arith, ints, same, offset.0), omega (arith, ints, same, offset.1))
    of_rule (Alternate r) (std, dst) u t at = elim (alternate_type r u t at) [
      | inl is ↦
          let same = ap (λ (s : LocalTimeType). s.ut_offset) is in
          (omega (arith, ints, same, dst.0), omega (arith, ints, same, dst.1))
      | inr is ↦
          let same = ap (λ (s : LocalTimeType). s.ut_offset) is in
          (omega (arith, ints, same, std.0), omega (arith, ints, same, std.1))
    ]

-- if the list is promised, each entry can be made in a zone with offsets of 32 bits
pub each_can_be_made : (z : Zone) (least greatest : ℤ) → AreOffsetsOf z least greatest
    → (greatest -ℤ least) <ℤ pos 4294967296 → (f : Fields) → IsValid f → IsPromised z f.year
    → EachCanBeMade (IsClock z) f
each_can_be_made z least greatest offsets width f valid promised (Normal d) by = tt
each_can_be_made z least greatest offsets width f valid (inl far) (Skipped x y) (u, a, b, passes, shown_x, shown_y) =
    let before = offsets (u -ℤ pos 1) a passes.0 in
    let after = offsets u b passes.1 in (
      subst IsReading (sym shown_x.civil.reads)
          (far_from_ends f valid far (u +ℤ a.ut_offset) (omega (arith, ints, passes.2.1, before.0, after.1, width))
          (omega (arith, ints, passes.2.0))),
      subst IsReading (sym shown_y.civil.reads)
          (far_from_ends f valid far (u +ℤ b.ut_offset) (omega (arith, ints, passes.2.1))
          (omega (arith, ints, passes.2.0, before.0, after.1, width))),
    )
each_can_be_made z least greatest offsets width f valid (inr (inside, plain)) (Skipped x y)
    (u, a, b, passes, shown_x, shown_y) =
    let before = plain_offsets z plain (u -ℤ pos 1) a passes.0 in
    let after = plain_offsets z plain u b passes.1 in (
      subst IsReading (sym shown_x.civil.reads)
          (inside_ends f valid inside (u +ℤ a.ut_offset) (omega (arith, ints, passes.2.1, before.0, after.1))
          (omega (arith, ints, passes.2.0))),
      subst IsReading (sym shown_y.civil.reads)
          (inside_ends f valid inside (u +ℤ b.ut_offset) (omega (arith, ints, passes.2.1))
          (omega (arith, ints, passes.2.0, before.0, after.1))),
    )

-- and if each can be made, the search is not refused as out of range
pub not_out_of_range : (takes_memory : Type 0) (clock : Clock) (f : Fields) → (IsValid f → EachCanBeMade clock f)
    → (e : TzError) → IsFindFault takes_memory clock f e → e ≢ OutOfRange
not_out_of_range takes_memory clock f made e (inl (fault, is, first)) out =
    let wrong = sym is ∙ out in
    cc
not_out_of_range takes_memory clock f made e (inr (valid, inl (is, takes))) out =
    let wrong = sym is ∙ out in
    cc
not_out_of_range takes_memory clock f made e (inr (valid, inr (is, (found, by, cannot)))) out =
    cannot (made valid found by)

-- so it is not if the list is promised
pub never_out_of_range : (takes_memory : Type 0) (z : Zone) (least greatest : ℤ) → AreEndOffsets z least greatest
    → SFits w32 least → SFits w32 greatest → (f : Fields) → IsPromised z f.year → (e : TzError)
    → IsFindFault takes_memory (IsClock z) f e → e ≢ OutOfRange
never_out_of_range takes_memory z least greatest ends fits fits' f promised e fault =
    let width : (greatest -ℤ least) <ℤ pos 4294967296 = omega (arith, ints, fits.sfits, fits'.sfits) in
    not_out_of_range takes_memory (IsClock z) f
    (λ valid. each_can_be_made z least greatest (clock_between z least greatest ends.0 ends.1) width f valid
    promised) e fault

-- valid fields have no fault
pub valid_without_fault : (f : Fields) → IsValid f → (fault : DateTimeError) → IsFirstFault f fault → ⊥
valid_without_fault f valid InvalidMonth first = first valid.in_range.month
valid_without_fault f valid InvalidMonthDay (month, inl day) = day valid.in_range.month_day
valid_without_fault f valid InvalidMonthDay (month, inr (range, past)) = absurd (omega (arith, valid.in_month, past))
valid_without_fault f valid InvalidHour first = absurd (omega (arith, first.2, valid.in_range.hour))
valid_without_fault f valid InvalidMinute first = absurd (omega (arith, first.3, valid.in_range.minute))
valid_without_fault f valid InvalidSecond first = absurd (omega (arith, first.4, valid.in_range.second))
valid_without_fault f valid InvalidNanoseconds first = absurd (omega (arith, first.5, valid.in_range.nanoseconds))
