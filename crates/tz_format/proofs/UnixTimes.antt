-- Unix times of date times have seventeen digits at most.
use Rattle.std.proofs.Common.{arith, ap, inl, inr, ◌≡◌, ◌<◌, ◌≤◌, ◌^◌, ◌+ℤ◌, ℤ, pos, negsuc}
use Rattle.std.specs.Prelude.{FitsSigned, unsigned_abs}
use Rattle.std.proofs.lemmas.Bool.{cases_lt}
use Rattle.std.proofs.lemmas.Int.{ints}
use mir.Syntax.{w32}
use Rattle.tz_base.proofs.DaysOfYears.{day_in_year, first_day_bounds}
use Rattle.tz_base.specs.Fields.{IsValid, reading}
use Rattle.tz_rule.specs.LocalTimeType.{IsOffset}
use Rattle.tz_base.specs.declared.fields.Fields.{Fields}

pub unix_time_short : (f : Fields) (unix_time offset : ℤ) → IsValid f → FitsSigned w32 f.year
    → reading f ≡ unix_time +ℤ offset → unsigned_abs offset ≤ 2 ^ 31 → unsigned_abs unix_time < 10 ^ 17
unix_time_short f unix_time offset valid fits reads short =
    let bounds = first_day_bounds f.year fits in
    let r = valid.in_range in
    let in_year = day_in_year f.year f.month f.month_day r.month.0 r.month.1 r.month_day.0 valid.in_month in
    omega (arith, ints)

-- every offset of 32 bits but the least is below 2^31 seconds
pub offset_below : (offset : ℤ) → FitsSigned w32 offset → IsOffset offset → unsigned_abs offset < 2 ^ 31
offset_below (pos n) fits least = omega (arith, ints, fits)
offset_below (negsuc n) fits least = elim (cases_lt n 2147483647) [
  | inl few ↦ omega (arith, few)
  | inr many ↦ let same : n ≡ 2147483647 = omega (arith, ints, fits, many) in absurd (least (ap negsuc same))
]
