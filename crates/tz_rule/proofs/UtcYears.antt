-- The year of an instant in UTC.
use Rattle.tz_rule.proofs.Common.{arith, ◌≡◌, ints, pos, ℕ, ◌+ℤ◌, ℤ, ◌≤ℤ◌, ◌<ℤ◌, w32, by_lt_z, negsuc, first_day-mono, IsUtcYear, SFits, first_day_bounds, IsRuleYear, day_in_year}
use Rattle.tz_base.specs.Fields.{IsCivil, IsReading}
use Rattle.tz_base.specs.declared.fields.Fields.{Fields}

pub IsUtcYear-from_civil : (u : ℤ) (n : ℕ) (f : Fields) → IsCivil u n f → IsUtcYear u f.year
IsUtcYear-from_civil u n f c =
    let range = c.valid.in_range in
    let day = day_in_year f.year f.month f.month_day range.month.0 range.month.1 range.month_day.0 c.valid.in_month in
    (omega (arith, ints, c.reads, day.0), omega (arith, ints, c.reads, day.1, c.below_60, range.hour, range.minute))

pub utc_year_unique : (u x y : ℤ) → IsUtcYear u x → IsUtcYear u y → x ≡ y
utc_year_unique u x y a b =
    by_lt_z x y (λ h. absurd (apart x y h a b)) (λ h. by_lt_z y x (λ h'. absurd (apart y x h' b a))
    (λ h'. omega (arith, ints)))
  where
    apart : (x y : ℤ) → x <ℤ y → IsUtcYear u x → IsUtcYear u y → ⊥
    apart x y h a b = omega (arith, ints, a.1, b.0, first_day-mono (x +ℤ pos 1) y (omega (arith, ints)))

-- the years of 32 bits
pub year_fits : (y : ℤ) → negsuc 2147483647 ≤ℤ y → y ≤ℤ pos 2147483647 → SFits w32 y
year_fits (pos n) low high = record { sfits = omega (arith, ints) }
year_fits (negsuc n) low high = record { sfits = omega (arith, ints) }

-- an instant of such a year is a reading
pub IsReading-from_rule_year : (u y : ℤ) → IsUtcYear u y → IsRuleYear y → IsReading u
IsReading-from_rule_year u y is h =
    let bounds = first_day_bounds y (year_fits y (omega (arith, ints, h.0)) (omega (arith, ints, h.1))) in
    (omega (arith, ints, is.0, bounds.0), omega (arith, ints, is.1, bounds.1))
