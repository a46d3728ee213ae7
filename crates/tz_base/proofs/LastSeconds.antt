-- What valid fields of a year of 32 bits read: all but the very last second 60 read in such a year.
use Rattle.std.proofs.Common.{◌≡◌, ◌+◌, ◌*◌, ◌⊎◌, inl, inr, arith, rules, pos, negsuc, ◌≤ℤ◌}
use Rattle.std.proofs.lemmas.Int.{ints, by_lt_z}
use Rattle.std.proofs.lemmas.Bool.{cases_lt}
use mir.Syntax.{w32}
use mir.Val.{SFits}
use Rattle.tz_base.specs.Days.{month_length, IsDay, IsEarlierDate}
use Rattle.tz_base.specs.Fields.{IsValid, IsReading, reading, day_of}
use Rattle.tz_base.specs.declared.fields.Fields.{Fields}
use Rattle.tz_base.proofs.DaysOfYears.{day_in_year, first_day_bounds}
use Rattle.tz_base.proofs.DateOrder.{day_number-mono, valid_day}

-- the last second of all, which is a second 60
abbrev IsLastSecond : Fields → Type 0
IsLastSecond f = (f.year ≡ pos 2147483647) × (f.month ≡ 12) × (f.month_day ≡ 31) × (f.hour ≡ 23) × (f.minute ≡ 59)
    × (f.second ≡ 60)

last_date : IsDay (pos 2147483647) 12 31
unfolding month_length
last_date = record { month_is = (omega arith, omega arith); month_day_is = (omega arith, omega arith) }

-- the date is the last of all, or an earlier one
by_date : (f : Fields) → IsValid f → SFits w32 f.year → IsEarlierDate f.year f.month f.month_day (pos 2147483647) 12 31
    ⊎ ((f.year ≡ pos 2147483647) × (f.month ≡ 12) × (f.month_day ≡ 31))
by_date f valid fits =
    by_lt_z f.year (pos 2147483647) (λ h. inl (inl h)) (λ h.
    let year : f.year ≡ pos 2147483647 = omega (arith, ints, fits.sfits) in
    elim (cases_lt f.month 12) [
      | inl m ↦ inl (inr (year, inl m))
      | inr m ↦
          let month : f.month ≡ 12 = omega (arith, valid.in_range.month.1) in
          elim (cases_lt f.month_day 31) [
            | inl d ↦ inl (inr (year, inr (month, d)))
            | inr d ↦ inr (year, month, omega (arith, valid.in_range.month_day.1))
          ]
    ])

-- the day of an earlier date is before the last
day_before_last : (f : Fields) → IsValid f → IsEarlierDate f.year f.month f.month_day (pos 2147483647) 12 31
    → day_of f ≤ℤ pos 784351576775
day_before_last f valid earlier =
    let fits : SFits w32 (pos 2147483647) = search rules in
    let rise = day_number-mono f.year f.month f.month_day (pos 2147483647) 12 31 (valid_day f valid) last_date
    earlier in
    let last = day_in_year (pos 2147483647) 12 31 (omega arith) (omega arith) (omega arith) last_date.month_day_is.1 in
    omega (arith, ints, (first_day_bounds (pos 2147483647) fits).1)

pub valid_reading : (f : Fields) → IsValid f → SFits w32 f.year → (IsLastSecond f → ⊥) → IsReading (reading f)
valid_reading f valid fits not_last =
    let bounds = first_day_bounds f.year fits in
    let r = valid.in_range in
    let in_year = day_in_year f.year f.month f.month_day r.month.0 r.month.1 r.month_day.0 valid.in_month in
    let time = 3600 * f.hour + 60 * f.minute + f.second in
    let low : negsuc 67768100567971199 ≤ℤ reading f = omega (arith, ints) in (
      low,
      elim (cases_lt (3600 * f.hour + 60 * f.minute + f.second) 86400) [
        | inl h ↦ omega (arith, ints)
        | inr h ↦
            let hour : f.hour ≡ 23 = omega (arith, r.hour, r.minute, r.second) in
            let minute : f.minute ≡ 59 = omega (arith, r.hour, r.minute, r.second) in
            let second : f.second ≡ 60 = omega (arith, r.hour, r.minute, r.second) in
            elim (by_date f valid fits) [
              | inl e ↦ omega (arith, ints, day_before_last f valid e)
              | inr d ↦ absurd (not_last (d.0, d.1, d.2, hour, minute, second))
            ]
      ],
    )
