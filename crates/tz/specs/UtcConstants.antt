-- The constants of `UtcDateTime` are UTC date times, each with its Unix time. A function that uses
-- one of them cites its lemma here.
use Rattle.std.specs.Prelude.{◌≡◌, false, ℤ, pos, negsuc, ◌+ℤ◌}
use Rattle.std.proofs.Common.{ap, arith, refl, rules}
use Rattle.std.proofs.lemmas.Int.{ints}
use mir.Syntax.{w32}
use mir.Val.{SFits}
use Rattle.tz_base.specs.Cycles.{days_of_years}
use Rattle.tz_base.specs.Days.{is_leap, month_length, months_length, first_day, day_number}
use Rattle.tz_base.specs.Fields.{IsValid, reading}
use Rattle.tz_base.specs.declared.fields.Fields.{Fields}
use Rattle.tz_base.proofs.DaysOfYears.{day_number-is}
use Rattle.tz_base.proofs.LastSeconds.{valid_reading}
use Rattle.tz_base.proofs.YearStarts.{first_day-moved}
use Rattle.tz.specs.DateTimes.{IsUtc}

-- midnight of January 1st of the year, and the last nanosecond of it
abbrev year_begins : ℤ → Fields
year_begins year = record {
  year = year;
  month = 1;
  month_day = 1;
  hour = 0;
  minute = 0;
  second = 0;
  nanoseconds = 0;
}

abbrev year_ends : ℤ → Fields
year_ends year = record {
  year = year;
  month = 12;
  month_day = 31;
  hour = 23;
  minute = 59;
  second = 59;
  nanoseconds =
      999999999;
}

valid_begin : (year : ℤ) → IsValid (year_begins year)
unfolding month_length
valid_begin year = record {
  in_range = record {
    month = (omega arith, omega arith);
    month_day = (omega arith, omega arith);
    hour = omega arith;
    minute = omega arith;
    second = omega arith;
    nanoseconds = omega arith;
  };
  in_month = omega arith;
}

valid_end : (year : ℤ) → IsValid (year_ends year)
unfolding month_length
valid_end year = record {
  in_range = record {
    month = (omega arith, omega arith);
    month_day = (omega arith, omega arith);
    hour = omega arith;
    minute = omega arith;
    second = omega arith;
    nanoseconds = omega arith;
  };
  in_month = omega arith;
}

utc_begin : (year : ℤ) → SFits w32 year → IsUtc (year_begins year)
utc_begin year fits = record {
  valid = valid_begin year;
  reads =
      valid_reading (year_begins year) (valid_begin year) fits
      (λ last. absurd (omega (arith, last.1)));
}

utc_end : (year : ℤ) → SFits w32 year → IsUtc (year_ends year)
utc_end year fits = record {
  valid = valid_end year;
  reads = valid_reading (year_ends year) (valid_end year) fits
      (λ last. absurd (omega (arith, last.5)));
}

first_day_is : (year : ℤ) → day_number year 1 1 ≡ first_day year
unfolding months_length
first_day_is year = omega (arith, ints, day_number-is year 1 1)

last_day_is : (year : ℤ) → is_leap year ≡ false → day_number year 12 31 ≡ first_day year +ℤ pos 364
unfolding months_length month_length
last_day_is year common =
    let months : months_length (is_leap year) 11 ≡ 334 =
    ap (λ leap. months_length leap 11) common in
    omega (arith, ints, day_number-is year 12 31, months)

unix_epoch_reads : pos 0 ≡ reading (year_begins (pos 1970))
unfolding days_of_years
unix_epoch_reads = omega (
  arith,
  ints,
  first_day_is (pos 1970),
  first_day-moved (pos 1970) 1970 0 refl,
)

min_reads : negsuc 67768100567971199 ≡ reading (year_begins (negsuc 2147483647))
unfolding days_of_years
min_reads = omega (
  arith,
  ints,
  first_day_is (negsuc 2147483647),
  first_day-moved (negsuc 2147483647) 352 5368710
      refl,
)

max_reads : pos 67767976233532799 ≡ reading (year_ends (pos 2147483647))
unfolding days_of_years is_leap
max_reads = omega (
  arith,
  ints,
  last_day_is (pos 2147483647) refl,
  first_day-moved (pos 2147483647) 4294967647
      5368710 refl,
)

pub unix_epoch_is_utc : IsUtc (year_begins (pos 1970)) × (pos 0 ≡ reading (year_begins (pos 1970)))
unix_epoch_is_utc = (utc_begin (pos 1970) (search rules), unix_epoch_reads)

pub min_is_utc : IsUtc (year_begins (negsuc 2147483647))
    × (negsuc 67768100567971199 ≡ reading (year_begins (negsuc 2147483647)))
min_is_utc = (utc_begin (negsuc 2147483647) (search rules), min_reads)

pub max_is_utc : IsUtc (year_ends (pos 2147483647))
    × (pos 67767976233532799 ≡ reading (year_ends (pos 2147483647)))
max_is_utc = (utc_end (pos 2147483647) (search rules), max_reads)
