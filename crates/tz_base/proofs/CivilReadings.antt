-- The fields that the calendar finds for a reading are the civil ones.
use Rattle.std.proofs.Common.{◌≡◌, ℕ, ◌/◌, ◌%◌, ◌<◌, ◌≤◌, Bool, refl, arith, ℤ, pos, ◌+ℤ◌, ◌-ℤ◌}
use Rattle.std.proofs.lemmas.Bool.Decides.{nat_tests}
use Rattle.std.proofs.lemmas.Int.{ints}
use Rattle.tz_base.specs.Days.{is_leap, month_length, IsDateOf}
use Rattle.tz_base.specs.Fields.{IsCivil}

-- the parts of a moved reading are valid fields with that reading
pub civil_from_parts : (x : ℤ) (moved : ℕ) (year : ℤ) (month month_day nanoseconds : ℕ)
    → pos moved ≡ x +ℤ pos 67768111675987200
    → IsDateOf (pos (moved / 86400) -ℤ pos 784353144398) year month month_day → nanoseconds < 1000000000
    → month_length (is_leap year) month ≤ 31
    → IsCivil x nanoseconds (record {
      year = year;
      month = month;
      month_day = month_day;
      hour = moved % 86400 / 3600;
      minute = moved % 86400 % 3600 / 60;
      second = moved % 86400 % 60;
      nanoseconds = nanoseconds;
    })
civil_from_parts x moved year month month_day nanoseconds e date part longest =
    record {
      valid = record {
        in_range = record {
          month = date.month_is;
          month_day = (date.month_day_is.0, omega arith);
          hour = omega arith;
          minute = omega arith;
          second = omega arith;
          nanoseconds = part;
        };
        in_month = date.month_day_is.1;
      };
      below_60 = omega arith;
      reads = omega (arith, ints, date.day_is);
      nanoseconds_are = refl;
    }

pub month_length-le : (leap : Bool) (month : ℕ) → month_length leap month ≤ 31
unfolding month_length
month_length-le leap month = grind (arith, nat_tests)

pub month_length-ge : (leap : Bool) (month : ℕ) → 28 ≤ month_length leap month
unfolding month_length
month_length-ge leap month = grind (arith, nat_tests)
