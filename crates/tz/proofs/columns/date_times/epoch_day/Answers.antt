-- 1970-01-01 has the number 0.
use Rattle.tz.proofs.Common.{refl, arith, rules, ints}
use Rattle.tz_base.specs.Days as days
use Rattle.tz.proofs.columns.date_times.epoch_day.Goals as goal

pub returns : goal.returns
unfolding days.month_length days.day_number days.first_day days.years_length_from_1970 days.months_length
returns c =
    record {
      month_is = search rules;
      month_day_is = search rules;
      in_month = search rules;
      starts = refl;
      bound = (omega (arith, ints), omega (arith, ints));
    }
