-- The month that is found has the lesser of the day and its length.
use Rattle.std.proofs.Common.{◌∙◌, ap, min, arith, rules}
use Rattle.std.proofs.lemmas.Int.{ints}
use Rattle.tz_base.proofs.CivilReadings.{month_length-ge}
use Rattle.tz_civil.proofs.date.Date.checked_add_months.Goals as goal

pub invariant_of-result : goal.invariant_of-result
invariant_of-result c =
    let length = c.days_in_month.ensures in
    record {
      year_is = search rules;
      day_is = record {
        month_is = (omega arith, omega arith);
        month_day_is = (
          omega (arith, month_length-ge, length, c.lesser.ensures, c.self.invariant.day_is.month_day_is),
          omega (arith, length, c.lesser.ensures),
        );
      };
    }

pub returns-clause-some : goal.returns-clause-some
returns-clause-some c =
    rw (← c.self.view_is) (record {
      month_is = record { month_is = (omega arith, omega arith); later = omega (arith, ints) };
      day_is = c.lesser.ensures ∙ ap (λ n. min c.self.inside.month_day n) c.days_in_month.ensures;
    })
