-- What a text is read as is a UTC date time.
use Rattle.tz.proofs.Common.{arith, subst, inr, sym, inl, ℕ, ◌<◌, List, length, Fields, ◌-◌, ◌^◌, IsValid, digits_value, fields_of, IsFraction, date, is_leap, time, valid_reading, IsPastTheEnd, IsUtc, month_length-le, digits_value-lt}
use Rattle.tz.proofs.TextFronts.{fraction_below}

nanoseconds_below : (text : List ℕ) (n : ℕ) (rest : List ℕ) → IsFraction text n rest → n < 1000000000
nanoseconds_below text n rest (inl none) = omega (arith, none.1)
nanoseconds_below text n rest (inr (after, digits, point, front, some, few, value)) =
    let below = fraction_below (9 - length digits) (digits_value 10 digits) (omega arith)
    (subst (λ m. digits_value 10 digits < 10 ^ m) (omega (arith, few))
    (digits_value-lt 10 digits front.all_digits)) in
    omega (arith, value, below)

-- the fields of a date and a time are those of a UTC date time
pub fields_are_utc : (text between after rest : List ℕ) (d f : Fields) → date.reads text d between
    → (time d).reads after f rest → IsUtc f
fields_are_utc text between after rest d f (
  year,
  after_year,
  is_year,
  (
    _,
    month_text,
    _,
    (month, after_month, is_month, (_, day_text, _, (month_day, after_day, is_day, (date_is, _)))),
  ),
) (
  hour,
  after_hour,
  is_hour,
  (
    _,
    minute_text,
    _,
    (
      minute,
      after_minute,
      is_minute,
      (
        _,
        second_text,
        _,
        (second, after_second, is_second, (nanoseconds, after_fraction, is_fraction, (fields_are, _))),
      ),
    ),
  ),
) =
    let valid : IsValid (fields_of year month month_day hour minute second nanoseconds) = record {
      in_range = record {
        month = (is_month.2, is_month.3);
        month_day = (is_day.2, omega (arith, is_day.3, month_length-le (is_leap year) month));
        hour = is_hour.3;
        minute = is_minute.3;
        second = is_second.0.3;
        nanoseconds = nanoseconds_below after_second nanoseconds after_fraction is_fraction;
      };
      in_month = is_day.3;
    } in
    let before = subst (λ e. ¬ IsPastTheEnd (fields_of e.year e.month e.month_day hour minute second 0)) date_is
    is_second.1 in
    let utc : IsUtc (fields_of year month month_day hour minute second nanoseconds) =
    record {
      valid = valid;
      reads = valid_reading (fields_of year month month_day hour minute second nanoseconds) valid
          is_year.2 before;
    } in
    subst IsUtc (sym fields_are) (subst (λ e. IsUtc
    (fields_of e.year e.month e.month_day hour minute second nanoseconds)) (sym date_is) utc)
