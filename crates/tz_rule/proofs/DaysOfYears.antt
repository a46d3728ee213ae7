-- The day of a rule day in its year is that of all years of one kind.
use Rattle.tz_rule.proofs.Common.{arith, ◌≡◌, ints, pos, ◌∙◌, ℕ, ◌+ℤ◌, ℤ, ap, ◌+◌, ◌-◌, Bool, ◌≤◌, ◌%◌, suc, is_leap, year_day_of, nat_tests, week_day_of_year, RuleDay, first_day, IsMonthWeek, IsRuleDay, MonthWeek, MonthWeekDay, month_length-ge, month_length-le, rule_day, week_day_in_month, week_day_of, Julian0WithLeap, Julian1WithoutLeap, day_number, day_number-is, month_length, months_length, months_length-le_year}
use Rattle.tz_rule.proofs.DaysInLists.{rule_day-julian, rule_day-zero_based, rule_day-month, julian_year_day-bound, week_day_in_month-bound}
use Rattle.tz_rule.proofs.Weeks.{week_day_of_year-is, week_day_of-add}

month_begins : (year : ℤ) (month : ℕ) → day_number year month 1
    ≡ first_day year +ℤ pos (months_length (is_leap year) (month - 1))
month_begins year month = day_number-is year month 1 ∙ omega (arith, ints)

month_day-bound : (leap : Bool) (first : ℕ) (d : MonthWeek) → IsMonthWeek d
    → months_length leap (d.month - 1) + week_day_in_month first (month_length leap d.month) d.week d.week_day ≤ 365
month_day-bound leap first d valid =
    let same : suc (d.month - 1) ≡ d.month = omega (arith, valid.month_is) in
    let months = rw same at (months_length-le_year leap (d.month - 1) (omega (arith, valid.month_is))) in
    let below = week_day_in_month-bound first (month_length leap d.month) d.week d.week_day
    (month_length-ge leap d.month) (month_length-le leap d.month) valid.week_is.0 valid.week_is.1 in
    grind (arith, nat_tests)

pub year_day_of-bound : (d : RuleDay) (leap : Bool) (first : ℕ) → IsRuleDay d → year_day_of d leap first ≤ 365
unfolding year_day_of
year_day_of-bound (Julian1WithoutLeap n) leap first valid = julian_year_day-bound leap n valid.0 valid.1
year_day_of-bound (Julian0WithLeap n) leap first valid = valid
year_day_of-bound (MonthWeekDay d) leap first valid =
    month_day-bound leap ((first + months_length leap (d.month - 1)) % 7) d valid

pub rule_day-year_day : (d : RuleDay) (year : ℤ) → IsRuleDay d
    → rule_day d year ≡ first_day year +ℤ pos (year_day_of d (is_leap year) (week_day_of_year year))
unfolding year_day_of
rule_day-year_day (Julian1WithoutLeap n) year valid = rule_day-julian n year valid.0 valid.1
rule_day-year_day (Julian0WithLeap n) year valid = rule_day-zero_based n year
rule_day-year_day (MonthWeekDay d) year valid =
    let before = months_length (is_leap year) (d.month - 1) in
    let begins = month_begins year d.month in
    let week_day = ap week_day_of begins ∙ week_day_of-add (first_day year) (week_day_of_year year) before
    (week_day_of_year-is year).0 in
    rule_day-month d year ((week_day_of_year year + before) % 7) valid week_day (omega arith)
    ∙ rw begins (omega (arith, ints))
