-- Each field is its number.
use Rattle.tz_query.proofs.Common.{sym, subst, rules, to_z-of_z, w64, pos, get_or, w32, SFits}
use Rattle.tz_query.proofs.LineFronts.{unsigned_value, seven_numbers}
use Rattle.tz_query.proofs.query.read_query.fields_of.Goals as goal

pub returns-clause-ok : goal.returns-clause-ok
returns-clause-ok c =
    let ns = c.args.numbers.now in
    let year = rw (to_z-of_z w64 (get_or ns 0 (pos 0)) (search rules)) at c.in_ok-try_from.ensures in
    let month = unsigned_value 8 (get_or ns 1 (pos 0)) _
    (rw (to_z-of_z w64 (get_or ns 1 (pos 0)) (search rules)) at c.in_ok-try_from-2.ensures) in
    let day = unsigned_value 8 (get_or ns 2 (pos 0)) _
    (rw (to_z-of_z w64 (get_or ns 2 (pos 0)) (search rules)) at c.in_ok-try_from-3.ensures) in
    let hour = unsigned_value 8 (get_or ns 3 (pos 0)) _
    (rw (to_z-of_z w64 (get_or ns 3 (pos 0)) (search rules)) at c.in_ok-try_from-4.ensures) in
    let minute = unsigned_value 8 (get_or ns 4 (pos 0)) _
    (rw (to_z-of_z w64 (get_or ns 4 (pos 0)) (search rules)) at c.in_ok-try_from-5.ensures) in
    let second = unsigned_value 8 (get_or ns 5 (pos 0)) _
    (rw (to_z-of_z w64 (get_or ns 5 (pos 0)) (search rules)) at c.in_ok-try_from-6.ensures) in
    let nanoseconds = unsigned_value 32 (get_or ns 6 (pos 0)) _
    (rw (to_z-of_z w64 (get_or ns 6 (pos 0)) (search rules)) at c.in_ok-try_from-7.ensures) in
    let year_fits : SFits w32 c.in_ok-try_from.field-0 = subst (SFits w32) (sym year.1) year.0 in
    rw (to_z-of_z w32 c.in_ok-try_from.field-0 year_fits) (
      record {
        year_fits = year_fits;
        month_fits = month.0;
        month_day_fits = day.0;
        hour_fits = hour.0;
        minute_fits =
            minute.0;
        second_fits = second.0;
        nanoseconds_fit = nanoseconds.0;
      },
      cc (seven_numbers ns c.requires, year.1, month.1, day.1, hour.1, minute.1, second.1, nanoseconds.1),
    )
