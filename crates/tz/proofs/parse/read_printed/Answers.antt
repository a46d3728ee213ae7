-- Each part stands at its position.
use Rattle.tz.proofs.Common.{arith, subst, ints, sym, to_z-of_z, rules, ◌+◌, ◌≤◌, ◌*◌, IsValid, month_length-le}
use Rattle.std.proofs.Common.{to_z}
use Rattle.std.specs.Int.{w32}
use Rattle.tz.proofs.PrintedBytes.{digit_byte, only_byte, printed_from_positions, year_at}
use Rattle.tz.proofs.parse.read_printed.Goals as goal

pub nanoseconds_at-nanoseconds-requires-clause-digits : goal.nanoseconds_at-nanoseconds-requires-clause-digits
nanoseconds_at-nanoseconds-requires-clause-digits c =
    let last = c.are_between-else-not-are_between.ensures c.if-not-are_between-2.false in (
      (digit_byte _ 48 57 (omega arith) (omega arith) (last 7 (omega arith))),
      (digit_byte _ 48 57 (omega arith)
          (omega arith) (last 8 (omega arith))),
      (digit_byte _ 48 57 (omega arith) (omega arith)
          (last 9 (omega arith))),
      (digit_byte _ 48 57 (omega arith) (omega arith) (last 10 (omega arith))),
      (digit_byte _
          48 57 (omega arith) (omega arith) (last 11 (omega arith))),
      (digit_byte _ 48 57 (omega arith) (omega arith)
          (last 12 (omega arith))),
      (digit_byte _ 48 57 (omega arith) (omega arith) (last 13 (omega arith))),
      (digit_byte
          _ 48 57 (omega arith) (omega arith) (last 14 (omega arith))),
      (digit_byte _ 48 57 (omega arith) (omega arith)
          (last 15 (omega arith))),
    )

pub returns : goal.returns
returns c =
    let text = c.args.text.now in
    let first = c.are_between.ensures c.if-not-are_between.false in
    let last = c.are_between-else-not-are_between.ensures c.if-not-are_between-2.false in
    let p = c.pair_at.ensures (digit_byte _ 49 57 (omega arith) (omega arith) (first 0 (omega arith)))
    (digit_byte _ 48 57 (omega arith) (omega arith) (first 1 (omega arith))) in
    let q = c.pair_at-2.ensures (digit_byte _ 48 57 (omega arith) (omega arith) (first 2 (omega arith)))
    (digit_byte _ 48 57 (omega arith) (omega arith) (first 3 (omega arith))) in
    let month = c.pair_at-month.ensures (digit_byte _ 48 57 (omega arith) (omega arith) (first 5 (omega arith)))
    (digit_byte _ 48 57 (omega arith) (omega arith) (first 6 (omega arith))) in
    let month_day = c.pair_at-month_day.ensures (digit_byte _ 48 57 (omega arith) (omega arith) (first 8 (omega arith)))
    (digit_byte _ 48 57 (omega arith) (omega arith) (first 9 (omega arith))) in
    let hour = c.pair_at-hour.ensures (digit_byte _ 48 57 (omega arith) (omega arith) (first 11 (omega arith)))
    (digit_byte _ 48 57 (omega arith) (omega arith) (first 12 (omega arith))) in
    let minute = c.pair_at-minute.ensures (digit_byte _ 48 57 (omega arith) (omega arith) (first 14 (omega arith)))
    (digit_byte _ 48 57 (omega arith) (omega arith) (first 15 (omega arith))) in
    let second = c.pair_at-second.ensures (digit_byte _ 48 57 (omega arith) (omega arith) (last 4 (omega arith)))
    (digit_byte _ 48 57 (omega arith) (omega arith) (last 5 (omega arith))) in
    let days : c.days_in_month.result ≤ 31 = subst (λ n. n ≤ 31) (sym c.days_in_month.ensures) (month_length-le _ _) in
    let valid : IsValid (record {
      year = to_z w32 (100 * c.from.result + c.from-2.result);
      month = c.pair_at-month.result;
      month_day = c.pair_at-month_day.result;
      hour = c.pair_at-hour.result;
      minute = c.pair_at-minute.result;
      second = c.pair_at-second.result;
      nanoseconds = c.nanoseconds_at-nanoseconds.result;
    }) =
    record {
      in_range = record {
        month = (c.if-month-lt1.false, c.if-month-gt12.false);
        month_day = (c.if-month_day-lt1.false, omega (arith, days, c.if-month_day-days_in_month.false));
        hour = c.if-hour-gt23.false;
        minute = c.if-minute-gt59.false;
        second = omega (arith, c.if-second-gt59.false);
        nanoseconds = c.nanoseconds_at-nanoseconds.ensures.0;
      };
      in_month = subst (λ n. c.pair_at-month_day.result ≤ n) c.days_in_month.ensures c.if-month_day-days_in_month.false;
    } in
    rw c.new-fields.ensures (record {
      text = printed_from_positions text _ _ (record {
        year = year_at text c.pair_at.result c.pair_at-2.result _ (omega (arith, p.2, (first 0 (omega arith)))) p.0 q.0
            p.1 q.1 (omega (arith, ints, p.0, q.0, c.from.ensures, c.from-2.ensures));
        hyphen = only_byte text 4 45 (omega (arith, c.if-text-lt30.false)) (first 4 (omega arith));
        month = month.1;
        second_hyphen = only_byte text 7 45 (omega (arith, c.if-text-lt30.false)) (first 7 (omega arith));
        month_day = month_day.1;
        separator = only_byte text 10 84 (omega (arith, c.if-text-lt30.false)) (first 10 (omega arith));
        hour = hour.1;
        colon = only_byte text 13 58 (omega (arith, c.if-text-lt30.false)) (first 13 (omega arith));
        minute = minute.1;
        second_colon = only_byte text 16 58 (omega (arith, c.if-text-lt30.false)) (last 3 (omega arith));
        second = second.1;
        point = only_byte text 19 46 (omega (arith, c.if-text-lt30.false)) (last 6 (omega arith));
        nanoseconds = c.nanoseconds_at-nanoseconds.ensures.1;
        offset = rw (to_z-of_z w32 c.in_ok-ut_offset.ut_offset (search rules)) c.in_ok-ut_offset.ensures.text;
      });
      valid = (
        valid,
        omega (arith, c.if-second-gt59.false),
        rw (to_z-of_z w32 c.in_ok-ut_offset.ut_offset (search rules)) c.in_ok-ut_offset.ensures.range,
      );
    })
