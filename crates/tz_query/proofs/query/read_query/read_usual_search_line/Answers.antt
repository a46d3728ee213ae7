-- `F`, seven numbers and LF are the first line.
use Rattle.tz_query.proofs.Common.{sym, subst, refl, arith, ◌∷◌, ◌∙◌, rules, inl, to_z-of_z, w64, ◌+◌, ℤ, Fields, drop, line_feed, w32, IsFirstLine, SFits, IsPartFront, take_rest, ArePartsFront, numbers_of, search_letter, AreFieldsOfBits, TryFromIntError}
use Rattle.tz_query.proofs.FastNumbers.{byte_at}
use Rattle.tz_query.proofs.LineFronts.{line_from_front, some_if}
use Rattle.tz_query.proofs.query.read_query.read_usual_search_line.Goals as goal

pub returns : goal.returns
returns c =
    let q = c.args.queries.now in
    let next = c.in_ok-next.next in
    let digits = c.in_ok-next.ensures.number in
    let n = digits.0 in
    let after = c.in_ok-number.after_year in
    let year = c.in_ok-year.year in
    let year_fits : SFits w32 year = search rules in
    let month = c.in_ok-month in
    let day = c.in_ok-month_day in
    let hour = c.in_ok-hour in
    let minute = c.in_ok-minute in
    let second = c.in_ok-second in
    let f : Fields = record {
      year = year;
      month = month.month;
      month_day = day.month_day;
      hour = hour.hour;
      minute = minute.minute;
      second = second.second;
      nanoseconds = n;
    } in
    let letter = byte_at q 0 70 (omega (arith, c.if-queries-lt48.false)) c.if-queries-ne70.false in
    let space = byte_at q after 32 (omega (arith, c.if-queries-lt48.false, c.in_ok-number.ensures.end))
    c.if-queries-after_year-ne32.false in
    let given = some_if {T = ℤ} {E = TryFromIntError} c.try_from.result _ _ year c.try_from.ensures
    (sym c.ok.ensures.value ∙ c.in_ok-year.was) in
    let tail = line_feed ∷ drop next q in
    let parts : ArePartsFront (drop 1 q) (numbers_of f) tail = (
      drop after q,
      subst (λ y. IsPartFront (drop 1 q) y (drop after q))
          (sym (rw (to_z-of_z w64 c.in_ok-number.number (search rules)) at given).1) c.in_ok-number.ensures.number,
      (
        drop month.after_month q,
        (drop (after + 1) q, space, month.ensures.number),
        (
          drop day.after_day q,
          (drop (month.after_month + 1) q, month.ensures.space, day.ensures.number),
          (
            drop hour.after_hour q,
            (drop (day.after_day + 1) q, day.ensures.space, hour.ensures.number),
            (
              drop minute.after_minute q,
              (drop (hour.after_hour + 1) q, hour.ensures.space, minute.ensures.number),
              (
                drop second.after_second q,
                (
                  drop (minute.after_minute + 1)
                      q,
                  minute.ensures.space,
                  second.ensures.number,
                ),
                (tail, digits.3, refl),
              ),
            ),
          ),
        ),
      ),
    ) in
    let fit : AreFieldsOfBits f = record {
      year_fits = year_fits;
      month_fits = omega (arith, month.ensures.bound);
      month_day_fits = omega (arith, day.ensures.bound);
      hour_fits = omega (arith, hour.ensures.bound);
      minute_fits = omega (arith, minute.ensures.bound);
      second_fits = omega (arith, second.ensures.bound);
      nanoseconds_fit = omega (arith, digits.1);
    } in
    let line = line_from_front search_letter (numbers_of f) q (drop 1 q) tail (drop next q)
    (λ e. absurd (omega (arith, e))) letter parts (inl refl) in
    rw (c.new-fields.ensures, to_z-of_z w32 year year_fits) (
      n,
      digits.1,
      digits.2,
      (
        line.0,
        subst (IsFirstLine q line.0) (sym (take_rest q next))
            line.1,
        record { line_is = line.2; fields_fit = fit },
      ),
    )
