-- `T`, two numbers and LF are the first line.
use Rattle.tz_query.proofs.Common.{sym, subst, refl, arith, [], ◌∷◌, rules, inl, to_z-of_z, w64, ◌<◌, drop, pos, line_feed, IsFirstLine, SFits, take_rest, ◌^◌}
use Rattle.tz_query.proofs.FastNumbers.{byte_at}
use Rattle.tz_query.proofs.LineFronts.{line_from_front}
use Rattle.tz_query.proofs.query.read_query.read_usual_time_line.Goals as goal

pub returns-clause-line : goal.returns-clause-line
returns-clause-line c =
    let q = c.args.queries.now in
    let u = c.in_ok-unix_time.unix_time in
    let after = c.in_ok-unix_time.after_seconds in
    let next = c.in_ok-next.next in
    let digits = c.in_ok-next.ensures.number in
    let n = digits.0 in
    let fits : SFits w64 u = search rules in
    let few : n < 2 ^ 32 = omega (arith, digits.1) in
    let letter = byte_at q 0 84 (omega (arith, c.if-queries-lt48.false)) c.if-queries-ne84.false in
    let tail = line_feed ∷ drop next q in
    let line = line_from_front 84 (u ∷ pos n ∷ []) q (drop 1 q) tail (drop next q) (λ e. absurd (omega (arith, e)))
    letter (drop after q, c.in_ok-unix_time.ensures.number, (tail, digits.3, refl)) (inl refl) in
    rw (to_z-of_z w64 u fits) (
      n,
      digits.1,
      digits.2,
      (
        line.0,
        subst (IsFirstLine q line.0) (sym (take_rest q next)) line.1,
        record {
          line_is = line.2;
          seconds_fit = fits;
          nanoseconds_fit = few;
        },
      ),
    )
