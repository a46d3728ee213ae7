-- A year of four digits is a number of four digits.
use Rattle.tz_query.proofs.Common.{sym, arith, ◌≡◌, ap, ◌∙◌, ◌++◌, rules, to_z-of_z, append_assoc, pos, ints, w32, signed_decimal}
use Rattle.tz_query.proofs.query.output.Page.push_year.Goals.{then-year-lt1000, else-year-lt1000}
use Rattle.tz_query.proofs.query.output.Page.push_year.Goals as goal

pub returns-else-year-gt9999-clause-text : goal.returns-else-year-gt9999-clause-text
returns-else-year-gt9999-clause-text c =
    let number = c.unsigned_abs.result in
    let year_is : c.args.year ≡ pos number = elim c.if-year-lt1000.branch [
      | then-year-lt1000 w ↦ search rules
      | else-year-lt1000 w ↦ omega (
        arith,
        ints,
        c.unsigned_abs.ensures.value,
        w.if-year-lt1000.false,
        to_z-of_z w32 c.args.year c.ranges.year,
      )
    ] in
    let page = c.args.self.now in
    let (front, back) = c.two_pairs.result in
    c.push-else-year-gt9999.ensures.text
    ∙ ap (λ bytes. bytes ++ back) c.push.ensures.text
    ∙ append_assoc page front back
    ∙ ap (λ digits. page ++ digits) (c.two_pairs.ensures.text ∙ sym (ap signed_decimal year_is))
