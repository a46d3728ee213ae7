-- A line of usual numbers is answered as it is read, and every other one by what it holds.
use Rattle.tz_query.proofs.Common.{sym, subst, rules, inl, to_z-of_z, w64, Search, Time, IsFirstLine, take_rest}
use Rattle.tz_query.proofs.query.answers.Answers.answer_line.Goals as goal

pub returns-in-Some : goal.returns-in-Some
returns-in-Some g c =
    let u = c.in-Some.unix_time in
    let (n, few, digits, front) = c.in-Some.ensures.line in
    let (answer, is, adds) = rw (
      to_z-of_z w64 u (search rules),
      c.of_digits.ensures n few digits,
    ) at c.in_ok-answer_time.ensures in
    (front.0, answer, front.1, inl (Time u n, front.2, is), adds)

pub returns-in-Some-read_usual_search_line : goal.returns-in-Some-read_usual_search_line
returns-in-Some-read_usual_search_line g c =
    let (n, few, digits, front) = c.in-Some-read_usual_search_line.ensures in
    let nanoseconds = c.of_digits-in-Some-read_usual_search_line in
    let (answer, is, adds) = rw (nanoseconds.ensures n few digits) at c.in_ok-answer_search.ensures in (
      front.0,
      answer,
      front.1,
      inl (
        Search (record c.in-Some-read_usual_search_line.fields {
          nanoseconds =
              n;
        }),
        front.2,
        is,
      ),
      adds,
    )

pub of_digits-requires : goal.of_digits-requires
of_digits-requires g c = let (n, few, digits, front) = c.in-Some.ensures.line in (n, few, digits)

pub of_digits-requires-in-Some-read_usual_search_line : goal.of_digits-requires-in-Some-read_usual_search_line
of_digits-requires-in-Some-read_usual_search_line g c = let (n, few, digits, front) =
    c.in-Some-read_usual_search_line.ensures in (n, few, digits)

pub returns : goal.returns
returns g c =
    let bytes = c.args.queries.now in
    let next = c.in_ok-end.ensures.answer in
    (next.0, next.1, subst (IsFirstLine bytes next.0) (sym (take_rest bytes c.in_ok-end.end)) next.2, next.3, next.4)
