-- What is tested of the record and the one after it.
use Rattle.tz_zone.proofs.Common.{arith, rules, ints, ◌+◌, slice_get_within, Follows, MatchBool-weaker}
use Rattle.tz_zone.proofs.TableChecks.{pair_test, less_test}
use Rattle.tz_zone.proofs.leap.table_checks.follows_at.Goals as goal
use Rattle.tz_zone.proofs.leap.table_checks.follows_at.Goals.{else-index-leap_seconds-2-via-then-index-leap_seconds-2+else-correction, else-index-leap_seconds-2-via-else-index-leap_seconds-2}

pub returns-then-index-leap_seconds : goal.returns-then-index-leap_seconds
returns-then-index-leap_seconds c = λ l next at at_next.
    absurd (omega (arith, slice_get_within c.args.leap_seconds.now (c.args.index + 1) next at_next))

pub returns-then-correction : goal.returns-then-correction
returns-then-correction c =
    let leaps = c.args.leap_seconds.now in
    let here = c.index-leap_seconds-index.result in
    let next = c.index-leap_seconds-index-2.result in
    pair_test leaps c.args.index here next (Follows leaps c.args.index) _ (omega arith) c.index-leap_seconds-index.is
    c.index-leap_seconds-index-2.is
    (MatchBool-weaker {P' = Follows leaps c.args.index here next} {Q' = ¬ Follows leaps c.args.index here next} _
    (λ less. (less, λ no. absurd (no (c.if-index-leap_seconds-2.true, omega (arith, ints)))))
    (λ not_less follows. not_less follows.0) (less_test here.unix_leap_time next.unix_leap_time _ _ (search rules)
    (search rules) c.unix_leap_time.ensures c.unix_leap_time-then-correction.ensures))

pub returns : goal.returns
returns c =
    let leaps = c.args.leap_seconds.now in
    pair_test leaps c.args.index c.index-leap_seconds-index.result c.index-leap_seconds-index-2.result
    (Follows leaps c.args.index) _ (omega arith) c.index-leap_seconds-index.is c.index-leap_seconds-index-2.is
    (MatchBool-weaker c.may_follow.result (λ may. (omega (arith, ints, may.0), λ _. may))
    (λ may_not follows. may_not (follows.1 (λ is. elim c.else-index-leap_seconds-2.branch [
      | else-index-leap_seconds-2-via-then-index-leap_seconds-2+else-correction w ↦ w.if-correction.false cc
      | else-index-leap_seconds-2-via-else-index-leap_seconds-2 w ↦ w.if-index-leap_seconds-2.false is.0
    ]))) c.may_follow.ensures)
