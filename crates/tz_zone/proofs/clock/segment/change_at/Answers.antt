-- There is a change where both types are there and differ.
use Rattle.tz_zone.proofs.Common.{◌≡◌, to_z-of_z, w64, sym, ◌∙◌, ap, false≢true, Change, Decides-same_type, MatchOption-at_some}
use Rattle.tz_zone.proofs.LeapTimes.{instant_bounds}
use Rattle.tz_zone.proofs.SegmentTypes.{match_none, no_change_from_none, no_change_to_none, no_change_of_same}
use Rattle.tz_zone.proofs.clock.segment.change_at.Goals as goal

pub returns-in_err-before-clause-change : goal.returns-in_err-before-clause-change
returns-in_err-before-clause-change c = λ z low before after.
    match_none c.from_residual.result _ _ c.from_residual.ensures
    (no_change_from_none z c.args.unix_time c.args.before c.in_err-before.was before)

pub returns-in_err-after-clause-change : goal.returns-in_err-after-clause-change
returns-in_err-after-clause-change c = λ z low before after.
    match_none c.from_residual-in_err-after.result _ _ c.from_residual-in_err-after.ensures
    (no_change_to_none z c.args.unix_time c.args.after c.in_err-after.was after)

pub returns-then-is_same-clause-change : goal.returns-then-is_same-clause-change
returns-then-is_same-clause-change c = λ z low before after.
    let a = c.in_ok-before.before in
    let b = c.in_ok-after.after in
    let same = (Decides-same_type a.now b.now).0 (sym c.is_same.ensures ∙ c.if-is_same.true) in
    no_change_of_same z c.args.unix_time a.now b.now same
    (MatchOption-at_some {o = c.args.before} _ _ a c.in_ok-before.was before)
    (MatchOption-at_some {o = c.args.after} _ _ b c.in_ok-after.was after)

pub returns-clause-change : goal.returns-clause-change
returns-clause-change c = λ z low before after.
    let u = c.args.unix_time in
    let a = c.in_ok-before.before in
    let b = c.in_ok-after.after in
    let at : c.new.result.unix_time ≡ u = ap (λ (x : Change). x.unix_time) c.new.ensures
    ∙ to_z-of_z w64 u c.ranges.unix_time in
    let before_is : c.new.result.before.now ≡ a.now = ap (λ (x : Change). x.before) c.new.ensures in
    let after_is : c.new.result.after.now ≡ b.now = ap (λ (x : Change). x.after) c.new.ensures in
    let bounds = instant_bounds u c.ranges.unix_time in (
      at,
      rw (at, before_is, after_is) (record {
        not_least = low;
        up_to = bounds.1;
        before_is = MatchOption-at_some {o = c.args.before} _ _ a c.in_ok-before.was before;
        after_is = MatchOption-at_some {o = c.args.after} _ _ b c.in_ok-after.was after;
        differ = λ same. absurd (false≢true (sym c.if-is_same.false ∙ c.is_same.ensures
            ∙ (Decides-same_type a.now b.now).1 same));
      }),
    )
