-- The type of the span that is kept, or that of a lookup.
use Rattle.tz_query.proofs.Common.{sym, subst, refl, to_z-of_z, w64, zone_of, number_of, IsClock, Time}
use Rattle.tz_query.proofs.AddedText.{answered_after, time_answer_written}
use Rattle.tz_query.proofs.query.answers.Answers.answer_time.Goals as goal

pub returns-then-has : goal.returns-then-has
returns-then-has g c =
    let u = c.args.unix_time in
    let within = c.if-has.ensures refl in
    time_answer_written u (number_of c.args.nanoseconds.now) c.args.self.now _ c.push_instant.new.self
    c.push_instant.result
    (rw (to_z-of_z w64 u c.ranges.unix_time) at (c.push_instant.ensures (zone_of c.args.self.now.zone)
    (c.requires _ within.0 within.1)))

pub returns : goal.returns
returns g c =
    let z = zone_of c.type_at.new.self.zone in
    let u = c.args.unix_time in
    let n = number_of c.args.nanoseconds.now in
    let push_instant = c.push_instant-2 in
    let kept = c.type_at.ensures.kept in
    let after = subst (λ zone. IsClock (zone_of zone) u c.in-Some.local_time_type.now) (sym kept.zone_is)
    (rw (to_z-of_z w64 u c.ranges.unix_time) at c.in-Some.ensures.clock) in
    answered_after _ (Time u n) push_instant.result kept
    (time_answer_written u n c.type_at.new.self _ push_instant.new.self push_instant.result
    ((rw (to_z-of_z w64 u c.ranges.unix_time) at (push_instant.ensures z))
    (subst (IsClock z u) (sym c.of-suffix.ensures) after)))

pub returns-in_default : goal.returns-in_default
returns-in_default g c =
    let u = c.args.unix_time in
    answered_after _ (Time u (number_of c.args.nanoseconds.now)) c.answer_by_lookup.result c.type_at.ensures.kept
    (rw (to_z-of_z w64 u c.ranges.unix_time) at c.answer_by_lookup.ensures)
