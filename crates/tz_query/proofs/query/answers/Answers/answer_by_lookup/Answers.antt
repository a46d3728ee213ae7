-- The type of a lookup, or its error.
use Rattle.tz_query.proofs.Common.{sym, subst, refl, arith, [], ◌∷◌, ◌++◌, inl, to_z-of_z, inr, w64, zone_of, codes, number_of, IsClock, Time}
use Rattle.tz_query.proofs.AnswerLines.{clock_fault_text}
use Rattle.tz_query.proofs.AddedText.{answer_written, time_answer_written}
use Rattle.tz_query.proofs.query.answers.Answers.answer_by_lookup.Goals as goal

pub fault_name-requires : goal.fault_name-requires
fault_name-requires g c =
    let u = c.args.unix_time in
    clock_fault_text (zone_of c.args.self.now.zone) u 0 c.in-Err.error
    (inr (inl (omega arith, rw (to_z-of_z w64 u c.ranges.unix_time) at c.in-Err.ensures.err)))

pub returns-in-Ok : goal.returns-in-Ok
returns-in-Ok g c =
    let z = zone_of c.args.self.now.zone in
    let u = c.args.unix_time in
    time_answer_written u (number_of c.args.nanoseconds) c.args.self.now _ c.push_instant.new.self c.push_instant.result
    (rw (to_z-of_z w64 u c.ranges.unix_time) at (c.push_instant.ensures z
    (subst (IsClock z _) (sym c.of-suffix.ensures) c.in-Ok.ensures.ok)))

pub returns-in-Err : goal.returns-in-Err
returns-in-Err g c =
    let u = c.args.unix_time in
    let name = c.fault_name.result.now in
    let text = codes "E " ++ name in
    answer_written (Time u (number_of c.args.nanoseconds)) c.args.self.now c.push_error.new.self c.push_error.result
    (text ∷ []) (
      text,
      inr (
        c.in-Err.error,
        name,
        inr (inl (
          c.args.nanoseconds.below,
          rw (to_z-of_z w64 u
              c.ranges.unix_time) at c.in-Err.ensures.err,
        )),
        c.fault_name.ensures.text,
        refl,
      ),
      refl,
    ) c.push_error.ensures
