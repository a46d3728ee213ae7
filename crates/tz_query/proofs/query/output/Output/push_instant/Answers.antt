-- What the type shows, or that it is in no year of 32 bits.
use Rattle.tz_query.proofs.Common.{sym, subst, refl, rules, inl, to_z-of_z, inr, w64, codes, number_of, moment_text, IfOk-weaker, w32, DateTime, IsCivil, OutOfRange, moment_of, IsReading, ◌+ℤ◌}
use Rattle.tz_query.proofs.OtherNanoseconds.{civil_with}
use Rattle.tz_query.proofs.query.output.Output.push_instant.Goals as goal

pub returns-in_default : goal.returns-in_default
returns-in_default g c z clock =
    let u = c.args.unix_time in
    let t = c.args.suffix.now.local_time_type in
    let outside : ¬ IsReading (u +ℤ t.ut_offset) =
    rw (
      to_z-of_z w64 u c.ranges.unix_time,
      to_z-of_z w32 c.ut_offset.result
          (search rules),
      c.ut_offset.ensures.value,
    ) at c.in_default.ensures.none in
    IfOk-weaker c.push_error.result _ _
    (λ done text. (
      codes "E OutOfRange",
      inr (
        OutOfRange,
        codes "OutOfRange",
        inr (inr
            (refl, c.args.nanoseconds.now.below, (t, clock, outside))),
        refl,
        refl,
      ),
      text,
    ))
    c.push_error.ensures

pub returns : goal.returns
returns g c z clock =
    let u = c.args.unix_time in
    let n = number_of c.args.nanoseconds.now in
    let t = c.args.suffix.now.local_time_type in
    let f = c.in-Some.fields in
    let (civil, reads) : IsCivil (u +ℤ t.ut_offset) 0 f × IsReading (u +ℤ t.ut_offset) =
    rw (
      to_z-of_z w64 u c.ranges.unix_time,
      to_z-of_z w32 c.ut_offset.result
          (search rules),
      c.ut_offset.ensures.value,
    ) at c.in-Some.ensures.some in
    let d : DateTime = moment_of (record f { nanoseconds = n }) t u in
    IfOk-weaker c.push_shown.result _ _
    (λ done text. (
      moment_text d,
      inl (
        d,
        (
          t,
          clock,
          record {
            civil = civil_with (u +ℤ t.ut_offset) n f c.args.nanoseconds.now.below civil;
            type_is = refl;
            instant_is =
                refl;
          },
        ),
        subst IsReading (sym civil.reads) reads,
        refl,
      ),
      text u,
    ))
    c.push_shown.ensures.text
