-- The digits of the nanoseconds, or that they are no part of a second.
use Rattle.tz_query.proofs.Common.{refl, arith, [], ◌∷◌, inl, to_z-of_z, inr, w64, codes, Time, InvalidNanoseconds}
use Rattle.tz_base.specs.declared.error.TzError.TheVariants.{DateTime}
use Rattle.tz_query.proofs.AddedText.{answer_written}
use Rattle.tz_query.proofs.query.answers.Answers.answer_any_time.Goals as goal

pub returns-then-nanoseconds-ge-NANOSECONDS_PER_SECOND : goal.returns-then-nanoseconds-ge-NANOSECONDS_PER_SECOND
returns-then-nanoseconds-ge-NANOSECONDS_PER_SECOND g c =
    let text = codes "E InvalidNanoseconds" in
    answer_written (Time c.args.unix_time c.args.nanoseconds) c.args.self.now c.push_error.new.self c.push_error.result
    (text ∷ []) (
      text,
      inr (
        DateTime InvalidNanoseconds,
        codes "InvalidNanoseconds",
        inl
            (refl, omega (arith, c.if-nanoseconds-ge-NANOSECONDS_PER_SECOND.true)),
        refl,
        refl,
      ),
      refl,
    ) c.push_error.ensures

pub returns : goal.returns
returns g c = rw (to_z-of_z w64 c.args.unix_time c.ranges.unix_time, c.new.ensures) at c.answer_time.ensures
