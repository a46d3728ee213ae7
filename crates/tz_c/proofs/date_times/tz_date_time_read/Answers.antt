-- What is written is what is read.
use Rattle.tz_c.proofs.Common.{refl, inl, subst, sym}
use Rattle.tz.specs.DateTimeGrammar.{IsDateTimeText}
use Rattle.tz_c.proofs.date_times.tz_date_time_read.Goals as goal

pub returns-in-Ok-clause-answer : goal.returns-in-Ok-clause-answer
returns-in-Ok-clause-answer c =
    let text = subst (IsDateTimeText c.args.text.now) (sym c.of.ensures.value) c.in-Ok.ensures.ok in
    inl (refl, text, c.of.ensures.sound)
