-- Six digits, and three after them.
use Rattle.std.proofs.Common.{refl, append_assoc}
use Rattle.tz_format.proofs.Digits.{nine_digits_are}
use Rattle.tz_format.proofs.line.Line.push_nine_digits.Goals as goal

pub returns-clause-text : goal.returns-clause-text
returns-clause-text c =
    rw (
      c.push_three_digits.ensures.text,
      c.push_six_digits.ensures.text,
      nine_digits_are c.args.number,
      append_assoc,
    ) refl
