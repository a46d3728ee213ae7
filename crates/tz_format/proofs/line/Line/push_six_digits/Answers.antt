-- Three digits, and three after them.
use Rattle.std.proofs.Common.{refl, append_assoc}
use Rattle.tz_format.proofs.Digits.{last_three_digits}
use Rattle.tz_format.proofs.line.Line.push_six_digits.Goals as goal

pub returns-clause-text : goal.returns-clause-text
returns-clause-text c =
    rw (
      c.push_three_digits-2.ensures.text,
      c.push_three_digits.ensures.text,
      last_three_digits 3 c.args.number,
      append_assoc,
    ) refl
