-- A digit, and two after it.
use Rattle.std.proofs.Common.{refl, append_assoc}
use Rattle.tz_format.proofs.Digits.{three_digits_are}
use Rattle.tz_format.proofs.line.Line.push_three_digits.Goals as goal

pub returns-clause-text : goal.returns-clause-text
returns-clause-text c =
    rw (
      c.push_two_digits.ensures.text,
      c.push.ensures.text,
      three_digits_are c.args.number c.requires.below,
      append_assoc,
    ) refl
