-- One digit, two, or two after the others.
use Rattle.std.proofs.Common.{arith, refl, append_assoc}
use Rattle.std.proofs.lemmas.Fmt.{decimal_digit}
use Rattle.tz_base.proofs.PrintedDigits.{decimal-two_digits, decimal-pairs}
use Rattle.tz_base.proofs.text_buffer.TextBuffer.+push_digits.Goals as goal

pub returns-then-number-lt10-clause-text : goal.returns-then-number-lt10-clause-text
returns-then-number-lt10-clause-text t c =
    rw (c.push.ensures.text, decimal_digit c.args.number (omega arith)) refl

pub returns-then-number-lt100-clause-text : goal.returns-then-number-lt100-clause-text
returns-then-number-lt100-clause-text t c =
    rw (c.push_two_digits.ensures.text, decimal-two_digits c.args.number (omega arith) (omega arith)) refl

pub returns-else-number-lt100-clause-text : goal.returns-else-number-lt100-clause-text
returns-else-number-lt100-clause-text t c =
    rw (
      c.push_two_digits-else-number-lt100.ensures.text,
      c.push_digits.ensures.text,
      decimal-pairs c.args.number
          (omega arith) (omega arith),
      append_assoc,
    ) refl
