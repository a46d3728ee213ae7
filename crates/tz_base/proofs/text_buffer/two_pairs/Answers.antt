-- The two pairs are the four digits.
use Rattle.std.proofs.Common.{arith, ◌∙◌, sym, ◌%◌, ◌/◌}
use Rattle.tz_base.proofs.PrintedDigits.{decimal-four, two_digits-ascii, two_digits-below}
use Rattle.tz_base.proofs.text_buffer.two_pairs.Goals as goal

pub returns-clause-text : goal.returns-clause-text
returns-clause-text c =
    let n = c.args.number in
    rw (
      c.pair_of.ensures ∙ two_digits-below (n / 100) (omega (arith, c.requires.1)),
      c.pair_of-2.ensures
          ∙ two_digits-below (n % 100) (omega arith),
    ) (sym (decimal-four n c.requires.0 c.requires.1))

pub returns-clause-ascii : goal.returns-clause-ascii
returns-clause-ascii c =
    rw (c.pair_of.ensures, c.pair_of-2.ensures) (
      two_digits-ascii (c.args.number / 100) (omega (arith, c.requires.1)),
      two_digits-ascii (c.args.number % 100)
          (omega arith),
    )
