-- The bytes at the number's position are its digits.
use Rattle.std.proofs.Common.{arith, ◌≡◌, ◌∙◌, sym, ◌+◌, ◌*◌, ◌-◌}
use Rattle.tz_base.proofs.DigitPairs.{pair_is}
use Rattle.tz_base.proofs.PrintedDigits.{two_digits-below}
use Rattle.tz_base.proofs.text_buffer.pair_of.Goals as goal

pub returns : goal.returns
returns c =
    let number = c.args.number in
    let two : number * 2 + 2 - number * 2 ≡ 2 = omega arith in
    let copied = rw (c.from-position.ensures, two) at c.copy_from_slice.ensures.after in
    copied ∙ pair_is number c.requires ∙ sym (two_digits-below number c.requires)
