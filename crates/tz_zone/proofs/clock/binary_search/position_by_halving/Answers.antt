-- The looks are one more than the exponent of the greatest power of two below the number of transitions.
use Rattle.tz_zone.proofs.Common.{arith, refl, length, ◌<◌, ◌^◌, list_of}
use Rattle.tz_zone.proofs.AfterLooks.{looks_and_looks, search_by_looks}
use Rattle.tz_zone.proofs.PowerSteps.{exponent_less, exponent_up_to}
use Rattle.tz_zone.proofs.clock.binary_search.position_by_halving.Goals as goal

pub returns-then-power-lt-BLOCK-clause-looks : goal.returns-then-power-lt-BLOCK-clause-looks
returns-then-power-lt-BLOCK-clause-looks c =
    let power = c.power_up_to-power.ensures in
    let (e, is) = power.power in
    let below : 2 ^ e < length (list_of c.args.view.now) =
    omega (arith, is, power.within, c.len-count.ensures, c.requires.at_least_one) in
    search_by_looks
    (looks_and_looks c.position_after_look-first.ensures.looks (c.halved.ensures.looks e 0 is refl (omega arith)))
    (λ b bits. omega (arith, exponent_less e b _ below bits))

pub halved-block-requires-clause-powers : goal.halved-block-requires-clause-powers
halved-block-requires-clause-powers c =
    let (e, is) = c.power_up_to-power.ensures.power in
    (e, 7, is, refl, exponent_up_to 7 e (omega (arith, is, c.if-power-lt-BLOCK.false)))

pub returns-clause-looks : goal.returns-clause-looks
returns-clause-looks c =
    let power = c.power_up_to-power.ensures in
    let (e, is) = power.power in
    let below : 2 ^ e < length (list_of c.args.view.now) =
    omega (arith, is, power.within, c.len-count.ensures, c.requires.at_least_one) in
    let order = exponent_up_to 7 e (omega (arith, is, c.if-power-lt-BLOCK.false)) in
    search_by_looks
    (looks_and_looks c.position_after_look-first.ensures.looks
    (looks_and_looks (c.halved-block.ensures.looks e 7 is refl order) c.position_in_block.ensures.looks))
    (λ b bits. omega (arith, order, exponent_less e b _ below bits))
