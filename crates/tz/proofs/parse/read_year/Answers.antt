-- The digits after a minus, or those that come first, are the year if it fits.
use Rattle.tz.proofs.Common.{arith, subst, ◌∙◌, ints, sym, ap, digits_value, FitsSigned}
use Rattle.std.specs.Int.{w32}
use Rattle.tz.proofs.TextFronts.{digits_unique, no_year_after_minus, no_year_without_minus, unfit}
use Rattle.tz.proofs.parse.read_year.Goals as goal

pub returns-in_err-size-in-Some : goal.returns-in_err-size-in-Some
returns-in_err-size-in-Some c =
    rw c.from_residual.ensures (no_year_after_minus c.args.text.now c.in-Some.unsigned.now c.in-Some.ensures
    (λ digits rest front are fits. omega (arith, ints, c.in_err-size-in-Some.ensures digits rest front are, fits)))

pub returns-in_err-ok-in-Some : goal.returns-in_err-ok-in-Some
returns-in_err-ok-in-Some c =
    let read = c.in_ok-size-in-Some.ensures in
    let refused = unfit c.try_from.result _ _ c.try_from.ensures (sym c.ok.ensures.value ∙ c.in_err-ok-in-Some.was) in
    rw c.from_residual-in_err-ok-in-Some.ensures
    (no_year_after_minus c.args.text.now c.in-Some.unsigned.now c.in-Some.ensures (λ digits rest front are fits.
    let same = digits_unique front read.1 in
    refused (subst (FitsSigned w32) (omega (arith, ints, fits, read.3, ap (digits_value 10) same.0)) fits)))

pub returns-in_err-ok-in-None : goal.returns-in_err-ok-in-None
returns-in_err-ok-in-None c =
    let read = c.in_ok-size-in-None.ensures in
    let refused = unfit c.try_from-in-None.result _ _ c.try_from-in-None.ensures (sym c.ok-in-None.ensures.value
    ∙ c.in_err-ok-in-None.was) in
    rw c.from_residual-in_err-ok-in-None.ensures (no_year_without_minus c.args.text.now c.in-None.ensures
    (λ digits rest front are fits.
    refused (subst (FitsSigned w32) (omega (
      arith,
      ints,
      fits,
      read.3,
      ap (digits_value 10) (digits_unique front read.1).0,
    )) fits)))
