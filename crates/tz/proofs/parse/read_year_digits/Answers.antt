-- The digits are these alone.
use Rattle.tz.proofs.Common.{arith, subst, ◌∙◌, inr, sym, inl, ap, pos, ◌^◌, digits_value, cases_lt, FitsSigned, AreYearDigits, fits_signed_from_abs}
use Rattle.std.specs.Int.{w64}
use Rattle.tz.proofs.TextFronts.{digits_unique, unfit}
use Rattle.tz.proofs.parse.read_year_digits.Goals as goal

pub returns-then-not-are_year_digits : goal.returns-then-not-are_year_digits
returns-then-not-are_year_digits c digits rest front are =
    absurd (c.if-not-are_year_digits.ensures
    (subst AreYearDigits (digits_unique front c.read_digits-size.ensures.digits).0 are))

pub returns-in_err-ok : goal.returns-in_err-ok
returns-in_err-ok c =
    let read = c.read_digits-size in
    let refused = unfit c.try_from.result (FitsSigned w64 (pos read.result.0)) (pos read.result.0) c.try_from.ensures
    (sym c.ok.ensures.value ∙ c.in_err-ok.was) in
    rw c.from_residual.ensures (λ digits rest front are.
    let same = digits_unique front read.ensures.digits in
    elim (cases_lt (digits_value 10 digits) (2 ^ 63)) [
      | inl few ↦
          absurd (refused (subst (λ n. FitsSigned w64 (pos n))
          (omega (arith, few, ap (digits_value 10) same.0, read.ensures.size))
          (fits_signed_from_abs w64 (pos (digits_value 10 digits)) few)))
      | inr many ↦ many
    ])
