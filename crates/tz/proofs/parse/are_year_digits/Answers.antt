-- Fewer than four digits are printed unless a zero stands first.
use Rattle.tz.proofs.Common.{arith, refl, ◌≡◌, subst, get_or, true, Bool, false, eqb-true, AreYearDigits, nil_from_length, MatchBool, eqb-false, nat_eq}
use Rattle.std.proofs.Common.{not}
use Rattle.tz.proofs.TextFronts.{no_printed_digits, no_year_without_digits, printed_digits}
use Rattle.tz.proofs.parse.are_year_digits.Goals as goal

pub returns-in-empty : goal.returns-in-empty
returns-in-empty c are = no_year_without_digits
    (subst AreYearDigits (nil_from_length c.args.digits.now (omega (arith, c.in-empty.len_below))) are)

pub returns-in-len1 : goal.returns-in-len1
returns-in-len1 c = printed_digits c.args.digits.now c.requires (omega (arith, c.in-len1.len_at_least))
    (omega (arith, c.in-len1.len_below)) (λ zero. omega (arith, c.in-len1.len_at_least, c.in-len1.len_below))

pub returns-else-digits-ge4 : goal.returns-else-digits-ge4
returns-else-digits-ge4 c = by_test (nat_eq (get_or c.args.digits.now 0 0) 48) refl
  where
    by_test : (t : Bool) → nat_eq (get_or c.args.digits.now 0 0) 48 ≡ t
        → MatchBool (not t) (AreYearDigits c.args.digits.now) (¬ AreYearDigits c.args.digits.now)
    by_test true zero = no_printed_digits c.args.digits.now c.requires c.if-digits-ge4.false
        (eqb-true _ _ zero) c.in-len1-up.len_at_least
    by_test false zero = printed_digits c.args.digits.now c.requires (omega (arith, c.in-len1-up.len_at_least))
        c.if-digits-ge4.false (λ is. absurd (eqb-false _ _ zero is))
