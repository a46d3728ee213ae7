-- Leap years repeat after 400 years.
use Rattle.std.proofs.Common.{arith, ◌≡◌, ◌∙◌, sym, refl, ◌-◌, ◌*◌, ◌+ℤ◌, ◌-ℤ◌, pos, true, false}
use Rattle.std.proofs.lemmas.Int.{ints}
use Rattle.tz_base.proofs.YearStarts.{is_leap-moved}
use Rattle.tz_base.specs.Days.{is_leap, year_length}
use Rattle.tz_format.proofs.weeks.days_of_year_before.Goals as goal

pub returns-then-is_moved_year_leap-clause-value : goal.returns-then-is_moved_year_leap-clause-value
unfolding year_length
returns-then-is_moved_year_leap-clause-value c =
    let moved = c.moved_year.result in
    let same : pos (moved - 1) ≡ (c.args.year -ℤ pos 1) +ℤ pos (400 * 5368710) =
    omega (arith, ints, c.moved_year.ensures.value, c.moved_year.ensures.bound) in
    let leap : is_leap (c.args.year -ℤ pos 1) ≡ true =
    is_leap-moved (c.args.year -ℤ pos 1) (moved - 1) 5368710 (sym same) ∙ sym c.is_moved_year_leap.ensures
    ∙ c.if-is_moved_year_leap.true in
    rw leap refl

pub returns-else-is_moved_year_leap-clause-value : goal.returns-else-is_moved_year_leap-clause-value
unfolding year_length
returns-else-is_moved_year_leap-clause-value c =
    let moved = c.moved_year.result in
    let same : pos (moved - 1) ≡ (c.args.year -ℤ pos 1) +ℤ pos (400 * 5368710) =
    omega (arith, ints, c.moved_year.ensures.value, c.moved_year.ensures.bound) in
    let leap : is_leap (c.args.year -ℤ pos 1) ≡ false =
    is_leap-moved (c.args.year -ℤ pos 1) (moved - 1) 5368710 (sym same) ∙ sym c.is_moved_year_leap.ensures
    ∙ c.if-is_moved_year_leap.false in
    rw leap refl
