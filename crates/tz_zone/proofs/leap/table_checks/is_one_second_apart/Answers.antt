-- The difference of two numbers of 32 bits fits 64, where 1 and -1 are told by their bits.
use Rattle.tz_zone.proofs.Common.{◌≡◌, arith, rules, ints, w64, ℤ, ◌-ℤ◌, SFits, to_z, of_z, w32, eqb, MatchBool, IsOneSecond}
use Rattle.tz_zone.proofs.leap.table_checks.is_one_second_apart.Goals as goal

same_difference : (a b c d : ℤ) → SFits w32 a → SFits w32 b → c ≡ to_z w32 (of_z w32 a) → d ≡ to_z w32 (of_z w32 b)
    → (to_z w64 (of_z w64 c) -ℤ to_z w64 (of_z w64 d)) ≡ (a -ℤ b)
same_difference a b c d fa fb ec ed = omega (arith, ints)

fits_difference : (a b : ℤ) → SFits w32 a → SFits w32 b → SFits w64 (a -ℤ b)
fits_difference a b fa fb = search rules

not_at_one : (z : ℤ) → SFits w64 z → ¬ (of_z w64 z ≡ 1)
    → MatchBool (eqb (of_z w64 z) 18446744073709551615) (IsOneSecond z) (¬ IsOneSecond z)
not_at_one z fits is = grind (arith, ints)

pub returns-else-apart-eq1 : goal.returns-else-apart-eq1
returns-else-apart-eq1 c =
    let same = same_difference c.args.next c.args.correction c.from.result c.from-2.result c.ranges.next
    c.ranges.correction c.from.ensures c.from-2.ensures in
    rw same (not_at_one (c.args.next -ℤ c.args.correction)
    (fits_difference c.args.next c.args.correction c.ranges.next c.ranges.correction)
    (rw same at c.if-apart-eq1.false))
