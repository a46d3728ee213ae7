-- The bits that are set are those of the digits, the letters, `+` and `-`.
use Rattle.tz_rule.proofs.Common.{arith, ◌≡◌, ℕ, refl, sym, ◌<◌, Bool, true, ◌≤◌, ◌%◌, get_or, Decides-eqb, nat_tests, ◌&&◌, all_below, eqb, passes_at, subst, Decides, Decides-beq, IsDesignationByte, ◌/◌, beq, ◌||◌, Decides-or, IsTrue, leb, ◌^◌, ◌↔◌}
use Rattle.std.specs.Int.Bits.{bit_and}
use Rattle.tz_rule.specs.declared.timezone.local_time_type.TheConstants.{NAME_BITS}
use Rattle.tz_rule.proofs.timezone.local_time_type.is_designation_byte.Goals as goal

abbrev has_bit : ℕ → Bool
has_bit byte = eqb (bit_and (get_or NAME_BITS (byte / 32) 0 / 2 ^ (byte % 32)) 1) 1

abbrev is_among : ℕ → ℕ → ℕ → Bool
is_among low high byte = leb low byte && leb byte high

abbrev is_name_byte : ℕ → Bool
is_name_byte byte = is_among 48 57 byte ||
    (is_among 65 90 byte || (is_among 97 122 byte || (eqb byte 43 || eqb byte 45)))

bits_are : all_below (λ byte. beq (has_bit byte) (is_name_byte byte)) 256 ≡ true
unfolding all_below
bits_are = refl

Decides-is_among : (low high byte : ℕ) → Decides (is_among low high byte) ((low ≤ byte) × (byte ≤ high))
Decides-is_among low high byte = (
  λ e. (grind (arith, nat_tests), grind (arith, nat_tests)),
  λ h. grind (arith, nat_tests),
)

Decides-is_name_byte : (byte : ℕ) → Decides (is_name_byte byte) (IsDesignationByte byte)
Decides-is_name_byte byte =
    Decides-or _ _ (Decides-is_among 48 57 byte)
    (Decides-or _ _ (Decides-is_among 65 90 byte)
    (Decides-or _ _ (Decides-is_among 97 122 byte) (Decides-or _ _ (Decides-eqb byte 43) (Decides-eqb byte 45))))

means : (byte : ℕ) → byte < 256 → IsTrue (has_bit byte) ↔ IsDesignationByte byte
means byte below =
    let same : has_bit byte ≡ is_name_byte byte =
    (Decides-beq (has_bit byte) (is_name_byte byte)).0
    (passes_at (λ byte. beq (has_bit byte) (is_name_byte byte)) 256 byte bits_are below) in
    subst (λ (b : Bool). IsTrue b ↔ IsDesignationByte byte) (sym same) (Decides-is_name_byte byte)

pub returns : goal.returns
returns c = means c.args.byte (omega (arith, c.ranges.byte))
