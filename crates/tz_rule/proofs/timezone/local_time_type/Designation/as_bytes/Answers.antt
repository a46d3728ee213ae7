-- A name is ASCII, and so is no byte at all.
use Rattle.tz_rule.proofs.Common.{arith, ℕ, ◌<◌, List, ◌≤◌, suc, zero, IsDesignationByte, All, IsDesignation, take}
use Rattle.std.proofs.lemmas.Str.Ascii.{IsAscii-from_all}
use Rattle.tz_rule.proofs.timezone.local_time_type.Designation.as_bytes.Goals as goal

designation_byte_below : (b : ℕ) → IsDesignationByte b → b < 128
designation_byte_below b h = omega arith

all_below : (n : ℕ) (bytes : List ℕ) → (1 ≤ n → IsDesignation (take n bytes)) → All (λ b. b < 128) (take n bytes)
all_below zero bytes name k d h = omega arith
all_below (suc n) bytes name k d h = designation_byte_below _ ((name (omega arith)).bytes_are k d h)

pub returns-clause-ascii : goal.returns-clause-ascii
returns-clause-ascii c =
    let name = take c.args.self.now.len c.args.self.now.bytes in
    rw c.split_at.ensures.front (IsAscii-from_all name
    (all_below c.args.self.now.len c.args.self.now.bytes c.requires.is_name))
