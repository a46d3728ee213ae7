-- The bytes so far may stand in a name.
use Rattle.tz_zone.proofs.Common.{ℕ, ◌<◌, get_or, IsZoneNameByte}
use Rattle.tz_zone.proofs.timezone.zone_names.are_name_bytes.Given as goal

abbrev pub invariant-loop-byte : goal.invariant-loop-byte
invariant-loop-byte l = (k : ℕ) (d : ℕ) → k < l.byte-index → IsZoneNameByte (get_or l.part k d)
