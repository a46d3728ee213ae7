-- The least and the greatest offset are that of the one type.
use Rattle.tz_zone.proofs.Common.{plain_type}
use Rattle.std.specs.Prelude.{pos}
use Rattle.tz_zone.proofs.OffsetBounds.{ends_of_type}
use Rattle.tz_zone.proofs.timezone.zone_ref.TimeZoneRef.utc.Goals as goal

pub from_valid_parts-requires-clause-offsets : goal.from_valid_parts-requires-clause-offsets
from_valid_parts-requires-clause-offsets c =
    rw (c.utc_types.ensures, c.no_rule.ensures) (∣ ends_of_type (plain_type (pos 0)) ∣₁)
