-- The changes of a clock one after the other, upwards from an instant and downwards from one.
use Rattle.std.specs.Prelude.{◌≡◌, ℕ, zero, suc, ℤ, Option, MatchOption}
use Rattle.tz_zone.specs.Table.{Zone}
use Rattle.tz_zone.specs.ZoneRef.{zone_of}
use Rattle.tz_zone.specs.Changes.{Change, change_of, IsFollowing, IsPreceding, HasNoFollowing, HasNoPreceding}
use Rattle.tz_zone.specs.declared.clock.segment.Change.{Change as KeptChange}
use Rattle.tz_zone.specs.declared.timezone.changes.ChangesAfter.{ChangesAfter}
use Rattle.tz_zone.specs.declared.timezone.changes.ChangesBefore.{ChangesBefore}

-- what contracts see of changes one after the other: the zone, and the instant after or before
-- which the next one is looked for
pub record Position : Type 0 where
  pub zone : Zone
  pub unix_time : ℤ

abbrev pub position_after : ChangesAfter → Position
position_after s = record { zone = zone_of s.zone; unix_time = s.unix_time }

abbrev pub position_before : ChangesBefore → Position
position_before s = record { zone = zone_of s.zone; unix_time = s.unix_time }

-- the position at an instant of the same zone
abbrev pub moved_to : ℤ → Position → Position
moved_to u p = record { zone = p.zone; unix_time = u }

-- a call gives the change that follows the position, which moves there, or there is none and it
-- stays
abbrev pub GivesFollowing : ChangesAfter → Option KeptChange → ChangesAfter → Type 0
GivesFollowing s r t = MatchOption r
    (HasNoFollowing (zone_of s.zone) s.unix_time × (position_after t ≡ position_after s))
    (λ c. IsFollowing (zone_of s.zone) s.unix_time (change_of c)
    × (position_after t ≡ moved_to (change_of c).unix_time (position_after s)))

-- a call gives the change that precedes the position, which moves there, or there is none and it
-- stays
abbrev pub GivesPreceding : ChangesBefore → Option KeptChange → ChangesBefore → Type 0
GivesPreceding s r t = MatchOption r
    (HasNoPreceding (zone_of s.zone) s.unix_time × (position_before t ≡ position_before s))
    (λ c. IsPreceding (zone_of s.zone) s.unix_time (change_of c)
    × (position_before t ≡ moved_to (change_of c).unix_time (position_before s)))

-- the change after an instant that has this many changes between: the first has none
abbrev pub IsNthFollowing : Zone → ℤ → ℕ → Change → Type 0
IsNthFollowing z u zero c = IsFollowing z u c
IsNthFollowing z u (suc n) c = (d : Change) × IsFollowing z u d × IsNthFollowing z d.unix_time n c

-- the change before an instant that has this many changes between: the last has none
abbrev pub IsNthPreceding : Zone → ℤ → ℕ → Change → Type 0
IsNthPreceding z u zero c = IsPreceding z u c
IsNthPreceding z u (suc n) c = (d : Change) × IsPreceding z u d × IsNthPreceding z d.unix_time n c
