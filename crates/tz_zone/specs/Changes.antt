-- Where the clock of a zone changes, and the segments between. (RFC 8536, section 3.2: transition
-- times and types; 3.3: the footer.)
use Rattle.std.specs.Prelude.{◌≢◌, ℤ, pos, negsuc, ◌-ℤ◌, ◌≤ℤ◌, ◌<ℤ◌, Option, MatchOption, option_copied}
use Rattle.tz_rule.specs.LocalTimeType.{LocalTimeType}
use Rattle.tz_zone.specs.Table.{Zone}
use Rattle.tz_zone.specs.Clock.{IsClock, HasNoType}
use Rattle.tz_zone.specs.declared.clock.segment.Segment.{Segment as KeptSegment}
use Rattle.tz_zone.specs.declared.clock.segment.Change.{Change as KeptChange}

-- what contracts see of a segment: its first and its last instant, and its type, if it has one
pub record Segment : Type 0 where
  pub from : ℤ
  pub last : ℤ
  pub local_time_type : Option LocalTimeType

-- what contracts see of a change: its instant, and the types at the instant before and at it
pub record Change : Type 0 where
  pub unix_time : ℤ
  pub before : LocalTimeType
  pub after : LocalTimeType

abbrev pub segment_of : KeptSegment → Segment
segment_of s = record {
  from = s.from;
  last = s.last;
  local_time_type = option_copied s.local_time_type;
}

abbrev pub change_of : KeptChange → Change
change_of c = record { unix_time = c.unix_time; before = c.before.now; after = c.after.now }

-- the clock has the type at an instant, or none
abbrev pub HasTypeOrNone : Zone → ℤ → Option LocalTimeType → Type 0
HasTypeOrNone z u type = MatchOption type (HasNoType z u) (IsClock z u)

-- the clock has the segment's type throughout it, or none
pub record IsTrueSegment (z : Zone) (s : Segment) : Type 0 where
  pub order : s.from ≤ℤ s.last
  pub holds : (u : ℤ) → s.from ≤ℤ u → u ≤ℤ s.last → HasTypeOrNone z u s.local_time_type

-- the clock changes at an instant: it has one type at the instant before, which is one of 64 bits
-- as well, and another type at it
pub record IsChange (z : Zone) (c : Change) : Type 0 where
  pub not_least : negsuc 9223372036854775807 <ℤ c.unix_time
  pub up_to : c.unix_time ≤ℤ pos 9223372036854775807
  pub before_is : IsClock z (c.unix_time -ℤ pos 1) c.before
  pub after_is : IsClock z c.unix_time c.after
  pub differ : c.before ≢ c.after

-- the clock changes nowhere between two instants
abbrev pub HasNoChange : Zone → ℤ → ℤ → Type 0
HasNoChange z low high = (c : Change) → low <ℤ c.unix_time → c.unix_time <ℤ high → ¬ IsChange z c

-- the first change after an instant
pub record IsFollowing (z : Zone) (u : ℤ) (c : Change) : Type 0 where
  pub is : IsChange z c
  pub above : u <ℤ c.unix_time
  pub least : HasNoChange z u c.unix_time

-- the last change before an instant
pub record IsPreceding (z : Zone) (u : ℤ) (c : Change) : Type 0 where
  pub is : IsChange z c
  pub below : c.unix_time <ℤ u
  pub greatest : HasNoChange z c.unix_time u

-- no change comes after an instant
abbrev pub HasNoFollowing : Zone → ℤ → Type 0
HasNoFollowing z u = (c : Change) → u <ℤ c.unix_time → ¬ IsChange z c

-- no change comes before an instant
abbrev pub HasNoPreceding : Zone → ℤ → Type 0
HasNoPreceding z u = (c : Change) → c.unix_time <ℤ u → ¬ IsChange z c
