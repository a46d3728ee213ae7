-- The start of a date in a time zone: the first instant at which its clock shows the date. (RFC
-- 8536, section 3.2: local time is UTC and the offset.)
use Rattle.std.specs.Prelude.{ℤ, pos, ◌+ℤ◌, ◌-ℤ◌, ◌*ℤ◌, ◌≤ℤ◌, ◌<ℤ◌}
use Rattle.tz_base.specs.declared.error.TzError.{TzError}
use Rattle.tz_rule.specs.LocalTimeType.{LocalTimeType}
use Rattle.tz_zone.specs.Table.{Zone}
use Rattle.tz_zone.specs.Clock.{IsClock, IsLookupFault, HasNoType}
use Rattle.tz_zone.specs.Offsets.{IsLeastOffset, IsGreatestOffset}
use Rattle.tz.specs.DateTimes.{DateTime, ShowsByClock}

-- the reading of midnight on a day, by its number
abbrev pub midnight : ℤ → ℤ
midnight day = pos 86400 *ℤ day

-- the reading is one of the day
abbrev pub IsOfDay : ℤ → ℤ → Type 0
IsOfDay day x = (midnight day ≤ℤ x) × (x <ℤ midnight (day +ℤ pos 1))

-- the clock shows the day at the instant
abbrev pub ShowsDay : Zone → ℤ → ℤ → Type 0
ShowsDay z day u = (t : LocalTimeType) × IsClock z u t × IsOfDay day (u +ℤ t.ut_offset)

-- the day begins at the instant: no clock shows it before
pub record IsStartOfDay (z : Zone) (day u : ℤ) : Type 0 where
  pub shown : ShowsDay z day u
  pub least : (v : ℤ) → ShowsDay z day v → u ≤ℤ v

-- the clock has not shown the day before an instant
abbrev pub HasNotShown : Zone → ℤ → ℤ → Type 0
HasNotShown z day u = (v : ℤ) → v <ℤ u → ¬ ShowsDay z day v

-- the day begins at the instant, where the clock has this type
abbrev pub StartsWith : Zone → ℤ → ℤ → LocalTimeType → Type 0
StartsWith z day u t = IsStartOfDay z day u × IsClock z u t

-- all instants at which the clock can show the day: from midnight less the greatest offset of the
-- zone, to the day's last second less the least
pub record IsDayWindow (z : Zone) (day low high : ℤ) : Type 0 where
  pub first : IsGreatestOffset z.types z.extra_rule (midnight day -ℤ low)
  pub last : IsLeastOffset z.types z.extra_rule (midnight day +ℤ pos 86399 -ℤ high)

-- the clock has a type at some instant of the window
abbrev pub HasSomeType : Zone → ℤ → ℤ → Type 0
HasSomeType z low high = (u : ℤ) × (low ≤ℤ u) × (u ≤ℤ high) × (t : LocalTimeType) × IsClock z u t

-- the clock skips the day: it goes on in the day's window, and shows the day at no instant
pub record IsSkippedDay (z : Zone) (day : ℤ) : Type 0 where
  pub never : (v : ℤ) → ¬ ShowsDay z day v
  pub low : ℤ
  pub high : ℤ
  pub window : IsDayWindow z day low high
  pub goes_on : HasSomeType z low high

-- why there is no start: the clock has no type in the whole window, for the reason of a lookup at
-- its first instant
pub record IsStartFault (z : Zone) (day : ℤ) (e : TzError) : Type 0 where
  pub low : ℤ
  pub high : ℤ
  pub window : IsDayWindow z day low high
  pub never : (u : ℤ) → low ≤ℤ u → u ≤ℤ high → HasNoType z u
  pub fault : IsLookupFault z low e

-- the date time that the clock shows at the start of the day
abbrev pub StartsDay : Zone → ℤ → DateTime → Type 0
StartsDay z day d = IsStartOfDay z day d.unix_time × ShowsByClock z d.unix_time 0 d
