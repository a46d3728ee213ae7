-- Walks along a zone's clock, from span to span. (RFC 8536, section 3.2: transition times and
-- types.)
use Rattle.std.specs.Prelude.{◌≢◌, ◌≤◌, ℤ, [], length}
use Rattle.tz_zone.specs.Table.{Zone}
use Rattle.tz_zone.specs.LeapTime.{IsInstant, IsLeapTime}
use Rattle.tz_zone.specs.Clock.{AreReached, AreAhead, IsTypeOfLast}
use Rattle.tz_zone.specs.declared.clock.window_types.Stage.{Stage}

-- a walk that began at a first instant has come to another one: the transitions before its position
-- are reached there, and those from its position on were ahead at the first; it has the type of the
-- last one before its position
pub record IsStage (z : Zone) (first since : ℤ) (s : Stage) : Type 0 where
  pub within : s.position ≤ length z.transitions
  pub type_is : IsTypeOfLast z s.position s.local_time_type.now
  pub instant : IsInstant first
  pub ahead : z.transitions ≢ [] → (l : ℤ) × IsLeapTime z.leap_seconds first l
      × AreAhead z.transitions l s.position
  pub reached : z.transitions ≢ [] → (l : ℤ) × IsLeapTime z.leap_seconds since l
      × AreReached z.transitions l s.position
