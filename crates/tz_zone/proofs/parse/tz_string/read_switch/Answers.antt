-- A switch is its day and its time, and fails by the fault of one of them.
use Rattle.tz_zone.proofs.Common.{inl}
use Rattle.tz_zone.proofs.parse.tz_string.read_switch.Goals as goal

pub returns-in-Err : goal.returns-in-Err
returns-in-Err c = inl c.in-Err.ensures
