-- A switch with nothing after it is the last one; else what is left is the fault.
use Rattle.tz_zone.proofs.Common.{inl}
use Rattle.tz_zone.proofs.parse.tz_string.read_last_switch.Goals as goal

pub returns-in-Err : goal.returns-in-Err
returns-in-Err c = inl c.in-Err.ensures
