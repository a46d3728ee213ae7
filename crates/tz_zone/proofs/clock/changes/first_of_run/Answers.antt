-- The type at the position is that of the run.
use Rattle.tz_zone.proofs.clock.changes.first_of_run.Goals as goal

pub returns-clause-types : goal.returns-clause-types
returns-clause-types c = λ inside. (c.type_before-local_time_type.result.now, c.start_of_run.ensures.types)
