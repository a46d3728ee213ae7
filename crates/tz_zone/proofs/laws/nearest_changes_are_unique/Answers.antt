-- A change that comes before the first one after an instant is none.
use Rattle.tz_zone.proofs.NearestChanges.{one_following, one_preceding}
use Rattle.tz_zone.proofs.laws.nearest_changes_are_unique.Goals as goal

pub returns-clause-following : goal.returns-clause-following
returns-clause-following c = one_following

pub returns-clause-preceding : goal.returns-clause-preceding
returns-clause-preceding c = one_preceding
