-- Between neighbours there is no change.
use Rattle.tz_zone.proofs.ChangeTurns.{before_next_instant, after_instant_before, before_the_following, after_the_preceding}
use Rattle.tz_zone.proofs.laws.changes_are_nearest_to_their_neighbours.Goals as goal

pub returns : goal.returns
returns c =
    record {
      preceding = before_next_instant;
      following = after_instant_before;
      before_the_following = before_the_following;
      after_the_preceding = after_the_preceding;
    }
