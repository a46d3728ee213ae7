-- Of each count there is one change at most, and none is left out.
use Rattle.tz_zone.proofs.ChangeTurns.{one_nth, nth_is_change, between_is_earlier, earlier_is_between}
use Rattle.tz_zone.proofs.laws.changes_are_counted.Goals as goal

pub returns : goal.returns
returns c =
    record {
      unique = one_nth;
      changes = nth_is_change;
      between = between_is_earlier;
      earlier = earlier_is_between;
    }
