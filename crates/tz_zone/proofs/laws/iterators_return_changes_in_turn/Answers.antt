-- Each step returns the nearest change from the one before.
use Rattle.tz_zone.proofs.ChangeTurns.{nth_given_after, none_given_after, nth_given_before, none_given_before}
use Rattle.tz_zone.proofs.laws.iterators_return_changes_in_turn.Goals as goal

pub returns : goal.returns
returns c =
    record {
      after = λ s t earlier change. nth_given_after s earlier change t;
      none_after = λ s t earlier. none_given_after s earlier t;
      before = λ s t later change. nth_given_before s later change t;
      none_before = λ s t later. none_given_before s later t;
    }
