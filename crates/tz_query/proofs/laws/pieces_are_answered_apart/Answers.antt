-- Lines of the one piece and of the other are those of both.
use Rattle.tz_query.proofs.JoinedPieces.{joined_answers, cut_answers}
use Rattle.tz_query.proofs.laws.pieces_are_answered_apart.Goals as goal

pub returns : goal.returns
returns c =
    record {
      joined = joined_answers;
      cut = cut_answers;
    }
