-- A line has one answer, and so have all lines: civil fields, lookups and searches are unique.
use Rattle.tz_query.proofs.UniqueAnswers.{line_answer_unique, answers_unique}
use Rattle.tz_query.proofs.laws.answers_are_unique.Goals as goal

pub returns : goal.returns
returns c =
    record {
      line = line_answer_unique;
      all = answers_unique;
    }
