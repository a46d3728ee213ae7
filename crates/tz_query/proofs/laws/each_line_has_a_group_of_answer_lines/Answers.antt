-- Each line has a group of answer lines, without an LF.
use Rattle.tz_query.proofs.AnswerTexts.{answer_lines}
use Rattle.tz_query.proofs.UniqueAnswers.{answer_groups, group_of_answer}
use Rattle.tz_query.proofs.laws.each_line_has_a_group_of_answer_lines.Goals as goal

pub returns : goal.returns
returns c =
    record {
      each = answer_groups;
      group = group_of_answer;
      lines = λ z line answer named. answer_lines z named line answer;
    }
