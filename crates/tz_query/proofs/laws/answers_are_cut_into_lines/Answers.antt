-- The types that a zone's clock shows have valid names.
use Rattle.tz_query.proofs.Common.{zone_of}
use Rattle.tz_query.proofs.laws.answers_are_cut_into_lines.Goals as goal

pub returns : goal.returns
returns c = λ line answer is. c.each_line_has_a_group_of_answer_lines.ensures.lines (zone_of c.args.zone.now) line
    answer c.shown_types_are_sound.ensures.sound is
