-- The weeks so far have their answers after the line with their number.
use Rattle.tz_query.proofs.Common.{◌≡◌, length, ℕ, List, zone_of, ended, Adds, flat_map, AreWeekAnswers}
use Rattle.tz_query.proofs.query.answers.Answers.answer_meeting.Given as goal

abbrev pub invariant-loop-weeks : goal.invariant-loop-weeks
invariant-loop-weeks g l =
    (weeks : List (List (List ℕ))) × (length weeks ≡ l.weeks)
    × AreWeekAnswers (zone_of l.initial.self.zone) l.first 0 weeks
    × Adds l.initial.self l.self (flat_map ended weeks)
