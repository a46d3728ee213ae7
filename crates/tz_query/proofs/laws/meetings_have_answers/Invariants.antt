-- The weeks so far have answers.
use Rattle.tz_query.proofs.Common.{◌≡◌, length, ℕ, List, zone_of, AreWeekAnswers}
use Rattle.tz_query.proofs.laws.meetings_have_answers.Given as goal

abbrev pub invariant-loop-weeks : goal.invariant-loop-weeks
invariant-loop-weeks l =
    (weeks : List (List (List ℕ))) × (length weeks ≡ l.weeks)
    × AreWeekAnswers (zone_of l.zone) l.first 0 weeks
