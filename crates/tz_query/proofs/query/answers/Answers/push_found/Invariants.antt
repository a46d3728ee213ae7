-- The lines of the entries so far are there.
use Rattle.tz_query.proofs.Common.{take, ended, Adds, entry_text, map}
use Rattle.tz_query.proofs.query.answers.Answers.push_found.Given as goal

abbrev pub invariant-loop-entry : goal.invariant-loop-entry
invariant-loop-entry g l = Adds l.initial.self l.self (ended (map entry_text (take l.entry-index l.found)))
