-- The line of the date time ends the page.
use Rattle.tz_query.proofs.Common.{sym, [], ◌∷◌, ◌∙◌, ◌++◌, append_assoc, pos, line_feed, moment_text, with_nanoseconds, moment_of}
use Rattle.tz_query.proofs.query.output.Output.push_shown.Goals as goal

pub returns-clause-ended : goal.returns-clause-ended
returns-clause-ended g c =
    let text = moment_text (moment_of (with_nanoseconds c.args.fields.now c.args.nanoseconds.now)
    c.args.suffix.now.local_time_type (pos 0)) in
    let before = c.push.new.self in
    (before ++ text, c.push_date_time.ensures.text (pos 0) ∙ sym (append_assoc before text (line_feed ∷ [])))
