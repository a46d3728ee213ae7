-- Valid fields are past the end, and then this is named first.
use Rattle.tz.proofs.datetime.utc_date_time.fields_fault.Goals as goal

pub returns-in-Ok : goal.returns-in-Ok
returns-in-Ok c = absurd (c.if-is_past_the_end.ensures (c.requires c.in-Ok.ensures.ok))
