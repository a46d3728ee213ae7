-- The type is that of the segment around the instant, or the lookup's.
use Rattle.tz.proofs.Common.{◌≡◌, ◌∙◌, sym, ap, Some, to_z-of_z, w64, zone_of_data}
use Rattle.std.specs.Option.{option_copied}
use Rattle.tz_zone.specs.Changes.{segment_of}
use Rattle.tz.proofs.ColumnAnswers.{type_in}
use Rattle.tz.proofs.columns.type_near.Goals as goal

pub returns-in-Some-clause-ok : goal.returns-in-Some-clause-ok
returns-in-Some-clause-ok c =
    let s = segment_of c.segment_around-segment.result in
    let t = c.in-Some.local_time_type.now in
    let is : s.local_time_type ≡ Some t = sym c.local_time_type.ensures ∙ ap option_copied c.in-Some.is in
    let holds = c.segment_around-segment.ensures.segment in
    let within = rw (to_z-of_z w64 c.args.unix_time c.ranges.unix_time) at c.segment_around-segment.ensures.within in
    (holds, type_in (zone_of_data c.args.zone.now) s c.args.unix_time t holds within.0 within.1 is)

pub returns-in-Ok-clause-ok : goal.returns-in-Ok-clause-ok
returns-in-Ok-clause-ok c =
    (c.requires, rw (to_z-of_z w64 c.args.unix_time c.ranges.unix_time) at c.in-Ok.ensures.ok)

pub returns-in-Err-clause-err : goal.returns-in-Err-clause-err
returns-in-Err-clause-err c = rw (to_z-of_z w64 c.args.unix_time c.ranges.unix_time) at c.in-Err.ensures.err
