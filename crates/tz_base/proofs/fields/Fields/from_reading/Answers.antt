-- The fields that are found are valid and have the reading.
use Rattle.std.proofs.Common.{rules}
use Rattle.std.proofs.lemmas.Int.{to_z-of_z}
use mir.Syntax.{w32, w64}
use Rattle.tz_base.specs.Days.{is_leap}
use Rattle.tz_base.proofs.CivilReadings.{civil_from_parts, month_length-le}
use Rattle.tz_base.proofs.fields.Fields.from_reading.Goals as goal

pub returns : goal.returns
returns c =
    let date = c.date_of_day-year.result in
    let moved = rw (to_z-of_z w64 c.args.reading c.ranges.reading) at c.moved_seconds-seconds.ensures in
    rw (to_z-of_z w32 date.0 (search rules))
    (civil_from_parts c.args.reading c.moved_seconds-seconds.result date.0 date.1 date.2 c.args.nanoseconds moved
    c.date_of_day-year.ensures c.requires.part (month_length-le (is_leap date.0) date.1))
