-- The fields and the offset of a date time are read as they are printed.
use Rattle.tz.proofs.Common.{arith, refl, ints, rules, Some, IsDateTime, IsLocalTimeType}
use Rattle.std.proofs.Common.{FitsSigned}
use Rattle.std.specs.Int.{w32}
use Rattle.tz.proofs.ReadBack.{printed_is_read}
use Rattle.tz.proofs.laws.printed_date_times_are_read.Goals as goal

pub returns : goal.returns
returns c not_past =
    let d = c.args.date_time.now in
    let sound : IsDateTime d = search rules in
    let year : FitsSigned w32 d.fields.year = search rules in
    let fits : FitsSigned w32 d.local_time_type.ut_offset = search rules in
    let parts : IsLocalTimeType d.local_time_type = search rules in
    let read = printed_is_read d.fields d.local_time_type.ut_offset sound.valid not_past year fits parts.offset_is in
    let offset = Some d.local_time_type.ut_offset in
    (record { local = d.fields; ut_offset = offset }, read, refl, refl, omega (arith, ints, sound.reads))
