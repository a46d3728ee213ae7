-- The type is the clock's at the instant that was passed, and the faults are the lookup's, or what the type shows is no
-- reading.
use Rattle.tz.proofs.Common.{refl, inl, inr, rules, SFits, to_z-of_z, ◌≡◌, w64, ◌<◌, w32, IsReading, ◌+ℤ◌, IsCivil, moment_of}
use Rattle.tz.proofs.columns.date_times.write_date_time.Goals as goal

pub returns-in-Err-clause-err : goal.returns-in-Err-clause-err
returns-in-Err-clause-err g c =
    let few : c.args.nanoseconds < 1000000000 = search rules in
    let fault = rw (to_z-of_z w64 c.args.unix_time c.ranges.unix_time) at c.in-Err.ensures.err in
    inr (inl (few, fault))

pub returns-in_default-clause-err : goal.returns-in_default-clause-err
returns-in_default-clause-err g c =
    let few : c.args.nanoseconds < 1000000000 = search rules in
    let t = c.in-Ok.local_time_type.now in
    let is_clock = rw (to_z-of_z w64 c.args.unix_time c.ranges.unix_time) at c.in-Ok.ensures.ok in
    let fits : SFits w32 c.ut_offset.result = search rules in
    let none : ¬ IsReading (c.args.unix_time +ℤ t.ut_offset) =
    rw (
      to_z-of_z w64 c.args.unix_time c.ranges.unix_time,
      to_z-of_z w32 c.ut_offset.result
          fits,
      c.ut_offset.ensures.value,
    ) at c.in_default.ensures.none in
    inr (inr (refl, few, (t, is_clock, none)))

pub returns-clause-ok : goal.returns-clause-ok
returns-clause-ok g c =
    let t = c.in-Ok.local_time_type.now in
    let reading = c.in-Some.reading in
    let is_clock = rw (to_z-of_z w64 c.args.unix_time c.ranges.unix_time) at c.in-Ok.ensures.ok in
    let offset_fits : SFits w32 c.ut_offset.result = search rules in
    let shown : reading ≡ c.args.unix_time +ℤ t.ut_offset =
    rw (
      to_z-of_z w64 c.args.unix_time c.ranges.unix_time,
      to_z-of_z w32 c.ut_offset.result
          offset_fits,
      c.ut_offset.ensures.value,
    ) at c.in-Some.ensures.some.0 in
    let reading_fits : SFits w64 reading = search rules in
    let civil : IsCivil (c.args.unix_time +ℤ t.ut_offset) c.args.nanoseconds c.fields_at-fields.result =
    rw (to_z-of_z w64 reading reading_fits, shown) at c.fields_at-fields.ensures.fields in (
      moment_of c.fields_at-fields.result t c.args.unix_time,
      (t, is_clock, record { civil = civil; type_is = refl; instant_is = refl }),
      rw (to_z-of_z w64 c.args.unix_time c.ranges.unix_time) at c.set.ensures,
    )
