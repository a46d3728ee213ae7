-- The type is the clock's at the instant that was passed, and the faults are the lookup's, or what the type shows is no
-- reading.
use Rattle.tz_c.proofs.Common.{refl, inl, inr, rules, subst, SFits, to_z-of_z, ◌≡◌, w64, ◌<◌, ◌≤◌, Zone, w32, IsClock, IsLookupFault, IsReading, ◌+ℤ◌, IsCivil}
use Rattle.tz_base.specs.declared.error.TzError.TheVariants as faults
use Rattle.tz_base.specs.declared.error.DateTimeError.TheVariants as field_faults
use Rattle.tz_c.proofs.date_times.tz_date_time_from_timespec.Goals as goal

pub returns-then-nanoseconds-ge-NANOSECONDS_PER_SECOND-clause-answer :
    goal.returns-then-nanoseconds-ge-NANOSECONDS_PER_SECOND-clause-answer
returns-then-nanoseconds-ge-NANOSECONDS_PER_SECOND-clause-answer c =
    let many : 1000000000 ≤ c.args.nanoseconds = search rules in
    inr (faults.DateTime field_faults.InvalidNanoseconds, refl, inl (refl, many))

pub returns-in-Err-clause-answer : goal.returns-in-Err-clause-answer
returns-in-Err-clause-answer c =
    let few : c.args.nanoseconds < 1000000000 = search rules in
    let fault = subst (λ (z : Zone). IsLookupFault z c.args.unix_time c.in-Err.error) c.as_zone_data.ensures
    (rw (to_z-of_z w64 c.args.unix_time c.ranges.unix_time) at c.in-Err.ensures.err) in
    inr (c.in-Err.error, c.code_of.ensures, inr (inl (few, fault)))

pub returns-in_default-clause-answer : goal.returns-in_default-clause-answer
returns-in_default-clause-answer c =
    let few : c.args.nanoseconds < 1000000000 = search rules in
    let t = c.in-Ok.local_time_type.now in
    let is_clock = subst (λ (z : Zone). IsClock z c.args.unix_time c.in-Ok.local_time_type.now) c.as_zone_data.ensures
    (rw (to_z-of_z w64 c.args.unix_time c.ranges.unix_time) at c.in-Ok.ensures.ok) in
    let fits : SFits w32 c.ut_offset.result = search rules in
    let none : ¬ IsReading (c.args.unix_time +ℤ t.ut_offset) =
    rw (
      to_z-of_z w64 c.args.unix_time c.ranges.unix_time,
      to_z-of_z w32 c.ut_offset.result
          fits,
      c.ut_offset.ensures.value,
    ) at c.in_default.ensures.none in
    inr (faults.OutOfRange, refl, inr (inr (refl, few, (t, is_clock, none))))

pub returns-clause-answer : goal.returns-clause-answer
returns-clause-answer c =
    let t = c.in-Ok.local_time_type.now in
    let reading = c.in-Some.reading in
    let is_clock = subst (λ (z : Zone). IsClock z c.args.unix_time c.in-Ok.local_time_type.now) c.as_zone_data.ensures
    (rw (to_z-of_z w64 c.args.unix_time c.ranges.unix_time) at c.in-Ok.ensures.ok) in
    let offset_fits : SFits w32 c.ut_offset.result = search rules in
    let shown : reading ≡ c.args.unix_time +ℤ t.ut_offset =
    rw (
      to_z-of_z w64 c.args.unix_time c.ranges.unix_time,
      to_z-of_z w32 c.ut_offset.result
          offset_fits,
      c.ut_offset.ensures.value,
    ) at c.in-Some.ensures.some.0 in
    let reading_fits : SFits w64 reading = search rules in
    let civil : IsCivil (c.args.unix_time +ℤ t.ut_offset) c.args.nanoseconds c.from_reading.result =
    rw (to_z-of_z w64 reading reading_fits, shown) at c.from_reading.ensures in
    rw (to_z-of_z w64 c.args.unix_time c.ranges.unix_time)
    (inl (
      refl,
      (
        record { valid = civil.valid; reads = civil.reads },
        (
          t,
          is_clock,
          record { civil = civil; type_is = refl; instant_is = refl },
        ),
      ),
    ))
