-- The first instant has a date time, since the date is in the years of 32 bits.
use Rattle.std.proofs.Common.{arith, rules, ap, inl, inr, ℤ, subst, sym}
use Rattle.std.proofs.lemmas.Int.{ints, to_z-of_z}
use mir.Syntax.{w64}
use Rattle.tz_rule.specs.LocalTimeType.{LocalTimeType}
use Rattle.tz_zone.specs.Clock.{IsClock}
use Rattle.tz_zone.specs.Table.{Zone}
use Rattle.tz_zone.specs.ZoneOfData.{zone_of_data}
use Rattle.tz_zone.specs.ZoneRef.{zone_of}
use Rattle.tz_zone.proofs.Clocks.{one_type}
use Rattle.tz.specs.DateTimes.{ShowsInstant}
use Rattle.tz_civil.specs.Dates.{number_of}
use Rattle.tz_civil.specs.DayStarts.{IsSkippedDay, IsStartOfDay, StartsWith}
use Rattle.tz_civil.proofs.day_starts.start_of_day.Goals as goal

pub returns-in_default-clause-ok : goal.returns-in_default-clause-ok
returns-in_default-clause-ok c =
    subst (λ (z : Zone). IsSkippedDay z (number_of c.args.date)) c.of.ensures
    (rw (
      to_z-of_z w64 c.day_number.result (search rules),
      c.day_number.ensures.value,
      c.in_default.is,
    ) at c.in_ok-found.ensures.ok)

pub returns-in-Err-clause-err : goal.returns-in-Err-clause-err
returns-in-Err-clause-err c =
    let found = rw (c.in-Some.is) at c.in_ok-found.ensures.ok in
    let u = c.in-Some.shown.unix_time in
    let t = c.in-Some.shown.local_time_type.now in
    let (t', clock, of_day) = found.0.shown in
    let same =
    ap (λ (x : LocalTimeType). x.ut_offset) (one_type (zone_of_data c.of.result) u t t' found.1 clock) in
    let bound = c.day_number.ensures.bound in
    elim c.in-Err.ensures.err [
      | inl many ↦ absurd (omega (arith, many.1))
      | inr out ↦
          absurd (out.2 (omega (arith, ints, of_day, same, bound), omega (arith, ints, of_day, same, bound)))
    ]

pub returns-in-Ok-clause-ok : goal.returns-in-Ok-clause-ok
returns-in-Ok-clause-ok c =
    let z = zone_of c.args.zone.now in
    let u = c.in-Some.shown.unix_time in
    let t = c.in-Some.shown.local_time_type.now in
    let found = subst (λ (x : Zone). StartsWith x (number_of c.args.date) u t) c.of.ensures
    (rw (
      to_z-of_z w64 c.day_number.result (search rules),
      c.day_number.ensures.value,
      c.in-Some.is,
    ) at c.in_ok-found.ensures.ok) in
    let shown = rw (to_z-of_z w64 u (search rules)) at c.in-Ok.ensures.ok in
    let at = sym shown.instant_is in (
      subst (IsStartOfDay z (number_of c.args.date)) at found.0,
      (
        t,
        subst (λ (v : ℤ). IsClock z v t) at found.1,
        subst (λ (v : ℤ). ShowsInstant v 0 t c.in-Ok.start) at shown,
      ),
    )
