-- The zone's clock shows the date time, or has no type, or its type shows no reading.
use Rattle.tz.proofs.Common.{arith, subst, sym, to_z-of_z, w64, one_type, LocalTimeType, IsReading, ◌+ℤ◌, zone_of_data}
use Rattle.tz.proofs.UniqueResults.{no_type_at_fault}
use Rattle.tz.proofs.datetime.date_time.DateTime.shown_by_clock.Goals.{then-nanoseconds-lt-NANOSECONDS_PER_SECOND+in-Ok+in_default-shown_by, then-nanoseconds-lt-NANOSECONDS_PER_SECOND+in_default, else-nanoseconds-lt-NANOSECONDS_PER_SECOND}
use Rattle.tz.proofs.datetime.date_time.DateTime.shown_by_clock.Goals as goal

pub returns-in-Ok-shown_by-clause-ok : goal.returns-in-Ok-shown_by-clause-ok
returns-in-Ok-shown_by-clause-ok c =
    let fits = to_z-of_z w64 c.args.unix_time c.ranges.unix_time in
    (c.in-Ok.local_time_type.now, rw fits at c.in-Ok.ensures.ok, rw fits at c.in-Ok-shown_by.ensures.ok)

pub clock_fault-requires : goal.clock_fault-requires
clock_fault-requires c few t clock reads =
    elim c.if-nanoseconds-lt-NANOSECONDS_PER_SECOND.branch [
      | then-nanoseconds-lt-NANOSECONDS_PER_SECOND+in-Ok+in_default-shown_by w ↦
          let same = one_type (zone_of_data c.args.zone.now) _ w.in-Ok.local_time_type.now t w.in-Ok.ensures.ok clock in
          w.in_default-shown_by.ensures.err.1
          (subst (λ (x : LocalTimeType). IsReading (_ +ℤ x.ut_offset)) (sym same) reads)
      | then-nanoseconds-lt-NANOSECONDS_PER_SECOND+in_default w ↦
          no_type_at_fault (zone_of_data c.args.zone.now) _ _ w.in_default.ensures.err t clock
      | else-nanoseconds-lt-NANOSECONDS_PER_SECOND w ↦
          omega (arith, few, w.if-nanoseconds-lt-NANOSECONDS_PER_SECOND.false)
    ]

pub returns-clause-err : goal.returns-clause-err
returns-clause-err c = rw (to_z-of_z w64 c.args.unix_time c.ranges.unix_time) at c.clock_fault.ensures
