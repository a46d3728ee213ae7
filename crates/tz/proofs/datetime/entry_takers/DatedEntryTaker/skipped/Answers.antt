-- Both sides of the jump are made, and their readings are in the years of an `i32`.
use Rattle.tz.proofs.Common.{refl, subst, sym, [], ◌∷◌, to_z-of_z, w64, IsReading}
use Rattle.tz.proofs.datetime.entry_takers.DatedEntryTaker.skipped.Goals as goal

pub returns-clause-ok : goal.returns-clause-ok
returns-clause-ok g c =
    let unix_time_is = to_z-of_z w64 c.args.unix_time c.ranges.unix_time in
    let before = c.in_ok-before_transition in
    let after = c.in_ok-after_transition in
    let first = rw unix_time_is at before.ensures.ok in
    let last = rw unix_time_is at after.ensures.ok in
    let first_reads = subst IsReading (sym first.civil.reads) (rw unix_time_is at before.ensures.reads) in
    let last_reads = subst IsReading (sym last.civil.reads) (rw unix_time_is at after.ensures.reads) in (
      refl,
      refl,
      _ ∷ [],
      c.in_ok-push.ensures.ok,
      (((before.before_transition, after.after_transition, refl, first, last), (first_reads, last_reads)), tt),
    )
