-- The entry is counted, and is the last, and the first if there was none.
use Rattle.tz.proofs.Common.{arith, subst, [], to_z-of_z, ◌∷◌, w64, Jump, length-append, All-nil, IsEntryInside, All-cons}
use Rattle.tz.proofs.EntryEnds.{with_jump}
use Rattle.tz.proofs.datetime.entry_ends.EntryEndsEntryTaker.skipped.Goals as goal

pub returns-clause-ok : goal.returns-clause-ok
returns-clause-ok c =
    let e = Jump c.args.unix_time c.args.before.now c.args.after.now in
    let u_is = to_z-of_z w64 c.args.unix_time c.ranges.unix_time in
    let is = rw u_is at c.in_ok-jump.ensures.is in
    let push = c.push.ensures in (
      λ before fits are. with_jump before c.args.self.now c.push.new.self are c.in_ok-jump.jump
          c.args.unix_time c.args.before.now c.args.after.now is
          (omega (arith, are.count_is, push.count, length-append before (e ∷ []), fits)) push.first push.last
          push.shown,
      All-cons IsEntryInside e [] (subst IsEntryInside is c.in_ok-jump.ensures.inside) (All-nil IsEntryInside),
    )
