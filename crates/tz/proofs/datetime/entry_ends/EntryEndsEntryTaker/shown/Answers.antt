-- The entry is counted, and is the last; the first that is shown, and the first, if there was none.
use Rattle.tz.proofs.Common.{arith, ◌∙◌, [], to_z-of_z, ◌∷◌, w64, Shown, length-append, All-nil, IsEntryInside, All-cons}
use Rattle.tz.proofs.EntryEnds.{with_shown}
use Rattle.tz.proofs.datetime.entry_ends.EntryEndsEntryTaker.shown.Goals as goal

pub returns-clause-ok : goal.returns-clause-ok
returns-clause-ok c =
    let e = Shown c.args.unix_time c.args.local_time_type.now in
    let u_is = to_z-of_z w64 c.args.unix_time c.ranges.unix_time in
    let push = rw u_is at c.push.ensures in (
      λ before fits are. with_shown before c.args.self.now c.push.new.self are c.args.unix_time c.args.local_time_type
          (omega (arith, are.count_is, push.count, length-append before (e ∷ []), fits)) push.first push.last
          (push.shown ∙ rw u_is at c.or-self.ensures),
      All-cons IsEntryInside e [] tt (All-nil IsEntryInside),
    )
