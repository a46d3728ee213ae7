-- The walk has come to an instant, with a look for each transition that it passed.
use Rattle.tz.proofs.Common.{List, length, ◌+◌, pos, w64, IsClock, ◌-ℤ◌, ◌+ℤ◌, ◌-◌, ◌≤ℤ◌, zone_of_data, SFits, Entry, borrowed_type, IsStage, list_of}
use Rattle.tz.proofs.EntryWalks.{IsWalkedTo, room}
use Rattle.tz.proofs.WalkLooks.{AreLooks}
use Rattle.tz.proofs.datetime.gaps_and_folds.walk.Given as goal

abbrev pub invariant-loop-since : goal.invariant-loop-since
invariant-loop-since g l =
    let z = zone_of_data l.zone in
    record {
      fits : SFits w64 l.since;
      stage : l.since ≤ℤ l.high → IsStage z l.initial.since l.since l.stage;
      found : (es : List Entry) × g.E.EntryTaker.gains l.initial.entries l.entries es
          × IsWalkedTo (IsClock z) l.reading l.low (borrowed_type l.before) l.since es;
      looks : AreLooks z l.low l.high l.initial.stage.position l.initial.view l.view l.stage.position;
    }

abbrev pub decreases-loop-since : goal.decreases-loop-since
decreases-loop-since g l = room (l.high +ℤ pos 1 -ℤ l.since)
    + (length (list_of l.initial.view) - l.stage.position)
