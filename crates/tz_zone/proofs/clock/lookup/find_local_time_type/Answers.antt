-- At a position before the last transition the transition before it has the type, and after it the rule.
use Rattle.tz_zone.proofs.Common.{◌≡◌, arith, to_z-of_z, ℕ, w64, length, subst, ◌<◌, zone_of_data, IsReachedAt}
use Rattle.tz_zone.proofs.Positions.{clock_at_position, clock_after_table, fault_after_table}
use Rattle.tz_zone.proofs.clock.lookup.find_local_time_type.Goals.{After-after_table, then-count-gt0+in-Some+else-position-count, else-count-gt0}
use Rattle.tz_zone.proofs.clock.lookup.find_local_time_type.Goals as goal

pub returns-then-position-count-clause-ok : goal.returns-then-position-count-clause-ok
returns-then-position-count-clause-ok c =
    let zone = c.args.zone.now in
    let u = c.args.unix_time in
    let at = rw (c.requires.view, to_z-of_z w64 u c.ranges.unix_time) at c.in-Some.ensures.position in
    let inside = rw c.requires.view at c.len-count.ensures in
    clock_at_position (zone_of_data zone) zone.sound c.in-Some.position u c.type_before.result.now
    (omega (arith, c.if-position-count.true, inside)) at.1 c.type_before.ensures.value

-- so many transitions are counted
counted : (c : After-after_table) → c.len-count.result ≡ length (zone_of_data c.args.zone.now).transitions
counted c = rw c.requires.view at c.len-count.ensures

-- if there are transitions, all are reached
all_reached : (c : After-after_table) → 0 < length (zone_of_data c.args.zone.now).transitions
    → IsReachedAt (zone_of_data c.args.zone.now) c.args.unix_time (length (zone_of_data c.args.zone.now).transitions)
all_reached c =
    let u = c.args.unix_time in
    let count = counted c in
    elim c.if-count-gt0.branch [
      | then-count-gt0+in-Some+else-position-count w ↦ λ some.
          let at = rw (c.requires.view, to_z-of_z w64 u c.ranges.unix_time) at w.in-Some.ensures.position in
          subst (λ (k : ℕ). IsReachedAt (zone_of_data c.args.zone.now) u k)
          (omega (arith, at.0, w.if-position-count.false, count)) at.1
      | else-count-gt0 w ↦ λ some. absurd (omega (arith, some, w.if-count-gt0.false, count))
    ]

pub returns-in-Some-local_time_type-clause-ok : goal.returns-in-Some-local_time_type-clause-ok
returns-in-Some-local_time_type-clause-ok c =
    let zone = c.args.zone.now in
    let u = c.args.unix_time in
    let so_far = (goal.at.returns-in-Some-local_time_type-clause-ok c).After-after_table in
    let after = rw (to_z-of_z w64 u c.ranges.unix_time) at c.after_table.ensures in
    let type = rw c.in-Some-local_time_type.is at after.holds u after.within.0 after.within.1 in
    clock_after_table (zone_of_data zone) zone.sound c.len-count.result (counted so_far) u
    c.in-Some-local_time_type.local_time_type.now (all_reached so_far) type

pub returns-in-None-clause-err : goal.returns-in-None-clause-err
returns-in-None-clause-err c =
    let zone = c.args.zone.now in
    let u = c.args.unix_time in
    let so_far = (goal.at.returns-in-None-clause-err c).After-after_table in
    let after = rw (to_z-of_z w64 u c.ranges.unix_time) at c.after_table.ensures in
    let never = rw c.in-None.is at after.holds u after.within.0 after.within.1 in
    fault_after_table (zone_of_data zone) zone.sound c.len-count.result (counted so_far) u c.fault_after.result
    (all_reached so_far) c.fault_after.ensures never
