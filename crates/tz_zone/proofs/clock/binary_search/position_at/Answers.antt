-- The leap time lies at the position.
use Rattle.tz_zone.proofs.Common.{rules, ◌∙◌, zone_of_data}
use Rattle.tz_zone.proofs.Positions.{found_at}
use Rattle.tz_zone.proofs.clock.binary_search.position_at.Goals as goal

pub position_of-requires-clause-rising : goal.position_of-requires-clause-rising
position_of-requires-clause-rising c =
    rw (c.look-last.ensures.looks.same, c.requires.view) (λ i. (c.args.zone.now.sound.transitions_are i).1)

pub returns-clause-position : goal.returns-clause-position
returns-clause-position c =
    let same = c.look-last.ensures.looks.same in
    let found = c.position_of.ensures in (
      rw same at found.within,
      found_at (zone_of_data c.args.zone.now) c.args.unix_time c.in-Some.unix_leap_time c.position_of.result
          c.ranges.unix_time (search rules) (same ∙ c.requires.view) c.in-Some.ensures found.at,
    )
