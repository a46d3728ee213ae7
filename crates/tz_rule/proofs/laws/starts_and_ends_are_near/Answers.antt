-- A rule in range has its starts and ends near their years.
use Rattle.tz_rule.proofs.Common.{end_of, start_of}
use Rattle.tz_rule.proofs.YearlyInstants.{IsYearly-start_of, IsYearly-end_of, near_year}
use Rattle.tz_rule.proofs.laws.starts_and_ends_are_near.Goals as goal

pub returns : goal.returns
returns c =
    let r = c.args.rule.now in
    let sound = rw c.of.ensures at c.parts_are_sound.ensures in
    let range = sound.rule.in_range in
    let days = sound.days in
    record {
      starts = near_year (start_of r) (IsYearly-start_of r range days.start_is);
      ends = near_year (end_of r) (IsYearly-end_of r range days.end_is);
    }
