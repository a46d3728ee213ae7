-- The table has the instant of the year, which is near the year.
use Rattle.tz_rule.proofs.Common.{◌∙◌, to_z-of_z, rules, w64, w32, switch_of}
use Rattle.tz_rule.proofs.YearlyInstants.{IsYearly-switch_of, near_year}
use Rattle.tz_rule.proofs.YearsApart.{instant_in-is}
use Rattle.tz_rule.proofs.timezone.alternate_time.AlternateData.switch_in.Goals as goal

pub returns : goal.returns
returns c =
    let found = rw (to_z-of_z w32 c.args.year c.ranges.year) at c.in_year.ensures in
    let r = c.args.self.now in
    let sound = c.parts_are_sound.ensures in
    let value = found ∙ instant_in-is _ _ c.table.ensures c.args.year in
    record {
      value = rw (to_z-of_z w64 c.in_year.result (search rules)) value;
      bound = rw (to_z-of_z w64 c.in_year.result (search rules)) (rw value (near_year (switch_of r c.args.is_end)
          (IsYearly-switch_of r sound.rule.in_range sound.days c.args.is_end) c.args.year));
    }
