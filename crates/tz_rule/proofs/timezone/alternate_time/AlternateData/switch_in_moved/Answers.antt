-- The table has the instant of the year.
use Rattle.tz_rule.proofs.Common.{◌∙◌, to_z-of_z, rules, w64, moved_back}
use Rattle.tz_rule.proofs.YearsApart.{instant_in-is}
use Rattle.tz_rule.proofs.timezone.alternate_time.AlternateData.switch_in_moved.Goals as goal

pub returns : goal.returns
returns c =
    rw (to_z-of_z w64 c.in_moved_year.result (search rules)) (c.in_moved_year.ensures
    ∙ instant_in-is _ _ c.table.ensures (moved_back c.args.moved_year))
