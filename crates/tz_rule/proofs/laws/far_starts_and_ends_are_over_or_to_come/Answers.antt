-- Two years are more than twice ten days.
use Rattle.tz_rule.proofs.Common.{end_of, start_of}
use Rattle.tz_rule.proofs.DaylightSpans.{over, to_come}
use Rattle.tz_rule.proofs.YearlyInstants.{IsYearly-start_of, IsYearly-end_of}
use Rattle.tz_rule.proofs.laws.far_starts_and_ends_are_over_or_to_come.Goals as goal

pub returns : goal.returns
returns c =
    let r = c.args.rule.now in
    let sound = rw c.of.ensures at c.parts_are_sound.ensures in
    let yf = IsYearly-start_of r sound.rule.in_range sound.days.start_is in
    let yg = IsYearly-end_of r sound.rule.in_range sound.days.end_is in
    record {
      over = λ u year y is h. (over (start_of r) yf u year y is h, over (end_of r) yg u year y is h);
      to_come = λ u year y is h. (to_come (start_of r) yf u year y is h, to_come (end_of r) yg u year y is h);
    }
