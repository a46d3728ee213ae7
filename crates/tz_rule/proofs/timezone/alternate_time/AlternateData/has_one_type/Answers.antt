-- The rule has no daylight saving time, or nothing else, as the tables say.
use Rattle.tz_rule.proofs.Common.{◌∙◌, sym, Decides-same_type}
use Rattle.tz_rule.proofs.RulesOfOneType.{one_type_of_equal, one_type_across_years, one_type_in_order, one_type_without_gap}
use Rattle.tz_rule.proofs.WeakerClauses.{OnTrue-not}
use Rattle.tz_rule.proofs.timezone.alternate_time.AlternateData.has_one_type.Goals as goal

pub returns-then-is_same : goal.returns-then-is_same
returns-then-is_same c =
    one_type_of_equal c.args.self.now (sym c.std.ensures ∙ (Decides-same_type c.std.result.now c.dst.result.now).0
    (sym c.is_same.ensures ∙ c.if-is_same.true) ∙ c.dst.ensures)

pub returns-then-ends_next_year : goal.returns-then-ends_next_year
returns-then-ends_next_year c =
    OnTrue-not c.comes_before_next.result (one_type_across_years c.args.self.now _ _ c.table-starts.ensures
    c.table-ends.ensures c.if-ends_next_year.ensures) c.comes_before_next.ensures

pub returns-then-not-comes_first : goal.returns-then-not-comes_first
returns-then-not-comes_first c =
    OnTrue-not c.comes_first.result (one_type_in_order c.args.self.now _ _ c.table-starts.ensures c.table-ends.ensures
    c.if-ends_next_year.ensures) c.comes_first.ensures

pub returns-else-not-comes_first : goal.returns-else-not-comes_first
returns-else-not-comes_first c =
    let sound = c.parts_are_sound.ensures in
    OnTrue-not c.comes_before_next-else-not-comes_first.result
    (one_type_without_gap c.args.self.now _ _ c.table-starts.ensures c.table-ends.ensures sound.rule.in_range
    sound.days c.if-ends_next_year.ensures) c.comes_before_next-else-not-comes_first.ensures
