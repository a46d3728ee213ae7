-- How an alternate rule is kept: its parts, whether it ends in the next year, whether its starts
-- and ends are far inside their years, and the tables of these.
use Rattle.std.specs.Prelude.{◌≡◌, ℕ, zero, suc, ◌&&◌, ◌||◌, Bool, false}
use Rattle.std.specs.Int.Signed.{lt_z}
use Rattle.std.proofs.Common.{refl}
use Rattle.tz_rule.specs.Alternate.{AlternateTime, start_of, end_of, IsConsistentRule, AreRuleDays}
use Rattle.tz_rule.specs.Parts.{rule_of}
use Rattle.tz_rule.specs.YearTables.{IsTableOf, entry, is_inner, start_table, end_table}
use Rattle.tz_rule.specs.declared.timezone.alternate_time.AlternateData.TheInside.{Inside}
use Rattle.tz_rule.specs.declared.timezone.alternate_time.Parts.{Parts}

-- in the years of one of the first kinds the end comes before the start
unfoldable pub ends_first_in : AlternateTime → ℕ → Bool
ends_first_in r zero = false
ends_first_in r (suc kinds) = lt_z (entry (end_table r) kinds) (entry (start_table r) kinds) ||
    ends_first_in r kinds

-- the fourteen kinds determine whether some year's end comes before its start
unfoldable pub ends_come_first : AlternateTime → Bool
ends_come_first r = ends_first_in r 14

-- the fourteen kinds determine whether all starts and ends are ten days or more from the ends of
-- their years
unfoldable pub switches_are_inner : AlternateTime → Bool
switches_are_inner r = is_inner (start_table r) && is_inner (end_table r)

-- what keeps a rule
pub record IsRuleInside (r : Inside) : Type 0 where
  pub is_consistent : IsConsistentRule (rule_of r.parts)
  pub are_days : AreRuleDays (rule_of r.parts)
  pub pairing : r.ends_next_year ≡ ends_come_first (rule_of r.parts)
  pub inner_switches : r.has_inner_switches ≡ switches_are_inner (rule_of r.parts)
  pub starts_are : IsTableOf (start_of (rule_of r.parts)) r.starts.0
  pub ends_are : IsTableOf (end_of (rule_of r.parts)) r.ends.0
  pub starts_made : r.starts.0 ≡ start_table (rule_of r.parts)
  pub ends_made : r.ends.0 ≡ end_table (rule_of r.parts)

abbrev pub parts_of : AlternateTime → Parts
parts_of r = record {
  std = r.std;
  dst = r.dst;
  dst_start = r.dst_start;
  dst_start_time = r.dst_start_time;
  dst_end = r.dst_end;
  dst_end_time = r.dst_end_time;
}

-- what is kept of a rule
abbrev pub kept_of : AlternateTime → Inside
kept_of r = record {
  parts = parts_of r;
  ends_next_year = ends_come_first r;
  has_inner_switches =
      switches_are_inner r;
  starts = record { 0 = start_table r };
  ends = record { 0 = end_table r };
}

pub kept_rule : (r : Inside) → IsRuleInside r → kept_of (rule_of r.parts) ≡ r
kept_rule r k = rw (← k.pairing, ← k.inner_switches, ← k.starts_made, ← k.ends_made) refl
