-- An alternate rule beside its data: the two days as rule days, which the data has as numbers.
use Rattle.std.specs.Prelude.{◌≡◌}
use Rattle.std.proofs.Common.{refl}
use Rattle.tz_rule.specs.Alternate.{AlternateTime}
use Rattle.tz_rule.specs.declared.timezone.alternate_time.AlternateTime.TheInside.{Inside}

-- both days are those of the data
pub record HasItsDays (r : Inside) : Type 0 where
  pub start_is : r.dst_start ≡ r.rule.dst_start
  pub end_is : r.dst_end ≡ r.rule.dst_end

abbrev pub with_days : AlternateTime → Inside
with_days r = record { rule = r; dst_start = r.dst_start; dst_end = r.dst_end }

pub with_its_days : (r : Inside) → HasItsDays r → with_days r.rule ≡ r
with_its_days r k = rw (← k.start_is, ← k.end_is) refl
