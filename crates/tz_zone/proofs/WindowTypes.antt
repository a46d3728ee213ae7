-- The types of a clock from those of its parts.
use Rattle.tz_zone.proofs.Common.{arith, ℕ, ints, ℤ, ◌≤ℤ◌, LocalTimeType, Option, AreTypesIn, IfMore}
use Rattle.tz_zone.specs.declared.clock.window_types.WindowTypes.{WindowTypes}
use Rattle.tz_zone.specs.declared.clock.window_types.WindowTypes.TheVariants.{One, Two, More}

-- the types of one clock are those of another one that has them
pub types_weaker : (clock clock' : ℤ → LocalTimeType → Type 0) (low high : ℤ) (types : WindowTypes)
    → ((v : ℤ) (t : LocalTimeType) → low ≤ℤ v → v ≤ℤ high → clock v t → clock' v t) →
    AreTypesIn clock low high types → AreTypesIn clock' low high types
types_weaker clock clock' low high (One t) weaker is = λ v from to. weaker v t.now from to (is v from to)
types_weaker clock clock' low high (Two jump a b) weaker is = (
  is.0,
  is.1,
  (λ v from until. weaker v a.now from (omega (arith, ints, until, is.1)) (is.2 v from until)),
  (λ v from to. weaker v b.now (omega (arith, ints, is.0, from)) to (is.3 v from to)),
)
types_weaker clock clock' low high (More position) weaker is = tt

-- what a position has that is known where the types are not
pub more_weaker : (types : WindowTypes) (P Q : Option ℕ → Type 0) → ((position : Option ℕ) → P position → Q position)
    → IfMore types P → IfMore types Q
more_weaker (One t) P Q weaker is = tt
more_weaker (Two jump a b) P Q weaker is = tt
more_weaker (More position) P Q weaker is = weaker position is
