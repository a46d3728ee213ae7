-- What a comparison by one part and then by another says.
use Rattle.tz.proofs.Common.{◌≡◌, inr, inl, ℕ, ◌<◌, ℤ, ◌<ℤ◌, ◌⊎◌, Ordering, int_cmp, nat_cmp, ordering_then, MatchOrdering, int_ranks, ranks}
use Rattle.std.specs.declared.cmp.Ordering.TheVariants as order

-- what holds at `Less`, at `Equal` and at `Greater`
pub record Ranked (r : Ordering) (L E G : Type 0) : Type 0 where
  pub says : MatchOrdering r L E G

pub nat_ranked : (x y : ℕ) → Ranked (nat_cmp x y) (x < y) (x ≡ y) (y < x)
nat_ranked x y = record { says = ranks x y }

pub int_ranked : (x y : ℤ) → Ranked (int_cmp x y) (x <ℤ y) (x ≡ y) (y <ℤ x)
int_ranked x y = record { says = int_ranks x y }

-- by the first part, and if it is equal by the second
pub then_ranked : {r s : Ordering} {L E G L' E' G' : Type 0} → Ranked r L E G → Ranked s L' E' G'
    → Ranked (ordering_then r s) (L ⊎ (E × L')) (E × E') (G ⊎ (E × G'))
then_ranked {r} {s} {L} {E} {G} {L'} {E'} {G'} first second = record { says = both r s first.says second.says }
  where
    both : (r s : Ordering) → MatchOrdering r L E G → MatchOrdering s L' E' G'
        → MatchOrdering (ordering_then r s) (L ⊎ (E × L')) (E × E') (G ⊎ (E × G'))
    both order.Less s first second = inl first
    both order.Equal order.Less first second = inr (first, second)
    both order.Equal order.Equal first second = (first, second)
    both order.Equal order.Greater first second = inr (first, second)
    both order.Greater s first second = inl first

-- a comparison says all that follows from what it says
pub weaker_ranks : {r : Ordering} {L E G P Q T : Type 0} → Ranked r L E G → (L → P) → (E → Q) → (G → T)
    → MatchOrdering r P Q T
weaker_ranks {r} {L} {E} {G} {P} {Q} {T} ranked less equal greater = by_order r ranked.says
  where
    by_order : (r : Ordering) → MatchOrdering r L E G → MatchOrdering r P Q T
    by_order order.Less h = less h
    by_order order.Equal h = equal h
    by_order order.Greater h = greater h
