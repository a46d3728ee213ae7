-- The order of seconds and then of nanoseconds is that of the totals.
use Rattle.tz.proofs.Common.{arith, ◌≡◌, ints, inr, inl, ◌<◌, ◌<ℤ◌, ◌⊎◌, DateTime, IsDateTime, int_cmp_is, moment_cmp, total_of}
use Rattle.tz.proofs.ComparisonsByParts.{nat_ranked, int_ranked, then_ranked, weaker_ranks}
use Rattle.tz.proofs.laws.date_times_compare_by_instant.Goals as goal

less_total : (a b : DateTime) → IsDateTime a
    → ((a.unix_time <ℤ b.unix_time) ⊎ ((a.unix_time ≡ b.unix_time) × (a.fields.nanoseconds < b.fields.nanoseconds)))
    → total_of a <ℤ total_of b
less_total a b is_a (inl h) = omega (arith, ints, h, is_a.valid.in_range.nanoseconds)
less_total a b is_a (inr (e, h)) = omega (arith, ints, e, h)

greater_total : (a b : DateTime) → IsDateTime b
    → ((b.unix_time <ℤ a.unix_time) ⊎ ((a.unix_time ≡ b.unix_time) × (b.fields.nanoseconds < a.fields.nanoseconds)))
    → total_of b <ℤ total_of a
greater_total a b is_b (inl h) = omega (arith, ints, h, is_b.valid.in_range.nanoseconds)
greater_total a b is_b (inr (e, h)) = omega (arith, ints, e, h)

equal_total : (a b : DateTime) → ((a.unix_time ≡ b.unix_time) × (a.fields.nanoseconds ≡ b.fields.nanoseconds))
    → total_of a ≡ total_of b
equal_total a b (e, h) = omega (arith, ints, e, h)

pub returns-clause-order : goal.returns-clause-order
returns-clause-order c a b is_a is_b =
    let by_parts = then_ranked (int_ranked a.unix_time b.unix_time)
    (nat_ranked a.fields.nanoseconds b.fields.nanoseconds) in
    int_cmp_is (total_of a) (total_of b) (moment_cmp a b) (weaker_ranks by_parts (less_total a b is_a) (equal_total a b)
    (greater_total a b is_b))
