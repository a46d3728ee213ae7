-- The order of fields, one after the other, is the order of their totals if the seconds are below 60.
use Rattle.tz.proofs.Common.{arith, ◌≡◌, ints, inr, sym, inl, ℕ, ◌<◌, ◌+◌, Fields, ◌*◌, ◌<ℤ◌, IsValid, ◌⊎◌, Ordering, day_of, int_cmp, int_cmp_is, nat_cmp, ordering_then, IsEarlierDate, day_number-mono, utc_total, valid_day}
use Rattle.tz.proofs.ComparisonsByParts.{nat_ranked, int_ranked, then_ranked, weaker_ranks}

-- the time of the day in nanoseconds
abbrev time_of : Fields → ℕ
time_of f = 1000000000 * (3600 * f.hour + 60 * f.minute + f.second) + f.nanoseconds

abbrev IsEarlierTime : Fields → Fields → Type 0
IsEarlierTime f g =
    (f.hour < g.hour)
    ⊎ ((f.hour ≡ g.hour) × ((f.minute < g.minute)
    ⊎ ((f.minute ≡ g.minute) × ((f.second < g.second) ⊎ ((f.second ≡ g.second) × (f.nanoseconds < g.nanoseconds))))))

abbrev IsEarlier : Fields → Fields → Type 0
IsEarlier f g =
    (f.year <ℤ g.year)
    ⊎ ((f.year ≡ g.year) × ((f.month < g.month)
    ⊎ ((f.month ≡ g.month) × ((f.month_day < g.month_day) ⊎ ((f.month_day ≡ g.month_day) × IsEarlierTime f g)))))

-- fields with a second below 60
pub record IsBelow60 (f : Fields) : Type 0 where
  pub valid : IsValid f
  pub below_60 : f.second < 60

pub below_60 : (f : Fields) → IsValid f → f.second < 60 → IsBelow60 f
below_60 f valid below = record { valid = valid; below_60 = below }

earlier_time : (f g : Fields) → IsBelow60 f → IsEarlierTime f g → time_of f < time_of g
earlier_time f g is (inl h) = let r = is.valid.in_range in omega (arith, h, r.minute, is.below_60, r.nanoseconds)
earlier_time f g is (inr (h, inl m)) = let r = is.valid.in_range in omega (arith, h, m, is.below_60, r.nanoseconds)
earlier_time f g is (inr (h, inr (m, inl s))) = let r = is.valid.in_range in omega (arith, h, m, s, r.nanoseconds)
earlier_time f g is (inr (h, inr (m, inr (s, n)))) = omega (arith, h, m, s, n)

-- the times of a day are below its end
time_below : (f : Fields) → IsBelow60 f → time_of f < 86400000000000
time_below f is = let r = is.valid.in_range in omega (arith, r.hour, r.minute, is.below_60, r.nanoseconds)

earlier_day : (f g : Fields) → IsBelow60 f → day_of f <ℤ day_of g → utc_total f <ℤ utc_total g
earlier_day f g is h = omega (arith, ints, h, time_below f is)

same_date : (f g : Fields) → f.year ≡ g.year → f.month ≡ g.month → f.month_day ≡ g.month_day → day_of f ≡ day_of g
same_date f g year month month_day = cc

earlier_date : (f g : Fields) → IsBelow60 f → IsBelow60 g
    → IsEarlierDate f.year f.month f.month_day g.year g.month g.month_day → utc_total f <ℤ utc_total g
earlier_date f g is_f is_g h = earlier_day f g is_f
    (day_number-mono f.year f.month f.month_day g.year g.month g.month_day (valid_day f is_f.valid)
    (valid_day g is_g.valid) h)

earlier_total : (f g : Fields) → IsBelow60 f → IsBelow60 g → IsEarlier f g → utc_total f <ℤ utc_total g
earlier_total f g is_f is_g (inl y) = earlier_date f g is_f is_g (inl y)
earlier_total f g is_f is_g (inr (y, inl m)) = earlier_date f g is_f is_g (inr (y, inl m))
earlier_total f g is_f is_g (inr (y, inr (m, inl d))) = earlier_date f g is_f is_g (inr (y, inr (m, d)))
earlier_total f g is_f is_g (inr (y, inr (m, inr (d, t)))) =
    omega (arith, ints, same_date f g y m d, earlier_time f g is_f t)

-- equal fields, one after the other
abbrev IsSame : Fields → Fields → Type 0
IsSame f g = (f.year ≡ g.year) × ((f.month ≡ g.month)
    × ((f.month_day ≡ g.month_day) × ((f.hour ≡ g.hour)
    × ((f.minute ≡ g.minute) × ((f.second ≡ g.second) × (f.nanoseconds ≡ g.nanoseconds))))))

same_total : (f g : Fields) → IsSame f g → utc_total f ≡ utc_total g
same_total f g (y, (m, (d, (h, (i, (s, n)))))) = omega (arith, ints, same_date f g y m d, h, i, s, n)

-- what the comparison says if the first fields are later
abbrev IsLater : Fields → Fields → Type 0
IsLater f g =
    (g.year <ℤ f.year)
    ⊎ ((f.year ≡ g.year) × ((g.month < f.month)
    ⊎ ((f.month ≡ g.month) × ((g.month_day < f.month_day) ⊎ ((f.month_day ≡ g.month_day)
    × ((g.hour < f.hour) ⊎ ((f.hour ≡ g.hour)
    × ((g.minute < f.minute) ⊎ ((f.minute ≡ g.minute)
    × ((g.second < f.second) ⊎ ((f.second ≡ g.second) × (g.nanoseconds < f.nanoseconds))))))))))))

later_earlier : (f g : Fields) → IsLater f g → IsEarlier g f
later_earlier f g (inl y) = inl y
later_earlier f g (inr (y, inl m)) = inr (sym y, inl m)
later_earlier f g (inr (y, inr (m, inl d))) = inr (sym y, inr (sym m, inl d))
later_earlier f g (inr (y, inr (m, inr (d, inl h)))) = inr (sym y, inr (sym m, inr (sym d, inl h)))
later_earlier f g (inr (y, inr (m, inr (d, inr (h, inl i))))) =
    inr (sym y, inr (sym m, inr (sym d, inr (sym h, inl i))))
later_earlier f g (inr (y, inr (m, inr (d, inr (h, inr (i, inl s)))))) =
    inr (sym y, inr (sym m, inr (sym d, inr (sym h, inr (sym i, inl s)))))
later_earlier f g (inr (y, inr (m, inr (d, inr (h, inr (i, inr (s, n))))))) =
    inr (sym y, inr (sym m, inr (sym d, inr (sym h, inr (sym i, inr (sym s, n))))))

-- the comparison of the fields in their order
abbrev pub fields_cmp : Fields → Fields → Ordering
fields_cmp f g =
    ordering_then (int_cmp f.year g.year) (ordering_then (nat_cmp f.month g.month)
    (ordering_then (nat_cmp f.month_day g.month_day)
    (ordering_then (nat_cmp f.hour g.hour)
    (ordering_then (nat_cmp f.minute g.minute)
    (ordering_then (nat_cmp f.second g.second) (nat_cmp f.nanoseconds g.nanoseconds))))))

pub order_of_totals : (f g : Fields) → IsBelow60 f → IsBelow60 g → fields_cmp f g ≡ int_cmp (utc_total f) (utc_total g)
order_of_totals f g is_f is_g =
    let by_parts =
    then_ranked (int_ranked f.year g.year)
    (then_ranked (nat_ranked f.month g.month) (then_ranked (nat_ranked f.month_day g.month_day)
    (then_ranked (nat_ranked f.hour g.hour)
    (then_ranked (nat_ranked f.minute g.minute)
    (then_ranked (nat_ranked f.second g.second) (nat_ranked f.nanoseconds g.nanoseconds)))))) in
    int_cmp_is (utc_total f) (utc_total g) (fields_cmp f g)
    (weaker_ranks by_parts (earlier_total f g is_f is_g) (same_total f g)
    (λ h. earlier_total g f is_g is_f (later_earlier f g h)))
