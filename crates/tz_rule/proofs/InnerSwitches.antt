-- If all starts and ends are far inside their years, those of the neighbours of an instant's likely year are over or
-- yet to come.
use Rattle.tz_rule.proofs.Common.{arith, ◌≡◌, ints, pos, ℕ, refl, ◌+ℤ◌, ℤ, ◌<◌, ◌≤ℤ◌, ap, ◌-ℤ◌, ◌+◌, Bool, inl, inr, true, end_of, entry, false, start_of, ◌<ℤ◌, AlternateTime, List, AreRuleDays, suc, zero, end_table, first_day-mono, not, start_table, switch_of, year_kind, IsTableOf, cases_lt, days_of_years, greatest_entry, least_entry, first_day-moved, int_max, int_min, is_inner, ◌/◌, HasInnerSwitches, IsDeterminingYear, IsLikelyYear, OnTrue, switches_are_inner, IsInnerSwitch, int_max_is, int_min_is}
use Rattle.tz_rule.proofs.OrderByTables.{IsTableOf-start_of, IsTableOf-end_of}
use Rattle.tz_rule.proofs.PairKinds.{year_kind-below}

module _ (f : ℤ → ℤ) (u year : ℤ) (likely : IsLikelyYear u year) (inner : (y : ℤ) → IsInnerSwitch (f y) y) where
  pub over_before_likely : f (year -ℤ pos 1) ≤ℤ u
  over_before_likely =
      omega (
        arith,
        ints,
        (inner (year -ℤ pos 1)).1,
        likely.0,
        first_day-mono (year -ℤ pos 1) year (omega (arith, ints)),
      )

  pub to_come_after_likely : u <ℤ f (year +ℤ pos 1)
  to_come_after_likely =
      omega (
        arith,
        ints,
        (inner (year +ℤ pos 1)).0,
        likely.1,
        first_day-mono year (year +ℤ pos 1) (omega (arith, ints)),
      )

pub determining_if_likely : (r : AlternateTime) (b : Bool) (u year : ℤ) → IsLikelyYear u year → HasInnerSwitches r
    → IsDeterminingYear r b u year
determining_if_likely r b u year likely inner = (
  λ _. over_before_likely (switch_of r (not b)) u year likely (inner (not b)),
  to_come_after_likely
      (switch_of r b) u year likely (inner b),
)

-- the bounds of one kind more
pub least_entry-next : (table : List ℤ) (kinds : ℕ)
    → least_entry table (kinds + 1) ≡ int_min (least_entry table kinds) (entry table kinds)
unfolding least_entry
least_entry-next table kinds = let e : kinds + 1 ≡ suc kinds = omega arith in rw e refl

pub greatest_entry-next : (table : List ℤ) (kinds : ℕ)
    → greatest_entry table (kinds + 1) ≡ int_max (greatest_entry table kinds) (entry table kinds)
unfolding greatest_entry
greatest_entry-next table kinds = let e : kinds + 1 ≡ suc kinds = omega arith in rw e refl

-- the bounds of a table's first entries hold for each of them
pub least_entry-le : (table : List ℤ) (kinds kind : ℕ) → kind < kinds → least_entry table kinds ≤ℤ entry table kind
unfolding least_entry
least_entry-le table zero kind below = absurd (omega arith)
least_entry-le table (suc kinds) kind below = elim (cases_lt kind kinds) [
  | inl before ↦ omega (
    arith,
    ints,
    least_entry-le table kinds kind before,
    int_min_is (least_entry table kinds) (entry table kinds),
  )
  | inr past ↦ let same : kind ≡ kinds = omega (arith, below, past) in
      omega (arith, ints, ap (entry table) same, int_min_is (least_entry table kinds) (entry table kinds))
]

pub greatest_entry-ge : (table : List ℤ) (kinds kind : ℕ) → kind < kinds
    → entry table kind ≤ℤ greatest_entry table kinds
unfolding greatest_entry
greatest_entry-ge table zero kind below = absurd (omega arith)
greatest_entry-ge table (suc kinds) kind below = elim (cases_lt kind kinds) [
  | inl before ↦ omega (
    arith,
    ints,
    greatest_entry-ge table kinds kind before,
    int_max_is (greatest_entry table kinds)
        (entry table kinds),
  )
  | inr past ↦ let same : kind ≡ kinds = omega (arith, below, past) in
      omega (arith, ints, ap (entry table) same, int_max_is (greatest_entry table kinds) (entry table kinds))
]

-- a table with inner entries alone is that of inner instants
inner_by_table : (f : ℤ → ℤ) (table : List ℤ) → IsTableOf f table → is_inner table ≡ true → (y : ℤ)
    → IsInnerSwitch (f y) y
inner_by_table f table is inner y =
    let here = is.entries y in
    let low : pos 864000 ≤ℤ least_entry table 14 = grind (arith, ints) in
    let high : greatest_entry table 14 <ℤ pos 30672000 = grind (arith, ints) in (
      omega (
        arith,
        ints,
        here,
        low,
        least_entry-le table 14 (year_kind y)
            (year_kind-below y),
      ),
      omega (
        arith,
        ints,
        here,
        high,
        greatest_entry-ge table 14 (year_kind y) (year_kind-below y),
      ),
    )

-- an average year later or earlier by less than one, the beginnings of years are less than two days apart
pub IsLikelyYear-by_average : (u : ℤ) (n moved : ℕ) → u +ℤ pos 67768111675987200 ≡ pos moved → n ≡ moved / 31556952
    → IsLikelyYear u (pos n -ℤ pos 2147484000)
unfolding days_of_years
IsLikelyYear-by_average u n moved e is =
    let start = first_day-moved (pos n -ℤ pos 2147484000) n 5368710 (omega (arith, ints)) in
    (omega (arith, ints, e, is, start), omega (arith, ints, e, is, start))

pub HasInnerSwitches-from : (r : AlternateTime) → AreRuleDays r → (b : Bool) → b ≡ switches_are_inner r
    → OnTrue b (HasInnerSwitches r)
unfolding switches_are_inner
HasInnerSwitches-from r days false e = tt
HasInnerSwitches-from r days true e = λ is_end. inner is_end
  where
    inner : (is_end : Bool) (y : ℤ) → IsInnerSwitch (switch_of r is_end y) y
    inner false = inner_by_table (start_of r) (start_table r) (IsTableOf-start_of r (start_table r) refl days.start_is)
        (grind arith)
    inner true = inner_by_table (end_of r) (end_table r) (IsTableOf-end_of r (end_table r) refl days.end_is)
        (grind arith)
