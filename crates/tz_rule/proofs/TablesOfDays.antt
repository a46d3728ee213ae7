-- The table of a day is made of its days in the years of each kind.
use Rattle.tz_rule.proofs.Common.{arith, ◌≡◌, pos, ◌∙◌, ℕ, refl, ◌+ℤ◌, ℤ, sym, ◌<◌, ap, ◌+◌, ◌-◌, Bool, inl, inr, true, entry, false, List, year_day_of, length, day_table, ◌*◌, RuleDay, cases_lt, kind_of, seconds_in_kind, fill_by_all}
use Rattle.tz_rule.proofs.PairKinds.{kind_of-parts}

seconds_in_kind-is : (d : RuleDay) (seconds : ℤ) (leap : Bool) (w : ℕ) → w < 7
    → seconds_in_kind d seconds (kind_of leap w) ≡ pos (86400 * year_day_of d leap w) +ℤ seconds
seconds_in_kind-is d seconds leap w below = let parts = kind_of-parts leap w below in rw (parts.1, parts.2) refl

pub day_table-from : (d : RuleDay) (seconds : ℤ) (entries : List ℤ) (normal leap : ℕ → ℕ) → length entries ≡ 14
    → ((k : ℕ) → k < 7 → entry entries k ≡ pos (86400 * normal k) +ℤ seconds)
    → ((k : ℕ) → k < 7 → entry entries (7 + k) ≡ pos (86400 * leap k) +ℤ seconds)
    → ((w : ℕ) → w < 7 → normal w ≡ year_day_of d false w)
    → ((w : ℕ) → w < 7 → leap w ≡ year_day_of d true w)
    → entries ≡ day_table d seconds
unfolding day_table
day_table-from d seconds entries normal leap size normal_made leap_made normal_is leap_is =
    fill_by_all (seconds_in_kind d seconds) entries 14 (pos 0) size each
  where
    scaled : ℕ → ℤ
    scaled year_day = pos (86400 * year_day) +ℤ seconds

    each : (k : ℕ) → k < 14 → entry entries k ≡ seconds_in_kind d seconds k
    each k below = elim (cases_lt k 7) [
      | inl h ↦ normal_made k h ∙ ap scaled (normal_is k h) ∙ sym (seconds_in_kind-is d seconds false k h)
      | inr h ↦
          let w = k - 7 in
          let small : w < 7 = omega (arith, h, below) in
          let same : k ≡ 7 + w = omega (arith, h) in
          ap (entry entries) same ∙ leap_made w small ∙ ap scaled (leap_is w small)
          ∙ sym (seconds_in_kind-is d seconds true w small) ∙ ap (seconds_in_kind d seconds) (sym same)
    ]
