-- The days that a rule day may be follow one another, and the table of a day has the first and the last of them.
use Rattle.tz_rule.proofs.Common.{arith, length, get_or-set_other, negsuc, ◌≡◌, ints, pos, ◌∙◌, ℕ, refl, sym, ℤ, ◌+ℤ◌, ◌≤ℤ◌, ◌<◌, ap, ◌+◌, ◌-◌, ◌*◌, ◌%◌, inl, inr, ◌≤◌, ◌⊎◌, true, suc, zero, List, get_or, entry, eqb, Decides-eqb, all_below, passes_at, nat_tests, cases_lt, nth_week_day, least_entry, greatest_entry, int_max, int_min, int_max_is, int_min_is}
use Rattle.tz_rule.specs.YearDays.{days_later}
use Rattle.tz_rule.specs.YearTables.{AreBounds, AreExactBounds}
use Rattle.tz_rule.specs.declared.timezone.year_table.TheConstants.{SECONDS_LATER}
use Rattle.std.proofs.Math.ListN.{set}
use Rattle.std.proofs.lemmas.Grind.{get_or-set_at}
use Rattle.std.proofs.lemmas.List.{length-set}
use Rattle.tz_rule.proofs.InnerSwitches.{least_entry-le, greatest_entry-ge}
use Rattle.tz_rule.proofs.DaysOfWeeks.{least_day, day_within}

are_seconds : all_below (λ place. eqb (get_or SECONDS_LATER place 0) (86400 * days_later place)) 20 ≡ true
unfolding all_below days_later
are_seconds = refl

pub seconds_later-at : (place : ℕ) → place < 20 → get_or SECONDS_LATER place 0 ≡ 86400 * days_later place
seconds_later-at place below = (Decides-eqb _ _).0 (passes_at
    (λ place. eqb (get_or SECONDS_LATER place 0) (86400 * days_later place)) 20 place are_seconds below)

pub days_later-le : (place : ℕ) → days_later place ≤ 6
unfolding days_later
days_later-le place = grind (arith, nat_tests)

pub seconds_later-bound : (place : ℕ) → place < 20 → get_or SECONDS_LATER place 0 ≤ 518400
seconds_later-bound place below = omega (arith, seconds_later-at place below, days_later-le place)

-- the w-th week day of a month is whole weeks after the first one
nth_week_day-is : (first days week : ℕ) → 7 ≤ days
    → ((weeks : ℕ) × ((nth_week_day first days week ≡ first + 7 * weeks)
    ⊎ (nth_week_day first days week + 7 ≡ first + 7 * weeks)))
nth_week_day-is first days week low = (
  week - 1,
  elim (cases_lt (first + 7 * (week - 1)) days) [
    | inl h ↦ inl (grind (arith, nat_tests))
    | inr h ↦ inr (grind (arith, nat_tests))
  ],
)

from_place : (w week_day before least nth : ℕ) → w < 7 → week_day ≤ 6 → before + least ≤ 371 → least ≤ nth
    → nth ≤ least + 6
    → ((weeks : ℕ) × ((nth ≡ (week_day + 7 - (w + before) % 7) % 7 + 7 * weeks)
    ⊎ (nth + 7 ≡ (week_day + 7 - (w + before) % 7) % 7 + 7 * weeks)))
    → before + least + (20 - (13 - (week_day + 371 - (before + least)) % 7 + w)) % 7 ≡ before + nth
from_place w week_day before least nth below day bound low high weeks = elim weeks.1 [
  | inl h ↦ omega (arith, below, day, bound, low, high, h)
  | inr h ↦ omega (arith, below, day, bound, low, high, h)
]

pub days_later-is : (w week_day before days week : ℕ) → w < 7 → week_day ≤ 6 → 28 ≤ days → days ≤ 31 → 1 ≤ week
    → week ≤ 5
    → before + least_day days week ≤ 371
    → before + least_day days week + days_later (13 - (week_day + 371 - (before + least_day days week)) % 7 + w)
    ≡ before + nth_week_day ((week_day + 7 - (w + before) % 7) % 7) days week
unfolding days_later
days_later-is w week_day before days week below day low high first last bound =
    let f = (week_day + 7 - (w + before) % 7) % 7 in
    let within = day_within f days week (omega arith) low high first last in
    let is = from_place w week_day before (least_day days week) (nth_week_day f days week) below day bound within.0
    within.1
    (nth_week_day-is f days week (omega (arith, low))) in
    grind (arith, nat_tests, is)

-- the least of entries is one of them, and no other is less
least_entry-ge : (table : List ℤ) (kinds : ℕ) (least : ℤ) → least ≤ℤ pos 2147483647
    → ((kind : ℕ) → kind < kinds → least ≤ℤ entry table kind) → least ≤ℤ least_entry table kinds
unfolding least_entry
least_entry-ge table zero least top below = top
least_entry-ge table (suc kinds) least top below = omega (
  arith,
  ints,
  least_entry-ge table kinds least top (λ k h. below k (omega (arith, h))),
  below kinds (omega arith),
  int_min_is (least_entry table kinds) (entry table kinds),
)

greatest_entry-le : (table : List ℤ) (kinds : ℕ) (greatest : ℤ) → negsuc 2147483647 ≤ℤ greatest
    → ((kind : ℕ) → kind < kinds → entry table kind ≤ℤ greatest) → greatest_entry table kinds ≤ℤ greatest
unfolding greatest_entry
greatest_entry-le table zero greatest bottom above = bottom
greatest_entry-le table (suc kinds) greatest bottom above = omega (
  arith,
  ints,
  greatest_entry-le table kinds greatest bottom (λ k h. above k (omega (arith, h))),
  above kinds (omega arith),
  int_max_is (greatest_entry table kinds) (entry table kinds),
)

abbrev pub IsPlace : ℕ → Type 0
IsPlace place = (place ≡ 0) ⊎ ((7 ≤ place) × (place ≤ 13))

-- the seconds to the last day, by those to the first
abbrev pub IsLast : ℕ → ℤ → ℤ → Type 0
IsLast place first last = (place ≡ 0 → last ≡ first) × (0 < place → last ≡ first +ℤ pos 518400)

first_day_at : (place : ℕ) → IsPlace place → ((k : ℕ) × (k < 7) × (days_later (place + k) ≡ 0))
unfolding days_later
first_day_at place (inl none) = (0, omega arith, rw none refl)
first_day_at place (inr week) = (13 - place, omega (arith, week), grind (arith, nat_tests))

last_day_at : (place : ℕ) (first last : ℤ) → IsPlace place → IsLast place first last
    → ((k : ℕ) × (k < 7) × (first +ℤ pos (86400 * days_later (place + k)) ≡ last))
unfolding days_later
last_day_at place first last (inl none) is =
    let zero : days_later (place + 0) ≡ 0 = grind (arith, nat_tests) in
    (0, omega arith, omega (arith, ints, zero, is.0 none))
last_day_at place first last (inr week) is =
    let k = (14 - place) % 7 in
    let six : days_later (place + k) ≡ 6 = grind (arith, nat_tests) in
    (k, omega arith, omega (arith, ints, six, is.1 (omega (arith, week))))

none_past_last : (place k : ℕ) (first last : ℤ) → k < 7 → IsPlace place → IsLast place first last
    → (first +ℤ pos (86400 * days_later (place + k))) ≤ℤ last
unfolding days_later
none_past_last place k first last below (inl none) is =
    let zero : days_later (place + k) ≡ 0 = grind (arith, nat_tests) in omega (arith, ints, zero, is.0 none)
none_past_last place k first last below (inr week) is =
    omega (arith, ints, days_later-le (place + k), is.1 (omega (arith, week)))

module _ (table : List ℤ) (normal leap normal_last leap_last : ℤ) (p q : ℕ) (p_is : IsPlace p) (q_is : IsPlace q)
    (p_last : IsLast p normal normal_last) (q_last : IsLast q leap leap_last)
    (low : (negsuc 99999999 ≤ℤ normal) × (negsuc 99999999 ≤ℤ leap))
    (high : (normal ≤ℤ pos 99999999) × (leap ≤ℤ pos 99999999))
    (normal_made : (k : ℕ) → k < 7 → entry table k ≡ normal +ℤ pos (86400 * days_later (p + k)))
    (leap_made : (k : ℕ) → k < 7 → entry table (7 + k) ≡ leap +ℤ pos (86400 * days_later (q + k))) where
  each : (A : ℤ → Type 0) → ((k : ℕ) → k < 7 → A (normal +ℤ pos (86400 * days_later (p + k))))
      → ((k : ℕ) → k < 7 → A (leap +ℤ pos (86400 * days_later (q + k)))) → (kind : ℕ) → kind < 14 → A (entry table kind)
  each A in_normal in_leap kind below = elim (cases_lt kind 7) [
    | inl h ↦ rw (normal_made kind h) (in_normal kind h)
    | inr h ↦
        let w = kind - 7 in
        let small : w < 7 = omega (arith, h, below) in
        let same : kind ≡ 7 + w = omega (arith, h) in
        rw (same, leap_made w small) (in_leap w small)
  ]

  pub least_is : int_min normal leap ≡ least_entry table 14
  least_is =
      let least = int_min_is normal leap in
      let at_normal = first_day_at p p_is in
      let at_leap = first_day_at q q_is in
      let lower = least_entry-ge table 14 (int_min normal leap) (omega (arith, ints, high, least))
      (each (λ seconds. int_min normal leap ≤ℤ seconds) (λ k h. omega (arith, ints, least))
      (λ k h. omega (arith, ints, least))) in
      let by_normal = least_entry-le table 14 at_normal.0 (omega (arith, at_normal.1)) in
      let by_leap = least_entry-le table 14 (7 + at_leap.0) (omega (arith, at_leap.1)) in
      omega (
        arith,
        ints,
        least,
        lower,
        by_normal,
        by_leap,
        normal_made at_normal.0 at_normal.1,
        at_normal.2,
        leap_made at_leap.0 at_leap.1,
        at_leap.2,
      )

  pub greatest_is : int_max normal_last leap_last ≡ greatest_entry table 14
  greatest_is =
      let greatest = int_max_is normal_last leap_last in
      let at_normal = last_day_at p normal normal_last p_is p_last in
      let at_leap = last_day_at q leap leap_last q_is q_last in
      let upper = greatest_entry-le table 14 (int_max normal_last leap_last)
      (omega (arith, ints, low, greatest, at_normal.2))
      (each (λ seconds. seconds ≤ℤ int_max normal_last leap_last)
      (λ k h. omega (arith, ints, greatest, none_past_last p k normal normal_last h p_is p_last))
      (λ k h. omega (arith, ints, greatest, none_past_last q k leap leap_last h q_is q_last))) in
      let by_normal = greatest_entry-ge table 14 at_normal.0 (omega (arith, at_normal.1)) in
      let by_leap = greatest_entry-ge table 14 (7 + at_leap.0) (omega (arith, at_leap.1)) in
      omega (
        arith,
        ints,
        greatest,
        upper,
        by_normal,
        by_leap,
        normal_made at_normal.0 at_normal.1,
        at_normal.2,
        leap_made at_leap.0 at_leap.1,
        at_leap.2,
      )

pub never_later : (w : ℕ) → w < 7 → days_later (0 + w) ≡ 0
unfolding days_later
never_later w below = grind (arith, nat_tests)

pub are_bounds : (table : List ℤ) (least greatest : ℤ) → AreExactBounds table least greatest
    → AreBounds table least greatest
are_bounds table least greatest exact kind below =
    let least = least_entry-le table 14 kind below in
    let greatest = greatest_entry-ge table 14 kind below in
    (omega (arith, ints, exact.0, least), omega (arith, ints, exact.1, greatest))

-- one week day more in both halves of a table
module _ (f g : ℕ → ℤ) (entries : List ℤ) (i : ℕ) (x y : ℤ) (size : length entries ≡ 14) (below : i < 7)
    (x_is : x ≡ f i) (y_is : y ≡ g i) (first : (k : ℕ) → k < i → entry entries k ≡ f k)
    (second : (k : ℕ) → k < i → entry entries (7 + k) ≡ g k) where
  pub first_with : (k : ℕ) → k < i + 1 → entry (set (set entries i x) (7 + i) y) k ≡ f k
  first_with k h =
      get_or-set_other (set entries i x) (7 + i) k y (pos 0) (omega (arith, h, below)) ∙ elim (cases_lt k i) [
        | inl less ↦ get_or-set_other entries i k x (pos 0) (omega (arith, less)) ∙ first k less
        | inr last ↦
            let same : k ≡ i = omega (arith, h, last) in
            get_or-set_at entries i k x (pos 0) same (omega (arith, size, below)) ∙ x_is ∙ ap f (sym same)
      ]

  pub second_with : (k : ℕ) → k < i + 1 → entry (set (set entries i x) (7 + i) y) (7 + k) ≡ g k
  second_with k h = elim (cases_lt k i) [
    | inl less ↦
        get_or-set_other (set entries i x) (7 + i) (7 + k) y (pos 0) (omega (arith, less))
        ∙ get_or-set_other entries i (7 + k) x (pos 0) (omega (arith, below)) ∙ second k less
    | inr last ↦
        let same : k ≡ i = omega (arith, h, last) in
        let room : 7 + i < length (set entries i x) = omega (arith, size, below, length-set entries i x) in
        get_or-set_at (set entries i x) (7 + i) (7 + k) y (pos 0) (omega (arith, same)) room ∙ y_is ∙ ap g (sym same)
  ]
