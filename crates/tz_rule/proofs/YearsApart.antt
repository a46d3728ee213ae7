-- How far an instant of a year by one table is from that of a year near by, by another table: as far as for one of the
-- years from 1972 to 2000.
use Rattle.tz_rule.proofs.Common.{arith, ◌≡◌, ints, pos, ◌∙◌, ℕ, ◌+ℤ◌, ℤ, sym, ◌<◌, ◌≤ℤ◌, ap, ◌-ℤ◌, ◌+◌, entry, List, ◌%◌, suc, zero, is_leap, negsuc, week_day_of_year, instant_in, year_kind, IsConflict, IsTableOf, kind_of, IsNear, cond, first_day-next, year_length, year_length-is}
use Rattle.tz_rule.proofs.Weeks.{week_day_of_year-next}
use Rattle.tz_rule.proofs.YearKinds.{IsAlike, like_model}
use Rattle.tz_rule.proofs.YearlyInstants.{year_start}

-- a table has the instants of its years
pub instant_in-is : (f : ℤ → ℤ) (table : List ℤ) → IsTableOf f table → (year : ℤ) → instant_in table year ≡ f year
unfolding instant_in
instant_in-is f table is year = omega (arith, ints, is.entries year)

-- years that are alike are of one kind
same_day : (table : List ℤ) (x y : ℤ) → is_leap x ≡ is_leap y → week_day_of_year x ≡ week_day_of_year y
    → instant_in table x -ℤ year_start x ≡ instant_in table y -ℤ year_start y
unfolding instant_in year_kind
same_day table x y leap week_day =
    omega (
      arith,
      ints,
      ap (entry table) (ap (λ b. kind_of b (week_day_of_year x)) leap
          ∙ ap (kind_of (is_leap y)) week_day),
    )

year_length-alike : (x y : ℤ) → is_leap x ≡ is_leap y → year_length x ≡ year_length y
year_length-alike x y leap = year_length-is x ∙ ap (λ b. cond b 366 365) leap ∙ sym (year_length-is y)

-- the years after them too, and these begin after as many days
same_day_next : (table : List ℤ) (x y : ℤ) → IsAlike x y
    → instant_in table (x +ℤ pos 1) -ℤ year_start x ≡ instant_in table (y +ℤ pos 1) -ℤ year_start y
same_day_next table x y a =
    let length = year_length-alike x y a.leap in
    let week_day = week_day_of_year-next x ∙ ap (λ w. (w + year_length x) % 7) a.week_day
    ∙ ap (λ n. (week_day_of_year y + n) % 7) length ∙ sym (week_day_of_year-next y) in
    omega (
      arith,
      ints,
      same_day table (x +ℤ pos 1) (y +ℤ pos 1) a.next_leap week_day,
      length,
      first_day-next
          x,
      first_day-next y,
    )

-- how far the second instant is after the first, in a year that is at the distance
abbrev apart : List ℤ → List ℤ → ℤ → ℤ → ℤ
apart a b year distance = instant_in b (year +ℤ distance) -ℤ instant_in a year

years_apart : (a b : List ℤ) (distance : ℤ) → IsNear distance → (year : ℤ)
    → (m : ℕ) × (m < 29) × (apart a b year distance ≡ apart a b (pos (1972 + m)) distance)
years_apart a b (pos zero) near year =
    let like = like_model year in
    let model = pos (1972 + like.0) in
    let here : year +ℤ pos 0 ≡ year = omega (arith, ints) in
    let there : model +ℤ pos 0 ≡ model = omega (arith, ints) in (
      like.0,
      omega (arith, like.1),
      omega (
        arith,
        ints,
        ap (instant_in b) here,
        ap (instant_in b) there,
        same_day a year
            model like.2.leap like.2.week_day,
        same_day b year model like.2.leap like.2.week_day,
      ),
    )
years_apart a b (pos (suc zero)) near year =
    let like = like_model year in
    let model = pos (1972 + like.0) in (
      like.0,
      omega (arith, like.1),
      omega (
        arith,
        ints,
        same_day a year model like.2.leap like.2.week_day,
        same_day_next
            b year model like.2,
      ),
    )
years_apart a b (pos (suc (suc n))) near year = absurd (omega (arith, ints, near.1))
years_apart a b (negsuc zero) near year =
    let before = year +ℤ negsuc 0 in
    let like = like_model before in
    let model = pos (1972 + like.0) in
    let here : before +ℤ pos 1 ≡ year = omega (arith, ints) in
    let there : model +ℤ pos 1 ≡ pos (1972 + (like.0 + 1)) = omega (arith, ints) in
    let back : pos (1972 + (like.0 + 1)) +ℤ negsuc 0 ≡ model = omega (arith, ints) in (
      like.0 + 1,
      omega (arith, like.1),
      omega (
        arith,
        ints,
        ap (instant_in a) here,
        ap (instant_in a) there,
        ap
            (instant_in b) back,
        same_day b before model like.2.leap like.2.week_day,
        same_day_next a before model like.2,
      ),
    )
years_apart a b (negsuc (suc n)) near year = absurd (omega (arith, ints, near.0))

-- an order in each of those years holds in all years
pub not_before : (a b : List ℤ) (distance : ℤ) → IsNear distance
    → ((m : ℕ) → m < 29 → instant_in b (pos (1972 + m) +ℤ distance) ≤ℤ instant_in a (pos (1972 + m)))
    → (year : ℤ) → instant_in b (year +ℤ distance) ≤ℤ instant_in a year
not_before a b distance near each year =
    let like = years_apart a b distance near year in
    later (instant_in b (year +ℤ distance)) (instant_in a year) (instant_in b (pos (1972 + like.0) +ℤ distance))
    (instant_in a (pos (1972 + like.0))) like.2 (each like.0 like.1)
  where
    later : (x y v w : ℤ) → x -ℤ y ≡ v -ℤ w → v ≤ℤ w → x ≤ℤ y
    later x y v w same h = omega (arith, ints)

-- a conflict by the tables is one of the instants, and the other way round
module _ (f g : ℤ → ℤ) (a b : List ℤ) (ta : IsTableOf f a) (tb : IsTableOf g b) (x y k : ℤ) where
  pub conflict_from_tables : IsConflict (instant_in a) (instant_in b) x y k → IsConflict f g x y k
  conflict_from_tables (first, last) = (
    omega (arith, ints, first, instant_in-is f a ta y, instant_in-is g b tb (y +ℤ k)),
    omega (arith, ints, last, instant_in-is f a ta x, instant_in-is g b tb (x +ℤ k)),
  )

  pub conflict_by_tables : IsConflict f g x y k → IsConflict (instant_in a) (instant_in b) x y k
  conflict_by_tables (first, last) = (
    omega (arith, ints, first, instant_in-is f a ta y, instant_in-is g b tb (y +ℤ k)),
    omega (arith, ints, last, instant_in-is f a ta x, instant_in-is g b tb (x +ℤ k)),
  )
