-- Changes that are given in turn are counted from the instant on, and neighbours are nearest to one another.
use Rattle.tz_zone.proofs.Common.{◌≡◌, arith, ℕ, ints, sym, length, ℤ, subst, ◌<◌, List, Some, ◌<ℤ◌, pos, ◌-ℤ◌, Zone, [], ◌+ℤ◌, by_lt_z, None, ◌∷◌, suc, zero, change_of, Change, HasNoPreceding, IsChange, IsFollowing, IsPreceding, HasNoFollowing}
use Rattle.std.specs.Iterator.{YieldsThen}
use Rattle.tz_zone.specs.ChangesInTurn.{Position, position_after, position_before, GivesFollowing, GivesPreceding, IsNthFollowing, IsNthPreceding}
use Rattle.tz_zone.specs.declared.clock.segment.Change.{Change as KeptChange}
use Rattle.tz_zone.specs.declared.timezone.changes.ChangesAfter.{ChangesAfter}
use Rattle.tz_zone.specs.declared.timezone.changes.ChangesBefore.{ChangesBefore}
use Rattle.tz_zone.proofs.NearestChanges.{one_change, one_following, one_preceding}

pub nth_given_after : (s : ChangesAfter) (earlier : List KeptChange) (c : KeptChange) (t : ChangesAfter)
    → YieldsThen GivesFollowing s earlier (Some c) t
    → IsNthFollowing (position_after s).zone (position_after s).unix_time (length earlier) (change_of c)
nth_given_after s [] c t (j, same, step) =
    let nearest = λ (x : ChangesAfter). IsFollowing (position_after x).zone (position_after x).unix_time
    (change_of c) in
    subst nearest (sym same) step.0
nth_given_after s (x ∷ xs) c t (j, (k, first, rest), step) =
    let moved = λ (p : Position). IsNthFollowing p.zone p.unix_time (length xs) (change_of c) in
    (change_of x, first.0, subst moved first.1 (nth_given_after k xs c t (j, rest, step)))

pub none_given_after : (s : ChangesAfter) (earlier : List KeptChange) (t : ChangesAfter)
    → YieldsThen GivesFollowing s earlier None t → (c : Change)
    → ¬ IsNthFollowing (position_after s).zone (position_after s).unix_time (length earlier) c
none_given_after s [] t (j, same, step) c is =
    let none = λ (x : ChangesAfter). HasNoFollowing (position_after x).zone (position_after x).unix_time in
    subst none (sym same) step.0 c is.above is.is
none_given_after s (x ∷ xs) t (j, (k, first, rest), step) c (d, is, later) =
    let z = (position_after s).zone in
    let same = one_following z (position_after s).unix_time d (change_of x) is first.0 in
    let later' = subst (λ (e : Change). IsNthFollowing z e.unix_time (length xs) c) same later in
    let moved = λ (p : Position). IsNthFollowing p.zone p.unix_time (length xs) c in
    none_given_after k xs t (j, rest, step) c (subst moved (sym first.1) later')

pub nth_given_before : (s : ChangesBefore) (later : List KeptChange) (c : KeptChange) (t : ChangesBefore)
    → YieldsThen GivesPreceding s later (Some c) t
    → IsNthPreceding (position_before s).zone (position_before s).unix_time (length later) (change_of c)
nth_given_before s [] c t (j, same, step) =
    let nearest = λ (x : ChangesBefore). IsPreceding (position_before x).zone (position_before x).unix_time
    (change_of c) in
    subst nearest (sym same) step.0
nth_given_before s (x ∷ xs) c t (j, (k, first, rest), step) =
    let moved = λ (p : Position). IsNthPreceding p.zone p.unix_time (length xs) (change_of c) in
    (change_of x, first.0, subst moved first.1 (nth_given_before k xs c t (j, rest, step)))

pub none_given_before : (s : ChangesBefore) (later : List KeptChange) (t : ChangesBefore)
    → YieldsThen GivesPreceding s later None t → (c : Change)
    → ¬ IsNthPreceding (position_before s).zone (position_before s).unix_time (length later) c
none_given_before s [] t (j, same, step) c is =
    let none = λ (x : ChangesBefore). HasNoPreceding (position_before x).zone (position_before x).unix_time in
    subst none (sym same) step.0 c is.below is.is
none_given_before s (x ∷ xs) t (j, (k, first, rest), step) c (d, is, earlier) =
    let z = (position_before s).zone in
    let same = one_preceding z (position_before s).unix_time d (change_of x) is first.0 in
    let earlier' = subst (λ (e : Change). IsNthPreceding z e.unix_time (length xs) c) same earlier in
    let moved = λ (p : Position). IsNthPreceding p.zone p.unix_time (length xs) c in
    none_given_before k xs t (j, rest, step) c (subst moved (sym first.1) earlier')

module _ (z : Zone) where
  above_nth : (u : ℤ) (n : ℕ) (c : Change) → IsNthFollowing z u n c → u <ℤ c.unix_time
  above_nth u zero c is = is.above
  above_nth u (suc n) c (d, is, later) = omega (arith, ints, is.above, above_nth d.unix_time n c later)

  pub nth_is_change : (u : ℤ) (n : ℕ) (c : Change) → IsNthFollowing z u n c → IsChange z c
  nth_is_change u zero c is = is.is
  nth_is_change u (suc n) c (d, is, later) = nth_is_change d.unix_time n c later

  pub one_nth : (u : ℤ) (n : ℕ) (c d : Change) → IsNthFollowing z u n c → IsNthFollowing z u n d → c ≡ d
  one_nth u zero c d is is' = one_following z u c d is is'
  one_nth u (suc n) c d (x, is, later) (y, is', later') =
      let moved = λ (e : Change). IsNthFollowing z e.unix_time n d in
      one_nth x.unix_time n c d later (subst moved (one_following z u y x is' is) later')

  pub between_is_earlier : (u : ℤ) (n : ℕ) (c d : Change) → IsNthFollowing z u n c → IsChange z d → u <ℤ d.unix_time
      → d.unix_time <ℤ c.unix_time → (m : ℕ) × (m < n) × IsNthFollowing z u m d
  between_is_earlier u zero c d is change above below = absurd (is.least d above below change)
  between_is_earlier u (suc n) c d (x, is, later) change above below =
      by_lt_z d.unix_time x.unix_time (λ less. absurd (is.least d above less change)) (λ not_less.
      by_lt_z x.unix_time d.unix_time (λ more.
      let (m, less, nth) = between_is_earlier x.unix_time n c d later change more below in
      (suc m, omega (arith, less), (x, is, nth)))
      (λ not_more.
      let same = one_change z x d is.is change (omega (arith, ints, not_less, not_more)) in
      (0, omega arith, subst (λ (e : Change). IsFollowing z u e) same is)))

  pub earlier_is_between : (u : ℤ) (n m : ℕ) (c : Change) → IsNthFollowing z u n c → m < n
      → (d : Change) × IsNthFollowing z u m d × (d.unix_time <ℤ c.unix_time)
  earlier_is_between u zero m c is less = absurd (omega (arith, less))
  earlier_is_between u (suc n) zero c (x, is, later) less = (x, is, above_nth x.unix_time n c later)
  earlier_is_between u (suc n) (suc m) c (x, is, later) less =
      let (d, nth, below) = earlier_is_between x.unix_time n m c later (omega (arith, less)) in
      (d, (x, is, nth), below)

pub before_next_instant : (z : Zone) (c : Change) → IsChange z c → IsPreceding z (c.unix_time +ℤ pos 1) c
before_next_instant z c is =
    record { is = is; below = omega (arith, ints); greatest = λ d above below there. omega (arith, ints, above, below) }

pub after_instant_before : (z : Zone) (c : Change) → IsChange z c → IsFollowing z (c.unix_time -ℤ pos 1) c
after_instant_before z c is =
    record { is = is; above = omega (arith, ints); least = λ d above below there. omega (arith, ints, above, below) }

pub before_the_following : (z : Zone) (c d : Change) → IsChange z c → IsFollowing z c.unix_time d
    → IsPreceding z d.unix_time c
before_the_following z c d is next = record { is = is; below = next.above; greatest = next.least }

pub after_the_preceding : (z : Zone) (c d : Change) → IsChange z c → IsPreceding z c.unix_time d
    → IsFollowing z d.unix_time c
after_the_preceding z c d is last = record { is = is; above = last.below; least = last.greatest }
