-- The positions that are left are as many as a power of two, and a look is taken for each halving.
use Rattle.tz_zone.proofs.Common.{◌≡◌, ℕ, ◌≤◌, ◌+◌, ◌^◌, IsAmongPositions, list_of, IsAfterLooks}
use Rattle.tz_zone.proofs.clock.binary_search.halved.Given as goal

abbrev pub invariant-loop-left : goal.invariant-loop-left
invariant-loop-left l =
    let list = list_of in
    record {
      same : list l.view ≡ list l.initial.view;
      among : IsAmongPositions (list l.view) l.unix_leap_time l.position l.left;
      steps : (e f : ℕ) → l.count ≡ 2 ^ e → l.least ≡ 2 ^ f → f ≤ e → (k n : ℕ) × (l.left ≡ 2 ^ k) × (f ≤ k)
          × (k + n ≡ e) × IsAfterLooks l.initial.view l.view n;
    }

abbrev pub decreases-loop-left : goal.decreases-loop-left
decreases-loop-left l = l.left
