-- A view of transitions, and its count of looks: one more for each look. A count of 64 bits stays
-- at its greatest.
use Rattle.std.specs.Prelude.{◌≡◌, ℕ, ◌+◌, ◌^◌, ◌<◌, ◌≤◌, List, length, take, drop, Bool, nat_lt, if◌then◌else◌}
use Rattle.tz_zone.specs.Table.{Transition}
use Rattle.tz_zone.specs.declared.table.transition_view.TransitionView.{TransitionView}

-- the transitions, in order
abbrev pub list_of : TransitionView → List Transition
list_of view = view.transitions.now

-- the number of looks so far
abbrev pub looks_of : TransitionView → ℕ
looks_of view = view.looks

-- whether a position may be guessed, by reads that are not counted
abbrev pub may_guess_of : TransitionView → Bool
may_guess_of view = view.may_guess

-- the count after one more look, in 64 bits
abbrev pub one_look_more : ℕ → ℕ
one_look_more n = (if nat_lt n 18446744073709551615 then n + 1 else n)

-- a view after at most so many looks: its list is the same, and its count up to so much greater
pub record IsAfterLooks (before after : TransitionView) (most : ℕ) : Type 0 where
  pub same : list_of after ≡ list_of before
  pub kept : looks_of before ≤ looks_of after
  pub at_most : looks_of after ≤ looks_of before + most

-- a view after a binary search and so many looks more, at most: the search takes b looks at most
-- among fewer than 2^b transitions
pub record IsAfterSearch (before after : TransitionView) (more : ℕ) : Type 0 where
  pub same : list_of after ≡ list_of before
  pub kept : looks_of before ≤ looks_of after
  pub at_most : (b : ℕ) → length (list_of before) < 2 ^ b
      → looks_of after ≤ looks_of before + (b + more)

-- so many transitions in a row, from an index on
abbrev pub IsChunkAt : List Transition → ℕ → ℕ → List Transition → Type 0
IsChunkAt transitions index n chunk =
    (index + n ≤ length transitions) × (chunk ≡ take n (drop index transitions))
