-- Looks at a view that follow one another, and those of a binary search.
use Rattle.tz_zone.proofs.Common.{arith, rules, ℕ, length, ◌<◌, ◌≤◌, ◌+◌, ◌^◌, list_of, IsAfterLooks, IsAfterSearch}
use Rattle.tz_zone.specs.declared.table.transition_view.TransitionView.{TransitionView}

module _ {before middle after : TransitionView} {m n : ℕ} where
  pub looks_and_looks : IsAfterLooks before middle m → IsAfterLooks middle after n → IsAfterLooks before after (m + n)
  looks_and_looks first second = search rules

  pub looks_and_search : IsAfterLooks before middle m → IsAfterSearch middle after n
      → IsAfterSearch before after (m + n)
  looks_and_search first second = search rules

  pub search_and_looks : IsAfterSearch before middle m → IsAfterLooks middle after n
      → IsAfterSearch before after (m + n)
  search_and_looks first second = search rules

-- looks that are as few as others, or as those of a search
module _ {before after : TransitionView} {m n : ℕ} where
  pub looks_up_to : IsAfterLooks before after m → m ≤ n → IsAfterLooks before after n
  looks_up_to looks few = search rules

  pub search_by_looks : IsAfterLooks before after m → ((b : ℕ) → length (list_of before) < 2 ^ b → m ≤ b + n)
      → IsAfterSearch before after n
  search_by_looks looks few = record {
    same = looks.same;
    kept = looks.kept;
    at_most = λ b bits. omega (arith, looks.at_most, few b bits);
  }
