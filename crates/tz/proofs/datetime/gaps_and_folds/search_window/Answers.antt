-- The search goes on from the types of the window, with the looks that they took.
use Rattle.tz.proofs.Common.{arith, refl, ◌≡◌, ◌∙◌, inr, inl, to_z-of_z, ℕ, ◌<◌, length, ◌+◌, w64, Some, ◌≤◌, suc, zero, ◌*◌, ◌^◌, None, Option, cases_lt, on_ok_weaker, nil_from_length, MatchOption, first_looks, looks_after, list_of, looks_of}
use Rattle.tz_zone.specs.Looks.{IsAfterLooks, IsAfterSearch}
use Rattle.tz_zone.specs.declared.table.transition_view.TransitionView.{TransitionView}
use Rattle.tz_zone.specs.WindowTypes.{IfMore}
use Rattle.tz_zone.specs.declared.clock.window_types.WindowTypes.{WindowTypes}
use Rattle.tz_zone.specs.declared.clock.window_types.WindowTypes.TheVariants.{One, Two, More}
use Rattle.tz.proofs.WalkLooks.{on_ok_both}
use Rattle.tz.proofs.datetime.gaps_and_folds.search_window.Goals as goal

pub give_in_window-requires : goal.give_in_window-requires
give_in_window-requires g c =
    let low_is = to_z-of_z w64 c.args.low c.ranges.low in
    let high_is = to_z-of_z w64 c.args.high c.ranges.high in
    let types = c.window_types-types.ensures in
    rw (types.looks.same, to_z-of_z w64 c.args.reading c.ranges.reading, low_is, high_is)
    (λ k. (
      (refl, tt),
      (
        c.requires.view,
        (
          c.requires.searchable,
          (c.requires.takes, (rw (low_is, high_is) at types.types, rw low_is at types.position)),
        ),
      ),
    ))

-- a zone with a transition has a bit or more of them
some_bits : (n b : ℕ) → 0 < n → n < 2 ^ b → 1 ≤ b
some_bits n zero some bits = absurd (omega (arith, some, bits))
some_bits n (suc b) some bits = omega arith

module _ (old before : TransitionView) (looks b w : ℕ) (bits : length (list_of old) < 2 ^ b)
    (none : length (list_of old) ≡ 0 → (looks ≡ looks_of before) × (looks_of before ≡ looks_of old)) where
  few_by_position : (position : Option ℕ)
      → MatchOption position (IsAfterLooks old before 1) (λ k. IsAfterSearch old before 3)
      → looks ≤ looks_of before + (first_looks position b + w) → looks ≤ looks_of old + (2 * b + w + 4)
  few_by_position None more few = omega (arith, more.at_most, few)
  few_by_position (Some k) more few = elim (cases_lt 0 (length (list_of old))) [
    | inl some ↦ omega (arith, some_bits (length (list_of old)) b some bits, more.at_most b bits, few)
    | inr empty ↦ let same = none (omega (arith, empty)) in omega (arith, same.0, same.1)
  ]

  few_in_all : (types : WindowTypes) → IsAfterSearch old before 4
      → IfMore types (λ position.
      MatchOption position (IsAfterLooks old before 1) (λ k. IsAfterSearch old before 3))
      → looks ≤ looks_of before + looks_after types b w → looks ≤ looks_of old + (2 * b + w + 4)
  few_in_all (One t) most more few = omega (arith, most.at_most b bits, few)
  few_in_all (Two jump s t) most more few = omega (arith, most.at_most b bits, few)
  few_in_all (More position) most more few = few_by_position position more few

pub returns : goal.returns
returns g c =
    let list = list_of c.args.view.now in
    let types = c.window_types-types.ensures in
    let reading_is = to_z-of_z w64 c.args.reading c.ranges.reading in
    let low_is = to_z-of_z w64 c.args.low c.ranges.low in
    let high_is = to_z-of_z w64 c.args.high c.ranges.high in
    let given = rw (types.looks.same, reading_is, low_is, high_is) at c.give_in_window.ensures in
    record {
      ok = given.ok;
      err = given.err;
      at_most = on_ok_both c.give_in_window.result (λ few none b w bits most. few_in_all c.args.view.now
          c.window_types-types.new.view _ b w bits (λ e. (none e, types.none (nil_from_length list e)))
          c.window_types-types.result types.looks types.more (few b w bits most))
          given.at_most given.none;
      at_least_one = on_ok_weaker c.give_in_window.result
          (λ found some. omega (arith, types.at_least_one some, given.kept)) given.ok;
      none = on_ok_weaker c.give_in_window.result (λ none empty. none empty ∙ types.none (nil_from_length list empty))
          given.none;
    }
