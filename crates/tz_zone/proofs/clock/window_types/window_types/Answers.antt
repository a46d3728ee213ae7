-- After the table the types are those of the rule, or of the first type where there are no transitions.
use Rattle.tz_zone.proofs.Common.{◌≡◌, arith, to_z-of_z, ℕ, rules, w64, refl, sym, ◌∙◌, length, ℤ, subst, ◌<◌, ◌≤ℤ◌, Some, zone_of_data, LocalTimeType, IsReachedAt, IsClock, eqb, MatchOption, nil_from_length, IsTypeAfterTable, IsPositionOf, Option, IsAfterLooks, IsAfterSearch}
use Rattle.tz_zone.proofs.AfterLooks.{looks_and_search, search_and_looks}
use Rattle.tz_zone.specs.declared.table.transition_view.TransitionView.{TransitionView}
use Rattle.tz_zone.proofs.Positions.{found_at, clock_after_table, position_through}
use Rattle.tz_zone.proofs.WindowTypes.{more_weaker, types_weaker}
use Rattle.tz_zone.proofs.clock.window_types.window_types.Goals.{
  then-count-gt0+in-Some+else-position-count+in-Some-leap_time,
  else-count-gt0,
}
use Rattle.tz_zone.proofs.clock.window_types.window_types.Goals as goal

-- the looks by which a position was found, if there is one
abbrev AreLooksUpTo : Option ℕ → TransitionView → TransitionView → Type 0
AreLooksUpTo position before after =
    MatchOption position (IsAfterLooks before after 1) (λ k. IsAfterSearch before after 3)

pub position_of-position-requires-clause-rising : goal.position_of-position-requires-clause-rising
position_of-position-requires-clause-rising c =
    rw (c.look-last.ensures.looks.same, c.requires.view) (λ i. (c.args.zone.sound.transitions_are i).1)

pub types_at_position-requires-clause-at : goal.types_at_position-requires-clause-at
types_at_position-requires-clause-at c = rw c.position_of-position.ensures.looks.same c.position_of-position.ensures.at

pub returns-then-position-count-clause-position : goal.returns-then-position-count-clause-position
returns-then-position-count-clause-position c =
    let z = zone_of_data c.args.zone in
    let low = c.args.low in
    let list_is = c.look-last.ensures.looks.same ∙ c.requires.view in
    let found = c.position_of-position.ensures in
    let at = found_at z low c.in-Some.low_leap_time c.position_of-position.result c.ranges.low (search rules) list_is
    c.in-Some.ensures found.at in
    more_weaker c.types_at_position.result _ (IsPositionOf z low)
    (λ position is. subst (IsPositionOf z low) (sym is.0) (rw list_is at found.within, λ some. at))
    c.types_at_position.ensures.more

pub returns-then-position-count-clause-more : goal.returns-then-position-count-clause-more
returns-then-position-count-clause-more c =
    let found = looks_and_search c.look-last.ensures.looks c.position_of-position.ensures.looks in
    more_weaker c.types_at_position.result _
    (λ position. AreLooksUpTo position c.args.view.now c.types_at_position.new.view)
    (λ position is. rw is.0 (search_and_looks found is.1)) c.types_at_position.ensures.more

pub returns-in_default-leap_time-clause-position : goal.returns-in_default-leap_time-clause-position
returns-in_default-leap_time-clause-position c =
    let list_is = c.look-last.ensures.looks.same ∙ c.requires.view in
    let found = c.position_of-position.ensures in (
      rw list_is at found.within,
      λ some. found_at (zone_of_data c.args.zone) c.args.low c.in-Some.low_leap_time c.position_of-position.result
          c.ranges.low (search rules) list_is c.in-Some.ensures found.at,
    )

pub returns-clause-types : goal.returns-clause-types
returns-clause-types c =
    let zone = c.args.zone in
    let z = zone_of_data zone in
    let low = c.args.low in
    let high = c.args.high in
    let low_is = to_z-of_z w64 low c.ranges.low in
    let high_is = to_z-of_z w64 high c.ranges.high in
    let all = length z.transitions in
    let count : c.len-count.result ≡ all = rw c.requires.view at c.len-count.ensures in
    let reached : (v : ℤ) → low ≤ℤ v → v ≤ℤ high → 0 < all → IsReachedAt z v all = elim c.if-count-gt0.branch [
      | then-count-gt0+in-Some+else-position-count+in-Some-leap_time w ↦ λ v from to some.
          let list_is = w.look-last.ensures.looks.same ∙ c.requires.view in
          let found = w.position_of-position.ensures in
          let at = found_at z low w.in-Some.low_leap_time w.position_of-position.result c.ranges.low (search rules)
          list_is w.in-Some.ensures found.at in
          let high_leap = rw high_is at w.in-Some-leap_time.ensures in
          let position_is : w.position_of-position.result ≡ length z.transitions =
          omega (arith, rw list_is at found.within, w.if-position-count.false, count) in
          position_through z zone.sound all low high _ (subst (λ (k : ℕ). IsReachedAt z low k) position_is at) high_leap
          refl
          v from to
      | else-count-gt0 w ↦ λ v from to some. absurd (omega (arith, some, w.if-count-gt0.false, count))
    ] in
    types_weaker (λ (v : ℤ) (t : LocalTimeType). IsTypeAfterTable (eqb c.len-count.result 0) z v t) (IsClock z) low high
    c.types_after_table.result
    (λ v t from to type. clock_after_table z zone.sound c.len-count.result count v t (reached v from to) type)
    (rw (low_is, high_is) at c.types_after_table.ensures.types)

pub returns-clause-position : goal.returns-clause-position
returns-clause-position c =
    let z = zone_of_data c.args.zone in
    let low = c.args.low in
    let count : c.len-count.result ≡ length z.transitions = rw c.requires.view at c.len-count.ensures in
    let at : IsPositionOf z low (Some c.len-count.result) = elim c.if-count-gt0.branch [
      | then-count-gt0+in-Some+else-position-count+in-Some-leap_time w ↦
          let list_is = w.look-last.ensures.looks.same ∙ c.requires.view in
          let found = w.position_of-position.ensures in
          let at = found_at z low w.in-Some.low_leap_time w.position_of-position.result c.ranges.low (search rules)
          list_is w.in-Some.ensures found.at in
          let position_is : w.position_of-position.result ≡ c.len-count.result =
          omega (arith, rw list_is at found.within, w.if-position-count.false, count) in
          (omega (arith, count), λ some. subst (λ (k : ℕ). IsReachedAt z low k) position_is at)
      | else-count-gt0 w ↦
          let none = nil_from_length z.transitions (omega (arith, w.if-count-gt0.false, count)) in
          (omega (arith, count), λ some. absurd (some none))
    ] in
    more_weaker c.types_after_table.result _ (IsPositionOf z low)
    (λ position is. subst (IsPositionOf z low) (sym is) at)
    c.types_after_table.ensures.more

pub returns-clause-more : goal.returns-clause-more
returns-clause-more c =
    let few : IsAfterSearch c.args.view.now c.if-count-gt0.view 3 = elim c.if-count-gt0.branch [
      | then-count-gt0+in-Some+else-position-count+in-Some-leap_time w ↦
          let found = looks_and_search w.look-last.ensures.looks w.position_of-position.ensures.looks in
          rw w.view-is (search rules)
      | else-count-gt0 w ↦ rw w.view-is (search rules)
    ] in
    more_weaker c.types_after_table.result _ (λ position. AreLooksUpTo position c.args.view.now c.if-count-gt0.view)
    (λ position is. rw is few) c.types_after_table.ensures.more
