-- From a stage of a walk on: the type of the clock until the next transition is reached, and the stages that follow.
use Rattle.tz_zone.proofs.Common.{◌≡◌, arith, ℕ, ints, sym, inr, inl, subst, length, ℤ, ◌<◌, ◌≤ℤ◌, Some, ◌<ℤ◌, pos, LocalTimeType, Zone, [], ◌+ℤ◌, ◌+◌, Option, by_lt_z, slice_get, slice_get_within, ◌≢◌, None, IsReachedAt, suc, IsClock, zero, Transition, IsLeapTimeRefused, eqb, AreReached, MatchOption, IsLeapTime, IsTimeReached, IsSoundTable, IsTypeAt, nil_from_length, Bor, HasNoType, IsTypeAfterTable, eqb-suc-zero, IsLastBefore}
use Rattle.tz_zone.specs.ClockSpans.{IsStage}
use Rattle.tz_zone.specs.declared.clock.window_types.Stage.{Stage}
use Rattle.tz_zone.proofs.LeapTimes.{leap_time_mono, one_leap_time, past_later}
use Rattle.tz_zone.proofs.RisingTimes.{rising, ahead_from, none_ahead, reached_later, reached_through}
use Rattle.tz_zone.proofs.Positions.{reached_at, clock_at_position}
use Rattle.tz_zone.proofs.PositionRuns.{some_transitions, type_after, types_from_last}
use Rattle.tz_zone.proofs.InstantsWithLeapTime.{defined_within, clock_without, leap_unless_refused, reached_from}

-- the type after the table, or none, is that of the clock where all transitions are reached, and of one that has none
pub types_after_table : (z : Zone) → IsSoundTable z → (count : ℕ) → count ≡ length z.transitions → (v : ℤ)
    → (0 < length z.transitions → IsReachedAt z v (length z.transitions)) → (type : Option (Bor LocalTimeType))
    → MatchOption type ((t : LocalTimeType) → ¬ IsTypeAfterTable (eqb count 0) z v t)
    (λ t. IsTypeAfterTable (eqb count 0) z v t.now)
    → MatchOption type (HasNoType z v) (λ t. IsClock z v t.now)
types_after_table z sound zero is v reached (Some t) holds = inl (nil_from_length z.transitions (sym is), holds)
types_after_table z sound zero is v reached None holds =
    λ t clock. holds t ((clock_without z (nil_from_length z.transitions (sym is)) v t).1 clock)
types_after_table z sound (suc before) is v reached type holds =
    let some : 0 < length z.transitions = omega (arith, is) in
    types_from_last z sound some v (reached some) type (rw (eqb-suc-zero before) at holds)

module _ (z : Zone) (sound : IsSoundTable z) (first since : ℤ) (s : Stage) (stage : IsStage z first since s) where
  -- later instants have a leap time, up to the reach of all tables, and the transitions before the position are reached
  -- there
  leap_later : z.transitions ≢ [] → (v : ℤ) → since ≤ℤ v → v ≤ℤ pos 80000000000000000
      → (l : ℤ) × IsLeapTime z.leap_seconds v l × AreReached z.transitions l s.position
  leap_later some v from to =
      let here = stage.reached some in
      let leap = leap_unless_refused z.leap_seconds sound.leap_seconds_are v
      (defined_within z.leap_seconds sound.leap_seconds_are since v here.1.not_refused from to) in (
        leap.0,
        leap.1,
        reached_later z.transitions s.position here.0 leap.0 here.2
            (leap_time_mono z.leap_seconds sound.leap_seconds_are since v here.0 leap.0 from here.1 leap.1),
      )

  pub stage_later : (v : ℤ) → since ≤ℤ v → v ≤ℤ pos 80000000000000000 → IsStage z first v s
  stage_later v from to = record {
    within = stage.within;
    type_is = stage.type_is;
    instant = stage.instant;
    ahead = stage.ahead;
    reached = λ some. leap_later some v from to;
  }

  -- where no transition is left all are reached
  pub all_reached_later : s.position ≡ length z.transitions → 0 < length z.transitions → (v : ℤ) → since ≤ℤ v
      → v ≤ℤ pos 80000000000000000 → IsReachedAt z v (length z.transitions)
  all_reached_later all some v from to =
      let (l, leap, reached) = leap_later (some_transitions z.transitions 0 some) v from to in
      subst (IsReachedAt z v) all
      (reached_at z v l s.position leap (reached, none_ahead z.transitions s.position l (omega (arith, all))))

  module _ (next : Transition) (at_next : slice_get z.transitions s.position ≡ Some next) where
    inside : s.position < length z.transitions
    inside = slice_get_within z.transitions s.position next at_next

    some : z.transitions ≢ []
    some = some_transitions z.transitions s.position inside

    -- the next transition was not reached at the first instant
    pub defined_at_first : ¬ IsLeapTimeRefused z.leap_seconds first
    defined_at_first = (stage.ahead some).1.not_refused

    pub ahead_at_first : ¬ IsTimeReached z.leap_seconds next.unix_leap_time first
    ahead_at_first reached =
        let (l, leap, ahead) = stage.ahead some in
        let same = one_leap_time z.leap_seconds first l reached.0 leap reached.1 in
        absurd (omega (arith, ints, ahead s.position next (omega arith) at_next, reached.2, same))

    -- until it is reached the clock keeps its type
    pub clock_before_next : (v : ℤ) → since ≤ℤ v → v ≤ℤ pos 80000000000000000
        → ¬ IsTimeReached z.leap_seconds next.unix_leap_time v → IsClock z v s.local_time_type.now
    clock_before_next v from to before =
        let (l, leap, reached) = leap_later some v from to in
        let early = by_lt_z l next.unix_leap_time (λ h. h) (λ h. absurd (before (l, leap, h))) in
        let ahead = ahead_from z.transitions (rising z sound) l s.position next at_next early in
        clock_at_position z sound s.position v s.local_time_type.now inside
        (reached_at z v l s.position leap (reached, ahead)) stage.type_is

    -- after the last instant before it is reached the walk is one position further
    pub stage_after_next : (last : ℤ) → IsLastBefore z.leap_seconds next.unix_leap_time last
        → (type : Bor LocalTimeType) → IsTypeAt z next.type_index type.now
        → (v : ℤ) → since ≤ℤ v → v ≤ℤ pos 80000000000000000 → last <ℤ v
        → IsStage z first v (record { position = s.position + 1; local_time_type = type })
    stage_after_next last before type is_type v from to after =
        let (l, leap, reached) = leap_later some v from to in
        let there : IsTimeReached z.leap_seconds next.unix_leap_time v =
        elim (before.next (λ e. absurd (omega (arith, ints, e, after, to)))) [
          | inl past ↦ absurd (leap.not_refused
              (inr (past_later z.leap_seconds sound.leap_seconds_are (last +ℤ pos 1) v (omega (arith, ints, after))
              past)))
          | inr wide ↦ reached_from z.leap_seconds sound.leap_seconds_are next.unix_leap_time
              (last +ℤ pos 1) v wide leap.not_refused (omega (arith, ints, after))
        ] in
        record {
          within = omega (arith, inside);
          type_is = type_after z s.position next type.now at_next is_type;
          instant = stage.instant;
          ahead = λ some. let (m, leap_m, ahead) = stage.ahead some in
              (m, leap_m, λ i change above at_i. ahead i change (omega (arith, above)) at_i);
          reached = λ some. (
            there.0,
            there.1,
            reached_through z.transitions (rising z sound) there.0 s.position next at_next there.2,
          );
        }
