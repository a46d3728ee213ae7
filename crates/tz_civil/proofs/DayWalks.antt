-- From one span of a clock with one type, or with none, to the next: the start of a day, or that it is still ahead.
use Rattle.std.proofs.Common.{◌≡◌, refl, sym, ap, subst, arith, Bool, true, false, ℤ, pos, negsuc, ◌+ℤ◌, ◌-ℤ◌, ◌≤ℤ◌, ◌<ℤ◌, ◌⊎◌, inl, inr, Option}
use Rattle.std.proofs.lemmas.Bool.{false≢true}
use Rattle.std.proofs.lemmas.Int.{ints}
use mir.Syntax.{w64}
use mir.Val.{SFits}
use Rattle.tz_rule.specs.LocalTimeType.{LocalTimeType}
use Rattle.tz_zone.specs.Table.{Zone}
use Rattle.tz_zone.specs.Clock.{IsClock, HasNoType}
use Rattle.tz_zone.specs.Changes.{Segment, IsTrueSegment, HasTypeOrNone}
use Rattle.tz_zone.specs.Offsets.{AreEndOffsets, IsLeastOffset, IsGreatestOffset}
use Rattle.tz_zone.proofs.Clocks.{one_type}
use Rattle.tz.proofs.ReadingWindows.{clock_between}
use Rattle.tz_civil.specs.DayStarts.{midnight, ShowsDay, StartsWith, HasNotShown, HasSomeType, IsDayWindow, IsSkippedDay}

compare : (a b : ℤ) → (a ≤ℤ b) ⊎ (b <ℤ a)
compare a b = by_gap (b -ℤ a) refl
  where
    by_gap : (d : ℤ) → b -ℤ a ≡ d → (a ≤ℤ b) ⊎ (b <ℤ a)
    by_gap (pos n) e = inl (omega (arith, ints, e))
    by_gap (negsuc n) e = inr (omega (arith, ints, e))

-- the numbers of 64 bits
pub fits_from_bounds : (z : ℤ) → negsuc 9223372036854775807 ≤ℤ z → z ≤ℤ pos 9223372036854775807 → SFits w64 z
fits_from_bounds (pos n) low high = record { sfits = omega (arith, ints) }
fits_from_bounds (negsuc n) low high = record { sfits = omega (arith, ints) }

-- the window by the offsets of a zone
pub window_of_day : (z : Zone) (day least greatest low high : ℤ) → AreEndOffsets z least greatest
    → low ≡ midnight day -ℤ greatest → high ≡ midnight day +ℤ pos 86399 -ℤ least → IsDayWindow z day low high
window_of_day z day least greatest low high ends low_is high_is =
    let first : greatest ≡ midnight day -ℤ low = omega (arith, ints, low_is) in
    let last : least ≡ midnight day +ℤ pos 86399 -ℤ high = omega (arith, ints, high_is) in
    record {
      first = subst (IsGreatestOffset z.types z.extra_rule) first ends.1;
      last = subst (IsLeastOffset z.types z.extra_rule) last ends.0;
    }

module _ (z : Zone) (day low high : ℤ) (window : IsDayWindow z day low high) where
  between : (u : ℤ) (t : LocalTimeType) → IsClock z u t → ((midnight day +ℤ pos 86399 -ℤ high) ≤ℤ t.ut_offset)
      × (t.ut_offset ≤ℤ (midnight day -ℤ low))
  between = clock_between z (midnight day +ℤ pos 86399 -ℤ high) (midnight day -ℤ low) window.last window.first

  -- the clock shows the day within the window alone
  pub shown_within : (u : ℤ) → ShowsDay z day u → (low ≤ℤ u) × (u ≤ℤ high)
  shown_within u (t, clock, of_day) = (
    omega (arith, ints, between u t clock, of_day),
    omega (arith, ints, between u t clock, of_day),
  )

  -- before the window each reading is before the day
  pub not_shown_before : HasNotShown z day low
  not_shown_before v before (t, clock, of_day) = omega (arith, ints, between v t clock, of_day, before)

  -- after it each reading is past the day
  pub never_shown : (u : ℤ) → HasNotShown z day u → high <ℤ u → (v : ℤ) → ¬ ShowsDay z day v
  never_shown u ahead past v (t, clock, of_day) = elim (compare u v) [
    | inl from ↦ omega (arith, ints, between v t clock, of_day, from, past)
    | inr before ↦ ahead v before (t, clock, of_day)
  ]

-- past a span without a type
pub not_shown_past_none : (z : Zone) (day at last : ℤ) → HasNotShown z day at
    → ((v : ℤ) → at ≤ℤ v → v ≤ℤ last → HasNoType z v) → HasNotShown z day (last +ℤ pos 1)
not_shown_past_none z day at last ahead none v before (t, clock, of_day) = elim (compare at v) [
  | inl from ↦ none v from (omega (arith, ints, before)) t clock
  | inr early ↦ ahead v early (t, clock, of_day)
]

-- past a span whose type shows no instant of the day
pub not_shown_past_some : (z : Zone) (day at last : ℤ) (t : LocalTimeType) → HasNotShown z day at
    → ((v : ℤ) → at ≤ℤ v → v ≤ℤ last → IsClock z v t)
    → ((v : ℤ) → at ≤ℤ v → v ≤ℤ last → midnight day ≤ℤ (v +ℤ t.ut_offset)
    → (midnight day +ℤ pos 86400) ≤ℤ (v +ℤ t.ut_offset))
    → HasNotShown z day (last +ℤ pos 1)
not_shown_past_some z day at last t ahead type none v before (t', clock, of_day) = elim (compare at v) [
  | inl from ↦
      let to : v ≤ℤ last = omega (arith, ints, before) in
      let same = ap (λ (x : LocalTimeType). x.ut_offset) (one_type z v t t' (type v from to) clock) in
      omega (arith, ints, none v from to (omega (arith, ints, of_day, same)), of_day, same)
  | inr early ↦ ahead v early (t', clock, of_day)
]

-- the first instant of a span that is of the day
pub starts : (z : Zone) (day at last u : ℤ) (t : LocalTimeType) → HasNotShown z day at
    → ((v : ℤ) → at ≤ℤ v → v ≤ℤ last → IsClock z v t) → at ≤ℤ u → u ≤ℤ last → midnight day ≤ℤ (u +ℤ t.ut_offset)
    → (u +ℤ t.ut_offset) <ℤ (midnight day +ℤ pos 86400)
    → ((v : ℤ) → at ≤ℤ v → v <ℤ u → (v +ℤ t.ut_offset) <ℤ midnight day) → StartsWith z day u t
starts z day at last u t ahead type low high from_midnight to_midnight first = (
  record {
    shown = (t, type u low high, (from_midnight, omega (arith, ints, to_midnight)));
    least = least;
  },
  type u low high,
)
  where
    least : (v : ℤ) → ShowsDay z day v → u ≤ℤ v
    least v (t', clock, of_day') = elim (compare u v) [
      | inl up ↦ up
      | inr below ↦ elim (compare at v) [
        | inl from ↦
            let same = ap (λ (x : LocalTimeType). x.ut_offset)
            (one_type z v t t' (type v from (omega (arith, ints, below, high))) clock) in
            omega (arith, ints, first v from below, of_day', same)
        | inr early ↦ absurd (ahead v early (t', clock, of_day'))
      ]
    ]

-- the clock has the type of a segment from an instant up to one that is in it
pub through : (z : Zone) (s : Segment) (type : Option LocalTimeType) (at last : ℤ) → IsTrueSegment z s → s.from ≤ℤ at
    → last ≤ℤ s.last → s.local_time_type ≡ type → (v : ℤ) → at ≤ℤ v → v ≤ℤ last → HasTypeOrNone z v type
through z s type at last true_segment from to same v low high =
    subst (λ (o : Option LocalTimeType). HasTypeOrNone z v o) same
    (true_segment.holds v (omega (arith, ints, from, low)) (omega (arith, ints, high, to)))

-- the window has an instant
pub window_order : (z : Zone) (day low high : ℤ) → IsDayWindow z day low high → low ≤ℤ high
window_order z day low high window =
    omega (arith, ints, window.last.1 (midnight day -ℤ low) window.first.0)

-- with one type in the whole window the day begins at midnight
pub starts_at_midnight : (z : Zone) (day low high u : ℤ) (t : LocalTimeType) → IsDayWindow z day low high
    → ((v : ℤ) → low ≤ℤ v → v ≤ℤ high → IsClock z v t) → u ≡ midnight day -ℤ t.ut_offset → StartsWith z day u t
starts_at_midnight z day low high u t window type is =
    let order = window_order z day low high window in
    let bounds =
    clock_between z (midnight day +ℤ pos 86399 -ℤ high) (midnight day -ℤ low) window.last window.first low t
    (type low (omega (arith, ints)) order) in
    starts z day low high u t (not_shown_before z day low high window) type (omega (arith, ints, bounds, is))
    (omega (arith, ints, bounds, is)) (omega (arith, ints, is)) (omega (arith, ints, is))
    (λ v from below. omega (arith, ints, is, below))

-- a day that is not shown in its window is skipped, if the clock has a type there
pub skips : (z : Zone) (day low high u : ℤ) → IsDayWindow z day low high → HasNotShown z day u → high <ℤ u
    → HasSomeType z low high → IsSkippedDay z day
skips z day low high u window ahead past goes_on = record {
  never = never_shown z day low high window u ahead past;
  low = low;
  high = high;
  window = window;
  goes_on = goes_on;
}

-- how far a walk has come: the clock has not shown the day yet, and whether it has had a type
pub record IsWalked (z : Zone) (day low high at : ℤ) (has_type : Bool) : Type 0 where
  pub from : low ≤ℤ at
  pub to : at ≤ℤ (high +ℤ pos 1)
  pub ahead : HasNotShown z day at
  pub some : has_type ≡ true → HasSomeType z low high
  pub none : has_type ≡ false → (v : ℤ) → low ≤ℤ v → v <ℤ at → HasNoType z v

pub walk_begins : (z : Zone) (day low high : ℤ) → IsDayWindow z day low high → IsWalked z day low high low false
walk_begins z day low high window = record {
  from = omega (arith, ints);
  to = omega (arith, ints, window_order z day low high window);
  ahead = not_shown_before z day low high window;
  some = λ e. absurd (false≢true e);
  none = λ e v from to. absurd (omega (arith, ints, from, to));
}

-- past a span without a type, and past one with a type
pub walked_none : (z : Zone) (day low high at last : ℤ) (has_type : Bool) → IsWalked z day low high at has_type
    → at ≤ℤ last → last ≤ℤ high → ((v : ℤ) → at ≤ℤ v → v ≤ℤ last → HasNoType z v)
    → IsWalked z day low high (last +ℤ pos 1) has_type
walked_none z day low high at last has_type walked up to none = record {
  from = omega (arith, ints, walked.from, up);
  to = omega (arith, ints, to);
  ahead = not_shown_past_none z day at last walked.ahead none;
  some = walked.some;
  none = λ e v from below. elim (compare at v) [
    | inl later ↦ none v later (omega (arith, ints, below))
    | inr early ↦ walked.none e v from early
  ];
}

pub walked_some : (z : Zone) (day low high at last : ℤ) (has_type : Bool) (t : LocalTimeType)
    → IsWalked z day low high at has_type → at ≤ℤ last → last ≤ℤ high
    → ((v : ℤ) → at ≤ℤ v → v ≤ℤ last → IsClock z v t)
    → ((v : ℤ) → at ≤ℤ v → v ≤ℤ last → midnight day ≤ℤ (v +ℤ t.ut_offset)
    → (midnight day +ℤ pos 86400) ≤ℤ (v +ℤ t.ut_offset))
    → IsWalked z day low high (last +ℤ pos 1) true
walked_some z day low high at last has_type t walked up to type none = record {
  from = omega (arith, ints, walked.from, up);
  to = omega (arith, ints, to);
  ahead = not_shown_past_some z day at last t walked.ahead type none;
  some = λ e. (at, walked.from, omega (arith, ints, up, to), t, type at (omega (arith, ints)) up);
  none = λ e. absurd (false≢true (sym e));
}
