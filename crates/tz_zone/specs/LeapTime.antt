-- Leap time: Unix time with the leap seconds counted in. (RFC 8536, sections 2 and 3.2: leap-second
-- records; RFC 9636, section 3.2: a truncated start; refusal as in tz-rs.)
use Rattle.std.specs.Prelude.{◌≡◌, ◌≢◌, ◌==◌, ℕ, zero, suc, ◌<◌, ◌⊎◌, ℤ, pos, negsuc, ◌+ℤ◌, ◌≤ℤ◌, ◌<ℤ◌, if◌then◌else◌, List, Option, Some, None, slice_get, unsigned_abs, FitsSigned}
use Rattle.std.specs.Int.{w64}
use Rattle.tz_zone.specs.Table.{LeapSecond}

-- an instant: Unix seconds of 64 bits
abbrev pub IsInstant : ℤ → Type 0
IsInstant u = FitsSigned w64 u

-- one second forth or back
abbrev pub IsOneSecond : ℤ → Type 0
IsOneSecond c = unsigned_abs c ≡ 1

-- a truncated start: a first record of another correction, with which the table begins
abbrev pub IsStart : List LeapSecond → LeapSecond → Type 0
IsStart leaps l = (slice_get leaps 0 ≡ Some l) × ¬ IsOneSecond l.correction

-- the correction of an index of the list
abbrev pub correction_at : Option LeapSecond → ℤ
correction_at (Some l) = l.correction
correction_at None = pos 0

-- the correction before the first index: 0, but the first one's own at a truncated start
abbrev pub correction_at_start : Option LeapSecond → ℤ
correction_at_start (Some l) = if unsigned_abs l.correction == 1 then pos 0 else l.correction
correction_at_start None = pos 0

-- the correction before an index
abbrev pub correction_before : List LeapSecond → ℕ → ℤ
correction_before leaps zero = correction_at_start (slice_get leaps 0)
correction_before leaps (suc i) = correction_at (slice_get leaps i)

-- leap second i is reached at u: u with the correction before it is not below its time
abbrev pub IsReached : List LeapSecond → ℕ → LeapSecond → ℤ → Type 0
IsReached leaps i l u = (slice_get leaps i ≡ Some l)
    × (l.unix_leap_time ≤ℤ (u +ℤ correction_before leaps i))

-- the correction at u is that of the last leap second reached, or that before the first
abbrev pub IsCorrection : List LeapSecond → ℤ → ℤ → Type 0
IsCorrection leaps u c =
    ((c ≡ correction_before leaps 0) × ((i : ℕ) (l : LeapSecond) → ¬ IsReached leaps i l u))
    ⊎ ((i : ℕ) × (l : LeapSecond) × IsReached leaps i l u × (c ≡ l.correction)
    × ((j : ℕ) (later : LeapSecond) → i < j → ¬ IsReached leaps j later u))

-- u lies before a truncated start
abbrev pub IsBeforeStart : List LeapSecond → ℤ → Type 0
IsBeforeStart leaps u = (l : LeapSecond) × IsStart leaps l
    × ((u +ℤ l.correction) <ℤ l.unix_leap_time)

-- with the correction of some leap second reached u lies outside 64 bits
abbrev pub IsPastInstants : List LeapSecond → ℤ → Type 0
IsPastInstants leaps u = (i : ℕ) × (l : LeapSecond) × IsReached leaps i l u
    × ¬ IsInstant (u +ℤ l.correction)

-- u has no leap time: the table begins later, or the leap time is not one of 64 bits
abbrev pub IsLeapTimeRefused : List LeapSecond → ℤ → Type 0
IsLeapTimeRefused leaps u = IsBeforeStart leaps u ⊎ IsPastInstants leaps u

-- the leap time of u
pub record IsLeapTime (leaps : List LeapSecond) (u v : ℤ) : Type 0 where
  pub not_refused : ¬ IsLeapTimeRefused leaps u
  pub value : (c : ℤ) × IsCorrection leaps u c × (v ≡ u +ℤ c)

-- leap time v is reached at u: that of u is not below it
abbrev pub IsTimeReached : List LeapSecond → ℤ → ℤ → Type 0
IsTimeReached leaps v u = (l : ℤ) × IsLeapTime leaps u l × (v ≤ℤ l)

-- the instant at which a leap time takes effect: the least one at which it is reached
pub record IsEffect (leaps : List LeapSecond) (v u : ℤ) : Type 0 where
  pub not_least : v ≢ negsuc 9223372036854775807
  pub instant : IsInstant u
  pub reached : IsTimeReached leaps v u
  pub least : (w : ℤ) → IsTimeReached leaps v w → u ≤ℤ w

-- no instant is the effect
abbrev pub IsEffectRefused : List LeapSecond → ℤ → Type 0
IsEffectRefused leaps v = (u : ℤ) → ¬ IsEffect leaps v u

-- the whole number m is the effect of v, if it is an instant with a leap time; otherwise there is
-- none
pub record IsWideEffect (leaps : List LeapSecond) (v m : ℤ) : Type 0 where
  pub least : (w : ℤ) → IsTimeReached leaps v w → m ≤ℤ w
  pub reached : ¬ IsLeapTimeRefused leaps m → IsTimeReached leaps v m
  pub begun : ¬ IsBeforeStart leaps m
  pub low : negsuc 9223372036854775807 ≤ℤ m

-- the last instant before leap time v: at none up to it v is reached or a leap time has left 64
-- bits, and after it comes the effect, or the end
pub record IsLastBefore (leaps : List LeapSecond) (v last : ℤ) : Type 0 where
  pub before : (u : ℤ) → u ≤ℤ last → ¬ IsTimeReached leaps v u
  pub within : (u : ℤ) → u ≤ℤ last → ¬ IsPastInstants leaps u
  pub next : last ≢ pos 9223372036854775807 → IsPastInstants leaps (last +ℤ pos 1)
      ⊎ IsWideEffect leaps v (last +ℤ pos 1)
