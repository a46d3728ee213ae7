-- Each total has seconds, rounded down, and nanoseconds over; so have those a duration later and earlier.
use Rattle.tz.proofs.Common.{arith, ◌≡◌, subst, ints, ℕ, ◌<◌, ◌+◌, pos, ℤ, ◌-ℤ◌, ◌+ℤ◌, ◌-◌, ◌%◌, ◌/◌, Option, negsuc, IsReading, IfSome, total_nanoseconds_of, IsSome, IsTimespec, IsUtcTotal, ◌*ℤ◌, ◌↔◌}

pub timespec_exists : (total : ℤ) → (seconds : ℤ) × (nanoseconds : ℕ) × IsTimespec total seconds nanoseconds
timespec_exists (pos n) = (
  pos (n / 1000000000),
  n % 1000000000,
  record { whole = omega (arith, ints); part = omega arith },
)
timespec_exists (negsuc n) = (
  negsuc (n / 1000000000),
  999999999 - n % 1000000000,
  record { whole = omega (arith, ints); part = omega arith },
)

-- the total a is that of seconds and nanoseconds, to which n nanoseconds are added
module _ (o : Option (ℤ × ℕ)) (a seconds : ℤ) (nanoseconds n added rest : ℕ) where
  after_is : added ≡ n / 1000000000 → rest ≡ n % 1000000000
      → a ≡ pos 1000000000 *ℤ (seconds +ℤ pos added) +ℤ pos (nanoseconds + rest)
      → a ≡ total_nanoseconds_of seconds nanoseconds +ℤ pos n
  after_is whole over is = omega (arith, ints)

  pub timespec_later : IfSome o (λ t. IsReading t.0 × IsTimespec a t.0 t.1) → added ≡ n / 1000000000
      → rest ≡ n % 1000000000
      → a ≡ pos 1000000000 *ℤ (seconds +ℤ pos added) +ℤ pos (nanoseconds + rest)
      → IfSome o (λ t. IsReading t.0 × IsTimespec (total_nanoseconds_of seconds nanoseconds +ℤ pos n) t.0 t.1)
  timespec_later h whole over is = subst (λ (x : ℤ). IfSome o (λ t. IsReading t.0 × IsTimespec x t.0 t.1))
      (after_is whole over is) h

  pub range_later : IsSome o ↔ IsUtcTotal a → added ≡ n / 1000000000 → rest ≡ n % 1000000000
      → a ≡ pos 1000000000 *ℤ (seconds +ℤ pos added) +ℤ pos (nanoseconds + rest)
      → IsSome o ↔ IsUtcTotal (total_nanoseconds_of seconds nanoseconds +ℤ pos n)
  range_later h whole over is = subst (λ (x : ℤ). IsSome o ↔ IsUtcTotal x) (after_is whole over is) h

-- n nanoseconds are taken off, and a second is borrowed
module _ (o : Option (ℤ × ℕ)) (a seconds : ℤ) (nanoseconds n taken rest : ℕ) where
  before_is : taken ≡ n / 1000000000 → rest ≡ n % 1000000000
      → a ≡ pos 1000000000 *ℤ (seconds -ℤ pos taken -ℤ pos 1) +ℤ pos (nanoseconds + 1000000000 - rest)
      → a ≡ total_nanoseconds_of seconds nanoseconds -ℤ pos n
  before_is whole over is = omega (arith, ints)

  pub timespec_earlier : IfSome o (λ t. IsReading t.0 × IsTimespec a t.0 t.1) → taken ≡ n / 1000000000
      → rest ≡ n % 1000000000
      → a ≡ pos 1000000000 *ℤ (seconds -ℤ pos taken -ℤ pos 1) +ℤ pos (nanoseconds + 1000000000 - rest)
      → IfSome o (λ t. IsReading t.0 × IsTimespec (total_nanoseconds_of seconds nanoseconds -ℤ pos n) t.0 t.1)
  timespec_earlier h whole over is = subst (λ (x : ℤ). IfSome o (λ t. IsReading t.0 × IsTimespec x t.0 t.1))
      (before_is whole over is) h

  pub range_earlier : IsSome o ↔ IsUtcTotal a → taken ≡ n / 1000000000 → rest ≡ n % 1000000000
      → a ≡ pos 1000000000 *ℤ (seconds -ℤ pos taken -ℤ pos 1) +ℤ pos (nanoseconds + 1000000000 - rest)
      → IsSome o ↔ IsUtcTotal (total_nanoseconds_of seconds nanoseconds -ℤ pos n)
  range_earlier h whole over is = subst (λ (x : ℤ). IsSome o ↔ IsUtcTotal x) (before_is whole over is) h

pub below_a_second : (n rest : ℕ) → rest ≡ n % 1000000000 → rest < 1000000000
below_a_second n rest over = omega arith
