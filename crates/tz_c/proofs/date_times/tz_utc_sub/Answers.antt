-- The duration has these seconds and nanoseconds, so the total is moved by them.
use Rattle.tz_c.proofs.Common.{refl, inl, inr, rules, subst, ◌≡◌, arith, pos, ◌<◌, ℕ, ◌≤◌, false≢true, ◌+◌, ◌-ℤ◌, IsUtcTotal, as_nanos, utc_total, ◌*◌}
use Rattle.tz_base.specs.declared.error.TzError.TheVariants as faults
use Rattle.tz_base.specs.declared.error.DateTimeError.TheVariants as field_faults
use Rattle.tz_c.proofs.date_times.tz_utc_sub.Goals as goal

pub returns-then-nanoseconds-ge-NANOSECONDS_PER_SECOND-clause-answer :
    goal.returns-then-nanoseconds-ge-NANOSECONDS_PER_SECOND-clause-answer
returns-then-nanoseconds-ge-NANOSECONDS_PER_SECOND-clause-answer c =
    let many : 1000000000 ≤ c.args.nanoseconds = search rules in
    inr (faults.DateTime field_faults.InvalidNanoseconds, refl, inl (refl, many))

pub returns-in-None-clause-answer : goal.returns-in-None-clause-answer
returns-in-None-clause-answer c =
    let from = utc_total c.args.utc.now in
    let few : c.args.nanoseconds < 1000000000 = search rules in
    let same : as_nanos c.new.result ≡ 1000000000 * c.args.seconds + c.args.nanoseconds =
    omega (arith, c.new.ensures) in
    let none : ¬ IsUtcTotal (from -ℤ pos (as_nanos c.new.result)) =
    λ total. false≢true (c.in-None.ensures.in_range.1 total) in
    inr (faults.OutOfRange, refl, inr (refl, few, subst (λ (n : ℕ). ¬ IsUtcTotal (from -ℤ pos n)) same none))
