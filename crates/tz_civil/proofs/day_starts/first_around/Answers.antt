-- The day begins in the span before the change, or in the one after it, or in neither.
use Rattle.std.proofs.Common.{◌≡◌, ℤ, pos, ◌+ℤ◌, ◌-ℤ◌, arith, rules, subst}
use Rattle.std.proofs.lemmas.Int.{ints, to_z-of_z}
use mir.Syntax.{w64}
use Rattle.tz_civil.specs.DayStarts.{HasNotShown}
use Rattle.tz_civil.proofs.DayWalks.{not_shown_past_some, starts}
use Rattle.tz_civil.proofs.day_starts.first_around.Goals as goal

pub returns-in-Some : goal.returns-in-Some
returns-in-Some c = λ z day is ahead before after.
    let first = c.in-Some.unix_time in
    let some = c.in-Some.ensures.some in
    let offset = c.ut_offset-offset.ensures.value in
    rw (to_z-of_z w64 first (search rules))
    (starts z day c.args.low (c.args.unix_time -ℤ pos 1) first c.args.before.now ahead
    (λ v low high. before v low (omega (arith, ints, high))) (omega (arith, ints, some.0)) (omega (arith, ints, some.1))
    (omega (arith, ints, some.2, offset, is)) (omega (arith, ints, some.3, offset, is))
    (λ v low below. omega (arith, ints, some.4 v (omega (arith, ints, low)) below, offset, is)))

pub returns-in-Some-first_shown : goal.returns-in-Some-first_shown
returns-in-Some-first_shown c = λ z day is ahead before after.
    let none = c.in_default.ensures.none in
    let offset = c.ut_offset-offset.ensures.value in
    let same : (c.args.unix_time -ℤ pos 1) +ℤ pos 1 ≡ c.args.unix_time = omega (arith, ints) in
    let passed : HasNotShown z day c.args.unix_time =
    subst (λ (u : ℤ). HasNotShown z day u) same
    (not_shown_past_some z day c.args.low (c.args.unix_time -ℤ pos 1) c.args.before.now ahead
    (λ v low high. before v low (omega (arith, ints, high)))
    (λ v low high begun.
    omega (
      arith,
      ints,
      none v (omega (arith, ints, low)) (omega (arith, ints, high)) (omega (arith, ints, begun, offset, is)),
      offset,
      is,
    ))) in
    let first = c.in-Some-first_shown.unix_time in
    let some = c.in-Some-first_shown.ensures.some in
    let offset_after = c.ut_offset-offset-2.ensures.value in
    rw (to_z-of_z w64 first (search rules))
    (starts z day c.args.unix_time c.args.high first c.args.after.now passed after (omega (arith, ints, some.0))
    (omega (arith, ints, some.1)) (omega (arith, ints, some.2, offset_after, is))
    (omega (arith, ints, some.3, offset_after, is))
    (λ v low below. omega (arith, ints, some.4 v (omega (arith, ints, low)) below, offset_after, is)))

pub returns : goal.returns
returns c = λ z day is ahead before after.
    let none = c.in_default.ensures.none in
    let offset = c.ut_offset-offset.ensures.value in
    let same : (c.args.unix_time -ℤ pos 1) +ℤ pos 1 ≡ c.args.unix_time = omega (arith, ints) in
    let passed : HasNotShown z day c.args.unix_time =
    subst (λ (u : ℤ). HasNotShown z day u) same
    (not_shown_past_some z day c.args.low (c.args.unix_time -ℤ pos 1) c.args.before.now ahead
    (λ v low high. before v low (omega (arith, ints, high)))
    (λ v low high begun.
    omega (
      arith,
      ints,
      none v (omega (arith, ints, low)) (omega (arith, ints, high)) (omega (arith, ints, begun, offset, is)),
      offset,
      is,
    ))) in
    let none_after = c.in_default-first_shown.ensures.none in
    let offset_after = c.ut_offset-offset-2.ensures.value in
    not_shown_past_some z day c.args.unix_time c.args.high c.args.after.now passed after
    (λ v low high begun.
    omega (
      arith,
      ints,
      none_after v (omega (arith, ints, low)) (omega (arith, ints, high))
          (omega (arith, ints, begun, offset_after, is)),
      offset_after,
      is,
    ))
