-- Up to an instant that all tables reach each has a leap time, which grows by three times the seconds at most.
use Rattle.tz_zone.proofs.Common.{◌≡◌, arith, to_z-of_z, ints, w64, ℤ, ◌≤ℤ◌, pos, ◌-ℤ◌, ◌+ℤ◌, SFits, negsuc, to_z, of_z, w128, MatchBool-lt_z, ◌*ℤ◌}
use Rattle.tz_zone.proofs.LeapTimes.{leap_time_speed}
use Rattle.tz_zone.proofs.InstantsWithLeapTime.{leap_unless_refused, defined_within}
use Rattle.tz_zone.proofs.leap.leap_time.stay_before.Goals as goal

cast : (h f : ℤ) → SFits w64 h → f ≡ to_z w64 (of_z w64 h) → to_z w128 (of_z w128 f) ≡ h
cast h f fits is = omega (arith, ints)

difference : (h l : ℤ) → SFits w64 h → SFits w64 l → to_z w128 (of_z w128 (h -ℤ l)) ≡ h -ℤ l
difference h l h_fits l_fits = omega (arith, ints)

triple : (x : ℤ) → pos 3 *ℤ x ≡ x +ℤ x +ℤ x
triple (pos n) = omega (arith, ints)
triple (negsuc n) = omega (arith, ints)

wide : (x : ℤ) → negsuc 99999999999999999999 ≤ℤ x → x ≤ℤ pos 99999999999999999999 → SFits w128 x
wide (pos n) above below = record { sfits = omega (arith, ints, below) }
wide (negsuc n) above below = record { sfits = omega (arith, ints, above) }

triple_fits : (h l : ℤ) → SFits w64 h → SFits w64 l → SFits w128 (pos 3 *ℤ (h -ℤ l))
triple_fits h l h_fits l_fits = wide (pos 3 *ℤ (h -ℤ l)) (omega (arith, ints, triple (h -ℤ l)))
    (omega (arith, ints, triple (h -ℤ l)))

sum_fits : (v h l : ℤ) → SFits w64 v → SFits w64 h → SFits w64 l → SFits w128 (v +ℤ (pos 3 *ℤ (h -ℤ l)))
sum_fits v h l v_fits h_fits l_fits = wide (v +ℤ (pos 3 *ℤ (h -ℤ l))) (omega (arith, ints, triple (h -ℤ l)))
    (omega (arith, ints, triple (h -ℤ l)))

pub overflow_mul-result : goal.overflow_mul-result
overflow_mul-result c =
    let h = c.args.high in
    let l = c.args.low in
    rw (
      cast h c.from.result c.ranges.high c.from.ensures,
      cast l c.from-2.result c.ranges.low
          c.from-2.ensures,
      difference h l c.ranges.high c.ranges.low,
    ) (triple_fits h l c.ranges.high c.ranges.low)

pub overflow_add-result : goal.overflow_add-result
overflow_add-result c =
    let h = c.args.high in
    let l = c.args.low in
    let v = c.args.low_leap_time in
    rw (
      cast h c.from.result c.ranges.high c.from.ensures,
      cast l c.from-2.result c.ranges.low c.from-2.ensures,
      cast v
          c.from-3.result c.ranges.low_leap_time c.from-3.ensures,
      difference h l c.ranges.high c.ranges.low,
      to_z-of_z
          w128 (pos 3 *ℤ (h -ℤ l)) (triple_fits h l c.ranges.high c.ranges.low),
    )
    (sum_fits v h l c.ranges.low_leap_time c.ranges.high c.ranges.low)

pub returns : goal.returns
returns c =
    let h = c.args.high in
    let l = c.args.low in
    let v = c.args.low_leap_time in
    let t = c.args.unix_leap_time in
    rw (
      cast h c.from.result c.ranges.high c.from.ensures,
      cast l c.from-2.result c.ranges.low c.from-2.ensures,
      cast v
          c.from-3.result c.ranges.low_leap_time c.from-3.ensures,
      cast t c.from-4.result c.ranges.unix_leap_time
          c.from-4.ensures,
      difference h l c.ranges.high c.ranges.low,
      to_z-of_z w128 (pos 3 *ℤ (h -ℤ l))
          (triple_fits h l c.ranges.high c.ranges.low),
      to_z-of_z w128 (v +ℤ (pos 3 *ℤ (h -ℤ l)))
          (sum_fits v h l c.ranges.low_leap_time c.ranges.high c.ranges.low),
    )
    (MatchBool-lt_z (v +ℤ (pos 3 *ℤ (h -ℤ l))) t
    (λ less u from to.
    let leaps = c.args.leap_seconds.now in
    let low = c.requires.low in
    let defined = defined_within leaps c.requires.leaps l u low.not_refused from
    (omega (arith, ints, to, c.if-high-gt-ALWAYS_DEFINED_UP_TO.false)) in
    let here = leap_unless_refused leaps c.requires.leaps u defined in (
      here.0,
      here.1,
      omega (
        arith,
        ints,
        less,
        to,
        triple (h -ℤ l),
        leap_time_speed leaps c.requires.leaps l u v here.0
            from low here.1,
      ),
    ))
    (λ _. tt))
