-- The effect by the last leap second up to the leap time.
use Rattle.tz_zone.proofs.Common.{◌≡◌, arith, to_z-of_z, rules, ints, refl, ◌∙◌, ◌-ℤ◌, ◌-◌, slice_get_read, to_z, of_z, suc, w128, correction_before, int_max}
use Rattle.tz_zone.proofs.WideEffects.{times_from_items, IsEffectByCount-none, IsEffectByCount-greater, IsWideEffect-from_count}
use Rattle.tz_zone.proofs.leap.leap_time.wide_effect_from_start.Goals as goal

pub returns-then-count-eq0 : goal.returns-then-count-eq0
returns-then-count-eq0 c =
    let leaps = c.args.leap_seconds.now in
    let v = c.args.unix_leap_time in
    let count = c.leap_seconds_up_to-count.ensures in
    let times = times_from_items leaps v c.leap_seconds_up_to-count.result count.within
    (simp (to_z-of_z, c.ranges.unix_leap_time) at count.up_to)
    (simp (to_z-of_z, c.ranges.unix_leap_time) at count.later) in
    let same : to_z w128 (of_z w128 c.without_correction.result) ≡ v =
    omega (arith, ints, c.without_correction.ensures) in
    let none = rw c.if-count-eq0.true at times in
    rw same (IsWideEffect-from_count leaps c.requires.leaps v v 0 c.ranges.unix_leap_time c.requires.begun none
    (IsEffectByCount-none leaps c.requires.leaps v c.requires.begun none))

pub returns : goal.returns
returns c =
    let leaps = c.args.leap_seconds.now in
    let v = c.args.unix_leap_time in
    let k = c.leap_seconds_up_to-count.result in
    let count = c.leap_seconds_up_to-count.ensures in
    let times = times_from_items leaps v k count.within (simp (to_z-of_z, c.ranges.unix_leap_time) at count.up_to)
    (simp (to_z-of_z, c.ranges.unix_leap_time) at count.later) in
    let item = c.index-leap_seconds-count.result in
    let at = slice_get_read leaps _ (k - 1) item refl (omega arith) c.index-leap_seconds-count.is in
    let last : k ≡ suc (k - 1) = omega arith in
    let correction = c.correction.ensures in
    let time = c.unix_leap_time.ensures in
    let before = c.correction_before.ensures in
    let unix_time : to_z w128 (of_z w128 c.without_correction-unix_time.result) ≡ v -ℤ item.correction =
    omega (arith, ints, c.without_correction-unix_time.ensures) in
    let reached : to_z w128 (of_z w128 c.without_correction-begins.result)
    ≡ item.unix_leap_time -ℤ correction_before leaps (k - 1) =
    omega (arith, ints, c.without_correction-begins.ensures) in
    let greater = rw (unix_time, reached) at c.max.ensures.value in
    let same : to_z w128 (of_z w128 c.max.result) ≡ int_max (v -ℤ item.correction)
    (item.unix_leap_time -ℤ correction_before leaps (k - 1)) = to_z-of_z w128 c.max.result (search rules)
    ∙ greater in
    rw same (IsWideEffect-from_count leaps c.requires.leaps v _ (suc (k - 1)) c.ranges.unix_leap_time c.requires.begun
    (rw last at times) (IsEffectByCount-greater leaps v (k - 1) item at))
