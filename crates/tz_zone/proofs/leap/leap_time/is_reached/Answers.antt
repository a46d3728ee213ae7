-- The comparison is the one that the definition makes, in numbers of 128 bits.
use Rattle.tz_zone.proofs.Common.{arith, ints, w64, refl, sym, ◌∙◌, ap, SFits, LeapSecond, slice_get_read, to_z, same_Some, of_z, w128, IsReached, get_or_from_slice_get}
use Rattle.tz_zone.proofs.LeapAnswers.{by_comparison}
use Rattle.tz_zone.proofs.leap.leap_time.is_reached.Goals as goal

pub returns : goal.returns
returns c =
    let leaps = c.args.leap_seconds.now in
    let fits : SFits w64 c.args.unix_time = c.ranges.unix_time in
    let item = c.index-leap_seconds-index.result in
    let at = slice_get_read leaps _ c.args.index item refl c.requires c.index-leap_seconds-index.is in
    let time = c.unix_leap_time-time.ensures in
    let correction = c.correction_before-correction.ensures in
    let read_time = ap (λ (l : LeapSecond). l.unix_leap_time) (get_or_from_slice_get leaps c.args.index item item at) in
    by_comparison (to_z w128 (of_z w128 c.from.result)) _ ((l : LeapSecond)
    × IsReached leaps c.args.index l c.args.unix_time)
    (λ order. (item, (at, omega (arith, ints))))
    (λ r.
    let moved = ap (λ (l : LeapSecond). l.unix_leap_time) (same_Some r.0 item (sym r.1.0 ∙ at)) in
    omega (arith, ints, r.1.1))
