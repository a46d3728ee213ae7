-- All entries are made, and the first and the last day of both kinds of years are among them.
use Rattle.tz_rule.proofs.Common.{arith, ints, ◌≡◌, ◌∙◌, ◌≤ℤ◌, negsuc, of_z, to_z, ℕ, ◌+◌, ◌*◌, ◌<◌, ◌+ℤ◌, pos, entry, rules, to_z-of_z, w32, SFits}
use Rattle.tz_rule.specs.YearDays.{days_later}
use Rattle.tz_rule.proofs.SpansOfDays.{first_with, second_with, least_is, greatest_is}
use Rattle.tz_rule.proofs.TablesOfDays.{day_table-from}
use Rattle.tz_rule.proofs.timezone.year_table.BoundedTable.of_day.Goals as goal

pub returns-clause-table : goal.returns-clause-table
returns-clause-table c =
    let made = c.loop-week_day.invariant in
    let normal_fits : SFits w32 c.seconds_to-normal.result = search rules in
    let leap_fits : SFits w32 c.seconds_to-leap.result = search rules in
    let normal = to_z-of_z w32 c.seconds_to-normal.result normal_fits in
    let leap = to_z-of_z w32 c.seconds_to-leap.result leap_fits in
    let seconds = to_z-of_z w32 c.args.seconds c.ranges.seconds in
    let n = c.span-normal_day in
    let l = c.span-leap_day in
    day_table-from c.args.day.now c.args.seconds c.loop-week_day.entries
    (λ k. n.result.0 + days_later (n.result.1 + k)) (λ k. l.result.0 + days_later (l.result.1 + k)) made.size
    (λ k below. made.normal_made k (omega arith) ∙ omega (arith, ints, normal, seconds, c.seconds_to-normal.ensures))
    (λ k below. made.leap_made k (omega arith) ∙ omega (arith, ints, leap, seconds, c.seconds_to-leap.ensures))
    n.ensures.value l.ensures.value

pub returns-clause-bounds : goal.returns-clause-bounds
returns-clause-bounds c =
    let made = c.loop-week_day.invariant in
    let normal_fits : SFits w32 c.seconds_to-normal.result = search rules in
    let leap_fits : SFits w32 c.seconds_to-leap.result = search rules in
    let normal = to_z-of_z w32 c.seconds_to-normal.result normal_fits in
    let leap = to_z-of_z w32 c.seconds_to-leap.result leap_fits in
    let n = c.span-normal_day in
    let l = c.span-leap_day in
    let N = c.seconds_to-normal.result in
    let L = c.seconds_to-leap.result in
    let low : (negsuc 99999999 ≤ℤ N) × (negsuc 99999999 ≤ℤ L) = (
      omega (arith, ints, c.seconds_to-normal.ensures, c.requires, to_z-of_z w32 c.args.seconds c.ranges.seconds),
      omega (arith, ints, c.seconds_to-leap.ensures, c.requires, to_z-of_z w32 c.args.seconds c.ranges.seconds),
    ) in
    let high : (N ≤ℤ pos 99999999) × (L ≤ℤ pos 99999999) = (
      omega (
        arith,
        ints,
        c.seconds_to-normal.ensures,
        c.requires,
        n.ensures.bound,
        to_z-of_z w32 c.args.seconds c.ranges.seconds,
      ),
      omega (
        arith,
        ints,
        c.seconds_to-leap.ensures,
        c.requires,
        l.ensures.bound,
        to_z-of_z w32 c.args.seconds c.ranges.seconds,
      ),
    ) in
    let normal_made : (k : ℕ) → k < 7 → entry c.loop-week_day.entries k
    ≡ N +ℤ pos (86400 * days_later (n.result.1 + k)) =
    λ k below. rw normal at made.normal_made k (omega arith) in
    let leap_made : (k : ℕ) → k < 7 → entry c.loop-week_day.entries (7 + k)
    ≡ L +ℤ pos (86400 * days_later (l.result.1 + k)) =
    λ k below. rw leap at made.leap_made k (omega arith) in
    let a = c.last_seconds.result in
    let b = c.last_seconds-2.result in
    let a_is = rw normal at c.last_seconds.ensures in
    let b_is = rw leap at c.last_seconds-2.ensures in
    let least = rw (normal, leap) at c.lesser_i32.ensures in
    let a_fits = to_z-of_z w32 a (search rules) in
    let b_fits = to_z-of_z w32 b (search rules) in
    let greatest = rw (a_fits, b_fits) at c.greater_i32.ensures in (
      to_z-of_z w32 c.lesser_i32.result (search rules) ∙ least
          ∙ least_is c.loop-week_day.entries N L a b n.result.1 l.result.1 n.ensures.place l.ensures.place
          (a_is.none, a_is.week) (b_is.none, b_is.week) low high normal_made leap_made,
      to_z-of_z w32 c.greater_i32.result (search rules) ∙ greatest
          ∙ greatest_is c.loop-week_day.entries N L a b n.result.1 l.result.1 n.ensures.place l.ensures.place
          (a_is.none, a_is.week) (b_is.none, b_is.week) low high normal_made leap_made,
    )

pub loop-week_day-preserved : goal.loop-week_day-preserved
loop-week_day-preserved c =
    let made = c.loop-week_day.invariant in
    let i = c.loop-week_day.week_day in
    let p = c.span-normal_day.result.1 in
    let q = c.span-leap_day.result.1 in
    let x_fits = to_z-of_z w32 c.seconds_at.result (search rules) in
    let y_fits = to_z-of_z w32 c.seconds_at-in-loop-week_day.result (search rules) in
    let f = λ (k : ℕ). to_z w32 (of_z w32 c.seconds_to-normal.result) +ℤ pos (86400 * days_later (p + k)) in
    let g = λ (k : ℕ). to_z w32 (of_z w32 c.seconds_to-leap.result) +ℤ pos (86400 * days_later (q + k)) in
    let x_is = x_fits ∙ c.seconds_at.ensures in
    let y_is = y_fits ∙ c.seconds_at-in-loop-week_day.ensures in
    record {
      size = search rules;
      normal_made = first_with f g c.loop-week_day.entries i _ _ made.size c.loop-week_day-test.true x_is y_is
          made.normal_made made.leap_made;
      leap_made = second_with f g c.loop-week_day.entries i _ _ made.size c.loop-week_day-test.true x_is y_is
          made.normal_made made.leap_made;
    }
