-- What is between two of the starts and ends of the year and its neighbours has one type, and holds the instant if the
-- year determines the segment.
use Rattle.tz_rule.proofs.Common.{arith, ◌≡◌, ints, pos, ◌∙◌, refl, ◌+ℤ◌, to_z-of_z, ◌-ℤ◌, rules, w64, ◌+◌, ◌-◌, moved_back}
use Rattle.tz_rule.proofs.RuleSegments.{years_around, segment_between_years, segment_in_year}
use Rattle.tz_rule.proofs.timezone.alternate_time.AlternateData.segment_by_order.Goals as goal

pub returns-then-unix_time-first-clause-of : goal.returns-then-unix_time-first-clause-of
returns-then-unix_time-first-clause-of c =
    let y = moved_back c.args.moved_year in
    let year_before : moved_back (c.args.moved_year - 1) ≡ y -ℤ pos 1 = omega (arith, ints, c.requires.year) in
    rw (
      to_z-of_z w64 c.switch_in_moved.result (search rules) ∙ c.switch_in_moved.ensures,
      year_before,
      to_z-of_z w64
          c.switch_in_moved-first.result (search rules) ∙ c.switch_in_moved-first.ensures,
    )
    (segment_between_years _ c.parts_are_sound.ensures.rule.in_range c.parts_are_sound.ensures.days _ c.requires.order y
    (y -ℤ pos 1) y (years_around y).0 (years_around y).1 (omega (arith, ints)))

pub returns-then-unix_time-second-clause-of : goal.returns-then-unix_time-second-clause-of
returns-then-unix_time-second-clause-of c =
    let y = moved_back c.args.moved_year in
    rw (
      to_z-of_z w64 c.switch_in_moved-first.result (search rules) ∙ c.switch_in_moved-first.ensures,
      to_z-of_z w64
          c.switch_in_moved-second.result (search rules) ∙ c.switch_in_moved-second.ensures,
    )
    (segment_in_year _ c.parts_are_sound.ensures.rule.in_range c.parts_are_sound.ensures.days _ c.requires.order y y
    (years_around y).1)

pub returns-clause-of : goal.returns-clause-of
returns-clause-of c =
    let y = moved_back c.args.moved_year in
    let year_after : moved_back (c.args.moved_year + 1) ≡ y +ℤ pos 1 = omega (arith, ints) in
    rw (
      to_z-of_z w64 c.switch_in_moved-second.result (search rules) ∙ c.switch_in_moved-second.ensures,
      to_z-of_z w64
          c.switch_in_moved-2.result (search rules) ∙ c.switch_in_moved-2.ensures,
      year_after,
    )
    (segment_between_years _ c.parts_are_sound.ensures.rule.in_range c.parts_are_sound.ensures.days _ c.requires.order y
    y (y +ℤ pos 1) (years_around y).1 (years_around y).2 refl)

pub returns-then-unix_time-first-clause-within : goal.returns-then-unix_time-first-clause-within
returns-then-unix_time-first-clause-within c = λ determines.
    let year_before : moved_back (c.args.moved_year - 1) ≡ moved_back c.args.moved_year -ℤ pos 1 =
    omega (arith, ints, c.requires.year) in
    let last = to_z-of_z w64 c.switch_in_moved.result (search rules) ∙ rw year_before at c.switch_in_moved.ensures in
    let first = to_z-of_z w64 c.switch_in_moved-first.result (search rules) ∙ c.switch_in_moved-first.ensures in (
      omega (
        arith,
        ints,
        last,
        determines.0
            (omega (arith, ints, first, c.if-unix_time-first.true)),
      ),
      omega (arith, ints, c.if-unix_time-first.true),
    )

pub returns-clause-within : goal.returns-clause-within
returns-clause-within c = λ determines.
    let year_after : moved_back (c.args.moved_year + 1) ≡ moved_back c.args.moved_year +ℤ pos 1 = omega (arith, ints) in
    let next = to_z-of_z w64 c.switch_in_moved-2.result (search rules) ∙ rw year_after at c.switch_in_moved-2.ensures in
    (omega (arith, ints, c.if-unix_time-second.false), omega (arith, ints, next, determines.1))
