-- The switches of the year, of the one before and of the next one determine those on both sides of the instant.
use Rattle.tz_rule.proofs.Common.{arith, ◌≡◌, ints, pos, ◌∙◌, ◌+ℤ◌, to_z-of_z, ◌-ℤ◌, rules, w64, ◌+◌, ◌-◌, moved_back}
use Rattle.tz_rule.proofs.RuleSwitches.{switch_before_first, switch_before_second, switch_of_next_year, switch_from_second, switch_from_first, switch_of_last_year}
use Rattle.tz_rule.proofs.WeakerClauses.{IfSome-weaker}
use Rattle.tz_rule.proofs.timezone.alternate_time.AlternateData.switches_by_order.Goals as goal

pub returns-then-unix_time-first : goal.returns-then-unix_time-first
returns-then-unix_time-first c =
    let q = c.requires in
    let sound = c.parts_are_sound.ensures in
    let unix = to_z-of_z w64 c.args.unix_time c.ranges.unix_time in
    let first = to_z-of_z w64 c.switch_in_moved-first.result (search rules) ∙ c.switch_in_moved-first.ensures in
    let second = to_z-of_z w64 c.switch_in_moved-second.result (search rules) ∙ c.switch_in_moved-second.ensures in
    let year_before : moved_back (c.args.moved_year - 1) ≡ moved_back c.args.moved_year -ℤ pos 1 =
    omega (arith, ints, q.year) in
    let earlier = to_z-of_z w64 c.switch_in_moved-earlier.result (search rules)
    ∙ rw year_before at c.switch_in_moved-earlier.ensures in
    let last = to_z-of_z w64 c.switch_in_moved-last.result (search rules)
    ∙ rw year_before at c.switch_in_moved-last.ensures in
    record {
      last = IfSome-weaker c.switch_between.result (λ switch is. rw (is.0, is.1, last)
          (switch_of_last_year _ sound.rule.in_range sound.days q.inner _ q.order _ _ q.likely q.year
          (omega (arith, ints, unix, first, c.if-unix_time-first.true)) (omega (arith, ints, earlier, last, is.2))))
          c.switch_between.ensures;
      next = IfSome-weaker c.switch_between-then-unix_time-first.result (λ switch is. rw (is.0, is.1, first)
          (switch_before_first _ sound.rule.in_range sound.days q.inner _ q.order _ _ q.likely q.year
          (omega (arith, ints, unix, first, c.if-unix_time-first.true)) (omega (arith, ints, first, second, is.2))))
          c.switch_between-then-unix_time-first.ensures;
    }

pub returns-then-unix_time-second : goal.returns-then-unix_time-second
returns-then-unix_time-second c =
    let q = c.requires in
    let sound = c.parts_are_sound.ensures in
    let unix = to_z-of_z w64 c.args.unix_time c.ranges.unix_time in
    let first = to_z-of_z w64 c.switch_in_moved-first.result (search rules) ∙ c.switch_in_moved-first.ensures in
    let second = to_z-of_z w64 c.switch_in_moved-second.result (search rules) ∙ c.switch_in_moved-second.ensures in
    record {
      last = rw first (switch_from_first _ sound.rule.in_range sound.days q.inner _ q.order _ _ q.likely q.year
          (omega (arith, ints, unix, first, c.if-unix_time-first.false))
          (omega (arith, ints, unix, second, c.if-unix_time-second.true)));
      next = rw second (switch_before_second _ sound.rule.in_range sound.days q.inner _ q.order _ _ q.likely q.year
          (omega (arith, ints, unix, first, c.if-unix_time-first.false))
          (omega (arith, ints, unix, second, c.if-unix_time-second.true)));
    }

pub returns : goal.returns
returns c =
    let q = c.requires in
    let sound = c.parts_are_sound.ensures in
    let unix = to_z-of_z w64 c.args.unix_time c.ranges.unix_time in
    let first = to_z-of_z w64 c.switch_in_moved-first.result (search rules) ∙ c.switch_in_moved-first.ensures in
    let second = to_z-of_z w64 c.switch_in_moved-second.result (search rules) ∙ c.switch_in_moved-second.ensures in
    let year_after : moved_back (c.args.moved_year + 1) ≡ moved_back c.args.moved_year +ℤ pos 1 =
    omega (arith, ints, q.year) in
    let next = to_z-of_z w64 c.switch_in_moved-next.result (search rules)
    ∙ rw year_after at c.switch_in_moved-next.ensures in
    let later = to_z-of_z w64 c.switch_in_moved-later.result (search rules)
    ∙ rw year_after at c.switch_in_moved-later.ensures in
    record {
      last = IfSome-weaker c.switch_between-2.result (λ switch is. rw (is.0, is.1, second)
          (switch_from_second _ sound.rule.in_range sound.days q.inner _ q.order _ _ q.likely q.year
          (omega (arith, ints, unix, second, c.if-unix_time-second.false))
          (omega (arith, ints, first, second, is.2)))) c.switch_between-2.ensures;
      next = IfSome-weaker c.switch_between-3.result (λ switch is. rw (is.0, is.1, next)
          (switch_of_next_year _ sound.rule.in_range sound.days q.inner _ q.order _ _ q.likely q.year
          (omega (arith, ints, unix, second, c.if-unix_time-second.false))
          (omega (arith, ints, next, later, is.2)))) c.switch_between-3.ensures;
    }
