-- The next date with the week day is one to seven days later.
use Rattle.std.proofs.Common.{◌≡◌, ℕ, ◌+◌, pos, ◌+ℤ◌, ◌<◌, arith, rules, ap, ◌∙◌}
use Rattle.std.proofs.lemmas.Int.{ints, to_z-of_z}
use Rattle.std.proofs.lemmas.Option.{IfSome_then}
use mir.Syntax.{w64}
use Rattle.tz_base.specs.Days.{week_day_of}
use Rattle.tz_civil.specs.Dates.{Date, number_of}
use Rattle.tz_civil.specs.Steps.{IsDaysLater}
use Rattle.tz_civil.specs.WeekDays.{IsNextWeekDay}
use Rattle.tz_civil.proofs.CivilDates.{IfNone_then}
use Rattle.tz_civil.proofs.DaysOfWeeks.{first_after, week_day-lt}
use Rattle.tz_civil.proofs.date.Date.next_week_day.Goals as goal

module _ (d e : Date) (days week_day : ℕ) (few : days < 7)
    (shown : week_day_of (number_of d +ℤ pos 1 +ℤ pos days) ≡ pos week_day) where
  days_later : IsDaysLater d (pos (days + 1)) e → IsNextWeekDay d week_day e
  days_later later =
      let same : number_of e ≡ number_of d +ℤ pos 1 +ℤ pos days = omega (arith, ints, later) in
      record {
        later = omega (arith, ints, later);
        week_day_is = ap week_day_of same ∙ shown;
        first = first_after (number_of d) (number_of e) week_day (ap week_day_of same ∙ shown)
            (omega (arith, ints, later, few));
      }

  is_days_later : IsNextWeekDay d week_day e → IsDaysLater d (pos (days + 1)) e
  is_days_later found =
      let next = number_of d +ℤ pos 1 +ℤ pos days in
      let up = found.first next (omega (arith, ints)) shown in
      let down = first_after (number_of d) next week_day shown (omega (arith, ints, few)) (number_of e) found.later
      found.week_day_is in
      omega (arith, ints, up, down)

pub returns-then-week_day-gt6-clause-none : goal.returns-then-week_day-gt6-clause-none
returns-then-week_day-gt6-clause-none c = λ e is next.
    omega (arith, week_day-lt (number_of e) c.args.week_day next.week_day_is, c.if-week_day-gt6.true)

pub returns-clause-some : goal.returns-clause-some
returns-clause-some c =
    let shown = rw (to_z-of_z w64 c.day_number.result (search rules)) at c.days_until-days.ensures.value in
    IfSome_then c.add_up_to_28_days.result c.add_up_to_28_days.ensures.some
    (λ e later. days_later c.args.self e c.days_until-days.result c.args.week_day c.days_until-days.ensures.bound
    (ap week_day_of (omega (arith, ints, c.day_number.ensures)) ∙ shown) later)

pub returns-clause-none : goal.returns-clause-none
returns-clause-none c =
    let shown = rw (to_z-of_z w64 c.day_number.result (search rules)) at c.days_until-days.ensures.value in
    IfNone_then c.add_up_to_28_days.result _ _ c.add_up_to_28_days.ensures.none
    (λ none e is next. none e is
    (is_days_later c.args.self e c.days_until-days.result c.args.week_day c.days_until-days.ensures.bound
    (ap week_day_of (omega (arith, ints, c.day_number.ensures)) ∙ shown) next))
