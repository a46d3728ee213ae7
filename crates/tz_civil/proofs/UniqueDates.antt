-- Each relation of dates has one answer.
use Rattle.std.proofs.Common.{◌≡◌, ℕ, ◌+◌, ◌*◌, ◌%◌, ◌≤◌, arith, ℤ, pos, ◌+ℤ◌, ◌-ℤ◌, ◌≤ℤ◌, ◌<ℤ◌, sym, ap, ◌∙◌, inl, inr, min}
use Rattle.std.proofs.lemmas.Int.{ints}
use Rattle.tz_base.specs.Days.{week_day_of, day_number, first_day}
use Rattle.tz_base.proofs.DaysOfYears.{day_number-is, first_day-next}
use Rattle.tz_base.proofs.DateOrder.{first_day-mono}
use Rattle.tz_civil.specs.Dates.{Date, IsDate, number_of}
use Rattle.tz_civil.specs.Steps.{IsDaysLater, IsMonthsLater, last_day_of}
use Rattle.tz_civil.specs.WeekDates.{IsWeekDate}
use Rattle.tz_civil.specs.WeekDays.{IsNextWeekDay, IsNthWeekDay, IsNth}
use Rattle.tz_civil.proofs.CivilDates.{one_date, same_parts}
use Rattle.tz_civil.proofs.DaysOfWeeks.{week_day_from, same_week_day, week_day-lt}
use Rattle.tz_civil.proofs.DaysOfWeeks.{compare}

pub days_later_unique : (d e e' : Date) (days : ℤ) → IsDate e → IsDate e' → IsDaysLater d days e → IsDaysLater d days e'
    → e ≡ e'
days_later_unique d e e' days is is' later later' = one_date e e' is is' (later ∙ sym later')

pub months_later_unique : (d e e' : Date) (months : ℤ) → IsMonthsLater d months e → IsMonthsLater d months e' → e ≡ e'
months_later_unique d e e' months h h' =
    let year : e.year ≡ e'.year =
    omega (arith, ints, h.month_is.later, h'.month_is.later, h.month_is.month_is, h'.month_is.month_is) in
    let month : e.month ≡ e'.month =
    omega (arith, ints, h.month_is.later, h'.month_is.later, h.month_is.month_is, h'.month_is.month_is) in
    same_parts e e' year month
    (h.day_is
    ∙ ap (λ y. min d.month_day (last_day_of y e.month)) year
    ∙ ap (λ m. min d.month_day (last_day_of e'.year m)) month
    ∙ sym h'.day_is)

-- days of a month with one week day are weeks apart
weeks_apart : (year : ℤ) (month d d' w : ℕ) → week_day_of (day_number year month d) ≡ pos w
    → week_day_of (day_number year month d') ≡ pos w → 1 ≤ d → 1 ≤ d' → (w + d + 6 * d') % 7 ≡ w
weeks_apart year month d d' w e e' low low' =
    let apart : day_number year month d +ℤ pos d' ≡ day_number year month d' +ℤ pos d =
    rw (day_number-is year month d, day_number-is year month d') (omega (arith, ints)) in
    let there = week_day_from (day_number year month d') (day_number year month d) w d d' e' apart in
    same_week_day (day_number year month d) _ _ there e

one_nth : (n : ℤ) (d d' last w : ℕ) → (1 ≤ d) × (d ≤ last) → (1 ≤ d') × (d' ≤ last) → w ≤ 6 → (w + d + 6 * d') % 7 ≡ w
    → IsNth n d last → IsNth n d' last → d ≡ d'
one_nth n d d' last w is is' bound apart (inl first) (inl first') =
    omega (arith, ints, first, first', apart, is, is', bound)
one_nth n d d' last w is is' bound apart (inl first) (inr last') = omega (arith, ints, first, last')
one_nth n d d' last w is is' bound apart (inr first) (inl last') = omega (arith, ints, first, last')
one_nth n d d' last w is is' bound apart (inr back) (inr back') =
    omega (arith, ints, back, back', apart, is, is', bound)

pub nth_week_day_unique : (year : ℤ) (month : ℕ) (n : ℤ) (w d d' : ℕ) → IsNthWeekDay year month n w d
    → IsNthWeekDay year month n w d' → d ≡ d'
nth_week_day_unique year month n w d d' h h' =
    let bound = week_day-lt (day_number year month d) w h.week_day_is in
    one_nth n d d' (last_day_of year month) w h.day_is.month_day_is h'.day_is.month_day_is (omega (arith, bound))
    (weeks_apart year month d d' w h.week_day_is h'.week_day_is h.day_is.month_day_is.0 h'.day_is.month_day_is.0)
    h.nth h'.nth

pub next_week_day_unique : (d e e' : Date) (w : ℕ) → IsDate e → IsDate e' → IsNextWeekDay d w e → IsNextWeekDay d w e'
    → e ≡ e'
next_week_day_unique d e e' w is is' h h' =
    one_date e e' is is' (omega (
      arith,
      ints,
      h.first (number_of e') h'.later h'.week_day_is,
      h'.first (number_of e) h.later h.week_day_is,
    ))

-- the year of a Thursday
one_year : (year year' : ℤ) (thursday : ℤ) → first_day year ≤ℤ thursday → thursday <ℤ first_day (year +ℤ pos 1)
    → first_day year' ≤ℤ thursday → thursday <ℤ first_day (year' +ℤ pos 1) → year ≤ℤ year'
one_year year year' thursday low high low' high' = elim (compare year year') [
  | inl up ↦ up
  | inr down ↦ omega (arith, ints, first_day-mono (year' +ℤ pos 1) year (omega (arith, ints, down)), low, high', down)
]

pub week_date_unique : (day year year' : ℤ) (week week' w w' : ℕ) → IsWeekDate day year week w
    → IsWeekDate day year' week' w' → (year ≡ year') × (week ≡ week') × (w ≡ w')
week_date_unique day year year' week week' w w' h h' =
    let shown = same_week_day day _ _ h.shown h'.shown in
    let same : w ≡ w' = omega (arith, shown, h.week_day_is, h'.week_day_is) in
    let thursday = day +ℤ pos 4 -ℤ pos w in
    let low : first_day year ≤ℤ thursday = omega (arith, ints, h.thursday) in
    let high : thursday <ℤ first_day (year +ℤ pos 1) =
    omega (arith, ints, h.thursday, h.in_year, first_day-next year) in
    let low' : first_day year' ≤ℤ thursday = omega (arith, ints, h'.thursday, same) in
    let high' : thursday <ℤ first_day (year' +ℤ pos 1) =
    omega (arith, ints, h'.thursday, h'.in_year, first_day-next year', same) in
    let up = one_year year year' thursday low high low' high' in
    let down = one_year year' year thursday low' high' low high in
    let one : year ≡ year' = omega (arith, ints, up, down) in
    let days : h.days ≡ h'.days = omega (arith, ints, h.thursday, h'.thursday, same, ap first_day one) in
    (one, omega (arith, h.week_is, h'.week_is, days), same)
