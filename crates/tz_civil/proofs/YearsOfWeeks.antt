-- The years of week dates.
use Rattle.std.proofs.Common.{◌≡◌, ℕ, ◌+◌, ◌-◌, ◌*◌, ◌/◌, ◌%◌, ◌<◌, ◌≤◌, arith, ℤ, pos, ◌+ℤ◌, ◌-ℤ◌, ◌≤ℤ◌, ◌<ℤ◌, true, false, cond, sym, ap, ◌∙◌, inl, inr}
use Rattle.std.proofs.lemmas.Int.{ints}
use Rattle.tz_base.specs.Days.{is_leap, year_length, first_day, week_day_of}
use Rattle.tz_base.proofs.DaysOfYears.{first_day-next, year_length-is}
use Rattle.tz_base.proofs.DateOrder.{first_day-mono}
use Rattle.tz_civil.specs.WeekDates.{IsWeekDate}
use Rattle.tz_civil.proofs.DaysOfWeeks.{compare, same_week_day, week_day_from, up_to}

-- a week whose Thursday is before a year is of an earlier one
pub too_early : (day year other : ℤ) (w week w' : ℕ) → (1 ≤ w) × (w ≤ 7) → week_day_of day ≡ pos (w % 7)
    → IsWeekDate day other week w' → (day +ℤ pos 4 -ℤ pos w) <ℤ first_day year → other <ℤ year
too_early day year other w week w' range shown h early =
    let same = same_week_day day (w % 7) (w' % 7) shown h.shown in
    elim (compare year other) [
      | inl up ↦ omega (arith, ints, same, first_day-mono year other up, h.thursday, h.week_day_is, range, early, up)
      | inr down ↦ down
    ]

-- a week whose Thursday is after a year is of a later one
pub too_late : (day year other : ℤ) (w week w' : ℕ) → (1 ≤ w) × (w ≤ 7) → week_day_of day ≡ pos (w % 7)
    → IsWeekDate day other week w' → first_day (year +ℤ pos 1) ≤ℤ (day +ℤ pos 4 -ℤ pos w) → year <ℤ other
too_late day year other w week w' range shown h late =
    let same = same_week_day day (w % 7) (w' % 7) shown h.shown in
    elim (compare other year) [
      | inl up ↦ omega (
        arith,
        ints,
        same,
        first_day-mono (other +ℤ pos 1) (year +ℤ pos 1) (omega (arith, ints, up)),
        first_day-next other,
        h.thursday,
        h.in_year,
        h.week_day_is,
        range,
        late,
        up,
      )
      | inr down ↦ down
    ]

-- a year has 365 or 366 days
pub year_length-range : (year : ℤ) → (365 ≤ year_length year) × (year_length year ≤ 366)
year_length-range year =
    rw (year_length-is year)
    (elim (is_leap year) as (λ b. (365 ≤ cond {A = ℕ} b 366 365) × (cond {A = ℕ} b 366 365 ≤ 366)) [
      | true ↦ (omega arith, omega arith)
      | false ↦ (omega arith, omega arith)
    ])

-- where the Thursday of a week is, by the days from January 1st to the year's first Thursday
pub thursday_of_week : (day year : ℤ) (first week w : ℕ) → week_day_of (first_day year +ℤ pos first) ≡ pos 4
    → first < 7 → (h : IsWeekDate day year week w) → h.days ≡ first + 7 * (week - 1)
thursday_of_week day year first week w thursday few h =
    let there = week_day_from (first_day year +ℤ pos first) day 4 (h.days + w) (first + 4) thursday
    (omega (arith, ints, h.thursday)) in
    let same = same_week_day day _ _ there h.shown in
    omega (arith, same, h.week_is, h.week_day_is, few)

-- the day of a week date
pub day_has_week_date : (day year : ℤ) (first week w : ℕ) → week_day_of (first_day year +ℤ pos first) ≡ pos 4
    → first < 7 → 1 ≤ week → (1 ≤ w) × (w ≤ 7) → first + 7 * (week - 1) < year_length year
    → day ≡ first_day year +ℤ pos (first + 7 * (week - 1)) +ℤ pos w -ℤ pos 4 → IsWeekDate day year week w
day_has_week_date day year first week w thursday few low week_day within is =
    let there = week_day_from (first_day year +ℤ pos first) day 4 (first + 7 * (week - 1) + w) (first + 4) thursday
    (omega (arith, ints, is)) in
    record {
      week_day_is = week_day;
      shown = there ∙ ap pos (omega arith);
      days = first + 7 * (week - 1);
      thursday = omega (arith, ints, is);
      in_year = within;
      week_is = omega (arith, low, few);
    }

-- the week date of a day whose Thursday is in the year
pub week_date_in : (day year : ℤ) (w week : ℕ) → (1 ≤ w) × (w ≤ 7) → week_day_of day ≡ pos (w % 7)
    → first_day year ≤ℤ (day +ℤ pos 4 -ℤ pos w) → (day +ℤ pos 4 -ℤ pos w) <ℤ first_day (year +ℤ pos 1)
    → ((days : ℕ) → day +ℤ pos 4 -ℤ pos w ≡ first_day year +ℤ pos days → week ≡ days / 7 + 1)
    → IsWeekDate day year week w
week_date_in day year w week range shown low high week_is =
    let gap = up_to (first_day year) (day +ℤ pos 4 -ℤ pos w) low in
    let next = first_day-next year in
    record {
      week_day_is = range;
      shown = shown;
      days = gap.0;
      thursday = gap.1;
      in_year = omega (arith, ints, gap.1, high, next);
      week_is = week_is gap.0 gap.1;
    }

-- the first day of the year after
pub first_day-after : (before year : ℤ) → before +ℤ pos 1 ≡ year
    → first_day year ≡ first_day before +ℤ pos (year_length before)
first_day-after before year e = ap first_day (sym e) ∙ first_day-next before

-- a week date has one day
pub one_day : (day day' year : ℤ) (week w : ℕ) → IsWeekDate day year week w → IsWeekDate day' year week w → day ≡ day'
one_day day day' year week w h h' =
    let there = week_day_from day day' (w % 7) h'.days h.days h.shown (omega (arith, ints, h.thursday, h'.thursday)) in
    let same = same_week_day day' _ _ there h'.shown in
    let days : h.days ≡ h'.days = omega (arith, same, h.week_is, h'.week_is) in
    omega (arith, ints, days, h.thursday, h'.thursday)
