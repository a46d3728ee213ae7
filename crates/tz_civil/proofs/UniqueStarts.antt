-- A day has one start, or the clock skips it, or has no type throughout its window.
use Rattle.std.proofs.Common.{◌≡◌, ap, sym, subst, ◌∙◌, arith, ℤ, pos, ◌+ℤ◌, ◌-ℤ◌, inl, inr}
use Rattle.std.proofs.lemmas.Int.{ints}
use Rattle.tz_base.specs.declared.error.TzError.{TzError}
use Rattle.tz_base.specs.Days.{day_number}
use Rattle.tz_base.proofs.DateOrder.{date_unique, valid_day}
use Rattle.tz_rule.specs.LocalTimeType.{LocalTimeType}
use Rattle.tz_zone.specs.Table.{Zone}
use Rattle.tz_zone.specs.Clock.{IsLookupFault}
use Rattle.tz_zone.proofs.Clocks.{one_type}
use Rattle.tz.specs.DateTimes.{DateTime}
use Rattle.tz_civil.specs.Dates.{Date, IsDate, date_of, number_of}
use Rattle.tz_civil.specs.DayStarts.{IsDayWindow, IsSkippedDay, IsStartFault, IsStartOfDay, ShowsDay, StartsDay, midnight}
use Rattle.tz_civil.proofs.CivilDates.{same_parts}
use Rattle.tz_civil.proofs.DayWalks.{shown_within}

pub start_unique : (z : Zone) (day u v : ℤ) → IsStartOfDay z day u → IsStartOfDay z day v → u ≡ v
start_unique z day u v a b = omega (arith, ints, a.least v b.shown, b.least u a.shown)

pub start_or_skipped : (z : Zone) (day u : ℤ) → IsStartOfDay z day u → ¬ IsSkippedDay z day
start_or_skipped z day u start skipped = skipped.never u start.shown

-- the window of a day
window_unique : (z : Zone) (day low high low' high' : ℤ) → IsDayWindow z day low high → IsDayWindow z day low' high'
    → (low ≡ low') × (high ≡ high')
window_unique z day low high low' high' w w' = (
  omega (arith, ints, w.first.1 (midnight day -ℤ low') w'.first.0, w'.first.1 (midnight day -ℤ low) w.first.0),
  omega (
    arith,
    ints,
    w.last.1 (midnight day +ℤ pos 86399 -ℤ high') w'.last.0,
    w'.last.1 (midnight day +ℤ pos 86399 -ℤ high) w.last.0,
  ),
)

pub start_or_fault : (z : Zone) (day u : ℤ) (e : TzError) → IsStartOfDay z day u → ¬ IsStartFault z day e
start_or_fault z day u e start fault =
    let within = shown_within z day fault.low fault.high fault.window u start.shown in
    fault.never u within.0 within.1 start.shown.0 start.shown.1

pub skipped_or_fault : (z : Zone) (day : ℤ) (e : TzError) → IsSkippedDay z day → ¬ IsStartFault z day e
skipped_or_fault z day e skipped fault =
    let same = window_unique z day skipped.low skipped.high fault.low fault.high skipped.window fault.window in
    let (u, from, to, t, clock) = skipped.goes_on in
    fault.never u (omega (arith, ints, same, from)) (omega (arith, ints, same, to)) t clock

one_fault : (z : Zone) (u : ℤ) (e e' : TzError) → IsLookupFault z u e → IsLookupFault z u e' → e ≡ e'
one_fault z u e e' (inl (is, over)) (inl (is', over')) = is ∙ sym is'
one_fault z u e e' (inl (is, over)) (inr (is', none, not_over)) = absurd (not_over over)
one_fault z u e e' (inr (is, none, not_over)) (inl (is', over)) = absurd (not_over over)
one_fault z u e e' (inr (is, none, not_over)) (inr (is', none', not_over')) = is ∙ sym is'

pub fault_unique : (z : Zone) (day : ℤ) (e e' : TzError) → IsStartFault z day e → IsStartFault z day e' → e ≡ e'
fault_unique z day e e' a b =
    let same = window_unique z day a.low a.high b.low b.high a.window b.window in
    one_fault z b.low e e' (subst (λ (u : ℤ). IsLookupFault z u e) same.0 a.fault) b.fault

-- the date that the clock shows at the start
pub date_at_start : (z : Zone) (d : Date) (start : DateTime) → IsDate d → StartsDay z (number_of d) start
    → date_of start.fields.year start.fields.month start.fields.month_day ≡ d
date_at_start z d start is (begins, (t, clock, shows)) =
    let f = start.fields in
    let (t', clock', of_day) = begins.shown in
    let same = ap (λ (x : LocalTimeType). x.ut_offset) (one_type z start.unix_time t t' clock clock') in
    let range = shows.civil.valid.in_range in
    let day : day_number f.year f.month f.month_day ≡ number_of d = omega (
      arith,
      ints,
      same,
      of_day,
      shows.civil.reads,
      shows.civil.below_60,
      range.hour,
      range.minute,
    ) in
    let parts = date_unique f.year f.month f.month_day d.year d.month d.month_day (valid_day f shows.civil.valid)
    is.day_is day in
    same_parts (date_of f.year f.month f.month_day) d parts.0 parts.1 parts.2

pub not_before_start : (z : Zone) (day u : ℤ) → IsStartOfDay z day u → ¬ ShowsDay z day (u -ℤ pos 1)
not_before_start z day u start shown = omega (arith, ints, start.least (u -ℤ pos 1) shown)
