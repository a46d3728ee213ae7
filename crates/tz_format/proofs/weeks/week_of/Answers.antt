-- Where the Thursday is decides the year, and how far it is in that year the number.
use Rattle.std.proofs.Common.{arith, rules, ap, ◌≡◌, ◌∙◌, ◌<◌, ◌≤◌, ◌+◌, ◌-◌, ◌-ℤ◌, pos}
use Rattle.std.proofs.lemmas.Int.{ints, to_z-of_z}
use mir.Syntax.{w32}
use Rattle.std.specs.Prelude.{unsigned_abs}
use Rattle.tz_base.specs.Days.{year_length}
use Rattle.tz_format.specs.Weeks.{year_day, days_since_monday}
use Rattle.tz_format.proofs.WeekForms.{week_before, week_within, week_after}
use Rattle.tz_format.proofs.weeks.week_of.Goals as goal

pub returns-then-days-since_monday-clause-year : goal.returns-then-days-since_monday-clause-year
returns-then-days-since_monday-clause-year c =
    let f = c.args.fields.now in
    let day : c.year_day-days.result ≡ year_day f = ap unsigned_abs c.year_day-days.ensures.value in
    let monday : c.from-since_monday.result ≡ days_since_monday f =
    c.from-since_monday.ensures ∙ c.days_since_monday.ensures.value in
    let before : year_day f + 3 < days_since_monday f = omega (arith, day, monday, c.if-days-since_monday.true) in
    rw (week_before f before) (omega (arith, ints))

pub returns-then-days-since_monday-clause-number : goal.returns-then-days-since_monday-clause-number
returns-then-days-since_monday-clause-number c =
    let f = c.args.fields.now in
    let day : c.year_day-days.result ≡ year_day f = ap unsigned_abs c.year_day-days.ensures.value in
    let monday : c.from-since_monday.result ≡ days_since_monday f =
    c.from-since_monday.ensures ∙ c.days_since_monday.ensures.value in
    let before : year_day f + 3 < days_since_monday f = omega (arith, day, monday, c.if-days-since_monday.true) in
    let length : c.days_of_year_before.result ≡ year_length (f.year -ℤ pos 1) =
    rw (to_z-of_z w32 f.year (search rules)) at c.days_of_year_before.ensures.value in
    rw (week_before f before, ← length, ← day, ← monday)
    (omega (arith, c.days_of_year_before.ensures.bound, c.if-days-since_monday.true))

pub returns-then-thursday-days_of_year-clause-year : goal.returns-then-thursday-days_of_year-clause-year
returns-then-thursday-days_of_year-clause-year c =
    let f = c.args.fields.now in
    let day : c.year_day-days.result ≡ year_day f = ap unsigned_abs c.year_day-days.ensures.value in
    let monday : c.from-since_monday.result ≡ days_since_monday f =
    c.from-since_monday.ensures ∙ c.days_since_monday.ensures.value in
    let length : c.days_of_year-days_of_year.result ≡ year_length f.year =
    rw (to_z-of_z w32 f.year (search rules)) at c.days_of_year-days_of_year.ensures.value in
    let from : days_since_monday f ≤ year_day f + 3 = omega (arith, day, monday, c.if-days-since_monday.false) in
    let within : year_day f + 3 - days_since_monday f < year_length f.year =
    omega (arith, day, monday, length, c.if-thursday-days_of_year.true) in
    rw (week_within f from within) (omega (arith, ints))

pub returns-then-thursday-days_of_year-clause-number : goal.returns-then-thursday-days_of_year-clause-number
returns-then-thursday-days_of_year-clause-number c =
    let f = c.args.fields.now in
    let day : c.year_day-days.result ≡ year_day f = ap unsigned_abs c.year_day-days.ensures.value in
    let monday : c.from-since_monday.result ≡ days_since_monday f =
    c.from-since_monday.ensures ∙ c.days_since_monday.ensures.value in
    let length : c.days_of_year-days_of_year.result ≡ year_length f.year =
    rw (to_z-of_z w32 f.year (search rules)) at c.days_of_year-days_of_year.ensures.value in
    let from : days_since_monday f ≤ year_day f + 3 = omega (arith, day, monday, c.if-days-since_monday.false) in
    let within : year_day f + 3 - days_since_monday f < year_length f.year =
    omega (arith, day, monday, length, c.if-thursday-days_of_year.true) in
    rw (week_within f from within, ← day, ← monday) (omega arith)

pub returns-else-thursday-days_of_year-clause-year : goal.returns-else-thursday-days_of_year-clause-year
returns-else-thursday-days_of_year-clause-year c =
    let f = c.args.fields.now in
    let day : c.year_day-days.result ≡ year_day f = ap unsigned_abs c.year_day-days.ensures.value in
    let monday : c.from-since_monday.result ≡ days_since_monday f =
    c.from-since_monday.ensures ∙ c.days_since_monday.ensures.value in
    let length : c.days_of_year-days_of_year.result ≡ year_length f.year =
    rw (to_z-of_z w32 f.year (search rules)) at c.days_of_year-days_of_year.ensures.value in
    let from : days_since_monday f ≤ year_day f + 3 = omega (arith, day, monday, c.if-days-since_monday.false) in
    let past : year_length f.year ≤ year_day f + 3 - days_since_monday f =
    omega (arith, day, monday, length, c.if-thursday-days_of_year.false) in
    rw (week_after f from past) (omega (arith, ints))

pub returns-else-thursday-days_of_year-clause-number : goal.returns-else-thursday-days_of_year-clause-number
returns-else-thursday-days_of_year-clause-number c =
    let f = c.args.fields.now in
    let day : c.year_day-days.result ≡ year_day f = ap unsigned_abs c.year_day-days.ensures.value in
    let monday : c.from-since_monday.result ≡ days_since_monday f =
    c.from-since_monday.ensures ∙ c.days_since_monday.ensures.value in
    let length : c.days_of_year-days_of_year.result ≡ year_length f.year =
    rw (to_z-of_z w32 f.year (search rules)) at c.days_of_year-days_of_year.ensures.value in
    let from : days_since_monday f ≤ year_day f + 3 = omega (arith, day, monday, c.if-days-since_monday.false) in
    let past : year_length f.year ≤ year_day f + 3 - days_since_monday f =
    omega (arith, day, monday, length, c.if-thursday-days_of_year.false) in
    rw (week_after f from past, ← length, ← day, ← monday) (omega arith)
