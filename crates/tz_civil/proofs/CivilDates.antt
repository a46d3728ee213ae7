-- The numbers of dates: their bounds, and one date for each.
use Rattle.std.proofs.Common.{◌≡◌, arith, pos, negsuc, ◌≤ℤ◌, Option, None, Some}
use Rattle.std.proofs.lemmas.Int.{ints}
use Rattle.std.specs.Prelude.{IfNone, MatchOption}
use Rattle.tz_base.proofs.DateOrder.{date_unique}
use Rattle.tz_base.proofs.DaysOfYears.{day_in_year, first_day_bounds}
use Rattle.tz_civil.specs.Dates.{Date, IsDate, date_of, number_of}

-- the days of the years of 32 bits
pub date_bounds : (d : Date) → IsDate d → (negsuc 784353015832 ≤ℤ number_of d)
    × (number_of d ≤ℤ pos 784351576776)
date_bounds d is =
    let bounds = first_day_bounds d.year is.year_is in
    let day = is.day_is in
    let in_year = day_in_year d.year d.month d.month_day day.month_is.0 day.month_is.1 day.month_day_is.0
    day.month_day_is.1 in
    (omega (arith, ints, bounds, in_year), omega (arith, ints, bounds, in_year))

pub same_parts : (d e : Date) → d.year ≡ e.year → d.month ≡ e.month → d.month_day ≡ e.month_day → d ≡ e
same_parts d e year month month_day =
    let same : date_of d.year d.month d.month_day ≡ date_of e.year e.month e.month_day = cc in same

-- a day has one date
pub one_date : (d e : Date) → IsDate d → IsDate e → number_of d ≡ number_of e → d ≡ e
one_date d e is is' same =
    let parts = date_unique d.year d.month d.month_day e.year e.month e.month_day is.day_is is'.day_is same in
    same_parts d e parts.0 parts.1 parts.2

-- what follows where there is no value
pub IfNone_then : {X : Type 0} (r : Option X) (P Q : Type 0) → IfNone r P → (P → Q) → IfNone r Q
IfNone_then None P Q none then = then none
IfNone_then (Some x) P Q none then = tt

pub MatchOption_then : {X : Type 0} (r : Option X) (P P' : Type 0) (Q : X → Type 0) → MatchOption r P Q → (P → P')
    → MatchOption r P' Q
MatchOption_then None P P' Q none then = then none
MatchOption_then (Some x) P P' Q some then = some
