-- The week of a date, by where the Thursday of its week is.
use Rattle.std.proofs.Common.{arith, refl, ◌≡◌, ◌∙◌, ap, ◌<◌, ◌≤◌, ◌+◌, ◌-◌, ◌/◌, suc, pos, negsuc, ◌-ℤ◌, ◌+ℤ◌}
use Rattle.std.proofs.lemmas.Bool.{lt-ltb, le-ltb}
use Rattle.std.proofs.lemmas.Int.{ints}
use Rattle.tz_base.specs.declared.fields.Fields.{Fields}
use Rattle.tz_base.specs.Days.{year_length}
use Rattle.tz_format.specs.Weeks.{week_of, week_of_thursday, year_day, days_since_monday}

pub week_before : (f : Fields) → year_day f + 3 < days_since_monday f → week_of f ≡ record {
  year = f.year -ℤ pos 1;
  number = (year_length (f.year -ℤ pos 1) - (days_since_monday f - (year_day f + 3))) / 7 + 1;
}
unfolding week_of
week_before f before =
    let days : pos (year_day f + 3) -ℤ pos (days_since_monday f) ≡ negsuc (days_since_monday f - (year_day f + 3) - 1) =
    omega (arith, ints) in
    let one_more : suc (days_since_monday f - (year_day f + 3) - 1) ≡ days_since_monday f - (year_day f + 3) =
    omega (arith, before) in
    ap (week_of_thursday f.year) days ∙ rw one_more refl

after : (f : Fields) → days_since_monday f ≤ year_day f + 3
    → week_of f ≡ week_of_thursday f.year (pos (year_day f + 3 - days_since_monday f))
unfolding week_of
after f from =
    let days : pos (year_day f + 3) -ℤ pos (days_since_monday f) ≡ pos (year_day f + 3 - days_since_monday f) =
    omega (arith, ints) in
    ap (week_of_thursday f.year) days

pub week_within : (f : Fields) → days_since_monday f ≤ year_day f + 3
    → year_day f + 3 - days_since_monday f < year_length f.year → week_of f ≡ record {
      year = f.year;
      number = (year_day f + 3 - days_since_monday f) / 7 + 1;
    }
week_within f from below =
    after f from ∙ rw (lt-ltb (year_day f + 3 - days_since_monday f) (year_length f.year) below) refl

pub week_after : (f : Fields) → days_since_monday f ≤ year_day f + 3
    → year_length f.year ≤ year_day f + 3 - days_since_monday f → week_of f ≡ record {
      year = f.year +ℤ pos 1;
      number = (year_day f + 3 - days_since_monday f - year_length f.year) / 7 + 1;
    }
week_after f from above =
    after f from ∙ rw (le-ltb (year_day f + 3 - days_since_monday f) (year_length f.year) above) refl
