-- The date that is found is that of the day.
use Rattle.std.proofs.Common.{arith, rules}
use Rattle.std.proofs.lemmas.Int.{to_z-of_z}
use mir.Syntax.{w32}
use Rattle.tz_base.proofs.DatesOfDays.{year_before_january, year_from_january, date_before_january, date_from_january}
use Rattle.tz_base.proofs.calendar.date_of_day.Goals as goal

pub year_of_moved-requires : goal.year_of_moved-requires
year_of_moved-requires c = year_before_january _ _ _ c.march_year-march_year.ensures.value c.requires.0 c.requires.1
    (omega arith)

pub year_of_moved-requires-else-day_of_year-lt306 :
    goal.year_of_moved-requires-else-day_of_year-lt306
year_of_moved-requires-else-day_of_year-lt306 c =
    year_from_january _ _ _ c.march_year-march_year.ensures.value c.requires.0 c.requires.1
    (omega arith) c.march_year-march_year.ensures.bound.1

pub returns-then-day_of_year-lt306 : goal.returns-then-day_of_year-lt306
returns-then-day_of_year-lt306 c =
    let found = c.month_of_march_day-month.ensures in
    rw (to_z-of_z w32 c.year_of_moved.result (search rules), found.month, found.day)
    (date_before_january _ _ _ _ c.march_year-march_year.ensures.value c.requires.0
    (omega arith) c.year_of_moved.ensures)

pub returns-else-day_of_year-lt306 : goal.returns-else-day_of_year-lt306
returns-else-day_of_year-lt306 c =
    let found = c.month_of_march_day-month.ensures in
    let year = c.year_of_moved-else-day_of_year-lt306 in
    rw (to_z-of_z w32 year.result (search rules), found.month, found.day)
    (date_from_january _ _ _ _ c.march_year-march_year.ensures.value c.requires.0
    (omega arith) c.march_year-march_year.ensures.bound.1 c.march_year-march_year.ensures.leap year.ensures)
