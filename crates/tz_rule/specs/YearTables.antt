-- Tables of the fourteen kinds of years: for each kind, how many seconds after 00:00 UTC of January
-- 1st an instant of the year is.
use Rattle.std.specs.Prelude.{◌≡◌, ◌⊎◌, ℕ, zero, suc, ◌*◌, ◌<◌, Bool, ◌&&◌, ℤ, pos, negsuc, ◌+ℤ◌, ◌-ℤ◌, ◌*ℤ◌, ◌≤ℤ◌, ◌<ℤ◌, List, length, map, slice_index_or, int_le, int_lt}
use Rattle.std.specs.Int.{int_min, int_max}
use Rattle.std.specs.List.{range_with_len}
use Rattle.tz_base.specs.Days.{first_day}
use Rattle.tz_rule.specs.Alternate.{AlternateTime}
use Rattle.tz_rule.specs.Kinds.{year_kind, is_leap_kind, week_day_of_kind, first_kind, second_kind, first_days}
use Rattle.tz_rule.specs.YearDays.{year_day_of}
use Rattle.tz_rule.specs.declared.timezone.rule_day.RuleDay.{RuleDay}

-- the seconds of a kind
abbrev pub entry : List ℤ → ℕ → ℤ
entry table kind = slice_index_or table kind (pos 0)

-- the instant of a year by a table
unfoldable pub instant_in : List ℤ → ℤ → ℤ
instant_in table year = pos 86400 *ℤ first_day year +ℤ entry table (year_kind year)

-- a distance in years at which the order of a start and an end can differ between years: the year
-- before, the same year, the year after
abbrev pub IsNear : ℤ → Type 0
IsNear distance = (negsuc 0 ≤ℤ distance) × (distance ≤ℤ pos 1)

-- the table determines for every whole year how long after 00:00 UTC of January 1st its instant is
pub record IsTableOf (instants : ℤ → ℤ) (table : List ℤ) : Type 0 where
  pub size : length table ≡ 14
  pub entries : (year : ℤ) → entry table (year_kind year)
      ≡ instants year -ℤ pos 86400 *ℤ first_day year

-- from 00:00 UTC of January 1st to this many seconds after 00:00 UTC of a rule day, in the years of
-- a kind
abbrev pub seconds_in_kind : RuleDay → ℤ → ℕ → ℤ
seconds_in_kind day seconds kind =
    pos (86400 * year_day_of day (is_leap_kind kind) (week_day_of_kind kind)) +ℤ seconds

unfoldable pub day_table : RuleDay → ℤ → List ℤ
day_table day seconds = map (seconds_in_kind day seconds) (range_with_len 0 14)

-- the tables of a rule's starts and ends
unfoldable pub start_table : AlternateTime → List ℤ
start_table r = day_table r.dst_start (r.dst_start_time -ℤ r.std.ut_offset)

unfoldable pub end_table : AlternateTime → List ℤ
end_table r = day_table r.dst_end (r.dst_end_time -ℤ r.dst.ut_offset)

-- no kind's seconds are below the one number or above the other
abbrev pub AreBounds : List ℤ → ℤ → ℤ → Type 0
AreBounds table least greatest = (kind : ℕ) → kind < 14 → (least ≤ℤ entry table kind)
    × (entry table kind ≤ℤ greatest)

-- the least and the greatest of the first kinds' seconds, within 32 bits
unfoldable pub least_entry : List ℤ → ℕ → ℤ
least_entry table zero = pos 2147483647
least_entry table (suc kinds) = int_min (least_entry table kinds) (entry table kinds)

unfoldable pub greatest_entry : List ℤ → ℕ → ℤ
greatest_entry table zero = negsuc 2147483647
greatest_entry table (suc kinds) = int_max (greatest_entry table kinds) (entry table kinds)

-- both are those of all kinds
abbrev pub AreExactBounds : List ℤ → ℤ → ℤ → Type 0
AreExactBounds table least greatest = (least ≡ least_entry table 14)
    × (greatest ≡ greatest_entry table 14)

-- in all years the instant is ten days or more from the ends of the year, also if that has 365 days
abbrev pub is_inner : List ℤ → Bool
is_inner table = int_le (pos 864000) (least_entry table 14) && int_lt (greatest_entry table 14)
    (pos 30672000)

-- in the years of some kind the first instant comes before the second
abbrev pub ComesFirst : List ℤ → List ℤ → Type 0
ComesFirst a b = (kind : ℕ) × (kind < 14) × (entry a kind <ℤ entry b kind)

-- from 00:00 UTC of January 1st of the first year of a pair kind to the instant of the second year
abbrev pub next_entry : List ℤ → ℕ → ℤ
next_entry b pair = entry b (second_kind pair) +ℤ pos (86400 * first_days pair)

-- in some pair kind the first year's instant comes before the second year's, and after it
abbrev pub ComesBeforeNext : List ℤ → List ℤ → Type 0
ComesBeforeNext a b = (pair : ℕ) × (pair < 21) × (entry a (first_kind pair) <ℤ next_entry b pair)

abbrev pub ComesAfterNext : List ℤ → List ℤ → Type 0
ComesAfterNext a b = (pair : ℕ) × (pair < 21) × (next_entry b pair <ℤ entry a (first_kind pair))

-- the first of two instants and the second of the next year change their order
abbrev pub ChangesAcrossYears : List ℤ → List ℤ → Type 0
ChangesAcrossYears a b = ComesBeforeNext a b × ComesAfterNext a b

-- starts and ends change their order within a year or between neighbours
abbrev pub ChangesOrder : List ℤ → List ℤ → Type 0
ChangesOrder starts ends = (ComesFirst starts ends × ComesFirst ends starts)
    ⊎ ChangesAcrossYears starts ends ⊎ ChangesAcrossYears ends starts
