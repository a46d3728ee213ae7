-- Date times, and what a search finds, as C has them.
use Rattle.std.specs.Prelude.{◌≡◌, ℕ, List, false, true, map, drop}
use Rattle.tz_base.specs.Fields.{reading}
use Rattle.tz.specs.DateTimes.{DateTime, IsUtc}
use Rattle.tz.specs.declared.datetime.found.FoundDateTimeKind.{FoundDateTimeKind}
use Rattle.tz.specs.declared.datetime.found.FoundDateTimeKind.TheVariants.{Normal, Skipped}
use Rattle.tz_c.specs.declared.date_time_data.UtcData.{UtcData}
use Rattle.tz_c.specs.declared.date_time_data.DateTimeData.{DateTimeData}
use Rattle.tz_c.specs.declared.date_time_data.FoundData.{FoundData}

-- the data of a date time of UTC
pub record IsUtcData (d : UtcData) : Type 0 where
  pub utc : IsUtc d.fields
  pub reads : d.unix_time ≡ reading d.fields

-- the data of a date time, and what it is the data of
abbrev pub date_time_data : DateTime → DateTimeData
date_time_data d = record {
  fields = d.fields;
  local_time_type = d.local_time_type;
  unix_time = d.unix_time;
}

abbrev pub date_time_of : DateTimeData → DateTime
date_time_of d = record {
  fields = d.fields;
  local_time_type = d.local_time_type;
  unix_time = d.unix_time;
}

-- the data of what is found: a date time is on both sides
abbrev pub found_data : FoundDateTimeKind → FoundData
found_data (Normal d) = record {
  is_skipped = false;
  before = date_time_data d;
  after = date_time_data d;
}
found_data (Skipped before after) = record {
  is_skipped = true;
  before = date_time_data before;
  after = date_time_data after;
}

-- the data of a list from a number on
abbrev pub entries_from : ℕ → List FoundDateTimeKind → List FoundData
entries_from skip found = map found_data (drop skip found)
