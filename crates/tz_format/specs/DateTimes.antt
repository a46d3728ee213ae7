-- What date times show.
use Rattle.std.specs.Prelude.{pos, codes}
use Rattle.tz_base.specs.declared.fields.Fields.{Fields}
use Rattle.tz_base.specs.Fields.{reading}
use Rattle.tz_rule.specs.LocalTimeType.{designation_text}
use Rattle.tz.specs.DateTimes.{DateTime}
use Rattle.tz_format.specs.Shown.{Shown}

-- what a date time shows
abbrev pub shown_date_time : DateTime → Shown
shown_date_time d = record {
  fields = d.fields;
  ut_offset = d.local_time_type.ut_offset;
  designation = designation_text d.local_time_type;
  unix_time = d.unix_time;
}

-- what a date time of UTC shows
abbrev pub shown_utc : Fields → Shown
shown_utc f = record {
  fields = f;
  ut_offset = pos 0;
  designation = codes "UTC";
  unix_time = reading f;
}
