-- The grammar of TZ strings, and the rules that they denote. (POSIX.1-2017, Base Definitions, 8.3:
-- the TZ variable. RFC 8536, section 3.3.1: extended day times.) A part of the grammar is a
-- relation of a text, of what is read at its front, and of the bytes after. Runs are the longest
-- ones, and the reading asks for no range.
use Rattle.std.specs.Prelude.{◌≡◌, ◌≢◌, ℕ, ◌+◌, ◌*◌, ◌≤◌, ◌==◌, Bool, true, false, not, ◌⊎◌, ℤ, pos, neg_ℤ, ◌+ℤ◌, List, [], ◌∷◌, ◌++◌, take_while, Option, Some, None, IfSome, if◌then◌else◌}
use Rattle.std.specs.Char.{is_ascii_digit, is_ascii_alphabetic}
use Rattle.std.specs.Str.Parse.{digits_value}
use Rattle.tz_rule.specs.LocalTimeType.{LocalTimeType, IsDesignation, type_of}
use Rattle.tz_rule.specs.RuleDays.{IsRuleDay}
use Rattle.tz_rule.specs.MonthWeek.{MonthWeek}
use Rattle.tz_rule.specs.Alternate.{AlternateTime, alternate_of, IsConsistentRule}
use Rattle.tz_rule.specs.declared.timezone.rule_day.RuleDay.{RuleDay}
use Rattle.tz_rule.specs.declared.timezone.rule_day.RuleDay.TheVariants.{Julian1WithoutLeap, Julian0WithLeap, MonthWeekDay}
use Rattle.tz_rule.specs.declared.timezone.transition_rule.TransitionRule.{TransitionRule}
use Rattle.tz_rule.specs.declared.timezone.transition_rule.TransitionRule.TheVariants.{Fixed, Alternate as Alternating}
use Rattle.tz_zone.specs.Bytes.{capital_j, capital_m, closing_bracket, colon, comma, dot, minus_sign, opening_bracket, plus_sign, slash}
use Rattle.tz_zone.specs.declared.parse.tz_string.DayAndTime.{DayAndTime}
use Rattle.tz_zone.specs.declared.parse.tz_string.WrittenTime.{WrittenTime}

-- a time as it is written, and a day with a time: the reader's own types, which the crates above
-- name so
abbrev pub TimeText : Type 0
TimeText = WrittenTime

abbrev pub SwitchText : Type 0
SwitchText = DayAndTime

-- the byte stands at the front
abbrev pub Begins : ℕ → List ℕ → Type 0
Begins byte text = (rest : List ℕ) × (text ≡ byte ∷ rest)

-- the longest run of bytes that pass a test
pub record IsRun (test : ℕ → Bool) (text run rest : List ℕ) : Type 0 where
  pub longest : run ≡ take_while test text
  pub parts : text ≡ run ++ rest

-- one decimal digit or more
pub record IsNumber (text : List ℕ) (n : ℕ) (rest : List ℕ) : Type 0 where
  pub digits : List ℕ
  pub run : IsRun is_ascii_digit text digits rest
  pub some : digits ≢ []
  pub value : n ≡ digits_value 10 digits

-- a name between angle brackets, or a run of letters
abbrev pub is_in_brackets : ℕ → Bool
is_in_brackets byte = not (byte == closing_bracket)

abbrev pub IsName : List ℕ → List ℕ → List ℕ → Type 0
IsName text name rest =
    ((quoted : List ℕ) × (text ≡ opening_bracket ∷ quoted)
    × IsRun is_in_brackets quoted name (closing_bracket ∷ rest))
    ⊎ (¬ Begins opening_bracket text × IsRun is_ascii_alphabetic text name rest)

-- a time is written as its numbers, with a sign or without; this one has no minus
abbrev pub plain_time : ℕ → ℕ → ℕ → WrittenTime
plain_time hours minutes seconds = record {
  minus = false;
  hours = hours;
  minutes = minutes;
  seconds = seconds;
}

-- a colon and a number, or 0 where no colon stands
abbrev pub IsPart : List ℕ → ℕ → List ℕ → Type 0
IsPart text n rest =
    ((number : List ℕ) × (text ≡ colon ∷ number) × IsNumber number n rest)
    ⊎ (¬ Begins colon text × (n ≡ 0) × (rest ≡ text))

-- hours, minutes and seconds, whatever sign the time has
pub record IsHms (text : List ℕ) (t : WrittenTime) (rest : List ℕ) : Type 0 where
  pub after_hours : List ℕ
  pub after_minutes : List ℕ
  pub hours_are : IsNumber text t.hours after_hours
  pub minutes_are : IsPart after_hours t.minutes after_minutes
  pub seconds_are : IsPart after_minutes t.seconds rest

-- a sign, or none
abbrev pub IsSign : List ℕ → Bool → List ℕ → Type 0
IsSign text minus rest =
    ((text ≡ minus_sign ∷ rest) × (minus ≡ true))
    ⊎ ((text ≡ plus_sign ∷ rest) × (minus ≡ false))
    ⊎ (¬ Begins minus_sign text × ¬ Begins plus_sign text × (rest ≡ text) × (minus ≡ false))

abbrev pub IsSignedTime : List ℕ → WrittenTime → List ℕ → Type 0
IsSignedTime text t rest = (unsigned : List ℕ) × IsSign text t.minus unsigned
    × IsHms unsigned t rest

-- the time of day in a rule has a sign in extended texts alone
abbrev pub IsDayTimeSign : Bool → List ℕ → Bool → List ℕ → Type 0
IsDayTimeSign true text minus rest = IsSign text minus rest
IsDayTimeSign false text minus rest = (minus ≡ false) × (rest ≡ text)

abbrev pub IsDayTime : Bool → List ℕ → WrittenTime → List ℕ → Type 0
IsDayTime extended text t rest = (unsigned : List ℕ) × IsDayTimeSign extended text t.minus unsigned
    × IsHms unsigned t rest

-- Jn, n or Mm.w.d
abbrev pub IsMonthWeekText : List ℕ → MonthWeek → List ℕ → Type 0
IsMonthWeekText text d rest =
    (week : List ℕ) × (week_day : List ℕ)
    × IsNumber text d.month (dot ∷ week) × IsNumber week d.week (dot ∷ week_day)
    × IsNumber week_day d.week_day rest

abbrev pub IsDay : List ℕ → RuleDay → List ℕ → Type 0
IsDay text (Julian1WithoutLeap n) rest = (number : List ℕ) × (text ≡ capital_j ∷ number)
    × IsNumber number n rest
IsDay text (Julian0WithLeap n) rest = IsNumber text n rest
IsDay text (MonthWeekDay d) rest = (month : List ℕ) × (text ≡ capital_m ∷ month)
    × IsMonthWeekText month d rest

-- a slash and a time of day, or two o'clock where no slash stands
abbrev pub IsTimeOfRule : Bool → List ℕ → WrittenTime → List ℕ → Type 0
IsTimeOfRule extended text t rest =
    ((time : List ℕ) × (text ≡ slash ∷ time) × IsDayTime extended time t rest)
    ⊎ (¬ Begins slash text × (t ≡ plain_time 2 0 0) × (rest ≡ text))

abbrev pub IsRuleText : Bool → List ℕ → DayAndTime → List ℕ → Type 0
IsRuleText extended text rule rest = (after_day : List ℕ) × IsDay text rule.day after_day
    × IsTimeOfRule extended after_day rule.time rest

-- an offset, or none where a comma stands
abbrev pub IsDaylightOffset : List ℕ → Option WrittenTime → List ℕ → Type 0
IsDaylightOffset text None rest = Begins comma text × (rest ≡ text)
IsDaylightOffset text (Some t) rest = ¬ Begins comma text × IsSignedTime text t rest

-- what a text with daylight saving time says
pub record AlternateText : Type 0 where
  pub std_name : List ℕ
  pub std_offset : WrittenTime
  pub dst_name : List ℕ
  pub dst_offset : Option WrittenTime
  pub start : DayAndTime
  pub end : DayAndTime

-- a name and its offset
pub record IsNameAndOffset (text name : List ℕ) (offset : WrittenTime) (rest : List ℕ) : Type 0
  where
    pub after_name : List ℕ
    pub name_is : IsName text name after_name
    pub offset_is : IsSignedTime after_name offset rest

-- the whole text: the standard name and offset, the daylight name and offset, the two rules after
-- commas
pub record IsAlternateText (extended : Bool) (text : List ℕ) (a : AlternateText) : Type 0 where
  pub after_std : List ℕ
  pub after_dst_name : List ℕ
  pub start_text : List ℕ
  pub end_text : List ℕ
  pub std_is : IsNameAndOffset text a.std_name a.std_offset after_std
  pub dst_name_is : IsName after_std a.dst_name after_dst_name
  pub dst_offset_is : IsDaylightOffset after_dst_name a.dst_offset (comma ∷ start_text)
  pub start_is : IsRuleText extended start_text a.start (comma ∷ end_text)
  pub end_is : IsRuleText extended end_text a.end []

-- ranges: this many hours at most, and minutes and seconds below 60
pub record IsTimeUpTo (hours : ℕ) (t : WrittenTime) : Type 0 where
  pub hours_are : t.hours ≤ hours
  pub minutes_are : t.minutes ≤ 59
  pub seconds_are : t.seconds ≤ 59

-- the greatest hour of an offset, and of a day time: a week less an hour in extended texts
abbrev pub offset_hours : ℕ
offset_hours = 24

abbrev pub day_time_hours : Bool → ℕ
day_time_hours true = 167
day_time_hours false = 24

-- the numbers of a rule's day and time are in range
pub record IsRuleInRange (extended : Bool) (rule : DayAndTime) : Type 0 where
  pub day_is : IsRuleDay rule.day
  pub time_is : IsTimeUpTo (day_time_hours extended) rule.time

pub record IsAlternateInRange (extended : Bool) (a : AlternateText) : Type 0 where
  pub std_name_is : IsDesignation a.std_name
  pub std_offset_is : IsTimeUpTo offset_hours a.std_offset
  pub dst_name_is : IsDesignation a.dst_name
  pub dst_offset_is : IfSome a.dst_offset (IsTimeUpTo offset_hours)
  pub start_is : IsRuleInRange extended a.start
  pub end_is : IsRuleInRange extended a.end

-- meaning: a time in seconds, its sign that of the whole
abbrev pub seconds_of : WrittenTime → ℤ
seconds_of t = let seconds = pos (3600 * t.hours + 60 * t.minutes + t.seconds) in
    if t.minus then neg_ℤ seconds else seconds

-- the seconds that are added to UTC: the text has those that are taken off
abbrev pub ut_offset_of : WrittenTime → ℤ
ut_offset_of t = neg_ℤ (seconds_of t)

-- daylight saving time is one hour ahead where the text has no offset for it
abbrev pub daylight_offset_of : WrittenTime → Option WrittenTime → ℤ
daylight_offset_of std (Some t) = ut_offset_of t
daylight_offset_of std None = ut_offset_of std +ℤ pos 3600

-- the types, and the rule that the text denotes
abbrev pub std_type_of : List ℕ → WrittenTime → LocalTimeType
std_type_of name offset = type_of (ut_offset_of offset) false (Some name)

abbrev pub dst_type_of : AlternateText → LocalTimeType
dst_type_of a = type_of (daylight_offset_of a.std_offset a.dst_offset) true (Some a.dst_name)

abbrev pub rule_of : AlternateText → AlternateTime
rule_of a = alternate_of (std_type_of a.std_name a.std_offset) (dst_type_of a) a.start.day
    (seconds_of a.start.time) a.end.day (seconds_of a.end.time)

-- the text is a name and an offset and denotes one type, or it denotes an alternate rule
abbrev pub IsTzText : Bool → List ℕ → TransitionRule → Type 0
IsTzText extended text (Fixed type) =
    (name : List ℕ) × (offset : WrittenTime) × IsNameAndOffset text name offset []
    × IsDesignation name × IsTimeUpTo offset_hours offset
    × (type ≡ std_type_of name offset)
IsTzText extended text (Alternating rule) =
    (a : AlternateText) × IsAlternateText extended text a × IsAlternateInRange extended a
    × IsConsistentRule (rule_of a) × (rule ≡ rule_of a)
