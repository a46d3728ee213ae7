-- Why a text is no TZ string: the reading reaches a position, and what has to hold there does not.
-- (POSIX.1-2017, Base Definitions, 8.3; RFC 8536, section 3.3.1.) A bad name and a number out of
-- range do not stop the reading; a missing number and a missing or wrong byte do.
use Rattle.std.specs.Prelude.{◌≡◌, ◌≢◌, ℕ, ◌^◌, ◌<◌, ◌≤◌, Bool, false, ◌⊎◌, pos, Some}
use Rattle.std.specs.Prelude.{List, [], ◌∷◌, take_while}
use Rattle.std.specs.Char.{is_ascii_digit}
use Rattle.std.specs.Str.Parse.{error_kind}
use Rattle.std.specs.declared.num.IntErrorKind.{IntErrorKind}
use Rattle.std.specs.declared.num.IntErrorKind.TheVariants.{Empty as NoDigits, PosOverflow}
use Rattle.std.specs.declared.num.ParseIntError.{ParseIntError}
use Rattle.tz_base.specs.declared.error.TzError.{TzError}
use Rattle.tz_base.specs.declared.error.TzError.TheVariants.{TzString, LocalTimeType as TypeFault, TransitionRule}
use Rattle.tz_base.specs.declared.error.ParseDataError.{ParseDataError}
use Rattle.tz_base.specs.declared.error.ParseDataError.TheVariants.{UnexpectedEof, InvalidData}
use Rattle.tz_base.specs.declared.error.TzStringError.{TzStringError}
use Rattle.tz_base.specs.declared.error.TzStringError.TheVariants.{ParseInt, ParseData, InvalidOffsetHour, InvalidOffsetMinute, InvalidOffsetSecond, InvalidDayTimeHour, InvalidDayTimeMinute, InvalidDayTimeSecond, MissingDstStartEndRules, RemainingData}
use Rattle.tz_base.specs.declared.error.LocalTimeTypeError.{LocalTimeTypeError}
use Rattle.tz_base.specs.declared.error.TransitionRuleError.{TransitionRuleError}
use Rattle.tz_base.specs.declared.error.TransitionRuleError.TheVariants.{InvalidRuleDayJulianDay, InvalidRuleDayMonth, InvalidRuleDayWeek, InvalidRuleDayWeekDay}
use Rattle.tz_rule.specs.LocalTimeType.{IsFirstTypeFault, type_of}
use Rattle.tz_rule.specs.RuleDayNumbers.{IsJulianDay, IsZeroBasedDay}
use Rattle.tz_rule.specs.MonthWeek.{IsRuleMonth, IsRuleWeek, IsRuleWeekDay}
use Rattle.tz_rule.specs.Alternate.{IsFirstRuleFault}
use Rattle.tz_zone.specs.Bytes.{capital_j, capital_m, colon, comma, dot, opening_bracket, slash}
use Rattle.tz_zone.specs.declared.parse.tz_string.WrittenTime.{WrittenTime}
use Rattle.tz_zone.specs.TzText.{Begins, IsRun, IsNumber, is_in_brackets, IsName, IsPart, IsHms, IsSign, IsSignedTime, IsDayTimeSign, IsDay, IsRuleText, IsDaylightOffset, AlternateText, IsAlternateText, IsAlternateInRange, offset_hours, day_time_hours, rule_of}

-- something is read at the front, and this holds of it and of the bytes after
abbrev pub Reached : {A : Type 0} → (List ℕ → A → List ℕ → Type 0) → List ℕ → (A → List ℕ → Type 0)
    → Type 0
Reached {A} reads text holds = (x : A) × (rest : List ℕ) × reads text x rest × holds x rest

-- the byte does not stand at the front, because the text is over or because of another one
abbrev pub IsMissingByte : ℕ → List ℕ → ParseDataError → Type 0
IsMissingByte byte text UnexpectedEof = text ≡ []
IsMissingByte byte text InvalidData = (text ≢ []) × ¬ Begins byte text

-- the refusal of a number, with the kind that the conversion names
abbrev pub IsParseInt : IntErrorKind → TzStringError → Type 0
IsParseInt kind e = (inner : ParseIntError) × (e ≡ ParseInt inner) × (error_kind inner ≡ kind)

-- no digit stands at the front, or the number there does not fit this many bits
abbrev pub IsNumberFault : ℕ → List ℕ → TzStringError → Type 0
IsNumberFault bits text e =
    (IsParseInt NoDigits e × (take_while is_ascii_digit text ≡ []))
    ⊎ (IsParseInt PosOverflow e × Reached IsNumber text (λ n rest. 2 ^ bits ≤ n))

-- names for the faults of a time's numbers
pub record TimeFaults : Type 0 where
  pub hour : TzStringError
  pub minute : TzStringError
  pub second : TzStringError

abbrev pub offset_faults : TimeFaults
offset_faults = record {
  hour = InvalidOffsetHour;
  minute = InvalidOffsetMinute;
  second = InvalidOffsetSecond;
}

abbrev pub day_time_faults : TimeFaults
day_time_faults = record {
  hour = InvalidDayTimeHour;
  minute = InvalidDayTimeMinute;
  second = InvalidDayTimeSecond;
}

-- no number of minutes or seconds follows a colon
abbrev pub IsPartFault : List ℕ → TzStringError → Type 0
IsPartFault text e = (number : List ℕ) × (text ≡ colon ∷ number) × IsNumberFault 31 number e

-- a number of a time is missing or does not fit 31 bits
abbrev pub IsTimeFault : List ℕ → TzStringError → Type 0
IsTimeFault text e =
    IsNumberFault 31 text e
    ⊎ Reached IsNumber text (λ n after_hours. IsPartFault after_hours e
    ⊎ Reached IsPart after_hours (λ n after_minutes. IsPartFault after_minutes e))

-- a time that is read has a number above its limit, and the first such is named
abbrev pub IsTimeAbove : ℕ → TimeFaults → WrittenTime → TzStringError → Type 0
IsTimeAbove hours faults t e =
    ((e ≡ faults.hour) × (hours < t.hours))
    ⊎ ((e ≡ faults.minute) × (t.hours ≤ hours) × (59 < t.minutes))
    ⊎ ((e ≡ faults.second) × (t.hours ≤ hours) × (t.minutes ≤ 59) × (59 < t.seconds))

-- a number of a time is missing, or all are read and one is above its limit
abbrev pub IsHmsFault : ℕ → TimeFaults → List ℕ → TzStringError → Type 0
IsHmsFault hours faults text e =
    IsTimeFault text e ⊎ Reached IsHms text (λ t rest. IsTimeAbove hours faults t e)

abbrev pub IsOffsetFault : List ℕ → TzStringError → Type 0
IsOffsetFault text e = Reached IsSign text
    (λ minus unsigned. IsHmsFault offset_hours offset_faults unsigned e)

abbrev pub IsDayTimeFault : Bool → List ℕ → TzStringError → Type 0
IsDayTimeFault extended text e = Reached (IsDayTimeSign extended) text
    (λ minus unsigned. IsHmsFault (day_time_hours extended) day_time_faults unsigned e)

-- a fault of the text itself
abbrev pub InText : TzError → (TzStringError → Type 0) → Type 0
InText e is = (f : TzStringError) × (e ≡ TzString f) × is f

-- the byte is missing, or what follows it has a fault
abbrev pub FailsFrom : ℕ → List ℕ → TzError → (List ℕ → Type 0) → Type 0
FailsFrom byte text e fails =
    ((f : ParseDataError) × (e ≡ TzString (ParseData f)) × IsMissingByte byte text f)
    ⊎ ((rest : List ℕ) × (text ≡ byte ∷ rest) × fails rest)

-- a number of a day is missing or does not fit its type, or it is out of range
abbrev pub IsDayNumberFault : ℕ → (ℕ → Type 0) → TransitionRuleError → List ℕ → TzError → Type 0
IsDayNumberFault bits in_range named text e =
    InText e (IsNumberFault bits text)
    ⊎ ((e ≡ TransitionRule named) × Reached IsNumber text (λ n rest. ¬ in_range n))

abbrev pub IsMonthWeekDayFault : List ℕ → TzError → Type 0
IsMonthWeekDayFault text e =
    IsDayNumberFault 8 IsRuleMonth InvalidRuleDayMonth text e
    ⊎ Reached IsNumber text (λ month after_month. FailsFrom dot after_month e (λ week_text.
    IsDayNumberFault 8 IsRuleWeek InvalidRuleDayWeek week_text e
    ⊎ Reached IsNumber week_text (λ week after_week. FailsFrom dot after_week e (λ day_text.
    IsDayNumberFault 8 IsRuleWeekDay InvalidRuleDayWeekDay day_text e))))

abbrev pub IsDayFault : List ℕ → TzError → Type 0
IsDayFault text e =
    (¬ Begins capital_j text × ¬ Begins capital_m text
    × IsDayNumberFault 16 IsZeroBasedDay InvalidRuleDayJulianDay text e)
    ⊎ ((number : List ℕ) × (text ≡ capital_j ∷ number)
    × IsDayNumberFault 16 IsJulianDay InvalidRuleDayJulianDay number e)
    ⊎ ((month : List ℕ) × (text ≡ capital_m ∷ month) × IsMonthWeekDayFault month e)

-- a day, or the time after a slash
abbrev pub IsRuleTextFault : Bool → List ℕ → TzError → Type 0
IsRuleTextFault extended text e =
    IsDayFault text e
    ⊎ Reached IsDay text (λ day after_day. (time : List ℕ) × (after_day ≡ slash ∷ time)
    × InText e (IsDayTimeFault extended time))

-- the last rule, and nothing after it
abbrev pub IsLastRuleFault : Bool → List ℕ → TzError → Type 0
IsLastRuleFault extended text e =
    IsRuleTextFault extended text e
    ⊎ Reached (IsRuleText extended) text (λ end after_end. (after_end ≢ [])
    × (e ≡ TzString RemainingData))

-- the start, a comma and the end
abbrev pub IsRulesFault : Bool → List ℕ → TzError → Type 0
IsRulesFault extended text e =
    IsRuleTextFault extended text e
    ⊎ Reached (IsRuleText extended) text (λ start after_start. FailsFrom comma after_start e
    (λ end_text. IsLastRuleFault extended end_text e))

-- an angle bracket is not closed
abbrev pub IsUnclosed : List ℕ → Type 0
IsUnclosed text = (quoted : List ℕ) × (name : List ℕ) × (text ≡ opening_bracket ∷ quoted)
    × IsRun is_in_brackets quoted name []

-- a name is not closed, or is no designation
abbrev pub IsNameFault : List ℕ → TzError → Type 0
IsNameFault text e =
    ((e ≡ TzString (ParseData UnexpectedEof)) × IsUnclosed text)
    ⊎ Reached IsName text (λ name rest. (f : LocalTimeTypeError) × (e ≡ TypeFault f)
    × IsFirstTypeFault (type_of (pos 0) false (Some name)) f)

-- the text is over where rules have to follow
abbrev pub LacksRules : List ℕ → TzError → Type 0
LacksRules text e = (text ≡ []) × (e ≡ TzString MissingDstStartEndRules)

-- from the daylight name on
abbrev pub IsDaylightFault : Bool → List ℕ → TzError → Type 0
IsDaylightFault extended text e =
    IsNameFault text e
    ⊎ Reached IsName text (λ name after_name. LacksRules after_name e
    ⊎ ((after_name ≢ []) × ¬ Begins comma after_name × InText e (IsOffsetFault after_name))
    ⊎ Reached IsDaylightOffset after_name (λ offset after_offset. LacksRules after_offset e
    ⊎ ((after_offset ≢ []) × FailsFrom comma after_offset e
    (λ rules. IsRulesFault extended rules e))))

-- the whole text is read and in range, and its rule is refused
abbrev pub IsRefusedRule : Bool → List ℕ → TzError → Type 0
IsRefusedRule extended text e =
    (a : AlternateText) × IsAlternateText extended text a × IsAlternateInRange extended a
    × (f : TransitionRuleError) × (e ≡ TransitionRule f) × IsFirstRuleFault (rule_of a) f

abbrev pub IsTzTextFault : Bool → List ℕ → TzError → Type 0
IsTzTextFault extended text e =
    IsNameFault text e
    ⊎ Reached IsName text (λ name after_name. InText e (IsOffsetFault after_name)
    ⊎ Reached IsSignedTime after_name (λ offset after_offset. (after_offset ≢ [])
    × IsDaylightFault extended after_offset e))
    ⊎ IsRefusedRule extended text e
