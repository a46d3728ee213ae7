-- The TZ string of a rule, and the rules that have one. (POSIX.1-2017, Base Definitions, 8.3: the
-- TZ variable. RFC 8536, section 3.3.1: extended times.) What a reader supplies by itself is left
-- out: minutes and seconds that are zero, two o'clock, and a daylight offset of an hour more.
use Rattle.std.specs.Prelude.{◌≡◌, ◌≢◌, ℕ, suc, ◌/◌, ◌%◌, ◌==◌, nat_lt, ◌⊎◌, ℤ, pos, negsuc, neg_ℤ, ◌+ℤ◌, ◌<ℤ◌, Bool, true, false, ◌&&◌, ◌||◌, List, [], ◌∷◌, ◌++◌, length, IfSome, None, if◌then◌else◌}
use Rattle.std.specs.Char.{is_ascii_alphabetic}
use Rattle.std.specs.Fmt.{decimal}
use Rattle.std.specs.List.{list_all}
use Rattle.std.specs.Ordering.{int_eq}
use Rattle.tz_rule.specs.Alternate.{AlternateTime}
use Rattle.tz_rule.specs.LocalTimeType.{LocalTimeType, IsDesignation, designation_text}
use Rattle.tz_rule.specs.declared.timezone.transition_rule.TransitionRule.{TransitionRule}
use Rattle.tz_rule.specs.declared.timezone.transition_rule.TransitionRule.TheVariants.{Fixed, Alternate as Alternating}
use Rattle.tz_rule.specs.declared.timezone.rule_day.RuleDay.{RuleDay}
use Rattle.tz_rule.specs.declared.timezone.rule_day.RuleDay.TheVariants.{Julian1WithoutLeap, Julian0WithLeap, MonthWeekDay}
use Rattle.tz_zone.specs.Bytes.{capital_j, capital_m, closing_bracket, colon, comma, dot, minus_sign, opening_bracket, slash}
use Rattle.tz_base.specs.PrintedText.{two_digits, seconds_text}

-- `:mm` or `:mm:ss`, unless both are zero, of the seconds of an hour
unfoldable pub minutes_text : ℕ → List ℕ
minutes_text n = if n == 0 then [] else colon ∷ two_digits (n / 60) ++ seconds_text (n % 60)

-- h, h:mm or h:mm:ss of this many seconds
unfoldable pub plain_time_text : ℕ → List ℕ
plain_time_text n = decimal (n / 3600) ++ minutes_text (n % 3600)

-- the same after a minus if the seconds are negative
unfoldable pub signed_time_text : ℤ → List ℕ
signed_time_text (pos n) = plain_time_text n
signed_time_text (negsuc n) = minus_sign ∷ plain_time_text (suc n)

-- the seconds that are taken off to have UTC
abbrev pub offset_of_text : ℤ → List ℕ
offset_of_text ut_offset = signed_time_text (neg_ℤ ut_offset)

-- three letters or more need no angle brackets
unfoldable pub is_bare : List ℕ → Bool
is_bare name = nat_lt 2 (length name) && list_all is_ascii_alphabetic name

unfoldable pub name_text : List ℕ → List ℕ
name_text name = if is_bare name then name else opening_bracket ∷ name ++ (closing_bracket ∷ [])

-- Jn, n or Mm.w.d
unfoldable pub day_text : RuleDay → List ℕ
day_text (Julian1WithoutLeap n) = capital_j ∷ decimal n
day_text (Julian0WithLeap n) = decimal n
day_text (MonthWeekDay d) = capital_m ∷ decimal d.month
    ++ (dot ∷ decimal d.week ++ (dot ∷ decimal d.week_day))

-- a slash and the time, unless it is two o'clock
unfoldable pub time_of_day_text : ℤ → List ℕ
time_of_day_text time = if int_eq time (pos 7200) then [] else slash ∷ signed_time_text time

abbrev pub turn_text : RuleDay → ℤ → List ℕ
turn_text day time = day_text day ++ time_of_day_text time

-- the daylight offset, unless it is an hour more than the standard one
unfoldable pub daylight_offset_text : ℤ → ℤ → List ℕ
daylight_offset_text std dst = if int_eq dst (std +ℤ pos 3600) then [] else offset_of_text dst

-- a type's name and its offset
abbrev pub name_and_offset_text : LocalTimeType → List ℕ
name_and_offset_text t = name_text (designation_text t) ++ offset_of_text t.ut_offset

-- the daylight name and its offset, and the two switches after commas
abbrev pub daylight_text : AlternateTime → List ℕ
daylight_text r =
    name_text (designation_text r.dst)
    ++ (daylight_offset_text r.std.ut_offset r.dst.ut_offset
    ++ (comma ∷ turn_text r.dst_start r.dst_start_time
    ++ (comma ∷ turn_text r.dst_end r.dst_end_time)))

-- the TZ string of a rule
abbrev pub tz_text : TransitionRule → List ℕ
tz_text (Fixed t) = name_and_offset_text t
tz_text (Alternating r) = name_and_offset_text r.std ++ daylight_text r

-- an offset of at most 24:59:59 either way
abbrev pub IsShortOffset : ℤ → Type 0
IsShortOffset offset = (negsuc 89999 <ℤ offset) × (offset <ℤ pos 90000)

-- a type that stands first in a TZ string: it is standard time, and has a name and a short offset
abbrev pub IsStandardText : LocalTimeType → Type 0
IsStandardText t = (t.is_dst ≡ false) × (t.designation ≢ None) × IsShortOffset t.ut_offset

-- a type that stands second, whose offset may also be an hour more than the first one's
abbrev pub IsDaylightText : ℤ → LocalTimeType → Type 0
IsDaylightText std t = (t.is_dst ≡ true) × (t.designation ≢ None)
    × (IsShortOffset t.ut_offset ⊎ (t.ut_offset ≡ std +ℤ pos 3600))

-- a rule that has a TZ string: all days and times of rules have a text
abbrev pub IsWritable : TransitionRule → Type 0
IsWritable (Fixed t) = IsStandardText t
IsWritable (Alternating r) = IsStandardText r.std × IsDaylightText r.std.ut_offset r.dst

-- the names of its types are such as those have
abbrev pub AreNamed : TransitionRule → Type 0
AreNamed (Fixed t) = IfSome t.designation IsDesignation
AreNamed (Alternating r) = IfSome r.std.designation IsDesignation
    × IfSome r.dst.designation IsDesignation

-- a time of day that extended TZ strings alone have
unfoldable pub is_extended_time : ℤ → Bool
is_extended_time (pos n) = nat_lt 89999 n
is_extended_time (negsuc n) = true

-- a rule with such a time
abbrev pub is_extended : TransitionRule → Bool
is_extended (Fixed t) = false
is_extended (Alternating r) = is_extended_time r.dst_start_time || is_extended_time r.dst_end_time
