-- The text of an error's code is that of the error, each text is short, and a code that no entry has, has none.
use Rattle.tz_c.proofs.Common.{refl, subst, ◌≡◌, ℕ, ◌≤◌, length, Some, List, Option, ◌≢◌, [], false≢true, ◌∷◌, None, Bool, TzError, code_of, eqb-true, error_text, false, text_of_code, texts, true, ◌==◌, codes, if◌then◌else◌, leb-true, list_all, nat_le, number_code, number_text, text_in, ◌&&◌, ◌++◌}
use Rattle.std.specs.Str.Parse.{error_kind}
use Rattle.std.specs.declared.num.IntErrorKind.{IntErrorKind}
use Rattle.std.specs.declared.num.IntErrorKind.TheVariants as kinds
use Rattle.tz_base.specs.declared.error.TzError.TheVariants as all
use Rattle.tz_base.specs.declared.error.DateTimeError.TheVariants as fields
use Rattle.tz_base.specs.declared.error.LocalTimeTypeError.TheVariants as types
use Rattle.tz_base.specs.declared.error.TransitionRuleError.TheVariants as rules
use Rattle.tz_base.specs.declared.error.TimeZoneError.TheVariants as zones
use Rattle.tz_base.specs.declared.error.ParseDataError.TheVariants as bytes
use Rattle.tz_base.specs.declared.error.TzStringError.TheVariants as strings
use Rattle.tz_base.specs.declared.error.TzFileError.TheVariants as files

-- no entry has the code
abbrev pub NoneHas : List (ℕ × List ℕ) → ℕ → Type 0
NoneHas [] code = Unit {0}
NoneHas (entry ∷ entries) code = (code ≢ entry.0) × NoneHas entries code

by_test : {A : Type 0} (test : Bool) (x y z : A) → (test ≡ true → ⊥) → y ≡ z → (if test then x else y) ≡ z
by_test true x y z never is = absurd (never refl)
by_test false x y z never is = is

pub none_in : (entries : List (ℕ × List ℕ)) (code : ℕ) → NoneHas entries code → text_in entries code ≡ None
none_in [] code none = refl
none_in (entry ∷ entries) code none =
    by_test (code == entry.0) (Some entry.1) (text_in entries code) None
    (λ is. none.0 (eqb-true code entry.0 is)) (none_in entries code none.1)

-- each text of a list of short ones is short
abbrev is_short : ℕ × List ℕ → Bool
is_short entry = nat_le (length entry.1) 128

first_short : (short rest : Bool) → (short && rest) ≡ true → (short ≡ true) × (rest ≡ true)
first_short true rest both = (refl, both)
first_short false rest both = absurd (false≢true both)

either_short : (test : Bool) (text given : List ℕ) (other : Option (List ℕ)) → nat_le (length text) 128 ≡ true
    → (other ≡ Some given → length given ≤ 128) → (if test then Some text else other) ≡ Some given → length given ≤ 128
either_short true text given other short rest at =
    let same : text ≡ given = cc in subst (λ (t : List ℕ). length t ≤ 128) same (leb-true (length text) 128 short)
either_short false text given other short rest at = rest at

short_in : (entries : List (ℕ × List ℕ)) (code : ℕ) (given : List ℕ) → list_all is_short entries ≡ true
    → text_in entries code ≡ Some given → length given ≤ 128
short_in [] code given short at = absurd (cc)
short_in (entry ∷ entries) code given short at =
    let parts = first_short (is_short entry) (list_all is_short entries) short in
    either_short (code == entry.0) entry.1 given (text_in entries code) parts.0
    (short_in entries code given parts.1) at

pub short_text : (code : ℕ) (given : List ℕ) → text_of_code code ≡ Some given → length given ≤ 128
short_text code given = short_in texts code given refl

-- the text of the error of a number
number_text_of : (kind : IntErrorKind)
    → text_of_code (number_code kind) ≡ Some (codes "invalid TZ string: " ++ number_text kind)
number_text_of kinds.Empty = refl
number_text_of _ = refl

pub error_text_of : (e : TzError) → text_of_code (code_of e) ≡ Some (error_text e)
error_text_of (all.DateTime fields.InvalidMonth) = refl
error_text_of (all.DateTime fields.InvalidMonthDay) = refl
error_text_of (all.DateTime fields.InvalidHour) = refl
error_text_of (all.DateTime fields.InvalidMinute) = refl
error_text_of (all.DateTime fields.InvalidSecond) = refl
error_text_of (all.DateTime fields.InvalidNanoseconds) = refl
error_text_of (all.LocalTimeType types.InvalidTimeZoneDesignationLength) = refl
error_text_of (all.LocalTimeType types.InvalidTimeZoneDesignationChar) = refl
error_text_of (all.LocalTimeType types.InvalidUtcOffset) = refl
error_text_of (all.TransitionRule rules.InvalidRuleDayJulianDay) = refl
error_text_of (all.TransitionRule rules.InvalidRuleDayMonth) = refl
error_text_of (all.TransitionRule rules.InvalidRuleDayWeek) = refl
error_text_of (all.TransitionRule rules.InvalidRuleDayWeekDay) = refl
error_text_of (all.TransitionRule rules.InvalidStdUtcOffset) = refl
error_text_of (all.TransitionRule rules.InvalidDstUtcOffset) = refl
error_text_of (all.TransitionRule rules.InvalidDstStartEndTime) = refl
error_text_of (all.TransitionRule rules.InconsistentRule) = refl
error_text_of (all.TimeZone zones.NoLocalTimeType) = refl
error_text_of (all.TimeZone zones.InvalidLocalTimeTypeIndex) = refl
error_text_of (all.TimeZone zones.InvalidTransition) = refl
error_text_of (all.TimeZone zones.InvalidLeapSecond) = refl
error_text_of (all.TimeZone zones.InconsistentExtraRule) = refl
error_text_of (all.TzString (strings.Utf8 _)) = refl
error_text_of (all.TzString (strings.ParseInt e)) = number_text_of (error_kind e)
error_text_of (all.TzString (strings.ParseData bytes.UnexpectedEof)) = refl
error_text_of (all.TzString (strings.ParseData bytes.InvalidData)) = refl
error_text_of (all.TzString strings.InvalidOffsetHour) = refl
error_text_of (all.TzString strings.InvalidOffsetMinute) = refl
error_text_of (all.TzString strings.InvalidOffsetSecond) = refl
error_text_of (all.TzString strings.InvalidDayTimeHour) = refl
error_text_of (all.TzString strings.InvalidDayTimeMinute) = refl
error_text_of (all.TzString strings.InvalidDayTimeSecond) = refl
error_text_of (all.TzString strings.MissingDstStartEndRules) = refl
error_text_of (all.TzString strings.RemainingData) = refl
error_text_of (all.TzString strings.Empty) = refl
error_text_of (all.TzFile (files.Utf8 _)) = refl
error_text_of (all.TzFile (files.ParseData bytes.UnexpectedEof)) = refl
error_text_of (all.TzFile (files.ParseData bytes.InvalidData)) = refl
error_text_of (all.TzFile files.InvalidMagicNumber) = refl
error_text_of (all.TzFile files.UnsupportedTzFileVersion) = refl
error_text_of (all.TzFile files.InvalidHeader) = refl
error_text_of (all.TzFile files.InvalidFooter) = refl
error_text_of (all.TzFile files.InvalidDstIndicator) = refl
error_text_of (all.TzFile files.InvalidTimeZoneDesignationCharIndex) = refl
error_text_of (all.TzFile files.InvalidStdWallUtLocal) = refl
error_text_of (all.TzFile files.RemainingDataV1) = refl
error_text_of all.OutOfRange = refl
error_text_of all.NoAvailableLocalTimeType = refl
error_text_of (all.Memory _) = refl
