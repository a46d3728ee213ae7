-- What is read and in range has none of the faults: a TZ string has no fault that is there.
use Rattle.tz_zone.proofs.Common.{◌≡◌, arith, ℕ, refl, sym, inr, inl, ◌∙◌, subst, ◌<◌, ap, List, Some, pos, ◌≤◌, [], Option, ◌≢◌, None, false, ◌∷◌, ◌⊎◌, true, Bool, TransitionRule, ◌++◌, Err, Ok, Result, TzError, ◌^◌, IsNumber, AlternateText, Fixed, IsAlternateText, IsRuleText, Begins, IsDaylightOffset, IsFirstTypeFault, IsMonthWeekText, IsName, IsSignedTime, IsTzTextFault, LocalTimeTypeError, MatchResult, WrittenTime, comma, dot, rule_of, slash, type_of, DayAndTime, InvalidRuleDayMonth, InvalidRuleDayWeek, InvalidRuleDayWeekDay, InvalidTimeZoneDesignationChar, InvalidTimeZoneDesignationLength, InvalidUtcOffset, IsAlternateInRange, IsDay, IsDayNumberFault, IsDayTime, IsDayTimeSign, IsDaylightFault, IsDesignation, IsHms, IsMonthWeekDayFault, IsNameAndOffset, IsNameFault, IsNumberFault, IsOffsetFault, IsPart, IsRuleWeek, IsRuleWeekDay, IsRulesFault, IsSign, IsUnclosed, Julian0WithLeap, Julian1WithoutLeap, MonthWeek, MonthWeekDay, RuleDay, TransitionRuleError, TzStringError, UnexpectedEof, capital_j, capital_m, closing_bracket, std_type_of, AlternateTime, FailsFrom, InText, InvalidData, InvalidDstStartEndTime, InvalidDstUtcOffset, InvalidRuleDayJulianDay, InvalidStdUtcOffset, IsConsistentRule, IsDayFault, IsDayTimeFault, IsFirstRuleFault, IsHmsFault, IsInRuleRange, IsLastRuleFault, IsMissingByte, IsMonthWeek, IsPartFault, IsRangeFault, IsRuleInRange, IsRuleMonth, IsRuleTextFault, IsTimeAbove, IsTimeFault, IsTimeUpTo, IsTzText, LacksRules, Reached, TimeFaults, day_time_faults, day_time_hours, offset_faults, offset_hours}
use Rattle.std.specs.Option.{IfSome}
use Rattle.tz_base.specs.declared.error.ParseDataError.{ParseDataError}
use Rattle.tz_rule.specs.RuleDayNumbers.{IsJulianDay, IsZeroBasedDay}
use Rattle.tz_rule.specs.declared.timezone.transition_rule.TransitionRule.TheVariants.{Alternate as Alternating}
use Rattle.tz_rule.specs.RuleDays.{IsRuleDay}
use Rattle.tz_zone.proofs.TextReadings.{IsOne, same_byte, same_rest, run_is_one, number_is_one, part_is_one, sign_is_one, day_time_sign_is_one, signed_time_is_one, day_is_one, times_are_one, rule_text_is_one, name_is_one, daylight_offset_is_one, name_and_offset_is_one, alternate_text_is_one, no_digit}

-- what is said of the one thing read
pub reached_once : {A : Type 0} (reads : List ℕ → A → List ℕ → Type 0) → IsOne reads
    → (text : List ℕ) (x : A) (rest : List ℕ) → reads text x rest → (P : A → List ℕ → Type 0) → Reached reads text P
    → P x rest
reached_once {A} reads one text x rest r P h =
    let same = one text h.0 x h.1 rest h.2 r in
    rw (same.0, same.1) at h.3

-- a number that fits is no fault
no_number_fault : (bits : ℕ) (text : List ℕ) (n : ℕ) (rest : List ℕ) (e : TzStringError) → IsNumber text n rest
    → n < 2 ^ bits → IsNumberFault bits text e → ⊥
no_number_fault bits text n rest e number fits (inl f) = number.some (number.run.longest ∙ f.1)
no_number_fault bits text n rest e number fits (inr f) =
    let above : 2 ^ bits ≤ n = reached_once IsNumber number_is_one text n rest number (λ m more. 2 ^ bits ≤ m) f.1 in
    omega (arith, fits, above)

no_part_fault : (text : List ℕ) (n : ℕ) (rest : List ℕ) (e : TzStringError) → IsPart text n rest → n ≤ 59
    → IsPartFault text e → ⊥
no_part_fault text n rest e part within fault = elim part [
  | inl h ↦ no_number_fault 31 h.0 n rest e h.2 (omega (arith, within)) (rw (same_rest fault.1 h.1) at fault.2)
  | inr h ↦ absurd (h.0 (fault.0, fault.1))
]

no_time_fault : (limit : ℕ) (text : List ℕ) (t : WrittenTime) (rest : List ℕ) (e : TzStringError) → IsHms text t rest
    → IsTimeUpTo limit t → limit < 2 ^ 31 → IsTimeFault text e → ⊥
no_time_fault limit text t rest e time range fits fault = elim fault [
  | inl f ↦ no_number_fault 31 text t.hours time.after_hours e time.hours_are (omega (arith, range.hours_are, fits)) f
  | inr f ↦
      let later = λ (n : ℕ) (after : List ℕ).
      IsPartFault after e ⊎ Reached IsPart after (λ m more. IsPartFault more e) in
      after_hours (reached_once IsNumber number_is_one text t.hours time.after_hours time.hours_are later f)
]
  where
    after_hours : IsPartFault time.after_hours e ⊎ Reached IsPart time.after_hours (λ m more. IsPartFault more e) → ⊥
    after_hours p = elim p [
      | inl f ↦
          no_part_fault time.after_hours t.minutes time.after_minutes e time.minutes_are range.minutes_are f
      | inr f ↦
          let seconds = reached_once IsPart part_is_one time.after_hours t.minutes time.after_minutes time.minutes_are
          (λ m after. IsPartFault after e) f in
          no_part_fault time.after_minutes t.seconds rest e time.seconds_are range.seconds_are seconds
    ]

no_time_above : (limit : ℕ) (faults : TimeFaults) (t u : WrittenTime) (e : TzStringError) → t.hours ≡ u.hours
    → t.minutes ≡ u.minutes → t.seconds ≡ u.seconds → IsTimeUpTo limit t → IsTimeAbove limit faults u e → ⊥
no_time_above limit faults t u e hours minutes seconds range above = elim above [
  | inl h ↦ omega (arith, hours, range.hours_are, h.1)
  | inr (inl h) ↦ omega (arith, minutes, range.minutes_are, h.2)
  | inr (inr h) ↦ omega (arith, seconds, range.seconds_are, h.3)
]

no_hms_fault : (limit : ℕ) (faults : TimeFaults) (text : List ℕ) (t : WrittenTime) (rest : List ℕ) (e : TzStringError)
    → IsHms text t rest → IsTimeUpTo limit t → limit < 2 ^ 31 → IsHmsFault limit faults text e → ⊥
no_hms_fault limit faults text t rest e time range fits (inl f) = no_time_fault limit text t rest e time range fits f
no_hms_fault limit faults text t rest e time range fits (inr (u, more, other, above)) =
    let one = times_are_one text t u rest more time other in
    no_time_above limit faults t u e one.0 one.1 one.2 range above

no_signed_fault : (signs : List ℕ → Bool → List ℕ → Type 0) → IsOne signs
    → (limit : ℕ) (faults : TimeFaults) (text : List ℕ) (t : WrittenTime) (rest : List ℕ) (e : TzStringError)
    → (unsigned : List ℕ) × signs text t.minus unsigned × IsHms unsigned t rest → IsTimeUpTo limit t → limit < 2 ^ 31
    → Reached signs text (λ minus unsigned. IsHmsFault limit faults unsigned e) → ⊥
no_signed_fault signs one limit faults text t rest e time range fits fault =
    no_hms_fault limit faults time.0 t rest e time.2 range fits (reached_once signs one text t.minus time.0 time.1
    (λ minus unsigned. IsHmsFault limit faults unsigned e) fault)

pub no_offset_fault : (text : List ℕ) (t : WrittenTime) (rest : List ℕ) (e : TzStringError) → IsSignedTime text t rest
    → IsTimeUpTo offset_hours t → IsOffsetFault text e → ⊥
no_offset_fault text t rest e time range fault =
    no_signed_fault IsSign sign_is_one offset_hours offset_faults text t rest e time range (omega arith) fault

day_time_fits : (extended : Bool) → day_time_hours extended < 2 ^ 31
day_time_fits true = omega arith
day_time_fits false = omega arith

no_day_time_fault : (extended : Bool) (text : List ℕ) (t : WrittenTime) (rest : List ℕ) (e : TzStringError)
    → IsDayTime extended text t rest → IsTimeUpTo (day_time_hours extended) t → IsDayTimeFault extended text e → ⊥
no_day_time_fault extended text t rest e time range fault =
    no_signed_fault (IsDayTimeSign extended) (day_time_sign_is_one extended) (day_time_hours extended) day_time_faults
    text t rest e time range (day_time_fits extended) fault

-- the byte is there, so what follows it fails
not_missing : (byte : ℕ) (rest : List ℕ) (f : ParseDataError) → IsMissingByte byte (byte ∷ rest) f → ⊥
not_missing byte rest UnexpectedEof missing = let none : byte ∷ rest ≡ [] = missing in cc
not_missing byte rest InvalidData missing = missing.1 (rest, refl)

pub fails_after : (byte : ℕ) (rest : List ℕ) (e : TzError) (fails : List ℕ → Type 0)
    → FailsFrom byte (byte ∷ rest) e fails → fails rest
fails_after byte rest e fails h = elim h [
  | inl f ↦ absurd (not_missing byte rest f.0 f.2)
  | inr f ↦ subst fails (same_rest f.1 refl) f.2
]

no_day_number_fault : (bits : ℕ) (in_range : ℕ → Type 0) (named : TransitionRuleError) (text : List ℕ) (n : ℕ)
    (rest : List ℕ) (e : TzError) → IsNumber text n rest → in_range n → n < 2 ^ bits
    → IsDayNumberFault bits in_range named text e → ⊥
no_day_number_fault bits in_range named text n rest e number range fits fault = elim fault [
  | inl h ↦ no_number_fault bits text n rest h.0 number fits h.2
  | inr h ↦ reached_once IsNumber number_is_one text n rest number (λ m more. ¬ in_range m) h.1 range
]

no_month_week_fault : (text : List ℕ) (d : MonthWeek) (rest : List ℕ) (e : TzError) → IsMonthWeekText text d rest
    → IsMonthWeek d → IsMonthWeekDayFault text e → ⊥
no_month_week_fault text d rest e t range fault = elim fault [
  | inl f ↦ no_day_number_fault 8 IsRuleMonth InvalidRuleDayMonth text d.month (dot ∷ t.0) e t.2 range.month_is
      (let most = range.month_is.1 in omega arith) f
  | inr f ↦ after_month (fails_after dot t.0 e _ (reached_once IsNumber number_is_one text d.month (dot ∷ t.0) t.2 _ f))
]
  where
    after_month : IsDayNumberFault 8 IsRuleWeek InvalidRuleDayWeek t.0 e
        ⊎ Reached IsNumber t.0 (λ week after_week. FailsFrom dot after_week e
        (λ day_text. IsDayNumberFault 8 IsRuleWeekDay InvalidRuleDayWeekDay day_text e)) → ⊥
    after_month p = elim p [
      | inl f ↦ no_day_number_fault 8 IsRuleWeek InvalidRuleDayWeek t.0 d.week (dot ∷ t.1) e t.3 range.week_is
          (let most = range.week_is.1 in omega arith) f
      | inr f ↦ no_day_number_fault 8 IsRuleWeekDay InvalidRuleDayWeekDay t.1 d.week_day rest e t.4 range.week_day_is
          (let most = range.week_day_is in omega arith)
          (fails_after dot t.1 e _ (reached_once IsNumber number_is_one t.0 d.week (dot ∷ t.1) t.3 _ f))
    ]

no_day_fault : (text : List ℕ) (d : RuleDay) (rest : List ℕ) (e : TzError) → IsDay text d rest → IsRuleDay d
    → IsDayFault text e → ⊥
no_day_fault text (Julian1WithoutLeap n) rest e day range fault = elim fault [
  | inl f ↦ f.0 (day.0, day.1)
  | inr (inl f) ↦ no_day_number_fault 16 IsJulianDay InvalidRuleDayJulianDay day.0 n rest e day.2 range (let most =
      range.1 in omega arith) (rw (same_rest f.1 day.1) at f.2)
  | inr (inr f) ↦ let clash = same_byte f.1 day.1 in absurd (omega arith)
]
no_day_fault text (Julian0WithLeap n) rest e day range fault = elim fault [
  | inl f ↦ no_day_number_fault 16 IsZeroBasedDay InvalidRuleDayJulianDay text n rest e day range (omega arith) f.2
  | inr (inl f) ↦ no_digit text capital_j f.0 n rest refl f.1 day
  | inr (inr f) ↦ no_digit text capital_m f.0 n rest refl f.1 day
]
no_day_fault text (MonthWeekDay d) rest e day range fault = elim fault [
  | inl f ↦ f.1 (day.0, day.1)
  | inr (inl f) ↦ let clash = same_byte f.1 day.1 in absurd (omega arith)
  | inr (inr f) ↦ no_month_week_fault day.0 d rest e day.2 range (rw (same_rest f.1 day.1) at f.2)
]

no_rule_text_fault : (extended : Bool) (text : List ℕ) (r : DayAndTime) (rest : List ℕ) (e : TzError)
    → IsRuleText extended text r rest → IsRuleInRange extended r → IsRuleTextFault extended text e → ⊥
no_rule_text_fault extended text r rest e rule range fault = elim fault [
  | inl f ↦ no_day_fault text r.day rule.0 e rule.1 range.day_is f
  | inr f ↦ after_day (reached_once IsDay day_is_one text r.day rule.0 rule.1 _ f)
]
  where
    after_day : (time : List ℕ) × (rule.0 ≡ slash ∷ time) × InText e (IsDayTimeFault extended time) → ⊥
    after_day f = elim rule.2 [
      | inl t ↦ no_day_time_fault extended t.0 r.time rest f.2.0 t.2 range.time_is (rw (same_rest f.1 t.1) at f.2.2)
      | inr t ↦ absurd (t.0 (f.0, f.1))
    ]

no_last_rule_fault : (extended : Bool) (text : List ℕ) (r : DayAndTime) (e : TzError) → IsRuleText extended text r []
    → IsRuleInRange extended r → IsLastRuleFault extended text e → ⊥
no_last_rule_fault extended text r e rule range fault = elim fault [
  | inl f ↦ no_rule_text_fault extended text r [] e rule range f
  | inr f ↦ (let left = reached_once (IsRuleText extended) (rule_text_is_one extended) text r [] rule _ f in
      left.0 refl)
]

no_rules_fault : (extended : Bool) (text : List ℕ) (r : DayAndTime) (end_text : List ℕ) (s : DayAndTime) (e : TzError)
    → IsRuleText extended text r (comma ∷ end_text) → IsRuleInRange extended r → IsRuleText extended end_text s []
    → IsRuleInRange extended s → IsRulesFault extended text e → ⊥
no_rules_fault extended text r end_text s e start start_range end end_range fault = elim fault [
  | inl f ↦ no_rule_text_fault extended text r (comma ∷ end_text) e start start_range f
  | inr f ↦ no_last_rule_fault extended end_text s e end end_range
      (fails_after comma end_text e (λ after. IsLastRuleFault extended after e)
      (reached_once (IsRuleText extended) (rule_text_is_one extended) text r (comma ∷ end_text) start _ f))
]

no_type_fault : (name : List ℕ) (f : LocalTimeTypeError) → IsDesignation name
    → IsFirstTypeFault (type_of (pos 0) false (Some name)) f → ⊥
no_type_fault name InvalidUtcOffset is fault = fault (λ e. cc)
no_type_fault name InvalidTimeZoneDesignationLength is fault = fault.1 is.length_is
no_type_fault name InvalidTimeZoneDesignationChar is fault = fault.2 is.bytes_are

no_name_fault : (text name rest : List ℕ) (e : TzError) → IsName text name rest → IsDesignation name
    → IsNameFault text e → ⊥
no_name_fault text name rest e name_is is fault = elim fault [
  | inl f ↦ closed f.1
  | inr f ↦ (let bad = reached_once IsName name_is_one text name rest name_is _ f in no_type_fault name bad.0 is bad.2)
]
  where
    closed : IsUnclosed text → ⊥
    closed open_name = elim name_is [
      | inl n ↦ (let none : [] ≡ closing_bracket ∷ rest =
          (run_is_one (rw (same_rest open_name.2 n.1) at open_name.3) n.2).1 in cc)
      | inr n ↦ absurd (n.0 (open_name.0, open_name.2))
    ]

-- no number, no time and no daylight offset stands where a text is over
no_number_at_end : (n : ℕ) (rest : List ℕ) → IsNumber [] n rest → ⊥
no_number_at_end n rest number = number.some number.run.longest

no_time_at_end : (t : WrittenTime) (rest : List ℕ) → IsSignedTime [] t rest → ⊥
no_time_at_end t rest time = elim time.1 [
  | inl s ↦ let none = s.0 in cc
  | inr (inl s) ↦ let none = s.0 in cc
  | inr (inr s) ↦ no_number_at_end t.hours time.2.after_hours (rw s.2 at time.2.hours_are)
]

no_offset_at_end : (o : Option WrittenTime) (rest : List ℕ) → IsDaylightOffset [] o rest → ⊥
no_offset_at_end None rest offset = let none = offset.0.1 in cc
no_offset_at_end (Some t) rest offset = no_time_at_end t rest offset.1

no_name_at_end : (name rest : List ℕ) → IsName [] name rest → rest ≡ []
no_name_at_end name rest name_is = elim name_is [
  | inl n ↦ let none = n.1 in cc
  | inr n ↦ (let P : List ℕ → Type 0 = λ run. [] ≡ run ++ rest in sym (subst P n.1.longest n.1.parts))
]

no_daylight_offset_fault : (text : List ℕ) (o : Option WrittenTime) (rest : List ℕ) (e : TzStringError)
    → IsDaylightOffset text o rest → IfSome o (IsTimeUpTo offset_hours) → ¬ Begins comma text → IsOffsetFault text e → ⊥
no_daylight_offset_fault text None rest e offset range bare fault = bare offset.0
no_daylight_offset_fault text (Some t) rest e offset range bare fault =
    no_offset_fault text t rest e offset.1 range fault

no_daylight_fault : (extended : Bool) (text : List ℕ) (a : AlternateText) (x : IsAlternateText extended text a)
    (e : TzError) → IsAlternateInRange extended a → IsDaylightFault extended x.after_std e → ⊥
no_daylight_fault extended text a x e range fault = elim fault [
  | inl f ↦ no_name_fault x.after_std a.dst_name x.after_dst_name e x.dst_name_is range.dst_name_is f
  | inr f ↦ after_name (reached_once IsName name_is_one x.after_std a.dst_name x.after_dst_name x.dst_name_is _ f)
]
  where
    offset_there : x.after_dst_name ≡ [] → ⊥
    offset_there over = no_offset_at_end a.dst_offset (comma ∷ x.start_text) (rw over at x.dst_offset_is)

    after_offset : LacksRules (comma ∷ x.start_text) e
        ⊎ ((comma ∷ x.start_text ≢ []) × FailsFrom comma (comma ∷ x.start_text) e
        (λ rules. IsRulesFault extended rules e)) → ⊥
    after_offset p = elim p [
      | inl f ↦ let none = f.0 in cc
      | inr f ↦ no_rules_fault extended x.start_text a.start x.end_text a.end e x.start_is range.start_is x.end_is
          range.end_is
          (fails_after comma x.start_text e (λ rules. IsRulesFault extended rules e) f.1)
    ]

    after_name : LacksRules x.after_dst_name e
        ⊎ ((x.after_dst_name ≢ []) × ¬ Begins comma x.after_dst_name × InText e (IsOffsetFault x.after_dst_name))
        ⊎ Reached IsDaylightOffset x.after_dst_name (λ offset after_offset. LacksRules after_offset e
        ⊎ ((after_offset ≢ []) × FailsFrom comma after_offset e (λ rules. IsRulesFault extended rules e))) → ⊥
    after_name p = elim p [
      | inl f ↦ offset_there f.0
      | inr (inl f) ↦ no_daylight_offset_fault x.after_dst_name a.dst_offset (comma ∷ x.start_text) f.2.0
          x.dst_offset_is range.dst_offset_is f.1 f.2.2
      | inr (inr f) ↦ after_offset (reached_once IsDaylightOffset daylight_offset_is_one x.after_dst_name a.dst_offset
          (comma ∷ x.start_text) x.dst_offset_is _ f)
    ]

no_range_fault : (r : AlternateTime) (f : TransitionRuleError) → IsInRuleRange r → IsRangeFault r f → ⊥
no_range_fault r InvalidStdUtcOffset is fault = fault is.std_is
no_range_fault r InvalidDstUtcOffset is fault = fault.1 is.dst_is
no_range_fault r InvalidDstStartEndTime is fault = fault.2 (is.start_is, is.end_is)
no_range_fault r _ is fault = fault

no_rule_fault : (r : AlternateTime) (f : TransitionRuleError) → IsConsistentRule r → IsFirstRuleFault r f → ⊥
no_rule_fault r f is fault = elim fault [ inl h ↦ no_range_fault r f is.in_range h | inr h ↦ is.consistent h.2 ]

-- the standard name and its offset, and then what follows them
no_std_fault : (text name : List ℕ) (t : WrittenTime) (rest : List ℕ) (e : TzError) (later : List ℕ → Type 0)
    → IsNameAndOffset text name t rest → IsTimeUpTo offset_hours t
    → Reached IsName text (λ name after_name. InText e (IsOffsetFault after_name)
    ⊎ Reached IsSignedTime after_name (λ offset after_offset. later after_offset)) → later rest
no_std_fault text name t rest e later std range fault =
    after_name (reached_once IsName name_is_one text name std.after_name std.name_is _ fault)
  where
    after_name : InText e (IsOffsetFault std.after_name)
        ⊎ Reached IsSignedTime std.after_name (λ offset after_offset. later after_offset) → later rest
    after_name p = elim p [
      | inl f ↦ absurd (no_offset_fault std.after_name t rest f.0 std.offset_is range f.2)
      | inr f ↦ reached_once IsSignedTime signed_time_is_one std.after_name t rest std.offset_is
          (λ offset after_offset. later after_offset) f
    ]

-- a text that is over after the standard offset has no daylight part
fixed_is_over : (extended : Bool) (text name : List ℕ) (t : WrittenTime) (a : AlternateText)
    → IsNameAndOffset text name t [] → IsAlternateText extended text a → ⊥
fixed_is_over extended text name t a std x =
    let same = name_and_offset_is_one text a.std_name name a.std_offset t x.after_std [] x.std_is std in
    no_offset_at_end a.dst_offset (comma ∷ x.start_text)
    (rw (no_name_at_end a.dst_name x.after_dst_name (rw same.2 at x.dst_name_is)) at x.dst_offset_is)

pub no_text_fault : (extended : Bool) (text : List ℕ) (rule : TransitionRule) (e : TzError)
    → IsTzText extended text rule → IsTzTextFault extended text e → ⊥
no_text_fault extended text (Fixed type) e t fault = elim fault [
  | inl f ↦ no_name_fault text t.0 t.2.after_name e t.2.name_is t.3 f
  | inr (inl f) ↦ (let after = no_std_fault text t.0 t.1 [] e (λ rest. (rest ≢ []) × IsDaylightFault extended rest e)
      t.2 t.4 f in after.0 refl)
  | inr (inr f) ↦ fixed_is_over extended text t.0 t.1 f.0 t.2 f.1
]
no_text_fault extended text (Alternating rule) e t fault = elim fault [
  | inl f ↦ no_name_fault text t.0.std_name t.1.std_is.after_name e t.1.std_is.name_is t.2.std_name_is f
  | inr (inl f) ↦ (let after = no_std_fault text t.0.std_name t.0.std_offset t.1.after_std e (λ rest. (rest ≢ [])
      × IsDaylightFault extended rest e) t.1.std_is t.2.std_offset_is f in
      no_daylight_fault extended text t.0 t.1 e t.2 after.1)
  | inr (inr f) ↦ no_rule_fault (rule_of t.0) f.3 t.3 (rw (alternate_text_is_one extended text f.0 t.0 f.1 t.1) at f.5)
]

-- a text denotes one rule
pub one_rule : (extended : Bool) (text : List ℕ) (r s : TransitionRule) → IsTzText extended text r
    → IsTzText extended text s → r ≡ s
one_rule extended text (Fixed t) (Fixed u) a b =
    let same = name_and_offset_is_one text a.0 b.0 a.1 b.1 [] [] a.2 b.2 in
    ap Fixed (a.5 ∙ ap (λ name. std_type_of name a.1) same.0 ∙ ap (λ offset. std_type_of b.0 offset) same.1 ∙ sym b.5)
one_rule extended text (Fixed t) (Alternating s) a b = absurd (fixed_is_over extended text a.0 a.1 b.0 a.2 b.1)
one_rule extended text (Alternating r) (Fixed u) a b = absurd (fixed_is_over extended text b.0 b.1 a.0 b.2 a.1)
one_rule extended text (Alternating r) (Alternating s) a b =
    ap Alternating (a.4 ∙ ap rule_of (alternate_text_is_one extended text a.0 b.0 a.1 b.1) ∙ sym b.4)

-- what reads the text, or names a fault that is there, answers the rule of a TZ string
pub reads_texts : (extended : Bool) (text : List ℕ) (r : Result TransitionRule TzError)
    → MatchResult r (IsTzText extended text) (IsTzTextFault extended text) → (rule : TransitionRule)
    → IsTzText extended text rule → r ≡ Ok rule
reads_texts extended text (Ok s) h rule t = ap Ok (one_rule extended text s rule h t)
reads_texts extended text (Err e) h rule t = absurd (no_text_fault extended text rule e t h)
