-- The names, days and times of day of a TZ string are read back.
use Rattle.tz_zone.proofs.Common.{arith, refl, ◌≡◌, subst, ◌∙◌, ints, inr, sym, inl, [], ap, ℕ, ◌∷◌, ◌<◌, List, length, pos, ℤ, ◌≤◌, ◌++◌, append_assoc, negsuc, ◌≢◌, cases_lt, true, Bool, decimal, false, if◌then◌else◌, Begins, Decides-int_eq, IsTimeUpTo, false≢true, int_eq, is_ascii_alphabetic, plain_time_text, signed_time_text, ◌||◌, All-weaker, IsDesignation, IsNumber, IsRuleText, IsTimeOfRule, and_parts, is_ascii_digit, is_extended_time, list_all, name_text, slash, time_of_day_text, turn_text, IsDay, IsDayTime, IsDesignationByte, IsName, IsRuleInRange, IsRuleTime, SwitchText, closing_bracket, day_text, day_time_hours, dot, is_bare, is_in_brackets, list_all-from_AllPass, ltb-false, ltb-true, nat_lt, ne_eqb, not, opening_bracket}
use Rattle.tz_rule.specs.RuleDays.{IsRuleDay}
use Rattle.tz_rule.specs.declared.timezone.rule_day.RuleDay.{RuleDay}
use Rattle.tz_rule.specs.declared.timezone.rule_day.RuleDay.TheVariants.{Julian1WithoutLeap, Julian0WithLeap, MonthWeekDay}
use Rattle.tz_zone.proofs.TzStringParts.{Stops, first_of, run_before, IsBehind, no_byte_behind, no_digit_behind, no_letter_byte, decimal_read, time_of, plain_time_read, signed_time_read, time_up_to}

-- a name with no letter after it
other_byte : (b : ℕ) → b ≢ closing_bracket → is_in_brackets b ≡ true
other_byte b other = ap not (ne_eqb b closing_bracket other)

in_brackets : (b : ℕ) → IsDesignationByte b → is_in_brackets b ≡ true
in_brackets b h = other_byte b (elim h [
  | inl r ↦ λ e. absurd (omega (arith, r.1))
  | inr (inl r) ↦ λ e. absurd (omega (arith, r.0))
  | inr (inr (inl r)) ↦ λ e. absurd (omega (arith, r.0))
  | inr (inr (inr (inl r))) ↦ λ e. absurd (omega arith)
  | inr (inr (inr (inr r))) ↦ λ e. absurd (omega arith)
])

no_bracket : (name rest : List ℕ) → 2 < length name → list_all is_ascii_alphabetic name ≡ true
    → ¬ Begins opening_bracket (name ++ rest)
no_bracket [] rest long letters begins = absurd (omega arith)
no_bracket (b ∷ bs) rest long letters begins =
    absurd (false≢true (sym (ap is_ascii_alphabetic (first_of begins.1))
    ∙ (and_parts (is_ascii_alphabetic b) (list_all is_ascii_alphabetic bs) letters).0))

bare_read : (bare : Bool) (name rest : List ℕ) → is_bare name ≡ bare → IsDesignation name
    → Stops is_ascii_alphabetic rest
    → IsName ((if bare then name else opening_bracket ∷ name ++ (closing_bracket ∷ [])) ++ rest) name rest
unfolding is_bare
bare_read true name rest e is stops =
    let each = and_parts (nat_lt 2 (length name)) (list_all is_ascii_alphabetic name) e in
    inr (
      no_bracket name rest (ltb-true 2 (length name) each.0) each.1,
      run_before is_ascii_alphabetic name rest each.1
          stops,
    )
bare_read false name rest e is stops =
    inl (
      name ++ (closing_bracket ∷ rest),
      ap (λ xs. opening_bracket ∷ xs) (append_assoc name (closing_bracket ∷ []) rest),
      run_before is_in_brackets name (closing_bracket ∷ rest)
          (list_all-from_AllPass is_in_brackets name
          (All-weaker IsDesignationByte (λ b. is_in_brackets b ≡ true) in_brackets name is.bytes_are)) refl,
    )

pub name_read : (name rest : List ℕ) → IsDesignation name → Stops is_ascii_alphabetic rest
    → IsName (name_text name ++ rest) name rest
unfolding name_text
name_read name rest is stops = bare_read (is_bare name) name rest refl is stops

-- a name is no part of the time before it
above_colon : (b : ℕ) → is_ascii_alphabetic b ≡ true → 58 < b
above_colon b letter = elim (cases_lt 58 b) [
  | inl above ↦ above
  | inr low ↦ absurd (false≢true (sym (no_letter_byte b (omega arith)) ∙ letter))
]

name_behind_by : (bare : Bool) (name rest : List ℕ) → is_bare name ≡ bare
    → IsBehind ((if bare then name else opening_bracket ∷ name ++ (closing_bracket ∷ [])) ++ rest)
unfolding is_bare
name_behind_by true [] rest e = absurd (false≢true e)
name_behind_by true (b ∷ bs) rest e =
    inr (above_colon b (and_parts (is_ascii_alphabetic b) (list_all is_ascii_alphabetic bs)
    ((and_parts (nat_lt 2 (length (b ∷ bs))) (list_all is_ascii_alphabetic (b ∷ bs)) e).1)).0)
name_behind_by false name rest e = inr (omega arith)

pub name_behind : (name rest : List ℕ) → IsBehind (name_text name ++ rest)
unfolding name_text
name_behind name rest = name_behind_by (is_bare name) name rest refl

-- a day
pub day_read : (day : RuleDay) (rest : List ℕ) → IsRuleDay day → Stops is_ascii_digit rest
    → IsDay (day_text day ++ rest) day rest
unfolding day_text
day_read (Julian1WithoutLeap n) rest range stops =
    (decimal n ++ rest, refl, decimal_read n rest (omega (arith, range.1)) stops)
day_read (Julian0WithLeap n) rest range stops = decimal_read n rest (omega (arith, range)) stops
day_read (MonthWeekDay d) rest range stops =
    let behind_week = decimal d.week_day ++ rest in
    let behind_month = decimal d.week ++ (dot ∷ behind_week) in (
      (decimal d.month ++ (dot ∷ decimal d.week ++ (dot ∷ decimal d.week_day))) ++ rest,
      refl,
      (
        behind_month,
        behind_week,
        subst (λ (xs : List ℕ). IsNumber xs d.month (dot ∷ behind_month)) (sym whole)
            (decimal_read d.month (dot ∷ behind_month) (omega (arith, range.month_is.1)) refl),
        decimal_read d.week (dot ∷ behind_week) (omega (arith, range.week_is.1)) refl,
        decimal_read d.week_day rest (omega (arith, range.week_day_is)) stops,
      ),
    )
  where
    whole : (decimal d.month ++ (dot ∷ decimal d.week ++ (dot ∷ decimal d.week_day))) ++ rest ≡ decimal d.month
        ++ (dot ∷ decimal d.week ++ (dot ∷ decimal d.week_day ++ rest))
    whole =
        append_assoc (decimal d.month) (dot ∷ decimal d.week ++ (dot ∷ decimal d.week_day)) rest
        ∙ ap (λ xs. decimal d.month ++ (dot ∷ xs)) (append_assoc (decimal d.week) (dot ∷ decimal d.week_day) rest)

-- a text of the kind may have the time of day
abbrev pub Allows : Bool → ℤ → Type 0
Allows true time = IsRuleTime time
Allows false time = is_extended_time time ≡ false

pub allows_first : (first second : Bool) (time : ℤ) → is_extended_time time ≡ first → IsRuleTime time
    → Allows (first || second) time
allows_first true second time e range = range
allows_first false true time e range = range
allows_first false false time e range = e

pub allows_second : (first second : Bool) (time : ℤ) → is_extended_time time ≡ second → IsRuleTime time
    → Allows (first || second) time
allows_second true second time e range = range
allows_second false true time e range = range
allows_second false false time e range = e

ordinary_below : (n : ℕ) → nat_lt 89999 n ≡ false → n ≤ 89999
ordinary_below n e = ltb-false 89999 n e

-- a time of day
day_time_read : (extended : Bool) (time : ℤ) (rest : List ℕ) → Allows extended time → IsBehind rest
    → IsDayTime extended (signed_time_text time ++ rest) (time_of time) rest
unfolding is_extended_time signed_time_text
day_time_read true time rest allows behind = (signed_time_read time rest allows behind).time_is
day_time_read false (pos n) rest allows behind =
    let within = ordinary_below n allows in
    (plain_time_text n ++ rest, (refl, refl), plain_time_read false n rest (omega arith) behind)
day_time_read false (negsuc n) rest allows behind = absurd (false≢true (sym allows))

day_time_range : (extended : Bool) (time : ℤ) → Allows extended time
    → IsTimeUpTo (day_time_hours extended) (time_of time)
unfolding is_extended_time
day_time_range true time allows = time_up_to 167 604799 time (omega arith) allows
day_time_range false (pos n) allows = let within = ordinary_below n allows in
    time_up_to 24 89999 (pos n) (omega arith) (omega (arith, ints), omega (arith, ints))
day_time_range false (negsuc n) allows = absurd (false≢true (sym allows))

time_of_rule_read : (extended default : Bool) (time : ℤ) (rest : List ℕ) → int_eq time (pos 7200) ≡ default
    → Allows extended time → IsBehind rest
    → IsTimeOfRule extended ((if default then [] else slash ∷ signed_time_text time) ++ rest) (time_of time) rest
time_of_rule_read extended true time rest e allows behind =
    inr (
      no_byte_behind slash rest (omega arith) (omega arith) behind,
      ap time_of
          ((Decides-int_eq time (pos 7200)).0 e),
      refl,
    )
time_of_rule_read extended false time rest e allows behind =
    inl (signed_time_text time ++ rest, refl, day_time_read extended time rest allows behind)

time_of_day_stops : (default : Bool) (time : ℤ) (rest : List ℕ) → IsBehind rest
    → Stops is_ascii_digit ((if default then [] else slash ∷ signed_time_text time) ++ rest)
time_of_day_stops true time rest behind = no_digit_behind rest behind
time_of_day_stops false time rest behind = refl

-- a day with its time
abbrev pub turn_of : RuleDay → ℤ → SwitchText
turn_of day time = record { day = day; time = time_of time }

pub turn_read : (extended : Bool) (day : RuleDay) (time : ℤ) (rest : List ℕ) → IsRuleDay day → Allows extended time
    → IsBehind rest → IsRuleText extended (turn_text day time ++ rest) (turn_of day time) rest
unfolding time_of_day_text
turn_read extended day time rest is allows behind =
    let default = int_eq time (pos 7200) in (
      time_of_day_text time ++ rest,
      subst (λ (text : List ℕ). IsDay text day (time_of_day_text time ++ rest))
          (sym (append_assoc (day_text day) (time_of_day_text time) rest))
          (day_read day (time_of_day_text time ++ rest) is (time_of_day_stops default time rest behind)),
      time_of_rule_read extended default time rest refl allows behind,
    )

pub turn_range : (extended : Bool) (day : RuleDay) (time : ℤ) → IsRuleDay day → Allows extended time
    → IsRuleInRange extended (turn_of day time)
turn_range extended day time is allows = record { day_is = is; time_is = day_time_range extended time allows }
