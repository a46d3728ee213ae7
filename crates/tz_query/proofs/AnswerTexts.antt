-- No answer line holds an LF, and no answer of one line begins as a group of more lines does.
use Rattle.tz_query.proofs.Common.{sym, subst, refl, arith, ◌≡◌, [], ap, ◌∷◌, ◌++◌, length, ℕ, inl, List, inr, ◌+◌, ◌<◌, ℤ, Fields, pos, codes, Zone, get_or, line_feed, IsClock, Search, moment_text, ◌≤◌, Time, DateTime, IsLine, All-cons, entry_text, flat_map, nine_digits, All, All-nil, IsAnswer, IsSearchAnswer, Meeting, OutOfRange, decimal, field_fault_text, map, ◌≢◌, AreWeekAnswers, FoundDateTimeKind, IsWeekAnswer, TzError, negsuc, signed_decimal, space, suc, zero, All-append, Bool, IfSome, IsFaultText, IsTimeAnswer, LocalTimeType, Normal, Skipped, cond, false, hyphen, ◌%◌, DateTimeError, InvalidNanoseconds, IsFoundBy, NoAvailableLocalTimeType, date_text, last_digits, nat_tests, offset_text, printed_text, time_text, true, two_digits, type_name_text, ◌/◌, All-map, All-weaker, AllPass-from_list_all, InvalidHour, InvalidMinute, InvalidMonth, InvalidMonthDay, InvalidSecond, IsDesignation, IsDesignationByte, IsLocalTimeType, IsSingle, cond-true, cond_both, duration_text, eqb, list_all, list_all-append, list_all-from_AllPass, ltb, not, seconds_text, two_digits_or_more, unwrap_or}
use Rattle.std.proofs.Common.{Option, Some, None}
use Rattle.core.specs.Fmt.{digit_glyph, digits, digits_onto}
use Rattle.tz_base.specs.declared.error.TzError.TheVariants.{DateTime as FieldFault}

-- digits
abbrev IsDigit : ℕ → Type 0
IsDigit b = (48 ≤ b) × (b ≤ 57)

glyph_is_digit : (d : ℕ) → d < 10 → IsDigit (digit_glyph false d)
glyph_is_digit d below = rw (cond-true (ltb d 10) (48 + d) (cond false (55 + d) (87 + d)) (grind (arith, nat_tests)))
    (omega arith, omega arith)

digits_are : (k n : ℕ) (acc : List ℕ) → 0 < k + length acc → All IsDigit acc
    → (0 < length (digits_onto k 10 false n acc)) × All IsDigit (digits_onto k 10 false n acc)
digits_are zero n acc some all = (omega arith, all)
digits_are (suc k) n acc some all =
    let next = digit_glyph false (n % 10) ∷ acc in
    let more = All-cons IsDigit (digit_glyph false (n % 10)) acc (glyph_is_digit (n % 10) (omega arith)) all in
    cond_both (eqb (n / 10) 0) next (digits_onto k 10 false (n / 10) next) (λ ds. (0 < length ds) × All IsDigit ds)
    (λ last. (omega arith, more)) (λ goes_on. digits_are k (n / 10) next (omega arith) more)

decimal_digits : (n : ℕ) → (0 < length (decimal n)) × All IsDigit (decimal n)
unfolding digits
decimal_digits n = digits_are 64 n [] (omega arith) (All-nil IsDigit)

-- no LF is among the bytes, by a test
abbrev is_other : ℕ → Bool
is_other b = not (eqb b line_feed)

abbrev HasNoFeed : List ℕ → Type 0
HasNoFeed text = list_all is_other text ≡ true

line_by_test : (text : List ℕ) → HasNoFeed text → IsLine text
line_by_test text none = All-weaker (λ b. is_other b ≡ true) (λ b. b ≢ line_feed) (λ b other same. let wrong : false
    ≡ true = subst (λ x. is_other x ≡ true) same other in cc) text (AllPass-from_list_all is_other text none)

by_bytes : (P : ℕ → Type 0) → ((b : ℕ) → P b → is_other b ≡ true) → (text : List ℕ) → All P text → HasNoFeed text
by_bytes P other text all = list_all-from_AllPass is_other text (All-weaker P (λ b. is_other b ≡ true) other text all)

joined : (text more : List ℕ) → HasNoFeed text → HasNoFeed more → HasNoFeed (text ++ more)
joined text more none none' = rw (list_all-append is_other text more, none) none'

above : (b : ℕ) → line_feed < b → is_other b ≡ true
above b is = grind (arith, nat_tests)

decimal_without_feed : (n : ℕ) → HasNoFeed (decimal n)
decimal_without_feed n = by_bytes IsDigit (λ b digit. above b (omega (arith, digit))) (decimal n) (decimal_digits n).1

last_digits_without_feed : (width n : ℕ) → HasNoFeed (last_digits width n)
last_digits_without_feed zero n = refl
last_digits_without_feed (suc width) n =
    joined (last_digits width (n / 10)) ((48 + n % 10) ∷ []) (last_digits_without_feed width (n / 10))
    (rw (above (48 + n % 10) (omega arith)) refl)

two_digits_without_feed : (n : ℕ) → HasNoFeed (two_digits n)
unfolding two_digits
two_digits_without_feed n = last_digits_without_feed 2 n

nine_digits_without_feed : (n : ℕ) → HasNoFeed (nine_digits n)
unfolding nine_digits
nine_digits_without_feed n = last_digits_without_feed 9 n

signed_without_feed : (z : ℤ) → HasNoFeed (signed_decimal z)
signed_without_feed (pos n) = decimal_without_feed n
signed_without_feed (negsuc n) = decimal_without_feed (suc n)

duration_without_feed : (n : ℕ) → HasNoFeed (duration_text n)
unfolding duration_text two_digits_or_more
duration_without_feed n =
    let hours = cond_both (ltb (n / 3600) 100) (two_digits (n / 3600)) (decimal (n / 3600)) HasNoFeed
    (λ few. two_digits_without_feed (n / 3600)) (λ many. decimal_without_feed (n / 3600)) in
    let seconds = cond_both (eqb (n % 60) 0) [] (58 ∷ two_digits (n % 60)) HasNoFeed (λ zero. refl)
    (λ some. two_digits_without_feed (n % 60)) in
    joined (two_digits_or_more (n / 3600)) _ hours (joined (two_digits ((n / 60) % 60)) (seconds_text (n % 60))
    (two_digits_without_feed ((n / 60) % 60)) seconds)

offset_without_feed : (z : ℤ) → HasNoFeed (offset_text z)
unfolding offset_text
offset_without_feed (pos zero) = refl
offset_without_feed (pos (suc n)) = duration_without_feed (suc n)
offset_without_feed (negsuc n) = duration_without_feed (suc n)

name_without_feed : (name : Option (List ℕ)) → IfSome name IsDesignation → HasNoFeed (unwrap_or name (hyphen ∷ []))
name_without_feed (Some name) is = by_bytes IsDesignationByte (λ b byte. above b (omega (arith, byte))) name
    is.bytes_are
name_without_feed None is = refl

moment_without_feed : (d : DateTime) → IsLocalTimeType d.local_time_type → HasNoFeed (moment_text d)
unfolding moment_text printed_text date_text time_text
moment_without_feed d is =
    let f = d.fields in
    simp (
      list_all-append,
      signed_without_feed f.year,
      two_digits_without_feed f.month,
      two_digits_without_feed
          f.month_day,
      two_digits_without_feed f.hour,
      two_digits_without_feed f.minute,
      two_digits_without_feed
          f.second,
      nine_digits_without_feed f.nanoseconds,
      offset_without_feed
          d.local_time_type.ut_offset,
      name_without_feed d.local_time_type.designation is.designation_is,
    )

field_fault_without_feed : (fault : DateTimeError) → HasNoFeed (field_fault_text fault)
field_fault_without_feed InvalidMonth = refl
field_fault_without_feed InvalidMonthDay = refl
field_fault_without_feed InvalidHour = refl
field_fault_without_feed InvalidMinute = refl
field_fault_without_feed InvalidSecond = refl
field_fault_without_feed InvalidNanoseconds = refl

fault_without_feed : (e : TzError) (text : List ℕ) → IsFaultText e text → HasNoFeed text
fault_without_feed (FieldFault fault) text is = subst HasNoFeed (sym is) (field_fault_without_feed fault)
fault_without_feed OutOfRange text is = subst HasNoFeed (sym is) refl
fault_without_feed NoAvailableLocalTimeType text is = subst HasNoFeed (sym is) refl
fault_without_feed _ text is = absurd is

one_line : (text : List ℕ) (answer : List (List ℕ)) → HasNoFeed text → answer ≡ text ∷ [] → All IsLine answer
one_line text answer none is = subst (All IsLine) (sym is) (All-cons IsLine text [] (line_by_test text none)
    (All-nil IsLine))

module _ (z : Zone) (named : (u : ℤ) (t : LocalTimeType) → IsClock z u t → IsLocalTimeType t) where
  time_answer_without_feed : (u : ℤ) (n : ℕ) (text : List ℕ) → IsTimeAnswer z u n text → HasNoFeed text
  time_answer_without_feed u n text (inl (d, (t, clock, shows), in_range, same)) =
      subst HasNoFeed (sym same) (moment_without_feed d (subst IsLocalTimeType (sym shows.type_is) (named u t clock)))
  time_answer_without_feed u n text (inr (e, name, fault, is, same)) =
      subst HasNoFeed (sym same) (fault_without_feed e name is)

  entry_line : (f : Fields) (e : FoundDateTimeKind) → IsFoundBy (IsClock z) f e → IsLine (entry_text e)
  entry_line f (Normal d) (fields, shows) =
      line_by_test (entry_text (Normal d)) (moment_without_feed d (named d.unix_time d.local_time_type shows.0))
  entry_line f (Skipped before after) (u, a, b, passes, first, second) =
      line_by_test (entry_text (Skipped before after)) (joined (moment_text before) (space ∷ moment_text after)
      (moment_without_feed before (subst IsLocalTimeType (sym first.type_is) (named _ a passes.0)))
      (moment_without_feed after (subst IsLocalTimeType (sym second.type_is) (named u b passes.1))))

  search_lines : (f : Fields) (answer : List (List ℕ)) → IsSearchAnswer z f answer → All IsLine answer
  search_lines f answer (inl (found, valid, list, made, same)) =
      subst (All IsLine) (sym same) (All-cons IsLine (codes "F " ++ decimal (length found)) (map entry_text found)
      (line_by_test (codes "F " ++ decimal (length found)) (decimal_without_feed (length found)))
      (All-map IsLine entry_text found (λ k d within. entry_line f (get_or found k d) (list.sound k d within))))
  search_lines f answer (inr (e, text, fault, is, same)) =
      one_line (codes "E " ++ text) answer (fault_without_feed e text is) same

  week_lines : (f : Fields) (k : ℕ) (answer : List (List ℕ)) → IsWeekAnswer z f k answer → All IsLine answer
  week_lines f k answer (inl (g, inside, is, told)) = search_lines g answer told
  week_lines f k answer (inr (outside, same)) = one_line (codes "E OutOfRange") answer refl same

  weeks_lines : (f : Fields) (k : ℕ) (weeks : List (List (List ℕ))) → AreWeekAnswers z f k weeks
      → All IsLine (flat_map (λ (week : List (List ℕ)). week) weeks)
  weeks_lines f k [] are = All-nil IsLine
  weeks_lines f k (week ∷ weeks) are = All-append IsLine week (flat_map (λ (w : List (List ℕ)). w) weeks)
      (week_lines f k week are.0) (weeks_lines f (k + 1) weeks are.1)

  -- an answer line holds no LF
  pub answer_lines : (line : List ℕ) (answer : List (List ℕ)) → IsAnswer z line answer → All IsLine answer
  answer_lines line answer (inl (Time u n, is, (text, told, same))) =
      one_line text answer (time_answer_without_feed u n text told) same
  answer_lines line answer (inl (Search f, is, told)) = search_lines f answer told
  answer_lines line answer (inl (Meeting count f, is, inl (valid, weeks, many, are, same))) =
      subst (All IsLine) (sym same) (All-cons IsLine (codes "W " ++ decimal (length weeks)) _
      (line_by_test (codes "W " ++ decimal (length weeks)) (decimal_without_feed (length weeks)))
      (weeks_lines f 0 weeks are))
  answer_lines line answer (inl (Meeting count f, is, inr (fault, first, same))) =
      one_line (codes "E " ++ field_fault_text fault) answer (field_fault_without_feed fault) same
  answer_lines line answer (inr (none, same)) = one_line (codes "E Line") answer refl same

-- a text that begins with a byte before `F` is a group of one line
single_from_first : (text : List ℕ) → get_or text 0 87 < 70 → IsSingle text
single_from_first text below = (
  (λ others e. let first : get_or text 0 87 ≡ 70 = ap (λ t. get_or t 0 87) e in omega (arith, below, first)),
  (λ others e. let first : get_or text 0 87 ≡ 87 = ap (λ t. get_or t 0 87) e in omega (arith, below, first)),
)

pub single_refusal : (text : List ℕ) → IsSingle (codes "E " ++ text)
single_refusal text = single_from_first (codes "E " ++ text) (omega arith)

-- so does a printed date time, whose first byte is a digit or `-`
abbrev BeginsYear : List ℕ → Type 0
BeginsYear text = get_or text 0 87 < 70

year_begins : (z : ℤ) → BeginsYear (signed_decimal z)
year_begins (pos n) = let (some, all) = decimal_digits n in omega (arith, (all 0 87 some).1)
year_begins (negsuc n) = omega arith

before_more : (text more : List ℕ) → BeginsYear text → BeginsYear (text ++ more)
before_more [] more begins = absurd (omega arith)
before_more (b ∷ text) more begins = begins

single_moment : (d : DateTime) → IsSingle (moment_text d)
unfolding moment_text printed_text date_text
single_moment d =
    let date = before_more (signed_decimal d.fields.year)
    (45 ∷ two_digits d.fields.month ++ (45 ∷ two_digits d.fields.month_day)) (year_begins d.fields.year) in
    let printed = before_more (date_text d.fields) (84 ∷ time_text d.fields ++ offset_text d.local_time_type.ut_offset)
    date in
    single_from_first (moment_text d) (before_more (printed_text d.fields d.local_time_type.ut_offset)
    (32 ∷ type_name_text d.local_time_type) printed)

pub single_time_answer : (z : Zone) (u : ℤ) (n : ℕ) (text : List ℕ) → IsTimeAnswer z u n text → IsSingle text
single_time_answer z u n text (inl (d, shows, in_range, same)) = subst IsSingle (sym same) (single_moment d)
single_time_answer z u n text (inr (e, name, fault, is, same)) = subst IsSingle (sym same) (single_refusal name)
