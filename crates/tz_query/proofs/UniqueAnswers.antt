-- Bytes have one cut into lines, a line has a group of answer lines, and one answer.
use Rattle.tz_query.proofs.Common.{sym, subst, refl, arith, ◌≡◌, [], ap, ◌∷◌, ◌∙◌, ◌++◌, length, ℕ, inl, List, inr, ◌+◌, append_assoc, ℤ, ended, Fields, pos, codes, Zone, get_or, ints, line_feed, IsClock, Search, moment_text, Time, IsLine, All-cons, entry_text, flat_map, All, All-nil, AreAnswers, IsAnswer, IsCivil, IsSearchAnswer, Meeting, OutOfRange, decimal, field_fault_text, map, ◌≢◌, AreWeekAnswers, IsWeekAnswer, TzError, found_lines, length-append, meeting_letter, negsuc, numbers_of, search_letter, ◌⊎◌, All-tail, AllZip, AreLines, AreNumbers, IsCut, IsDateOf, IsFaultText, IsLineOf, IsTimeAnswer, Query, meeting_lines, midnight, time_letter, All-head, IsQueryAnswer, IsQueryLine, NoAvailableLocalTimeType, day_after, IsGroup, IsMeetingAnswer, IsSearchGroup, IsWeekOf, get_or-append_seam, is_leap, length-map}
use Rattle.tz_base.specs.declared.error.TzError.TheVariants.{DateTime as FieldFault}
use Rattle.tz_base.proofs.CivilReadings.{month_length-le}
use Rattle.tz_base.proofs.DateOrder.{civil_unique}
use Rattle.tz.proofs.PromisedLists.{valid_without_fault}
use Rattle.tz.proofs.UniqueLists.{found_unique}
use Rattle.tz.proofs.UniqueResults.{clock_fault_unique, first_fault_unique, no_fault_where_made, no_fault_where_shown, search_fault_unique, shown_unique}
use Rattle.tz_query.proofs.AnswerLines.{no_lines}
use Rattle.tz_query.proofs.AnswerTexts.{single_refusal, single_time_answer}
use Rattle.tz_query.proofs.NumberFronts.{parts_in_front, parts_unique}

-- a line has no LF
pub no_end_within : (line front rest : List ℕ) → IsLine line → line ≡ front ++ line_feed ∷ rest → ⊥
no_end_within line front rest is e =
    is (length front) 0 (omega (arith, ap length e, length-append front (line_feed ∷ rest)))
    (ap (λ bs. get_or bs (length front) 0) e ∙ get_or-append_seam front line_feed rest 0)

-- what stands before the first LF, and what stands after it
first_line_unique : (line line' rest rest' : List ℕ) → IsLine line → IsLine line'
    → line ++ line_feed ∷ rest ≡ line' ++ line_feed ∷ rest' → (line ≡ line') × (rest ≡ rest')
first_line_unique [] [] rest rest' is is' e = (refl, cc)
first_line_unique [] (x ∷ line') rest rest' is is' e = let same : x ≡ line_feed = cc in
    absurd (All-head (λ b. b ≢ line_feed) x line' is' same)
first_line_unique (b ∷ line) [] rest rest' is is' e = let same : b ≡ line_feed = cc in
    absurd (All-head (λ x. x ≢ line_feed) b line is same)
first_line_unique (b ∷ line) (x ∷ line') rest rest' is is' e =
    let first : b ≡ x = cc in
    let more = first_line_unique line line' rest rest' (All-tail (λ y. y ≢ line_feed) b line is)
    (All-tail (λ y. y ≢ line_feed) x line' is') cc in
    let front = more.0 in
    (cc, more.1)

-- the first line ends at an LF, or it is all there is
abbrev IsEnded : List ℕ → List ℕ → List (List ℕ) → Type 0
IsEnded bytes line lines = (rest : List ℕ) × (bytes ≡ line ++ line_feed ∷ rest) × IsCut rest lines

abbrev IsLast : List ℕ → List ℕ → List (List ℕ) → Type 0
IsLast bytes line lines = (lines ≡ []) × (bytes ≡ line)

first_of_cut : (bytes line : List ℕ) (lines : List (List ℕ)) → IsCut bytes (line ∷ lines) → IsEnded bytes line lines
    ⊎ IsLast bytes line lines
first_of_cut bytes line lines (inl is) = inl (ended lines, is, inl refl)
first_of_cut bytes line lines (inr ([], last, split, full, is)) =
    inr (cc, is ∙ cc)
first_of_cut bytes line lines (inr (x ∷ front, last, split, full, is)) =
    inl (
      ended front ++ last,
      is ∙ append_assoc x (line_feed ∷ ended front) last
          ∙ ap (λ l. l ++ line_feed ∷ (ended front ++ last)) cc,
      inr (front, last, cc, full, refl),
    )

nothing_of_cut : (bytes : List ℕ) → IsCut bytes [] → bytes ≡ []
nothing_of_cut bytes (inl is) = is
nothing_of_cut bytes (inr ([], last, split, full, is)) = absurd cc
nothing_of_cut bytes (inr (x ∷ front, last, split, full, is)) = absurd cc

pub lines_unique : (bytes : List ℕ) (lines others : List (List ℕ)) → AreLines bytes lines → AreLines bytes others
    → lines ≡ others
lines_unique bytes [] others are are' = sym
    (no_lines others (subst (λ bs. AreLines bs others) (nothing_of_cut bytes are.cut) are'))
lines_unique bytes (line ∷ lines) [] are are' =
    no_lines (line ∷ lines) (subst (λ bs. AreLines bs (line ∷ lines)) (nothing_of_cut bytes are'.cut) are)
lines_unique bytes (line ∷ lines) (other ∷ others) are are' =
    both (λ rest a b. lines_unique rest lines others a b) (first_of_cut bytes line lines are.cut)
    (first_of_cut bytes other others are'.cut)
  where
    is : IsLine line
    is = All-head IsLine line lines are.without_ends

    is' : IsLine other
    is' = All-head IsLine other others are'.without_ends

    both : ((rest : List ℕ) → AreLines rest lines → AreLines rest others → lines ≡ others) → IsEnded bytes line lines
        ⊎ IsLast bytes line lines → IsEnded bytes other others ⊎ IsLast bytes other others
        → line ∷ lines ≡ other ∷ others
    both again (inl (rest, cut, more)) (inl (rest', cut', more')) =
        let same = first_line_unique line other rest rest' is is' (sym cut ∙ cut') in
        let first = same.0 in
        let beyond = again rest (record { cut = more; without_ends = All-tail IsLine line lines are.without_ends })
        (record {
          cut = subst (λ bs. IsCut bs others) (sym same.1) more';
          without_ends =
              All-tail IsLine other others are'.without_ends;
        }) in
        cc
    both again (inl (rest, cut, more)) (inr (none, whole)) =
        absurd (no_end_within other line rest is' (sym whole ∙ cut))
    both again (inr (none, whole)) (inl (rest, cut, more)) = absurd (no_end_within line other rest is (sym whole ∙ cut))
    both again (inr (none, whole)) (inr (none', whole')) = cc

-- the answer lines of a search are a group, and so are those of each week
search_group : (z : Zone) (f : Fields) (answer : List (List ℕ)) → IsSearchAnswer z f answer → IsSearchGroup answer
search_group z f answer (inl (found, valid, list, made, same)) =
    inr (
      map entry_text found,
      same ∙ ap (λ count. (codes "F " ++ decimal count) ∷ map entry_text found)
          (sym (length-map found entry_text)),
    )
search_group z f answer (inr (e, text, fault, told, same)) = inl (codes "E " ++ text, single_refusal text, same)

week_group : (z : Zone) (f : Fields) (k : ℕ) (answer : List (List ℕ)) → IsWeekAnswer z f k answer → IsSearchGroup answer
week_group z f k answer (inl (g, inside, is, told)) = search_group z g answer told
week_group z f k answer (inr (outside, same)) = inl (codes "E OutOfRange", single_refusal (codes "OutOfRange"), same)

week_groups : (z : Zone) (f : Fields) (k : ℕ) (weeks : List (List (List ℕ))) → AreWeekAnswers z f k weeks
    → All IsSearchGroup weeks
week_groups z f k [] are = All-nil IsSearchGroup
week_groups z f k (week ∷ weeks) are = All-cons IsSearchGroup week weeks (week_group z f k week are.0)
    (week_groups z f (k + 1) weeks are.1)

-- the answer lines of a line are a group
pub group_of_answer : (z : Zone) (line : List ℕ) (answer : List (List ℕ)) → IsAnswer z line answer → IsGroup answer
group_of_answer z line answer (inl (Time u n, is, (text, told, same))) =
    inl (inl (text, single_time_answer z u n text told, same))
group_of_answer z line answer (inl (Search f, is, told)) = inl (search_group z f answer told)
group_of_answer z line answer (inl (Meeting count f, is, inl (valid, weeks, many, are, same))) =
    inr (weeks, week_groups z f 0 weeks are, same)
group_of_answer z line answer (inl (Meeting count f, is, inr (fault, first, same))) =
    inl (inl (codes "E " ++ field_fault_text fault, single_refusal (field_fault_text fault), same))
group_of_answer z line answer (inr (none, same)) = inl (inl (codes "E Line", single_refusal (codes "Line"), same))

-- and they come in the order of the lines
pub answer_groups : (z : Zone) (queries bytes : List ℕ) (lines : List (List ℕ)) → AreAnswers z queries bytes
    → AreLines queries lines → (answers : List (List (List ℕ))) × AllZip (IsAnswer z) lines answers
    × (bytes ≡ flat_map ended answers)
answer_groups z queries bytes lines are cut = (
  are.answers,
  subst (λ ls. AllZip (IsAnswer z) ls are.answers) (lines_unique queries are.lines lines are.cut cut)
      are.each,
  are.written,
)

-- a line has one letter, and as many numbers are the same
numbers_unique : (text : List ℕ) (numbers others : List ℤ) → length numbers ≡ length others → AreNumbers text numbers
    → AreNumbers text others → numbers ≡ others
numbers_unique text numbers others same are are' =
    (parts_unique (text ++ []) numbers others [] [] same (parts_in_front text numbers [] are tt)
    (parts_in_front text others [] are' tt)).0

line_of_unique : (letter letter' : ℕ) (numbers others : List ℤ) (line : List ℕ) → IsLineOf letter numbers line
    → IsLineOf letter' others line → (letter ≡ letter') × (length numbers ≡ length others → numbers ≡ others)
line_of_unique letter letter' numbers others line is is' =
    let whole : letter ∷ is.parts ≡ letter' ∷ is'.parts = sym is.whole ∙ is'.whole in
    let first : letter ≡ letter' = cc in
    let beyond : is'.parts ≡ is.parts = cc in (
      first,
      λ same. numbers_unique is.parts numbers others same is.are_numbers
          (subst (λ t. AreNumbers t others) beyond is'.are_numbers),
    )

-- the numbers of fields determine the fields
abbrev size_of : ℤ → ℕ
size_of (pos n) = n
size_of (negsuc n) = 0

abbrev fields_from : List ℤ → Fields
fields_from numbers = record {
  year = get_or numbers 0 (pos 0);
  month = size_of (get_or numbers 1 (pos 0));
  month_day = size_of (get_or numbers 2 (pos 0));
  hour = size_of (get_or numbers 3 (pos 0));
  minute = size_of (get_or numbers 4 (pos 0));
  second = size_of (get_or numbers 5 (pos 0));
  nanoseconds = size_of (get_or numbers 6 (pos 0));
}

fields_unique : (f g : Fields) → numbers_of f ≡ numbers_of g → f ≡ g
fields_unique f g same = ap fields_from same

-- the numbers after the first
beyond : List ℤ → List ℤ
beyond [] = []
beyond (n ∷ numbers) = numbers

-- the numbers of a meeting determine its weeks and its fields
meeting_unique : (count count' : ℕ) (f g : Fields) → pos count ∷ numbers_of f ≡ pos count' ∷ numbers_of g
    → Meeting count f ≡ Meeting count' g
unfolding beyond
meeting_unique count count' f g same =
    let first : pos count ≡ pos count' = cc in
    let counts : count ≡ count' = omega (arith, ints, first) in
    ap (λ n. Meeting n f) counts ∙ ap (λ x. Meeting count' x) (fields_unique f g (ap beyond same))

-- a line asks for one thing
query_unique : (line : List ℕ) (query query' : Query) → IsQueryLine line query → IsQueryLine line query'
    → query ≡ query'
query_unique line (Time u n) (Time u' n') is is' =
    let same : u ∷ pos n ∷ [] ≡ u' ∷ pos n' ∷ [] =
    (line_of_unique time_letter time_letter (u ∷ pos n ∷ []) (u' ∷ pos n' ∷ []) line is.line_is is'.line_is).1
    refl in
    let seconds : u ≡ u' = cc in
    let number : pos n ≡ pos n' = cc in
    let nanoseconds : n ≡ n' = omega (arith, ints, number) in
    ap (λ x. Time x n) seconds ∙ ap (λ x. Time u' x) nanoseconds
query_unique line (Time u n) (Search f) is is' =
    absurd (omega (
      arith,
      (line_of_unique time_letter search_letter (u ∷ pos n ∷ []) (numbers_of f) line is.line_is is'.line_is).0,
    ))
query_unique line (Search f) (Time u n) is is' =
    absurd (omega (
      arith,
      (line_of_unique search_letter time_letter (numbers_of f) (u ∷ pos n ∷ []) line is.line_is is'.line_is).0,
    ))
query_unique line (Time u n) (Meeting count f) is is' =
    absurd (omega (
      arith,
      (line_of_unique time_letter meeting_letter (u ∷ pos n ∷ []) (pos count ∷ numbers_of f) line is.line_is
          is'.line_is).0,
    ))
query_unique line (Meeting count f) (Time u n) is is' =
    absurd (omega (
      arith,
      (line_of_unique meeting_letter time_letter (pos count ∷ numbers_of f) (u ∷ pos n ∷ []) line is.line_is
          is'.line_is).0,
    ))
query_unique line (Search f) (Meeting count g) is is' =
    absurd (omega (
      arith,
      (line_of_unique search_letter meeting_letter (numbers_of f) (pos count ∷ numbers_of g) line is.line_is
          is'.line_is).0,
    ))
query_unique line (Meeting count f) (Search g) is is' =
    absurd (omega (
      arith,
      (line_of_unique meeting_letter search_letter (pos count ∷ numbers_of f) (numbers_of g) line is.line_is
          is'.line_is).0,
    ))
query_unique line (Meeting count f) (Meeting count' g) is is' =
    meeting_unique count count' f g ((line_of_unique meeting_letter meeting_letter (pos count ∷ numbers_of f)
    (pos count' ∷ numbers_of g) line is.line_is is'.line_is).1 refl)
query_unique line (Search f) (Search g) is is' =
    ap (λ x. Search x) (fields_unique f g ((line_of_unique search_letter search_letter (numbers_of f)
    (numbers_of g) line is.line_is is'.line_is).1 refl))

-- a refusal has one text
fault_text_unique : (e : TzError) (text text' : List ℕ) → IsFaultText e text → IsFaultText e text' → text ≡ text'
fault_text_unique (FieldFault fault) text text' is is' = is ∙ sym is'
fault_text_unique OutOfRange text text' is is' = is ∙ sym is'
fault_text_unique NoAvailableLocalTimeType text text' is is' = is ∙ sym is'
fault_text_unique _ text text' is is' = absurd is

-- the first fields of a day
abbrev at_midnight : Fields → Fields
at_midnight g = record {
  year = g.year;
  month = g.month;
  month_day = g.month_day;
  hour = 0;
  minute = 0;
  second = 0;
  nanoseconds = 0;
}

day_begins : (day : ℤ) (g : Fields) → IsDateOf day g.year g.month g.month_day → IsCivil (midnight day) 0 (at_midnight g)
day_begins day g is = record {
  valid = record {
    in_range = record {
      month = is.month_is;
      month_day = (is.month_day_is.0, omega (arith, is.month_day_is.1, month_length-le (is_leap g.year) g.month));
      hour = omega arith;
      minute = omega arith;
      second = omega arith;
      nanoseconds = omega arith;
    };
    in_month = is.month_day_is.1;
  };
  below_60 = omega arith;
  reads = omega (arith, ints, is.day_is);
  nanoseconds_are = refl;
}

module _ (z : Zone) where
  -- an instant has one answer
  time_answer_unique : (u : ℤ) (n : ℕ) (answer other : List ℕ) → IsTimeAnswer z u n answer → IsTimeAnswer z u n other
      → answer ≡ other
  time_answer_unique u n answer other (inl (d, shows, in_range, same)) (inl (d', shows', in_range', same')) =
      same ∙ ap moment_text (shown_unique z u n d d' shows shows') ∙ sym same'
  time_answer_unique u n answer other (inl (d, shows, in_range, same)) (inr (e, text, fault, is, same')) =
      absurd (no_fault_where_shown z u n d e shows in_range fault)
  time_answer_unique u n answer other (inr (e, text, fault, is, same)) (inl (d, shows, in_range, same')) =
      absurd (no_fault_where_shown z u n d e shows in_range fault)
  time_answer_unique u n answer other (inr (e, text, fault, is, same)) (inr (e', text', fault', is', same')) =
      let one = fault_text_unique e text text' is
      (subst (λ x. IsFaultText x text') (sym (clock_fault_unique z u n e e' fault fault')) is') in
      same ∙ ap (λ t. codes "E " ++ t) one ∙ sym same'

  -- fields have one answer
  search_answer_unique : (f : Fields) (answer other : List (List ℕ)) → IsSearchAnswer z f answer
      → IsSearchAnswer z f other → answer ≡ other
  search_answer_unique f answer other (inl (found, valid, list, made, same)) (inl (others, valid', list', made', same'))
      = same ∙ ap found_lines (found_unique (IsClock z) f found others list list') ∙ sym same'
  search_answer_unique f answer other (inl (found, valid, list, made, same)) (inr (e, text, fault, told, same')) =
      absurd (no_fault_where_made z f valid made e fault)
  search_answer_unique f answer other (inr (e, text, fault, told, same)) (inl (found, valid, list, made, same')) =
      absurd (no_fault_where_made z f valid made e fault)
  search_answer_unique f answer other (inr (e, text, fault, told, same)) (inr (e', text', fault', told', same')) =
      let one = fault_text_unique e text text' told
      (subst (λ x. IsFaultText x text') (sym (search_fault_unique z f e e' fault fault')) told') in
      same ∙ ap (λ t. (codes "E " ++ t) ∷ []) one ∙ sym same'

  -- a week has one list of fields, and one answer
  week_unique : (f : Fields) (k : ℕ) (g h : Fields) → IsWeekOf f k g → IsWeekOf f k h → g ≡ h
  week_unique f k g h is is' =
      let same = civil_unique (midnight (day_after f k)) 0 (at_midnight g) (at_midnight h)
      (day_begins (day_after f k) g is.date) (day_begins (day_after f k) h is'.date) in
      is.time ∙ ap (λ (m : Fields). record f { year = m.year; month = m.month; month_day = m.month_day }) same
      ∙ sym is'.time

  week_answer_unique : (f : Fields) (k : ℕ) (answer other : List (List ℕ)) → IsWeekAnswer z f k answer
      → IsWeekAnswer z f k other → answer ≡ other
  week_answer_unique f k answer other (inl (g, inside, is, told)) (inl (h, inside', is', told')) =
      search_answer_unique g answer other told
      (subst (λ x. IsSearchAnswer z x other) (week_unique f k h g is' is) told')
  week_answer_unique f k answer other (inl (g, inside, is, told)) (inr (outside, same)) = absurd (outside inside)
  week_answer_unique f k answer other (inr (outside, same)) (inl (g, inside, is, told)) = absurd (outside inside)
  week_answer_unique f k answer other (inr (outside, same)) (inr (outside', same')) = same ∙ sym same'

  weeks_unique : (f : Fields) (k : ℕ) (weeks others : List (List (List ℕ))) → length weeks ≡ length others
      → AreWeekAnswers z f k weeks → AreWeekAnswers z f k others → weeks ≡ others
  weeks_unique f k [] [] many are are' = refl
  weeks_unique f k [] (other ∷ others) many are are' = absurd (omega (arith, many))
  weeks_unique f k (week ∷ weeks) [] many are are' = absurd (omega (arith, many))
  weeks_unique f k (week ∷ weeks) (other ∷ others) many are are' =
      let first = week_answer_unique f k week other are.0 are'.0 in
      let more = weeks_unique f (k + 1) weeks others (omega (arith, many)) are.1 are'.1 in
      cc

  -- a meeting has one answer
  meeting_answer_unique : (count : ℕ) (f : Fields) (answer other : List (List ℕ)) → IsMeetingAnswer z count f answer
      → IsMeetingAnswer z count f other → answer ≡ other
  meeting_answer_unique count f answer other (inl (valid, weeks, many, are, same))
      (inl (valid', others, many', are', same')) =
      same ∙ ap meeting_lines (weeks_unique f 0 weeks others (many ∙ sym many') are are') ∙ sym same'
  meeting_answer_unique count f answer other (inl (valid, weeks, many, are, same)) (inr (fault, first, same')) =
      absurd (valid_without_fault f valid fault first)
  meeting_answer_unique count f answer other (inr (fault, first, same)) (inl (valid, weeks, many, are, same')) =
      absurd (valid_without_fault f valid fault first)
  meeting_answer_unique count f answer other (inr (fault, first, same)) (inr (fault', first', same')) =
      same ∙ ap (λ x. (codes "E " ++ field_fault_text x) ∷ []) (first_fault_unique f fault fault' first first')
      ∙ sym same'

  -- what a line asks for has one answer
  query_answer_unique : (query : Query) (answer other : List (List ℕ)) → IsQueryAnswer z query answer
      → IsQueryAnswer z query other → answer ≡ other
  query_answer_unique (Time u n) answer other (text, told, same) (text', told', same') =
      same ∙ ap (λ t. t ∷ []) (time_answer_unique u n text text' told told') ∙ sym same'
  query_answer_unique (Search f) answer other told told' = search_answer_unique f answer other told told'
  query_answer_unique (Meeting count f) answer other told told' = meeting_answer_unique count f answer other told told'

  -- and so has the line
  pub line_answer_unique : (line : List ℕ) (answer other : List (List ℕ)) → IsAnswer z line answer
      → IsAnswer z line other → answer ≡ other
  line_answer_unique line answer other (inl (query, is, told)) (inl (query', is', told')) =
      query_answer_unique query answer other told
      (subst (λ q. IsQueryAnswer z q other) (sym (query_unique line query query' is is')) told')
  line_answer_unique line answer other (inl (query, is, told)) (inr (none, same)) = absurd (none query is)
  line_answer_unique line answer other (inr (none, same)) (inl (query, is, told)) = absurd (none query is)
  line_answer_unique line answer other (inr (none, same)) (inr (none', same')) = same ∙ sym same'

  zip_unique : (lines : List (List ℕ)) (answers others : List (List (List ℕ))) → AllZip (IsAnswer z) lines answers
      → AllZip (IsAnswer z) lines others → answers ≡ others
  zip_unique [] [] [] each each' = refl
  zip_unique [] [] (x ∷ others) each each' = absurd each'
  zip_unique [] (x ∷ answers) others each each' = absurd each
  zip_unique (line ∷ lines) [] others each each' = absurd each
  zip_unique (line ∷ lines) (answer ∷ answers) [] each each' = absurd each'
  zip_unique (line ∷ lines) (answer ∷ answers) (other ∷ others) each each' =
      let first = line_answer_unique line answer other each.0 each'.0 in
      let more = zip_unique lines answers others each.1 each'.1 in
      cc

  pub answers_unique : (queries bytes others : List ℕ) → AreAnswers z queries bytes → AreAnswers z queries others
      → bytes ≡ others
  answers_unique queries bytes others are are' =
      let found = answer_groups z queries others are.lines are' are.cut in
      are.written ∙ ap (λ groups. flat_map ended groups) (zip_unique are.lines are.answers found.0 are.each found.1)
      ∙ sym found.2
