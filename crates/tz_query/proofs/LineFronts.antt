-- Where the first line ends, and that a line asks for what its first bytes are.
use Rattle.tz_query.proofs.Common.{sym, subst, refl, arith, ◌≡◌, [], ap, ◌∷◌, ◌∙◌, ◌++◌, length, ℕ, inl, List, inr, ◌+◌, ◌<◌, append_assoc, take, ℤ, Fields, drop, pos, get_or, ints, line_feed, Search, ◌≤◌, Time, append-nil, IsFirstLine, IsLine, All-cons, IsPartFront, All-nil, ArePartsFront, Meeting, ◌≢◌, EndsDigits, Err, FitsSigned, IfOk, Result, Some, meeting_letter, negsuc, numbers_of, search_letter, space, ◌-◌, ◌^◌, All-append, All-tail, AllDigits, AreFieldsOfBits, AreNumbers, IsLineOf, Ok, Query, drop_more, hyphen, result_ok, time_letter, All-from_recursion, FitsUnsignedBits, IsLineEnd, IsNumber, IsQueryLine, None, digit_value, take-append-drop, IfErr, OkIff, drop-append_seam, nat_abs}
use Rattle.std.specs.Prelude.{All}
use Rattle.std.specs.Int.{w64}
use Rattle.std.proofs.lemmas.List.{length-append}
use Rattle.tz_query.proofs.NumberFronts.{parts_after, parts_unique, parts_in_front, numbers_from_parts}

-- the first line ends at an LF, or where the bytes end
pub first_line_to_end : (bytes : List ℕ) (i : ℕ) → i < length bytes → IsLine (take i bytes)
    → get_or bytes i 0 ≡ line_feed → IsFirstLine bytes (take i bytes) (drop (i + 1) bytes)
first_line_to_end bytes i within line at =
    record {
      tail = drop i bytes;
      cut = sym (take-append-drop i bytes);
      end = inl (drop_more bytes i 0 within ∙ ap (λ b. b ∷ drop (i + 1) bytes) at);
      without_end = line;
    }

pub whole_line : (bytes : List ℕ) → IsLine bytes → IsFirstLine bytes bytes []
whole_line bytes line = record { tail = []; cut = sym (append-nil bytes); end = inr (refl, refl); without_end = line }

-- what follows the first line is the end of the bytes
rest_after : (bytes front rest : List ℕ) → bytes ≡ front ++ rest → (length rest ≤ length bytes)
    × (drop (length bytes - length rest) bytes ≡ rest)
rest_after bytes front rest whole =
    let long : length bytes ≡ length front + length rest = ap length whole ∙ length-append front rest in (
      omega (arith, long),
      ap (λ k. drop k bytes) (omega (arith, long)) ∙ ap (λ xs. drop (length front) xs) whole
          ∙ drop-append_seam front rest,
    )

pub rest_of_line : (bytes line rest : List ℕ) → IsFirstLine bytes line rest → (length rest ≤ length bytes)
    × (drop (length bytes - length rest) bytes ≡ rest)
rest_of_line bytes line rest first = cases first.end
  where
    cases : IsLineEnd first.tail rest → (length rest ≤ length bytes) × (drop (length bytes - length rest) bytes ≡ rest)
    cases (inl is) = rest_after bytes (line ++ line_feed ∷ []) rest (first.cut ∙ ap (λ t. line ++ t) is
        ∙ sym (append_assoc line (line_feed ∷ []) rest))
    cases (inr is) = rest_after bytes line rest (first.cut ∙ ap (λ t. line ++ t) (is.0 ∙ sym is.1))

pub first_line_to_position : (bytes line rest : List ℕ) → IsFirstLine bytes line rest
    → IsFirstLine bytes line (drop (length bytes - length rest) bytes)
first_line_to_position bytes line rest first =
    subst (IsFirstLine bytes line) (sym (rest_of_line bytes line rest first).1) first

-- no digit is LF
digits_are_line : (digits : List ℕ) → AllDigits 10 digits → IsLine digits
digits_are_line [] all = All-nil (λ b. b ≢ line_feed)
digits_are_line (d ∷ digits) all =
    All-cons (λ b. b ≢ line_feed) d digits (λ e. let value : digit_value d ≡ 36 = ap digit_value e in
    absurd (omega (arith, value, all.0))) (digits_are_line digits all.1)

number_is_line : (text : List ℕ) (n : ℤ) → IsNumber text n → IsLine text
number_is_line text n (digits, numeral, inl is) = subst IsLine (sym is.0) (digits_are_line digits numeral.1)
number_is_line text n (digits, numeral, inr is) =
    subst IsLine (sym is.0) (All-cons (λ b. b ≢ line_feed) hyphen digits (λ e. absurd (omega (arith, e)))
    (digits_are_line digits numeral.1))

-- where a line ends, its digits end
line_end_ends_digits : (tail rest : List ℕ) → IsLineEnd tail rest → EndsDigits tail
line_end_ends_digits tail rest (inl is) = subst EndsDigits (sym is) (λ digit. absurd (omega (arith, digit)))
line_end_ends_digits tail rest (inr is) = subst EndsDigits (sym is.0) tt

-- numbers have no LF
numbers_are_line : (text : List ℕ) (numbers : List ℤ) → AreNumbers text numbers → IsLine text
numbers_are_line text [] are = subst IsLine (sym are) (All-nil (λ b. b ≢ line_feed))
numbers_are_line text (n ∷ numbers) (number, rest, whole, is, are) =
    subst IsLine (sym whole) (All-cons (λ b. b ≢ line_feed) space (number ++ rest) (λ e. absurd (omega (arith, e)))
    (All-append (λ b. b ≢ line_feed) number rest (number_is_line number n is) (numbers_are_line rest numbers are)))

-- numbers before the end of a line are that line, and the numbers of the first line are at its start
pub line_of_parts : (bytes : List ℕ) (numbers : List ℤ) (tail rest : List ℕ) → ArePartsFront bytes numbers tail
    → IsLineEnd tail rest → (line : List ℕ) × IsFirstLine bytes line rest × AreNumbers line numbers
line_of_parts bytes numbers tail rest are end =
    let (line, cut, is) = numbers_from_parts bytes numbers tail are in
    (line, record { tail = tail; cut = cut; end = end; without_end = numbers_are_line line numbers is }, is)

pub parts_of_line : (bytes line rest : List ℕ) (numbers : List ℤ) → IsFirstLine bytes line rest
    → AreNumbers line numbers → (tail : List ℕ) × ArePartsFront bytes numbers tail × IsLineEnd tail rest
parts_of_line bytes line rest numbers first are =
    let tail = first.tail in (
      tail,
      subst (λ bs. ArePartsFront bs numbers tail) (sym first.cut)
          (parts_in_front line numbers tail are (line_end_ends_digits tail rest first.end)),
      first.end,
    )

-- the first line has no such number of numbers
abbrev pub NoNumbers : ℕ → List ℕ → Type 0
NoNumbers count bytes = (line : List ℕ) (numbers : List ℤ) (rest : List ℕ) → length numbers ≡ count
    → All (FitsSigned w64) numbers → IsFirstLine bytes line rest → ¬ AreNumbers line numbers

-- if fewer numbers are read than the first line has, the next one follows, and if as many are, the line ends
pub next_part : (bytes line rest after : List ℕ) (numbers others : List ℤ) → ArePartsFront bytes numbers after
    → length numbers < length others → All (FitsSigned w64) others → IsFirstLine bytes line rest
    → AreNumbers line others →
    (n : ℤ) × (beyond : List ℕ) × FitsSigned w64 n × IsPartFront after n beyond
next_part bytes line rest after numbers others are few fit first are' =
    let (tail, parts, end) = parts_of_line bytes line rest others first are' in
    let k = length numbers in
    let (beyond, next, more) = subst (λ ns. ArePartsFront after ns tail) (drop_more others k (pos 0) few)
    (parts_after bytes numbers others after tail (omega (arith, few)) are parts) in
    (get_or others k (pos 0), beyond, fit k (pos 0) few, next)

pub end_of_parts : (bytes line rest after : List ℕ) (numbers others : List ℤ) → ArePartsFront bytes numbers after
    → length numbers ≡ length others → IsFirstLine bytes line rest → AreNumbers line others → IsLineEnd after rest
end_of_parts bytes line rest after numbers others are many first are' =
    let (tail, parts, end) = parts_of_line bytes line rest others first are' in
    subst (λ bs. IsLineEnd bs rest) (sym (parts_unique bytes numbers others after tail many are parts).1) end

-- as many numbers in the first line are these alone
pub numbers_unique : (bytes line line' rest rest' : List ℕ) (numbers others : List ℤ) → IsFirstLine bytes line rest
    → AreNumbers line numbers → IsFirstLine bytes line' rest' → AreNumbers line' others → length numbers ≡ length others
    → numbers ≡ others
numbers_unique bytes line line' rest rest' numbers others first are first' are' many =
    let (tail, parts, end) = parts_of_line bytes line rest numbers first are in
    let (tail', parts', end') = parts_of_line bytes line' rest' others first' are' in
    (parts_unique bytes numbers others tail tail' many parts parts').0

-- a letter before the first line's numbers
pub line_from_numbers : (letter : ℕ) (bytes after line rest : List ℕ) (numbers : List ℤ) → letter ≢ line_feed
    → bytes ≡ letter ∷ after → IsFirstLine after line rest → AreNumbers line numbers →
    (text : List ℕ) × IsFirstLine bytes text rest × IsLineOf letter numbers text
line_from_numbers letter bytes after line rest numbers plain is first are = (
  letter ∷ line,
  record {
    tail = first.tail;
    cut = is ∙ ap (λ bs. letter ∷ bs) first.cut;
    end = first.end;
    without_end =
        All-cons (λ b. b ≢ line_feed) letter line plain first.without_end;
  },
  record { parts = line; whole = refl; are_numbers = are },
)

pub line_from_front : (letter : ℕ) (numbers : List ℤ) (bytes after tail rest : List ℕ) → letter ≢ line_feed
    → bytes ≡ letter ∷ after → ArePartsFront after numbers tail → IsLineEnd tail rest →
    (text : List ℕ) × IsFirstLine bytes text rest × IsLineOf letter numbers text
line_from_front letter numbers bytes after tail rest plain is are end =
    let (line, first, numbers_are) = line_of_parts after numbers tail rest are end in
    line_from_numbers letter bytes after line rest numbers plain is first numbers_are

-- the first line after its letter
numbers_after_letter : (letter b : ℕ) (bytes after line rest : List ℕ) (numbers : List ℤ) → bytes ≡ b ∷ after
    → IsFirstLine bytes line rest → IsLineOf letter numbers line → (letter ≡ b) × (parts : List ℕ)
    × IsFirstLine after parts rest × AreNumbers parts numbers
numbers_after_letter letter b bytes after line rest numbers is first of =
    let parts = of.parts in
    let same : b ∷ after ≡ letter ∷ (parts ++ first.tail) = sym is ∙ first.cut ∙ ap (λ l. l ++ first.tail) of.whole in (
      cc same,
      parts,
      record {
        tail = first.tail;
        cut = cc same;
        end = first.end;
        without_end =
            (All-tail (λ b. b ≢ line_feed) letter parts (subst IsLine of.whole first.without_end));
      },
      of.are_numbers,
    )

-- the first line asks for nothing
abbrev pub NoQuery : List ℕ → Type 0
NoQuery bytes = (line rest : List ℕ) (query : Query) → IsFirstLine bytes line rest → ¬ IsQueryLine line query

module _ (bytes after : List ℕ) where
  pub only_time : bytes ≡ time_letter ∷ after → ((line rest : List ℕ) (u : ℤ) (n : ℕ) → FitsSigned w64 u → n < 2 ^ 32
      → IsFirstLine after line rest → ¬ AreNumbers line (u ∷ pos n ∷ [])) → NoQuery bytes
  only_time is none line rest (Time u n) first of =
      let (same, parts, inside, are) = numbers_after_letter time_letter time_letter bytes after line rest
      (u ∷ pos n ∷ []) is first of.line_is in none parts rest u n of.seconds_fit of.nanoseconds_fit inside are
  only_time is none line rest (Search f) first of =
      omega (
        arith,
        (numbers_after_letter search_letter time_letter bytes after line rest
            (numbers_of f) is first of.line_is).0,
      )
  only_time is none line rest (Meeting count f) first of =
      omega (
        arith,
        (numbers_after_letter meeting_letter time_letter bytes after line rest (pos count ∷ numbers_of f) is first
            of.line_is).0,
      )

  pub only_search : bytes ≡ search_letter ∷ after → ((line rest : List ℕ) (f : Fields) → AreFieldsOfBits f
      → IsFirstLine after line rest → ¬ AreNumbers line (numbers_of f)) → NoQuery bytes
  only_search is none line rest (Time u n) first of =
      omega (
        arith,
        (numbers_after_letter time_letter search_letter bytes after line rest (u ∷ pos n ∷ []) is first
            of.line_is).0,
      )
  only_search is none line rest (Search f) first of =
      let (same, parts, inside, are) = numbers_after_letter search_letter search_letter bytes after line rest
      (numbers_of f) is first of.line_is in none parts rest f of.fields_fit inside are
  only_search is none line rest (Meeting count f) first of =
      omega (
        arith,
        (numbers_after_letter meeting_letter search_letter bytes after line rest (pos count ∷ numbers_of f) is
            first of.line_is).0,
      )

  pub only_meeting : bytes ≡ meeting_letter ∷ after → ((line rest : List ℕ) (count : ℕ) (f : Fields) → count < 2 ^ 8
      → AreFieldsOfBits f → IsFirstLine after line rest → ¬ AreNumbers line (pos count ∷ numbers_of f)) → NoQuery bytes
  only_meeting is none line rest (Time u n) first of =
      omega (
        arith,
        (numbers_after_letter time_letter meeting_letter bytes after line rest (u ∷ pos n ∷ []) is first
            of.line_is).0,
      )
  only_meeting is none line rest (Search f) first of =
      omega (
        arith,
        (numbers_after_letter search_letter meeting_letter bytes after line rest
            (numbers_of f) is first of.line_is).0,
      )
  only_meeting is none line rest (Meeting count f) first of =
      let (same, parts, inside, are) = numbers_after_letter meeting_letter meeting_letter bytes after line rest
      (pos count ∷ numbers_of f) is first of.line_is in
      none parts rest count f of.count_fits of.fields_fit inside are

-- the numbers of fields have 64 bits
pub fields_fit : (f : Fields) → AreFieldsOfBits f → All (FitsSigned w64) (numbers_of f)
fields_fit f fit =
    All-from_recursion (FitsSigned w64) (numbers_of f) (
      omega (arith, ints, fit.year_fits),
      (
        omega
            (arith, ints, fit.month_fits),
        (
          omega (arith, ints, fit.month_day_fits),
          (
            omega (arith, ints, fit.hour_fits),
            (
              omega (arith, ints, fit.minute_fits),
              (
                omega (arith, ints, fit.second_fits),
                (omega (arith, ints, fit.nanoseconds_fit), tt),
              ),
            ),
          ),
        ),
      ),
    )

-- an unsigned number by its bits, and two and seven by their positions
pub unsigned_value : (k : ℕ) (x : ℤ) (v : ℕ) → FitsUnsignedBits k x × (v ≡ nat_abs x) → (v < 2 ^ k) × (pos v ≡ x)
unsigned_value k (pos n) v (fits, is) = (subst (λ m. m < 2 ^ k) (sym is) fits, ap pos is)
unsigned_value k (negsuc n) v (fits, is) = absurd fits

pub two_numbers : (ns : List ℤ) → length ns ≡ 2 → ns ≡ get_or ns 0 (pos 0) ∷ get_or ns 1 (pos 0) ∷ []
two_numbers (a ∷ b ∷ []) long = refl
two_numbers _ long = absurd (omega (arith, long))

pub seven_numbers : (ns : List ℤ) → length ns ≡ 7 → let d = pos 0 in
    ns ≡ get_or ns 0 d ∷ get_or ns 1 d ∷ get_or ns 2 d ∷ get_or ns 3 d ∷ get_or ns 4 d ∷ get_or ns 5 d ∷ get_or ns 6 d
    ∷ []
seven_numbers (a ∷ b ∷ c ∷ d ∷ e ∷ f ∷ g ∷ []) long = refl
seven_numbers _ long = absurd (omega (arith, long))

-- a result as an option
pub none_if_not : {T E : Type 0} (r : Result T E) (P : Type 0) (v : T) → OkIff r P v → result_ok r ≡ None → ¬ P
none_if_not (Ok x) P v is none = absurd (cc none)
none_if_not (Err e) P v is none = is

pub some_if : {T E : Type 0} (r : Result T E) (P : Type 0) (v x : T) → OkIff r P v → result_ok r ≡ Some x → P × (x ≡ v)
some_if (Ok y) P v x is some = (is.0, cc (some, is.1))
some_if (Err e) P v x is some = absurd (cc some)

pub none_if_err : {T E : Type 0} (r : Result T E) (P : Type 0) → IfErr r (λ e. P) → result_ok r ≡ None → P
none_if_err (Ok x) P is none = absurd (cc none)
none_if_err (Err e) P is none = is

pub some_if_ok : {T E : Type 0} (r : Result T E) (P : T → Type 0) (x : T) → IfOk r P → result_ok r ≡ Some x → P x
some_if_ok (Ok y) P x is some = subst P (cc some) is
some_if_ok (Err e) P x is some = absurd (cc some)
