-- Each letter has its numbers, and where one is missing or too great there is no query.
use Rattle.tz_query.proofs.Common.{sym, subst, refl, arith, ◌≡◌, [], ap, ◌∷◌, ◌∙◌, length, rules, ℕ, to_z-of_z, w64, take, Fields, drop, pos, get_or, ints, SFits, All-cons, take_all, FitsSigned, meeting_letter, numbers_of, search_letter, AreFieldsOfBits, IsLineOf, drop_more, time_letter, All-from_recursion, FitsUnsignedBits, TryFromIntError}
use Rattle.std.proofs.Common.{length-drop}
use Rattle.tz_query.proofs.NumberFronts.{IfNone-anyway}
use Rattle.tz_query.proofs.LineFronts.{NoQuery, only_time, only_search, only_meeting, fields_fit, unsigned_value, two_numbers, none_if_not, some_if, none_if_err, some_if_ok, line_from_numbers, numbers_unique}
use Rattle.tz_query.proofs.query.read_query.read_query.Goals as goal

pub returns-in_err-numbers-clause-none : goal.returns-in_err-numbers-clause-none
returns-in_err-numbers-clause-none c =
    IfNone-anyway {P = NoQuery c.args.queries.now} _ (only_time c.args.queries.now c.in-Some.parts.now c.in-Some.ensures
    (λ line rest u n seconds few.
    c.in_err-numbers.ensures.none line (u ∷ pos n ∷ []) rest refl (All-from_recursion (FitsSigned w64) (u ∷ pos n ∷ [])
    (seconds, (omega (arith, ints, few), tt)))))

pub returns-in_err-nanoseconds-clause-none : goal.returns-in_err-nanoseconds-clause-none
returns-in_err-nanoseconds-clause-none c =
    let ns = c.in_ok-numbers.numbers in
    let (line, first, are) = c.in_ok-numbers.ensures.some in
    let out = none_if_not {T = ℕ} {E = TryFromIntError} c.try_from.result _ _ c.try_from.ensures
    (sym c.ok.ensures.value ∙ c.in_err-nanoseconds.was) in
    IfNone-anyway {P = NoQuery c.args.queries.now} _ (only_time c.args.queries.now c.in-Some.parts.now c.in-Some.ensures
    (λ line' rest' u n seconds few first' are'.
    let same = numbers_unique c.in-Some.parts.now line line' c.in_ok-numbers.rest.now rest' ns
    (u ∷ pos n ∷ []) first are first' are' (search rules) in
    (rw (to_z-of_z w64 (get_or ns 1 (pos 0)) (search rules)) at out)
    (subst (FitsUnsignedBits 32) (sym (ap (λ xs. get_or xs 1 (pos 0)) same)) few)))

pub returns-in-Some-clause-some : goal.returns-in-Some-clause-some
returns-in-Some-clause-some c =
    let ns = c.in_ok-numbers.numbers in
    let (line, first, are) = c.in_ok-numbers.ensures.some in
    let first_fits : SFits w64 (get_or ns 0 (pos 0)) = search rules in
    let given = some_if {T = ℕ} {E = TryFromIntError} c.try_from.result _ _ c.in_ok-nanoseconds.nanoseconds
    c.try_from.ensures (sym c.ok.ensures.value ∙ c.in_ok-nanoseconds.was) in
    let (few, is) = unsigned_value 32 (get_or ns 1 (pos 0)) c.in_ok-nanoseconds.nanoseconds
    (rw (to_z-of_z w64 (get_or ns 1 (pos 0)) (search rules)) at given) in
    let same : ns ≡ get_or ns 0 (pos 0) ∷ pos c.in_ok-nanoseconds.nanoseconds ∷ [] =
    cc (two_numbers ns (search rules), is) in
    let (text, whole, of) = line_from_numbers time_letter c.args.queries.now c.in-Some.parts.now line
    c.in_ok-numbers.rest.now ns (λ e. absurd (omega (arith, e))) c.in-Some.ensures first are in
    rw (to_z-of_z w64 (get_or ns 0 (pos 0)) first_fits) (
      text,
      whole,
      record {
        line_is = subst (λ xs. IsLineOf time_letter xs text) same of;
        seconds_fit = first_fits;
        nanoseconds_fit = few;
      },
    )

pub returns-in_err-numbers-2-clause-none : goal.returns-in_err-numbers-2-clause-none
returns-in_err-numbers-2-clause-none c =
    IfNone-anyway {P = NoQuery c.args.queries.now} _
    (only_search c.args.queries.now c.in-Some-after_byte.parts.now c.in-Some-after_byte.ensures (λ line rest f fit.
    c.in_err-numbers-2.ensures.none line (numbers_of f) rest refl (fields_fit f fit)))

pub returns-in_err-fields-clause-none : goal.returns-in_err-fields-clause-none
returns-in_err-fields-clause-none c =
    let read = c.in_ok-numbers-2 in
    let (line, first, are) = read.ensures.some in
    let refused = none_if_err {T = Fields} {E = TryFromIntError} c.fields_of.result _ c.fields_of.ensures.err
    (sym c.ok-in-Some-after_byte.ensures.value ∙ c.in_err-fields.was) in
    IfNone-anyway {P = NoQuery c.args.queries.now} _
    (only_search c.args.queries.now c.in-Some-after_byte.parts.now c.in-Some-after_byte.ensures
    (λ line' rest' f fit first' are'.
    refused f fit (sym (numbers_unique c.in-Some-after_byte.parts.now line line' read.rest.now rest' read.numbers
    (numbers_of f) first are first' are' (search rules)))))

pub returns-in-Some-after_byte-clause-some : goal.returns-in-Some-after_byte-clause-some
returns-in-Some-after_byte-clause-some c =
    let read = c.in_ok-numbers-2 in
    let (line, first, are) = read.ensures.some in
    let (fit, same) = some_if_ok {T = Fields} {E = TryFromIntError} c.fields_of.result (λ f. AreFieldsOfBits f
    × (numbers_of f ≡ read.numbers)) c.in_ok-fields.fields c.fields_of.ensures.ok
    (sym c.ok-in-Some-after_byte.ensures.value ∙ c.in_ok-fields.was) in
    let (text, whole, of) = line_from_numbers search_letter c.args.queries.now c.in-Some-after_byte.parts.now line
    read.rest.now read.numbers (λ e. absurd (omega (arith, e))) c.in-Some-after_byte.ensures first are in
    (text, whole, record { line_is = subst (λ xs. IsLineOf search_letter xs text) (sym same) of; fields_fit = fit })

pub returns-in_err-numbers-3-clause-none : goal.returns-in_err-numbers-3-clause-none
returns-in_err-numbers-3-clause-none c =
    IfNone-anyway {P = NoQuery c.args.queries.now} _
    (only_meeting c.args.queries.now c.in_ok-parts.parts.now c.in_ok-parts.ensures (λ line rest count f few fit.
    c.in_err-numbers-3.ensures.none line (pos count ∷ numbers_of f) rest refl
    (All-cons (FitsSigned w64) (pos count) (numbers_of f) (omega (arith, ints, few)) (fields_fit f fit))))

pub returns-in_err-count-clause-none : goal.returns-in_err-count-clause-none
returns-in_err-count-clause-none c =
    let ns = c.in_ok-numbers-3.numbers in
    let (line, first, are) = c.in_ok-numbers-3.ensures.some in
    let out = none_if_not {T = ℕ} {E = TryFromIntError} c.try_from-2.result _ _ c.try_from-2.ensures
    (sym c.ok-2.ensures.value ∙ c.in_err-count.was) in
    IfNone-anyway {P = NoQuery c.args.queries.now} _
    (only_meeting c.args.queries.now c.in_ok-parts.parts.now c.in_ok-parts.ensures
    (λ line' rest' count f few fit first' are'.
    let same = numbers_unique c.in_ok-parts.parts.now line line' c.in_ok-numbers-3.rest.now rest' ns
    (pos count ∷ numbers_of f) first are first' are' (search rules) in
    (rw (to_z-of_z w64 (get_or ns 0 (pos 0)) (search rules)) at out)
    (subst (FitsUnsignedBits 8) (sym (ap (λ xs. get_or xs 0 (pos 0)) same)) few)))

pub returns-in_err-fields-2-clause-none : goal.returns-in_err-fields-2-clause-none
returns-in_err-fields-2-clause-none c =
    let (line, first, are) = c.in_ok-numbers-3.ensures.some in
    let refused = none_if_err {T = Fields} {E = TryFromIntError} c.fields_of-2.result _ c.fields_of-2.ensures.err
    (sym c.ok-3.ensures.value ∙ c.in_err-fields-2.was) in
    IfNone-anyway {P = NoQuery c.args.queries.now} _
    (only_meeting c.args.queries.now c.in_ok-parts.parts.now c.in_ok-parts.ensures
    (λ line' rest' count f few fit first' are'.
    let same = numbers_unique c.in_ok-parts.parts.now line line' c.in_ok-numbers-3.rest.now rest'
    c.in_ok-numbers-3.numbers (pos count ∷ numbers_of f) first are first' are' (search rules) in
    refused f fit (sym (ap (λ xs. take 7 (drop 1 xs)) same))))

pub returns-clause-some : goal.returns-clause-some
returns-clause-some c =
    let ns = c.in_ok-numbers-3.numbers in
    let (line, first, are) = c.in_ok-numbers-3.ensures.some in
    let long : length ns ≡ 8 = search rules in
    let given = some_if {T = ℕ} {E = TryFromIntError} c.try_from-2.result _ _ c.in_ok-count.count c.try_from-2.ensures
    (sym c.ok-2.ensures.value ∙ c.in_ok-count.was) in
    let (few, is) = unsigned_value 8 (get_or ns 0 (pos 0)) c.in_ok-count.count
    (rw (to_z-of_z w64 (get_or ns 0 (pos 0)) (search rules)) at given) in
    let (fit, others) = some_if_ok {T = Fields} {E = TryFromIntError} c.fields_of-2.result (λ f. AreFieldsOfBits f
    × (numbers_of f ≡ take 7 (drop 1 ns))) c.in_ok-fields-2.fields c.fields_of-2.ensures.ok
    (sym c.ok-3.ensures.value ∙ c.in_ok-fields-2.was) in
    let same : ns ≡ pos c.in_ok-count.count ∷ numbers_of c.in_ok-fields-2.fields =
    drop_more ns 0 (pos 0) (omega (arith, long))
    ∙ cc (is, others, take_all 7 (drop 1 ns) (omega (arith, long, length-drop 1 ns))) in
    let (text, whole, of) = line_from_numbers meeting_letter c.args.queries.now c.in_ok-parts.parts.now line
    c.in_ok-numbers-3.rest.now ns (λ e. absurd (omega (arith, e))) c.in_ok-parts.ensures first are in (
      text,
      whole,
      record {
        line_is = subst (λ xs. IsLineOf meeting_letter xs text) same of;
        count_fits = few;
        fields_fit = fit;
      },
    )
