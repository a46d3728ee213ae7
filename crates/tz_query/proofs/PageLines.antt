-- The line of a date time is its year, what stands between year and nanoseconds, nine digits and the suffix of its
-- type, joined in this order.
use Rattle.tz_query.proofs.Common.{sym, arith, ◌≡◌, [], ap, ◌∷◌, ◌∙◌, ◌++◌, length, ℕ, List, ◌+◌, append_assoc, take, ℤ, Fields, drop, moment_text, ◌≤◌, nine_digits, length-append, length-take-le, signed_decimal, LocalTimeType, suffix_text, date_text, middle_text, offset_text, printed_text, time_text, two_digits, type_name_text, take-append-add, take-append-le}
use Rattle.std.proofs.lemmas.Slice.{take-put_mid}
use borrow.Rule.Slice.PartMut.{put_mid}

-- the year, what stands between it and the nanoseconds, these and the suffix make the line
pub line_text : (f : Fields) (n : ℕ) (t : LocalTimeType) (u : ℤ) →
    signed_decimal f.year ++ (middle_text f ++ (nine_digits n ++ suffix_text t))
    ≡ moment_text (record { fields = record f { nanoseconds = n }; local_time_type = t; unix_time = u }) ++ 10 ∷ []
unfolding middle_text suffix_text moment_text printed_text date_text time_text two_digits nine_digits
line_text f n t u =
    let date = date_text f in
    let offset = offset_text t.ut_offset in
    let time = time_text (record f { nanoseconds = n }) in
    let name = 32 ∷ type_name_text t in
    sym (ap (λ line. line ++ 10 ∷ []) (append_assoc date (84 ∷ time ++ offset) name)
    ∙ append_assoc date ((84 ∷ time ++ offset) ++ name) (10 ∷ [])
    ∙ ap (λ line. date ++ (84 ∷ time ++ line)) (append_assoc offset name (10 ∷ []))
    ∙ append_assoc (signed_decimal f.year) (45 ∷ two_digits f.month ++ (45 ∷ two_digits f.month_day))
    (84 ∷ time ++ (offset ++ (name ++ 10 ∷ []))))

-- three pieces that are copied one after the other
pub three_pieces : (page prefix nine suffix : List ℕ) (at len : ℕ) → at + 57 ≤ length page → length prefix ≡ 16
    → length nine ≡ 9 → length suffix ≡ 32 → len ≤ 32 →
    take (at + 25 + len) (put_mid (at + 25) 32 (put_mid (at + 16) 9 (put_mid at 16 page prefix) nine) suffix)
    ≡ take at page ++ (prefix ++ (nine ++ take len suffix))
three_pieces page prefix nine suffix at len room prefix_len nine_len suffix_len few =
    let first = put_mid at 16 page prefix in
    let second = put_mid (at + 16) 9 first nine in
    let kept : length (take at page) ≡ at = length-take-le at page (omega (arith, room)) in
    let first_size : length first ≡ length (take at page) + (length prefix + length (drop 16 (drop at page))) =
    length-append (take at page) (prefix ++ drop 16 (drop at page)) ∙ ap (λ n. length (take at page) + n)
    (length-append prefix (drop 16 (drop at page))) in
    let first_is : take (at + 16) first ≡ take at page ++ prefix =
    take-put_mid at 16 page prefix (at + 16) (omega (arith, prefix_len)) (omega (arith, room)) in
    let begun : length (take (at + 16) first) ≡ at + 16 = ap length first_is ∙ length-append (take at page) prefix
    ∙ omega (arith, kept, prefix_len) in
    let second_size : length second ≡ length (take (at + 16) first)
    + (length nine + length (drop 9 (drop (at + 16) first))) =
    length-append (take (at + 16) first) (nine ++ drop 9 (drop (at + 16) first))
    ∙ ap (λ n. length (take (at + 16) first) + n) (length-append nine (drop 9 (drop (at + 16) first))) in
    let second_is : take (at + 25) second ≡ take (at + 16) first ++ nine =
    take-put_mid (at + 16) 9 first nine (at + 25) (omega (arith, nine_len))
    (omega (arith, first_size, kept, prefix_len)) in
    let written : length (take (at + 25) second) ≡ at + 25 =
    ap length second_is ∙ length-append (take (at + 16) first) nine ∙ omega (arith, begun, nine_len) in
    let beyond = drop 32 (drop (at + 25) second) in
    ap (λ n. take n (take (at + 25) second ++ (suffix ++ beyond))) (omega (arith, written))
    ∙ take-append-add (take (at + 25) second) (suffix ++ beyond) len
    ∙ ap (λ bytes. take (at + 25) second ++ bytes) (take-append-le len suffix beyond (omega (arith, few, suffix_len)))
    ∙ ap (λ bytes. bytes ++ take len suffix) (second_is ∙ ap (λ bytes. bytes ++ nine) first_is)
    ∙ append_assoc (take at page ++ prefix) nine (take len suffix)
    ∙ append_assoc (take at page) prefix (nine ++ take len suffix)
