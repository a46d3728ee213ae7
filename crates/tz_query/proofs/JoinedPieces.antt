-- Answers of two pieces of query bytes, of which the first ends in LF, are those of both, and those of both can be cut
-- into these.
use Rattle.tz_query.proofs.Common.{sym, subst, refl, arith, ◌≡◌, [], ap, ◌∷◌, ◌∙◌, ◌++◌, length, ℕ, inl, List, inr, append_assoc, ended, Zone, line_feed, ◌≤◌, IsFirstLine, IsLine, All-cons, flat_map, All, All-nil, AreAnswers, IsAnswer, ◌≢◌, suc, zero, All-append, All-tail, AllZip, AreLines, IsCut, All-head, cases_eq}
use Rattle.std.proofs.lemmas.List.Concat.{flat_map-append}
use Rattle.tz_query.proofs.AnswerLines.{AreLines-cons, ended-append, nothing_after, rest_is_shorter}
use Rattle.tz_query.proofs.UniqueAnswers.{no_end_within, answer_groups}

-- after the last LF of bytes that end in one there is nothing
nothing_after_end : (q xs last : List ℕ) → q ++ line_feed ∷ [] ≡ xs ++ last → IsLine last → last ≡ []
nothing_after_end q [] last e is = absurd (no_end_within last q [] is (sym e))
nothing_after_end [] (x ∷ xs) last e is = let rest : [] ≡ xs ++ last = cc in nothing_after xs last (sym rest)
nothing_after_end (b ∷ q) (x ∷ xs) last e is = let rest : q ++ line_feed ∷ [] ≡ xs ++ last = cc in
    nothing_after_end q xs last rest is

last_is_line : (front : List (List ℕ)) (last : List ℕ) → All IsLine (front ++ last ∷ []) → IsLine last
last_is_line [] last all = All-head IsLine last [] all
last_is_line (x ∷ front) last all = last_is_line front last (All-tail IsLine x (front ++ last ∷ []) all)

-- so each of their lines ends in LF
ended_lines : (q : List ℕ) (lines : List (List ℕ)) → AreLines (q ++ line_feed ∷ []) lines
    → q ++ line_feed ∷ [] ≡ ended lines
ended_lines q lines are = by_cut are.cut
  where
    by_cut : IsCut (q ++ line_feed ∷ []) lines → q ++ line_feed ∷ [] ≡ ended lines
    by_cut (inl is) = is
    by_cut (inr (front, last, split, full, is)) =
        absurd (full (nothing_after_end q (ended front) last is
        (last_is_line front last (subst (All IsLine) split are.without_ends))))

joined_lines : (q more : List ℕ) (lines others : List (List ℕ)) → AreLines (q ++ line_feed ∷ []) lines
    → AreLines more others → AreLines (q ++ line_feed ∷ more) (lines ++ others)
joined_lines q more lines others are are' =
    record { cut = by_cut are'.cut; without_ends = All-append IsLine lines others are.without_ends are'.without_ends }
  where
    whole : q ++ line_feed ∷ more ≡ ended lines ++ more
    whole = sym (append_assoc q (line_feed ∷ []) more) ∙ ap (λ bs. bs ++ more) (ended_lines q lines are)

    by_cut : IsCut more others → IsCut (q ++ line_feed ∷ more) (lines ++ others)
    by_cut (inl is) = inl (whole ∙ ap (λ bs. ended lines ++ bs) is ∙ sym (ended-append lines others))
    by_cut (inr (front, last, split, full, is)) =
        inr (
          lines ++ front,
          last,
          ap (λ ls. lines ++ ls) split ∙ sym (append_assoc lines front (last ∷ [])),
          full,
          whole
              ∙ ap (λ bs. ended lines ++ bs) is
              ∙ sym (append_assoc (ended lines) (ended front) last)
              ∙ ap (λ bs. bs ++ last) (sym (ended-append lines front)),
        )

-- bytes have a first line, and so they have lines
first_line_exists : (bytes : List ℕ) → (line : List ℕ) × (rest : List ℕ) × IsFirstLine bytes line rest
first_line_exists [] = (
  [],
  [],
  record { tail = []; cut = refl; end = inr (refl, refl); without_end = All-nil (λ x. x ≢ line_feed) },
)
first_line_exists (b ∷ bytes) =
    elim (cases_eq b line_feed) [
      | inl is ↦ (
        [],
        bytes,
        record {
          tail = b ∷ bytes;
          cut = refl;
          end = inl (ap (λ x. x ∷ bytes) is);
          without_end =
              All-nil (λ x. x ≢ line_feed);
        },
      )
      | inr not ↦
          let (line, rest, first) = first_line_exists bytes in (
            b ∷ line,
            rest,
            record {
              tail = first.tail;
              cut = ap (λ bs. b ∷ bs) first.cut;
              end = first.end;
              without_end =
                  All-cons (λ x. x ≢ line_feed) b line not first.without_end;
            },
          )
    ]

lines_exist : (most : ℕ) (bytes : List ℕ) → length bytes ≤ most → (lines : List (List ℕ)) × AreLines bytes lines
lines_exist most [] within = ([], record { cut = inl refl; without_ends = All-nil IsLine })
lines_exist zero (b ∷ bytes) within = absurd (omega (arith, within))
lines_exist (suc most) (b ∷ bytes) within =
    let (line, rest, first) = first_line_exists (b ∷ bytes) in
    let (lines, are) = lines_exist most rest
    (omega (arith, within, rest_is_shorter (b ∷ bytes) line rest first (omega arith))) in
    (line ∷ lines, AreLines-cons (b ∷ bytes) line rest lines (omega arith) first are)

joined_zips : (z : Zone) (lines more : List (List ℕ)) (answers others : List (List (List ℕ)))
    → AllZip (IsAnswer z) lines answers → AllZip (IsAnswer z) more others
    → AllZip (IsAnswer z) (lines ++ more) (answers ++ others)
joined_zips z [] more [] others each each' = each'
joined_zips z [] more (x ∷ answers) others each each' = absurd each
joined_zips z (line ∷ lines) more [] others each each' = absurd each
joined_zips z (line ∷ lines) more (x ∷ answers) others each each' =
    (each.0, joined_zips z lines more answers others each.1 each')

cut_zip : (z : Zone) (lines more : List (List ℕ)) (answers : List (List (List ℕ)))
    → AllZip (IsAnswer z) (lines ++ more) answers →
    (first : List (List (List ℕ))) × (others : List (List (List ℕ))) × (answers ≡ first ++ others)
    × AllZip (IsAnswer z) lines first × AllZip (IsAnswer z) more others
cut_zip z [] more answers each = ([], answers, refl, tt, each)
cut_zip z (line ∷ lines) more [] each = absurd each
cut_zip z (line ∷ lines) more (x ∷ answers) each =
    let beyond = cut_zip z lines more answers each.1 in
    (x ∷ beyond.0, beyond.1, ap (λ xs. x ∷ xs) beyond.2, (each.0, beyond.3), beyond.4)

pub joined_answers : (z : Zone) (q more bytes others : List ℕ) → AreAnswers z (q ++ line_feed ∷ []) bytes
    → AreAnswers z more others → AreAnswers z (q ++ line_feed ∷ more) (bytes ++ others)
joined_answers z q more bytes others are are' = record {
  lines = are.lines ++ are'.lines;
  answers = are.answers ++ are'.answers;
  cut = joined_lines q more are.lines are'.lines are.cut are'.cut;
  each = joined_zips z are.lines are'.lines are.answers are'.answers are.each are'.each;
  written = ap (λ bs. bs ++ others) are.written ∙ ap (λ bs. flat_map ended are.answers ++ bs) are'.written
      ∙ sym (flat_map-append ended are.answers are'.answers);
}

pub cut_answers : (z : Zone) (q more bytes : List ℕ) → AreAnswers z (q ++ line_feed ∷ more) bytes →
    (first : List ℕ) × (others : List ℕ) × (bytes ≡ first ++ others) × AreAnswers z (q ++ line_feed ∷ []) first
    × AreAnswers z more others
cut_answers z q more bytes are =
    let lines = lines_exist (length (q ++ line_feed ∷ [])) (q ++ line_feed ∷ []) (omega arith) in
    let beyond = lines_exist (length more) more (omega arith) in
    let all = answer_groups z (q ++ line_feed ∷ more) bytes (lines.0 ++ beyond.0) are
    (joined_lines q more lines.0 beyond.0 lines.1 beyond.1) in
    let cut = cut_zip z lines.0 beyond.0 all.0 all.1 in (
      flat_map ended cut.0,
      flat_map ended cut.1,
      all.2 ∙ ap (λ xs. flat_map ended xs) cut.2 ∙ flat_map-append ended cut.0 cut.1,
      record { lines = lines.0; answers = cut.0; cut = lines.1; each = cut.3; written = refl },
      record { lines = beyond.0; answers = cut.1; cut = beyond.1; each = cut.4; written = refl },
    )
