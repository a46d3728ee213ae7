-- Names and refusals as an answer has them, and one more line and its answer.
use Rattle.tz_query.proofs.Common.{sym, subst, refl, arith, ◌≡◌, [], ap, ◌∷◌, ◌∙◌, ◌++◌, length, ℕ, inl, List, inr, ◌+◌, ◌<◌, append_assoc, take, ℤ, ended, Fields, codes, Zone, get_or, line_feed, append-nil, IsFirstLine, IsLine, All-cons, entry_text, All-nil, AreAnswers, IsAnswer, OutOfRange, map, FoundDateTimeKind, TzError, length-append, suc, zero, AreLines, Bool, IsCut, IsFaultText, false, Clock, DateTimeError, IsLineEnd, take_more, IsClockFault, map-append, ⊤, ◌==◌}
use Rattle.tz_base.specs.declared.error.TzError.TheVariants.{DateTime}
use Rattle.tz.specs.FindFaults.{IsFindFault}

-- every refusal of an instant has a name
pub clock_fault_text : (z : Zone) (u : ℤ) (n : ℕ) (e : TzError) → IsClockFault z u n e
    → (text : List ℕ) × IsFaultText e text
clock_fault_text z u n e (inl (is, many)) = subst (λ fault. (text : List ℕ) × IsFaultText fault text) (sym is)
    (codes "InvalidNanoseconds", refl)
clock_fault_text z u n e (inr (inl (few, inl (is, over)))) =
    subst (λ fault. (text : List ℕ) × IsFaultText fault text) (sym is) (codes "NoAvailableLocalTimeType", refl)
clock_fault_text z u n e (inr (inl (few, inr (is, none, not_over)))) =
    subst (λ fault. (text : List ℕ) × IsFaultText fault text) (sym is) (codes "OutOfRange", refl)
clock_fault_text z u n e (inr (inr (is, few, out))) = subst (λ fault. (text : List ℕ) × IsFaultText fault text) (sym is)
    (codes "OutOfRange", refl)

-- the lines of two lists of lines
pub ended-append : (xs ys : List (List ℕ)) → ended (xs ++ ys) ≡ ended xs ++ ended ys
ended-append [] ys = refl
ended-append (x ∷ xs) ys = ap (λ bs. x ++ line_feed ∷ bs) (ended-append xs ys)
    ∙ sym (append_assoc x (line_feed ∷ ended xs) (ended ys))

-- no line is left of no bytes
pub nothing_after : (xs ys : List ℕ) → xs ++ ys ≡ [] → ys ≡ []
nothing_after [] ys e = e
nothing_after (x ∷ xs) ys e = cc

pub no_lines : (lines : List (List ℕ)) → AreLines [] lines → lines ≡ []
no_lines [] are = refl
no_lines (line ∷ lines) are = absurd (cases are.cut)
  where
    cases : IsCut [] (line ∷ lines) → ⊥
    cases (inl is) = let none : line_feed ∷ ended lines ≡ [] = nothing_after line (line_feed ∷ ended lines) (sym is) in
        cc
    cases (inr (front, last, split, some, is)) = some (nothing_after (ended front) last (sym is))

-- a line before the lines of the rest
pub AreLines-cons : (bytes line rest : List ℕ) (lines : List (List ℕ)) → 0 < length bytes → IsFirstLine bytes line rest
    → AreLines rest lines → AreLines bytes (line ∷ lines)
AreLines-cons bytes line rest lines some first are = record {
  cut = cases first.end are.cut;
  without_ends = All-cons IsLine line lines first.without_end are.without_ends;
}
  where
    cases : IsLineEnd first.tail rest → IsCut rest lines → IsCut bytes (line ∷ lines)
    cases (inl end) (inl is) = inl (first.cut ∙ ap (λ t. line ++ t) (end ∙ ap (λ r. line_feed ∷ r) is))
    cases (inl end) (inr (front, last, split, full, is)) =
        inr (
          line ∷ front,
          last,
          ap (λ ls. line ∷ ls) split,
          full,
          first.cut ∙ ap (λ t. line ++ t) (end ∙ ap (λ r. line_feed ∷ r) is)
              ∙ sym (append_assoc line (line_feed ∷ ended front) last),
        )
    cases (inr end) cut =
        let whole : bytes ≡ line = first.cut ∙ ap (λ t. line ++ t) end.0 ∙ append-nil line in
        inr (
          [],
          line,
          ap (λ ls. line ∷ ls) (no_lines lines (subst (λ r. AreLines r lines) end.1 are)),
          (λ e.
              absurd (omega (arith, some, ap length (whole ∙ e)))),
          whole,
        )

-- fewer bytes are left after a line
pub rest_is_shorter : (bytes line rest : List ℕ) → IsFirstLine bytes line rest → 0 < length bytes
    → length rest < length bytes
rest_is_shorter bytes line rest first some = cases first.end
  where
    cases : IsLineEnd first.tail rest → length rest < length bytes
    cases (inl end) = omega (arith, ap length first.cut, length-append line first.tail, ap length end)
    cases (inr end) = omega (arith, some, ap length end.1)

pub AreAnswers-nil : (z : Zone) → AreAnswers z [] []
AreAnswers-nil z = record {
  lines = [];
  answers = [];
  cut = record { cut = inl refl; without_ends = All-nil IsLine };
  each = tt;
  written = refl;
}

-- an answer before those of the rest
pub AreAnswers-cons : (z : Zone) (bytes line rest more : List ℕ) (answer : List (List ℕ)) → 0 < length bytes
    → IsFirstLine bytes line rest → IsAnswer z line answer → AreAnswers z rest more
    → AreAnswers z bytes (ended answer ++ more)
AreAnswers-cons z bytes line rest more answer some first is are =
    record {
      lines = line ∷ are.lines;
      answers = answer ∷ are.answers;
      cut = AreLines-cons bytes line rest are.lines some first are.cut;
      each = (is, are.each);
      written = ap (λ bs. ended answer ++ bs) are.written;
    }

-- bytes are left where a test finds them not empty
pub some_left : (n : ℕ) (empty : Bool) → empty ≡ (n == 0) → empty ≡ false → 0 < n
some_left zero empty is not = cc
some_left (suc n) empty is not = omega arith

-- the lines of one more entry
pub entries_more : (found : List FoundDateTimeKind) (i : ℕ) (d : FoundDateTimeKind) → i < length found →
    ended (map entry_text (take (i + 1) found)) ≡ ended (map entry_text (take i found))
    ++ (entry_text (get_or found i d) ++ line_feed ∷ [])
entries_more found i d within =
    ap (λ es. ended (map entry_text es)) (take_more found i d within)
    ∙ ap ended (map-append entry_text (take i found) (get_or found i d ∷ []))
    ∙ ended-append (map entry_text (take i found)) (entry_text (get_or found i d) ∷ [])

-- a search is refused for the fields' fault, out of range, or for an allocation failure
pub told_field_fault : (clock : Clock) (f : Fields) (fault : DateTimeError) → IsFindFault ⊤ clock f (DateTime fault)
    → IsFindFault ⊥ clock f (DateTime fault)
told_field_fault clock f fault (inl first) = inl first
told_field_fault clock f fault (inr (valid, inl (is, takes))) = absurd cc
told_field_fault clock f fault (inr (valid, inr (is, near))) = absurd cc

pub told_out_of_range : (clock : Clock) (f : Fields) → IsFindFault ⊤ clock f OutOfRange
    → IsFindFault ⊥ clock f OutOfRange
told_out_of_range clock f (inl (fault, is, first)) = absurd cc
told_out_of_range clock f (inr (valid, inl (is, takes))) = absurd cc
told_out_of_range clock f (inr (valid, inr near)) = inr (valid, inr near)
