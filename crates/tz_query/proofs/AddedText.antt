-- What steps that follow one another add to the answers.
use Rattle.tz_query.proofs.Common.{sym, subst, refl, ◌≡◌, [], ap, ◌∷◌, ◌∙◌, ◌++◌, ℕ, List, append_assoc, zone_of, ℤ, ended, line_feed, Time, IfOk-weaker, Adds, written, IfOk, Result, IsTimeAnswer, Query, Answers, IsAnswered, IsQueryAnswer, Leaves, append_cancel_right}
use Rattle.tz_query.specs.Pages.{EndsLine}
use Rattle.tz_query.specs.declared.query.output.Output.{Output}
use Rattle.tz_query.specs.declared.query.suffixes.Suffixes.{Suffixes}

module _ {A : Type 0} {a b : Answers A} {x : List ℕ} where
  -- the same text
  pub with_text : {y : List ℕ} → x ≡ y → Adds a b x → Adds a b y
  with_text same adds = subst (Adds a b) same adds

  -- a text, and then another after it
  pub adds_both : {c : Answers A} {y : List ℕ} → Adds a b x → Adds b c y → Adds a c (x ++ y)
  adds_both {c} {y} first second = record {
    zone_is = second.zone_is ∙ first.zone_is;
    sound = λ sound. second.sound (first.sound sound);
    text_is = second.text_is ∙ ap (λ was. was ++ y) first.text_is ∙ append_assoc (written a.output) x y;
  }

  -- nothing, and then a text
  pub then_adds : {c : Answers A} → Leaves a b → Adds b c x → Adds a c x
  then_adds same more = record {
    zone_is = more.zone_is ∙ same.zone_is;
    sound = λ sound. more.sound (same.sound sound);
    text_is = more.text_is ∙ ap (λ output. written output ++ x) same.output_is;
  }

-- a line without its end, and what follows on the same line
pub adds_joined : {A : Type 0} {a b c : Answers A} {y : List ℕ} (x page : List ℕ) → Adds a b (x ++ line_feed ∷ [])
    → EndsLine b.output.page →
    ((text : List ℕ) (byte : ℕ) → b.output.page ≡ text ++ byte ∷ [] → page ≡ text)
    → Adds (record b { output = record b.output { page = page } }) c y → Adds a c (x ++ y)
adds_joined {A} {a} {b} {c} x page first (text, ends) popped second =
    let items = b.output.answers.items in
    let end = line_feed ∷ [] in
    let whole : page ++ end ≡ b.output.page = ap (λ bytes. bytes ++ end) (popped text line_feed ends) ∙ sym ends in
    let joined : Adds a (record b { output = record b.output { page = page } }) x = record {
      zone_is = first.zone_is;
      sound = first.sound;
      text_is = append_cancel_right (items ++ page) (written a.output ++ x) end (append_assoc items page end
          ∙ ap (λ bytes. items ++ bytes) whole ∙ first.text_is ∙ sym (append_assoc (written a.output) x end));
    } in
    adds_both joined second

-- the answer of a query, where it alone is written
pub answer_written : {A T E : Type 0} (query : Query) (a : Answers A) (output : Output A) (r : Result T E)
    (answer : List (List ℕ)) → IsQueryAnswer (zone_of a.zone) query answer →
    IfOk r (λ _. written output ≡ written a.output ++ ended answer)
    → IfOk r (λ _. IsAnswered query a (record a { output = output }))
answer_written query a output r answer is text =
    IfOk-weaker r _ _ (λ done items. (answer, is, record { zone_is = refl; sound = λ s. s; text_is = items })) text

pub time_answer_written : {A T E : Type 0} (u : ℤ) (n : ℕ) (a : Answers A) (suffixes : Suffixes) (output : Output A)
    (r : Result T E) →
    IfOk r (λ _. (text : List ℕ) × IsTimeAnswer (zone_of a.zone) u n text
    × (written output ≡ written a.output ++ ended (text ∷ [])))
    → IfOk r (λ _. IsAnswered (Time u n) a (record a { suffixes = suffixes; output = output }))
time_answer_written u n a suffixes output r text =
    IfOk-weaker r _ _ (λ done (line, is, items). (
      line ∷ [],
      (line, is, refl),
      record { zone_is = refl; sound = λ s. s; text_is = items },
    )) text

-- the answer of a query after nothing was written
pub answered_after : {A T E : Type 0} {a b : Answers A} (c : Answers A) (query : Query) (r : Result T E) → Leaves a b
    → IfOk r (λ _. IsAnswered query b c) → IfOk r (λ _. IsAnswered query a c)
answered_after c query r kept answered =
    IfOk-weaker r _ _ (λ done (answer, is, adds).
    (answer, subst (λ zone. IsQueryAnswer (zone_of zone) query answer) kept.zone_is is, then_adds kept adds))
    answered
