-- A text split where a run ends.
use Rattle.tz_zone.proofs.Common.{◌≡◌, ℕ, sym, length, ◌∙◌, ap, List, Bool, ◌++◌, take_while, drop, IsRun, take, take-append-drop}
use Rattle.std.proofs.lemmas.List.Folds.{length-prefix_len}

pub run_of_split : (test : ℕ → Bool) (text run rest : List ℕ) (n : ℕ) → n ≡ length (take_while test text)
    → run ≡ take n text → rest ≡ drop n text → IsRun test text run rest
run_of_split test text run rest n e front back = record {
  longest = front ∙ ap (λ k. take k text) (e ∙ length-prefix_len test text);
  parts = sym (take-append-drop n text) ∙ ap (λ x. x ++ drop n text) (sym front) ∙ ap (λ x. run ++ x) (sym back);
}
