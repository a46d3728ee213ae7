-- How what holds a list holds a longer one.
use Rattle.std.specs.Prelude.{◌≡◌, ◌^◌, ◌<◌, List, [], ◌++◌, length}
use Rattle.std.proofs.Common.{sym, subst, arith, append_assoc, append-nil, length-append}

module _ {L X : Type 0} (holds : L → List X → Type 0) where
  -- whatever list the first held, the second holds that list with these at its end; a count has 64
  -- bits
  abbrev pub HoldsMore : L → L → List X → Type 0
  HoldsMore list grown found = (before : List X) → length (before ++ found) < 2 ^ 64
      → holds list before → holds grown (before ++ found)

  pub holds_none : (list : L) → HoldsMore list list []
  holds_none list before fits holding = subst (holds list) (sym (append-nil before)) holding

  pub holds_more : (list middle grown : L) (es fs : List X) → HoldsMore list middle es
      → HoldsMore middle grown fs → HoldsMore list grown (es ++ fs)
  holds_more list middle grown es fs first second before fits holding =
      let whole : (before ++ es) ++ fs ≡ before ++ (es ++ fs) = append_assoc before es fs in
      let size : length ((before ++ es) ++ fs) < 2 ^ 64 = rw whole fits in
      let front : length (before ++ es) < 2 ^ 64 = omega (arith, length-append (before ++ es) fs) in
      subst (holds grown) whole (second (before ++ es) size (first before front holding))
