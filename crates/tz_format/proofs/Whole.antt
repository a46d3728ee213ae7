-- Local times cut after their minutes.
use Rattle.std.proofs.Common.{◌≡◌, ◌+◌, ◌-◌, ◌++◌, ℕ, List, length, take, drop, Some, min, ap, sym, ◌∙◌}
use Rattle.std.proofs.Math.Seq.{take-length}
use Rattle.std.proofs.lemmas.List.{take_min, drop_min, length-drop}
use Rattle.tz_format.specs.Lenient.{whole_seconds, whole_from}

pub all_after : (n : ℕ) (bytes : List ℕ) → take (length bytes - n) (drop n bytes) ≡ drop n bytes
all_after n bytes = rw (sym (length-drop n bytes)) (take-length (drop n bytes))

pub whole_cut : (local : List ℕ) (separator end : ℕ) → end ≡ min (separator + 6) (length local)
    → take end local ++ whole_seconds (take (length local - end) (drop end local))
    ≡ whole_from local (Some separator)
whole_cut local separator end is =
    let n = separator + 6 in
    ap (λ xs. take end local ++ whole_seconds xs) (all_after end local)
    ∙ ap (λ k. take k local ++ whole_seconds (drop k local)) is
    ∙ ap (λ xs. xs ++ whole_seconds (drop (min n (length local)) local)) (take_min n local)
    ∙ ap (λ xs. take n local ++ whole_seconds xs) (drop_min n local)
