-- The records of transitions, each the bytes of its time and its index, are what an iterator over both tables gives.
use Rattle.std.proofs.Math.Nat.{mul-le-mul_right, suc-mul, zero-mul}
use Rattle.std.proofs.Math.Seq.{drop-append_seam, take-append_seam}
use Rattle.std.proofs.lemmas.Iterator.{YieldsList, zips}
use Rattle.std.proofs.lemmas.Iterator.Adapters.{serves_from_places}
use Rattle.std.proofs.lemmas.Fn.{fronts}
use Rattle.std.proofs.lemmas.List.{drop-drop, take-take}
use Rattle.std.proofs.lemmas.Simd.{map-map}
use Rattle.std.proofs.lemmas.List.FromFn.{get_or-map-range_with_len, length-map-range_with_len}
use Rattle.std.specs.Iterator.{AlwaysYields, CallableAtEachTurn}
use Rattle.std.specs.Iterator.Adapters.{zip_first, zip_second}
use Rattle.std.specs.List.{range_with_len}
use Rattle.std.specs.Slice.Iter.{chunks_exact_rest, chunks_exact_size, chunks_exact_steps, iter_rest}
use Rattle.tz_zone.proofs.Common.{◌≡◌, ℕ, sym, ap, ◌∙◌, List, ◌+◌, ◌*◌, ◌<◌, ◌≤◌, ◌∷◌, ◌++◌, length, take, drop, suc, zero, arith, slice_index, get_or, get_or-drop, length-append, length-drop, length-take-le, Block, Width, Transition, inl, inr, Bor, subst, OnOk, Ok, slice_get_within, HasTypeAtIndex}
use Rattle.tz_zone.proofs.TableChecks.{item_read}
use Rattle.std.proofs.Common.{Result}
use Rattle.tz_zone.specs.TzFile.{change_at, transitions_of, signed_at, number_at}
use Rattle.std.specs.Int.{byte_len, cast_signed, from_be_bytes}
use Rattle.std.proofs.Common.{map}

-- the bytes of the time of record i, and its index
abbrev pub record_at : ℕ → List ℕ → List ℕ → ℕ → List ℕ × ℕ
record_at n times indexes i = (take n (drop (i * n) times), slice_index indexes i)

-- the transition of a record
abbrev pub change_of_record : Width → List ℕ × ℕ → Transition
change_of_record w record_bytes = record {
  unix_leap_time = signed_at w record_bytes.0 0;
  type_index = record_bytes.1;
}

module _ (n : ℕ) (times indexes : List ℕ) (some : 0 < n) where
  -- after k records m are left
  given : (m k : ℕ) (s : _) → chunks_exact_size (zip_first s) ≡ n
      → chunks_exact_rest (zip_first s) ≡ drop (k * n) times → length (chunks_exact_rest (zip_first s)) ≡ m * n
      → iter_rest (zip_second s) ≡ drop k indexes → length (iter_rest (zip_second s)) ≡ m
      → AlwaysYields (zips chunks_exact_steps fronts) (λ p. (p.0.now, p.1.now)) s
      (map (record_at n times indexes) (range_with_len k m))
  given zero k s size rest len second len_second = λ x j p. omega (
    arith,
    ap length p.0.1.0,
    length-append x.0.now (chunks_exact_rest (zip_first j)),
    p.0.1.1,
    len,
    zero-mul n,
  )
  given (suc m) k s size rest len second len_second = (
    (λ j p. elim p [
      | inl short ↦ omega (arith, short.1.1.0, size, len, suc-mul m n)
      | inr none ↦ omega (arith, none.1.0, len_second)
    ]),
    λ x j p.
        let long : length x.0.now ≡ n = p.0.1.1 ∙ size in
        let cut : x.0.now ++ chunks_exact_rest (zip_first j) ≡ drop (k * n) times = sym p.0.1.0 ∙ rest in
        let one : x.1.now ∷ iter_rest (zip_second j) ≡ drop k indexes = sym p.1 ∙ second in
        let time : x.0.now ≡ take n (drop (k * n) times) =
        sym (take-append_seam x.0.now (chunks_exact_rest (zip_first j))) ∙ (λ i. take (long i) (cut i)) in
        let index : x.1.now ≡ slice_index indexes k =
        ap (λ (xs : List ℕ). get_or xs 0 0) one ∙ get_or-drop k indexes 0 0 ∙ ap (slice_index indexes) (omega arith) in
        let rest' : chunks_exact_rest (zip_first j) ≡ drop ((k + 1) * n) times =
        sym (drop-append_seam x.0.now (chunks_exact_rest (zip_first j))) ∙ (λ i. drop (long i) (cut i))
        ∙ drop-drop n (k * n) times ∙ ap (λ at. drop at times) (omega (arith, suc-mul k n)) in (
          (λ i. (time i, index i)),
          given m (k + 1) j (p.0.0 ∙ size) rest'
              (omega (
                arith,
                ap length p.0.1.0,
                length-append x.0.now (chunks_exact_rest (zip_first j)),
                long,
                len,
                suc-mul m n,
              ))
              (ap (drop 1) one ∙ drop-drop 1 k indexes)
              (omega (arith, ap length p.1, len_second)),
        ),
  )

  module _ {s : _} (size : chunks_exact_size (zip_first s) ≡ n) (rest : chunks_exact_rest (zip_first s) ≡ times)
      (second : iter_rest (zip_second s) ≡ indexes) (whole : length times ≡ length indexes * n) where
    pub records_given : YieldsList (zips chunks_exact_steps fronts) (λ p. (p.0.now, p.1.now)) s
        (map (record_at n times indexes) (range_with_len 0 (length indexes)))
    records_given = record {
      runs = given (length indexes) 0 s size (rest ∙ ap (λ at. drop at times) (sym (zero-mul n)))
          (ap length rest ∙ whole) second (ap length second);
    }

    -- each time of a record has its bytes
    pub records_serve : {F : Type 0} {R : F → Bor (List ℕ) × Bor ℕ → F → Type 0}
        {Q : F → Bor (List ℕ) × Bor ℕ → Type 0} {f : F} → ((x : Bor (List ℕ) × Bor ℕ) (q : F) → R f x q → q ≡ f)
        → ((x : Bor (List ℕ) × Bor ℕ) → length x.0.now ≡ n → Q f x)
        → CallableAtEachTurn (zips chunks_exact_steps fronts) R Q s f
    records_serve stays serves = serves_from_places records_given stays (λ x k below at.
        let within : k < length indexes = omega (
          arith,
          below,
          length-map-range_with_len (record_at n times indexes) 0 (length indexes),
        ) in
        let room : n ≤ length (drop (k * n) times) = omega (
          arith,
          length-drop (k * n) times,
          whole,
          suc-mul k n,
          mul-le-mul_right {m = suc k} n within,
        ) in
        let is : (x.0.now, x.1.now) ≡ record_at n times indexes k =
        at ∙ get_or-map-range_with_len (record_at n times indexes) 0 (length indexes) k k (x.0.now, x.1.now) within
        (omega arith) in
        serves x (ap (λ (r : List ℕ × ℕ). length r.0) is ∙ length-take-le n (drop (k * n) times) room))

pub transition_of_record : (w : Width) (block : Block) (i : ℕ)
    → change_of_record w (record_at (byte_len w) block.times block.indexes i) ≡ change_at w block i
unfolding signed_at number_at change_at
transition_of_record w block i = ap (λ bytes. record {
  unix_leap_time = cast_signed w (from_be_bytes w bytes);
  type_index = slice_index block.indexes i;
}) (take-take (byte_len w) (byte_len w) (drop (i * byte_len w) block.times) (omega arith))

pub transitions_of_records : (w : Width) (block : Block) (n : ℕ)
    → map (change_of_record w) (map (record_at (byte_len w) block.times block.indexes) (range_with_len 0 n))
    ≡ transitions_of w block n
unfolding transitions_of
transitions_of_records w block n = map-map _ _ (range_with_len 0 n)
    ∙ ap (λ f. map f (range_with_len 0 n)) (λ k i. transition_of_record w block i k)

pub at_ok : {X E P : Type 0} (r : Result X E) (x : X) → r ≡ Ok x → OnOk r P → P
at_ok {P = P} r x is h = subst (λ r. OnOk r P) is h

-- the types that bytes below their number name
pub named_types : (w : Width) (block : Block) (n types : ℕ) → length block.indexes ≡ n
    → ((i : ℕ) → i < length block.indexes → slice_index block.indexes i < types)
    → (i : ℕ) → HasTypeAtIndex (transitions_of w block n) types i
unfolding transitions_of change_at
named_types w block n types len below i change at =
    let long = length-map-range_with_len (change_at w block) 0 n in
    let within : i < length (transitions_of w block n) = slice_get_within (transitions_of w block n) i change at in
    let is : change_at w block i ≡ change = item_read (transitions_of w block n) i (change_at w block i) change within
    (sym (get_or-map-range_with_len (change_at w block) 0 n i i (change_at w block i) (omega (arith, within, long))
    (omega arith))) at in
    subst (λ (t : Transition). t.type_index < types) is (below i (omega (arith, within, long, len)))
