-- The digits are copied, after zeros where they are fewer than nine.
use Rattle.tz_query.proofs.Common.{subst, refl, arith, ◌≡◌, ap, ◌∷◌, ◌∙◌, ◌++◌, length, rules, ℕ, List, ◌+◌, ◌<◌, drop, pos, get_or, ◌≤◌, IsPartFront, nine_digits, digits_value, digits_len, replicate, slice_range, length-set, set}
use Rattle.tz_query.proofs.FastNumbers.{front_at, length_at, byte_at, few_in_window, end_before, digits_of_nine, nine_digits_are, one_more_zero, plain_part}
use Rattle.tz_query.proofs.query.read_query.read_nanoseconds.Goals as goal

-- the digits after a space and before LF, with as many zeros before them as they lack of nine
padded : (bs : List ℕ) (position k zeros : ℕ) (nine : List ℕ) → position + 11 ≤ length bs → get_or bs position 0 ≡ 32
    → k ≡ 0 + digits_len (drop 0 (slice_range bs (position + 1) (position + 1 + 9))) →
    get_or bs (position + 1 + k) 0 ≡ 10 → 0 < k → zeros + k ≡ 9
    → nine ≡ replicate zeros 48 ++ slice_range bs (position + 1) (position + 1 + k) →
    (n : ℕ) × (n < 1000000000) × (nine ≡ nine_digits n)
    × IsPartFront (drop position bs) (pos n) (10 ∷ drop (position + 1 + k + 1) bs)
padded bs position k zeros nine room space read line_end some all is =
    let start = position + 1 in
    let end = start + k in
    let digits = slice_range bs start end in
    let within : start ≤ length bs = omega (arith, room) in
    let next = byte_at bs end 10 (omega (arith, room, all)) line_end in
    let end_is = end_before bs start 9 k read 10 (omega (arith, room)) refl next in
    let front = front_at bs start end within end_is in
    let long = length_at bs start end within end_is in
    let value = nine_digits_are zeros digits (omega (arith, all, long)) front.all_digits in
    let part = plain_part (drop start bs) digits (drop end bs) front (omega (arith, long, some)) (drop position bs)
    (byte_at bs position 32 (omega (arith, room)) space) in (
      digits_value 10 digits,
      value.1,
      is ∙ value.0,
      subst
          (IsPartFront (drop position bs) (pos (digits_value 10 digits))) next part,
    )

pub loop-index-preserved : goal.loop-index-preserved
loop-index-preserved c =
    let i = c.loop-index.index in
    let copied = c.copy_from_slice-2.new.self in
    let long : length copied ≡ 9 = search rules in
    let within : i < length copied = omega (arith, long, c.loop-index-test.true) in (
      length-set c.loop-index.digits i 48 ∙ c.loop-index.invariant.0,
      ap (λ xs. set xs i 48) c.loop-index.invariant.1 ∙ one_more_zero copied i within,
    )

pub returns-then-bytes-end-eq10-clause-number : goal.returns-then-bytes-end-eq10-clause-number
returns-then-bytes-end-eq10-clause-number c =
    let read = c.read_digits-count in
    padded c.args.bytes.now c.args.position read.result.0 0 c.copy_from_slice.new.self c.requires
    c.if-bytes-position-ne32.false read.ensures.end c.if-bytes-end-eq10.true (omega (arith, c.if-count-eq9.true))
    (omega (arith, c.if-count-eq9.true)) c.copy_from_slice.ensures.after

pub returns-clause-number : goal.returns-clause-number
returns-clause-number c =
    let bs = c.args.bytes.now in
    let read = c.read_digits-count in
    let start = c.args.position + 1 in
    let k = read.result.0 in
    let zeros = c.loop-index.index in
    let few = few_in_window bs start 9 k read.ensures.end (omega (arith, c.requires)) in
    let all : zeros + k ≡ 9 = omega (arith, few, c.loop-index-test.false, c.loop-index.auto.index-end) in
    let copied : drop zeros c.copy_from_slice-2.new.self ≡ slice_range bs start (start + k) =
    ap (drop zeros) c.copy_from_slice-2.ensures.after ∙ digits_of_nine bs start (start + k) zeros
    (omega arith) c.if-end-lt9.false (omega (arith, few)) (omega (arith, all)) in
    padded bs c.args.position k zeros c.loop-index.digits c.requires c.if-bytes-position-ne32.false read.ensures.end
    c.if-bytes-end-ne10.false (omega (arith, c.if-count-eq0.false)) all (c.loop-index.invariant.1
    ∙ ap (λ ds. replicate zeros 48 ++ ds) copied)
