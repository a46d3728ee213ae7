-- What was taken are the bytes so far and the last piece.
use Rattle.tz_zone.proofs.Common.{arith, ℕ, refl, length, List, ◌≤◌, ◌+◌, Option, ◌++◌, Consumes, take, length-take}
use Rattle.std.proofs.Common.{length-append}
use Rattle.tz_zone.specs.File.{TakesAtMost}
use Rattle.tz_zone.proofs.ReadBytes.{consumes_more}
use Rattle.tz_zone.proofs.timezone.files.read_up_to.Goals as goal

taken : (old mid new : Option (List ℕ)) (bytes buffer : List ℕ) (count limit : ℕ) → Consumes old mid bytes
    → Consumes mid new (take count buffer) → length bytes + count ≤ limit + 1 → TakesAtMost (limit + 1) old new
taken old mid new bytes buffer count limit so_far next within = (
  bytes ++ take count buffer,
  consumes_more old mid new bytes (take count buffer) _ so_far next
      refl,
  omega (arith, length-append bytes (take count buffer), length-take count buffer),
)

pub returns-then-left-count-clause-most : goal.returns-then-left-count-clause-most
returns-then-left-count-clause-most g c =
    taken (g.I.Read.remaining c.args.input.now) (g.I.Read.remaining c.loop.input)
    (g.I.Read.remaining c.read_piece_up_to.new.input) c.loop.bytes.items c.read_piece_up_to.new.buffer
    c.in_ok-count.count c.args.limit
    c.loop.invariant.0 c.in_ok-count.ensures.bytes.0 (omega (arith, c.in_ok-count.ensures.most))

pub returns-in_err-append-clause-most : goal.returns-in_err-append-clause-most
returns-in_err-append-clause-most g c =
    taken (g.I.Read.remaining c.args.input.now) (g.I.Read.remaining c.loop.input)
    (g.I.Read.remaining c.read_piece_up_to.new.input) c.loop.bytes.items c.read_piece_up_to.new.buffer
    c.in_ok-count.count c.args.limit
    c.loop.invariant.0 c.in_ok-count.ensures.bytes.0 (omega (arith, c.in_ok-count.ensures.most))
