-- What is written of the line of a refused zone is a front of it.
use Rattle.tz_query.proofs.Common.{[], ap, ◌∷◌, ◌∙◌, ◌++◌, sym, ℕ, List, Option, append_assoc, append-nil, line_feed, codes, Bool, true, false, Appends}
use Rattle.std.specs.Prelude.{MatchBool}
use Rattle.std.proofs.KnownBytes.{Appends-trans}
use Rattle.tz_query.specs.Streams.{WritesFront}
use Rattle.tz_query.proofs.query.program.refuse.Goals as goal

-- a front of bytes is one of more bytes
more : (bytes others : List ℕ) (written now : Option (List ℕ)) → WritesFront bytes written now
    → WritesFront (bytes ++ others) written now
more bytes others written now (front, rest, whole, wrote) =
    (front, rest ++ others, ap (λ bs. bs ++ others) whole ∙ append_assoc front rest others, wrote)

-- a front after bytes that are written
after : (bytes others : List ℕ) (written middle now : Option (List ℕ)) → Appends written middle bytes
    → WritesFront others middle now → WritesFront (bytes ++ others) written now
after bytes others written middle now first (front, rest, whole, wrote) = (
  bytes ++ front,
  rest,
  ap (λ bs. bytes ++ bs) whole ∙ sym (append_assoc bytes front rest),
  Appends-trans written middle now bytes front first wrote,
)

-- all bytes are a front of them
all : (bytes : List ℕ) (written now : Option (List ℕ)) → Appends written now bytes → WritesFront bytes written now
all bytes written now wrote = (bytes, [], sym (append-nil bytes), wrote)

any : (done : Bool) (bytes : List ℕ) (written now : Option (List ℕ))
    → MatchBool done (Appends written now bytes) (WritesFront bytes written now) → WritesFront bytes written now
any true bytes written now wrote = all bytes written now wrote
any false bytes written now cut = cut

pub returns-then-not-write_front : goal.returns-then-not-write_front
returns-then-not-write_front g c =
    let before = g.E.Write.contents c.args.err.now in
    let now = g.E.Write.contents c.write_front.new.out in (
      [],
      more (codes "tzq: zone refused: ") (line_feed ∷ []) before now
          (any c.write_front.result (codes "tzq: zone refused: ") before now c.write_front.ensures),
    )

pub returns-then-write_front : goal.returns-then-write_front
returns-then-write_front g c =
    let text = c.as_bytes.result.now in
    let before = g.E.Write.contents c.args.err.now in
    let first = g.E.Write.contents c.write_front.new.out in
    let second = g.E.Write.contents c.write_front-2.new.out in
    let now = g.E.Write.contents c.write_front-then-write_front.new.out in
    let ended = any c.write_front-then-write_front.result (line_feed ∷ []) second now
    c.write_front-then-write_front.ensures in (
      text,
      after (codes "tzq: zone refused: ") (text ++ line_feed ∷ []) before first now
          c.if-not-write_front.ensures
          (after text (line_feed ∷ []) first second now c.if-write_front.ensures ended),
    )

pub returns-else-write_front : goal.returns-else-write_front
returns-else-write_front g c =
    let text = c.as_bytes.result.now in
    let before = g.E.Write.contents c.args.err.now in
    let first = g.E.Write.contents c.write_front.new.out in
    let now = g.E.Write.contents c.write_front-2.new.out in (
      text,
      after (codes "tzq: zone refused: ") (text ++ line_feed ∷ []) before first now
          c.if-not-write_front.ensures
          (more text (line_feed ∷ []) first now c.if-write_front.ensures),
    )
