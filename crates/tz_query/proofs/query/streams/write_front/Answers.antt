-- What is written are the bytes, or a front of them.
use Rattle.tz_query.proofs.Common.{sym, subst, refl, ◌≡◌, [], ap, ◌∙◌, ◌++◌, length, append_assoc, take, append-nil, take_rest, nil_from_length, Appends, eqb-true}
use Rattle.std.proofs.Common.{take-append-drop}
use Rattle.std.proofs.KnownBytes.{Appends-nil, Appends-trans}
use Rattle.tz_query.proofs.query.streams.write_front.Goals as goal

pub loop-rest-init : goal.loop-rest-init
loop-rest-init g c = ([], refl, Appends-nil (g.W.Write.contents c.args.out.now))

pub loop-rest-preserved : goal.loop-rest-preserved
loop-rest-preserved g c =
    let rest = c.loop-rest.rest.now in
    let count = c.in-Ok-1-to-max.count in
    let (done, whole, wrote) = c.loop-rest.invariant in (
      done ++ take count rest,
      rw (take_rest rest count, append_assoc, take-append-drop count rest) whole,
      Appends-trans (g.W.Write.contents c.args.out.now) (g.W.Write.contents c.loop-rest.out)
          (g.W.Write.contents c.write.new.self) done (take count rest) wrote c.in-Ok-1-to-max.ensures.bytes,
    )

pub returns : goal.returns
returns g c =
    let (done, whole, wrote) = c.loop-rest.invariant in
    let none = nil_from_length c.loop-rest.rest.now
    (eqb-true (length c.loop-rest.rest.now) 0 (sym c.loop-rest-test.ensures)) in
    let all : done ≡ c.args.bytes.now = sym (whole ∙ ap (λ bs. done ++ bs) none ∙ append-nil done) in
    subst (Appends (g.W.Write.contents c.args.out.now) (g.W.Write.contents c.loop-rest.out)) all wrote
