-- How much is found, and a line for each: one more entry is there after each turn.
use Rattle.tz_query.proofs.Common.{sym, subst, refl, arith, ◌≡◌, [], ap, ◌∷◌, ◌∙◌, ◌++◌, length, rules, append_assoc, take, ended, codes, number_of, line_feed, append-nil, Adds, entry_text, decimal, map, written, FoundDateTimeKind, HasNanoseconds, take-length}
use Rattle.tz_query.proofs.AddedText.{adds_both, with_text}
use Rattle.tz_query.proofs.AnswerLines.{entries_more}
use Rattle.tz_query.proofs.query.answers.Answers.push_found.Goals as goal

pub loop-entry-init : goal.loop-entry-init
loop-entry-init g c = record {
  zone_is = refl;
  sound = λ s. s;
  text_is = sym (append-nil (written c.push_count.new.self));
}

pub push_entry-requires : goal.push_entry-requires
push_entry-requires g c =
    subst (HasNanoseconds (number_of c.args.nanoseconds.now)) (sym c.entry-item.is)
    (c.requires c.loop-entry.entry-index c.entry-item.result (search rules))

pub loop-entry-smaller : goal.loop-entry-smaller
loop-entry-smaller g c = omega (arith, c.loop-entry-test.true)

pub loop-entry-preserved : goal.loop-entry-preserved
loop-entry-preserved g c =
    let line = with_text (ap (λ (x : FoundDateTimeKind). entry_text x ++ line_feed ∷ []) c.entry-item.is)
    c.in_ok-push_entry.ensures in
    with_text (sym (entries_more c.args.found.now c.loop-entry.entry-index c.entry-item.result (search rules)))
    (adds_both c.loop-entry.invariant line)

pub returns : goal.returns
returns g c =
    let found = c.args.found.now in
    let count = codes "F " ++ decimal (length found) in
    let all : take c.loop-entry.entry-index found ≡ found =
    ap (λ n. take n found) (omega (arith, c.loop-entry-test.false, c.loop-entry.auto.entry-index-end))
    ∙ take-length found in
    let counted : Adds c.args.self.now (record c.args.self.now { output = c.push_count.new.self })
    (ended (count ∷ [])) = record { zone_is = refl; sound = λ s. s; text_is = c.in_ok-push_count.ensures } in
    with_text (append_assoc count (line_feed ∷ []) (ended (map entry_text found)))
    (adds_both counted (with_text (ap (λ es. ended (map entry_text es)) all) c.loop-entry.invariant))
