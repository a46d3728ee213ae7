-- A run that succeeds wrote all answers over the zone of the arguments, which are a front of them. A run with a zone
-- has no status 2.
use Rattle.tz_query.proofs.Common.{rules, sym, subst, refl, arith, ◌≢◌, ◌≡◌, [], ℕ, inl, List, inr, ◌<◌, zone_of, Zone, append-nil, ◌⊎◌, NamesZone, Read, own_zone_of, BeginsAnswers}
use Rattle.std.proofs.Common.{Option}
use Rattle.tz_query.specs.Failures.{HasEnded}
use Rattle.tz_query.specs.Streams.{WritesAnswers, WritesFront, WritesFrontOfAnswers}
use Rattle.tz_query.specs.declared.query.streams.RunFault.{RunFault}
use Rattle.tz_query.specs.declared.query.streams.RunFault.TheVariants as runs
use Rattle.tz_query.proofs.query.program.tool.Goals as goal

begun : {reads : List ℕ → Read → Type 0} {arguments : List (List ℕ)} (zone own : Zone)
    (unread left written now : Option (List ℕ)) → zone ≡ own → NamesZone reads arguments own →
    WritesAnswers zone unread left written now → BeginsAnswers reads arguments unread left written now
begun zone own unread left written now is asked (answers, are, wrote) = record {
  zone = own;
  asked = asked;
  wrote = subst (λ z. WritesFrontOfAnswers z unread left written now) is
      (answers, are, (answers, [], sym (append-nil answers), wrote));
}

-- what a run that ends by each fault has written
ended_by : {W : Type 0} (contents : W → Option (List ℕ)) (unread left : Option (List ℕ)) (old new : W) (zone own : Zone)
    (fault : RunFault) → zone ≡ own → (fault ≢ runs.Write → new ≡ old) → (fault ≡ runs.Write →
    WritesFrontOfAnswers zone unread left (contents old) (contents new)) →
    HasEnded contents unread left old new own fault
ended_by contents unread left old new zone own runs.Read is untouched begun =
    untouched (λ e. let both : runs.Read ≡ runs.Write = e in absurd (cc))
ended_by contents unread left old new zone own runs.Memory is untouched begun =
    untouched (λ e. let both : runs.Memory ≡ runs.Write = e in absurd (cc))
ended_by contents unread left old new zone own runs.Write is untouched begun =
    subst (λ z. WritesFrontOfAnswers z unread left (contents old) (contents new)) is (begun refl)

-- neither status 2 nor no zone
unread_never : {Names : Zone → Type 0} {P : Type 0} (status : ℕ) (own : Zone) → status < 2 → Names own → (status ≡ 2)
    ⊎ ((zone : Zone) → ¬ Names zone) → P
unread_never status own less asked (inl two) = absurd (omega arith)
unread_never status own less asked (inr none) = absurd (none own asked)

pub returns-in-Ok-run : goal.returns-in-Ok-run
returns-in-Ok-run g c =
    record {
      status = search rules;
      quiet = search rules;
      refused = search rules;
      refusal = search rules;
      failed = search rules;
      unread = unread_never 0 (own_zone_of c.in-Ok.zone) (omega arith) c.in-Ok.ensures.ok;
      answered = λ done. record {
        zone = own_zone_of c.in-Ok.zone;
        asked = c.in-Ok.ensures.ok;
        wrote = subst (λ z. WritesAnswers z (g.R.Read.remaining c.args.input.now) (g.R.Read.remaining c.run.new.input)
            (g.W.Write.contents c.args.out.now) (g.W.Write.contents c.run.new.out))
            c.as_ref.ensures c.in-Ok-run.ensures.ok;
      };
      written = inr (begun (zone_of c.as_ref.result) (own_zone_of c.in-Ok.zone) (g.R.Read.remaining c.args.input.now)
          (g.R.Read.remaining c.run.new.input) (g.W.Write.contents c.args.out.now) (g.W.Write.contents c.run.new.out)
          c.as_ref.ensures c.in-Ok.ensures.ok c.in-Ok-run.ensures.ok);
    }

pub returns-in-Ok-clause-unread : goal.returns-in-Ok-clause-unread
returns-in-Ok-clause-unread g c =
    unread_never _ (own_zone_of c.in-Ok.zone) (omega (arith, c.fail.ensures.status)) c.in-Ok.ensures.ok

pub returns-in-Ok-clause-failed : goal.returns-in-Ok-clause-failed
returns-in-Ok-clause-failed g c = λ is.
    let own = own_zone_of c.in-Ok.zone in
    let ended = ended_by g.W.Write.contents (g.R.Read.remaining c.args.input.now)
    (g.R.Read.remaining c.run.new.input) c.args.out.now c.run.new.out (zone_of c.as_ref.result) own c.in-Err.fault
    c.as_ref.ensures c.in-Err.ensures.untouched c.in-Err.ensures.begun in
    let line = subst (λ text. WritesFront text (g.E.Write.contents c.args.err.now)
    (g.E.Write.contents c.fail.new.err)) c.line_of.ensures c.fail.ensures.line in
    inr (inr (inr (own, c.in-Ok.ensures.ok, c.in-Err.fault, ended, line)))
