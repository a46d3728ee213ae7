-- The version of the first header says which unit is read.
use Rattle.tz_zone.proofs.Common.{rules, ◌≡◌, sym, ◌∙◌, ap, Some, Part, after, part_with, slice_index}
use Rattle.std.specs.Int.{w32, w64}
use Rattle.tz_zone.proofs.TzFrames.{part_of_first, footer_of_first, part_of_later, footer_of_later}
use Rattle.tz_zone.proofs.parse.tz_file.read_frame.Goals as goal

pub returns-then-first-eq0-clause-unit : goal.returns-then-first-eq0-clause-unit
returns-then-first-eq0-clause-unit c =
    c.in_ok-first.ensures.value ∙ sym (part_of_first c.args.bytes.now
    (sym (ap (λ (p : Part). p.version) c.in_ok-first.ensures.value) ∙ c.if-first-eq0.true))

pub returns-then-first-eq0-clause-footer : goal.returns-then-first-eq0-clause-footer
returns-then-first-eq0-clause-footer c =
    sym (footer_of_first c.args.bytes.now (sym (ap (λ (p : Part). p.version) c.in_ok-first.ensures.value)
    ∙ c.if-first-eq0.true))

pub returns : goal.returns
returns c =
    let version : c.in_ok-first.first.version ≡ slice_index c.args.bytes.now 4 =
    ap (λ (p : Part). p.version) c.in_ok-first.ensures.value in
    let rest : c.in_ok-first.first.after.now ≡ after w32 c.args.bytes.now =
    ap (λ (p : Part). p.after) c.in_ok-first.ensures.value in
    record {
      unit = c.in_ok-second.ensures.value ∙ ap (part_with w64) (ap (λ (p : Part). p.after) c.in_ok-first.ensures.value)
          ∙ sym (part_of_later c.args.bytes.now (λ early. c.if-first-eq0.false (version ∙ early)));
      footer = ap Some ((ap (λ (p : Part). p.after) c.in_ok-second.ensures.value) ∙ ap (after w64) rest)
          ∙ sym (footer_of_later c.args.bytes.now (λ early. c.if-first-eq0.false (version ∙ early)));
      sizes = search rules;
      ok = search rules;
      err = search rules;
    }
