-- The types passed the test of being different.
use Rattle.tz_rule.proofs.Common.{◌∙◌, sym, Decides-same_type, false≢true}
use Rattle.tz_rule.proofs.timezone.alternate_time.AlternateData.switches_around.Goals as goal

pub returns-then-ends_next_year-clause-differ : goal.returns-then-ends_next_year-clause-differ
returns-then-ends_next_year-clause-differ c =
    λ e. false≢true (sym c.if-is_same.false ∙ c.is_same.ensures ∙ (Decides-same_type _ _).1
    (c.std.ensures ∙ e ∙ sym c.dst.ensures))
