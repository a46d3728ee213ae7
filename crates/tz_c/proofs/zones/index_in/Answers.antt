-- The first index at which an equal type stands.
use Rattle.tz_c.proofs.Common.{refl, inl, inr, rules, subst, ◌≡◌, arith, ◌<◌, length, sym, Some, ap, slice_get, ◌∙◌, false≢true, slice_get_within, cases_lt, slice_get_read}
use Rattle.tz_rule.specs.Same.{Decides-same_type}
use Rattle.tz_c.proofs.zones.index_in.Goals as goal

pub returns-then-eq : goal.returns-then-eq
returns-then-eq c =
    let types = c.args.types.now in
    let stored = c.index-types-index.result in
    let within : c.loop-index.index < length types = search rules in
    let same = (Decides-same_type stored c.args.local_time_type.now).0 (sym c.eq.ensures ∙ c.if-eq.true) in
    let at = slice_get_read types _ c.loop-index.index stored refl within c.index-types-index.is ∙ ap Some same in
    record { at = at; first = c.loop-index.invariant }

pub loop-index-preserved : goal.loop-index-preserved
loop-index-preserved c k h e =
    let types = c.args.types.now in
    let t = c.args.local_time_type.now in
    let stored = c.index-types-index.result in
    let within : c.loop-index.index < length types = search rules in
    let at = slice_get_read types _ c.loop-index.index stored refl within c.index-types-index.is in
    elim (cases_lt k c.loop-index.index) [
      | inl less ↦ c.loop-index.invariant k less e
      | inr more ↦
          let is : k ≡ c.loop-index.index = omega arith in
          let here : slice_get types c.loop-index.index ≡ Some t = subst (λ i. slice_get types i ≡ Some t) is e in
          let both : Some stored ≡ Some t = sym at ∙ here in
          let same : stored ≡ t = cc in
          absurd (false≢true (sym c.if-eq.false ∙ c.eq.ensures ∙ (Decides-same_type stored t).1 same))
    ]

pub returns : goal.returns
returns c k e =
    let within = slice_get_within c.args.types.now k c.args.local_time_type.now e in
    c.loop-index.invariant k (search rules) e
