-- What the tables and the rule make is the zone of the file, and what they fail to make is a fault of it.
use Rattle.tz_zone.proofs.Common.{◌≡◌, refl, inr, inl, ◌∙◌, subst, ap, Zone, own_zone_of, zone_with, IfErr-weaker, IsReadFault, Part, err_from_is_err_and, option_copied, part_of, ContentFails, HoldsLeapSeconds, IsContent, IsFirstZoneFault, zone_of_part, unit_view}
use Rattle.tz_zone.specs.ValidZone.{AreSound}
use Rattle.tz_zone.proofs.TzFileLaws.{zone_of_tables, holds_from_tables, tables_from_holds, rule_of_file, rule_fault_of_file, made_is_file}
use Rattle.tz_zone.proofs.parse.tz_file.parse_tz_file.Goals as goal

pub returns-in_err-tables-clause-err : goal.returns-in_err-tables-clause-err
returns-in_err-tables-clause-err g c =
    let p = err_from_is_err_and c.from_residual-in_err-tables.result c.from_residual-in_err-tables.ensures.1 in
    rw (p.1, p.2) (elim (c.in_err-tables.ensures.err) [
      | inl memory ↦ inl memory
      | inr fails ↦ inr (inr (inl (
        c.in_ok-frame.ensures.ok,
        subst (λ (p : Part). ContentFails p.block p.counts.local_type
            c.in_err-tables.field-0.0) c.in_ok-frame.ensures.unit fails,
      )))
    ])

pub returns-in_err-extra_rule-clause-err : goal.returns-in_err-extra_rule-clause-err
returns-in_err-extra_rule-clause-err g c =
    let frame = c.in_ok-frame.frame in
    let unit = unit_view frame.unit in
    let same : unit ≡ part_of c.args.bytes.now = c.in_ok-frame.ensures.unit in
    let p = err_from_is_err_and c.from_residual-in_err-extra_rule.result c.from_residual-in_err-extra_rule.ensures.1 in
    rw (p.1, p.2) (inr (inr (inr (inl (
      c.in_ok-frame.ensures.ok,
      (subst (λ (p : Part). IsContent p.block p.counts.local_type) same
          c.in_ok-tables.ensures.ok),
      rule_fault_of_file c.args.bytes.now unit (option_copied frame.footer) c.is_extended.result
          c.in_err-extra_rule.field-0.0 same c.is_extended.ensures c.in_ok-frame.ensures.footer
          c.in_err-extra_rule.ensures.err,
    )))))

pub returns-then-not-may_hold-clause-err : goal.returns-then-not-may_hold-clause-err
returns-then-not-may_hold-clause-err g c =
    let bytes = c.args.bytes.now in
    let frame = c.in_ok-frame.frame in
    let unit = unit_view frame.unit in
    let same : unit ≡ part_of bytes = c.in_ok-frame.ensures.unit in
    let rule = c.in_ok-extra_rule.extra_rule in
    let of_file = rule_of_file bytes unit (option_copied frame.footer) c.is_extended.result rule same
    c.is_extended.ensures c.in_ok-frame.ensures.footer c.in_ok-extra_rule.ensures.ok in
    let may_not = rw c.deref.ensures.value at c.if-not-may_hold.ensures in
    let holds_not = subst (λ (p : Part). ¬ HoldsLeapSeconds p) same
    (λ holds. may_not (tables_from_holds unit c.in_ok-tables.tables c.in_ok-tables.ensures.value holds)) in
    inr (inr (inr (inr (
      c.in_ok-frame.ensures.ok,
      (subst (λ (p : Part). IsContent p.block p.counts.local_type) same
          c.in_ok-tables.ensures.ok),
      rule,
      of_file,
      inl (refl, holds_not),
    ))))

pub returns : goal.returns
returns g c =
    let bytes = c.args.bytes.now in
    let frame = c.in_ok-frame.frame in
    let unit = unit_view frame.unit in
    let same : unit ≡ part_of bytes = c.in_ok-frame.ensures.unit in
    let content : IsContent (part_of bytes).block (part_of bytes).counts.local_type =
    subst (λ (p : Part). IsContent p.block p.counts.local_type) same c.in_ok-tables.ensures.ok in
    let rule = c.in_ok-extra_rule.extra_rule in
    let of_file = rule_of_file bytes unit (option_copied frame.footer) c.is_extended.result rule same
    c.is_extended.ensures c.in_ok-frame.ensures.footer c.in_ok-extra_rule.ensures.ok in
    let tables = c.in_ok-tables.tables in
    let holds = subst HoldsLeapSeconds same (holds_from_tables unit tables c.in_ok-tables.ensures.value
    (rw c.deref.ensures.value at c.if-not-may_hold.ensures)) in
    let made : Zone = zone_with tables.transitions.items tables.local_time_types.items tables.leap_seconds.items rule in
    let zone : made ≡ zone_of_part (part_of bytes) rule = zone_of_tables unit tables rule c.in_ok-tables.ensures.value
    ∙ ap (λ (p : Part). zone_of_part p rule) same in
    record {
      ok = made_is_file bytes rule made own_zone_of c.with_transitions.result c.in_ok-frame.ensures.ok content holds
          of_file zone c.with_transitions.ensures.parts c.with_transitions.ensures.ok;
      err = IfErr-weaker c.with_transitions.result (IsFirstZoneFault made) (IsReadFault bytes)
          (λ e fault. inr (inr (inr (inr (
            c.in_ok-frame.ensures.ok,
            content,
            rule,
            of_file,
            inr
                (holds, subst (λ (z : Zone). IsFirstZoneFault z e) zone fault),
          )))))
          c.with_transitions.ensures.err;
    }

pub with_transitions-requires : goal.with_transitions-requires
with_transitions-requires g c = λ sound. subst (AreSound c.in_ok-tables.tables.transitions.items)
    (c.len-types.ensures ∙ c.in_ok-tables.tables.local_time_types.ok.0)
    (rw c.deref-2.ensures.value at (c.are_sound-are_sound.ensures sound))
