-- The rule answers at the last transition with its type, or the fault is named.
use Rattle.tz_zone.proofs.Common.{to_z-of_z, rules, w64, refl, sym, inr, inl, length, ◌<◌, ap, ◌-◌, slice_get_read, rule_seen, option_map, zone_with, err_from_is_err_and}
use Rattle.tz_zone.specs.BorrowedRules.{borrowed_rule}
use Rattle.tz_zone.proofs.RuleChecks.{not_answers, answers_at, agrees_at, not_agrees, same_from_test, other_from_test}
use Rattle.tz_zone.proofs.timezone.zone_checks.check_extra_rule.Goals as goal

pub returns-in_err-rule_type-clause-err : goal.returns-in_err-rule_type-clause-err
returns-in_err-rule_type-clause-err c =
    let p = err_from_is_err_and c.from_residual.result c.from_residual.ensures.1 in
    let z = zone_with c.args.transitions.now c.args.local_time_types.now c.args.leap_seconds.now
    (borrowed_rule c.args.extra_rule) in
    let time = c.unix_leap_time-last_time.ensures in
    let begun = rw (
      to_z-of_z w64 c.unix_leap_time-last_time.result (search rules),
      time,
    ) at c.if-not-has_begun_at.ensures in
    let none = rw (
      to_z-of_z w64 c.unix_leap_time-last_time.result (search rules),
      time,
    ) at c.in_err-rule_type.ensures.err.1 in
    rw (p.1, p.2) (inl (
      c.in_err-rule_type.ensures.err.0,
      not_answers z (rule_seen c.in-Some.rule) c.in-Some-last.last.now
          (ap (option_map rule_seen) c.in-Some.is) (sym c.in-Some-last.ensures.value) begun none,
    ))

pub offset_bounds-local_time_types-local_time_type_index : goal.offset_bounds-local_time_types-local_time_type_index
offset_bounds-local_time_types-local_time_type_index c =
    let last = c.in-Some-last.last.now in
    let within : last.type_index < length c.args.local_time_types.now =
    (c.requires.transitions_are (length c.args.transitions.now - 1)).0 last (sym c.in-Some-last.ensures.value) in
    let index = c.local_time_type_index.ensures in
    search rules

pub bounds-local_time_types-local_time_type_index : goal.bounds-local_time_types-local_time_type_index
bounds-local_time_types-local_time_type_index c =
    rw c.local_time_type_index.ensures ((c.requires.transitions_are (length c.args.transitions.now - 1)).0
    c.in-Some-last.last.now (sym c.in-Some-last.ensures.value))

pub returns-then-not-is_same-clause-err : goal.returns-then-not-is_same-clause-err
returns-then-not-is_same-clause-err c =
    let z = zone_with c.args.transitions.now c.args.local_time_types.now c.args.leap_seconds.now
    (borrowed_rule c.args.extra_rule) in
    let last = c.in-Some-last.last.now in
    let is_last = sym c.in-Some-last.ensures.value in
    let answer = c.in_ok-rule_type.rule_type.now in
    let stored = c.index-local_time_types-local_time_type_index.result in
    let within : last.type_index < length c.args.local_time_types.now =
    (c.requires.transitions_are (length c.args.transitions.now - 1)).0 last is_last in
    let at = slice_get_read c.args.local_time_types.now _ last.type_index stored refl within
    (rw c.local_time_type_index.ensures at c.index-local_time_types-local_time_type_index.is) in
    let type = rw (
      to_z-of_z w64 c.unix_leap_time-last_time.result
          (search rules),
      c.unix_leap_time-last_time.ensures,
    ) at c.in_ok-rule_type.ensures.ok in
    let begun = rw (
      to_z-of_z w64 c.unix_leap_time-last_time.result
          (search rules),
      c.unix_leap_time-last_time.ensures,
    ) at c.if-not-has_begun_at.ensures in
    inr (
      refl,
      answers_at z (rule_seen c.in-Some.rule) last (ap (option_map rule_seen) c.in-Some.is) is_last answer
          type,
      not_agrees z (rule_seen c.in-Some.rule) last (ap (option_map rule_seen) c.in-Some.is) is_last begun answer
          stored type at (other_from_test answer stored c.if-not-is_same.ensures),
    )

pub returns-clause-agrees : goal.returns-clause-agrees
returns-clause-agrees c =
    let z = zone_with c.args.transitions.now c.args.local_time_types.now c.args.leap_seconds.now
    (borrowed_rule c.args.extra_rule) in
    let last = c.in-Some-last.last.now in
    let is_last = sym c.in-Some-last.ensures.value in
    let answer = c.in_ok-rule_type.rule_type.now in
    let stored = c.index-local_time_types-local_time_type_index.result in
    let within : last.type_index < length c.args.local_time_types.now =
    (c.requires.transitions_are (length c.args.transitions.now - 1)).0 last is_last in
    let at = slice_get_read c.args.local_time_types.now _ last.type_index stored refl within
    (rw c.local_time_type_index.ensures at c.index-local_time_types-local_time_type_index.is) in
    let type = rw (
      to_z-of_z w64 c.unix_leap_time-last_time.result
          (search rules),
      c.unix_leap_time-last_time.ensures,
    ) at c.in_ok-rule_type.ensures.ok in
    agrees_at z (rule_seen c.in-Some.rule) last (ap (option_map rule_seen) c.in-Some.is) is_last answer type
    (rw (same_from_test answer stored c.if-not-is_same.ensures) at)
