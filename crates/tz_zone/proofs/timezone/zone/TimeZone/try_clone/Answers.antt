-- Each list's clone is the list.
use Rattle.tz_zone.proofs.Common.{to_z-of_z, rules, w32}
use Rattle.std.proofs.lemmas.List.Elements.{same_from_all_zip}
use Rattle.tz_zone.proofs.timezone.zone.TimeZone.try_clone.Goals as goal

pub invariant_of-result : goal.invariant_of-result
invariant_of-result g c =
    let zone = c.args.self.now in
    let transitions = same_from_all_zip _ zone.transitions.items c.in_ok-transitions.transitions.items
    c.in_ok-transitions.ensures.cases.0 (λ x y e. e) in
    let types = same_from_all_zip _ zone.local_time_types.items c.in_ok-local_time_types.local_time_types.items
    c.in_ok-local_time_types.ensures.cases.0 (λ x y e. e) in
    let leaps = same_from_all_zip _ zone.leap_seconds.items c.in_ok-leap_seconds.leap_seconds.items
    c.in_ok-leap_seconds.ensures.cases.0 (λ x y e. e) in
    record {
      sound = rw (transitions, types, leaps) zone.sound;
      valid = rw (transitions, types, leaps) zone.valid;
      offsets = rw (
        types,
        to_z-of_z w32 zone.least_offset (search rules),
        to_z-of_z w32 zone.greatest_offset (search rules),
      )
          zone.offsets;
    }

pub returns-clause-ok : goal.returns-clause-ok
returns-clause-ok g c =
    let zone = c.args.self.now in
    let transitions = same_from_all_zip _ zone.transitions.items c.in_ok-transitions.transitions.items
    c.in_ok-transitions.ensures.cases.0 (λ x y e. e) in
    let types = same_from_all_zip _ zone.local_time_types.items c.in_ok-local_time_types.local_time_types.items
    c.in_ok-local_time_types.ensures.cases.0 (λ x y e. e) in
    let leaps = same_from_all_zip _ zone.leap_seconds.items c.in_ok-leap_seconds.leap_seconds.items
    c.in_ok-leap_seconds.ensures.cases.0 (λ x y e. e) in
    rw (transitions, types, leaps)
