-- The slices have the tables of the zone that is read.
use Rattle.tz_c.proofs.Common.{refl, inl, rules, subst, SFits, to_z-of_z, ◌≡◌, Zone, sym, w32, ◌∙◌, AreEndOffsets}
use Rattle.tz_zone.specs.TzFile.{IsTzFile}
use Rattle.tz_zone.specs.ZoneRef.{zone_of}
use Rattle.tz_c.specs.Tables.{zone_written}
use Rattle.tz_c.proofs.texts.tz_file_read.Goals as goal

pub returns-else-leap_seconds-clause-answer : goal.returns-else-leap_seconds-clause-answer
returns-else-leap_seconds-clause-answer c =
    let read = c.as_ref-read.result in
    let written = zone_written c.copy_from_slice.new.self c.copy_from_slice-in-Ok.new.self
    c.copy_from_slice-in-Ok-2.new.self c.of.result in
    let transitions = c.copy_from_slice.ensures.after ∙ c.transitions-in-Ok.ensures in
    let types = c.copy_from_slice-in-Ok.ensures.after ∙ c.local_time_types-in-Ok.ensures in
    let leap_seconds = c.copy_from_slice-in-Ok-2.ensures.after ∙ c.leap_seconds-in-Ok.ensures in
    let rule = c.of.ensures.rule ∙ c.extra_rule.ensures in
    let same : written ≡ zone_of read = rw (transitions, types, leap_seconds, rule) refl in
    let file = subst (λ (z : Zone). IsTzFile c.args.bytes.now z) (sym (same ∙ c.as_ref-read.ensures))
    c.in-Ok.ensures.ok in
    let ends = c.offsets-least in
    let kept = sym (same ∙ sym c.of-in-Ok.ensures) in
    let are = subst (λ (z : Zone). AreEndOffsets z ends.result.0 ends.result.1) kept ends.ensures in
    let fits_least : SFits w32 ends.result.0 = search rules in
    let fits_greatest : SFits w32 ends.result.1 = search rules in
    rw (to_z-of_z w32 ends.result.0 fits_least, to_z-of_z w32 ends.result.1 fits_greatest)
    (inl (refl, file, c.of.ensures.kind, are))
