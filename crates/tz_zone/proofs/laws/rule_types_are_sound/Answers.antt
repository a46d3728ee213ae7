-- A rule has the types of its parts.
use Rattle.tz_zone.proofs.Common.{sym, subst, LocalTimeType, FitsSigned, IsLocalTimeType}
use Rattle.std.specs.Int.{w32}
use Rattle.tz_zone.proofs.ShownTypes.{HoldsOfRule, of_rule_type}
use Rattle.tz_zone.proofs.laws.rule_types_are_sound.Goals as goal

abbrev IsSound : LocalTimeType → Type 0
IsSound t = IsLocalTimeType t × FitsSigned w32 t.ut_offset

pub returns-in-Fixed : goal.returns-in-Fixed
returns-in-Fixed c =
    let parts = c.type_parts_are_sound.ensures in
    of_rule_type IsSound c.args.rule.now (subst (HoldsOfRule IsSound) (sym c.in-Fixed.is) (parts.sound, parts.fits))

pub returns-in-Alternate : goal.returns-in-Alternate
returns-in-Alternate c =
    let std = c.type_parts_are_sound-in-Alternate.ensures in
    let dst = c.type_parts_are_sound-in-Alternate-2.ensures in
    of_rule_type IsSound c.args.rule.now
    (subst (HoldsOfRule IsSound) (sym c.in-Alternate.is)
    (subst IsSound c.std.ensures (std.sound, std.fits), subst IsSound c.dst.ensures (dst.sound, dst.fits)))
