-- In the stretch the reading means what each reading of it does.
use Rattle.tz.proofs.Common.{arith, ints, subst, to_z-of_z, rules, w64, w32, ℤ, zone_of_data}
use Rattle.tz.specs.InstantColumns.{IsInstantOfReading}
use Rattle.tz.proofs.columns.instants.instant_in.Goals as goal

pub shown_by-requires : goal.shown_by-requires
shown_by-requires c =
    let r = c.args.reading in
    let reading_is = to_z-of_z w64 r c.ranges.reading in
    let means = c.requires r c.args.disambiguation
    (omega (arith, ints, c.if-stretch-reading.true, reading_is, to_z-of_z w64 c.args.stretch.from (search rules)))
    (omega (arith, ints, c.if-reading-stretch.true, reading_is, to_z-of_z w64 c.args.stretch.last (search rules))) in
    (omega (arith, ints, reading_is, means.0.0), omega (arith, ints, reading_is, means.0.1))

pub returns-then-reading-stretch-clause-ok : goal.returns-then-reading-stretch-clause-ok
returns-then-reading-stretch-clause-ok c =
    let r = c.args.reading in
    let reading_is = to_z-of_z w64 r c.ranges.reading in
    let means = c.requires r c.args.disambiguation
    (omega (arith, ints, c.if-stretch-reading.true, reading_is, to_z-of_z w64 c.args.stretch.from (search rules)))
    (omega (arith, ints, c.if-reading-stretch.true, reading_is, to_z-of_z w64 c.args.stretch.last (search rules))) in
    subst (λ (u : ℤ). IsInstantOfReading (zone_of_data c.args.zone.now) c.args.disambiguation r u)
    (omega (
      arith,
      ints,
      c.shown_by.ensures,
      reading_is,
      to_z-of_z w32 c.args.stretch.offset (search rules),
      to_z-of_z w64 c.shown_by.result (search rules),
    )) means
