-- Far from the ends of the years each entry can be made.
use Rattle.tz.proofs.Common.{arith, ints, inl, to_z-of_z, rules, pos, ◌-ℤ◌, ◌<ℤ◌, w32, zone_of_data}
use Rattle.tz_zone.proofs.OffsetBounds.{found_end_offsets}
use Rattle.tz.proofs.ReadingWindows.{clock_between}
use Rattle.tz.proofs.PromisedLists.{each_can_be_made}
use Rattle.tz.proofs.datetime.slots.check_entries.Goals as goal

pub returns-then-fields-le2147483447-clause-made : goal.returns-then-fields-le2147483447-clause-made
returns-then-fields-le2147483447-clause-made c =
    let kept = c.args.zone.now in
    let z = zone_of_data kept in
    let f = c.args.fields.now in
    let ends = found_end_offsets z kept.least_offset kept.greatest_offset kept.offsets in
    let width : (kept.greatest_offset -ℤ kept.least_offset) <ℤ pos 4294967296 =
    omega (arith, ints, kept.least_fits.sfits, kept.greatest_fits.sfits) in
    let year_is = to_z-of_z w32 f.year (search rules) in
    each_can_be_made z kept.least_offset kept.greatest_offset
    (clock_between z kept.least_offset kept.greatest_offset ends.0 ends.1) width f c.requires
    (inl (omega (arith, ints, year_is), omega (arith, ints, year_is)))
