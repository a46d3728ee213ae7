-- The offsets lie around the reading as the window does.
use Rattle.tz.proofs.Common.{to_z-of_z, rules, w64, ◌-ℤ◌, w32, zone_of_data}
use Rattle.tz.proofs.ReadingWindows.{clock_between, window_from_offsets}
use Rattle.tz.proofs.datetime.gaps_and_folds.window_of.Goals as goal

pub returns : goal.returns
returns c =
    let z = zone_of_data c.args.zone.now in
    let r = c.args.reading in
    let low = c.window.result.0 in
    let high = c.window.result.1 in
    let least = c.offsets-least.result.0 in
    let greatest = c.offsets-least.result.1 in
    let ends = c.offsets-least.ensures in
    let shown = rw (
      to_z-of_z w64 r c.ranges.reading,
      to_z-of_z w32 least (search rules),
      to_z-of_z w32 greatest (search rules),
    )
    at c.window.ensures in
    let window = window_from_offsets z.types z.extra_rule r low high least greatest ends.0 ends.1 shown.low
    shown.high in
    record {
      window = window;
      searchable = record {
        sound = c.args.zone.now.sound;
        small = c.requires;
        order = shown.order;
        reach = shown.reach;
        width = shown.width;
        offsets = clock_between z (r -ℤ high) (r -ℤ low) window.last window.first;
      };
    }
