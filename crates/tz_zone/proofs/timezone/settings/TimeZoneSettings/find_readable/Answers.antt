-- An absolute name is a path, and any other one is looked for in the directories.
use Rattle.tz_zone.proofs.Common.{refl, false≢true, FnReturnsAt, reader_of, directories_of}
use Rattle.tz_zone.proofs.Directories.{found_for, read_for}
use Rattle.tz_zone.proofs.timezone.settings.TimeZoneSettings.find_readable.Goals as goal

pub returns-then-not-is_absolute : goal.returns-then-not-is_absolute
returns-then-not-is_absolute g c =
    let settings = c.args.self.now in
    found_for (FnReturnsAt g.F.Fn (reader_of settings)) (directories_of settings) c.args.name.now
    c.find_in_directories.result
    (λ begins. absurd (false≢true (c.if-not-is_absolute.ensures.1 begins))) c.find_in_directories.ensures

pub returns : goal.returns
returns g c =
    let settings = c.args.self.now in
    read_for (FnReturnsAt g.F.Fn (reader_of settings)) (directories_of settings) c.args.name.now c.read_if_there.result
    (c.if-not-is_absolute.ensures.0 refl) c.read_if_there.ensures
