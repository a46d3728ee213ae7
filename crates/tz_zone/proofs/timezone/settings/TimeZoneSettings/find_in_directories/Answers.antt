use Rattle.tz_zone.proofs.Common.{FnReturnsAt, reader_of}
use Rattle.tz_zone.proofs.Directories.{found_here, missed_here}
use Rattle.tz_zone.proofs.timezone.settings.TimeZoneSettings.find_in_directories.Goals as goal

pub returns-in-Some : goal.returns-in-Some
returns-in-Some g c =
    let loop = c.loop-directory in
    let read = rw c.in-Some.is at c.in_ok-found.ensures in
    loop.invariant _ (found_here (FnReturnsAt g.F.Fn (reader_of c.args.self.now)) c.args.self.now.directories.now
    loop.directory-index _ c.args.name.now c.in-Some.bytes c.loop-directory-test.true read)

pub loop-directory-preserved : goal.loop-directory-preserved
loop-directory-preserved g c = λ found later.
    let loop = c.loop-directory in
    let missing = rw c.in_default.is at c.in_ok-found.ensures in
    loop.invariant found (missed_here (FnReturnsAt g.F.Fn (reader_of c.args.self.now)) c.args.self.now.directories.now
    loop.directory-index _ c.args.name.now missing.0 found c.loop-directory-test.true missing.1 later)
