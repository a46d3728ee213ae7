-- What can be found from here on can be found from all directories.
use Rattle.tz_zone.proofs.Common.{FnReturnsAt, drop, FindsIn, Read, texts_of}
use Rattle.tz_zone.proofs.timezone.settings.TimeZoneSettings.find_in_directories.Given as goal

abbrev pub invariant-loop-directory : goal.invariant-loop-directory
invariant-loop-directory g l = (found : Read)
    → FindsIn (FnReturnsAt g.F.Fn l.self.reader) (texts_of (drop l.directory-index l.self.directories.now)) l.name found
    → FindsIn (FnReturnsAt g.F.Fn l.self.reader) (texts_of l.self.directories.now) l.name found
