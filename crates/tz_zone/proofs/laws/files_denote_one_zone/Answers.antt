-- Each part of a file is read in one way.
use Rattle.tz_zone.proofs.TzFileLaws.{denotes_one, file_holds}
use Rattle.tz_zone.proofs.laws.files_denote_one_zone.Goals as goal

pub returns : goal.returns
returns c =
    record {
      unique = denotes_one;
      sound = file_holds;
    }
