-- Rising lists of the same entries are the same.
use Rattle.tz.proofs.Common.{IsClock}
use Rattle.tz.proofs.UniqueLists.{found_unique}
use Rattle.tz.proofs.laws.found_lists_are_unique.Goals as goal

pub returns : goal.returns
returns c z = found_unique (IsClock z)
