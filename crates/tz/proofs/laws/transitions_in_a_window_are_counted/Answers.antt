-- Rising lists are compared.
use Rattle.tz.proofs.ReadingWindows.{as_many_as_listed}
use Rattle.tz.proofs.laws.transitions_in_a_window_are_counted.Goals as goal

pub returns : goal.returns
returns c z low high positions rise just w = as_many_as_listed z low high positions rise just w
