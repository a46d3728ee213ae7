use Rattle.tz.proofs.Common.{◌≡◌, true, AreBetween}
use Rattle.tz.proofs.parse.are_between.Given as goal

abbrev pub invariant-loop-index : goal.invariant-loop-index
invariant-loop-index l = l.between ≡ true → AreBetween l.text l.position l.index l.least l.greatest
