use Rattle.tz.proofs.Common.{◌≡◌, digits_value, take, AllDigits, min}
use Rattle.tz.proofs.parse.read_digits.Given as goal

abbrev pub invariant-loop-position : goal.invariant-loop-position
invariant-loop-position l = AllDigits 10 (take l.position l.text)
    × (min l.size 10000000000000000000 ≡ min (digits_value 10 (take l.position l.text)) 10000000000000000000)
