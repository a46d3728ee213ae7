-- ASCII bytes by name.
use Rattle.std.specs.Prelude.{ℕ}

abbrev pub line_feed : ℕ
line_feed = 10

abbrev pub plus_sign : ℕ
plus_sign = 43

abbrev pub comma : ℕ
comma = 44

abbrev pub minus_sign : ℕ
minus_sign = 45

abbrev pub dot : ℕ
dot = 46

abbrev pub slash : ℕ
slash = 47

abbrev pub colon : ℕ
colon = 58

abbrev pub opening_bracket : ℕ
opening_bracket = 60

abbrev pub closing_bracket : ℕ
closing_bracket = 62

abbrev pub capital_j : ℕ
capital_j = 74

abbrev pub capital_m : ℕ
capital_m = 77
