-- How a date time is printed: ISO 8601-1, sections 5.4.2 (extended format, nine decimal digits) and
-- 5.3.4 (UTC and offsets from it), with the year as long as it is, and the seconds of an offset if
-- there are any.
use Rattle.std.specs.Prelude.{ℕ, zero, suc, ◌+◌, ◌/◌, ◌%◌, ◌==◌, nat_lt, if◌then◌else◌, ℤ, pos, negsuc, List, [], ◌∷◌, ◌++◌}
use Rattle.std.specs.Fmt.{decimal, signed_decimal}
use Rattle.tz_base.specs.declared.fields.Fields.{Fields}

-- the last digits of a number, as many as the width says
abbrev pub last_digits : ℕ → ℕ → List ℕ
last_digits zero n = []
last_digits (suc width) n = last_digits width (n / 10) ++ (48 + n % 10) ∷ []

unfoldable pub two_digits : ℕ → List ℕ
two_digits n = last_digits 2 n

unfoldable pub nine_digits : ℕ → List ℕ
nine_digits n = last_digits 9 n

-- all digits, and two of them at least
unfoldable pub two_digits_or_more : ℕ → List ℕ
two_digits_or_more n = if nat_lt n 100 then two_digits n else decimal n

-- year-MM-DD
unfoldable pub date_text : Fields → List ℕ
date_text f = signed_decimal f.year ++ (45 ∷ two_digits f.month ++ (45 ∷ two_digits f.month_day))

-- hh:mm:ss.nnnnnnnnn
unfoldable pub time_text : Fields → List ℕ
time_text f = two_digits f.hour ++ (58 ∷ two_digits f.minute
    ++ (58 ∷ two_digits f.second ++ (46 ∷ nine_digits f.nanoseconds)))

-- `:ss`, unless the seconds are zero
abbrev pub seconds_text : ℕ → List ℕ
seconds_text seconds = if seconds == 0 then [] else 58 ∷ two_digits seconds

-- hh:mm or hh:mm:ss of this many seconds
unfoldable pub duration_text : ℕ → List ℕ
duration_text seconds = two_digits_or_more (seconds / 3600)
    ++ (58 ∷ two_digits ((seconds / 60) % 60) ++ seconds_text (seconds % 60))

-- `Z`, or the sign and the size of the offset
unfoldable pub offset_text : ℤ → List ℕ
offset_text (pos zero) = 90 ∷ []
offset_text (pos (suc n)) = 43 ∷ duration_text (suc n)
offset_text (negsuc n) = 45 ∷ duration_text (suc n)

-- what stands between the year and the nanoseconds
unfoldable pub middle_text : Fields → List ℕ
middle_text f = 45 ∷ two_digits f.month
    ++ (45 ∷ two_digits f.month_day ++ (84 ∷ two_digits f.hour
    ++ (58 ∷ two_digits f.minute ++ (58 ∷ two_digits f.second ++ 46 ∷ []))))

-- the date, `T`, the time, and the offset from UTC
unfoldable pub printed_text : Fields → ℤ → List ℕ
printed_text f offset = date_text f ++ (84 ∷ time_text f ++ offset_text offset)
