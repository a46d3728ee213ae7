-- Nanoseconds that are kept as digits.
use Rattle.std.specs.Prelude.{◌≡◌, ℕ}
use Rattle.std.specs.Str.Parse.{digits_value}
use Rattle.tz_base.specs.declared.fields.Fields.{Fields}
use Rattle.tz.specs.declared.datetime.found.FoundDateTimeKind.{FoundDateTimeKind}
use Rattle.tz.specs.declared.datetime.found.FoundDateTimeKind.TheVariants.{Normal, Skipped}
use Rattle.tz_query.specs.declared.query.read_query.Nanoseconds.{Nanoseconds}

-- the number of the digits
abbrev pub number_of : Nanoseconds → ℕ
number_of nanoseconds = digits_value 10 nanoseconds.digits

-- the fields with these nanoseconds in the place of theirs
abbrev pub with_nanoseconds : Fields → Nanoseconds → Fields
with_nanoseconds f nanoseconds = record f { nanoseconds = number_of nanoseconds }

-- each date time of what is found has these nanoseconds
abbrev pub HasNanoseconds : ℕ → FoundDateTimeKind → Type 0
HasNanoseconds n (Normal d) = d.fields.nanoseconds ≡ n
HasNanoseconds n (Skipped before after) = (before.fields.nanoseconds ≡ n)
    × (after.fields.nanoseconds ≡ n)
