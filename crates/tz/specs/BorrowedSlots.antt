-- What a buffer of slots that a search borrowed ends as.
use Rattle.std.specs.Borrow.{RestsIfErr, MutBor, Fml, GName, Array, RattleType}
use Rattle.std.specs.Prelude.{◌≡◌, ◌⊎◌, Result}
use Rattle.std.specs.contracts.option.Option as option
use Rattle.tz_base.specs.Fields.{IsValid}
use Rattle.tz_base.specs.declared.fields.Fields.{Fields}
use Rattle.tz.specs.Slots.{Slots}
use Rattle.tz.specs.contracts.datetime.found.FoundDateTimeKind as found

-- the type of a slot
abbrev pub slot_row : RattleType
slot_row = option.the_row found.the_row

-- What a search for the fields returns writes to the slots, under this reference. If it returns an
-- error, the slots end as they were, unless the fields are valid.
abbrev pub RestsIfInvalid : {A E : Type 0} → (A → GName) → MutBor Slots → Fields → Result A E → Fml
RestsIfInvalid reference slots fields result =
    RestsIfErr (Array slot_row 0) slots reference result (λ last. IsValid fields
    ⊎ (last ≡ slots.now))
