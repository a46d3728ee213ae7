-- How a local time type keeps its name: seven bytes, of which the first are the name and the others
-- zero, and the length, 0 if there is no name.
use Rattle.std.specs.Prelude.{◌≡◌, ℕ, zero, suc, ◌-◌, ◌≤◌, ◌==◌, Bool, Option, Some, None, List, ◌∷◌, [], ◌++◌, length, take, replicate}
use Rattle.std.specs.Int.{w64, from_le_bytes}
use Rattle.std.proofs.Common.{refl, ap, arith, length-append, length-take}
use Rattle.std.proofs.Math.ListN.{length-replicate}
use Rattle.tz_rule.specs.LocalTimeType.{LocalTimeType, IsDesignation, IsOffset}
use Rattle.tz_rule.specs.declared.timezone.local_time_type.Designation.{Designation}
use Rattle.tz_rule.specs.declared.timezone.local_time_type.LocalTimeType.TheInside.{Inside}

-- the bytes of the name, none if there is no name
abbrev pub name_of : Designation → List ℕ
name_of d = take d.len d.bytes

-- the first bytes, if there are any
abbrev pub name_of_length : ℕ → List ℕ → Option (List ℕ)
name_of_length zero bytes = None
name_of_length (suc n) bytes = Some (take (suc n) bytes)

-- the name that is kept, if there is one
abbrev pub stored_name : Designation → Option (List ℕ)
stored_name d = name_of_length d.len d.bytes

-- the seven bytes that keep a name
abbrev pub padded : List ℕ → List ℕ
padded name = name ++ replicate (7 - length name) 0

-- what keeps a name, or none
abbrev pub kept : Option (List ℕ) → Designation
kept None = record { bytes = padded []; len = 0 }
kept (Some name) = record { bytes = padded name; len = length name }

-- the bytes after the name are zero, so that equal names are kept alike
pub record IsKept (d : Designation) : Type 0 where
  pub short : d.len ≤ 7
  pub is_padded : d.bytes ≡ padded (take d.len d.bytes)
  pub is_name : 1 ≤ d.len → IsDesignation (take d.len d.bytes)

-- the seven bytes and the length, as one number of eight bytes
abbrev pub word_of : Designation → ℕ
word_of d = from_le_bytes w64 (d.bytes ++ d.len ∷ [])

-- what keeps names is equal if the words are
abbrev pub same_designation : Designation → Designation → Bool
same_designation d e = word_of d == word_of e

-- what a local time type shows
abbrev pub shown : Inside → LocalTimeType
shown t = record {
  ut_offset = t.ut_offset;
  is_dst = t.is_dst;
  designation = stored_name t.time_zone_designation;
}

pub record IsKeptType (t : Inside) : Type 0 where
  pub offset_is : IsOffset t.ut_offset
  pub designation_is : IsKept t.time_zone_designation

pub seven_bytes : (d : Designation) → IsKept d → length d.bytes ≡ 7
seven_bytes d k =
    let name = take d.len d.bytes in
    omega (
      arith,
      ap length k.is_padded,
      length-append name
          (replicate (7 - length name) 0),
      length-replicate {A =
          ℕ} (7 - length name) 0,
      length-take d.len d.bytes,
      k.short,
    )

-- the keeper of the name, and the fields of the type, come back from what is shown
pub kept_stored_name : (d : Designation) → IsKept d → kept (stored_name d) ≡ d
kept_stored_name d k = by_length d.len d.bytes k.short k.is_padded (seven_bytes d k)
  where
    by_length : (n : ℕ) (bytes : List ℕ) → n ≤ 7 → bytes ≡ padded (take n bytes) → length bytes ≡ 7
        → kept (name_of_length n bytes) ≡ record { bytes = bytes; len = n }
    by_length zero bytes short padding seven = rw (← padding) refl
    by_length (suc n) bytes short padding seven =
        let same : length (take (suc n) bytes) ≡ suc n =
        omega (arith, seven, length-take (suc n) bytes, short) in rw (← padding, same) refl

pub kept_shown : (t : Inside) → IsKeptType t → record {
  ut_offset = t.ut_offset;
  is_dst = t.is_dst;
  time_zone_designation =
      kept (stored_name t.time_zone_designation);
} ≡ t
kept_shown t k = rw (kept_stored_name t.time_zone_designation k.designation_is) refl
