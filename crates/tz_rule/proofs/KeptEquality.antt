-- Equality of what is kept is equality of what is shown.
use Rattle.tz_rule.proofs.Common.{◌≡◌, ◌∙◌, refl, sym, ap, Decides-eqb, Decides, Decides-beq, same_from_decides, Decides-int_eq, Decides-like, Designation, IsKept, kept, word_of, Decides-name, IsKeptType, bytes_eq, kept_stored_name, option_eq, same_designation, same_type, shown, stored_name}
use Rattle.tz_rule.proofs.NameWords.{same_word}
use Rattle.tz_rule.specs.declared.timezone.local_time_type.LocalTimeType.TheInside.{Inside}

Decides-words : (d e : Designation) → IsKept d → IsKept e → Decides (same_designation d e) (d ≡ e)
Decides-words d e k l = Decides-like (same_designation d e) (same_word d e k l) (ap word_of)
    (Decides-eqb (word_of d) (word_of e))

same_stored : (d e : Designation) → IsKept d → IsKept e → stored_name d ≡ stored_name e → d ≡ e
same_stored d e k l p = sym (kept_stored_name d k) ∙ ap kept p ∙ kept_stored_name e l

-- designations are equal if their names are
same_designation-stored : (d e : Designation) → IsKept d → IsKept e
    → same_designation d e ≡ option_eq bytes_eq (stored_name d) (stored_name e)
same_designation-stored d e k l =
    same_from_decides (same_designation d e) (option_eq bytes_eq (stored_name d) (stored_name e))
    (Decides-words d e k l)
    (Decides-like (option_eq bytes_eq (stored_name d) (stored_name e)) (same_stored d e k l) (ap stored_name)
    (Decides-name (stored_name d) (stored_name e)))

-- types with one offset and one flag are equal if their designations are
pub same_type-shown : (a b : Inside) → IsKeptType a → IsKeptType b → a.ut_offset ≡ b.ut_offset → a.is_dst ≡ b.is_dst
    → same_designation a.time_zone_designation b.time_zone_designation ≡ same_type (shown a) (shown b)
same_type-shown a b k l o d =
    same_designation-stored a.time_zone_designation b.time_zone_designation k.designation_is l.designation_is
    ∙ rw ((Decides-int_eq a.ut_offset b.ut_offset).1 o, (Decides-beq a.is_dst b.is_dst).1 d) refl
