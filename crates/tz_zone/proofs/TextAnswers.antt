-- The faults of a whole text, from where they stand.
use Rattle.tz_zone.proofs.Common.{◌≡◌, to_z-of_z, ℕ, refl, inr, inl, ℤ, ◌∙◌, ap, List, Some, pos, LocalTimeType, [], Option, ◌≢◌, to_z, false, ◌∷◌, of_z, Bool, FitsSigned, TzError, AlternateText, IsAlternateText, IsRuleText, TzString, IsDaylightOffset, IsFirstTypeFault, IsName, IsSignedTime, IsTzTextFault, LocalTimeTypeError, WrittenTime, comma, rule_of, type_of, IsDaylightFault, IsNameFault, IsOffsetFault, IsRulesFault, TzStringError, alternate_of, std_type_of, dst_type_of, seconds_of}
use Rattle.std.specs.Int.{w32}
use Rattle.tz_base.specs.declared.error.TzError.TheVariants.{LocalTimeType as TypeFault}

-- a name that is no designation
pub bad_name : (text name rest : List ℕ) (f : LocalTimeTypeError) → IsName text name rest
    → IsFirstTypeFault (type_of (pos 0) false (Some name)) f → IsNameFault text (TypeFault f)
bad_name text name rest f is fault = inr (name, rest, is, (f, refl, fault))

-- after the standard name, and after its offset
pub offset_fails : (extended : Bool) (text name rest : List ℕ) (f : TzStringError) → IsName text name rest
    → IsOffsetFault rest f → IsTzTextFault extended text (TzString f)
offset_fails extended text name rest f is fault = inr (inl (name, rest, is, inl (f, refl, fault)))

pub daylight_fails : (extended : Bool) (text name rest : List ℕ) (offset : WrittenTime) (left : List ℕ) (e : TzError)
    → IsName text name rest → IsSignedTime rest offset left → left ≢ [] → IsDaylightFault extended left e
    → IsTzTextFault extended text e
daylight_fails extended text name rest offset left e name_is offset_is more fault =
    inr (inl (name, rest, name_is, inr (offset, left, offset_is, (more, fault))))

-- after the daylight name and its offset
pub rules_fail : (extended : Bool) (text name after_name : List ℕ) (offset : Option WrittenTime) (rules : List ℕ)
    (e : TzError) → IsName text name after_name → IsDaylightOffset after_name offset (comma ∷ rules)
    → IsRulesFault extended rules e → IsDaylightFault extended text e
rules_fail extended text name after_name offset rules e name_is offset_is fault =
    inr (
      name,
      after_name,
      name_is,
      inr (inr (offset, comma ∷ rules, offset_is, inr (not_over, inr (rules, refl, fault)))),
    )
  where
    not_over : comma ∷ rules ≢ []
    not_over over = cc

-- all parts of a text with daylight saving time
pub whole_text : (extended : Bool) (text : List ℕ) (a : AlternateText) (after_name after_std rules : List ℕ)
    → IsName text a.std_name after_name → IsSignedTime after_name a.std_offset after_std
    → (after_dst_name : List ℕ) × IsName after_std a.dst_name after_dst_name
    × IsDaylightOffset after_dst_name a.dst_offset (comma ∷ rules)
    → (end_text : List ℕ) × IsRuleText extended rules a.start (comma ∷ end_text) × IsRuleText extended end_text a.end []
    → IsAlternateText extended text a
whole_text extended text a after_name after_std rules name_is offset_is daylight both = record {
  after_std = after_std;
  after_dst_name = daylight.0;
  start_text = rules;
  end_text = both.0;
  std_is = record { after_name = after_name; name_is = name_is; offset_is = offset_is };
  dst_name_is = daylight.1;
  dst_offset_is = daylight.2;
  start_is = both.1;
  end_is = both.2;
}

-- the rule of a text, from its parts
pub same_rule_of : (a : AlternateText) (std dst : LocalTimeType) (start end : ℤ)
    → std ≡ std_type_of a.std_name a.std_offset → dst ≡ dst_type_of a → start ≡ seconds_of a.start.time
    → end ≡ seconds_of a.end.time
    → alternate_of std dst a.start.day start a.end.day end ≡ rule_of a
same_rule_of a std dst start end e f g h =
    ap (λ x. alternate_of x dst a.start.day start a.end.day end) e
    ∙ ap (λ x. alternate_of (std_type_of a.std_name a.std_offset) x a.start.day start a.end.day end) f
    ∙ ap (λ x. alternate_of (std_type_of a.std_name a.std_offset) (dst_type_of a) a.start.day x a.end.day end) g
    ∙ ap (λ x. alternate_of (std_type_of a.std_name a.std_offset) (dst_type_of a) a.start.day (seconds_of a.start.time)
    a.end.day x) h

-- a number of 32 bits, as it is passed to a function
pub passed : (x other : ℤ) → FitsSigned w32 x → x ≡ other → to_z w32 (of_z w32 x) ≡ other
passed x other fits e = to_z-of_z w32 x fits ∙ e

-- a type with the name, at an offset that is computed
pub same_type_of : (t : LocalTimeType) (offset other : ℤ) (is_dst : Bool) (name : List ℕ)
    → t ≡ type_of offset is_dst (Some name) → offset ≡ other → t ≡ type_of other is_dst (Some name)
same_type_of t offset other is_dst name e f = e ∙ ap (λ o. type_of o is_dst (Some name)) f
