-- Bytes of a TZif file denote one zone, and no fault of theirs is there.
use Rattle.tz_zone.proofs.Common.{◌≡◌, arith, ℕ, refl, sym, inr, inl, length, ◌∙◌, subst, ap, List, Some, LocalTimeType, Zone, Option, None, Bool, TransitionRule, Err, Ok, Result, TzError, IsLocalTimeType, zone_with, IsFirstTypeFault, IsReadFault, IsTypeRecord, LocalTimeTypeError, Part, after, alloc_error, part_of, type_at, Block, ContentFails, HoldsLeapSeconds, IfOk, InvalidTimeZoneDesignationChar, InvalidTimeZoneDesignationLength, InvalidUtcOffset, IsContent, IsDesignation, IsFirstZoneFault, IsTzFile, IsValidZone, Memory, UnexpectedEof, Width, footer_of, trimmed, zone_of_part, ExtraRuleFails, FileFails, FooterFails, FrameFails, HasTables, HeaderFails, IfSome-weaker, IsExtraRule, IsFirstTransitionFault, IsFooter, IsFramed, IsHeader, IsUnit, MayHold, OnOk, TypeFails, TzFile, UnitFails, is_extended}
use Rattle.std.specs.Int.{w32, w64}
use Rattle.tz_base.specs.declared.error.TzError.TheVariants.{LocalTimeType as TypeFault}
use Rattle.tz_base.specs.declared.error.TzFileError.{TzFileError}
use Rattle.tz_base.specs.declared.error.TzFileError.TheVariants.{ParseData, InvalidMagicNumber, UnsupportedTzFileVersion, InvalidHeader, InvalidDstIndicator, InvalidTimeZoneDesignationCharIndex, Utf8, InvalidFooter}
use Rattle.tz_base.specs.declared.error.TimeZoneError.{TimeZoneError}
use Rattle.tz_zone.proofs.TextFaults.{no_text_fault, one_rule}
use Rattle.tz_zone.specs.declared.parse.tz_file.Tables.{Tables}

-- the parts of a zone, from the tables that were read
pub zone_of_tables : {A : Type 0} (p : Part) (t : Tables A) (rule : Option TransitionRule) → HasTables p t
    → zone_with t.transitions.items t.local_time_types.items t.leap_seconds.items rule ≡ zone_of_part p rule
zone_of_tables p t rule has = rw (has.transitions, has.types, has.leap_seconds) refl

-- and whether its version holds its leap seconds
pub holds_from_tables : {A : Type 0} (p : Part) (t : Tables A) → HasTables p t → MayHold p.version t.leap_seconds.items
    → HoldsLeapSeconds p
holds_from_tables p t has may = rw has.leap_seconds at may

pub tables_from_holds : {A : Type 0} (p : Part) (t : Tables A) → HasTables p t → HoldsLeapSeconds p
    → MayHold p.version t.leap_seconds.items
tables_from_holds p t has holds = rw has.leap_seconds holds

-- the rule after the part is that of the file
pub rule_of_file : (bytes : List ℕ) (p : Part) (footer : Option (List ℕ)) (extended : Bool)
    (rule : Option TransitionRule) → p ≡ part_of bytes → extended ≡ is_extended p → footer ≡ footer_of bytes
    → IsExtraRule extended footer rule → IsExtraRule (is_extended (part_of bytes)) (footer_of bytes) rule
rule_of_file bytes p footer extended rule same extended_same footer_same is =
    subst (λ (f : Option (List ℕ)). IsExtraRule (is_extended (part_of bytes)) f rule) footer_same
    (subst (λ (b : Bool). IsExtraRule b footer rule) (extended_same ∙ ap is_extended same) is)

-- and so is a fault of it
pub rule_fault_of_file : (bytes : List ℕ) (p : Part) (footer : Option (List ℕ)) (extended : Bool)
    (e : TzError) → p ≡ part_of bytes → extended ≡ is_extended p → footer ≡ footer_of bytes
    → ExtraRuleFails extended footer e → ExtraRuleFails (is_extended (part_of bytes)) (footer_of bytes) e
rule_fault_of_file bytes p footer extended e same extended_same footer_same fails =
    subst (λ (f : Option (List ℕ)). ExtraRuleFails (is_extended (part_of bytes)) f e) footer_same
    (subst (λ (b : Bool). ExtraRuleFails b footer e) (extended_same ∙ ap is_extended same) fails)

-- what is made of the tables and the rule is the zone of the file
pub made_is_file : {X : Type 0} (bytes : List ℕ) (rule : Option TransitionRule) (made : Zone) (view : X
    → Zone) (r : Result X TzError) → IsFramed bytes → IsContent (part_of bytes).block (part_of bytes).counts.local_type
    → HoldsLeapSeconds (part_of bytes) → IsExtraRule (is_extended (part_of bytes)) (footer_of bytes) rule
    → made ≡ zone_of_part (part_of bytes) rule → IfOk r (λ x. view x ≡ made) → OnOk r (IsValidZone made)
    → IfOk r (λ x. IsTzFile bytes (view x))
made_is_file bytes rule made view (Ok x) framed content holds of_file zone parts valid =
    subst (IsTzFile bytes) (sym (parts ∙ zone)) (record {
      framed = framed;
      content = content;
      leap_seconds = holds;
      rule = of_file;
      denotes = refl;
      valid = subst IsValidZone zone valid;
    })
made_is_file bytes rule made view (Err e) framed content holds of_file zone parts valid = tt

header_holds : (bytes : List ℕ) (e : TzFileError) → IsHeader bytes → HeaderFails bytes e → ⊥
header_holds bytes (ParseData UnexpectedEof) h (short, magic, version) = omega (arith, h.whole, short)
header_holds bytes InvalidMagicNumber h (whole, fails) = fails h.magic
header_holds bytes UnsupportedTzFileVersion h (whole, magic, fails) = fails h.version
header_holds bytes InvalidHeader h (whole, magic, version, fails) = fails h.counts
header_holds bytes _ h fault = fault

unit_holds : (w : Width) (bytes : List ℕ) (e : TzFileError) → IsUnit w bytes → UnitFails w bytes e → ⊥
unit_holds w bytes e u (inl fault) = header_holds bytes e u.header fault
unit_holds w bytes e u (inr (header, is, short)) = omega (arith, u.whole, short)

frame_holds : (bytes : List ℕ) (e : TzFileError) → IsFramed bytes → FrameFails bytes e → ⊥
frame_holds bytes e f (inl fault) = unit_holds w32 bytes e f.first fault
frame_holds bytes e f (inr (inl (first, version, is, more))) = more (f.nothing_after version)
frame_holds bytes e f (inr (inr (first, version, fault))) = unit_holds w64 (after w32 bytes) e (f.second version) fault

footer_holds : (footer : List ℕ) (e : TzFileError) → IsFooter footer → FooterFails footer e → ⊥
footer_holds footer (Utf8 _) f fault = fault f.utf8
footer_holds footer InvalidFooter f fault = fault.1 (f.line_feeds, f.text)
footer_holds footer _ f fault = fault

extra_rule_holds : (extended : Bool) (footer : Option (List ℕ)) (rule : Option TransitionRule) (e : TzError)
    → IsExtraRule extended footer rule → ExtraRuleFails extended footer e → ⊥
extra_rule_holds extended None rule e is fault = fault
extra_rule_holds extended (Some footer) rule e is (inl (f, named, there)) = footer_holds footer f is.0 there
extra_rule_holds extended (Some footer) None e is (inr (stands, some, there)) = some is.1
extra_rule_holds extended (Some footer) (Some rule) e is (inr (stands, some, there)) =
    no_text_fault extended (trimmed footer) rule e is.1.1 there

one_extra_rule : (extended : Bool) (footer : Option (List ℕ)) (r s : Option TransitionRule)
    → IsExtraRule extended footer r → IsExtraRule extended footer s → r ≡ s
one_extra_rule extended None r s a b = a ∙ sym b
one_extra_rule extended (Some footer) None None a b = refl
one_extra_rule extended (Some footer) None (Some s) a b = absurd (b.1.0 a.1)
one_extra_rule extended (Some footer) (Some r) None a b = absurd (a.1.0 b.1)
one_extra_rule extended (Some footer) (Some r) (Some s) a b =
    ap Some (one_rule extended (trimmed footer) r s a.1.1 b.1.1)

type_made : (t : LocalTimeType) (e : LocalTimeTypeError) → IsLocalTimeType t → IsFirstTypeFault t e → ⊥
type_made t InvalidUtcOffset is fault = fault is.offset_is
type_made t InvalidTimeZoneDesignationLength is fault =
    fault.1 (IfSome-weaker {P = IsDesignation} t.designation (λ _ name. name.length_is) is.designation_is)
type_made t InvalidTimeZoneDesignationChar is fault =
    fault.2 (IfSome-weaker {P = IsDesignation} t.designation (λ _ name. name.bytes_are) is.designation_is)

type_holds : (block : Block) (i : ℕ) (e : TzError) → IsTypeRecord block i → TypeFails block i e → ⊥
type_holds block i (TzFile InvalidDstIndicator) is fault = fault is.daylight
type_holds block i (TzFile InvalidTimeZoneDesignationCharIndex) is (daylight, fails) = fails is.name
type_holds block i (TypeFault e) is (daylight, name, fails) = type_made (type_at block i) e is.type fails
type_holds block i _ is fault = fault

content_holds : (block : Block) (count : ℕ) (e : TzError) → IsContent block count → ContentFails block count e → ⊥
content_holds block count e c (inl (i, below, before, fault)) = type_holds block i e (c.types i below) fault
content_holds block count e c (inr (is, types, fault)) = fault.2 (c.indicators fault.0 fault.1)

transitions_hold : (z : Zone) (e : TimeZoneError) → IsValidZone z
    → IsFirstTransitionFault z.transitions (length z.types) e → ⊥
transitions_hold z e v (i, before, inl (is, fails)) = fails (v.table.transitions_are i).0
transitions_hold z e v (i, before, inr (is, type, fails)) = fails (v.table.transitions_are i).1

zone_holds : (z : Zone) (e : TzError) → IsValidZone z → IsFirstZoneFault z e → ⊥
zone_holds z e v (inl (is, none)) = v.table.has_types none
zone_holds z e v (inr (inl (some, fault, is, at))) = transitions_hold z fault v at
zone_holds z e v (inr (inr (inl (is, some, transitions, fails)))) = fails v.table.leap_seconds_are
zone_holds z e v (inr (inr (inr (sound, inl (is, fails))))) = fails v.rule_answers
zone_holds z e v (inr (inr (inr (sound, inr (is, answers, fails))))) = fails v.rule_agrees

-- no fault of a file is there
pub file_holds : (bytes : List ℕ) (z : Zone) (e : TzError) → IsTzFile bytes z → FileFails bytes e → ⊥
file_holds bytes z e f (inl (fault, is, there)) = frame_holds bytes fault f.framed there
file_holds bytes z e f (inr (inl (framed, there))) =
    content_holds (part_of bytes).block (part_of bytes).counts.local_type e f.content there
file_holds bytes z e f (inr (inr (inl (framed, content, there)))) =
    extra_rule_holds (is_extended (part_of bytes)) (footer_of bytes) z.extra_rule e f.rule there
file_holds bytes z e f (inr (inr (inr (framed, content, rule, is, inl (named, fails))))) = fails f.leap_seconds
file_holds bytes z e f (inr (inr (inr (framed, content, rule, is, inr (holds, there))))) =
    let same : z.extra_rule ≡ rule = one_extra_rule (is_extended (part_of bytes)) (footer_of bytes) z.extra_rule rule
    f.rule is in
    zone_holds (zone_of_part (part_of bytes) rule) e
    (subst (λ (made : Zone). IsValidZone made) (f.denotes ∙ ap (λ r. zone_of_part (part_of bytes) r) same) f.valid)
    there

-- so a reading of it is refused for memory alone
pub refused_for_memory : (bytes : List ℕ) (z : Zone) (e : TzError) → IsTzFile bytes z → IsReadFault bytes e
    → e ≡ Memory alloc_error
refused_for_memory bytes z e f (inl is) = is
refused_for_memory bytes z e f (inr there) = absurd (file_holds bytes z e f there)

-- the zone that it denotes is one
pub denotes_one : (bytes : List ℕ) (y z : Zone) → IsTzFile bytes y → IsTzFile bytes z → y ≡ z
denotes_one bytes y z f g =
    let same : y.extra_rule ≡ z.extra_rule =
    one_extra_rule (is_extended (part_of bytes)) (footer_of bytes) y.extra_rule z.extra_rule f.rule g.rule in
    f.denotes ∙ ap (λ r. zone_of_part (part_of bytes) r) same ∙ sym g.denotes
