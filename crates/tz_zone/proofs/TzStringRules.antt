-- The TZ string of a rule denotes it, and a rule that a TZ string denotes is one that has such a string.
use Rattle.tz_zone.proofs.Common.{arith, refl, ◌≡◌, subst, ◌∙◌, ints, inr, sym, inl, [], ap, ℕ, ◌∷◌, List, ◌+◌, pos, ℤ, Some, ◌≤◌, ◌++◌, ◌*◌, ◌+ℤ◌, append_assoc, None, Option, LocalTimeType, ◌⊎◌, ◌≢◌, true, Bool, append-nil, false, if◌then◌else◌, Fixed, TransitionRule, Decides-int_eq, IsTimeUpTo, daylight_offset_text, false≢true, int_eq, is_ascii_alphabetic, ◌||◌, AlternateTime, IsDesignation, IsRuleText, IsTimeOfRule, TimeText, comma, is_extended_time, name_text, offset_of_text, seconds_of, turn_text, tz_text, AlternateText, AreNamed, AreRuleDays, IsAlternateInRange, IsAlternateText, IsConsistentRule, IsDaylightOffset, IsDaylightText, IsNameAndOffset, IsShortOffset, IsSoundRule, IsStandardText, IsTzText, IsWritable, daylight_offset_of, daylight_text, designation_text, dst_type_of, le-ltb, name_and_offset_text, offset_hours, rule_of, std_type_of, type_of, unwrap_or, ut_offset_of}
use Rattle.tz_zone.specs.TzStrings.{is_extended}
use Rattle.std.specs.Prelude.{neg_ℤ}
use Rattle.std.specs.Option.{IfSome}
use Rattle.std.proofs.Math.IntN.{neg_ℤ-neg_ℤ}
use Rattle.tz_rule.specs.declared.timezone.transition_rule.TransitionRule.TheVariants.{Alternate as Alternating}
use Rattle.tz_zone.proofs.TextAnswers.{same_rule_of}
use Rattle.tz_zone.proofs.TzStringParts.{Stops, IsBehind, time_of, IsTimeBelow, signed_time_read, seconds_of_time, time_up_to}
use Rattle.tz_zone.proofs.TzStringNames.{name_read, name_behind, Allows, allows_first, allows_second, turn_of, turn_read, turn_range}

-- an offset
offset_below : (offset : ℤ) → IsShortOffset offset → IsTimeBelow 89999 (neg_ℤ offset)
offset_below offset short = (omega (arith, ints, short.1), omega (arith, ints, short.0))

long_enough : (z : ℤ) → IsTimeBelow 89999 z → IsTimeBelow 604799 z
long_enough z range = (omega (arith, ints, range.0), omega (arith, ints, range.1))

offset_range : (offset : ℤ) → IsShortOffset offset → IsTimeUpTo offset_hours (time_of (neg_ℤ offset))
offset_range offset short = time_up_to 24 89999 (neg_ℤ offset) (omega arith) (offset_below offset short)

offset_back : (offset : ℤ) → ut_offset_of (time_of (neg_ℤ offset)) ≡ offset
offset_back offset = ap neg_ℤ (seconds_of_time (neg_ℤ offset)) ∙ neg_ℤ-neg_ℤ offset

-- a name and its offset
some_name : (name : Option (List ℕ)) → name ≢ None → name ≡ Some (unwrap_or name [])
some_name None some = absurd (some refl)
some_name (Some name) some = refl

is_name : (name : Option (List ℕ)) → name ≢ None → IfSome name IsDesignation → IsDesignation (unwrap_or name [])
is_name None some is = absurd (some refl)
is_name (Some name) some is = is

name_and_offset_read : (t : LocalTimeType) (rest : List ℕ) → IsStandardText t → IfSome t.designation IsDesignation
    → IsBehind rest
    → IsNameAndOffset (name_and_offset_text t ++ rest) (designation_text t) (time_of (neg_ℤ t.ut_offset)) rest
name_and_offset_read t rest standard named behind =
    let read = signed_time_read (neg_ℤ t.ut_offset) rest (long_enough _ (offset_below t.ut_offset standard.2)) behind in
    subst (λ (text : List ℕ). IsNameAndOffset text (designation_text t) (time_of (neg_ℤ t.ut_offset)) rest)
    (sym (append_assoc (name_text (designation_text t)) (offset_of_text t.ut_offset) rest)) (record {
      after_name = offset_of_text t.ut_offset ++ rest;
      name_is = name_read (designation_text t) (offset_of_text t.ut_offset ++ rest)
          (is_name t.designation standard.1 named) read.no_letter;
      offset_is = read.time_is;
    })

standard_type : (t : LocalTimeType) → IsStandardText t
    → t ≡ std_type_of (designation_text t) (time_of (neg_ℤ t.ut_offset))
standard_type t standard =
    let same : type_of t.ut_offset t.is_dst t.designation ≡ std_type_of (designation_text t)
    (time_of (neg_ℤ t.ut_offset)) =
    ap (λ x. type_of x t.is_dst t.designation) (sym (offset_back t.ut_offset))
    ∙ ap (λ x. type_of (ut_offset_of (time_of (neg_ℤ t.ut_offset))) x t.designation) standard.0
    ∙ ap (λ x. type_of (ut_offset_of (time_of (neg_ℤ t.ut_offset))) false x) (some_name t.designation standard.1)
    in same

-- a daylight offset, or none for the default
abbrev daylight_time_by : Bool → ℤ → Option TimeText
daylight_time_by default dst = if default then None else Some (time_of (neg_ℤ dst))

abbrev pub daylight_time : ℤ → ℤ → Option TimeText
daylight_time std dst = daylight_time_by (int_eq dst (std +ℤ pos 3600)) dst

record IsReadOffset (default : Bool) (std dst : ℤ) (rules : List ℕ) : Type 0 where
  pub text_is : IsDaylightOffset ((if default then [] else offset_of_text dst) ++ (comma ∷ rules))
      (daylight_time_by default dst) (comma ∷ rules)
  pub no_letter : Stops is_ascii_alphabetic ((if default then [] else offset_of_text dst) ++ (comma ∷ rules))
  pub in_range : IfSome (daylight_time_by default dst) (IsTimeUpTo offset_hours)
  pub value : daylight_offset_of (time_of (neg_ℤ std)) (daylight_time_by default dst) ≡ dst

daylight_offset_read_by : (default : Bool) (std dst : ℤ) (rules : List ℕ) → int_eq dst (std +ℤ pos 3600) ≡ default
    → IsShortOffset dst ⊎ (dst ≡ std +ℤ pos 3600) → IsReadOffset default std dst rules
daylight_offset_read_by true std dst rules e short = record {
  text_is = ((rules, refl), refl);
  no_letter = refl;
  in_range = tt;
  value = ap (λ o. o +ℤ pos 3600) (offset_back std) ∙ sym ((Decides-int_eq dst (std +ℤ pos 3600)).0 e);
}
daylight_offset_read_by false std dst rules e short =
    let is_short : IsShortOffset dst = elim short
    [ inl h ↦ h | inr same ↦ absurd (false≢true (sym e ∙ (Decides-int_eq dst (std +ℤ pos 3600)).1 same)) ] in
    let read = signed_time_read (neg_ℤ dst) (comma ∷ rules) (long_enough _ (offset_below dst is_short))
    (inl (omega arith)) in record {
      text_is = (read.no_comma, read.time_is);
      no_letter = read.no_letter;
      in_range = offset_range dst is_short;
      value = offset_back dst;
    }

daylight_offset_read : (std dst : ℤ) (rules : List ℕ) → IsShortOffset dst ⊎ (dst ≡ std +ℤ pos 3600)
    → IsReadOffset (int_eq dst (std +ℤ pos 3600)) std dst rules
daylight_offset_read std dst rules short =
    daylight_offset_read_by (int_eq dst (std +ℤ pos 3600)) std dst rules refl short

-- what the text of an alternate rule says
abbrev text_of : AlternateTime → AlternateText
text_of r = record {
  std_name = designation_text r.std;
  std_offset = time_of (neg_ℤ r.std.ut_offset);
  dst_name = designation_text r.dst;
  dst_offset = daylight_time r.std.ut_offset r.dst.ut_offset;
  start = turn_of r.dst_start r.dst_start_time;
  end = turn_of r.dst_end r.dst_end_time;
}

abbrev end_text : AlternateTime → List ℕ
end_text r = turn_text r.dst_end r.dst_end_time

abbrev rules_text : AlternateTime → List ℕ
rules_text r = turn_text r.dst_start r.dst_start_time ++ (comma ∷ end_text r)

alternate_read : (extended : Bool) (r : AlternateTime) → IsWritable (Alternating r) → AreNamed (Alternating r)
    → AreRuleDays r → Allows extended r.dst_start_time → Allows extended r.dst_end_time
    → IsAlternateText extended (tz_text (Alternating r)) (text_of r)
unfolding daylight_offset_text
alternate_read extended r writable named days start end =
    let offset = daylight_offset_read r.std.ut_offset r.dst.ut_offset (rules_text r) writable.1.2 in record {
      after_std = daylight_text r;
      after_dst_name = daylight_offset_text r.std.ut_offset r.dst.ut_offset ++ (comma ∷ rules_text r);
      start_text = rules_text r;
      end_text = end_text r;
      std_is = name_and_offset_read r.std (daylight_text r) writable.0 named.0
          (name_behind (designation_text r.dst) (daylight_offset_text r.std.ut_offset r.dst.ut_offset
          ++ (comma ∷ rules_text r)));
      dst_name_is = name_read (designation_text r.dst) (daylight_offset_text r.std.ut_offset r.dst.ut_offset
          ++ (comma ∷ rules_text r)) (is_name r.dst.designation writable.1.1 named.1) offset.no_letter;
      dst_offset_is = offset.text_is;
      start_is = turn_read extended r.dst_start r.dst_start_time (comma ∷ end_text r) days.start_is start
          (inl (omega arith));
      end_is = subst (λ (text : List ℕ). IsRuleText extended text (turn_of r.dst_end r.dst_end_time) [])
          (append-nil (end_text r)) (turn_read extended r.dst_end r.dst_end_time [] days.end_is end tt);
    }

alternate_in_range : (extended : Bool) (r : AlternateTime) → IsWritable (Alternating r) → AreNamed (Alternating r)
    → AreRuleDays r → Allows extended r.dst_start_time → Allows extended r.dst_end_time
    → IsAlternateInRange extended (text_of r)
alternate_in_range extended r writable named days start end = record {
  std_name_is = is_name r.std.designation writable.0.1 named.0;
  std_offset_is = offset_range r.std.ut_offset writable.0.2;
  dst_name_is = is_name r.dst.designation writable.1.1 named.1;
  dst_offset_is = (daylight_offset_read r.std.ut_offset r.dst.ut_offset [] writable.1.2).in_range;
  start_is = turn_range extended r.dst_start r.dst_start_time days.start_is start;
  end_is = turn_range extended r.dst_end r.dst_end_time days.end_is end;
}

daylight_type : (r : AlternateTime) → IsWritable (Alternating r) → r.dst ≡ dst_type_of (text_of r)
daylight_type r writable =
    let same : type_of r.dst.ut_offset r.dst.is_dst r.dst.designation ≡ dst_type_of (text_of r) =
    ap (λ x. type_of x r.dst.is_dst r.dst.designation)
    (sym ((daylight_offset_read r.std.ut_offset r.dst.ut_offset [] writable.1.2).value))
    ∙ ap (λ x. type_of (daylight_offset_of (time_of (neg_ℤ r.std.ut_offset))
    (daylight_time r.std.ut_offset r.dst.ut_offset)) x r.dst.designation) writable.1.0
    ∙ ap (λ x. type_of (daylight_offset_of (time_of (neg_ℤ r.std.ut_offset))
    (daylight_time r.std.ut_offset r.dst.ut_offset)) true x) (some_name r.dst.designation writable.1.1)
    in same

same_rule : (r : AlternateTime) → IsWritable (Alternating r) → r ≡ rule_of (text_of r)
same_rule r writable =
    same_rule_of (text_of r) r.std r.dst r.dst_start_time r.dst_end_time (standard_type r.std writable.0)
    (daylight_type r writable) (sym (seconds_of_time r.dst_start_time)) (sym (seconds_of_time r.dst_end_time))

-- the text of a rule, read back
pub tz_text_read : (rule : TransitionRule) → IsSoundRule rule → IsWritable rule → AreNamed rule
    → IsTzText (is_extended rule) (tz_text rule) rule
tz_text_read (Fixed t) sound standard named = (
  designation_text t,
  time_of (neg_ℤ t.ut_offset),
  subst (λ (text : List ℕ). IsNameAndOffset text (designation_text t) (time_of (neg_ℤ t.ut_offset)) [])
      (append-nil (name_and_offset_text t)) (name_and_offset_read t [] standard named tt),
  is_name t.designation standard.1 named,
  offset_range t.ut_offset standard.2,
  standard_type t standard,
)
tz_text_read (Alternating r) sound writable named =
    let first = is_extended_time r.dst_start_time in
    let second = is_extended_time r.dst_end_time in
    let start = allows_first first second r.dst_start_time refl sound.0.in_range.start_is in
    let end = allows_second first second r.dst_end_time refl sound.0.in_range.end_is in
    let same = same_rule r writable in (
      text_of r,
      alternate_read (first || second) r writable named sound.1 start end,
      alternate_in_range (first || second) r writable named sound.1 start end,
      subst IsConsistentRule same sound.0,
      same,
    )

-- an offset that is read is short
short_by : (minus : Bool) (seconds : ℕ) → seconds ≤ 89999
    → IsShortOffset (neg_ℤ (if minus then neg_ℤ (pos seconds) else pos seconds))
short_by true seconds within = (omega (arith, ints), omega (arith, ints))
short_by false seconds within = (omega (arith, ints), omega (arith, ints))

short_offset : (t : TimeText) → IsTimeUpTo offset_hours t → IsShortOffset (ut_offset_of t)
short_offset t range = short_by t.minus (3600 * t.hours + 60 * t.minutes + t.seconds)
    (omega (arith, range.hours_are, range.minutes_are, range.seconds_are))

standard_read : (t : LocalTimeType) (name : List ℕ) (offset : TimeText) → IsTimeUpTo offset_hours offset
    → t ≡ std_type_of name offset → IsStandardText t
standard_read t name offset range e = (
  ap (λ x. x.is_dst) e,
  λ none. (let clash : Some name ≡ None = sym (ap (λ x. x.designation) e) ∙ none in cc),
  subst IsShortOffset (sym (ap (λ x. x.ut_offset) e)) (short_offset offset range),
)

daylight_short : (std : TimeText) (dst : Option TimeText) → IfSome dst (IsTimeUpTo offset_hours)
    → IsShortOffset (daylight_offset_of std dst) ⊎ (daylight_offset_of std dst ≡ ut_offset_of std +ℤ pos 3600)
daylight_short std None range = inr refl
daylight_short std (Some t) range = inl (short_offset t range)

daylight_read : (a : AlternateText) → IfSome a.dst_offset (IsTimeUpTo offset_hours)
    → IsDaylightText (ut_offset_of a.std_offset) (dst_type_of a)
daylight_read a range = (refl, λ none. cc, daylight_short a.std_offset a.dst_offset range)

-- a rule that a text denotes is written
pub writable_if_read : (extended : Bool) (text : List ℕ) (rule : TransitionRule) → IsTzText extended text rule
    → IsWritable rule
writable_if_read extended text (Fixed t) read = standard_read t read.0 read.1 read.4 read.5
writable_if_read extended text (Alternating r) read =
    let a = read.0 in
    subst (λ (x : AlternateTime). IsWritable (Alternating x)) (sym read.4) (
      standard_read (std_type_of a.std_name a.std_offset) a.std_name a.std_offset read.2.std_offset_is
          refl,
      daylight_read a read.2.dst_offset_is,
    )

-- a time of day of an ordinary text
plain_by : (minus : Bool) (seconds : ℕ) → minus ≡ false → seconds ≤ 89999
    → is_extended_time (if minus then neg_ℤ (pos seconds) else pos seconds) ≡ false
unfolding is_extended_time
plain_by true seconds e within = absurd (false≢true (sym e))
plain_by false seconds e within = le-ltb 89999 seconds within

ordinary_time : (text : List ℕ) (t : TimeText) (rest : List ℕ) → IsTimeOfRule false text t rest → IsTimeUpTo 24 t
    → is_extended_time (seconds_of t) ≡ false
ordinary_time text t rest time range =
    plain_by t.minus (3600 * t.hours + 60 * t.minutes + t.seconds)
    (elim time [ inl h ↦ h.2.1.0 | inr h ↦ ap (λ x. x.minus) h.1 ])
    (omega (arith, range.hours_are, range.minutes_are, range.seconds_are))

-- an ordinary text denotes no rule that needs an extended one
pub ordinary_if_read : (text : List ℕ) (rule : TransitionRule) → IsTzText false text rule → is_extended rule ≡ false
ordinary_if_read text (Fixed t) read = refl
ordinary_if_read text (Alternating r) read =
    let a = read.0 in
    let is : IsAlternateText false text a = read.1 in
    let start : is_extended_time (seconds_of a.start.time) ≡ false =
    ordinary_time is.start_is.0 a.start.time (comma ∷ is.end_text) is.start_is.2 read.2.start_is.time_is in
    ap (λ (x : AlternateTime). is_extended (Alternating x)) read.4
    ∙ ap (λ x. x || is_extended_time (seconds_of a.end.time)) start
    ∙ (ordinary_time is.end_is.0 a.end.time [] is.end_is.2 read.2.end_is.time_is)
