-- A text has one reading.
use Rattle.std.proofs.Common.{refl, ◌≡◌, ◌∙◌, ap, sym, List, ℕ, ℤ, pos, Bool, true, false, Option, Some, None, Result, Ok, Err, lit<}
use Rattle.std.specs.Prelude.{IfOk, IfErr, if◌then◌else◌, unwrap_or}
use Rattle.tz_base.specs.declared.fields.Fields.{Fields}
use Rattle.tz_format.specs.Patterns.{items_of}
use Rattle.tz_format.specs.Readings.{IsReadablePattern, IsReadAs, IsReadFault, IsReading, are_shown, value}
use Rattle.tz_format.specs.Shown.{Shown}
use Rattle.tz_format.specs.declared.read.ReadDateTime.{ReadDateTime}
use Rattle.tz_format.specs.declared.read.ReadPatternError.{ReadPatternError}
use Rattle.tz_format.specs.declared.read.ReadPatternError.TheVariants.{NotReadable, Mismatch}

pub not_refused : (pattern text : List ℕ) (s : Shown) (e : ReadPatternError) → IsReadablePattern pattern
    → IsReading pattern text s → IsReadFault pattern text e → ⊥
not_refused pattern text s NotReadable readable reading fault = absurd (cc (readable, fault))
not_refused pattern text s (Mismatch position) readable reading fault = fault.1 s reading

same_offset : (is_shown : Bool) (a b : ℤ) → (is_shown ≡ false → a ≡ b)
    → (if is_shown then Some a else None) ≡ (if is_shown then Some b else None) → a ≡ b
same_offset true a b hidden same = ap (λ o. unwrap_or o (pos 0)) same
same_offset false a b hidden same = hidden refl

same_read : (pattern text : List ℕ) (local : Fields) (offset : Option ℤ) (s t : Shown)
    → IsReadAs pattern text local offset s → IsReadAs pattern text local offset t → s ≡ t
unfolding value
same_read pattern text local offset s t s_is t_is =
    let fields = sym s_is.1 ∙ t_is.1 in
    let ut_offset = same_offset (are_shown 10 (items_of pattern)) s.ut_offset t.ut_offset
    (λ none. s_is.0.hidden 10 (lit< tt) none ∙ sym (t_is.0.hidden 10 (lit< tt) none)) (sym s_is.2 ∙ t_is.2) in
    let name = s_is.0.plain.no_name ∙ sym t_is.0.plain.no_name in
    let time = s_is.0.plain.no_time ∙ sym t_is.0.plain.no_time in
    λ i. record { fields = fields i; ut_offset = ut_offset i; designation = name i; unix_time = time i }

pub unique : (r : Result ReadDateTime ReadPatternError) (pattern text : List ℕ)
    → IfOk r (λ d. (s : Shown) → IsReading pattern text s → IsReadAs pattern text d.local d.ut_offset s)
    → IfErr r (IsReadFault pattern text) → IsReadablePattern pattern
    → (s t : Shown) → IsReading pattern text s → IsReading pattern text t → s ≡ t
unique (Ok d) pattern text once err readable s t s_is t_is =
    same_read pattern text d.local d.ut_offset s t (once s s_is) (once t t_is)
unique (Err e) pattern text once err readable s t s_is t_is = absurd (not_refused pattern text s e readable s_is err)
