-- Equality of alternate rules and of rules, as a test of all their parts.
use Rattle.std.specs.Prelude.{◌≡◌, ◌&&◌, Bool, false}
use Rattle.std.specs.Ordering.{int_eq}
use Rattle.std.proofs.Common.{ap, Decides}
use Rattle.std.proofs.lemmas.Bool.{false≢true}
use Rattle.std.proofs.lemmas.Bool.Decides.{Decides-int_eq, Decides-like, Decides-and}
use Rattle.tz_rule.specs.Alternate.{AlternateTime, alternate_of}
use Rattle.tz_rule.specs.Same.{same_type, Decides-same_type}
use Rattle.tz_rule.specs.SameDay.{same_day, Decides-same_day}
use Rattle.tz_rule.specs.declared.timezone.transition_rule.TransitionRule.{TransitionRule}
use Rattle.tz_rule.specs.declared.timezone.transition_rule.TransitionRule.TheVariants.{Fixed, Alternate as Two}

-- the six parts
abbrev pub same_alternate : AlternateTime → AlternateTime → Bool
same_alternate a b =
    same_type a.std b.std && same_type a.dst b.dst
    && same_day a.dst_start b.dst_start && int_eq a.dst_start_time b.dst_start_time
    && same_day a.dst_end b.dst_end && int_eq a.dst_end_time b.dst_end_time

abbrev pub same_rule : TransitionRule → TransitionRule → Bool
same_rule (Fixed a) (Fixed b) = same_type a b
same_rule (Fixed a) (Two b) = false
same_rule (Two a) (Fixed b) = false
same_rule (Two a) (Two b) = same_alternate a b

pub Decides-same_alternate : (a b : AlternateTime) → Decides (same_alternate a b) (a ≡ b)
Decides-same_alternate a b =
    Decides-like (same_alternate a b)
    (λ h. same_parts h.0.0.0.0.0 h.0.0.0.0.1 h.0.0.0.1 h.0.0.1 h.0.1 h.1)
    (λ e. (
      (
        (
          ((ap (λ r. r.std) e, ap (λ r. r.dst) e), ap (λ r. r.dst_start) e),
          ap (λ r. r.dst_start_time) e,
        ),
        ap (λ r. r.dst_end) e,
      ),
      ap (λ r. r.dst_end_time) e,
    ))
    (Decides-and _ _ (Decides-and _ _ (Decides-and _ _ (Decides-and _ _ (Decides-and _ _
    (Decides-same_type a.std b.std) (Decides-same_type a.dst b.dst))
    (Decides-same_day a.dst_start b.dst_start))
    (Decides-int_eq a.dst_start_time b.dst_start_time))
    (Decides-same_day a.dst_end b.dst_end)) (Decides-int_eq a.dst_end_time b.dst_end_time))
  where
    same_parts : a.std ≡ b.std → a.dst ≡ b.dst → a.dst_start ≡ b.dst_start
        → a.dst_start_time ≡ b.dst_start_time → a.dst_end ≡ b.dst_end
        → a.dst_end_time ≡ b.dst_end_time → a ≡ b
    same_parts s d x y z w =
        let same : alternate_of a.std a.dst a.dst_start a.dst_start_time a.dst_end a.dst_end_time
        ≡ alternate_of b.std b.dst b.dst_start b.dst_start_time b.dst_end b.dst_end_time = cc in
        same

pub Decides-same_rule : (a b : TransitionRule) → Decides (same_rule a b) (a ≡ b)
Decides-same_rule (Fixed a) (Fixed b) =
    Decides-like (same_type a b) (ap Fixed) (λ e. cc) (Decides-same_type a b)
Decides-same_rule (Fixed a) (Two b) = (λ h. absurd (false≢true h), λ e. cc)
Decides-same_rule (Two a) (Fixed b) = (λ h. absurd (false≢true h), λ e. cc)
Decides-same_rule (Two a) (Two b) =
    Decides-like (same_alternate a b) (ap Two) (λ e. cc) (Decides-same_alternate a b)
