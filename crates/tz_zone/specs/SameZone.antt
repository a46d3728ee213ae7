-- Equality of zones, as a test of all their parts.
use Rattle.std.specs.Prelude.{◌≡◌, ◌==◌, ◌&&◌, Bool, Option, Some, None}
use Rattle.std.specs.Cmp.Lexicographic.{pointwise}
use Rattle.std.specs.Option.{option_eq}
use Rattle.std.specs.Ordering.{int_eq}
use Rattle.std.proofs.Common.{refl, ap, Decides}
use Rattle.std.proofs.lemmas.Bool.{false≢true}
use Rattle.std.proofs.lemmas.Bool.Decides.{Decides-eqb, Decides-int_eq, Decides-like, Decides-and}
use Rattle.std.proofs.lemmas.Slice.Eq.{slice_eq-Decides}
use Rattle.tz_rule.specs.Same.{same_type, Decides-same_type}
use Rattle.tz_rule.specs.SameRule.{same_rule, Decides-same_rule}
use Rattle.tz_rule.specs.declared.timezone.transition_rule.TransitionRule.{TransitionRule}
use Rattle.tz_zone.specs.Table.{Transition, LeapSecond, Zone, zone_with}

abbrev pub same_change : Transition → Transition → Bool
same_change a b = int_eq a.unix_leap_time b.unix_leap_time && (a.type_index == b.type_index)

abbrev pub same_leap : LeapSecond → LeapSecond → Bool
same_leap a b = int_eq a.unix_leap_time b.unix_leap_time && int_eq a.correction b.correction

-- the four parts
abbrev pub same_zone : Zone → Zone → Bool
same_zone a b =
    pointwise same_change a.transitions b.transitions
    && (pointwise same_type a.types b.types
    && (pointwise same_leap a.leap_seconds b.leap_seconds && option_eq same_rule a.extra_rule
    b.extra_rule))

pub Decides-same_change : (a b : Transition) → Decides (same_change a b) (a ≡ b)
Decides-same_change a b =
    Decides-like (same_change a b) (λ h. same_parts h.0 h.1)
    (λ e. (ap (λ c. c.unix_leap_time) e, ap (λ c. c.type_index) e))
    (Decides-and _ _ (Decides-int_eq a.unix_leap_time b.unix_leap_time)
    (Decides-eqb a.type_index b.type_index))
  where
    same_parts : a.unix_leap_time ≡ b.unix_leap_time → a.type_index ≡ b.type_index → a ≡ b
    same_parts t i = λ k. record { unix_leap_time = t k; type_index = i k }

pub Decides-same_leap : (a b : LeapSecond) → Decides (same_leap a b) (a ≡ b)
Decides-same_leap a b =
    Decides-like (same_leap a b) (λ h. same_parts h.0 h.1)
    (λ e. (ap (λ l. l.unix_leap_time) e, ap (λ l. l.correction) e))
    (Decides-and _ _ (Decides-int_eq a.unix_leap_time b.unix_leap_time)
    (Decides-int_eq a.correction b.correction))
  where
    same_parts : a.unix_leap_time ≡ b.unix_leap_time → a.correction ≡ b.correction → a ≡ b
    same_parts t x = λ k. record { unix_leap_time = t k; correction = x k }

pub Decides-same_extra_rule : (a b : Option TransitionRule)
    → Decides (option_eq same_rule a b) (a ≡ b)
Decides-same_extra_rule None None = (λ _. refl, λ _. refl)
Decides-same_extra_rule None (Some b) = (λ h. absurd (false≢true h), λ e. cc)
Decides-same_extra_rule (Some a) None = (λ h. absurd (false≢true h), λ e. cc)
Decides-same_extra_rule (Some a) (Some b) =
    Decides-like (same_rule a b) (ap Some) (λ e. cc) (Decides-same_rule a b)

-- equal zones
pub Decides-same_zone : (a b : Zone) → Decides (same_zone a b) (a ≡ b)
Decides-same_zone a b =
    Decides-like (same_zone a b) (λ h. same_parts h.0 h.1.0 h.1.1.0 h.1.1.1)
    (λ e. (
      ap (λ z. z.transitions) e,
      (
        ap (λ z. z.types) e,
        (ap (λ z. z.leap_seconds) e, ap (λ z. z.extra_rule) e),
      ),
    ))
    (Decides-and _ _ (slice_eq-Decides Decides-same_change a.transitions b.transitions _ refl)
    (Decides-and _ _ (slice_eq-Decides Decides-same_type a.types b.types _ refl)
    (Decides-and _ _ (slice_eq-Decides Decides-same_leap a.leap_seconds b.leap_seconds _ refl)
    (Decides-same_extra_rule a.extra_rule b.extra_rule))))
  where
    same_parts : a.transitions ≡ b.transitions → a.types ≡ b.types → a.leap_seconds ≡ b.leap_seconds
        → a.extra_rule ≡ b.extra_rule → a ≡ b
    same_parts t y l r = λ k. zone_with (t k) (y k) (l k) (r k)
