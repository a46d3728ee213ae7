-- What calls answer that write a text to a buffer.
use Rattle.std.specs.Prelude.{◌≡◌, ◌⊎◌, ℕ, ◌<◌, ◌≤◌, Bool, List, ◌++◌, Option, Some, None, drop, length}
use Rattle.tz_rule.specs.declared.timezone.transition_rule.TransitionRule.{TransitionRule}
use Rattle.tz_zone.specs.TzText.{IsTzText}
use Rattle.tz.specs.TzStrings.{is_extended, tz_text}
use Rattle.tz_c.specs.Codes.{IsAnswerOr, buffer_length, no_rule, no_tz_string}

-- the text stands at the front of the buffer, whose other bytes stay, and its length is written; or
-- the buffer is too short
abbrev pub IsTextAnswer : List ℕ → ℕ → List ℕ → List ℕ → ℕ → Type 0
IsTextAnswer given code before after len =
    IsAnswerOr code buffer_length
    ((length given ≤ length before) × (after ≡ given ++ drop (length given) before)
    × (len ≡ length given))
    (length before < length given)

-- the TZ string of a rule is given, or no TZ string denotes it, or there is no rule
abbrev pub IsRuleTextAnswer : Option TransitionRule → ℕ → List ℕ → List ℕ → ℕ → Type 0
IsRuleTextAnswer None code before after len = code ≡ no_rule
IsRuleTextAnswer (Some rule) code before after len =
    ((code ≡ no_tz_string) × ((extended : Bool) (text : List ℕ) → ¬ IsTzText extended text rule))
    ⊎ (IsTzText (is_extended rule) (tz_text rule) rule
    × IsTextAnswer (tz_text rule) code before after len)
