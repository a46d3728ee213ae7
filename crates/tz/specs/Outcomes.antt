-- What a search for fields says of them, and how much it reads.
use Rattle.std.specs.Prelude.{◌≡◌, ◌≢◌, ℕ, ◌+◌, ◌*◌, ◌^◌, ◌<◌, ◌≤◌, ℤ, length, Result, IfErr, OnOk}
use Rattle.tz_base.specs.declared.fields.Fields.{Fields}
use Rattle.tz_base.specs.declared.error.TzError.{TzError}
use Rattle.tz_base.specs.declared.error.TzError.TheVariants as faults
use Rattle.tz_base.specs.Fields.{IsValid}
use Rattle.tz_zone.specs.Clock.{IsClock}
use Rattle.tz_zone.specs.Looks.{looks_of, one_look_more}
use Rattle.tz_zone.specs.Table.{Zone}
use Rattle.tz_zone.specs.declared.table.transition_view.TransitionView.{TransitionView}
use Rattle.tz.specs.FindFaults.{IsFindFault, IsPromised}
use Rattle.tz.specs.Found.{EachCanBeMade}
use Rattle.tz.specs.Windows.{AtMostTakeEffectAround}

-- How a search for fields ends. If it succeeds, the fields are valid and each entry can be made. If
-- it fails, its fault is one that a search for these fields can have, and not `OutOfRange` if the
-- zone and the year promise that.
pub record IsOutcome {X E : Type 0} (fault_of : E → TzError) (takes_memory : Type 0) (z : Zone)
    (f : Fields) (result : Result X E) : Type 0 where
  pub valid : OnOk result (IsValid f)
  pub made : OnOk result (EachCanBeMade (IsClock z) f)
  pub promised : IsPromised z f.year → IfErr result (λ e. fault_of e ≢ faults.OutOfRange)
  pub err : IfErr result (λ e. IsFindFault takes_memory (IsClock z) f (fault_of e))

-- How many transitions a successful search looks at, by the view before and after it. If a zone has
-- fewer than 2^b transitions, of which w take effect around the reading, it looks at 2 b + w + 4 at
-- most. It looks at one at least, if there is any.
pub record AreLooksOf {X E : Type 0} (z : Zone) (r : ℤ) (before after : TransitionView)
    (result : Result X E) : Type 0 where
  pub at_most : OnOk result ((b w : ℕ) → length z.transitions < 2 ^ b → AtMostTakeEffectAround z r w
      → looks_of after ≤ looks_of before + (2 * b + w + 4))
  pub at_least_one : OnOk result (0 < length z.transitions
      → one_look_more (looks_of before) ≤ looks_of after)
  pub none : OnOk result (length z.transitions ≡ 0 → looks_of after ≡ looks_of before)
