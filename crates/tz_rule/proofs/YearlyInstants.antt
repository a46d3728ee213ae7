-- What the starts and the ends of a rule have in common, and what follows for their order.
use Rattle.tz_rule.proofs.Common.{arith, ◌≡◌, ints, pos, ◌∙◌, ℕ, ◌+ℤ◌, ℤ, ◌≤ℤ◌, ap, ◌-ℤ◌, Bool, true, end_of, false, start_of, ◌<ℤ◌, AlternateTime, ◌≤◌, AreRuleDays, suc, IsInRuleRange, zero, by_lt_z, is_leap, negsuc, year_day_of, first_day-mono, week_day_of_year, switch_of, ◌*◌, IsConflict, RuleDay, first_day, IsInconsistent, IsNear, IsRuleDay, rule_day, first_day-period, IsNearYear, IsRuleOffset, IsRuleTime, is_leap-period, ◌*ℤ◌}
use Rattle.tz_rule.proofs.Weeks.{week_day_of_year-period}
use Rattle.tz_rule.proofs.DaysOfYears.{year_day_of-bound, rule_day-year_day}

-- 00:00 UTC of January 1st
abbrev pub year_start : ℤ → ℤ
year_start year = pos 86400 *ℤ first_day year

-- an instant of each year, less than ten days outside it, that does not fall from year to year, and as far from its
-- beginning 400 years later
pub record IsYearly (f : ℤ → ℤ) : Type 0 where
  pub low : (y : ℤ) → year_start y <ℤ (f y +ℤ pos 864000)
  pub high : (y : ℤ) → f y <ℤ (year_start y +ℤ pos 32400000)
  pub rises : (x y : ℤ) → x ≤ℤ y → f x ≤ℤ f y
  pub period : (y : ℤ) → f (y +ℤ pos 400) ≡ f y +ℤ pos 12622780800

-- a rule day's local time
abbrev pub local_instant : RuleDay → ℤ → ℤ → ℤ → ℤ
local_instant d time offset y = pos 86400 *ℤ rule_day d y +ℤ time -ℤ offset

-- the day of a rule day in a year
unfoldable pub year_day_in : RuleDay → ℤ → ℕ
year_day_in d y = year_day_of d (is_leap y) (week_day_of_year y)

pub local_instant-is : (d : RuleDay) (time offset y : ℤ) → IsRuleDay d
    → (local_instant d time offset y ≡ year_start y +ℤ pos (86400 * year_day_in d y) +ℤ time -ℤ offset)
    × (year_day_in d y ≤ 365)
unfolding year_day_in
local_instant-is d time offset y valid =
    (omega (arith, ints, rule_day-year_day d y valid), year_day_of-bound d (is_leap y) (week_day_of_year y) valid)

year_day_in-alike : (d : RuleDay) (x y : ℤ) → is_leap x ≡ is_leap y → week_day_of_year x ≡ week_day_of_year y
    → year_day_in d x ≡ year_day_in d y
unfolding year_day_in
year_day_in-alike d x y leap week_day = ap (λ b. year_day_of d b (week_day_of_year x)) leap
    ∙ ap (year_day_of d (is_leap y)) week_day

IsYearly-local : (d : RuleDay) (time offset : ℤ) → IsRuleDay d → IsRuleTime time → IsRuleOffset offset
    → IsYearly (local_instant d time offset)
IsYearly-local d time offset valid t o =
    let is = λ (y : ℤ). local_instant-is d time offset y valid in
    record {
      low = λ y. omega (arith, ints, is y);
      high = λ y. omega (arith, ints, is y);
      rises = λ x y up. by_lt_z x y (λ less. omega (arith, ints, is x, is y, first_day-mono x y up))
          (λ past. let same : x ≡ y = omega (arith, ints) in
          omega (arith, ints, ap (local_instant d time offset) same));
      period = λ y. omega (
        arith,
        ints,
        is y,
        is (y +ℤ pos 400),
        first_day-period y 1,
        year_day_in-alike d (y +ℤ pos 400) y
            (is_leap-period y 1) (week_day_of_year-period y),
      );
    }

pub IsYearly-start_of : (r : AlternateTime) → IsInRuleRange r → IsRuleDay r.dst_start → IsYearly (start_of r)
unfolding start_of
IsYearly-start_of r range valid = IsYearly-local r.dst_start r.dst_start_time r.std.ut_offset valid range.start_is
    range.std_is

pub IsYearly-end_of : (r : AlternateTime) → IsInRuleRange r → IsRuleDay r.dst_end → IsYearly (end_of r)
unfolding end_of
IsYearly-end_of r range valid = IsYearly-local r.dst_end r.dst_end_time r.dst.ut_offset valid range.end_is range.dst_is

pub IsYearly-switch_of : (r : AlternateTime) → IsInRuleRange r → AreRuleDays r → (is_end : Bool)
    → IsYearly (switch_of r is_end)
IsYearly-switch_of r range days true = IsYearly-end_of r range days.end_is
IsYearly-switch_of r range days false = IsYearly-start_of r range days.start_is

-- two years later everything is later
two_years_later : (f g : ℤ → ℤ) → IsYearly f → IsYearly g → (x y : ℤ) → (x +ℤ pos 2) ≤ℤ y → f x <ℤ g y
two_years_later f g yf yg x y h = omega (arith, ints, yf.high x, yg.low y, first_day-mono x y (omega (arith, ints)))

-- so a conflict has a distance of at most one year
pub consistent_from_near : (f g : ℤ → ℤ) → IsYearly f → IsYearly g
    → ((k : ℤ) → IsNear k → (x y : ℤ) → ¬ IsConflict f g x y k) → ¬ IsInconsistent f g
consistent_from_near f g yf yg none (x, y, k, c) =
    by_lt_z (pos 1) k
    (λ after. omega (arith, ints, c.1, two_years_later f g yf yg x (x +ℤ k) (omega (arith, ints, after))))
    (λ high. by_lt_z k (negsuc 0)
    (λ before. omega (arith, ints, c.0, two_years_later g f yg yf (y +ℤ k) y (omega (arith, ints, before))))
    (λ low. none k (low, high) x y c))

-- the three distances are all that are near
pub none_near : (f g : ℤ → ℤ) → ((x y : ℤ) → ¬ IsConflict f g x y (pos 0)) → ((x y : ℤ) → ¬ IsConflict f g x y (pos 1))
    → ((x y : ℤ) → ¬ IsConflict f g x y (negsuc 0))
    → (k : ℤ) → IsNear k → (x y : ℤ) → ¬ IsConflict f g x y k
none_near f g same after before (pos zero) near = same
none_near f g same after before (pos (suc zero)) near = after
none_near f g same after before (pos (suc (suc n))) near = absurd (omega (arith, ints, near.1))
none_near f g same after before (negsuc zero) near = before
none_near f g same after before (negsuc (suc n)) near = absurd (omega (arith, ints, near.0))

-- less than ten days outside the year
pub near_year : (f : ℤ → ℤ) → IsYearly f → (y : ℤ) → IsNearYear (f y) y
near_year f yf y = (yf.low y, omega (arith, ints, yf.high y, first_day-mono y (y +ℤ pos 1) (omega (arith, ints))))
