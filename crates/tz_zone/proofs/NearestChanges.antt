-- Of two first changes after an instant neither is before the other, and at one instant there is one change.
use Rattle.tz_zone.proofs.Common.{◌≡◌, arith, ints, sym, ℤ, ◌∙◌, subst, ap, pos, ◌-ℤ◌, LocalTimeType, Zone, by_lt_z, IsClock, Change, IsChange, IsFollowing, IsPreceding}
use Rattle.tz_zone.proofs.Clocks.{one_type}

same_change : (c d : Change) → c.unix_time ≡ d.unix_time → c.before ≡ d.before → c.after ≡ d.after → c ≡ d
same_change c d time before after =
    let by_time : ℤ → Change = λ u. record { unix_time = u; before = c.before; after = c.after } in
    let by_before : LocalTimeType → Change = λ t. record { unix_time = d.unix_time; before = t; after = c.after } in
    let by_after : LocalTimeType → Change = λ t. record { unix_time = d.unix_time; before = d.before; after = t } in
    ap by_time time ∙ ap by_before before ∙ ap by_after after

pub one_change : (z : Zone) (c d : Change) → IsChange z c → IsChange z d → c.unix_time ≡ d.unix_time → c ≡ d
one_change z c d is is' same =
    same_change c d same
    (one_type z (c.unix_time -ℤ pos 1) c.before d.before is.before_is
    (subst (λ (u : ℤ). IsClock z (u -ℤ pos 1) d.before) (sym same) is'.before_is))
    (one_type z c.unix_time c.after d.after is.after_is
    (subst (λ (u : ℤ). IsClock z u d.after) (sym same) is'.after_is))

pub one_following : (z : Zone) (u : ℤ) (c d : Change) → IsFollowing z u c → IsFollowing z u d → c ≡ d
one_following z u c d first second =
    by_lt_z c.unix_time d.unix_time (λ less. absurd (second.least c first.above less first.is)) (λ not_less.
    by_lt_z d.unix_time c.unix_time (λ less. absurd (first.least d second.above less second.is)) (λ not_more.
    one_change z c d first.is second.is (omega (arith, ints, not_less, not_more))))

pub one_preceding : (z : Zone) (u : ℤ) (c d : Change) → IsPreceding z u c → IsPreceding z u d → c ≡ d
one_preceding z u c d first second =
    by_lt_z c.unix_time d.unix_time (λ less. absurd (first.greatest d less second.below second.is)) (λ not_less.
    by_lt_z d.unix_time c.unix_time (λ less. absurd (second.greatest c less first.below first.is)) (λ not_more.
    one_change z c d first.is second.is (omega (arith, ints, not_less, not_more))))
