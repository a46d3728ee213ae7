-- What is reached is reached with all before it, and what is ahead with all after it.
use Rattle.tz_zone.proofs.Common.{arith, to_z-of_z, ℕ, w64, inr, inl, subst, ◌-◌, AreReached, list_of}
use Rattle.tz_zone.proofs.RisingTimes.{ahead_from, reached_through}
use Rattle.tz_zone.proofs.clock.binary_search.position_after_look.Goals as goal

pub returns-clause-position : goal.returns-clause-position
returns-clause-position c =
    let list = list_of c.args.view.now in
    let l = c.args.unix_leap_time in
    let at = c.look.ensures.value in
    elim (rw (to_z-of_z w64 l c.ranges.unix_leap_time) at c.later_if_reached.ensures) [
      | inl (is, reached) ↦ inl (
        is,
        subst (λ (k : ℕ). AreReached list l k) (omega (arith, c.requires.order))
            (reached_through list c.requires.rising l (c.args.later - 1) c.look.result at reached),
      )
      | inr (is, ahead) ↦
          inr (is, ahead_from list c.requires.rising l (c.args.later - 1) c.look.result at ahead)
    ]
