-- Each part in turn.
use Rattle.tz.proofs.Common.{arith, refl, ints, inr, inl, ◌+◌, ◌*◌, err_from_is_err_and}
use Rattle.tz.proofs.parse.read_duration.Goals as goal

pub returns-in_err-text : goal.returns-in_err-text
returns-in_err-text c =
    let p = err_from_is_err_and c.from_residual-in_err-text.result c.from_residual-in_err-text.ensures.1 in
    rw (p.1, p.2) (inr (
      c.in_ok-hours.hours,
      c.in_ok-hours.text.now,
      rw c.in_ok-hours.ensures.ok at c.read_hours.ensures,
      inl (
        c.in_err-text.ensures.err.1,
        c.in_err-text.ensures.err.2,
        λ v after is.
            (rw c.in_err-text.ensures.err.0 at c.after_byte.ensures) (after, is),
      ),
    ))

pub returns-in_err-minutes : goal.returns-in_err-minutes
returns-in_err-minutes c =
    let p = err_from_is_err_and c.from_residual-in_err-minutes.result c.from_residual-in_err-minutes.ensures.1 in
    rw (p.1, p.2) (inr (
      c.in_ok-hours.hours,
      c.in_ok-hours.text.now,
      rw c.in_ok-hours.ensures.ok at c.read_hours.ensures,
      inr (
        tt,
        c.in_ok-text.text.now,
        rw c.in_ok-text.ensures.ok at c.after_byte.ensures,
        inl (
          c.in_err-minutes.ensures.err.1,
          c.in_err-minutes.ensures.err.2,
          (rw
              c.in_err-minutes.ensures.err.0 at c.read_minutes-minutes.ensures),
        ),
      ),
    ))

pub returns-in_err-seconds : goal.returns-in_err-seconds
returns-in_err-seconds c =
    let p = err_from_is_err_and c.from_residual-in_err-seconds.result c.from_residual-in_err-seconds.ensures.1 in
    rw (p.1, p.2) (inr (
      c.in_ok-hours.hours,
      c.in_ok-hours.text.now,
      rw c.in_ok-hours.ensures.ok at c.read_hours.ensures,
      inr (
        tt,
        c.in_ok-text.text.now,
        rw c.in_ok-text.ensures.ok at c.after_byte.ensures,
        inr (
          c.in_ok-minutes.minutes,
          c.in_ok-minutes.text.now,
          rw c.in_ok-minutes.ensures.ok at c.read_minutes-minutes.ensures,
          inl (
            c.in_err-seconds.ensures.err.1,
            c.in_err-seconds.ensures.err.2,
            (rw
                c.in_err-seconds.ensures.err.0 at c.read_seconds-seconds.ensures),
          ),
        ),
      ),
    ))

pub returns : goal.returns
returns c =
    let hours = rw c.in_ok-hours.ensures.ok at c.read_hours.ensures in
    let colon = rw c.in_ok-text.ensures.ok at c.after_byte.ensures in
    let minutes = rw c.in_ok-minutes.ensures.ok at c.read_minutes-minutes.ensures in
    let seconds = rw c.in_ok-seconds.ensures.ok at c.read_seconds-seconds.ensures in (
      3600 * c.in_ok-hours.hours + 60 * c.in_ok-minutes.minutes + c.in_ok-seconds.seconds,
      omega (arith, ints, c.from.ensures, c.from-2.ensures, seconds.1),
      (
        c.in_ok-hours.hours,
        c.in_ok-hours.text.now,
        hours,
        (
          tt,
          c.in_ok-text.text.now,
          colon,
          (
            c.in_ok-minutes.minutes,
            c.in_ok-minutes.text.now,
            minutes,
            (c.in_ok-seconds.seconds, c.in_ok-seconds.text.now, seconds, (refl, refl)),
          ),
        ),
      ),
    )
