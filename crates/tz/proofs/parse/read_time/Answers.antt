-- Each part in turn.
use Rattle.tz.proofs.Common.{inr, inl, err_from_is_err_and}
use Rattle.tz.proofs.parse.read_time.Goals as goal

pub returns-in_err-text : goal.returns-in_err-text
returns-in_err-text c =
    let p = err_from_is_err_and c.from_residual-in_err-text.result c.from_residual-in_err-text.ensures.1 in
    rw (p.1, p.2) (inr (
      c.in_ok-hour.hour,
      c.in_ok-hour.text.now,
      rw c.in_ok-hour.ensures.ok at c.read_pair.ensures,
      inl (
        c.in_err-text.ensures.err.1,
        c.in_err-text.ensures.err.2,
        λ v after is.
            (rw c.in_err-text.ensures.err.0 at c.after_byte.ensures) (after, is),
      ),
    ))

pub returns-in_err-minute : goal.returns-in_err-minute
returns-in_err-minute c =
    let p = err_from_is_err_and c.from_residual-in_err-minute.result c.from_residual-in_err-minute.ensures.1 in
    rw (p.1, p.2) (inr (
      c.in_ok-hour.hour,
      c.in_ok-hour.text.now,
      rw c.in_ok-hour.ensures.ok at c.read_pair.ensures,
      inr (
        tt,
        c.in_ok-text.text.now,
        rw c.in_ok-text.ensures.ok at c.after_byte.ensures,
        inl (
          c.in_err-minute.ensures.err.1,
          c.in_err-minute.ensures.err.2,
          (rw
              c.in_err-minute.ensures.err.0 at c.read_pair-2.ensures),
        ),
      ),
    ))

pub returns-in_err-text-2 : goal.returns-in_err-text-2
returns-in_err-text-2 c =
    let p = err_from_is_err_and c.from_residual-in_err-text-2.result c.from_residual-in_err-text-2.ensures.1 in
    rw (p.1, p.2) (inr (
      c.in_ok-hour.hour,
      c.in_ok-hour.text.now,
      rw c.in_ok-hour.ensures.ok at c.read_pair.ensures,
      inr (
        tt,
        c.in_ok-text.text.now,
        rw c.in_ok-text.ensures.ok at c.after_byte.ensures,
        inr (
          c.in_ok-minute.minute,
          c.in_ok-minute.text.now,
          rw c.in_ok-minute.ensures.ok at c.read_pair-2.ensures,
          inl (
            c.in_err-text-2.ensures.err.1,
            c.in_err-text-2.ensures.err.2,
            λ v after is.
                (rw c.in_err-text-2.ensures.err.0 at c.after_byte-2.ensures) (after, is),
          ),
        ),
      ),
    ))

pub returns-in_err-second : goal.returns-in_err-second
returns-in_err-second c =
    let p = err_from_is_err_and c.from_residual-in_err-second.result c.from_residual-in_err-second.ensures.1 in
    rw (p.1, p.2) (inr (
      c.in_ok-hour.hour,
      c.in_ok-hour.text.now,
      rw c.in_ok-hour.ensures.ok at c.read_pair.ensures,
      inr (
        tt,
        c.in_ok-text.text.now,
        rw c.in_ok-text.ensures.ok at c.after_byte.ensures,
        inr (
          c.in_ok-minute.minute,
          c.in_ok-minute.text.now,
          rw c.in_ok-minute.ensures.ok at c.read_pair-2.ensures,
          inr (
            tt,
            c.in_ok-text-2.text.now,
            rw c.in_ok-text-2.ensures.ok at c.after_byte-2.ensures,
            inl (
              c.in_err-second.ensures.err.1,
              c.in_err-second.ensures.err.2,
              (rw
                  c.in_err-second.ensures.err.0 at c.read_second-second.ensures),
            ),
          ),
        ),
      ),
    ))

pub returns-in_err-nanoseconds : goal.returns-in_err-nanoseconds
returns-in_err-nanoseconds c =
    let p = err_from_is_err_and c.from_residual-in_err-nanoseconds.result
    c.from_residual-in_err-nanoseconds.ensures.1 in
    rw (p.1, p.2) (inr (
      c.in_ok-hour.hour,
      c.in_ok-hour.text.now,
      rw c.in_ok-hour.ensures.ok at c.read_pair.ensures,
      inr (
        tt,
        c.in_ok-text.text.now,
        rw c.in_ok-text.ensures.ok at c.after_byte.ensures,
        inr (
          c.in_ok-minute.minute,
          c.in_ok-minute.text.now,
          rw c.in_ok-minute.ensures.ok at c.read_pair-2.ensures,
          inr (
            tt,
            c.in_ok-text-2.text.now,
            rw c.in_ok-text-2.ensures.ok at c.after_byte-2.ensures,
            inr (
              c.in_ok-second.second,
              c.in_ok-second.text.now,
              rw c.in_ok-second.ensures.ok at c.read_second-second.ensures,
              inl (
                c.in_err-nanoseconds.ensures.err.1,
                c.in_err-nanoseconds.ensures.err.2,
                (rw
                    c.in_err-nanoseconds.ensures.err.0 at c.read_fraction.ensures).fraction,
              ),
            ),
          ),
        ),
      ),
    ))
