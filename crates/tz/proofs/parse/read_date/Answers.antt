-- Each part in turn.
use Rattle.tz.proofs.Common.{subst, inr, inl, to_z-of_z, ℕ, rules, List, err_from_is_err_and, IsPair}
use Rattle.std.specs.Int.{w32}
use Rattle.tz.proofs.parse.read_date.Goals as goal

pub returns-in_err-text : goal.returns-in_err-text
returns-in_err-text c =
    let p = err_from_is_err_and c.from_residual-in_err-text.result c.from_residual-in_err-text.ensures.1 in
    rw (p.1, p.2) (inr (
      c.in_ok-year.year,
      c.in_ok-year.text.now,
      rw c.in_ok-year.ensures.ok at c.read_year.ensures,
      inl (
        c.in_err-text.ensures.err.1,
        c.in_err-text.ensures.err.2,
        λ v after is.
            (rw c.in_err-text.ensures.err.0 at c.after_byte.ensures) (after, is),
      ),
    ))

pub returns-in_err-month : goal.returns-in_err-month
returns-in_err-month c =
    let p = err_from_is_err_and c.from_residual-in_err-month.result c.from_residual-in_err-month.ensures.1 in
    rw (p.1, p.2) (inr (
      c.in_ok-year.year,
      c.in_ok-year.text.now,
      rw c.in_ok-year.ensures.ok at c.read_year.ensures,
      inr (
        tt,
        c.in_ok-text.text.now,
        rw c.in_ok-text.ensures.ok at c.after_byte.ensures,
        inl (
          c.in_err-month.ensures.err.1,
          c.in_err-month.ensures.err.2,
          (rw
              c.in_err-month.ensures.err.0 at c.read_pair.ensures),
        ),
      ),
    ))

pub returns-in_err-text-2 : goal.returns-in_err-text-2
returns-in_err-text-2 c =
    let p = err_from_is_err_and c.from_residual-in_err-text-2.result c.from_residual-in_err-text-2.ensures.1 in
    rw (p.1, p.2) (inr (
      c.in_ok-year.year,
      c.in_ok-year.text.now,
      rw c.in_ok-year.ensures.ok at c.read_year.ensures,
      inr (
        tt,
        c.in_ok-text.text.now,
        rw c.in_ok-text.ensures.ok at c.after_byte.ensures,
        inr (
          c.in_ok-month.month,
          c.in_ok-month.text.now,
          rw c.in_ok-month.ensures.ok at c.read_pair.ensures,
          inl (
            c.in_err-text-2.ensures.err.1,
            c.in_err-text-2.ensures.err.2,
            λ v after is.
                (rw c.in_err-text-2.ensures.err.0 at c.after_byte-2.ensures) (after, is),
          ),
        ),
      ),
    ))

pub returns-in_err-month_day : goal.returns-in_err-month_day
returns-in_err-month_day c =
    let p = err_from_is_err_and c.from_residual-in_err-month_day.result c.from_residual-in_err-month_day.ensures.1 in
    rw (p.1, p.2) (inr (
      c.in_ok-year.year,
      c.in_ok-year.text.now,
      rw c.in_ok-year.ensures.ok at c.read_year.ensures,
      inr (
        tt,
        c.in_ok-text.text.now,
        rw c.in_ok-text.ensures.ok at c.after_byte.ensures,
        inr (
          c.in_ok-month.month,
          c.in_ok-month.text.now,
          rw c.in_ok-month.ensures.ok at c.read_pair.ensures,
          inr (
            tt,
            c.in_ok-text-2.text.now,
            rw c.in_ok-text-2.ensures.ok at c.after_byte-2.ensures,
            inl (
              c.in_err-month_day.ensures.err.1,
              c.in_err-month_day.ensures.err.2,
              subst (λ n. (v : ℕ) (after : List ℕ)
                  → ¬ IsPair 1 n c.in_ok-text-2.text.now v after)
                  (rw (to_z-of_z w32 c.in_ok-year.year (search rules)) at c.days_in_month-days.ensures)
                  (rw c.in_err-month_day.ensures.err.0 at c.read_pair-2.ensures),
            ),
          ),
        ),
      ),
    ))
