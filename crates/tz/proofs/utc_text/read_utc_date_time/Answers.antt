-- Each part in turn, with `Z` for the offset.
use Rattle.tz.proofs.Common.{refl, ◌≡◌, ◌∙◌, inr, sym, inl, [], ap, length, Some, None, err_from_is_err_and, true, Bool, false, eqb-true, false≢true, nil_from_length, eq-eqb}
use Rattle.std.specs.Bool.{then_some}
use Rattle.tz.proofs.TextValues.{fields_are_utc}
use Rattle.tz.proofs.utc_text.read_utc_date_time.Goals as goal

pub returns-in_err-text : goal.returns-in_err-text
returns-in_err-text c =
    let p = err_from_is_err_and c.from_residual-in_err-text.result c.from_residual-in_err-text.ensures.1 in
    let e = c.in_err-text.ensures.err in
    rw (p.1, p.2) (inr (
      c.in_ok-date.date,
      c.in_ok-date.text.now,
      c.in_ok-date.ensures,
      inl
          (e.1, e.2, λ v after is. (rw e.0 at c.after_separator.ensures) after is),
    ))

pub returns-in_err-fields : goal.returns-in_err-fields
returns-in_err-fields c =
    let p = err_from_is_err_and c.from_residual-in_err-fields.result c.from_residual-in_err-fields.ensures.1 in
    rw (p.1, p.2) (inr (
      c.in_ok-date.date,
      c.in_ok-date.text.now,
      c.in_ok-date.ensures,
      inr (
        tt,
        c.in_ok-text.text.now,
        rw c.in_ok-text.ensures.ok at c.after_separator.ensures,
        inl
            c.in_err-fields.ensures,
      ),
    ))

pub returns-in_err-text-2 : goal.returns-in_err-text-2
returns-in_err-text-2 c =
    let p = err_from_is_err_and c.from_residual-in_err-text-2.result c.from_residual-in_err-text-2.ensures.1 in
    let separator = rw c.in_ok-text.ensures.ok at c.after_separator.ensures in
    let time = c.in_ok-fields in
    let e = c.in_err-text-2.ensures.err in
    rw (p.1, p.2) (inr (
      c.in_ok-date.date,
      c.in_ok-date.text.now,
      c.in_ok-date.ensures,
      inr (
        tt,
        c.in_ok-text.text.now,
        separator,
        inr (
          time.fields,
          time.text.now,
          time.ensures,
          inl (e.1, e.2, λ v after is. (rw e.0 at c.after_utc_mark.ensures) after is),
        ),
      ),
    ))

not_empty : (empty : Bool) → then_some {T = Unit {0}} empty tt ≡ None → empty ≡ false
not_empty true none = absurd (cc none)
not_empty false none = refl

is_empty : (empty : Bool) → then_some {T = Unit {0}} empty tt ≡ Some tt → empty ≡ true
is_empty true some = refl
is_empty false some = absurd (cc some)

pub returns-in_err-expect : goal.returns-in_err-expect
returns-in_err-expect c =
    let p = err_from_is_err_and c.from_residual-in_err-expect.result c.from_residual-in_err-expect.ensures.1 in
    let separator = rw c.in_ok-text.ensures.ok at c.after_separator.ensures in
    let time = c.in_ok-fields in
    let offset = c.in_ok-text-2 in
    let mark = rw c.in_ok-text-2.ensures.ok at c.after_utc_mark.ensures in
    let e = c.in_err-expect.ensures.err in
    let missing = inl (
      e.1,
      e.2,
      λ v after is. false≢true (sym (sym c.is_empty.ensures ∙ not_empty c.is_empty.result
          (sym c.then_some.ensures ∙ e.0)) ∙ eq-eqb (length offset.text.now) 0 (ap length is.0)),
    ) in
    rw (p.1, p.2) (inr (
      c.in_ok-date.date,
      c.in_ok-date.text.now,
      c.in_ok-date.ensures,
      inr (
        tt,
        c.in_ok-text.text.now,
        separator,
        inr (
          time.fields,
          time.text.now,
          time.ensures,
          inr
              (tt, offset.text.now, mark, missing),
        ),
      ),
    ))

pub of_fields-requires : goal.of_fields-requires
of_fields-requires c =
    fields_are_utc c.args.text.now c.in_ok-date.text.now c.in_ok-text.text.now c.in_ok-fields.text.now c.in_ok-date.date
    c.in_ok-fields.fields c.in_ok-date.ensures c.in_ok-fields.ensures

pub returns : goal.returns
returns c =
    let separator = rw c.in_ok-text.ensures.ok at c.after_separator.ensures in
    let time = c.in_ok-fields in
    let offset = c.in_ok-text-2 in
    let mark = rw c.in_ok-text-2.ensures.ok at c.after_utc_mark.ensures in
    let end = sym c.is_empty.ensures ∙ is_empty c.is_empty.result (sym c.then_some.ensures
    ∙ c.in_ok-expect.ensures.ok) in (
      c.in_ok-date.date,
      c.in_ok-date.text.now,
      c.in_ok-date.ensures,
      (
        tt,
        c.in_ok-text.text.now,
        separator,
        (
          time.fields,
          time.text.now,
          time.ensures,
          (
            tt,
            offset.text.now,
            mark,
            (
              tt,
              [],
              (nil_from_length offset.text.now (eqb-true (length offset.text.now) 0 end), refl),
              (c.of_fields.ensures, refl),
            ),
          ),
        ),
      ),
    )
