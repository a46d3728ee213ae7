-- What is meant is the date time of the entry that is meant, or what the clock shows at another instant.
use Rattle.tz.proofs.Common.{arith, ◌≡◌, ◌∙◌, ints, inr, sym, inl, ap, to_z-of_z, rules, w64, IsClock, Some, Option, err_from_is_err_and, zone_of_data, Shown, Jump, entry_of, option_map}
use Rattle.tz.specs.EntryEnds.{entry_meant}
use Rattle.tz.specs.declared.datetime.entry_ends.Entry.{Entry as BorrowedEntry}
use Rattle.tz.proofs.EntryEnds.{each_made, jump_fault, jump_meant, none_meant, outside_refused, shown_meant}
use Rattle.tz.proofs.datetime.disambiguation.find_one_valid.Goals as goal

pub returns-in_err-meant_in-clause-err : goal.returns-in_err-meant_in-clause-err
returns-in_err-meant_in-clause-err c =
    let reading_is = to_z-of_z w64 c.args.reading c.ranges.reading ∙ c.requires.reading in
    let p = err_from_is_err_and c.from_residual.result c.from_residual.ensures.1 in
    let valid = c.requires.valid in
    let refused = rw reading_is at c.in_err-meant_in.ensures.err in
    rw (p.1, p.2) (inl (inr (
      valid,
      outside_refused (IsClock (zone_of_data c.args.zone.now)) c.args.fields.now valid _ refused,
    )))

pub returns-in-None : goal.returns-in-None
returns-in-None c =
    let z = zone_of_data c.args.zone.now in
    let f = c.args.fields.now in
    let valid = c.requires.valid in
    let has = rw (to_z-of_z w64 c.args.reading c.ranges.reading ∙ c.requires.reading)
    at c.in_ok-meant_in.ensures.ok in
    record {
      ok = none_meant z f valid (has.0, has.1, has.2) c.args.disambiguation (sym has.3
          ∙ ap (λ (e : Option BorrowedEntry). option_map entry_of e) c.in-None.is);
      made = each_made z f valid (has.0, has.1, has.2);
      err = search rules;
    }

pub of_fields-date_time-requires-clause-instant : goal.of_fields-date_time-requires-clause-instant
of_fields-date_time-requires-clause-instant c =
    let z = zone_of_data c.args.zone.now in
    let f = c.args.fields.now in
    let valid = c.requires.valid in
    let has = rw (to_z-of_z w64 c.args.reading c.ranges.reading ∙ c.requires.reading)
    at c.in_ok-meant_in.ensures.ok in
    let u = c.in-Some-Shown.unix_time in
    let t = c.in-Some-Shown.local_time_type in
    let is : entry_meant c.args.disambiguation has.0 ≡ Some (Shown u t.now) =
    sym has.3 ∙ ap (λ (e : Option BorrowedEntry). option_map entry_of e)
    (c.in-Some-Shown.is ∙ ap (λ (e : BorrowedEntry). Some e) c.in-Some-Shown.field-0-is) in
    let meant = shown_meant z f valid (has.0, has.1, has.2) c.args.disambiguation u t.now is in
    rw (to_z-of_z w64 u (search rules)) (omega (arith, ints, meant.0.1))

pub returns-in-Some-Shown : goal.returns-in-Some-Shown
returns-in-Some-Shown c =
    let z = zone_of_data c.args.zone.now in
    let f = c.args.fields.now in
    let valid = c.requires.valid in
    let has = rw (to_z-of_z w64 c.args.reading c.ranges.reading ∙ c.requires.reading)
    at c.in_ok-meant_in.ensures.ok in
    let u = c.in-Some-Shown.unix_time in
    let t = c.in-Some-Shown.local_time_type in
    let is : entry_meant c.args.disambiguation has.0 ≡ Some (Shown u t.now) =
    sym has.3 ∙ ap (λ (e : Option BorrowedEntry). option_map entry_of e)
    (c.in-Some-Shown.is ∙ ap (λ (e : BorrowedEntry). Some e) c.in-Some-Shown.field-0-is) in
    let meant = shown_meant z f valid (has.0, has.1, has.2) c.args.disambiguation u t.now is in
    record {
      ok = rw (c.of_fields-date_time.ensures, to_z-of_z w64 u (search rules)) meant.1;
      made = each_made z f valid (has.0, has.1, has.2);
      err = search rules;
    }

pub returns-in_ok-shown_apart-in-Some-Jump : goal.returns-in_ok-shown_apart-in-Some-Jump
returns-in_ok-shown_apart-in-Some-Jump c =
    let z = zone_of_data c.args.zone.now in
    let f = c.args.fields.now in
    let valid = c.requires.valid in
    let has = rw (to_z-of_z w64 c.args.reading c.ranges.reading ∙ c.requires.reading)
    at c.in_ok-meant_in.ensures.ok in
    let u = c.in-Some-Jump.field-0-0 in
    let a = c.in-Some-Jump.before in
    let b = c.in-Some-Jump.after in
    let is : entry_meant c.args.disambiguation has.0 ≡ Some (Jump u a.now b.now) =
    sym has.3 ∙ ap (λ (e : Option BorrowedEntry). option_map entry_of e)
    (c.in-Some-Jump.is ∙ ap (λ (e : BorrowedEntry). Some e) c.in-Some-Jump.field-0-is) in
    let reading_is = to_z-of_z w64 c.args.reading c.ranges.reading ∙ c.requires.reading in
    let instant = to_z-of_z w64 c.lookup_instant-unix_time.result (search rules)
    ∙ (rw reading_is at c.lookup_instant-unix_time.ensures) in
    let shown = rw instant at c.in_ok-shown_apart-in-Some-Jump.ensures.ok in
    record {
      ok = jump_meant z f valid (has.0, has.1, has.2) c.args.disambiguation u a.now b.now is
          c.in_ok-shown_apart-in-Some-Jump.field-0
          shown;
      made = each_made z f valid (has.0, has.1, has.2);
      err = search rules;
    }

pub returns-in_err-shown_apart-in-Some-Jump-clause-err : goal.returns-in_err-shown_apart-in-Some-Jump-clause-err
returns-in_err-shown_apart-in-Some-Jump-clause-err c =
    let z = zone_of_data c.args.zone.now in
    let f = c.args.fields.now in
    let valid = c.requires.valid in
    let has = rw (to_z-of_z w64 c.args.reading c.ranges.reading ∙ c.requires.reading)
    at c.in_ok-meant_in.ensures.ok in
    let u = c.in-Some-Jump.field-0-0 in
    let a = c.in-Some-Jump.before in
    let b = c.in-Some-Jump.after in
    let is : entry_meant c.args.disambiguation has.0 ≡ Some (Jump u a.now b.now) =
    sym has.3 ∙ ap (λ (e : Option BorrowedEntry). option_map entry_of e)
    (c.in-Some-Jump.is ∙ ap (λ (e : BorrowedEntry). Some e) c.in-Some-Jump.field-0-is) in
    let reading_is = to_z-of_z w64 c.args.reading c.ranges.reading ∙ c.requires.reading in
    let instant = to_z-of_z w64 c.lookup_instant-unix_time.result (search rules)
    ∙ (rw reading_is at c.lookup_instant-unix_time.ensures) in
    let residual = c.from_residual-in_err-shown_apart-in-Some-Jump in
    let p = err_from_is_err_and residual.result residual.ensures.1 in
    let fault = rw instant at c.in_err-shown_apart-in-Some-Jump.ensures.err in
    rw (p.1, p.2) (jump_fault z f valid (has.0, has.1, has.2) c.args.disambiguation u a.now b.now is _ fault)
