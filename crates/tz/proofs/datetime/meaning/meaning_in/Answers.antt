-- The fields mean what their entries are.
use Rattle.tz_zone.proofs.OffsetBounds.{found_end_offsets}
use Rattle.tz.proofs.Common.{arith, subst, ◌∙◌, ap, ints, inr, sym, to_z-of_z, ℕ, rules, w64, IsClock, Some, err_from_is_err_and, zone_of_data, AreMore, HasMeaning, More}
use Rattle.tz.specs.declared.datetime.entry_ends.Entry.{Entry as BorrowedEntry}
use Rattle.tz.proofs.EntryEnds.{each_made, means_gap, means_more, means_nothing, means_once, means_twice, more_than_jump, more_than_two, more_with_jump, none_of, one_of, two_of, outside_refused, sides_inside}
use Rattle.tz.proofs.PromisedLists.{never_out_of_range}
use Rattle.tz.proofs.datetime.meaning.meaning_in.Goals as goal
use Rattle.tz.proofs.datetime.meaning.meaning_in.Goals.{in_default-first-via-in-Shown-2+else-ends-eq2, in_default-first-via-in-Jump+else-ends-eq1-2}

pub returns-in_err-ends-clause-outcome : goal.returns-in_err-ends-clause-outcome
returns-in_err-ends-clause-outcome c =
    let z = zone_of_data c.args.zone.now in
    let f = c.args.fields.now in
    let reading_is = to_z-of_z w64 c.reading-reading.result (search rules) ∙ c.reading-reading.ensures.value in
    let p = err_from_is_err_and c.from_residual-in_err-ends.result c.from_residual-in_err-ends.ensures.1 in
    let valid = c.in_ok-check.ensures.ok in
    let refused = rw reading_is at c.in_err-ends.ensures.err in
    let fault = inr (valid, outside_refused (IsClock z) f valid _ refused) in
    let kept = c.args.zone.now in
    let ends = found_end_offsets z kept.least_offset kept.greatest_offset kept.offsets in
    rw (p.1, p.2) (record {
      valid = tt;
      made = tt;
      promised = λ promised. never_out_of_range ⊥ z kept.least_offset kept.greatest_offset ends kept.least_fits
          kept.greatest_fits f promised _ fault;
      err = fault;
    })

pub returns-in_default : goal.returns-in_default
returns-in_default c =
    let z = zone_of_data c.args.zone.now in
    let f = c.args.fields.now in
    let valid = c.in_ok-check.ensures.ok in
    let has = rw (to_z-of_z w64 c.reading-reading.result (search rules)
    ∙ c.reading-reading.ensures.value) at c.in_ok-ends.ensures.ok in
    record {
      ok = means_nothing z f valid (has.0, has.1, has.2) (none_of has.0 c.in_ok-ends.ends has.3 c.in_default.is);
      outcome = record {
        valid = valid;
        made = each_made z f valid (has.0, has.1, has.2);
        promised = λ promised. tt;
        err = tt;
      };
    }

pub of_fields-date_time-requires-clause-instant : goal.of_fields-date_time-requires-clause-instant
of_fields-date_time-requires-clause-instant c =
    let z = zone_of_data c.args.zone.now in
    let f = c.args.fields.now in
    let valid = c.in_ok-check.ensures.ok in
    let has = rw (to_z-of_z w64 c.reading-reading.result (search rules)
    ∙ c.reading-reading.ensures.value) at c.in_ok-ends.ensures.ok in
    let u = c.in-Shown.unix_time in
    let means = means_once z f valid (has.0, has.1, has.2) u c.in-Shown.local_time_type.now
    (one_of has.0 c.in_ok-ends.ends has.3 _ c.if-ends-eq1.true
    (c.in-Some.is ∙ ap (λ (e : BorrowedEntry). Some e) c.in-Shown.is)) in
    rw (to_z-of_z w64 u (search rules)) (omega (arith, ints, means.0.1))

pub returns-in-Shown : goal.returns-in-Shown
returns-in-Shown c =
    let z = zone_of_data c.args.zone.now in
    let f = c.args.fields.now in
    let valid = c.in_ok-check.ensures.ok in
    let has = rw (to_z-of_z w64 c.reading-reading.result (search rules)
    ∙ c.reading-reading.ensures.value) at c.in_ok-ends.ensures.ok in
    let u = c.in-Shown.unix_time in
    let means = means_once z f valid (has.0, has.1, has.2) u c.in-Shown.local_time_type.now
    (one_of has.0 c.in_ok-ends.ends has.3 _ c.if-ends-eq1.true
    (c.in-Some.is ∙ ap (λ (e : BorrowedEntry). Some e) c.in-Shown.is)) in
    record {
      ok = rw (c.of_fields-date_time.ensures, to_z-of_z w64 u (search rules)) means.1;
      outcome = record {
        valid = valid;
        made = each_made z f valid (has.0, has.1, has.2);
        promised = λ promised. tt;
        err = tt;
      };
    }

pub of_fields-first-requires-clause-instant : goal.of_fields-first-requires-clause-instant
of_fields-first-requires-clause-instant c =
    let z = zone_of_data c.args.zone.now in
    let f = c.args.fields.now in
    let valid = c.in_ok-check.ensures.ok in
    let has = rw (to_z-of_z w64 c.reading-reading.result (search rules)
    ∙ c.reading-reading.ensures.value) at c.in_ok-ends.ensures.ok in
    let u = c.in-Shown-2.unix_time in
    let v = c.in-Shown-last.later in
    let means = means_twice z f valid (has.0, has.1, has.2) u c.in-Shown-2.before.now v c.in-Shown-last.after.now
    (two_of has.0 c.in_ok-ends.ends has.3 _ _ c.if-ends-eq2.true
    (c.in-Some.is ∙ ap (λ (e : BorrowedEntry). Some e) c.in-Shown-2.is)
    (c.in-Some-last.is ∙ ap (λ (e : BorrowedEntry). Some e) c.in-Shown-last.is)) in
    rw (to_z-of_z w64 u (search rules)) (omega (arith, ints, means.0.1))

pub of_fields-last-requires-clause-instant : goal.of_fields-last-requires-clause-instant
of_fields-last-requires-clause-instant c =
    let z = zone_of_data c.args.zone.now in
    let f = c.args.fields.now in
    let valid = c.in_ok-check.ensures.ok in
    let has = rw (to_z-of_z w64 c.reading-reading.result (search rules)
    ∙ c.reading-reading.ensures.value) at c.in_ok-ends.ensures.ok in
    let u = c.in-Shown-2.unix_time in
    let v = c.in-Shown-last.later in
    let means = means_twice z f valid (has.0, has.1, has.2) u c.in-Shown-2.before.now v c.in-Shown-last.after.now
    (two_of has.0 c.in_ok-ends.ends has.3 _ _ c.if-ends-eq2.true
    (c.in-Some.is ∙ ap (λ (e : BorrowedEntry). Some e) c.in-Shown-2.is)
    (c.in-Some-last.is ∙ ap (λ (e : BorrowedEntry). Some e) c.in-Shown-last.is)) in
    rw (to_z-of_z w64 v (search rules)) (omega (arith, ints, means.1.1))

pub returns-in-Shown-last : goal.returns-in-Shown-last
returns-in-Shown-last c =
    let z = zone_of_data c.args.zone.now in
    let f = c.args.fields.now in
    let valid = c.in_ok-check.ensures.ok in
    let has = rw (to_z-of_z w64 c.reading-reading.result (search rules)
    ∙ c.reading-reading.ensures.value) at c.in_ok-ends.ensures.ok in
    let u = c.in-Shown-2.unix_time in
    let v = c.in-Shown-last.later in
    let means = means_twice z f valid (has.0, has.1, has.2) u c.in-Shown-2.before.now v c.in-Shown-last.after.now
    (two_of has.0 c.in_ok-ends.ends has.3 _ _ c.if-ends-eq2.true
    (c.in-Some.is ∙ ap (λ (e : BorrowedEntry). Some e) c.in-Shown-2.is)
    (c.in-Some-last.is ∙ ap (λ (e : BorrowedEntry). Some e) c.in-Shown-last.is)) in
    record {
      ok = rw (
        c.of_fields-first.ensures,
        c.of_fields-last.ensures,
        to_z-of_z w64 u (search rules),
        to_z-of_z w64 v
            (search rules),
      ) means.2;
      outcome = record {
        valid = valid;
        made = each_made z f valid (has.0, has.1, has.2);
        promised = λ promised. tt;
        err = tt;
      };
    }

pub returns-in_err-before_transition-in-Jump-clause-outcome :
    goal.returns-in_err-before_transition-in-Jump-clause-outcome
returns-in_err-before_transition-in-Jump-clause-outcome c =
    let z = zone_of_data c.args.zone.now in
    let f = c.args.fields.now in
    let valid = c.in_ok-check.ensures.ok in
    let has = rw (to_z-of_z w64 c.reading-reading.result (search rules)
    ∙ c.reading-reading.ensures.value) at c.in_ok-ends.ensures.ok in
    let u = c.in-Jump.unix_time in
    let a = c.in-Jump.before.now in
    let b = c.in-Jump.after.now in
    let u_is = to_z-of_z w64 u (search rules) in
    let one = one_of has.0 c.in_ok-ends.ends has.3 _ c.if-ends-eq1-2.true
    (c.in-Some.is ∙ ap (λ (e : BorrowedEntry). Some e) c.in-Jump.is) in
    let inside = sides_inside z f valid (has.0, has.1, has.2) u a b one in
    absurd ((rw u_is at c.in_err-before_transition-in-Jump.ensures.err).1 inside.0)

pub returns-in_err-after_transition-in-Jump-clause-outcome :
    goal.returns-in_err-after_transition-in-Jump-clause-outcome
returns-in_err-after_transition-in-Jump-clause-outcome c =
    let z = zone_of_data c.args.zone.now in
    let f = c.args.fields.now in
    let valid = c.in_ok-check.ensures.ok in
    let has = rw (to_z-of_z w64 c.reading-reading.result (search rules)
    ∙ c.reading-reading.ensures.value) at c.in_ok-ends.ensures.ok in
    let u = c.in-Jump.unix_time in
    let a = c.in-Jump.before.now in
    let b = c.in-Jump.after.now in
    let u_is = to_z-of_z w64 u (search rules) in
    let one = one_of has.0 c.in_ok-ends.ends has.3 _ c.if-ends-eq1-2.true
    (c.in-Some.is ∙ ap (λ (e : BorrowedEntry). Some e) c.in-Jump.is) in
    let inside = sides_inside z f valid (has.0, has.1, has.2) u a b one in
    absurd ((rw u_is at c.in_err-after_transition-in-Jump.ensures.err).1 inside.1)

pub returns-in_ok-after_transition-in-Jump : goal.returns-in_ok-after_transition-in-Jump
returns-in_ok-after_transition-in-Jump c =
    let z = zone_of_data c.args.zone.now in
    let f = c.args.fields.now in
    let valid = c.in_ok-check.ensures.ok in
    let has = rw (to_z-of_z w64 c.reading-reading.result (search rules)
    ∙ c.reading-reading.ensures.value) at c.in_ok-ends.ensures.ok in
    let u = c.in-Jump.unix_time in
    let a = c.in-Jump.before.now in
    let b = c.in-Jump.after.now in
    let u_is = to_z-of_z w64 u (search rules) in
    let one = one_of has.0 c.in_ok-ends.ends has.3 _ c.if-ends-eq1-2.true
    (c.in-Some.is ∙ ap (λ (e : BorrowedEntry). Some e) c.in-Jump.is) in
    let first = c.in_ok-before_transition-in-Jump in
    let second = c.in_ok-after_transition-in-Jump in
    record {
      ok = means_gap z f valid (has.0, has.1, has.2) u a b one first.before_transition second.after_transition
          (rw u_is at first.ensures.ok)
          (rw u_is at second.ensures.ok);
      outcome = record {
        valid = valid;
        made = each_made z f valid (has.0, has.1, has.2);
        promised = λ promised. tt;
        err = tt;
      };
    }

pub returns-in-Jump-last : goal.returns-in-Jump-last
returns-in-Jump-last c =
    let z = zone_of_data c.args.zone.now in
    let f = c.args.fields.now in
    let valid = c.in_ok-check.ensures.ok in
    let has = rw (to_z-of_z w64 c.reading-reading.result (search rules)
    ∙ c.reading-reading.ensures.value) at c.in_ok-ends.ensures.ok in
    let more = more_with_jump has.0 c.in_ok-ends.ends has.3 c.in-Some.first c.if-ends-eq2.true c.in-Some.is _ _ _
    (c.in-Some-last.is ∙ ap (λ (e : BorrowedEntry). Some e) c.in-Jump-last.is) in
    record {
      ok = subst (λ (n : ℕ). HasMeaning z f (More n)) (sym has.3.count_is ∙ c.if-ends-eq2.true)
          (means_more z f valid (has.0, has.1, has.2) more);
      outcome = record {
        valid = valid;
        made = each_made z f valid (has.0, has.1, has.2);
        promised = λ promised. tt;
        err = tt;
      };
    }

pub returns-in_default-first : goal.returns-in_default-first
returns-in_default-first c =
    let z = zone_of_data c.args.zone.now in
    let f = c.args.fields.now in
    let valid = c.in_ok-check.ensures.ok in
    let has = rw (to_z-of_z w64 c.reading-reading.result (search rules)
    ∙ c.reading-reading.ensures.value) at c.in_ok-ends.ensures.ok in
    let more : AreMore has.0 = elim c.in_default-first.branch [
      | in_default-first-via-in-Shown-2+else-ends-eq2 w ↦
          more_than_two has.0 c.in_ok-ends.ends has.3 c.in-Some.first c.in-Some.is w.if-ends-eq1.false
          w.if-ends-eq2.false
      | in_default-first-via-in-Jump+else-ends-eq1-2 w ↦
          more_than_jump has.0 c.in_ok-ends.ends has.3 _ _ _
          (c.in-Some.is ∙ ap (λ (e : BorrowedEntry). Some e) w.in-Jump.is) w.if-ends-eq1-2.false
    ] in
    record {
      ok = subst (λ (n : ℕ). HasMeaning z f (More n)) (sym has.3.count_is)
          (means_more z f valid (has.0, has.1, has.2) more);
      outcome = record {
        valid = valid;
        made = each_made z f valid (has.0, has.1, has.2);
        promised = λ promised. tt;
        err = tt;
      };
    }
