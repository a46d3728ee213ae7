-- What is missing stands within the text.
use Rattle.tz.proofs.Common.{arith, subst, sym, to_z-of_z, rules, Some, IsDateTimeText, valid_reading}
use Rattle.std.specs.Int.{w32}
use Rattle.tz.proofs.ReadBack.{printed_is_read}
use Rattle.tz.proofs.UniqueTexts.{missing_within}
use Rattle.tz.proofs.parse.ParsedDateTime.parse.Goals as goal

pub overflow_sub-result : goal.overflow_sub-result
overflow_sub-result c = missing_within c.args.text.now c.in-Err.missing.part c.in-Err.missing.rest.now c.in-Err.ensures

pub returns-in-Err-clause-err : goal.returns-in-Err-clause-err
returns-in-Err-clause-err c = (c.in-Err.missing.rest.now, c.in-Err.ensures, omega (arith, overflow_sub-result c))

pub of_fields-requires : goal.of_fields-requires
of_fields-requires c =
    let (valid, below, offset) = c.in-Some.ensures.valid in
    record {
      valid = valid;
      reads = valid_reading c.in-Some.fields valid (search rules)
          (λ last. omega (arith, last.5, below));
    }

pub returns-in-Some-clause-ok : goal.returns-in-Some-clause-ok
returns-in-Some-clause-ok c =
    let (valid, below, offset) = c.in-Some.ensures.valid in
    let read = printed_is_read c.in-Some.fields c.in-Some.ut_offset valid (λ past. omega (arith, past.5, below))
    (search rules) offset.0 offset.1 in
    let here : IsDateTimeText c.args.text.now (record {
      local = c.in-Some.fields;
      ut_offset = Some c.in-Some.ut_offset;
    }) =
    subst (λ text. IsDateTimeText text (record { local = c.in-Some.fields; ut_offset = Some c.in-Some.ut_offset }))
    (sym c.in-Some.ensures.text) read in
    subst (λ z. IsDateTimeText c.args.text.now (record { local = c.of_fields.result; ut_offset = Some z }))
    (sym (to_z-of_z w32 c.in-Some.ut_offset offset.0))
    (subst (λ local. IsDateTimeText c.args.text.now (record { local = local; ut_offset = Some c.in-Some.ut_offset }))
    (sym c.of_fields.ensures) here)
