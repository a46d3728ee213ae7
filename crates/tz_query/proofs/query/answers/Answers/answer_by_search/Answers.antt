-- What is found, or the name of a refusal.
use Rattle.tz_query.proofs.Common.{sym, subst, refl, ◌≡◌, [], ap, ◌∷◌, ◌∙◌, ◌++◌, rules, inl, inr, ended, codes, number_of, Zone, IsClock, Search, IfOk-weaker, with_nanoseconds, All, IsSearchAnswer, OutOfRange, field_fault_text, found_lines, HasNanoseconds}
use Rattle.tz_base.specs.declared.error.TzError.TheVariants.{DateTime}
use Rattle.tz.specs.Lists.{found_of}
use Rattle.tz_zone.specs.ZoneOfData.{zone_of_data}
use Rattle.tz_query.proofs.AddedText.{with_text, answer_written}
use Rattle.tz_query.proofs.AnswerLines.{told_field_fault, told_out_of_range}
use Rattle.tz_query.proofs.EntryLines.{found_nanoseconds}
use Rattle.tz_query.proofs.query.answers.Answers.answer_by_search.Goals as goal

pub returns-in-Ok : goal.returns-in-Ok
returns-in-Ok g c =
    let f = with_nanoseconds c.args.fields c.args.nanoseconds in
    let found = found_of c.in-Ok.list in
    let valid = rw c.number.ensures at c.in-Ok.ensures.outcome.valid in
    let is = rw c.number.ensures at c.in-Ok.ensures.ok in
    let made = rw c.number.ensures at c.in-Ok.ensures.outcome.made in
    IfOk-weaker c.push_found.result _ _
    (λ done adds. (
      found_lines found,
      subst (λ (z : Zone). IsSearchAnswer z f (found_lines found)) c.of.ensures
          (inl (found, valid, is, made, refl)),
      with_text
          (ap (λ es. ended (found_lines es)) (c.deref.ensures.value ∙ c.into_inner.ensures)) adds,
    ))
    c.push_found.ensures

pub returns-in-Err-DateTime : goal.returns-in-Err-DateTime
returns-in-Err-DateTime g c =
    let f = with_nanoseconds c.args.fields c.args.nanoseconds in
    let fault = c.in-Err-DateTime.fault in
    let error : c.in-Err-DateTime.field-0 ≡ DateTime fault = search rules in
    let refused = told_field_fault (IsClock (zone_of_data c.of.result)) f fault
    (rw (c.in-Err-DateTime.is, error, c.number.ensures) at c.find_fields.ensures.outcome.err) in
    answer_written (Search f) c.args.self.now c.push_error.new.self c.push_error.result
    ((codes "E " ++ field_fault_text fault) ∷ [])
    (subst (λ (z : Zone). IsSearchAnswer z f ((codes "E " ++ field_fault_text fault) ∷ [])) c.of.ensures
    (inr (DateTime fault, field_fault_text fault, refused, refl, refl)))
    (rw (rw error at c.field_fault_name.ensures.text) at c.push_error.ensures)

pub returns-in-Err-OutOfRange : goal.returns-in-Err-OutOfRange
returns-in-Err-OutOfRange g c =
    let f = with_nanoseconds c.args.fields c.args.nanoseconds in
    let push_error = c.push_error-in-Err-OutOfRange in
    let error : c.in-Err-OutOfRange.field-0 ≡ OutOfRange = search rules in
    let refused = told_out_of_range (IsClock (zone_of_data c.of.result)) f
    (rw (c.in-Err-OutOfRange.is, error, c.number.ensures) at c.find_fields.ensures.outcome.err) in
    answer_written (Search f) c.args.self.now push_error.new.self push_error.result (codes "E OutOfRange" ∷ [])
    (subst (λ (z : Zone). IsSearchAnswer z f (codes "E OutOfRange" ∷ [])) c.of.ensures
    (inr (OutOfRange, codes "OutOfRange", refused, refl, refl))) push_error.ensures

pub push_found-requires : goal.push_found-requires
push_found-requires g c =
    let all = found_nanoseconds (IsClock (zone_of_data c.of.result))
    (with_nanoseconds c.args.fields c.args.nanoseconds) (found_of c.in-Ok.list)
    (rw c.number.ensures at c.in-Ok.ensures.ok) in
    subst (All (HasNanoseconds (number_of c.args.nanoseconds))) (sym (c.deref.ensures.value ∙ c.into_inner.ensures)) all
