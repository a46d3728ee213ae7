-- The first error of the fields, or what they mean.
use Rattle.tz_query.proofs.Common.{refl, [], ◌∷◌, ◌++◌, inl, inr, codes, Search, field_fault_text}
use Rattle.tz_base.specs.declared.error.TzError.TheVariants.{DateTime}
use Rattle.tz_query.proofs.AddedText.{answer_written}
use Rattle.tz_query.proofs.query.answers.Answers.answer_any_search.Goals as goal

pub returns-in-Err : goal.returns-in-Err
returns-in-Err g c =
    let fault = c.in-Err.fault in
    answer_written (Search c.args.fields.now) c.args.self.now c.push_error.new.self c.push_error.result
    ((codes "E " ++ field_fault_text fault) ∷ [])
    (inr (DateTime fault, field_fault_text fault, inl (fault, refl, c.in-Err.ensures.err), refl, refl))
    (rw c.field_fault_name.ensures.text at c.push_error.ensures)

pub returns-in-Ok : goal.returns-in-Ok
returns-in-Ok g c = rw c.new.ensures at c.answer_search.ensures
