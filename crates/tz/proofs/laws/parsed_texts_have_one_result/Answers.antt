-- The grammar is read in one way.
use Rattle.tz.proofs.UniqueTexts.{text_fault_unique, text_or_fault, text_unique}
use Rattle.tz.proofs.laws.parsed_texts_have_one_result.Goals as goal

pub returns : goal.returns
returns c =
    record {
      read = text_unique;
      refused = text_fault_unique;
      either = text_or_fault;
    }
