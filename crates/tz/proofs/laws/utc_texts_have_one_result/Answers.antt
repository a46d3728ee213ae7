-- Each part of a text is read in one way, and a text with `Z` is one with offset 0.
use Rattle.tz.proofs.UtcTexts.{utc_text_unique, utc_text_fault_unique, utc_text_or_fault, utc_is_date_time}
use Rattle.tz.proofs.laws.utc_texts_have_one_result.Goals as goal

pub returns : goal.returns
returns c =
    record {
      read = utc_text_unique;
      refused = utc_text_fault_unique;
      either = utc_text_or_fault;
      parsed = utc_is_date_time;
    }
