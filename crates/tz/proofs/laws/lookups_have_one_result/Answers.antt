-- The clock has one type, which shows one date time or none.
use Rattle.tz.proofs.UniqueResults.{clock_fault_unique, no_fault_where_shown, shown_unique}
use Rattle.tz.proofs.laws.lookups_have_one_result.Goals as goal

pub returns : goal.returns
returns c =
    record {
      shown = shown_unique;
      refused = clock_fault_unique;
      either = no_fault_where_shown;
    }
