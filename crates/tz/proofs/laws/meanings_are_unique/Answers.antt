-- A search finds one list, and of that list one entry is meant.
use Rattle.tz.proofs.UniqueMeanings.{meaning_unique, meaning_fault_unique, meaning_or_fault}
use Rattle.tz.proofs.laws.meanings_are_unique.Goals as goal

pub returns : goal.returns
returns c =
    record {
      meant = meaning_unique;
      refused = meaning_fault_unique;
      either = meaning_or_fault;
    }
