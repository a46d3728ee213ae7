-- A search finds one list, and this has one meaning.
use Rattle.tz.proofs.LocalMeaningLaws.{found_of_gap, found_of_more, found_of_nothing, found_of_once, found_of_twice, local_meaning_unique}
use Rattle.tz.proofs.laws.local_meanings_are_unique.Goals as goal

pub returns : goal.returns
returns c =
    record {
      unique = local_meaning_unique;
      nothing = found_of_nothing;
      once = found_of_once;
      twice = found_of_twice;
      skipped = found_of_gap;
      more = found_of_more;
    }
