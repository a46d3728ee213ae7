-- Each part of a text is read in one way.
use Rattle.tz_zone.proofs.TextFaults.{no_text_fault, one_rule}
use Rattle.tz_zone.proofs.laws.tz_strings_denote_one_rule.Goals as goal

pub returns : goal.returns
returns c =
    record {
      unique = one_rule;
      sound = no_text_fault;
    }
