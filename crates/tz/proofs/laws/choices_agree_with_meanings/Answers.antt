-- Of the list with a meaning each choice means one entry or none.
use Rattle.tz.proofs.LocalMeaningLaws.{choices_agree, nothing_by_choice, once_by_choices, rejected_unless_once}
use Rattle.tz.proofs.laws.choices_agree_with_meanings.Goals as goal

pub returns : goal.returns
returns c =
    record {
      agree = choices_agree;
      once = once_by_choices;
      nothing = nothing_by_choice;
      rejected = rejected_unless_once;
    }
