-- Each part of the text is read as it is printed.
use Rattle.tz.proofs.ReadBack.{printed_is_read, utc_not_past}
use Rattle.tz.proofs.laws.printed_texts_are_read.Goals as goal

pub returns : goal.returns
returns c =
    record {
      read = printed_is_read;
      utc = utc_not_past;
    }
