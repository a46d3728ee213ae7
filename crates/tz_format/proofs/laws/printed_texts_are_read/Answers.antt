-- A text that is printed has a reading, and so no fault.
use Rattle.std.proofs.Common.{refl}
use Rattle.tz_format.proofs.UniqueReadings.{not_refused}
use Rattle.tz_format.proofs.laws.printed_texts_are_read.Goals as goal

pub returns-clause-reading : goal.returns-clause-reading
returns-clause-reading c = λ pattern s plain hidden. record { plain = plain; prints = refl; hidden = hidden }

pub returns-clause-not_refused : goal.returns-clause-not_refused
returns-clause-not_refused c = λ pattern text s e readable reading fault.
    not_refused pattern text s e readable reading fault
