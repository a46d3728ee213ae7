-- The local time of a text is one of UTC, and its offset fits 32 bits.
use Rattle.tz.proofs.PrintedForms.{printed_form_is_read}
use Rattle.tz.proofs.laws.read_texts_have_a_printed_form.Goals as goal

pub returns : goal.returns
returns c = printed_form_is_read
