-- A text with an ASCII byte after it is a text.
use Rattle.std.proofs.Common.{[], ◌∷◌, ◌<◌, rules, length}
use Rattle.std.proofs.lemmas.Str.{IsUtf8-had, IsUtf8-append, IsUtf8-from_ascii}
use Rattle.std.proofs.lemmas.Str.Ascii.{IsAscii-cons, IsAscii-nil}
use Rattle.std.proofs.lemmas.List.{take_more_set}
use Rattle.tz_base.proofs.text_buffer.TextBuffer.push.Goals as goal

pub invariant_of-self : goal.invariant_of-self
invariant_of-self c =
    let line = c.self.inside in
    let within : line.len < length line.bytes = search rules in (
      search rules,
      ∣ rw (take_more_set line.bytes line.len c.args.byte within) (IsUtf8-append _ _ (IsUtf8-had _ c.self.invariant.1)
          (IsUtf8-from_ascii (c.args.byte ∷ []) (IsAscii-cons c.args.byte [] c.requires.ascii IsAscii-nil))) ∣₁,
    )
