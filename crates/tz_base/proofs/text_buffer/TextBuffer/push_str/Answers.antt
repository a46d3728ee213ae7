-- A text after a text is a text.
use Rattle.std.proofs.Common.{arith, ◌≡◌, ◌∙◌, ap, rules, length, ◌+◌}
use Rattle.std.proofs.lemmas.Str.{IsUtf8-had, IsUtf8-append}
use Rattle.std.proofs.lemmas.Slice.{take-put_mid}
use Rattle.tz_base.proofs.text_buffer.TextBuffer.push_str.Goals as goal

pub invariant_of-self : goal.invariant_of-self
invariant_of-self c =
    let line = c.self.inside in
    let text = c.args.text.now in
    let copied : c.copy_from_slice.new.self ≡ text = c.copy_from_slice.ensures.after ∙ c.as_bytes.ensures.value in
    let end : line.len + length text ≡ line.len + length c.copy_from_slice.new.self =
    omega (arith, ap length copied) in (
      search rules,
      ∣ rw (
        take-put_mid line.len _ line.bytes c.copy_from_slice.new.self (line.len + length text) end
            (search rules),
        copied,
      ) (IsUtf8-append _ _ (IsUtf8-had _ c.self.invariant.1) c.utf8.text) ∣₁,
    )
