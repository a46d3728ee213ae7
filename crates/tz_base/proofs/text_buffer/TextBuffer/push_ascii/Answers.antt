-- A text with ASCII bytes after it is a text.
use Rattle.std.proofs.Common.{arith, ◌≡◌, ap, rules, length, ◌+◌}
use Rattle.std.proofs.lemmas.Str.{IsUtf8-had, IsUtf8-append, IsUtf8-from_ascii}
use Rattle.std.proofs.lemmas.Slice.{take-put_mid}
use Rattle.tz_base.proofs.text_buffer.TextBuffer.push_ascii.Goals as goal

pub invariant_of-self : goal.invariant_of-self
invariant_of-self c =
    let line = c.self.inside in
    let more = c.args.bytes.now in
    let copied : c.copy_from_slice.new.self ≡ more = c.copy_from_slice.ensures.after in
    let end : line.len + length more ≡ line.len + length c.copy_from_slice.new.self =
    omega (arith, ap length copied) in (
      search rules,
      ∣ rw (
        take-put_mid line.len _ line.bytes c.copy_from_slice.new.self (line.len + length more) end
            (search rules),
        copied,
      ) (IsUtf8-append _ _ (IsUtf8-had _ c.self.invariant.1)
          (IsUtf8-from_ascii more c.requires.ascii)) ∣₁,
    )
