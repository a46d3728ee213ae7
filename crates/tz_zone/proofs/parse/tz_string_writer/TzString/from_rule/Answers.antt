-- The text is read back, and a rule that a text denotes has one.
use Rattle.tz_zone.proofs.Common.{◌≡◌, rules, tz_text}
use Rattle.tz_zone.proofs.TzStringRules.{tz_text_read, writable_if_read, ordinary_if_read}
use Rattle.tz_zone.proofs.parse.tz_string_writer.TzString.from_rule.Goals as goal

pub returns-then-not-is_writable-clause-ordinary : goal.returns-then-not-is_writable-clause-ordinary
returns-then-not-is_writable-clause-ordinary c text read = ordinary_if_read text c.args.rule.now read

pub returns-then-not-is_writable-clause-none : goal.returns-then-not-is_writable-clause-none
returns-then-not-is_writable-clause-none c extended text read =
    absurd (c.if-not-is_writable.ensures (writable_if_read extended text c.args.rule.now read))

pub returns-clause-denotes : goal.returns-clause-denotes
returns-clause-denotes c =
    let text : c.match-rule.text ≡ tz_text c.args.rule.now = search rules in
    rw text (tz_text_read c.args.rule.now c.rule_parts_are_sound.ensures c.if-not-is_writable.ensures.0
    c.if-not-is_writable.ensures.1)

pub returns-clause-ordinary : goal.returns-clause-ordinary
returns-clause-ordinary c text read = ordinary_if_read text c.args.rule.now read
