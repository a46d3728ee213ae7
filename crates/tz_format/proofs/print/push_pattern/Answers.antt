-- The line has the text of the pattern as far as it is read.
use Rattle.std.proofs.Common.{arith, refl, ◌≡◌, ◌∙◌, ap, sym, length, length-append, ◌+◌, ◌≤◌, ◌++◌, Some}
use Rattle.tz_format.proofs.Printed.{byte_fits, byte_printed, none_unknown, conversion_fits, conversion_printed, all_printed, two_long, time_printed}
use Rattle.tz.specs.PrintedText.{two_digits}
use Rattle.tz_format.specs.Patterns.{text_of}
use Rattle.tz_format.specs.Shown.{shown_of}
use Rattle.tz_format.specs.Texts.{conversion_text}
use Rattle.tz_format.specs.Widths.{conversion_width}
use Rattle.tz_format.proofs.print.push_pattern.Goals as goal

pub returns-in_default-clause-text : goal.returns-in_default-clause-text
returns-in_default-clause-text c =
    absurd (none_unknown _ _ _ _ c.loop-position.invariant c.loop-position-test.true c.if-byte-eq37.true
    (cc (c.conversion_at.ensures.value, c.in_default.is)))

pub returns-in_default-clause-utf8 : goal.returns-in_default-clause-utf8
returns-in_default-clause-utf8 c =
    absurd (none_unknown _ _ _ _ c.loop-position.invariant c.loop-position-test.true c.if-byte-eq37.true
    (cc (c.conversion_at.ensures.value, c.in_default.is)))

pub push_conversion-requires-clause-room : goal.push_conversion-requires-clause-room
push_conversion-requires-clause-room c =
    conversion_fits _ _ _ _ _ c.in-Some.spelled c.loop-position.invariant c.loop-position-test.true c.if-byte-eq37.true
    (sym c.in-Some.ensures.value)

pub push_time-requires-clause-room : goal.push_time-requires-clause-room
push_time-requires-clause-room c =
    let printed = time_printed _ _ _ _ c.in-Some.spelled _ c.loop-position.invariant c.loop-position-test.true
    c.if-byte-eq37.true (sym c.in-Some.ensures.value ∙ ap (λ conversion. Some (conversion, c.in-Some.spelled))
    (c.if-begins_time.ensures.hour refl)) c.in-Some.ensures.within.0 c.in-Some.ensures.within.1 c.in-Some.ensures.ascii
    c.requires.shown (c.if-begins_time.ensures.rest refl) in
    printed.0

pub loop-position-preserved-then-begins_time : goal.loop-position-preserved-then-begins_time
loop-position-preserved-then-begins_time c =
    let printed = time_printed _ _ _ _ c.in-Some.spelled _ c.loop-position.invariant c.loop-position-test.true
    c.if-byte-eq37.true (sym c.in-Some.ensures.value ∙ ap (λ conversion. Some (conversion, c.in-Some.spelled))
    (c.if-begins_time.ensures.hour refl)) c.in-Some.ensures.within.0 c.in-Some.ensures.within.1 c.in-Some.ensures.ascii
    c.requires.shown (c.if-begins_time.ensures.rest refl) in
    rw c.push_time.ensures.text printed.1

pub push_two_digits-requires-clause-room : goal.push_two_digits-requires-clause-room
push_two_digits-requires-clause-room c =
    let fits = conversion_fits _ _ _ _ _ c.in-Some.spelled c.loop-position.invariant c.loop-position-test.true
    c.if-byte-eq37.true (sym c.in-Some.ensures.value) in
    omega (arith, fits, c.in-Some-two_digits_of.ensures.width)

pub loop-position-preserved-in-Some-two_digits_of : goal.loop-position-preserved-in-Some-two_digits_of
loop-position-preserved-in-Some-two_digits_of c =
    let line = c.loop-position.line in
    let text = conversion_text (shown_of c.args.moment.now) c.in-Some.conversion in
    let digits : text ≡ two_digits c.in-Some-two_digits_of.number = c.in-Some-two_digits_of.ensures.text in
    let more : c.push_two_digits.new.self ≡ line ++ text =
    c.push_two_digits.ensures.text ∙ ap (λ digits. line ++ digits) (sym digits) in
    let short : length text ≤ conversion_width c.in-Some.conversion =
    omega (arith, ap length digits, two_long c.in-Some-two_digits_of.number, c.in-Some-two_digits_of.ensures.width) in
    rw more (conversion_printed _ _ _ _ _ c.in-Some.spelled c.loop-position.invariant c.loop-position-test.true
    c.if-byte-eq37.true (sym c.in-Some.ensures.value) c.in-Some.ensures.within.0 c.in-Some.ensures.within.1
    c.in-Some.ensures.ascii c.requires.shown short)

pub loop-position-preserved-in_default-two_digits_of : goal.loop-position-preserved-in_default-two_digits_of
loop-position-preserved-in_default-two_digits_of c =
    let text = conversion_text (shown_of c.args.moment.now) c.in-Some.conversion in
    let more : length c.push_conversion.new.self ≡ length c.loop-position.line + length text =
    ap length c.push_conversion.ensures.text ∙ length-append c.loop-position.line text in
    let short : length text ≤ conversion_width c.in-Some.conversion =
    omega (arith, more, c.push_conversion.ensures.len) in
    rw c.push_conversion.ensures.text (conversion_printed _ _ _ _ _ c.in-Some.spelled c.loop-position.invariant
    c.loop-position-test.true c.if-byte-eq37.true (sym c.in-Some.ensures.value) c.in-Some.ensures.within.0
    c.in-Some.ensures.within.1 c.in-Some.ensures.ascii c.requires.shown short)

pub push-requires : goal.push-requires
push-requires c = byte_fits _ _ _ _ c.loop-position.invariant c.loop-position-test.true c.if-byte-eq37.false

pub loop-position-preserved : goal.loop-position-preserved
loop-position-preserved c =
    rw c.push.ensures.text
    (byte_printed _ _ _ _ c.loop-position.invariant c.loop-position-test.true c.if-byte-eq37.false)

pub returns-clause-text : goal.returns-clause-text
returns-clause-text c =
    (all_printed _ _ _ _ c.loop-position.invariant c.loop-position-test.false).0
    ∙ ap (λ pattern. text_of pattern (shown_of c.args.moment.now)) c.as_bytes-pattern.ensures.value

pub returns-clause-utf8 : goal.returns-clause-utf8
returns-clause-utf8 c = (all_printed _ _ _ _ c.loop-position.invariant c.loop-position-test.false).1
