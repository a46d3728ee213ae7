-- The three pieces make the line.
use Rattle.tz_query.proofs.Common.{arith, ◌≡◌, ap, ◌∙◌, ◌++◌, length, rules, ◌+◌, take, ◌≤◌, ◌-◌, suffix_text}
use Rattle.tz_query.proofs.PageLines.{three_pieces}
use Rattle.tz_query.proofs.query.output.Page.push_rest.Goals as goal

pub returns-clause-text : goal.returns-clause-text
returns-clause-text c =
    let at = c.self.inside.len in
    let page = c.self.inside.bytes in
    let first : at + 16 - at ≡ 16 = omega arith in
    let second : at + 25 - (at + 16) ≡ 9 = omega arith in
    let third : at + 57 - (at + 25) ≡ 32 = omega arith in
    let room : at + 57 ≤ length page = search rules in
    let middle_len : length c.copy_from_slice.new.self ≡ 16 = search rules in
    let nine_len : length c.copy_from_slice-2.new.self ≡ 9 = search rules in
    let suffix_len : length c.copy_from_slice-3.new.self ≡ 32 = search rules in
    let suffix = c.args.suffix.now in
    let written = three_pieces page c.copy_from_slice.new.self c.copy_from_slice-2.new.self
    c.copy_from_slice-3.new.self at suffix.len room middle_len nine_len suffix_len suffix.fits in
    let was = c.args.self.now in
    let end = take suffix.len c.copy_from_slice-3.new.self in
    let end_is : end ≡ suffix_text suffix.local_time_type = ap (take suffix.len) c.copy_from_slice-3.ensures.after
    ∙ suffix.text in
    rw (first, second, third)
    (written
    ∙ ap (λ bytes. bytes ++ (c.copy_from_slice.new.self ++ (c.copy_from_slice-2.new.self ++ end))) c.self.view_is
    ∙ ap (λ bytes. was ++ (bytes ++ (c.copy_from_slice-2.new.self ++ end))) c.copy_from_slice.ensures.after
    ∙ ap (λ bytes. was ++ (c.args.middle.now ++ (bytes ++ end))) c.copy_from_slice-2.ensures.after
    ∙ ap (λ bytes. was ++ (c.args.middle.now ++ (c.args.digits.now ++ bytes))) end_is)
