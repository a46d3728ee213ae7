use Rattle.tz_zone.proofs.Common.{◌≡◌, rules, refl, inr, inl, ◌∙◌, ap, to_z, false, of_z, true, FitsSigned, AlternateText, IsAlternateText, TzString, rule_of, IsAlternateInRange, alternate_of, ut_offset_of}
use Rattle.std.specs.Int.{w32}
use Rattle.tz_base.specs.declared.error.TzError.TheVariants.{LocalTimeType as TypeFault, TransitionRule}
use Rattle.tz_zone.proofs.EmptyLists.{none_if_empty, some_unless_empty}
use Rattle.tz_zone.proofs.QuestionMarkExits.{exit}
use Rattle.tz_zone.proofs.TextAnswers.{bad_name, offset_fails, daylight_fails, rules_fail, whole_text, same_rule_of, same_type_of, passed}
use Rattle.tz_zone.proofs.parse.tz_string.read_text.Goals.{After-total_seconds-end_time}
use Rattle.tz_zone.proofs.parse.tz_string.read_text.Goals as goal

pub returns-in_err-std_name : goal.returns-in_err-std_name
returns-in_err-std_name c =
    let fault = c.in_err-std_name.ensures in
    exit _ _ (TzString c.in_err-std_name.field-0.0) _ c.from_residual.ensures.1
    (inl (inl (ap TzString fault.0, fault.1)))

pub returns-in_err-std_offset : goal.returns-in_err-std_offset
returns-in_err-std_offset c =
    let name = c.in_ok-std_name in
    let f = c.in_err-std_offset.field-0.0 in
    exit _ _ (TzString f) _ c.from_residual-in_err-std_offset.ensures.1
    (offset_fails c.args.extended c.args.text.now name.std_name.now name.rest.now f name.ensures
    c.in_err-std_offset.ensures)

pub returns-in_err-dst_name : goal.returns-in_err-dst_name
returns-in_err-dst_name c =
    let name = c.in_ok-std_name in
    let offset = c.in_ok-std_offset in
    let f = c.in_err-dst_name.field-0.0 in
    exit _ _ (TzString f) _ c.from_residual-in_err-dst_name.ensures.1
    (daylight_fails c.args.extended c.args.text.now name.std_name.now name.rest.now offset.std_offset offset.rest.now
    (TzString f) name.ensures offset.ensures.0
    (some_unless_empty offset.rest.now c.if-is_empty.ensures) (c.in_err-dst_name.ensures c.args.extended))

pub returns-in_err-start : goal.returns-in_err-start
returns-in_err-start c =
    let name = c.in_ok-std_name in
    let offset = c.in_ok-std_offset in
    let dst = c.in_ok-dst_name in
    let e = c.in_err-start.field-0.0 in
    exit _ _ e _ c.from_residual-in_err-start.ensures.1
    (daylight_fails c.args.extended c.args.text.now name.std_name.now name.rest.now offset.std_offset offset.rest.now e
    name.ensures offset.ensures.0
    (some_unless_empty offset.rest.now c.if-is_empty.ensures)
    (rules_fail c.args.extended offset.rest.now dst.dst_name.now dst.ensures.0.0 dst.dst_offset dst.switches.now e
    dst.ensures.0.1 dst.ensures.0.2 c.in_err-start.ensures))

pub returns-in_err-std : goal.returns-in_err-std
returns-in_err-std c =
    let name = c.in_ok-std_name in
    let f = c.in_err-std.field-0.0 in
    exit _ _ (TypeFault f) _ c.from_residual-in_err-std.ensures.1
    (inl (bad_name c.args.text.now name.std_name.now name.rest.now f name.ensures c.in_err-std.ensures))

pub returns-in_err-dst : goal.returns-in_err-dst
returns-in_err-dst c =
    let name = c.in_ok-std_name in
    let offset = c.in_ok-std_offset in
    let dst = c.in_ok-dst_name in
    let f = c.in_err-dst.field-0.0 in
    exit _ _ (TypeFault f) _ c.from_residual-in_err-dst.ensures.1
    (daylight_fails c.args.extended c.args.text.now name.std_name.now name.rest.now offset.std_offset offset.rest.now
    (TypeFault f) name.ensures offset.ensures.0
    (some_unless_empty offset.rest.now c.if-is_empty.ensures)
    (inl (bad_name offset.rest.now dst.dst_name.now dst.ensures.0.0 f dst.ensures.0.1 c.in_err-dst.ensures)))

-- what the text says
abbrev text_of : (c : After-total_seconds-end_time) → AlternateText
text_of c =
    let dst = c.in_ok-dst_name in
    record {
      std_name = c.in_ok-std_name.std_name.now;
      std_offset = c.in_ok-std_offset.std_offset;
      dst_name = dst.dst_name.now;
      dst_offset = dst.dst_offset;
      start = c.in_ok-start.start;
      end = c.in_ok-start.end;
    }

says : (c : After-total_seconds-end_time) → IsAlternateText c.args.extended c.args.text.now (text_of c)
    × IsAlternateInRange c.args.extended (text_of c)
says c =
    let name = c.in_ok-std_name in
    let offset = c.in_ok-std_offset in
    let dst = c.in_ok-dst_name in
    let switches = c.in_ok-start in (
      whole_text c.args.extended c.args.text.now (text_of c) name.rest.now offset.rest.now dst.switches.now name.ensures
          offset.ensures.0 dst.ensures.0 switches.ensures.0,
      record {
        std_name_is = c.in_ok-std.ensures.1;
        std_offset_is = offset.ensures.1;
        dst_name_is = c.in_ok-dst.ensures.1;
        dst_offset_is = dst.ensures.1;
        start_is = switches.ensures.1;
        end_is = switches.ensures.2;
      },
    )

same_rule : (c : After-total_seconds-end_time)
    → alternate_of c.in_ok-std.std c.in_ok-dst.dst c.in_ok-start.start.day
    (to_z w32 (of_z w32 c.total_seconds-start_time.result)) c.in_ok-start.end.day
    (to_z w32 (of_z w32 c.total_seconds-end_time.result)) ≡ rule_of (text_of c)
same_rule c =
    same_rule_of (text_of c) c.in_ok-std.std c.in_ok-dst.dst _ _
    (same_type_of c.in_ok-std.std _ _ false c.in_ok-std_name.std_name.now c.in_ok-std.ensures.0
    (passed c.ut_offset-2.result _ (search rules) c.ut_offset-2.ensures.value))
    (same_type_of c.in_ok-dst.dst _ _ true c.in_ok-dst_name.dst_name.now c.in_ok-dst.ensures.0
    (passed c.daylight_ut_offset.result _ (search rules) c.daylight_ut_offset.ensures.value))
    (passed c.total_seconds-start_time.result _ (search rules) c.total_seconds-start_time.ensures)
    (passed c.total_seconds-end_time.result _ (search rules) c.total_seconds-end_time.ensures)

pub returns-in_err-rule : goal.returns-in_err-rule
returns-in_err-rule c =
    let read = (goal.at.returns-in_err-rule c).After-total_seconds-end_time in
    let f = c.in_err-rule.field-0.0 in
    let (text, range) = says read in
    exit _ _ (TransitionRule f) _ c.from_residual-in_err-rule.ensures.1
    (inr (inr (text_of read, text, range, f, refl, rw (same_rule read) at c.in_err-rule.ensures.err)))

pub returns : goal.returns
returns c =
    let read = (goal.at.returns c).After-total_seconds-end_time in
    let (text, range) = says read in (
      text_of read,
      text,
      range,
      rw (same_rule read) at c.in_ok-rule.ensures.ok,
      c.in_ok-rule.ensures.value
          ∙ same_rule read,
    )

pub returns-in_err-fixed : goal.returns-in_err-fixed
returns-in_err-fixed c =
    let name = c.in_ok-std_name in
    let f = c.in_err-fixed.field-0.0 in
    exit _ _ (TypeFault f) _ c.from_residual-in_err-fixed.ensures.1
    (inl (bad_name c.args.text.now name.std_name.now name.rest.now f name.ensures c.in_err-fixed.ensures))

pub returns-then-is_empty : goal.returns-then-is_empty
returns-then-is_empty c =
    let name = c.in_ok-std_name in
    let offset = c.in_ok-std_offset in
    let fits : FitsSigned w32 c.ut_offset.result = search rules in (
      name.std_name.now,
      offset.std_offset,
      record {
        after_name = name.rest.now;
        name_is = name.ensures;
        offset_is =
            rw (none_if_empty offset.rest.now c.if-is_empty.ensures) at offset.ensures.0;
      },
      c.in_ok-fixed.ensures.1,
      offset.ensures.1,
      same_type_of c.in_ok-fixed.fixed _ (ut_offset_of offset.std_offset) false name.std_name.now
          c.in_ok-fixed.ensures.0 (passed c.ut_offset.result _ fits c.ut_offset.ensures.value),
    )
