-- The last instant is the one before the end of the segment.
use Rattle.tz_rule.proofs.Common.{arith, ◌≡◌, ints, pos, ◌+ℤ◌, to_z-of_z, ◌-ℤ◌, ◌<ℤ◌, rules, w64, of_z, to_z}
use Rattle.tz_rule.proofs.timezone.alternate_time.AlternateData.rule_segment.Goals as goal

pub returns : goal.returns
returns c =
    let s = c.args.segment in
    let within = c.requires.within in
    let from = to_z-of_z w64 s.from (search rules) in
    let until = to_z-of_z w64 s.until (search rules) in
    let last : to_z w64 (of_z w64 (to_z w64 (of_z w64 s.until) -ℤ pos 1)) ≡ s.until -ℤ pos 1 =
    omega (arith, ints, until, within.1) in
    let past : s.until -ℤ pos 1 +ℤ pos 1 ≡ s.until = omega (arith, ints) in
    let some : s.from <ℤ s.until = omega (arith, ints, within.0, within.1) in
    record {
      within = (omega (arith, ints, from, within.0), omega (arith, ints, last, within.1));
      holds = λ v low high. rw c.type_by.ensures (c.requires.of.one_type v (omega (arith, ints, from, low))
          (omega (arith, ints, last, high)));
      from_is = λ _. rw from (c.requires.of.from_is some);
      last_is = λ _. rw (last, past) (c.requires.of.until_is some);
    }
