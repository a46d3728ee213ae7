-- The three fields of the record make its type, or one of them is the fault.
use Rattle.tz_zone.proofs.Common.{◌≡◌, to_z-of_z, rules, refl, subst, to_z, of_z, w32, block_view, IsLocalTimeType, option_copied, type_at, type_of}
use Rattle.tz_zone.proofs.parse.tz_file.read_type.Goals as goal

pub returns-clause-ok : goal.returns-clause-ok
unfolding type_at
returns-clause-ok c =
    let offset = c.signed_at-ut_offset.result in
    let same : type_of (to_z w32 (of_z w32 offset)) c.in_ok-is_dst.is_dst (option_copied c.non_empty.result)
    ≡ type_at (block_view c.args.unit.now.block) c.args.index =
    rw (
      to_z-of_z w32 offset (search rules),
      c.signed_at-ut_offset.ensures,
      c.in_ok-is_dst.ensures.ok.0,
      c.non_empty.ensures,
      c.in-Some.ensures.1,
      c.from.ensures,
    ) refl in
    record {
      daylight = c.in_ok-is_dst.ensures.ok.1;
      name = rw c.from.ensures at c.in-Some.ensures.0;
      type = subst IsLocalTimeType same c.in_ok-local_time_type.ensures.ok;
    }
