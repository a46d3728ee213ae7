-- The line ends at the first LF, or where the bytes end.
use Rattle.tz_query.proofs.Common.{sym, subst, arith, ◌+◌, take, IsFirstLine, IsLine, take_rest, take_all}
use Rattle.tz_query.proofs.LineFronts.{first_line_to_end, whole_line}
use Rattle.tz_query.proofs.query.read_query.after_line.Goals as goal

pub returns-then-byte-eq10 : goal.returns-then-byte-eq10
returns-then-byte-eq10 c =
    let bytes = c.args.bytes.now in
    let position = c.loop-position.position in (
      take position bytes,
      subst (IsFirstLine bytes (take position bytes)) (sym (take_rest bytes (position + 1)))
          (first_line_to_end bytes position (omega arith) c.loop-position.invariant (omega arith)),
    )

pub returns : goal.returns
returns c =
    let bytes = c.args.bytes.now in (
      bytes,
      whole_line bytes (subst IsLine (take_all c.loop-position.position bytes (omega arith))
          c.loop-position.invariant),
    )
