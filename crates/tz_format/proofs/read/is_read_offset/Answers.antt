-- Whole minutes leave nothing.
use Rattle.std.proofs.Common.{arith, ◌≡◌, ◌∙◌, ap, w32}
use Rattle.std.proofs.lemmas.Int.{to_z-of_z}
use Rattle.std.specs.Prelude.{unsigned_abs}
use Rattle.tz_format.proofs.Moments.{offset_cases}
use Rattle.tz_format.proofs.read.is_read_offset.Goals as goal

pub returns-then-size-lt360000 : goal.returns-then-size-lt360000
returns-then-size-lt360000 c =
    let size : c.unsigned_abs-size.result ≡ unsigned_abs c.args.ut_offset =
    c.unsigned_abs-size.ensures.value ∙ ap unsigned_abs (to_z-of_z w32 c.args.ut_offset c.ranges.ut_offset) in
    rw size (offset_cases (unsigned_abs c.args.ut_offset) (omega (arith, size, c.if-size-lt360000.true)))
