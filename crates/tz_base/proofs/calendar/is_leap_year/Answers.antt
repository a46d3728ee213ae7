-- Leap years repeat after 400 years.
use Rattle.std.proofs.Common.{sym, ◌∙◌}
use Rattle.std.proofs.lemmas.Int.{to_z-of_z}
use mir.Syntax.{w32}
use Rattle.tz_base.proofs.YearStarts.{is_leap-moved}
use Rattle.tz_base.proofs.calendar.is_leap_year.Goals as goal

pub returns : goal.returns
returns c =
    c.is_moved_year_leap.ensures ∙ sym (is_leap-moved c.args.year c.moved_year.result 5368710
    (sym (rw (to_z-of_z w32 c.args.year c.ranges.year) at c.moved_year.ensures.value)))
