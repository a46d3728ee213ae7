-- A date time is valid, and so are its type and its Unix time.
use Rattle.std.proofs.Common.{arith, rules, ◌≡◌, ◌<◌, ◌^◌, ◌∙◌, ap, sym, subst}
use Rattle.std.specs.Prelude.{unsigned_abs, FitsSigned, IfSome}
use Rattle.std.proofs.lemmas.Int.{ints}
use mir.Syntax.{w32}
use Rattle.tz_format.specs.DateTimes.{shown_date_time}
use Rattle.tz_format.specs.Shown.{IsShown}
use Rattle.tz_format.proofs.Designations.{designation_short, designation_ascii}
use Rattle.tz_format.proofs.UnixTimes.{unix_time_short, offset_below}
use Rattle.tz_rule.specs.LocalTimeType.{LocalTimeType, IsOffset, IsDesignation}
use Rattle.tz_format.proofs.formatted.moment_of.Goals as goal

pub returns-clause-value : goal.returns-clause-value
returns-clause-value c = search rules

pub returns-clause-shown : goal.returns-clause-shown
returns-clause-shown c =
    let d = c.args.date_time.now in
    let sound = c.fields_of.ensures.sound in
    let read : FitsSigned w32 c.copied.result.year = search rules in
    let fits : FitsSigned w32 d.fields.year = rw (c.copied.ensures, c.fields_of.ensures.fields) at read in
    let type_is : c.local_time_type-local_time_type.result.now ≡ d.local_time_type =
    c.local_time_type-local_time_type.ensures in
    let name : IfSome d.local_time_type.designation IsDesignation =
    rw type_is at c.type_parts_are_sound.ensures.sound.designation_is in
    let fits_offset : FitsSigned w32 d.local_time_type.ut_offset = search rules in
    let least : IsOffset d.local_time_type.ut_offset =
    subst IsOffset (c.ut_offset.ensures.value ∙ ap (λ (t : LocalTimeType). t.ut_offset) type_is)
    c.ut_offset.ensures.range in
    let offset : unsigned_abs d.local_time_type.ut_offset < 2 ^ 31 = offset_below _ fits_offset least in
    let shown : IsShown (shown_date_time d) = record {
      valid = sound.valid;
      year_is = omega (arith, ints, fits);
      offset_is = offset;
      short = designation_short d.local_time_type.designation name;
      ascii = designation_ascii d.local_time_type.designation name;
      unix_time_is = unix_time_short d.fields d.unix_time d.local_time_type.ut_offset sound.valid fits sound.reads
          (omega (arith, offset));
    } in
    subst IsShown (sym (returns-clause-value c)) shown
