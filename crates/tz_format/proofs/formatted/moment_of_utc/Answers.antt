-- A date time of UTC is valid, and so is its Unix time.
use Rattle.std.proofs.Common.{arith, rules, sym, subst}
use Rattle.std.specs.Prelude.{FitsSigned}
use Rattle.std.proofs.lemmas.Int.{ints}
use mir.Syntax.{w32}
use Rattle.tz_format.specs.DateTimes.{shown_utc}
use Rattle.tz_format.specs.Shown.{IsShown}
use Rattle.tz_format.proofs.formatted.moment_of_utc.Goals as goal

pub returns-clause-value : goal.returns-clause-value
returns-clause-value c = search rules

pub returns-clause-shown : goal.returns-clause-shown
returns-clause-shown c =
    let f = c.args.date_time.now in
    let sound = c.utc_fields_of.ensures.sound in
    let read : FitsSigned w32 c.copied.result.year = search rules in
    let fits : FitsSigned w32 f.year = rw (c.copied.ensures, c.utc_fields_of.ensures.fields) at read in
    let shown : IsShown (shown_utc f) = record {
      valid = sound.valid;
      year_is = omega (arith, ints, fits);
      offset_is = search rules;
      short = search rules;
      ascii = search rules;
      unix_time_is = omega (arith, ints, sound.reads);
    } in
    subst IsShown (sym (returns-clause-value c)) shown
