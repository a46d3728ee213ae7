-- Clocks that are set forward have two types, and both sides of a jump are near the fields.
use Rattle.tz.proofs.Common.{arith, ints, subst, sym, ◌∙◌, ap, pos, negsuc, ℤ, ◌-ℤ◌, ◌*◌, ◌+◌, ◌≤ℤ◌, FitsSigned, w32, Fields, IsValid, IsClock, LocalTimeType, reading, Skipped, IsFoundBy, All-contains, day_in_year, first_day_bounds}
use Rattle.tz_zone.specs.ZoneRef.{zone_of}
use Rattle.tz_rule.proofs.UtcYears.{year_fits}
use Rattle.tz.proofs.laws.jumps_are_changes.Goals as goal

-- the reading of valid fields is far from the ends of 64 bits
near_reading : (f : Fields) → IsValid f → FitsSigned w32 f.year → (negsuc 67768100567971199 ≤ℤ reading f)
    × (reading f ≤ℤ pos 67767976233532800)
near_reading f valid fits =
    let bounds = first_day_bounds f.year (year_fits f.year (omega (arith, ints, fits)) (omega (arith, ints, fits))) in
    let r = valid.in_range in
    let in_year = day_in_year f.year f.month f.month_day r.month.0 r.month.1 r.month_day.0 valid.in_month in
    let time = 3600 * f.hour + 60 * f.minute + f.second in
    (omega (arith, ints), omega (arith, ints, r.hour, r.minute, r.second))

pub returns-clause-change : goal.returns-clause-change
returns-clause-change c f before after found valid fits is has =
    let (u, a, b, (clock, clock', over), shows, shows') =
    All-contains (IsFoundBy (IsClock (zone_of c.args.zone.now)) f) found (Skipped before after) is.sound has in
    let near = near_reading f valid fits in
    let offset = c.shown_types_are_sound.ensures.fits (u -ℤ pos 1) a clock in
    let offset' = c.shown_types_are_sound.ensures.fits u b clock' in (
      shows.instant_is ∙ sym shows'.instant_is,
      record {
        not_least = omega (arith, ints, near.0, over.1, offset', shows'.instant_is);
        up_to = omega (arith, ints, near.1, over.0, offset, shows'.instant_is);
        before_is = subst (λ (t : LocalTimeType). IsClock (zone_of c.args.zone.now) (after.unix_time -ℤ pos 1) t)
            (sym shows.type_is)
            (subst (λ (v : ℤ). IsClock (zone_of c.args.zone.now) (v -ℤ pos 1) a) (sym shows'.instant_is) clock);
        after_is = subst (λ (t : LocalTimeType). IsClock (zone_of c.args.zone.now) after.unix_time t)
            (sym shows'.type_is)
            (subst (λ (v : ℤ). IsClock (zone_of c.args.zone.now) v b) (sym shows'.instant_is) clock');
        differ = λ same. omega (
          arith,
          ints,
          over.0,
          over.1,
          ap (λ (t : LocalTimeType). t.ut_offset)
              (sym shows.type_is ∙ same ∙ shows'.type_is),
        );
      },
    )

pub returns-clause-jump : goal.returns-clause-jump
returns-clause-jump c f change before after found is changes over shows shows' =
    is.complete (Skipped before after) (
      change.unix_time,
      change.before,
      change.after,
      (changes.before_is, changes.after_is, over),
      shows,
      shows',
    )
