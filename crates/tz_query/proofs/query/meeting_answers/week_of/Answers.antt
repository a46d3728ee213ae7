-- The day's date is that of the week.
use Rattle.tz_query.proofs.Common.{subst, refl, arith, ◌≡◌, rules, to_z-of_z, ℤ, Fields, ints, w32, SFits, IsCivil, Err, IfOk, Result, Some, IsDateOf, IsReading, Ok, midnight, result_ok, day_after, OnOk}
use Rattle.tz_query.proofs.MeetingAnswers.{date_of_day}
use Rattle.tz_query.proofs.query.meeting_answers.week_of.Goals as goal

-- the date time of a day's first second has its date
week : {E : Type 0} (day x : ℤ) (r : Result Fields E) (d : Fields) → Some d ≡ result_ok r → IfOk r (IsCivil x 0)
    → OnOk r (IsReading x) → x ≡ midnight day →
    IsDateOf day d.year d.month d.month_day × IsReading (midnight day)
week day x (Ok y) d value civil reads is =
    let same : y ≡ d = cc in
    (date_of_day day d (subst (λ z. IsCivil z 0 d) is (subst (IsCivil x 0) same civil)), subst IsReading is reads)
week day x (Err e) d value civil reads is = absurd cc

pub returns : goal.returns
returns c =
    let is = week (day_after c.args.first.now c.args.weeks) _ c.from_timespec.result c.in_ok-day.day
    c.in_ok-day.ensures.value c.from_timespec.ensures.ok c.from_timespec.ensures.instant
    (omega (arith, ints, c.requires.day, c.requires.small, c.from.ensures)) in
    let fits : SFits w32 c.year.result = search rules in
    record {
      some = rw (to_z-of_z w32 c.year.result fits, c.year.ensures, c.month.ensures, c.month_day.ensures)
          (record { date = is.0; time = refl });
      inside = is.1;
      none = search rules;
    }
