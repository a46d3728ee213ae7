-- The clock has the type of a date time that is found, which shows its fields.
use Rattle.tz.proofs.Common.{refl, subst, ◌∙◌, sym, ap, ◌<◌, Fields, IsClock, ◌+ℤ◌, IsValid, reading, Normal, IsFoundBy, All-contains, IsCivil}
use Rattle.tz.proofs.laws.found_date_times_are_shown.Goals as goal

pub returns : goal.returns
returns c z f d found valid below is has =
    let (same, (clock, reads)) = All-contains (IsFoundBy (IsClock z) f) found (Normal d) is.sound has in
    let civil : IsCivil (d.unix_time +ℤ d.local_time_type.ut_offset) f.nanoseconds d.fields = record {
      valid = subst IsValid (sym same) valid;
      below_60 = subst (λ (g : Fields). g.second < 60) (sym same) below;
      reads = ap reading same ∙ sym reads;
      nanoseconds_are = ap (λ (g : Fields). g.nanoseconds) same;
    } in
    (d.local_time_type, clock, record { civil = civil; type_is = refl; instant_is = refl })
