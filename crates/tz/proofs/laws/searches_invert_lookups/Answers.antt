-- What is found has the fields, and what is shown with the fields is found.
use Rattle.tz.proofs.Common.{subst, sym, Fields, IsClock, Normal, IsFound, IsFoundBy, All-contains}
use Rattle.tz.proofs.laws.searches_invert_lookups.Goals as goal

pub returns : goal.returns
returns c z f d found valid below is = (
  λ has. (
    c.found_date_times_are_shown.ensures z f d found valid below is has,
    (All-contains (IsFoundBy (IsClock z) f) found (Normal d) is.sound has).0,
  ),
  λ shown. c.shown_date_times_are_found.ensures.found z d.unix_time f.nanoseconds d found shown.0
      (subst (λ (g : Fields). IsFound (IsClock z) g found) (sym shown.1) is),
)
