-- Fields that stay valid, and show what they showed, with other nanoseconds.
use Rattle.tz_query.proofs.Common.{sym, refl, ◌≡◌, ap, ℕ, ◌<◌, ℤ, Fields, IsCivil, IsValid}

-- fields stay valid with other nanoseconds
pub valid_with : (f : Fields) (n : ℕ) → n < 1000000000 → IsValid f → IsValid (record f { nanoseconds = n })
valid_with f n part valid =
    let in_range = valid.in_range in
    record {
      in_range = record {
        month = in_range.month;
        month_day = in_range.month_day;
        hour = in_range.hour;
        minute = in_range.minute;
        second = in_range.second;
        nanoseconds = part;
      };
      in_month = valid.in_month;
    }

-- the fields that are shown, with the nanoseconds put in
pub civil_with : (x : ℤ) (n : ℕ) (f : Fields) → n < 1000000000 → IsCivil x 0 f
    → IsCivil x n (record f { nanoseconds = n })
civil_with x n f part civil = record {
  valid = valid_with f n part civil.valid;
  below_60 = civil.below_60;
  reads = civil.reads;
  nanoseconds_are = refl;
}

-- fields that have the nanoseconds already
pub same_fields : (f : Fields) (n : ℕ) → f.nanoseconds ≡ n → record f { nanoseconds = n } ≡ f
same_fields f n is = ap (λ (k : ℕ). record f { nanoseconds = k }) (sym is)
