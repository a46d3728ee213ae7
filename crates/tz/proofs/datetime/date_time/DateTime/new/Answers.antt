-- Checked fields are refused for their instant alone.
use Rattle.tz.proofs.Common.{arith, refl, ◌≡◌, subst, ◌∙◌, ints, inr, sym, ap, to_z-of_z, ℕ, ◌<◌, rules, pos, ℤ, Fields, w64, ◌-ℤ◌, w32, IsValid, ◌≤ℤ◌, negsuc, reading, SFits, fields_of, IsReading, moment_of, of_z, to_z}
use lib.Signed.{mag}
use Rattle.tz.proofs.datetime.date_time.DateTime.new.Goals as goal

module _ (read reading at offset wide : ℤ) (bound : (negsuc 67768100567971199 ≤ℤ read)
    × (read ≤ℤ pos 67767976233532800)) (reading_is : read ≡ reading)
    (small : mag at < 2147483648) (offset_is : at ≡ offset) (wide_is : wide ≡ to_z w32 (of_z w32 at)) where
  instant_fits : SFits w64 (to_z w64 (of_z w64 read) -ℤ to_z w64 (of_z w64 wide))
  instant_fits = omega (arith, ints)

  instant_is : to_z w64 (of_z w64 (to_z w64 (of_z w64 read) -ℤ to_z w64 (of_z w64 wide))) ≡ reading -ℤ offset
  instant_is = omega (arith, ints)

passed : {f : Fields} (year : ℤ) {month month_day hour minute second nanoseconds : ℕ} → SFits w32 year
    → f ≡ fields_of (to_z w32 (of_z w32 year)) month month_day hour minute second nanoseconds
    → f ≡ fields_of year month month_day hour minute second nanoseconds
passed year {month} {month_day} {hour} {minute} {second} {nanoseconds} fits is =
    is ∙ ap (λ y. fields_of y month month_day hour minute second nanoseconds) (to_z-of_z w32 year fits)

pub returns-then-not-is_reading : goal.returns-then-not-is_reading
returns-then-not-is_reading c =
    let same = passed c.args.year c.ranges.year c.new-fields.ensures in
    let valid : IsValid c.new-fields.result = search rules in
    let read = subst (λ (f : Fields). c.reading.result ≡ reading f) same c.reading.ensures.value in
    let instant = instant_is c.reading.result _ c.ut_offset.result _ c.from.result c.reading.ensures.bound read
    c.ut_offset.type_inv c.ut_offset.ensures.value c.from.ensures in
    record {
      value = tt;
      ok = tt;
      instant = tt;
      err =
          inr (
            refl,
            subst IsValid same valid,
            λ reads. c.if-not-is_reading.ensures (subst IsReading (sym instant) reads),
          );
    }

pub returns : goal.returns
returns c =
    let same = passed c.args.year c.ranges.year c.new-fields.ensures in
    let valid : IsValid c.new-fields.result = search rules in
    let read = subst (λ (f : Fields). c.reading.result ≡ reading f) same c.reading.ensures.value in
    let instant = instant_is c.reading.result _ c.ut_offset.result _ c.from.result c.reading.ensures.bound read
    c.ut_offset.type_inv c.ut_offset.ensures.value c.from.ensures in
    let a = c.args in
    let unix_time = reading (fields_of a.year a.month a.month_day a.hour a.minute a.second a.nanoseconds)
    -ℤ a.local_time_type.ut_offset in
    record {
      value = c.of_fields.ensures ∙ ap (moment_of c.new-fields.result c.args.local_time_type) instant
          ∙ ap (λ (f : Fields). moment_of f c.args.local_time_type unix_time) same;
      ok = subst IsValid same valid;
      instant = subst IsReading instant c.if-not-is_reading.ensures;
      err = tt;
    }
