-- A part that is out of range is that of no date time.
use Rattle.std.proofs.Common.{arith, rules, lit<, ◌∙◌, ap, sym, subst, pos, get_or, ◌/◌, ◌%◌, to_z, of_z, w32}
use Rattle.std.specs.Prelude.{unsigned_abs}
use Rattle.std.proofs.lemmas.Int.{to_z-of_z}
use Rattle.tz.specs.DateTimes.{IsUtcFault}
use Rattle.tz_base.specs.declared.fields.Fields.{Fields}
use Rattle.tz_base.specs.Fields.{IsValid}
use Rattle.tz_format.specs.Readings.{value, AreParts}
use Rattle.tz_format.proofs.Moments.{none_of, plain_with, parts_with, shown_with, fields_once, no_fault}
use Rattle.tz_format.proofs.read.moment_with.Goals as goal

pub returns-then-not-is_read_offset-clause-none : goal.returns-then-not-is_read_offset-clause-none
unfolding value
returns-then-not-is_read_offset-clause-none c = λ s plain parts.
    let value_is = to_z-of_z w32 (get_or c.args.values.now 10 (pos 0)) (search rules) in
    c.if-not-is_read_offset.ensures plain.offset.0 plain.offset.1
    (ap unsigned_abs (value_is ∙ parts 10 (lit< tt)) ∙ plain.offset.2)

pub returns-in_err-number_below-clause-none : goal.returns-in_err-number_below-clause-none
unfolding value
returns-in_err-number_below-clause-none c = none_of _ c.args.values.now (λ s plain parts.
    let value_is = to_z-of_z w32 (get_or c.args.values.now 0 (pos 0)) (search rules) in
    c.in_err-number_below.ensures.none plain.year.0 plain.year.1 (value_is ∙ parts 0 (lit< tt) ∙ plain.year.2))

pub returns-in_err-month-clause-none : goal.returns-in_err-month-clause-none
unfolding value
returns-in_err-month-clause-none c = none_of _ c.args.values.now (λ s plain parts.
    let value_is = to_z-of_z w32 (get_or c.args.values.now 1 (pos 0)) (search rules) in
    c.in_err-month.ensures.none s.fields.month (omega (arith, plain.shown.valid.in_range.month.1))
    (value_is ∙ parts 1 (lit< tt)))

pub returns-in_err-month_day-clause-none : goal.returns-in_err-month_day-clause-none
unfolding value
returns-in_err-month_day-clause-none c = none_of _ c.args.values.now (λ s plain parts.
    let value_is = to_z-of_z w32 (get_or c.args.values.now 2 (pos 0)) (search rules) in
    c.in_err-month_day.ensures.none s.fields.month_day (omega (arith, plain.shown.valid.in_range.month_day.1))
    (value_is ∙ parts 2 (lit< tt)))

pub returns-in_err-half-clause-none : goal.returns-in_err-half-clause-none
unfolding value
returns-in_err-half-clause-none c = none_of _ c.args.values.now (λ s plain parts.
    let value_is = to_z-of_z w32 (get_or c.args.values.now 3 (pos 0)) (search rules) in
    c.in_err-half.ensures.none (s.fields.hour / 12)
    (omega (arith, plain.shown.valid.in_range.hour)) (value_is ∙ parts 3 (lit< tt)))

pub returns-in_err-half_day_hour-clause-none : goal.returns-in_err-half_day_hour-clause-none
unfolding value
returns-in_err-half_day_hour-clause-none c = none_of _ c.args.values.now (λ s plain parts.
    let value_is = to_z-of_z w32 (get_or c.args.values.now 4 (pos 0)) (search rules) in
    c.in_err-half_day_hour.ensures.none (s.fields.hour % 12)
    (omega (arith, plain.shown.valid.in_range.hour)) (value_is ∙ parts 4 (lit< tt)))

pub returns-in_err-minute-clause-none : goal.returns-in_err-minute-clause-none
unfolding value
returns-in_err-minute-clause-none c = none_of _ c.args.values.now (λ s plain parts.
    let value_is = to_z-of_z w32 (get_or c.args.values.now 5 (pos 0)) (search rules) in
    c.in_err-minute.ensures.none (s.fields.minute)
    (omega (arith, plain.shown.valid.in_range.minute)) (value_is ∙ parts 5 (lit< tt)))

pub returns-in_err-second-clause-none : goal.returns-in_err-second-clause-none
unfolding value
returns-in_err-second-clause-none c = none_of _ c.args.values.now (λ s plain parts.
    let value_is = to_z-of_z w32 (get_or c.args.values.now 6 (pos 0)) (search rules) in
    c.in_err-second.ensures.none (s.fields.second)
    (omega (arith, plain.shown.valid.in_range.second)) (value_is ∙ parts 6 (lit< tt)))

pub returns-in_err-milliseconds-clause-none : goal.returns-in_err-milliseconds-clause-none
unfolding value
returns-in_err-milliseconds-clause-none c = none_of _ c.args.values.now (λ s plain parts.
    let value_is = to_z-of_z w32 (get_or c.args.values.now 7 (pos 0)) (search rules) in
    c.in_err-milliseconds.ensures.none (s.fields.nanoseconds / 1000000)
    (omega (arith, plain.shown.valid.in_range.nanoseconds)) (value_is ∙ parts 7 (lit< tt)))

pub returns-in_err-microseconds-clause-none : goal.returns-in_err-microseconds-clause-none
unfolding value
returns-in_err-microseconds-clause-none c = none_of _ c.args.values.now (λ s plain parts.
    let value_is = to_z-of_z w32 (get_or c.args.values.now 8 (pos 0)) (search rules) in
    c.in_err-microseconds.ensures.none (s.fields.nanoseconds / 1000 % 1000)
    (omega (arith, plain.shown.valid.in_range.nanoseconds)) (value_is ∙ parts 8 (lit< tt)))

pub returns-in_err-nanoseconds-clause-none : goal.returns-in_err-nanoseconds-clause-none
unfolding value
returns-in_err-nanoseconds-clause-none c = none_of _ c.args.values.now (λ s plain parts.
    let value_is = to_z-of_z w32 (get_or c.args.values.now 9 (pos 0)) (search rules) in
    c.in_err-nanoseconds.ensures.none (s.fields.nanoseconds % 1000)
    (omega (arith, plain.shown.valid.in_range.nanoseconds)) (value_is ∙ parts 9 (lit< tt)))

pub returns-in-Ok-clause-some : goal.returns-in-Ok-clause-some
returns-in-Ok-clause-some c =
    let values = c.args.values.now in
    let f = c.new-fields.result in
    let o = to_z w32 (of_z w32 (get_or values 10 (pos 0))) in
    let is = c.new-fields.ensures in
    let half = c.in_ok-half.half in
    let in_half = c.in_ok-half_day_hour.half_day_hour in
    let millis = c.in_ok-milliseconds.milliseconds in
    let micros = c.in_ok-microseconds.microseconds in
    let nanos = c.in_ok-nanoseconds.nanoseconds in
    let of_parts : AreParts values (shown_with f o) =
    parts_with values f o half in_half millis micros nanos
    (sym (to_z-of_z w32 (get_or values 0 (pos 0)) (search rules)) ∙ sym (ap (λ (g : Fields). g.year) is))
    (sym (to_z-of_z w32 (get_or values 1 (pos 0)) (search rules)) ∙ c.in_ok-month.ensures.some
    ∙ ap pos (sym (ap (λ (g : Fields). g.month) is)))
    (sym (to_z-of_z w32 (get_or values 2 (pos 0)) (search rules)) ∙ c.in_ok-month_day.ensures.some
    ∙ ap pos (sym (ap (λ (g : Fields). g.month_day) is)))
    (sym (to_z-of_z w32 (get_or values 3 (pos 0)) (search rules)) ∙ c.in_ok-half.ensures.some.0)
    (sym (to_z-of_z w32 (get_or values 4 (pos 0)) (search rules)) ∙ c.in_ok-half_day_hour.ensures.some.0)
    c.in_ok-half_day_hour.ensures.some.1 (ap (λ (g : Fields). g.hour) is)
    (sym (to_z-of_z w32 (get_or values 5 (pos 0)) (search rules)) ∙ c.in_ok-minute.ensures.some
    ∙ ap pos (sym (ap (λ (g : Fields). g.minute) is)))
    (sym (to_z-of_z w32 (get_or values 6 (pos 0)) (search rules)) ∙ c.in_ok-second.ensures.some
    ∙ ap pos (sym (ap (λ (g : Fields). g.second) is)))
    (sym (to_z-of_z w32 (get_or values 7 (pos 0)) (search rules)) ∙ c.in_ok-milliseconds.ensures.some.0)
    (sym (to_z-of_z w32 (get_or values 8 (pos 0)) (search rules)) ∙ c.in_ok-microseconds.ensures.some.0)
    c.in_ok-microseconds.ensures.some.1
    (sym (to_z-of_z w32 (get_or values 9 (pos 0)) (search rules)) ∙ c.in_ok-nanoseconds.ensures.some.0)
    c.in_ok-nanoseconds.ensures.some.1 (ap (λ (g : Fields). g.nanoseconds) is)
    (sym (to_z-of_z w32 (get_or values 10 (pos 0)) (search rules))) in
    let year = ap (λ (g : Fields). g.year) is ∙ c.in_ok-number_below.ensures.some.0 in
    let (m, below, offset) = c.if-not-is_read_offset.ensures in (
      plain_with f o c.in_ok-number_below.field-0 m (subst IsValid (sym is) c.in-Ok.ensures.ok.valid) year
          c.in_ok-number_below.ensures.some.1 below offset,
      of_parts,
      c.in-Ok.ensures.value ∙ sym is,
    )

pub returns-in-Err-clause-none : goal.returns-in-Err-clause-none
returns-in-Err-clause-none c = λ s plain parts.
    let values = c.args.values.now in
    let f = c.new-fields.result in
    let o = to_z w32 (of_z w32 (get_or values 10 (pos 0))) in
    let is = c.new-fields.ensures in
    let half = c.in_ok-half.half in
    let in_half = c.in_ok-half_day_hour.half_day_hour in
    let millis = c.in_ok-milliseconds.milliseconds in
    let micros = c.in_ok-microseconds.microseconds in
    let nanos = c.in_ok-nanoseconds.nanoseconds in
    let of_parts : AreParts values (shown_with f o) =
    parts_with values f o half in_half millis micros nanos
    (sym (to_z-of_z w32 (get_or values 0 (pos 0)) (search rules)) ∙ sym (ap (λ (g : Fields). g.year) is))
    (sym (to_z-of_z w32 (get_or values 1 (pos 0)) (search rules)) ∙ c.in_ok-month.ensures.some
    ∙ ap pos (sym (ap (λ (g : Fields). g.month) is)))
    (sym (to_z-of_z w32 (get_or values 2 (pos 0)) (search rules)) ∙ c.in_ok-month_day.ensures.some
    ∙ ap pos (sym (ap (λ (g : Fields). g.month_day) is)))
    (sym (to_z-of_z w32 (get_or values 3 (pos 0)) (search rules)) ∙ c.in_ok-half.ensures.some.0)
    (sym (to_z-of_z w32 (get_or values 4 (pos 0)) (search rules)) ∙ c.in_ok-half_day_hour.ensures.some.0)
    c.in_ok-half_day_hour.ensures.some.1 (ap (λ (g : Fields). g.hour) is)
    (sym (to_z-of_z w32 (get_or values 5 (pos 0)) (search rules)) ∙ c.in_ok-minute.ensures.some
    ∙ ap pos (sym (ap (λ (g : Fields). g.minute) is)))
    (sym (to_z-of_z w32 (get_or values 6 (pos 0)) (search rules)) ∙ c.in_ok-second.ensures.some
    ∙ ap pos (sym (ap (λ (g : Fields). g.second) is)))
    (sym (to_z-of_z w32 (get_or values 7 (pos 0)) (search rules)) ∙ c.in_ok-milliseconds.ensures.some.0)
    (sym (to_z-of_z w32 (get_or values 8 (pos 0)) (search rules)) ∙ c.in_ok-microseconds.ensures.some.0)
    c.in_ok-microseconds.ensures.some.1
    (sym (to_z-of_z w32 (get_or values 9 (pos 0)) (search rules)) ∙ c.in_ok-nanoseconds.ensures.some.0)
    c.in_ok-nanoseconds.ensures.some.1 (ap (λ (g : Fields). g.nanoseconds) is)
    (sym (to_z-of_z w32 (get_or values 10 (pos 0)) (search rules))) in
    let (y, y_below, year) = plain.year in
    let same = fields_once (shown_with f o) s (λ k below. sym (of_parts k below) ∙ parts k below) in
    no_fault f s.fields c.in-Err.field-0 y same plain.shown.valid year y_below
    (subst (λ g. IsUtcFault g c.in-Err.field-0) (sym is) c.in-Err.ensures.err)
