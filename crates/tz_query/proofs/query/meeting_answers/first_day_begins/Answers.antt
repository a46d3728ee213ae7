-- Midnight is a reading of the day less what is over of the day.
use Rattle.tz_query.proofs.Common.{sym, subst, refl, arith, ◌≡◌, ap, ◌∙◌, rules, ℕ, to_z-of_z, w64, ◌+◌, ◌<◌, ℤ, Fields, pos, ints, negsuc, ◌*◌, reading, ◌+ℤ◌, IsUtc, day_of, int_rem_euclid, int_rem_euclid_is, lit<, ◌*ℤ◌}
use Rattle.tz_query.proofs.query.meeting_answers.first_day_begins.Goals as goal
use Rattle.tz_query.proofs.query.meeting_answers.first_day_begins.Goals.{then-first-eq60, else-first-eq60}

remainder : (day : ℤ) (over : ℕ) → over < 86400 → int_rem_euclid (pos 86400 *ℤ day +ℤ pos over) (pos 86400) ≡ pos over
remainder (pos day) over h =
    int_rem_euclid_is (pos 86400 *ℤ pos day +ℤ pos over) (pos 86400) 86400 0 (86400 * day + over) (lit< tt) refl
    (omega (arith, ints)) ∙ ap pos (omega arith)
remainder (negsuc day) over h =
    int_rem_euclid_is (pos 86400 *ℤ negsuc day +ℤ pos over) (pos 86400) 86400 (day + 1) over (lit< tt) refl
    (omega (arith, ints)) ∙ ap pos (omega arith)

-- what is over of the day of fields whose second is not 60
over_of : (d : Fields) (x : ℤ) → IsUtc d → d.second < 60 → x ≡ reading d → (over : ℕ) × (over < 86400)
    × (int_rem_euclid x (pos 86400) ≡ pos over) × (x ≡ pos 86400 *ℤ day_of d +ℤ pos over)
over_of d x utc below is =
    let range = utc.valid.in_range in
    let over = 3600 * d.hour + 60 * d.minute + d.second in
    let less : over < 86400 = omega (arith, range.hour, range.minute) in
    (over, less, subst (λ y. int_rem_euclid y (pos 86400) ≡ pos over) (sym is) (remainder (day_of d) over less), is)

pub returns-in-Ok-clause-ok : goal.returns-in-Ok-clause-ok
returns-in-Ok-clause-ok c =
    let date_time = c.in-Ok.date_time in
    let value = c.in-Ok.ensures.value in
    let utc = subst IsUtc (sym value) c.in-Ok.ensures.ok in
    let last = utc.valid.in_range.second in
    let same : day_of date_time ≡ day_of c.args.first.now = ap day_of value ∙ search rules in
    let second : date_time.second ≡ c.if-first-eq60.second = ap (λ d. d.second) value in
    let below : date_time.second < 60 = elim c.if-first-eq60.branch [
      | then-first-eq60 w ↦ omega (arith, second, w.second-is)
      | else-first-eq60 w ↦ omega (arith, second, last, w.second-is, w.if-first-eq60)
    ] in
    let x = c.unix_time-unix_time.result in
    let over = over_of date_time x utc below c.unix_time-unix_time.ensures in
    let rest = c.rem_euclid.ensures.value ∙ ap (λ y. int_rem_euclid y (pos 86400)) (to_z-of_z w64 x (search rules))
    ∙ over.2 in
    let reads = utc.reads in (
      omega (arith, ints, over, rest, same),
      (
        omega
            (arith, ints, over, rest, reads, c.unix_time-unix_time.ensures),
        omega (arith, ints, over, rest, reads, c.unix_time-unix_time.ensures),
      ),
    )
