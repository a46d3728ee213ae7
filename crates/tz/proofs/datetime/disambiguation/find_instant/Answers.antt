-- What is meant is the instant of the entry that is meant, or one beside a jump, at which the clock is looked up.
use Rattle.tz.proofs.Common.{arith, ints, ◌≡◌, ◌∙◌, subst, sym, ap, to_z-of_z, rules, w64, ℤ, Some, Option, zone_of_data, Shown, Jump, entry_of, option_map, instant_between}
use Rattle.tz.specs.EntryEnds.{entry_meant}
use Rattle.tz.specs.InstantColumns.{IsInstantOfReading}
use Rattle.tz.specs.declared.datetime.entry_ends.Entry.{Entry as BorrowedEntry}
use Rattle.tz.proofs.ReadingInstants.{fault_beside, means_beside, means_none, means_shown, refuses}
use Rattle.tz.proofs.datetime.disambiguation.find_instant.Goals as goal

pub returns-in-Ok-None-clause-err : goal.returns-in-Ok-None-clause-err
returns-in-Ok-None-clause-err c =
    let r = c.args.reading in
    let has = rw (to_z-of_z w64 r c.ranges.reading) at c.in-Ok-None.ensures.ok in
    means_none (zone_of_data c.args.zone.now) c.args.disambiguation r c.requires
    (has.0, has.1, has.2, sym has.3 ∙ ap (λ (e : Option BorrowedEntry). option_map entry_of e) c.in-Ok-None.field-0-is)

pub returns-in-Ok-Some-Shown-clause-ok : goal.returns-in-Ok-Some-Shown-clause-ok
returns-in-Ok-Some-Shown-clause-ok c =
    let z = zone_of_data c.args.zone.now in
    let r = c.args.reading in
    let has = rw (to_z-of_z w64 r c.ranges.reading) at c.in-Ok-Some-Shown.ensures.ok in
    let u = c.in-Ok-Some-Shown.unix_time in
    let t = c.in-Ok-Some-Shown.field-0-0-1 in
    let is : entry_meant c.args.disambiguation has.0 ≡ Some (Shown u t.now) =
    sym has.3 ∙ ap (λ (e : Option BorrowedEntry). option_map entry_of e)
    (c.in-Ok-Some-Shown.field-0-is ∙ ap (λ (e : BorrowedEntry). Some e) c.in-Ok-Some-Shown.field-0-0-is) in
    subst (λ (v : ℤ). IsInstantOfReading z c.args.disambiguation r v)
    (omega (arith, ints, to_z-of_z w64 u (search rules)))
    (means_shown z c.args.disambiguation r c.requires u t.now (has.0, has.1, has.2, is))

pub returns-in-Ok-clause-ok : goal.returns-in-Ok-clause-ok
returns-in-Ok-clause-ok c =
    let z = zone_of_data c.args.zone.now in
    let choice = c.args.disambiguation in
    let r = c.args.reading in
    let reading_is = to_z-of_z w64 r c.ranges.reading in
    let has = rw reading_is at c.in-Ok-Some-Jump.ensures.ok in
    let u = c.in-Ok-Some-Jump.field-0-0-0 in
    let a = c.in-Ok-Some-Jump.before in
    let b = c.in-Ok-Some-Jump.after in
    let is : entry_meant choice has.0 ≡ Some (Jump u a.now b.now) =
    sym has.3 ∙ ap (λ (e : Option BorrowedEntry). option_map entry_of e)
    (c.in-Ok-Some-Jump.field-0-is ∙ ap (λ (e : BorrowedEntry). Some e) c.in-Ok-Some-Jump.field-0-0-is) in
    let v = c.lookup_instant-unix_time.result in
    let v_is = to_z-of_z w64 v (search rules) in
    let beside : v ≡ instant_between choice r a.now b.now = rw reading_is at c.lookup_instant-unix_time.ensures in
    let shows = rw v_is at c.in-Ok.ensures.ok in
    subst (λ (w : ℤ). IsInstantOfReading z choice r w) (omega (arith, ints, v_is))
    (means_beside z choice r c.requires u a.now b.now (has.0, has.1, has.2, is) v beside c.in-Ok.field-0 shows)

pub returns-in-Err-shown_apart-clause-err : goal.returns-in-Err-shown_apart-clause-err
returns-in-Err-shown_apart-clause-err c =
    let z = zone_of_data c.args.zone.now in
    let choice = c.args.disambiguation in
    let r = c.args.reading in
    let reading_is = to_z-of_z w64 r c.ranges.reading in
    let has = rw reading_is at c.in-Ok-Some-Jump.ensures.ok in
    let u = c.in-Ok-Some-Jump.field-0-0-0 in
    let a = c.in-Ok-Some-Jump.before in
    let b = c.in-Ok-Some-Jump.after in
    let is : entry_meant choice has.0 ≡ Some (Jump u a.now b.now) =
    sym has.3 ∙ ap (λ (e : Option BorrowedEntry). option_map entry_of e)
    (c.in-Ok-Some-Jump.field-0-is ∙ ap (λ (e : BorrowedEntry). Some e) c.in-Ok-Some-Jump.field-0-0-is) in
    let v = c.lookup_instant-unix_time.result in
    let beside : v ≡ instant_between choice r a.now b.now = rw reading_is at c.lookup_instant-unix_time.ensures in
    let fault = rw (to_z-of_z w64 v (search rules)) at c.in-Err-shown_apart.ensures.err in
    fault_beside z choice r c.requires u a.now b.now (has.0, has.1, has.2, is) v beside c.in-Err-shown_apart.error fault

pub returns-in-Err-clause-err : goal.returns-in-Err-clause-err
returns-in-Err-clause-err c =
    let r = c.args.reading in
    refuses (zone_of_data c.args.zone.now) c.args.disambiguation r c.requires c.in-Err.error
    (rw (to_z-of_z w64 r c.ranges.reading) at c.in-Err.ensures.err)
