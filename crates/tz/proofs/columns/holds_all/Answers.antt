-- The instant at the index is in the segment as well.
use Rattle.tz.proofs.Common.{refl, ◌≡◌, arith, rules, inl, inr, to_z-of_z, w64, SFits, pos, slice_index_or, cases_lt}
use Rattle.std.proofs.lemmas.Option.{get_or_from_slice_get, slice_get_within}
use Rattle.tz.proofs.columns.holds_all.Goals as goal

pub loop-unix_time-preserved : goal.loop-unix_time-preserved
loop-unix_time-preserved c i u less has =
    let unix_times = c.args.unix_times.now in
    let index = c.loop-unix_time.unix_time-index in
    elim (cases_lt i index) [
      | inl earlier ↦ c.loop-unix_time.invariant i u earlier has
      | inr later ↦
          let same : i ≡ index = omega (arith, less, later) in
          let read : slice_index_or unix_times index (pos 0) ≡ u =
          get_or_from_slice_get unix_times index u (pos 0) (rw same at has) in
          let fits : SFits w64 (slice_index_or unix_times index (pos 0)) = search rules in
          rw (to_z-of_z w64 (slice_index_or unix_times index (pos 0)) fits, read) at (c.if-not-contains.ensures.0 refl)
    ]

pub returns : goal.returns
returns c _ i u has =
    c.loop-unix_time.invariant i u
    (omega (arith, slice_get_within c.args.unix_times.now i u has, c.loop-unix_time-test.false)) has
