-- The parameters of `find_n` and `find_n_counted`, for their proofs by hand: what is left of each, how the machine
-- stores it, and that it is of its type.
use Rattle.tz.proofs.Common.{refl, [], ◌∷◌, List, Logic, Ura, SliceRefMutOf, i32, mut_slice_Lawful, mut_slice_Tells, mut_slice_vals, named, u32, u8, w8}
use Rattle.std.proofs.Common.{w32}
use contract.Lifetimes.{Lfts}
use denote.Exit.{yes, no}
use denote.Laws.{Ises, Spells, Tellss, Lawfuls}
use denote.Plain.{uint_vals, uint_Tells, uint_Lawful}
use denote.Signature.{Slot, plain, named_lft, types_at}
use denote.Signed.{sint_vals, sint_Tells, sint_Lawful}
use denote.Triple.End.{Kepts}
use denote.Triple.Walked.{Stays, AllGo, Goes, Silent, stay_dropped, Goes-dropped, Goes-spent_slice}
use Rattle.tz_zone.specs.contracts.timezone.zone_ref.TimeZoneRef as zone
use Rattle.tz_zone.proofs.timezone.zone_ref.TimeZoneRef.TheLaws as zone_laws
use Rattle.tz.specs.BorrowedSlots.{slot_row}

abbrev borrowed_slots : Slot 2
borrowed_slots = SliceRefMutOf (0 ∷ []) tt (plain (λ _. slot_row)) (λ _. tt)

abbrev year : Slot 2
year = plain (λ _. i32)

abbrev byte : Slot 2
byte = plain (λ _. u8)

abbrev nanoseconds : Slot 2
nanoseconds = plain (λ _. u32)

abbrev zone_slot : Slot 2
zone_slot = plain (λ κs. zone.the_row (named_lft 2 1 tt κs))

abbrev pub params : List (Slot 2)
params = borrowed_slots ∷ year ∷ byte ∷ byte ∷ byte ∷ byte ∷ byte ∷ nanoseconds ∷ zone_slot ∷ []

abbrev kept : Kepts params
kept = (no, (yes, (yes, (yes, (yes, (yes, (yes, (yes, (yes, tt)))))))))

-- nothing is left of them: the slots are passed on, and the rest is not needed
abbrev pub stayed : Stays params kept
stayed =
    let b = stay_dropped byte yes in let y = stay_dropped year yes in let n = stay_dropped nanoseconds yes in
    (stay_dropped borrowed_slots no, (y, (b, (b, (b, (b, (b, (n, (stay_dropped zone_slot yes, tt)))))))))

-- each has one machine value, which its value determines
abbrev pub spelled : (κs : Lfts 2) → Spells (types_at params κs)
spelled κs =
    let b = uint_vals w8 in
    let lowered = zone_laws.lowered (named_lft 2 1 tt κs) in
    (mut_slice_vals, (sint_vals w32, (b, (b, (b, (b, (b, (uint_vals w32, ((λ x. lowered x ∷ []), tt)))))))))

pub spelled_tells : (κs : Lfts 2) → Tellss (types_at params κs) (Ises (types_at params κs)) (spelled κs)
spelled_tells κs =
    let s = mut_slice_Tells (named 0) κs.0 slot_row in let b = uint_Tells w8 in
    let z = (zone_laws.lowers (named_lft 2 1 tt κs)).val_is in
    (s, (sint_Tells w32, (b, (b, (b, (b, (b, (uint_Tells w32, (z, tt)))))))))

module _ {M : Type 1} {𝓤 : Ura M} (𝓛 : Logic 𝓤) where
  dropped : (s : Slot 2) → Silent 𝓛 2 s yes → Goes 𝓛 2 s yes (stay_dropped s yes)
  dropped s silent = Goes-dropped 𝓛 2 s yes silent

  pub gone : AllGo 𝓛 2 params kept stayed
  gone =
      let s = Goes-spent_slice 𝓛 2 (0 ∷ []) tt (plain (λ _. slot_row)) in
      let y = dropped year (λ κs x w. refl) in
      let b = dropped byte (λ κs x w. refl) in
      let n = dropped nanoseconds (λ κs x w. refl) in
      let z = dropped zone_slot (λ κs x w. refl) in
      (s, (y, (b, (b, (b, (b, (b, (n, (z, tt)))))))))

  pub lawful : (κs : Lfts 2) → Lawfuls 𝓛 (types_at params κs)
  lawful κs =
      let s = mut_slice_Lawful 𝓛 (named 0) κs.0 slot_row in let b = uint_Lawful 𝓛 w8 in
      let z = (zone_laws.the_row_laws (named_lft 2 1 tt κs)).lawful 𝓛 in
      (s, (sint_Lawful 𝓛 w32, (b, (b, (b, (b, (b, (uint_Lawful 𝓛 w32, (z, tt)))))))))
