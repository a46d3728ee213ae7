-- Slots of a caller: how many entries were found, and the slots if those from a number on were
-- written.
use Rattle.std.specs.Prelude.{◌≡◌, List, [], ◌∷◌, ◌++◌, length, map, drop}
use Rattle.std.proofs.Common.{refl, ◌∙◌}
use Rattle.tz.specs.Growth.{HoldsMore, holds_more, holds_none}
use Rattle.tz.specs.declared.datetime.found.FoundDateTimeKind.{FoundDateTimeKind}
use Rattle.tz.specs.declared.datetime.slots.SlotWriter.{SlotWriter}

-- slots into which a list is put: its front, as far as the slots go, and then the other slots as
-- they were
abbrev pub placed : {A : Type 0} → List A → List A → List A
placed [] xs = []
placed (slot ∷ slots) [] = slot ∷ slots
placed (slot ∷ slots) (x ∷ xs) = x ∷ placed slots xs

module _ {S : Type 0} (holding : FoundDateTimeKind → S) where
  -- the writer counts the list, and its entries from a number on are in the slots, which were these
  -- before
  abbrev pub IsHolding : SlotWriter S → List S → List FoundDateTimeKind → Type 0
  IsHolding list slots found = (list.count ≡ length found)
      × (list.slots.now ≡ placed slots (map holding (drop list.skip found)))

  -- whatever the slots held, they now hold that list with more at its end
  abbrev pub GrowsBy : SlotWriter S → SlotWriter S → List FoundDateTimeKind → Type 0
  GrowsBy list grown found =
      (grown.slots.ghost_name ≡ list.slots.ghost_name) × (grown.skip ≡ list.skip)
      × ((slots : List S) → HoldsMore (λ writer held. IsHolding writer slots held) list grown found)

  pub grows_by_none : (list : SlotWriter S) → GrowsBy list list []
  grows_by_none list = (
    refl,
    refl,
    λ slots. holds_none (λ writer held. IsHolding writer slots held) list,
  )

  pub grows_by_more : (list middle grown : SlotWriter S) (es fs : List FoundDateTimeKind)
      → GrowsBy list middle es → GrowsBy middle grown fs → GrowsBy list grown (es ++ fs)
  grows_by_more list middle grown es fs (same, skip, first) (same', skip', second) = (
    same' ∙ same,
    skip' ∙ skip,
    λ slots. holds_more (λ writer held. IsHolding writer slots held)
        list middle grown es fs (first slots) (second slots),
  )
