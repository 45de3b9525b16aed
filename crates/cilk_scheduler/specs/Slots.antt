-- The slots of a worker's offers, and the tally of those that are open.
use Rattle.std.specs.Prelude.{◌≡◌, ◌++◌, ℕ, cond, true, List, [], ◌∷◌, length, take, map, replicate, slice_get, Some}
use Rattle.cilk_scheduler.specs.declared.offer_list.Slot.{Slot}

-- the frames of the open offers
abbrev pub standing : List Slot → List ℕ
standing [] = []
standing (s ∷ slots) = cond s.stands (s.frame ∷ standing slots) (standing slots)

abbrev pub counted : Slot → ℕ
counted s = cond s.stands 1 0

-- a tally has 1 for each slot whose offer is open, and 0 for each other number
pub record IsTallied (slots : List Slot) (tally : List ℕ) : Type 0 where
  pub spare : ℕ
  pub is : tally ≡ map counted slots ++ replicate {A = ℕ} spare 0

-- an open offer of this frame is in this slot
abbrev pub StandsIn : List Slot → ℕ → ℕ → Type 0
StandsIn slots at frame = (s : Slot) × (slice_get slots at ≡ Some s) × (s.stands ≡ true) × (s.frame ≡ frame)

-- the number of open offers before a slot
abbrev pub ahead : List Slot → ℕ → ℕ
ahead slots at = length (standing (take at slots))
