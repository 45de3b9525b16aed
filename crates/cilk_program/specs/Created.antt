-- The cells and reducers that the events of a serial run name exist.
use Rattle.std.specs.Prelude.{◌≡◌, ◌<◌, ◌⊎◌, ℕ, List, [], ◌∷◌}
use Rattle.cilk_types.specs.declared.event.Instance.{Instance}
use Rattle.cilk_types.specs.declared.event.Event.{Event}
use Rattle.cilk_types.specs.declared.event.Event.TheVariants as events

-- the instance is one of these
abbrev pub Among : Instance → List Instance → Type 0
Among i [] = ⊥
Among i (j ∷ js) = (j ≡ i) ⊎ Among i js

-- the effect of an event on reducers: it creates one, it uses one, or it concerns none
pub data Deed : Type 0 where
  Creates : (instance : Instance) → Deed
  Uses : (instance : Instance) → Deed
  Passes : Deed

abbrev pub deed_of : Event → Deed
deed_of (events.Create i) = Creates i
deed_of (events.Update i v) = Uses i
deed_of (events.Set i v) = Uses i
deed_of (events.Value i v) = Uses i
deed_of e = Passes

-- a created reducer is new, and a used one has been created
abbrev pub IsCreated : Deed → List Instance → Type 0
IsCreated (Creates i) made = ¬ (Among i made)
IsCreated (Uses i) made = Among i made
IsCreated Passes made = Unit {0}

-- the reducers created so far
abbrev pub made_by : Deed → List Instance → List Instance
made_by (Creates i) made = i ∷ made
made_by (Uses i) made = made
made_by Passes made = made

-- Given the reducers created so far, each creation is of a new one, and each other event of a
-- reducer follows its creation.
abbrev pub AreCreated : List Instance → List Event → Type 0
AreCreated made [] = Unit {0}
AreCreated made (e ∷ es) = IsCreated (deed_of e) made × AreCreated (made_by (deed_of e) made) es

-- a cell that is read or written is one of the first n
abbrev pub CellIsBelow : ℕ → Event → Type 0
CellIsBelow n (events.Read c v) = c < n
CellIsBelow n (events.Write c v) = c < n
CellIsBelow n e = Unit {0}

abbrev pub CellsAreBelow : ℕ → List Event → Type 0
CellsAreBelow n [] = Unit {0}
CellsAreBelow n (e ∷ es) = CellIsBelow n e × CellsAreBelow n es
