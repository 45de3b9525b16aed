-- The histories of a join box: continuations are stolen and pieces arrive, in any allowed order.
use Rattle.std.specs.Prelude.{◌≡◌, ◌≤◌, ◌⊎◌, ◌↔◌, ℕ, true, List, [], ◌∷◌, Option, Some, None}
use Rattle.cilk_shared.specs.Pieces.{PieceValue}
use Rattle.cilk_replay.specs.Chains.{ChainValue}
use Rattle.cilk_replay.specs.Replays.{ReplayValue}
use Rattle.cilk_workers.specs.Answers.{Answers}
use Rattle.cilk_tree.specs.Word.{resume, word_step}
use Rattle.cilk_workers.specs.Boxes.{BoxValue, EndsAtKey, IsOpen, MayArrive, Stands, arrived_at, is_some, opening, passes, stolen_at}
use Rattle.cilk_workers.specs.Rows.{FitsIn, IsLowest, RunValue}
use Rattle.cilk_workers.specs.declared.join.Boxed.{Boxed}
use Rattle.cilk_workers.specs.declared.join.Boxed.TheVariants as boxes

-- the continuation of the child with this key is stolen, which continues at a position; or a piece
-- arrives, with a chain if it is the sync's own
pub data BoxStep : Type 0 where
  Steals : (key : ℕ) (goes_on : ℕ) → BoxStep
  Arrives : (key : ℕ) (piece : PieceValue) (chain : Option ChainValue) → BoxStep

-- the key is among these
abbrev pub Has : List ℕ → ℕ → Type 0
Has [] k = ⊥
Has (j ∷ js) k = (j ≡ k) ⊎ Has js k

-- each key is there once
abbrev pub IsOnce : List ℕ → Type 0
IsOnce [] = Unit {0}
IsOnce (k ∷ ks) = (Has ks k → ⊥) × IsOnce ks

-- ---- steps from an opening box on, the latest step first

abbrev pub stolen_keys : List BoxStep → List ℕ
stolen_keys [] = []
stolen_keys (Steals k a ∷ steps) = k ∷ stolen_keys steps
stolen_keys (Arrives k x c ∷ steps) = stolen_keys steps

abbrev pub arrived_keys : List BoxStep → List ℕ
arrived_keys [] = []
arrived_keys (Steals k a ∷ steps) = arrived_keys steps
arrived_keys (Arrives k x c ∷ steps) = k ∷ arrived_keys steps

-- the sync's own piece has arrived, with this key
abbrev pub IsOwn : List BoxStep → ℕ → Type 0
IsOwn [] k = ⊥
IsOwn (Steals j a ∷ steps) k = IsOwn steps k
IsOwn (Arrives j x None ∷ steps) k = IsOwn steps k
IsOwn (Arrives j x (Some c) ∷ steps) k = (j ≡ k) ⊎ IsOwn steps k

-- the sync's own piece and that of each stolen child have arrived
abbrev pub HaveAllArrived : List BoxStep → Type 0
HaveAllArrived steps = ((k : ℕ) × IsOwn steps k) × ((k : ℕ) → Has (stolen_keys steps) k → Has (arrived_keys steps) k)

-- The box of the block that ends with a `sync`.
module _ (y : RunValue) (u : ReplayValue) (sync : ℕ) where
  abbrev pub joined : List BoxStep → BoxValue
  joined [] = opening y u sync
  joined (Steals k a ∷ steps) = stolen_at (joined steps) k a
  joined (Arrives k x c ∷ steps) = arrived_at (joined steps) k x (is_some c)

  -- each step is allowed when it is made
  abbrev pub IsHistory : List BoxStep → Type 0
  IsHistory [] = Unit {0}
  IsHistory (Steals k a ∷ steps) = IsHistory steps × IsOpen (joined steps) k a
  IsHistory (Arrives k x c ∷ steps) = IsHistory steps × MayArrive (joined steps) k x c

  -- a stolen continuation is that of its key, and a piece fits and ends at its key
  abbrev pub AreOfRun : List BoxStep → Type 0
  AreOfRun [] = Unit {0}
  AreOfRun (Steals k a ∷ steps) = AreOfRun steps × (word_step y.event_order a ≡ resume k)
  AreOfRun (Arrives k x c ∷ steps) = AreOfRun steps × FitsIn (let j = joined steps in j.rows) k x × EndsAtKey y.event_order k x (is_some c)

  -- this key's piece is still to come
  abbrev pub IsAwaited : List BoxStep → ℕ → Type 0
  IsAwaited steps k = let j = joined steps in let r = j.rows in let w = r.row in Stands w.waits k

-- the box has a history of steps of the run
abbrev pub HasSteps : RunValue → ReplayValue → BoxValue → Type 0
HasSteps y u b = (steps : List BoxStep) × IsHistory y u b.sync steps × AreOfRun y u b.sync steps × (b ≡ joined y u b.sync steps)

-- the laws of a box, after each of its histories
pub record BoxLaws (y : RunValue) (u : ReplayValue) (sync : ℕ) (steps : List BoxStep) : Type 0 where
  -- each key arrives once, and the sync's own piece with the greatest
  pub once : IsOnce (arrived_keys steps)
  pub own_is_last : (k : ℕ) → IsOwn steps k → (j : ℕ) → Has (arrived_keys steps) j ⊎ Has (stolen_keys steps) j → j ≤ k
  -- a key is awaited exactly if it was stolen and its piece hasn't arrived
  pub awaited : (k : ℕ) → IsAwaited y u sync steps k ↔ (Has (stolen_keys steps) k × (Has (arrived_keys steps) k → ⊥))
  -- a key that may arrive is the lowest exactly if no lower one was stolen or has arrived
  pub lowest : (k : ℕ) (x : PieceValue) (c : Option ChainValue) → MayArrive (joined y u sync steps) k x c
      → IsLowest (let j = joined y u sync steps in j.rows) k ↔ ((i : ℕ) → Has (arrived_keys steps) i ⊎ Has (stolen_keys steps) i → k ≤ i)
  -- the block passes exactly if the sync's own piece and that of each stolen child have arrived
  pub passes_with_all : (passes (joined y u sync steps) ≡ true) ↔ HaveAllArrived steps

abbrev pub BoxesHaveLaws : Type 0
BoxesHaveLaws = (y : RunValue) (u : ReplayValue) (sync : ℕ) (steps : List BoxStep) → IsHistory y u sync steps → BoxLaws y u sync steps

-- what an arrival's answer says of all steps so far
abbrev pub IsAnswer : List BoxStep → Boxed → Type 0
IsAnswer steps boxes.Waits = HaveAllArrived steps → ⊥
IsAnswer steps (boxes.Passes p c) = HaveAllArrived steps

-- a box answers an arrival accordingly
abbrev pub ArrivalsAnswer : Type 0
ArrivalsAnswer =
    (y : RunValue) (u : ReplayValue) (sync : ℕ) (steps : List BoxStep) → IsHistory y u sync steps
    → (answer : Boxed) (left : BoxValue) → Answers (joined y u sync steps) answer left → IsAnswer steps answer
