-- View-read races, over all pairs of reducer-reads (Lee and Schardl 2015, section 3).
use Rattle.std.specs.Prelude.{◌≡◌, ℕ, ◌<◌, ◌≤◌, List, Option, Some}
use Rattle.cilk_types.specs.declared.event.Event.{Event}
use Rattle.cilk_types.specs.declared.event.Event.TheVariants.{Create, Set, Value}
use Rattle.cilk_types.specs.declared.event.Instance.{Instance}
use Rattle.cilk_tree.specs.Tree.{Tree}
use Rattle.cilk_tree.specs.Races.{strand_at, event_at}
use Rattle.cilk_peers.specs.Peers.{SamePeers}

-- A reducer-read: a creation, a set or a value, which makes or shows the instance's view. An update
-- only multiplies a view, and a print is an update of the ordered output.
abbrev pub ReadsReducer : Option Event → Instance → Type 0
ReadsReducer (Some (Create j)) i = j ≡ i
ReadsReducer (Some (Set j v)) i = j ≡ i
ReadsReducer (Some (Value j v)) i = j ≡ i
ReadsReducer _ i = ⊥

-- Two reads of one reducer, by strands whose peers differ. A position is any number that lies in a strand.
pub record ViewClash (L : Type 0) (t : Tree) (strand : ℕ → ℕ) (reads : ℕ → L → Type 0) (p q : ℕ) : Type 0 where
  pub first : 1 ≤ p
  pub earlier : p < q
  pub instance : L
  pub one : reads p instance
  pub other : reads q instance
  pub differ : SamePeers t (strand p) (strand q) → ⊥

-- The least position that an earlier read of its reducer clashes with, and the first read of the reducer.
pub record IsFirstViewClash (L : Type 0) (t : Tree) (strand : ℕ → ℕ) (reads : ℕ → L → Type 0) (p q : ℕ) : Type 0 where
  pub race : ViewClash L t strand reads p q
  pub least : (p' q' : ℕ) → ViewClash L t strand reads p' q' → q ≤ q'
  pub first_read : (k : ℕ) → 1 ≤ k → reads k race.instance → p ≤ k

-- two reducer-reads of one instance, by strands whose peers differ
abbrev pub IsViewRace : Tree → List Event → ℕ → ℕ → Type 0
IsViewRace t events = ViewClash Instance t (strand_at events) (λ p. ReadsReducer (event_at events p))

-- the first view-read race; in a serial run the earlier read is the instance's creation
abbrev pub IsFirstViewRace : Tree → List Event → ℕ → ℕ → Type 0
IsFirstViewRace t events = IsFirstViewClash Instance t (strand_at events) (λ p. ReadsReducer (event_at events p))

-- no two positions have a view-read race
abbrev pub HasNoViewRace : Tree → List Event → Type 0
HasNoViewRace t events = (p q : ℕ) → IsViewRace t events p q → ⊥

-- a set or a value
abbrev pub UsesReducer : Option Event → Instance → Type 0
UsesReducer (Some (Set j v)) i = j ≡ i
UsesReducer (Some (Value j v)) i = j ≡ i
UsesReducer _ i = ⊥

-- each reducer is created once, before its sets and values, as in a serial run
pub record AreCreatedBeforeUse (events : List Event) : Type 0 where
  pub ahead : (q : ℕ) (i : Instance) → 1 ≤ q → UsesReducer (event_at events q) i → (p : ℕ) × (1 ≤ p) × (p < q) × (event_at events p ≡ Some (Create i))
  pub once : (p q : ℕ) (i : Instance) → 1 ≤ p → p < q → event_at events p ≡ Some (Create i) → event_at events q ≡ Some (Create i) → ⊥

-- The first position is a reducer's creation, and the second is the least set or value whose strand
-- has other peers.
pub record IsCreationAndUse (t : Tree) (events : List Event) (p q : ℕ) : Type 0 where
  pub instance : Instance
  pub created : event_at events p ≡ Some (Create instance)
  pub used : UsesReducer (event_at events q) instance
  pub differ : SamePeers t (strand_at events p) (strand_at events q) → ⊥
  pub least : (p' q' : ℕ) (i : Instance) → 1 ≤ p' → 1 ≤ q' → event_at events p' ≡ Some (Create i) → UsesReducer (event_at events q') i
      → (SamePeers t (strand_at events p') (strand_at events q') → ⊥) → q ≤ q'

-- if reducers are created before use, the first view-read race is that pair
abbrev pub FirstIsCreationAndUse : Type 0
FirstIsCreationAndUse = (t : Tree) (events : List Event) → AreCreatedBeforeUse events → (p q : ℕ) → IsFirstViewRace t events p q → IsCreationAndUse t events p q
