-- The view in contracts of the part of a run that its workers share.
use Rattle.std.specs.Prelude.{◌≡◌, ◌≤◌, ◌<◌, ◌⊎◌, ℕ, List, length, Some, count_by, slice_get}
use Rattle.cilk_workers.specs.Rows.{RunValue, run_of}
use Rattle.cilk_replay.specs.Replays.{ReplayValue}
use Rattle.cilk_shared.specs.declared.reducers.Reducers.{Reducers}
use Rattle.cilk_tree.specs.Frames.{IsInFrame}
use Rattle.cilk_tree.specs.Kinds.{kind_of_event}
use Rattle.cilk_tree.specs.declared.kind.Asked.{Asked}
use Rattle.cilk_tree.specs.declared.kind.Asked.TheVariants.{Next, Nothing}
use Rattle.cilk_tree.specs.declared.kind.Kind.TheVariants as kinds
use Rattle.cilk_shared.specs.Values.{YardValue}
use Rattle.cilk_tree.specs.declared.event_order.EventOrder.{EventOrder}
use Rattle.cilk_tree.specs.Columns.{AreBlockEnds, AreBlocks, AreFirstSpawns, AreStrands, BlocksEnd}
use Rattle.cilk_tree.specs.Word.{event, is_spawn}

-- a run of the program, and its replay
pub record SharedValue : Type 0 where
  pub run : RunValue
  pub replay : ReplayValue

abbrev pub shared_with : YardValue → Reducers → ReplayValue → SharedValue
shared_with y r c = record { run = run_of y r; replay = c }

-- its event order
abbrev pub event_order_in : SharedValue → EventOrder
event_order_in y = let r = y.run in r.event_order

-- the number of its spawns
abbrev pub spawn_count : EventOrder → ℕ
spawn_count s = count_by (λ e. is_spawn (Some e)) s.events

-- each cell that an event reads or writes has an opening value
abbrev pub HasCells : EventOrder → Type 0
HasCells s = (p c : ℕ) → (kind_of_event (event s p) ≡ Some (kinds.Read c)) ⊎ (kind_of_event (event s p) ≡ Some (kinds.Write c)) → c < length s.opening

-- the `sync` and the first spawn of each block, the block of each position and the strand that begins
-- there, exactly; and the block of each spawn ends
abbrev pub AreColumns : EventOrder → List ℕ → List ℕ → List ℕ → List ℕ → Type 0
AreColumns s syncs firsts blocks strands =
    AreBlockEnds s syncs × AreBlocks s syncs blocks × AreStrands s.events strands × BlocksEnd s × AreFirstSpawns s syncs firsts

-- the block that ends with the `sync` at q has the number b
abbrev pub IsNumberOf : EventOrder → ℕ → ℕ → Type 0
IsNumberOf s b q = (syncs : List ℕ) × AreBlockEnds s syncs × (slice_get syncs b ≡ Some q)

-- the kind and the frame of the event at a position
abbrev pub IsNext : EventOrder → ℕ → Asked → Type 0
IsNext s at Nothing = (at ≡ 0) ⊎ (length s.events < at)
IsNext s at (Next frame kind) = (kind_of_event (event s at) ≡ Some kind) × IsInFrame s.events at frame × (1 ≤ at) × (at ≤ length s.events)
