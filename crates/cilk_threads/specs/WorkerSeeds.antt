-- The seed that is sent to a worker.
use Rattle.std.specs.Prelude.{◌≡◌, ◌≤◌, ◌/◌, ℕ, List, Option, Some, None, All, true, false, min, max}
use Rattle.crossbeam_deque.specs.Handles.{Pass, view, IsPassOf, worker_flavor, worker_port, worker_view, stealer_deque}
use Rattle.crossbeam_deque.specs.declared.handles.Worker.{Worker}
use Rattle.crossbeam_deque.specs.declared.handles.Stealer.{Stealer}
use Rattle.cilk_workers.specs.Rows.{OfRun}
use Rattle.cilk_replay.specs.Chains.{ChainValue}
use Rattle.cilk_shared.specs.Pieces.{PieceValue}
use Rattle.cilk_replay.specs.declared.chain.Task.{Task}
use Rattle.cilk_workers.specs.declared.rack.Offers.{Offers}
use Rattle.cilk_workers.specs.Shared.{SharedValue}
use Rattle.cilk_workers.specs.Turns.{Works}
use Rattle.crossbeam_queue.specs.declared.array_queue.Doing.{Doing}
use Rattle.crossbeam_queue.specs.declared.array_queue.Slotted.{Slotted}
use Rattle.cilk_workers.specs.declared.lock.KeyState.{KeyState}
use Rattle.cilk_workers.specs.declared.shelf.Shelf.{Shelf}
use Rattle.cilk_workers.specs.Keys.{AreKeys}
use Rattle.cilk_threads.specs.declared.seeds.TheConstants.{MAX_ROOM}
use Rattle.cilk_threads.specs.declared.seeds.WorkerSeed.{WorkerSeed}

-- the room of each of n racks: for every spawn of the run, or an equal part of the most
abbrev pub room_of : ℕ → ℕ → ℕ
room_of spawns n = min spawns (MAX_ROOM / max n 1)

module _ {A P : Type 0} where
  -- the deque of a rack, at its owner's end
  abbrev pub IsRack : Worker Task A Offers P → Type 0
  IsRack w = (worker_flavor w ≡ 1) × (worker_port w ≡ 0) × ((worker_view w).owner ≡ true)

  -- the stealer of another worker's rack
  abbrev pub IsTake : Stealer Task A Offers P × Pass Task Offers A → Type 0
  IsTake t = IsPassOf (stealer_deque t.0) t.1 × ((view t.1).owner ≡ false)

-- a worker begins with an empty piece, or with a piece and a chain at its next event
abbrev pub Begins : SharedValue → PieceValue → Option ChainValue → Type 0
Begins y p None = OfRun y.run p × (p.upto ≤ p.from)
Begins y p (Some c) = Works y (record { piece = p; chain = c })

module _ {N Q A : Type 0} where
  -- a worker begins with its own rack, the stealers of the other racks, a key of each lock, and its
  -- piece
  abbrev pub IsWorkerSeed : SharedValue → List (Slotted (Option Shelf) (Doing Shelf KeyState) Q A) → WorkerSeed N → Type 0
  IsWorkerSeed y locks k = IsRack k.rack × All IsTake k.takes.items × AreKeys locks k.keys.items × Begins y k.piece k.chain
