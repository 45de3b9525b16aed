-- The totals of a run, what each ask adds to them, and when they stop a run.
use Rattle.std.specs.Prelude.{ℕ, ◌+◌, Bool, cond, nat_lt, List, [], ◌∷◌, ◌++◌, Option, Some, None}
use Rattle.cilk_types.specs.declared.fault.Fault.{Fault}
use Rattle.cilk_types.specs.declared.fault.Fault.TheVariants.{TooManyEvents, TooManyFrames, TooManyCells}
use Rattle.cilk_determinacy.specs.Runs.{Ask, Read, Write, Invoke, Sync, End, Pass, Fail, Deed, Does, Invokes, Run, stop, act, child, ask_of}

-- the quantities that are counted over a whole run
pub data Total : Type 0 where
  TickTotal : Total
  EventTotal : Total
  FrameTotal : Total
  CellTotal : Total

-- The ticks that a frame uses after a history up to its next ask, the cells that a frame begins
-- with, the totals of the opening state (the root is a frame; the globals and the root's cells are
-- cells), and the limits.
pub record Costs (W : Type 0) : Type 0 where
  pub ticks : W → List (Deed W) → ℕ
  pub cells : W → ℕ
  pub used : Total → ℕ
  pub limit : Total → ℕ

-- the frames that an ask starts
abbrev pub frame_cost : {W : Type 0} → Ask W → ℕ
frame_cost (Read c) = 0
frame_cost (Write c v) = 0
frame_cost (Invoke k v) = 1
frame_cost Sync = 0
frame_cost (End v gone) = 0
frame_cost (Pass m) = 0
frame_cost (Fail f) = 0

-- the cells of the frame that an ask starts
abbrev pub cells_of : {W : Type 0} → (W → ℕ) → Ask W → ℕ
cells_of cells (Read c) = 0
cells_of cells (Write c v) = 0
cells_of cells (Invoke k v) = cells v
cells_of cells Sync = 0
cells_of cells (End v gone) = 0
cells_of cells (Pass m) = 0
cells_of cells (Fail f) = 0

-- what an ask adds to a total, for a frame started as w with this history
abbrev pub cost : {W : Type 0} → Costs W → Total → W → List (Deed W) → Ask W → ℕ
cost C TickTotal w past a = C.ticks w past
cost C EventTotal w past a = 1
cost C FrameTotal w past a = frame_cost a
cost C CellTotal w past a = cells_of C.cells a

-- with this ask the total exceeds its limit
abbrev pub is_over : {W : Type 0} → Costs W → Total → (Total → ℕ) → W → List (Deed W) → Ask W → Bool
is_over C total totals w past a = nat_lt (C.limit total) (totals total + cost C total w past a)

-- the frame's own fault, if any, else the other
abbrev pub own_fault : {W : Type 0} → Ask W → Option Fault → Option Fault
own_fault (Read c) other = other
own_fault (Write c v) other = other
own_fault (Invoke k v) other = other
own_fault Sync other = other
own_fault (End v gone) other = other
own_fault (Pass m) other = other
own_fault (Fail f) other = Some f

-- The fault by which this ask stops the run, if any. Too many ticks comes first, then the frame's
-- own fault, then too many events, frames or cells.
abbrev pub fault_of : {W : Type 0} → Costs W → (Total → ℕ) → W → List (Deed W) → Ask W → Option Fault
fault_of C totals w past a =
    cond (is_over C TickTotal totals w past a) (Some TooManyEvents)
    (own_fault a
    (cond (is_over C EventTotal totals w past a) (Some TooManyEvents)
    (cond (is_over C FrameTotal totals w past a) (Some TooManyFrames)
    (cond (is_over C CellTotal totals w past a) (Some TooManyCells) None))))

-- what a whole run adds
abbrev pub weight : {W : Type 0} → Costs W → Total → W → List (Deed W) → Run W → ℕ
weight C total w past stop = 0
weight C total w past (act e r) = cost C total w past (ask_of e) + weight C total w (past ++ Does e ∷ []) r
weight C total w past (child k v u r) = cost C total w past (Invoke k v) + (weight C total v [] u + weight C total w (past ++ Invokes k v ∷ []) r)

-- the totals of a whole run that begins as w
abbrev pub whole : {W : Type 0} → Costs W → W → Run W → Total → ℕ
whole C w t total = C.used total + weight C total w [] t
