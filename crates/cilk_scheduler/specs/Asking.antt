-- The next request of a frame, and the fault in its place.
use Rattle.std.specs.Prelude.{◌≡◌, ◌+◌, ◌-◌, ◌≤◌, ℕ, suc, nat_lt, if◌then◌else◌, ℤ, List, Option, Some, None}
use Rattle.std.specs.Option.{option_map}
use Rattle.cilk_types.specs.declared.fault.Fault.{Fault}
use Rattle.cilk_types.specs.declared.fault.Fault.TheVariants.{TooManyEvents, TooManyFrames, TooManyCells}
use Rattle.cilk_types.specs.declared.limits.TheConstants.{MAX_CELLS, MAX_EVENTS, MAX_FRAMES, MAX_TICKS}
use Rattle.cilk_program.specs.declared.ask.Ask.{Ask}
use Rattle.cilk_program.specs.declared.ask.Ask.TheVariants as asks
use Rattle.cilk_program.specs.declared.ask.Callee.{Callee}
use Rattle.cilk_program.specs.SerialRun.{cells_of}
use Rattle.cilk_program.specs.Syntax.{Source}
use Rattle.cilk_lower.specs.Code.{CodeView}
use Rattle.cilk_lower.specs.Layout.{cells_in}
use Rattle.cilk_lower.specs.declared.layout.Layout.{Layout}
use Rattle.cilk_frames.specs.Cursor.{CursorView}
use Rattle.cilk_frames.specs.declared.cursor.Answer.{Answer}
use Rattle.cilk_frames.specs.Following.{Fits, GoesOn, Runs, Stands, child_of}
use Rattle.cilk_determinacy.specs.Costs.{Total, EventTotal, FrameTotal, CellTotal, TickTotal, fault_of}
use Rattle.cilk_determinacy.specs.Machine.{started}
use Rattle.cilk_determinacy.specs.Runs.{Deed}
use Rattle.cilk_determinacy.specs.FrameEnvMachine.{costs, named_ask}
use Rattle.cilk_determinacy.specs.FrameEnvs.{FrameEnv}
use Rattle.cilk_scheduler.specs.declared.frame_state.Due.{Due}
use Rattle.cilk_scheduler.specs.declared.frame_state.Due.TheVariants as due
use Rattle.cilk_scheduler.specs.declared.frame_state.FrameState.{FrameState}

module _ (code : CodeView) (inputs : List ℤ) where
  -- it can continue
  abbrev pub IsReadyFor : FrameState → Due → Type 0
  IsReadyFor x due.Begin = Unit {0}
  IsReadyFor x (due.Answer a) = (c : CursorView) × (x.cursor ≡ Some c) × Runs code inputs c × Fits c.owed a × (x.took ≤ MAX_TICKS)
  IsReadyFor x due.Sync = Unit {0}

  abbrev pub IsReady : FrameState → Type 0
  IsReady x = IsReadyFor x x.due

  -- The cursor has reached this request, with `left` ticks left of those that the frame had not
  -- used.
  pub record Came (x : FrameState) (a : Answer) (k : Ask) (x' : FrameState) : Type 0 where
    pub before : CursorView
    pub after : CursorView
    pub left : ℕ
    pub was : x.cursor ≡ Some before
    pub less : left ≤ MAX_TICKS - x.took
    pub now : x' ≡ record x { cursor = Some after; took = MAX_TICKS - left }
    pub goes_on : (p : Source) (callee : Callee) (history : List ℤ) (took : ℕ) → Stands code inputs p callee before history took → GoesOn code inputs before a (MAX_TICKS - x.took) k after left p callee history took

  -- it has reached this request
  abbrev pub WentOnFrom : Due → FrameState → Ask → FrameState → Type 0
  WentOnFrom due.Begin x k x' = (k ≡ asks.Begin) × (x' ≡ x)
  WentOnFrom (due.Answer a) x k x' = Came x a k x'
  WentOnFrom due.Sync x k x' = (k ≡ asks.Sync) × (x' ≡ x)

  abbrev pub WentOn : FrameState → Ask → FrameState → Type 0
  WentOn x k x' = WentOnFrom x.due x k x'

-- a fault of the frame's own, or else the other
abbrev pub own_fault : Ask → Option Fault → Option Fault
own_fault asks.Begin other = other
own_fault (asks.Read x) other = other
own_fault (asks.Write x v) other = other
own_fault (asks.Create r) other = other
own_fault (asks.Update r v) other = other
own_fault (asks.Set r v) other = other
own_fault (asks.Value r) other = other
own_fault (asks.Print v) other = other
own_fault (asks.Invoke how callee) other = other
own_fault asks.Resume other = other
own_fault asks.Sync other = other
own_fault (asks.Result v) other = other
own_fault (asks.End v) other = other
own_fault (asks.Fault f) other = Some f

-- the number of cells of the frame that a request starts
abbrev pub cells_asked : Layout → Ask → Option ℕ
cells_asked l k = option_map (cells_in l) (child_of k)

-- one more frame with n cells exceeds the limit of frames or of cells
abbrev pub crowded : ℕ → ℕ → Option ℕ → Option Fault
crowded frames cells None = None
crowded frames cells (Some n) = if nat_lt MAX_FRAMES (frames + 1) then Some TooManyFrames else (if nat_lt MAX_CELLS (cells + n) then Some TooManyCells else None)

-- The fault in place of a request's event, by the ticks counted with it and the events, frames and
-- cells before it. The first that applies is found: too many ticks, the frame's own fault, too many
-- events, too many frames, too many cells.
abbrev pub refusal : ℕ → ℕ → ℕ → ℕ → Layout → Ask → Option Fault
refusal ticks events frames cells l k =
    if nat_lt MAX_TICKS ticks then Some TooManyEvents
    else own_fault k (if nat_lt MAX_EVENTS (events + 1) then Some TooManyEvents else crowded frames cells (cells_asked l k))

-- The refusal is the fault by which the free machine stops, at these totals and ticks.
abbrev pub RefusalsAreFaults : Source → List ℤ → Layout → Type 0
RefusalsAreFaults p inputs l =
    (w : FrameEnv) (deeds : List (Deed FrameEnv)) (k : Ask) (totals : Total → ℕ) (ticks : ℕ) → ticks ≡ (let C = costs p inputs in totals TickTotal + C.ticks w deeds)
    → totals FrameTotal ≤ MAX_FRAMES → totals CellTotal ≤ MAX_CELLS → ((callee : Callee) → cells_in l callee ≡ cells_of p callee)
    → refusal ticks (totals EventTotal) (totals FrameTotal) (totals CellTotal) l k ≡ fault_of (costs p inputs) totals w deeds (named_ask p w (suc (started deeds)) k)
