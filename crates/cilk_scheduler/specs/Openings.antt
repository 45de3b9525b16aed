-- A new scheduler, by numbers, and the resources that a program uses before its first event.
use Rattle.std.specs.Prelude.{◌≡◌, ◌+◌, ◌<◌, ◌≤◌, IsTrue, ℕ, ℤ, pos, List, [], ◌∷◌, length, replicate, slice_get, Some, None}
use Rattle.cilk_types.specs.declared.event.Instance.{Instance}
use Rattle.cilk_types.specs.declared.invocation.Invocation.TheVariants.{Call}
use Rattle.cilk_program.specs.declared.ask.Callee.TheVariants as callees
use Rattle.cilk_program.specs.SerialRun.{cells_of, home_of}
use Rattle.cilk_program.specs.Syntax.{Source}
use Rattle.cilk_program.specs.WellNamed.{is_well_named}
use Rattle.cilk_lower.specs.Code.{CodeView}
use Rattle.cilk_lower.specs.Layout.{LaysOut}
use Rattle.cilk_lower.specs.declared.code.Owed.TheVariants.{Nothing}
use Rattle.cilk_frames.specs.Cursor.{CursorView}
use Rattle.cilk_frames.specs.Following.{Stands}
use Rattle.cilk_frames.specs.Sight.{HasScope}
use Rattle.cilk_frames.specs.declared.activation.Activation.{Activation}
use Rattle.cilk_hypermap.specs.Hypermap.{EachKind, view_in}
use Rattle.cilk_determinacy.specs.Costs.{Total}
use Rattle.cilk_determinacy.specs.Machine.{State}
use Rattle.cilk_determinacy.specs.FrameEnvMachine.{limit, used}
use Rattle.cilk_determinacy.specs.Reducers.{View}
use Rattle.cilk_determinacy.specs.Steps.{IsFirst}
use Rattle.cilk_determinacy.specs.FrameEnvs.{FrameEnv}
use Rattle.cilk_scheduler.specs.declared.scheduler.Scheduler.{Scheduler}
use Rattle.cilk_scheduler.specs.declared.frame_state.FrameState.{FrameState}
use Rattle.cilk_scheduler.specs.declared.frame_state.Worker.{Worker}
use Rattle.cilk_scheduler.specs.Schedulers.{ShowsBy}
use Rattle.cilk_scheduler.specs.WorkerTables.{WorkerTable}
use Rattle.cilk_scheduler.specs.FrameStates.{seated}

-- the first worker holds the first frame, the others are idle, and nothing is offered
abbrev pub first_worker_table : ℕ → WorkerTable
first_worker_table idle = record { hands = Some [] ∷ replicate idle None; offered = [] ∷ replicate idle []; waiting = [] }

-- the first frame before its begin
abbrev pub first_frame_state : CodeView → Source → CursorView → Activation FrameState → Activation FrameState
first_frame_state code p c a = record a { cursor = seated 0 0 Call 0 c; number = 1; base = length p.openings; result = None; creator = Some (let l = code.layout in l.main) }

-- A well-named program is within the limits before its first event: 1,000,000 globals and 256 cells
-- of a frame.
abbrev pub OpeningsFit : Source → List ℤ → Type 0
OpeningsFit p inputs = IsTrue (is_well_named p) → (total : Total) → used p inputs total ≤ limit p inputs total

module _ (code : CodeView) (p : Source) (inputs : List ℤ) where
  -- The first frame alone exists, and the first worker holds it before its begin. The cells have
  -- their opening values, and no worker has a view.
  pub record IsNew (b : Scheduler) : Type 0 where
    pub root : Activation FrameState
    pub cursor : CursorView
    pub first : Worker
    pub others : List Worker
    pub frames : let f = b.frames in f.items ≡ first_frame_state code p cursor root ∷ []
    pub stands : Stands code inputs p callees.Root cursor [] 0
    pub owes : cursor.owed ≡ Nothing
    pub sees : let f = b.frames in HasScope f.items (first_frame_state code p cursor root) (home_of p callees.Root 1 (length p.openings) [] ∷ [])
    pub count : let l = b.cells in length l.items ≡ length p.openings + cells_of p callees.Root
    pub globals : let l = b.cells in (n : ℕ) → n < length p.openings → slice_get l.items n ≡ slice_get p.openings n
    pub own : let l = b.cells in (n : ℕ) → n < cells_of p callees.Root → slice_get l.items (length p.openings + n) ≡ Some (pos 0)
    pub workers : let l = b.workers in l.items ≡ first ∷ others
    pub has : first.frame ≡ Some 0
    pub idles : (v : ℕ) (u : Worker) → slice_get others v ≡ Some u → u.frame ≡ None
    pub offers : (v : ℕ) (u : Worker) → slice_get (first ∷ others) v ≡ Some u → let o = u.offered in o.items ≡ []
    pub empty : EachKind (λ q. (j : Instance) → view_in first.views q j ≡ None)
    pub offered : b.offered ≡ 0
    pub journal : let e = b.journal in e.items ≡ []
    pub ticks : b.ticks ≡ 0
    pub outcome : b.outcome ≡ None

  -- A new scheduler shows the first state of the free machine.
  abbrev pub OpeningsAreShown : Type 0
  OpeningsAreShown = IsTrue (is_well_named p) → LaysOut p code.layout → (b : Scheduler) (h : IsNew b) → (s : State FrameEnv View) × IsFirst p inputs s × (let l = h.others in ShowsBy code p inputs (λ n. []) b (first_worker_table (length l)) s)
