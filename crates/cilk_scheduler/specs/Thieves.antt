-- A steal by an idle worker: the scheduler before and after, by numbers.
use Rattle.std.specs.Prelude.{◌≡◌, ◌-◌, ℕ, suc, ℤ, List, slice_get, remove, Some, None}
use Rattle.cilk_types.specs.declared.event.Instance.{Instance}
use Rattle.cilk_program.specs.Syntax.{Source}
use Rattle.cilk_lower.specs.Code.{CodeView}
use Rattle.cilk_frames.specs.declared.activation.Activation.{Activation}
use Rattle.cilk_hypermap.specs.Hypermap.{EachKind, view_in}
use Rattle.cilk_hypermap.specs.declared.hypermap.Hypermap.{Hypermap}
use Rattle.cilk_determinacy.specs.Machine.{State}
use Rattle.cilk_determinacy.specs.Runs.{Name}
use Rattle.cilk_determinacy.specs.Reducers.{View}
use Rattle.cilk_determinacy.specs.FrameEnvs.{FrameEnv}
use Rattle.cilk_scheduler.specs.declared.scheduler.Scheduler.{Scheduler}
use Rattle.cilk_scheduler.specs.declared.choice.Choice.TheVariants.{Steal}
use Rattle.cilk_scheduler.specs.declared.frame_state.FrameState.{FrameState}
use Rattle.cilk_scheduler.specs.declared.frame_state.Status.TheVariants.{Held}
use Rattle.cilk_scheduler.specs.declared.frame_state.Worker.{Worker}
use Rattle.cilk_scheduler.specs.Schedulers.{ShowsBy}
use Rattle.cilk_scheduler.specs.WorkerTables.{WorkerTable, Stole, Chooses}
use Rattle.cilk_scheduler.specs.Events.{AwaitsLast}
use Rattle.cilk_scheduler.specs.FrameStates.{changed, moved_to, robbed}
use Rattle.cilk_scheduler.specs.Workers.{altered, holding, offers}

-- Worker w is idle. The continuation at this index among all is that of frame k, at index `at` of
-- the victim's list.
pub record IsOffered (b : Scheduler) (w place k : ℕ) : Type 0 where
  pub thief : Worker
  pub owner : Worker
  pub victim : ℕ
  pub at : ℕ
  pub frame_state : Activation FrameState
  pub idles : let l = b.workers in slice_get l.items w ≡ Some thief
  pub free : thief.frame ≡ None
  pub owns : let l = b.workers in slice_get l.items victim ≡ Some owner
  pub stands : let o = owner.offered in slice_get o.items at ≡ Some k
  pub is_place : let l = b.workers in slice_get (offers l.items) place ≡ Some k
  pub sits : let f = b.frames in slice_get f.items k ≡ Some frame_state
  pub was_open : b.outcome ≡ None

-- The worker holds the frame then, without views. The frame's newest child is marked as stolen
-- from, and that child's piece is awaited at the block.
pub record TakesOver (b b' : Scheduler) (w place k : ℕ) (h : IsOffered b w place k) : Type 0 where
  pub awaiting : FrameState
  pub awaits : let a = h.frame_state in AwaitsLast a.cursor awaiting
  pub without : Worker
  pub same_frame : let u = h.owner in without.frame ≡ u.frame
  pub same_views : let u = h.owner in without.views ≡ u.views
  pub withdrawn : let u = h.owner in let o = u.offered in let l = without.offered in l.items ≡ remove o.items h.at
  pub views : Hypermap
  pub empty : EachKind (λ q. (j : Instance) → view_in views q j ≡ None)
  pub frames : let a = h.frame_state in let x = a.cursor in let f = b.frames in let g = b'.frames in g.items ≡ changed (moved_to (Held w)) (changed robbed (changed (λ _. awaiting) f.items k) x.last) k
  pub workers : let l = b.workers in let m = b'.workers in m.items ≡ altered (holding k views) (altered (λ _. without) l.items h.victim) w
  pub offered : b'.offered ≡ b.offered - 1
  pub cells : let c = b.cells in let d = b'.cells in d.items ≡ c.items
  pub journal : let e = b.journal in let l = b'.journal in l.items ≡ e.items
  pub ticks : b'.ticks ≡ b.ticks
  pub outcome : b'.outcome ≡ b.outcome

module _ (code : CodeView) (p : Source) (inputs : List ℤ) where
  -- A steal is a step of the free machine from the state shown, and the scheduler shows the result.
  abbrev pub StealsAreShown : Type 0
  StealsAreShown =
      (name : ℕ → Name) (b b' : Scheduler) (d : WorkerTable) (s : State FrameEnv View) (w place k : ℕ) → ShowsBy code p inputs name b d s → (h : IsOffered b w place k) → TakesOver b b' w place k h
      → (s' : State FrameEnv View) × (d' : WorkerTable) × Chooses p inputs s d (Steal (suc w) place) Stole s' d' × ShowsBy code p inputs name b' d' s'
