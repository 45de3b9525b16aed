-- A stretch: events of a worker's frame, one after another, that start and end no frame and no
-- block.
use Rattle.std.specs.Prelude.{◌≡◌, ◌<◌, ℕ, zero, suc, ℤ, List, length}
use Rattle.cilk_types.specs.declared.event.Event as numbered
use Rattle.cilk_lower.specs.Code.{CodeView}
use Rattle.cilk_scheduler.specs.declared.scheduler.Scheduler.{Scheduler}
use Rattle.cilk_schedule.specs.Acts.{WentTo, Wrote}
use Rattle.cilk_schedule.specs.Choices.{IsReadyAt}
use Rattle.cilk_schedule.specs.Sound.{IsAccepted, IsAsked, Runs}

module _ (code : CodeView) (inputs : List ℤ) (worker : ℕ) where
  -- the worker's frame has made its next event, which is such a one
  pub record MakesAlone (b b' : Scheduler) : Type 0 where
    pub place : ℕ
    pub ready : IsReadyAt b worker place
    pub asked : Scheduler
    pub went : WentTo code inputs b asked place
    pub accepted : IsAccepted code asked place
    pub event : numbered.Event
    pub wrote : (w : ℕ) → (let ws = asked.workers in w < length ws.items) → Wrote asked b' w place event

  -- it has made this many
  abbrev pub GoesAlong : ℕ → Scheduler → Scheduler → Type 0
  GoesAlong zero b b' = b' ≡ b
  GoesAlong (suc n) b b' = (m : Scheduler) × GoesAlong n b m × MakesAlone m b'

  -- it has made this many, and then the frame at place k has made another request
  pub record ComesBehind (n : ℕ) (b b' : Scheduler) (k : ℕ) : Type 0 where
    pub between : Scheduler
    pub along : GoesAlong n b between
    pub runs : Runs code inputs between
    pub ready : IsReadyAt between worker k
    pub went : WentTo code inputs between b' k
    pub asked : IsAsked code inputs b' k
