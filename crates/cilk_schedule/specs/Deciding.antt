-- A choice is deterministic: its next state, its result, and how it stops the run.
use Rattle.std.specs.Prelude.{◌≡◌, ℤ, List, Some, None}
use Rattle.cilk_program.specs.Syntax.{Source}
use Rattle.cilk_determinacy.specs.Machine.{Frame, State}
use Rattle.cilk_determinacy.specs.Runs.{Name}
use Rattle.cilk_determinacy.specs.Reducers.{View}
use Rattle.cilk_determinacy.specs.Steps.{IsFirst, Reaches, outcome_in}
use Rattle.cilk_determinacy.specs.FrameEnvs.{FrameEnv}
use Rattle.cilk_scheduler.specs.WorkerTables.{Chooses, Comes, WorkerTable, IsOver, StopsAt}
use Rattle.cilk_scheduler.specs.declared.choice.Choice.{Choice}

-- Two states agree: they differ at most in the views of frames that haven't begun, which no frame
-- reads.
pub record Agree (s t : State FrameEnv View) : Type 0 where
  pub frames : t.frames ≡ s.frames
  pub stolen : t.stolen ≡ s.stolen
  pub memory : t.memory ≡ s.memory
  pub piece : (n : Name) (f : Frame FrameEnv) → s.frames n ≡ Some f → t.piece n ≡ s.piece n
  pub joins : t.joins ≡ s.joins
  pub totals : t.totals ≡ s.totals
  pub stopped : t.stopped ≡ s.stopped

module _ (p : Source) (inputs : List ℤ) where
  -- the state is reachable, and nothing has stopped it
  pub record IsGoing (s : State FrameEnv View) : Type 0 where
    pub steps : List Name
    pub reaches : Reaches p inputs steps s
    pub running : s.stopped ≡ None

  -- A choice is a function of state and worker table.
  pub record ChoicesDecide : Type 0 where
    pub opens : (s t : State FrameEnv View) → IsFirst p inputs s → IsFirst p inputs t → Agree s t
    pub first : (s : State FrameEnv View) → IsFirst p inputs s → IsGoing s
    pub goes_on : (s s' : State FrameEnv View) (d d' : WorkerTable) (c : Choice) (x : Comes) → IsGoing s → Chooses p inputs s d c x s' d' → IsGoing s'
    pub halts : (s s' : State FrameEnv View) (d : WorkerTable) (c : Choice) → IsGoing s → StopsAt p inputs s d c s' → (ns : List Name) × Reaches p inputs ns s'
    -- From states that agree it leads to states that agree, with the same result and the same
    -- worker table.
    pub leads : (s t s' t' : State FrameEnv View) (d d' d'' : WorkerTable) (c : Choice) (x y : Comes) → IsGoing s → Agree s t → Chooses p inputs s d c x s' d' → Chooses p inputs t d c y t' d'' → (y ≡ x) × (d'' ≡ d') × Agree s' t'
    -- It stops the run in one strand, by one fault; and then it leads to no state.
    pub stops : (s t s' t' : State FrameEnv View) (d : WorkerTable) (c : Choice) → IsGoing s → Agree s t → StopsAt p inputs s d c s' → StopsAt p inputs t d c t' → t'.stopped ≡ s'.stopped
    pub apart : (s t s' t' : State FrameEnv View) (d d' : WorkerTable) (c : Choice) (x : Comes) → IsGoing s → Agree s t → StopsAt p inputs s d c s' → Chooses p inputs t d c x t' d' → ⊥
    pub leads_apart : (s t s' t' : State FrameEnv View) (d d' : WorkerTable) (c : Choice) (x : Comes) → IsGoing s → Agree s t → Chooses p inputs s d c x s' d' → StopsAt p inputs t d c t' → ⊥
    -- Once the first frame has ended, states that agree have the same outcome.
    pub outcome : (s t : State FrameEnv View) → IsGoing s → Agree s t → IsOver s → outcome_in p t ≡ outcome_in p s
