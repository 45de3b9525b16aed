-- Worked programs whose serial runs have no race, so their outcome is the same whatever steps are
-- made.
use Rattle.std.specs.Prelude.{◌≡◌, ℤ, pos, negsuc, List, [], ◌∷◌, None}
use Rattle.cilk_types.specs.declared.event.Event.{Event}
use Rattle.cilk_types.specs.declared.outcome.Final.TheVariants as final
use Rattle.cilk_types.specs.declared.outcome.Outcome.{Outcome}
use Rattle.cilk_program.specs.Syntax.{Source}
use Rattle.cilk_program.specs.SerialRun.{Transcript}
use Rattle.cilk_program.specs.WorkedFrames.{get}
use Rattle.cilk_program.specs.WorkedReducers.{changed, lent, again}
use Rattle.cilk_determinacy.specs.Runs.{Name}
use Rattle.cilk_determinacy.specs.Machine.{State, deeds_at, HasEnd}
use Rattle.cilk_determinacy.specs.Reducers.{View}
use Rattle.cilk_determinacy.specs.FrameEnvs.{FrameEnv}
use Rattle.cilk_determinacy.specs.Theorem.{RunsFree}
use Rattle.cilk_determinacy.specs.Steps.{Reaches, outcome_in}

-- the program's serial run has no race and this outcome
abbrev pub IsFree : Source → List ℤ → Outcome → Type 0
IsFree p inputs outcome = (r : Transcript) × (es : List Event) × RunsFree p inputs r es outcome

-- whatever steps are made, nothing stops the run, and once the first frame has ended this is its
-- outcome
abbrev pub AlwaysLeaves : Source → List ℤ → Outcome → Type 0
AlwaysLeaves p inputs outcome =
    (ns : List Name) (s : State FrameEnv View) → Reaches p inputs ns s → (s.stopped ≡ None) × (HasEnd (deeds_at (s.frames [])) → outcome_in p s ≡ outcome)

-- two spawned children read a global, and each gives its result
abbrev pub got : Outcome
got = record { result = pos 14; globals = pos 7 ∷ []; output = []; reducers = [] }

abbrev pub GetIsFree : Type 0
GetIsFree = IsFree get [] got

abbrev pub GetLeaves : Type 0
GetLeaves = AlwaysLeaves get [] got

-- two spawned children append to a list of their parent, which reads its length after a sync
abbrev pub lent_out : Outcome
lent_out = record { result = pos 2; globals = []; output = []; reducers = [] }

abbrev pub LentIsFree : Type 0
LentIsFree = IsFree lent [] lent_out

abbrev pub LentLeaves : Type 0
LentLeaves = AlwaysLeaves lent [] lent_out

-- a global list is set and printed
abbrev pub changed_to : Outcome
changed_to = record { result = pos 0; globals = []; output = pos 2 ∷ []; reducers = final.List (pos 7 ∷ pos 8 ∷ []) ∷ [] }

abbrev pub ChangedIsFree : Type 0
ChangedIsFree = IsFree changed [] changed_to

abbrev pub ChangedLeaves : Type 0
ChangedLeaves = AlwaysLeaves changed [] changed_to

-- main calls itself, and each call has its own reducer
abbrev pub called_again : Outcome
called_again = record { result = pos 3; globals = pos 1 ∷ []; output = []; reducers = final.Number (negsuc 9223372036854775807) ∷ [] }

abbrev pub AgainIsFree : Type 0
AgainIsFree = IsFree again [] called_again

abbrev pub AgainLeaves : Type 0
AgainLeaves = AlwaysLeaves again [] called_again
