-- The frames at a position of a replay: the current frame and its callers.
use Rattle.std.specs.Prelude.{◌≡◌, ◌⊎◌, ◌≤◌, ℕ, suc, pos, false, List, [], ◌∷◌, ◌++◌, reverse, Some}
use Rattle.cilk_types.specs.declared.invocation.Invocation.{Invocation}
use Rattle.cilk_types.specs.declared.invocation.Invocation.TheVariants.{Spawn}
use Rattle.cilk_types.specs.declared.limits.TheConstants.{MAX_TICKS}
use Rattle.cilk_program.specs.declared.ask.Ask.{Ask}
use Rattle.cilk_program.specs.Inside.{CalleeIsFit}
use Rattle.cilk_program.specs.SerialRun.{Transcript}
use Rattle.cilk_lower.specs.declared.code.Owed.TheVariants.{Nothing}
use Rattle.cilk_frames.specs.Following.{Stands}
use Rattle.cilk_determinacy.specs.Runs.{Deed, Invokes}
use Rattle.cilk_determinacy.specs.FrameEnvMachine.{answer_of, answers_of, has_ended}
use Rattle.cilk_determinacy.specs.FrameEnvs.{FrameEnv}
use Rattle.cilk_replay.specs.Points.{Point}
use Rattle.cilk_replay.specs.declared.replay_frame.ReplayFrame.{ReplayFrame}
use Rattle.cilk_replay.specs.Asking.{HasAsked}
use Rattle.cilk_replay.specs.Sights.{Sees}
use Rattle.cilk_replay.specs.Replays.{ReplayValue, IsOfProgram, Setting, setting_of, point_at}

-- the current frame at a position has requested this, after the answers so far in the event order
pub record Asks (c : Setting) (at : ℕ) (k : Ask) (l : ReplayFrame) : Type 0 where
  pub behind : ℕ
  pub place : suc behind ≡ at
  pub point : Point FrameEnv
  pub is : point_at c behind ≡ Some point
  pub goes_on : has_ended point.past ≡ false
  pub fit : let w = point.frame in CalleeIsFit c.program w.callee
  pub sees : Sees c.program c.run point.frame l.sight
  pub asked : let w = point.frame in HasAsked c.code c.inputs c.program w.callee (answers_of point.past) k l

-- The current frame at a position has had all answers but the last, which is 0. It hasn't continued
-- with that one.
pub record Rests (c : Setting) (at : ℕ) (l : ReplayFrame) : Type 0 where
  pub behind : ℕ
  pub place : suc behind ≡ at
  pub point : Point FrameEnv
  pub is : point_at c behind ≡ Some point
  pub goes_on : has_ended point.past ≡ false
  pub fit : let w = point.frame in CalleeIsFit c.program w.callee
  pub sees : Sees c.program c.run point.frame l.sight
  pub before : List (Deed FrameEnv)
  pub last : Deed FrameEnv
  pub past : point.past ≡ before ++ last ∷ []
  pub answer : answer_of last ≡ pos 0
  pub stands : let w = point.frame in Stands c.code c.inputs c.program w.callee l.cursor (answers_of before) l.took
  pub owes : let v = l.cursor in v.owed ≡ Nothing
  pub small : l.took ≤ MAX_TICKS

-- a frame that waits for its child, whose first event is after `since` others
pub record Waits (c : Setting) (since : ℕ) (l : ReplayFrame) : Type 0 where
  pub behind : ℕ
  pub place : suc behind ≡ since
  pub point : Point FrameEnv
  pub is : point_at c behind ≡ Some point
  pub goes_on : has_ended point.past ≡ false
  pub how : Invocation
  pub child : FrameEnv
  pub started : point.deed ≡ Invokes how child
  pub fit : let w = point.frame in CalleeIsFit c.program w.callee
  pub sees : Sees c.program c.run point.frame l.sight
  pub stands : let w = point.frame in Stands c.code c.inputs c.program w.callee l.cursor (answers_of point.past) l.took
  pub owes : let v = l.cursor in v.owed ≡ Nothing
  pub small : l.took ≤ MAX_TICKS

-- the frame whose first event is after `since` others was spawned; or it is the root's
pub record IsSpawned (c : Setting) (since : ℕ) : Type 0 where
  pub behind : ℕ
  pub place : suc behind ≡ since
  pub point : Point FrameEnv
  pub is : point_at c behind ≡ Some point
  pub child : FrameEnv
  pub started : point.deed ≡ Invokes Spawn child

abbrev pub IsOutermost : Setting → ℕ → Type 0
IsOutermost c since = (since ≡ 0) ⊎ IsSpawned c since

-- The callers of the frame whose first event is after `since` others, the innermost first, up to
-- the nearest frame that was spawned.
abbrev pub Linked : Setting → ℕ → List ReplayFrame → Type 0
Linked c since [] = IsOutermost c since
Linked c since (l ∷ ls) = (w : Waits c since l) × (let x = w.point in Linked c x.since ls)

-- a frame and its callers, the outermost first
pub record StandsAt (c : Setting) (at : ℕ) (k : Ask) (top : ReplayFrame) (below : List ReplayFrame) : Type 0 where
  pub asks : Asks c at k top
  pub callers : let x = asks.point in Linked c x.since (reverse below)

pub record RestsAt (c : Setting) (at : ℕ) (top : ReplayFrame) (below : List ReplayFrame) : Type 0 where
  pub rests : Rests c at top
  pub callers : let x = rests.point in Linked c x.since (reverse below)

-- the same for a replay
abbrev pub Stand : ReplayValue → ℕ → Ask → ReplayFrame → List ReplayFrame → Type 0
Stand c at k top below = (run : Transcript) × IsOfProgram (setting_of c run) × StandsAt (setting_of c run) at k top below

abbrev pub Rest : ReplayValue → ℕ → ReplayFrame → List ReplayFrame → Type 0
Rest c at top below = (run : Transcript) × IsOfProgram (setting_of c run) × RestsAt (setting_of c run) at top below

-- the current frame at a position was spawned, or is the root's
pub record IsTheOutermost (c : ReplayValue) (at : ℕ) : Type 0 where
  pub run : Transcript
  pub of_program : IsOfProgram (setting_of c run)
  pub behind : ℕ
  pub place : suc behind ≡ at
  pub point : Point FrameEnv
  pub is : point_at (setting_of c run) behind ≡ Some point
  pub outermost : IsOutermost (setting_of c run) point.since
