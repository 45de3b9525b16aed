-- A child frame before it begins.
use Rattle.std.specs.Prelude.{◌≡◌, ◌+◌, ◌≤◌, ℕ, ℤ, List, [], ◌∷◌, length, slice_get, Option, Some, None}
use Rattle.cilk_types.specs.declared.event.Instance.{Instance}
use Rattle.cilk_types.specs.declared.invocation.Invocation.{Invocation}
use Rattle.cilk_program.specs.Inside.{CalleeIsFit}
use Rattle.cilk_program.specs.Scopes.{Scope}
use Rattle.cilk_program.specs.SerialRun.{given_to, home_of, outer_of, result_of}
use Rattle.cilk_program.specs.Syntax.{Source}
use Rattle.cilk_program.specs.declared.ask.Ask.TheVariants.{Begin}
use Rattle.cilk_program.specs.declared.ask.Callee.{Callee}
use Rattle.cilk_program.specs.declared.ask.Callee.TheVariants as callees
use Rattle.cilk_lower.specs.Behaves.{Behaves}
use Rattle.cilk_lower.specs.Code.{CodeView}
use Rattle.cilk_frames.specs.Cursor.{CursorView}
use Rattle.cilk_frames.specs.Following.{Stands, owed_for}
use Rattle.cilk_frames.specs.Sight.{AreSmall, HasScope, ResultFits}
use Rattle.cilk_frames.specs.declared.activation.Activation.{Activation}
use Rattle.cilk_scheduler.specs.declared.frame_state.FrameState.{FrameState}
use Rattle.cilk_scheduler.specs.Events.{SeesAt}
use Rattle.cilk_scheduler.specs.FrameStates.{seated}

-- what a callee is given exists, for a frame with this scope
abbrev pub MayBegin : Scope ℕ Instance → Callee → Type 0
MayBegin scope callees.Root = ⊥
MayBegin scope (callees.Function c) = AreSmall c.reducers × ResultFits scope c.result
MayBegin scope (callees.Loop l) = l.up ≤ 1

-- the function whose reducers a callee's frame creates
abbrev pub creator_of : Callee → Option ℕ
creator_of callees.Root = None
creator_of (callees.Function c) = Some c.function
creator_of (callees.Loop l) = None

-- The frame of a callee that frame k starts for a worker, with its first cell at this index. It is
-- the next of all frames, is before its begin, and sees what the callee's frame sees.
pub record IsChild (code : CodeView) (frames : List (Activation FrameState)) (k worker base : ℕ) (how : Invocation) (callee : Callee) (a : Activation FrameState) : Type 0 where
  pub cursor : CursorView
  pub stands : (p : Source) (inputs : List ℤ) → Behaves p code → CalleeIsFit p callee → Stands code inputs p callee cursor [] 0
  pub owes : cursor.owed ≡ owed_for Begin
  pub frame_state : (top : Activation FrameState) → slice_get frames k ≡ Some top → a.cursor ≡ seated k (let x = top.cursor in x.children + 1) how worker cursor
  pub number : a.number ≡ length frames + 1
  pub base_is : a.base ≡ base
  pub sees : (p : Source) (scope : Scope ℕ Instance) → SeesAt frames k scope → HasScope frames a (home_of p callee (length frames + 1) base (given_to callee scope) ∷ outer_of callee scope)
  pub result : (scope : Scope ℕ Instance) → SeesAt frames k scope → a.result ≡ result_of callee scope
  pub creator : a.creator ≡ creator_of callee
