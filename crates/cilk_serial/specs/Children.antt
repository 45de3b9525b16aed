-- Frames that have been made but haven't begun.
use Rattle.std.specs.Prelude.{◌≡◌, ℤ, List, [], ◌∷◌, length}
use Rattle.cilk_program.specs.declared.ask.Ask.TheVariants.{Begin}
use Rattle.cilk_program.specs.declared.ask.Callee.{Callee}
use Rattle.cilk_program.specs.Inside.{CalleeIsFit}
use Rattle.cilk_program.specs.Syntax.{Source}
use Rattle.cilk_program.specs.SerialRun.{Frame, Memory, next_frame}
use Rattle.cilk_lower.specs.Behaves.{Behaves}
use Rattle.cilk_lower.specs.Code.{CodeView}
use Rattle.cilk_frames.specs.Following.{Stands, owed_for}
use Rattle.cilk_serial.specs.declared.state.State.{State}
use Rattle.cilk_serial.specs.Scoped.{Activation, Frames, MayBegin, Parent, Scoped, Seen}
use Rattle.cilk_serial.specs.States.{Shows}

-- the frame of a callee that the running frame begins, with the next number and the next cells
pub record IsChild (code : CodeView) (s : State) (frames : Frames) (callee : Callee) (a : Activation) : Type 0 where
  pub stands : (p : Source) (inputs : List ℤ) → Behaves p code → CalleeIsFit p callee → Stands code inputs p callee a.cursor [] 0
  pub owes : a.cursor.owed ≡ owed_for Begin
  pub scoped : (p : Source) (fr : Frame) (parents : List Parent) (m : Memory) (q : Parent) → Seen p frames fr parents → MayBegin p fr (length s.cells.items) callee → Shows s m → q.frame ≡ fr
      → Scoped p a (next_frame p fr.scope m callee) (q ∷ parents)
