-- After a child its caller resumes.
use Rattle.std.specs.Prelude.{◌≡◌, ℕ, ℤ, List, [], ◌∷◌, ◌++◌, Some}
use Rattle.cilk_types.specs.declared.invocation.Invocation.{Invocation}
use Rattle.cilk_program.specs.declared.ask.Ask.TheVariants as asks
use Rattle.cilk_program.specs.declared.ask.Callee.{Callee}
use Rattle.cilk_program.specs.Behaviour.{frame_asks}
use Rattle.cilk_program.specs.Syntax.{Source}
use Rattle.cilk_determinacy.specs.Runs.{Deed, Invokes, Invoke, Pass, Resume}
use Rattle.cilk_determinacy.specs.FrameEnvMachine.{next}
use Rattle.cilk_determinacy.specs.FrameEnvs.{FrameEnv}

-- Right after a child, called or spawned, a frame requests the `resume`, whatever the answer. It
-- uses no tick between the two, so no fault can come there.
pub record FramesResume : Type 0 where
  pub asked : (p : Source) (inputs : List ℤ) (callee : Callee) (answers : List ℤ) (answer : ℤ) (ticks : ℕ) (how : Invocation) (child : Callee)
      → (frame_asks p inputs callee answers ticks).ask ≡ asks.Invoke how child → (frame_asks p inputs callee (answers ++ answer ∷ []) ticks).ask ≡ asks.Resume
  -- the same by names
  pub next_is : (p : Source) (inputs : List ℤ) (w : FrameEnv) (past : List (Deed FrameEnv)) (how : Invocation) (child : FrameEnv)
      → next p inputs w past ≡ Some (Invoke how child) → next p inputs w (past ++ Invokes how child ∷ []) ≡ Some (Pass Resume)
