-- How the frames of a trace nest, and how each of them ends.
use Rattle.std.specs.Prelude.{⊤, ℕ, zero, suc, List, [], ◌∷◌, Option, Some, None}
use Rattle.cilk_types.specs.declared.invocation.Invocation.{Invocation}
use Rattle.cilk_types.specs.declared.invocation.Invocation.TheVariants as invocations
use Rattle.cilk_trace.specs.declared.line.Line.{Line}
use Rattle.cilk_trace.specs.declared.line.Line.TheVariants as lines

-- How the frame ends that encloses these lines at this depth: by the first line that closes more frames than were entered. The
-- innermost frame has depth 0.
abbrev pub ends : ℕ → List Line → Option Invocation
ends d [] = None
ends d (lines.Enter s ∷ ls) = ends (suc d) ls
ends zero (lines.Spawned ∷ ls) = Some invocations.Spawn
ends (suc d) (lines.Spawned ∷ ls) = ends d ls
ends zero (lines.Called ∷ ls) = Some invocations.Call
ends (suc d) (lines.Called ∷ ls) = ends d ls
ends d (lines.Sync ∷ ls) = ends d ls
ends d (lines.Read c s ∷ ls) = ends d ls
ends d (lines.Write c s ∷ ls) = ends d ls
ends d (lines.Clear c ∷ ls) = ends d ls
ends d (lines.Unseen c ∷ ls) = ends d ls
ends d (lines.Create r s ∷ ls) = ends d ls
ends d (lines.Update r s ∷ ls) = ends d ls
ends d (lines.Value r s ∷ ls) = ends d ls
ends d (lines.Retire r s ∷ ls) = ends d ls
ends d (lines.End ∷ ls) = ends d ls

-- The lines close all frames that they enter, and d more, and then the root ends.
abbrev pub Nests : ℕ → List Line → Type 0
Nests d [] = ⊥
Nests d (lines.Enter s ∷ ls) = Nests (suc d) ls
Nests zero (lines.Spawned ∷ ls) = ⊥
Nests (suc d) (lines.Spawned ∷ ls) = Nests d ls
Nests zero (lines.Called ∷ ls) = ⊥
Nests (suc d) (lines.Called ∷ ls) = Nests d ls
Nests d (lines.Sync ∷ ls) = Nests d ls
Nests d (lines.Read c s ∷ ls) = Nests d ls
Nests d (lines.Write c s ∷ ls) = Nests d ls
Nests d (lines.Clear c ∷ ls) = Nests d ls
Nests d (lines.Unseen c ∷ ls) = Nests d ls
Nests d (lines.Create r s ∷ ls) = Nests d ls
Nests d (lines.Update r s ∷ ls) = Nests d ls
Nests d (lines.Value r s ∷ ls) = Nests d ls
Nests d (lines.Retire r s ∷ ls) = Nests d ls
Nests zero (lines.End ∷ []) = ⊤
Nests zero (lines.End ∷ (l ∷ ls)) = ⊥
Nests (suc d) (lines.End ∷ ls) = ⊥
