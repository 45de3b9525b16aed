-- The marks of a trace: what its lines are to strands.
use Rattle.std.specs.Prelude.{List, [], ◌∷◌, ◌++◌, Option, Some, None}
use Rattle.cilk_types.specs.declared.invocation.Invocation.{Invocation}
use Rattle.cilk_tree.specs.declared.mark.Mark.{Mark}
use Rattle.cilk_tree.specs.declared.mark.Mark.TheVariants.{Begin, End, Sync, Resume, Call}
use Rattle.cilk_tree.specs.Shape.{Shape, SpellsMarks, start_of}
use Rattle.cilk_trace.specs.declared.line.Line.{Line}
use Rattle.cilk_trace.specs.declared.line.Line.TheVariants as lines
use Rattle.cilk_trace.specs.Frames.{ends, Nests}

-- the event that starts a frame, by how the frame ends
abbrev pub started : Option Invocation → Mark
started None = Call
started (Some how) = start_of how

-- The marks of a line, before these later lines. A frame syncs before it ends, and its parent resumes. An access is in the strand
-- that was begun last, and has no mark.
abbrev pub marks_at : Line → List Line → List Mark
marks_at (lines.Enter s) later = started (ends 0 later) ∷ Begin ∷ []
marks_at lines.Spawned later = Sync ∷ End ∷ Resume ∷ []
marks_at lines.Called later = Sync ∷ End ∷ Resume ∷ []
marks_at lines.Sync later = Sync ∷ []
marks_at lines.End later = Sync ∷ End ∷ []
marks_at (lines.Read c s) later = []
marks_at (lines.Write c s) later = []
marks_at (lines.Clear c) later = []
marks_at (lines.Unseen c) later = []
marks_at (lines.Create r s) later = []
marks_at (lines.Update r s) later = []
marks_at (lines.Value r s) later = []
marks_at (lines.Retire r s) later = []

abbrev pub marks_after : List Line → List Mark
marks_after [] = []
marks_after (l ∷ ls) = marks_at l ls ++ marks_after ls

-- the marks of a trace, from the root's beginning on
abbrev pub marks_of : List Line → List Mark
marks_of ls = Begin ∷ marks_after ls

-- a trace whose frames nest spells a shape
abbrev pub TracesHaveShapes : Type 0
TracesHaveShapes = (ls : List Line) → Nests 0 ls → (s : Shape) × SpellsMarks s (marks_of ls)
