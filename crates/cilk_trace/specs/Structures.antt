-- The structure of a trace's lines so far, from which its marks are known at the end.
use Rattle.std.specs.Prelude.{◌≡◌, ℕ, List, [], ◌∷◌, ◌++◌, length, set, Bool, true, false, Option, Some, None, if◌then◌else◌}
use Rattle.cilk_tree.specs.declared.mark.Mark.{Mark}
use Rattle.cilk_tree.specs.declared.mark.Mark.TheVariants.{Begin, End, Sync, Resume, Spawn, Call}
use Rattle.cilk_trace.specs.declared.line.Line.{Line}
use Rattle.cilk_trace.specs.declared.line.Line.TheVariants as lines
use Rattle.cilk_trace.specs.Frames.{Nests}
use Rattle.cilk_trace.specs.Marks.{marks_of}

-- The marks so far, with a call for each open frame; the indices of these calls, innermost first; and whether the root has
-- ended.
pub record Noted : Type 0 where
  pub marks : List Mark
  pub begun : List ℕ
  pub ended : Bool

abbrev pub opening : Noted
opening = record { marks = Begin ∷ []; begun = []; ended = false }

-- a frame begins
abbrev pub entered : Noted → Noted
entered n = record { marks = n.marks ++ Call ∷ Begin ∷ []; begun = length n.marks ∷ n.begun; ended = n.ended }

-- the innermost frame ends, and was started by this mark
abbrev pub closed : Mark → Noted → List ℕ → Option Noted
closed how n [] = None
closed how n (k ∷ ks) = Some (record { marks = set n.marks k how ++ Sync ∷ End ∷ Resume ∷ []; begun = ks; ended = n.ended })

-- the root ends, if no other frame is open
abbrev pub over : Noted → List ℕ → Option Noted
over n [] = Some (record { marks = n.marks ++ Sync ∷ End ∷ []; begun = []; ended = true })
over n (k ∷ ks) = None

-- how many marks a line has
abbrev pub marks_in : Line → ℕ
marks_in (lines.Enter s) = 2
marks_in lines.Spawned = 3
marks_in lines.Called = 3
marks_in lines.Sync = 1
marks_in lines.End = 2
marks_in _ = 0

-- one line more, if it may come here, before the root's end
abbrev pub with_line : Line → Noted → Option Noted
with_line (lines.Enter s) n = Some (entered n)
with_line lines.Spawned n = closed Spawn n n.begun
with_line lines.Called n = closed Call n n.begun
with_line lines.Sync n = Some (record { marks = n.marks ++ Sync ∷ []; begun = n.begun; ended = n.ended })
with_line (lines.Read c s) n = Some n
with_line (lines.Write c s) n = Some n
with_line (lines.Clear c) n = Some n
with_line (lines.Unseen c) n = Some n
with_line (lines.Create r s) n = Some n
with_line (lines.Update r s) n = Some n
with_line (lines.Value r s) n = Some n
with_line (lines.Retire r s) n = Some n
with_line lines.End n = over n n.begun

-- one line more, if it may come here
abbrev pub noting : Line → Noted → Option Noted
noting l n = if n.ended then None else with_line l n

abbrev pub on : {A B : Type 0} → (A → Option B) → Option A → Option B
on f None = None
on f (Some x) = f x

-- these lines more, if they may come here
abbrev pub noted : List Line → Noted → Option Noted
noted [] n = Some n
noted (l ∷ ls) n = on (noted ls) (noting l n)

-- Where all lines of a text may come, up to the root's end, its frames nest and what is kept has its marks.
abbrev pub KeepsMarks : Type 0
KeepsMarks = (ls : List Line) (n : Noted) → noted ls opening ≡ Some n → n.ended ≡ true → Nests 0 ls × (n.marks ≡ marks_of ls)

-- Where a line may not come, no trace begins with these lines.
abbrev pub RefusesNoTrace : Type 0
RefusesNoTrace = (ls more : List Line) → noted ls opening ≡ None → Nests 0 (ls ++ more) → ⊥
