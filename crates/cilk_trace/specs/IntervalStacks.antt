-- The open intervals as they are kept: all children in one list, the last one last, and marks where each frame's begin.
use Rattle.std.specs.Prelude.{ℕ, zero, suc, ◌-◌, ◌<◌, Bool, false, ◌&&◌, ◌||◌, nat_eq, nat_lt, nat_le, if◌then◌else◌, List, [], ◌∷◌, ◌++◌, length, take, slice_index_or}
use Rattle.cilk_trace.specs.declared.line.Line.{Line}
use Rattle.cilk_trace.specs.declared.line.Line.TheVariants as lines
use Rattle.cilk_trace.specs.declared.intervals.Child.{Child}
use Rattle.cilk_trace.specs.declared.intervals.OpenFrame.{OpenFrame}
use Rattle.cilk_trace.specs.declared.intervals.Order.{Order}
use Rattle.cilk_trace.specs.declared.intervals.Order.TheVariants as orders
use Rattle.cilk_trace.specs.Opened.{Frame, Open}

-- The children of the innermost frame are those from `mark` on.
pub record IntervalStack : Type 0 where
  pub children : List Child
  pub frames : List OpenFrame
  pub mark : ℕ
  pub first : ℕ

-- children as they are kept
abbrev pub ascending : List Child → List Child
ascending [] = []
ascending (k ∷ ks) = ascending ks ++ k ∷ []

abbrev pub ascending_outer : List Frame → List Child
ascending_outer [] = []
ascending_outer (f ∷ fs) = ascending_outer fs ++ ascending f.children

abbrev pub frames_of : List Frame → List OpenFrame
frames_of [] = []
frames_of (f ∷ fs) = record { enter = f.enter; mark = length (ascending_outer fs) } ∷ frames_of fs

-- how open intervals are kept
abbrev pub stack_of : Open → IntervalStack
stack_of o = record { children = ascending_outer o.outer ++ ascending o.children; frames = frames_of o.outer; mark = length (ascending_outer o.outer); first = o.first }

abbrev pub after_enter : ℕ → IntervalStack → IntervalStack
after_enter i s = record { children = s.children; frames = record { enter = i; mark = s.mark } ∷ s.frames; mark = length s.children; first = suc i }

abbrev pub after_sync : ℕ → IntervalStack → IntervalStack
after_sync i s = record { children = take s.mark s.children; frames = s.frames; mark = s.mark; first = suc i }

abbrev pub after_called : ℕ → IntervalStack → List OpenFrame → IntervalStack
after_called i s [] = record { children = take s.mark s.children; frames = []; mark = s.mark; first = suc i }
after_called i s (w ∷ ws) = record { children = take s.mark s.children; frames = ws; mark = w.mark; first = suc i }

abbrev pub child_at : List Child → ℕ → Child
child_at cs i = slice_index_or cs i (record { enter = 0; spawned = 0 })

-- The children with one more; the last one from `mark` on is joined to it, if it ended at the line before.
abbrev pub pushed : ℕ → Child → List Child → List Child
pushed mark k cs =
    if nat_lt mark (length cs) && nat_eq (suc (child_at cs (length cs - 1)).spawned) k.enter
    then (take (length cs - 1) cs ++ record { enter = (child_at cs (length cs - 1)).enter; spawned = k.spawned } ∷ [])
    else (cs ++ k ∷ [])

abbrev pub after_spawned : ℕ → IntervalStack → List OpenFrame → IntervalStack
after_spawned i s [] = record { children = take s.mark s.children; frames = []; mark = s.mark; first = suc i }
after_spawned i s (w ∷ ws) = record { children = pushed w.mark (record { enter = w.enter; spawned = i }) (take s.mark s.children); frames = ws; mark = w.mark; first = suc i }

-- after the line with index i
abbrev pub stack_after : ℕ → Line → IntervalStack → IntervalStack
stack_after i (lines.Enter site) s = after_enter i s
stack_after i lines.Spawned s = after_spawned i s s.frames
stack_after i lines.Called s = after_called i s s.frames
stack_after i lines.Sync s = after_sync i s
stack_after i lines.End s = after_sync i s
stack_after i (lines.Read c site) s = s
stack_after i (lines.Write c site) s = s
stack_after i (lines.Clear c) s = s
stack_after i (lines.Unseen c) s = s
stack_after i (lines.Create r site) s = s
stack_after i (lines.Update r site) s = s
stack_after i (lines.Value r site) s = s
stack_after i (lines.Retire r site) s = s

-- the children are apart, and ascend
pub record IsAscending (cs : List Child) : Type 0 where
  pub each : (i : ℕ) → i < length cs → (child_at cs i).enter < (child_at cs i).spawned
  pub apart : (i j : ℕ) → i < j → j < length cs → (child_at cs i).spawned < (child_at cs j).enter

-- whether line n is in one of the children
abbrev pub is_among : List Child → ℕ → Bool
is_among [] n = false
is_among (k ∷ ks) n = (nat_lt k.enter n && nat_le n k.spawned) || is_among ks n

-- how the line at a position, from 1, is to the current strand; 0 is no line
abbrev pub order_at : IntervalStack → ℕ → Order
order_at o zero = orders.Series
order_at o (suc i) = if nat_lt i o.first then (if is_among o.children i then orders.Parallel else orders.Series) else orders.Same
