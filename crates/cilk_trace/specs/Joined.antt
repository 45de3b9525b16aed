-- Intervals where a child that follows another one at once is joined to it, as the turns of a loop are.
use Rattle.std.specs.Prelude.{⊤, ◌≡◌, true, ℕ, suc, ◌↔◌, List, [], ◌∷◌, nat_eq, if◌then◌else◌, Option, Some, slice_get}
use Rattle.cilk_trace.specs.declared.line.Line.{Line}
use Rattle.cilk_trace.specs.declared.line.Line.TheVariants as lines
use Rattle.cilk_trace.specs.declared.intervals.Child.{Child}
use Rattle.cilk_trace.specs.IntervalStacks.{IntervalStack, is_among, stack_of, IsAscending}
use Rattle.cilk_trace.specs.Opened.{Frame, Open, opening, after_line, opened, IsOpen}

-- with one child more
abbrev pub joined : Child → List Child → List Child
joined k [] = k ∷ []
joined k (c ∷ cs) = if nat_eq (suc c.spawned) k.enter then record { enter = c.enter; spawned = k.spawned } ∷ cs else k ∷ c ∷ cs

abbrev pub spawned_on : ℕ → Open → List Frame → Open
spawned_on i o [] = record { children = []; outer = []; first = suc i }
spawned_on i o (f ∷ fs) = record { children = joined (record { enter = f.enter; spawned = i }) f.children; outer = fs; first = suc i }

abbrev pub join_line : ℕ → Line → Open → Open
join_line i lines.Spawned o = spawned_on i o o.outer
join_line i l o = after_line i l o

abbrev pub joined_from : ℕ → Open → List Line → Open
joined_from i o [] = o
joined_from i o (l ∷ ls) = joined_from (suc i) (join_line i l o) ls

abbrev pub joined_opened : List Line → Open
joined_opened ls = joined_from 0 opening ls

-- a line that enters a frame
abbrev pub IsEntry : Option Line → Type 0
IsEntry (Some (lines.Enter s)) = ⊤
IsEntry _ = ⊥

-- A line that enters no frame is in an interval exactly where it is without joining.
abbrev pub JoinedIsOpen : Type 0
JoinedIsOpen = (done : List Line) → ((joined_opened done).first ≡ (opened done).first) × ((j : ℕ) → (IsEntry (slice_get done j) → ⊥) → IsOpen (opened done) j ↔ IsOpen (joined_opened done) j)

-- how the intervals of these lines are kept
abbrev pub stack_at : List Line → IntervalStack
stack_at done = stack_of (joined_opened done)

-- What is kept ascends, and a line is among it exactly where it is in a joined interval.
abbrev pub JoinedIsKept : Type 0
JoinedIsKept = (done : List Line) → IsAscending (stack_at done).children × ((j : ℕ) → (is_among (stack_at done).children j ≡ true) ↔ IsOpen (joined_opened done) j)
