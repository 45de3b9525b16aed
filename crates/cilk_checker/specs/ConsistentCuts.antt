-- The states of a determinate program as consistent cuts of its serial run, by positions: which
-- events are made, what cells hold, and which ranges pieces cover with which views. A position is an
-- index into the run's list of events, from 0; `IsClosedBefore` counts the same list from 1.
use Rattle.std.specs.Prelude.{◌≡◌, ◌⊎◌, ◌≤◌, ◌<◌, ℕ, zero, suc, ◌+◌, ℤ, cond, nat_lt, Bool, true, List, [], ◌∷◌, ◌++◌, length, map, take, drop, Option, Some, None, slice_get}
use Rattle.cilk_types.specs.declared.event.Event.{Event}
use Rattle.cilk_types.specs.declared.outcome.Outcome.{Outcome}
use Rattle.cilk_program.specs.Sources.{source}
use Rattle.cilk_program.specs.Syntax.{Source}
use Rattle.cilk_program.specs.Outcomes.{Leaves}
use Rattle.cilk_program.specs.SerialRun.{Transcript, IsSerialRun}
use Rattle.cilk_tree.specs.Shape.{Shape, Spells}
use Rattle.cilk_tree.specs.Tree.{tree}
use Rattle.cilk_determinacy.specs.Runs.{Name, Cell, same_cell, Instance, Reads, Writes, Syncs, Ends, Passes, Deed, Does, Invokes, Run, stop, act, child}
use Rattle.cilk_determinacy.specs.Machine.{Frames, State, deeds_at}
use Rattle.cilk_determinacy.specs.CutPositions.{IsClosedBefore}
use Rattle.cilk_determinacy.specs.Traces.{trace, AreWritten}
use Rattle.cilk_determinacy.specs.Stretches.{Stretch, Held, Ahead, covered, view_along}
use Rattle.cilk_determinacy.specs.Monoids.{unit_of}
use Rattle.cilk_determinacy.specs.Reducers.{View, monoid_of}
use Rattle.cilk_determinacy.specs.FrameEnvs.{FrameEnv}
use Rattle.cilk_determinacy.specs.FrameEnvMachine.{opening_values}
use Rattle.cilk_determinacy.specs.Steps.{Reaches}
use Rattle.cilk_determinacy.specs.Nested.{named}
use Rattle.cilk_determinacy.specs.Numbers.{cell_number, instance_number}
use Rattle.cilk_checker.specs.Determinate.{AcceptedRun}

-- the frame of an event, and how many deeds that frame makes before it
pub record Place : Type 0 where
  pub frame : Name
  pub earlier : ℕ

-- the places of a run's events, in serial order; frame n has made `earlier` deeds before, and its
-- next child has ordinal k
abbrev pub places : {W : Type 0} → Run W → Name → ℕ → ℕ → List Place
places stop n earlier k = []
places (act e r) n earlier k = record { frame = n; earlier = earlier } ∷ places r n (suc earlier) k
places (child b w u r) n earlier k = record { frame = n; earlier = earlier } ∷ (places u (n ++ k ∷ []) 0 1 ++ places r n (suc earlier) (suc k))

-- the frame has made the event of this place
abbrev pub has_made : {W : Type 0} → Frames W → Place → Bool
has_made frames place = nat_lt place.earlier (length (deeds_at (frames place.frame)))

-- for each position of the run, whether a state has made its event
abbrev pub made_in : {W : Type 0} → Run W → Frames W → List Bool
made_in t frames = map (has_made frames) (places t [] 0 1)

-- the value that a deed writes to a cell, if it does
abbrev pub write_of : {W : Type 0} → Cell → Deed W → Option ℤ
write_of c (Does (Reads b v)) = None
write_of c (Does (Writes b v)) = cond (same_cell b c) (Some v) None
write_of c (Does Syncs) = None
write_of c (Does (Ends v gone)) = None
write_of c (Does (Passes m)) = None
write_of c (Invokes k w) = None

abbrev pub write_at : {W : Type 0} → Cell → List (Deed W) → ℕ → Option ℤ
write_at c [] p = None
write_at c (d ∷ ds) zero = write_of c d
write_at c (d ∷ ds) (suc p) = write_at c ds p

abbrev pub IsMade : List Bool → ℕ → Type 0
IsMade made p = slice_get made p ≡ Some true

-- the value is that of the last write to the cell that is made, in serial order, or the opening
-- value if none is
abbrev pub IsLastWrite : {W : Type 0} → List Bool → List (Deed W) → Cell → ℤ → ℤ → Type 0
IsLastWrite made deeds c opening value =
    ((p : ℕ) × IsMade made p × (write_at c deeds p ≡ Some value) × ((q : ℕ) → p < q → IsMade made q → write_at c deeds q ≡ None))
    ⊎ ((value ≡ opening) × ((q : ℕ) → IsMade made q → write_at c deeds q ≡ None))

-- a piece, by the frame that holds it, with the first position of its range and its length
pub record Range : Type 0 where
  pub holder : Name
  pub from : ℕ
  pub many : ℕ

-- the ranges that pieces cover, where the stretches begin at this position
abbrev pub ranges : ℕ → List Stretch → List Range
ranges at [] = []
ranges at (Held n many ∷ ss) = record { holder = n; from = at; many = many } ∷ ranges (at + many) ss
ranges at (Ahead many ∷ ss) = ranges (at + many) ss

abbrev pub IsIn : Range → ℕ → Type 0
IsIn x p = (x.from ≤ p) × (p < x.from + x.many)

-- the events of a range
abbrev pub within : {W : Type 0} → Range → List (Deed W) → List (Deed W)
within x deeds = take x.many (drop x.from deeds)

-- Each piece has one range, without gaps. The ranges don't overlap, and together they are the
-- events made. For each reducer, a piece has the view of its range alone.
pub record ArePieces (made : List Bool) (deeds : List (Deed FrameEnv)) (piece : Name → Instance → View) (list : List Range) : Type 0 where
  pub one : (a b : ℕ) (x y : Range) → slice_get list a ≡ Some x → slice_get list b ≡ Some y → x.holder ≡ y.holder → a ≡ b
  pub apart : (a b p : ℕ) (x y : Range) → slice_get list a ≡ Some x → slice_get list b ≡ Some y → IsIn x p → IsIn y p → a ≡ b
  pub only : (a p : ℕ) (x : Range) → slice_get list a ≡ Some x → IsIn x p → IsMade made p
  pub all : (p : ℕ) → IsMade made p → (a : ℕ) × (x : Range) × (slice_get list a ≡ Some x) × IsIn x p
  pub views : (a : ℕ) (x : Range) → slice_get list a ≡ Some x → (i : Instance) → piece x.holder i ≡ view_along (monoid_of i) i (within x deeds) (unit_of monoid_of i)

-- The state is a consistent cut of the serial run with this transcript, whose events have this list
-- and this shape: with each event that is made, each event before it is made; cells hold the last
-- writes made; pieces cover ranges, with their views.
pub record IsConsistentCut (p : Source) (inputs : List ℤ) (r : Transcript) (shape : Shape) (es : List Event) (s : State FrameEnv View) : Type 0 where
  pub written : AreWritten (cell_number p r) (instance_number p r) (trace (named p r)) es
  pub before : IsClosedBefore es (tree shape) (made_in (named p r) s.frames)
  pub memory : (c : Cell) → IsLastWrite (made_in (named p r) s.frames) (trace (named p r)) c (opening_values p inputs c) (s.memory c)
  pub pieces : ArePieces (made_in (named p r) s.frames) (trace (named p r)) s.piece (ranges 0 (covered (named p r) s))

-- its serial run has the events and the outcome, and every state that steps lead to is a consistent
-- cut of it
pub record AllAreCuts (p : Source) (inputs : List ℤ) (es : List Event) (o : Outcome) : Type 0 where
  pub run : Transcript
  pub shape : Shape
  pub serial : IsSerialRun p inputs run es (Leaves o)
  pub spells : Spells shape es
  pub cuts : (ns : List Name) (s : State FrameEnv View) → Reaches p inputs ns s → IsConsistentCut p inputs run shape es s

abbrev pub HasConsistentCuts : AcceptedRun → Type 0
HasConsistentCuts a = AllAreCuts (source a.program) a.input a.trace a.outcome
