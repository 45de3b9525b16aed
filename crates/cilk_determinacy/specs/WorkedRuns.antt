-- Worked programs as nested runs, with the lists of their events. Here frames are started as
-- numbers.
use Rattle.std.specs.Prelude.{◌≡◌, ℕ, zero, suc, ℤ, pos, ◌+ℤ◌, cond, List, [], ◌∷◌, length, Option, slice_get}
use Rattle.cilk_types.specs.declared.event.Event as numbers
use Rattle.cilk_types.specs.declared.event.Event.TheVariants as events
use Rattle.cilk_types.specs.declared.event.Instance as numbered
use Rattle.cilk_monoid.specs.declared.kind.MonoidKind.TheVariants.{Add}
use Rattle.cilk_types.specs.declared.invocation.Invocation.TheVariants.{Spawn}
use Rattle.cilk_tree.specs.Tree.{tree}
use Rattle.cilk_tree.specs.Races.{IsRace, HasNoRace}
use Rattle.cilk_peers.specs.ViewRaces.{IsViewRace}
use Rattle.cilk_determinacy.specs.Runs.{Cell, Global, Own, same_cell, Instance, Reducer, Ask, Read, Write, Invoke, Sync, End, Pass, Begin, Resume, Event, Reads, Writes, Syncs, Ends, Passes, Begins, Resumes, Creates, Updates, Values, Deed, Run, stop, act, child}
use Rattle.cilk_determinacy.specs.Costs.{Costs, Total, TickTotal, EventTotal, FrameTotal, CellTotal}
use Rattle.cilk_monoid.specs.Laws.{MonoidStructure}
use Rattle.cilk_determinacy.specs.Traces.{trace, shape_of, AreWritten}
use Rattle.cilk_determinacy.specs.MachineTheorem.{IsNestedSerialRun, HasNoRaces, IsDeterminate, follows}

-- a frame begins
abbrev pub begin : Event
begin = Passes Begins

-- a parent resumes after its child
abbrev pub resume : Event
resume = Passes Resumes

-- a frame ends with 0 and retires nothing
abbrev pub end : Event
end = Ends (pos 0) []

-- the only global is cell 0, and the root's variables follow
abbrev pub cell_number : Cell → ℕ
cell_number (Global n) = n
cell_number (Own frame n) = suc n

-- each program has at most one reducer
abbrev pub instance_number : Instance → numbered.Instance
instance_number i = record { frame = 1; place = 1 }

-- the list is that of the run, by these numbers
abbrev pub Lists : Run ℕ → List numbers.Event → Type 0
Lists t es = AreWritten cell_number instance_number (trace t) es

-- x = cilk_spawn one(); y = x;
abbrev pub early_read : Run ℕ
early_read =
    act begin (act (Writes (Own [] 0) (pos 0)) (act (Writes (Own [] 1) (pos 0))
    (child Spawn 1 (act begin (act Syncs (act (Writes (Own [] 0) (pos 1)) (act end stop))))
    (act resume (act (Reads (Own [] 0) (pos 1)) (act (Writes (Own [] 1) (pos 1)) (act Syncs (act (Reads (Own [] 1) (pos 1)) (act Syncs (act end stop))))))))))

abbrev pub early_read_events : List numbers.Event
early_read_events =
    events.Begin 1 ∷ events.Write 1 (pos 0) ∷ events.Write 2 (pos 0) ∷ events.Spawn 2
    ∷ events.Begin 2 ∷ events.Sync ∷ events.Write 1 (pos 1) ∷ events.End
    ∷ events.Resume 1 ∷ events.Read 1 (pos 1) ∷ events.Write 2 (pos 1) ∷ events.Sync ∷ events.Read 2 (pos 1) ∷ events.Sync ∷ events.End ∷ []

-- the positions p and q race, and no others do
pub record RaceOnlyAt (t : Run ℕ) (es : List numbers.Event) (p q : ℕ) : Type 0 where
  pub lists : Lists t es
  pub race : IsRace (tree (shape_of t)) es p q
  pub only : (p' q' : ℕ) → IsRace (tree (shape_of t)) es p' q' → (p' ≡ p) × (q' ≡ q)

-- the child's result is written while the parent reads it
abbrev pub EarlyReadRaces : Type 0
EarlyReadRaces = (length early_read_events ≡ 15) × RaceOnlyAt early_read early_read_events 7 10

-- two spawned children that read one global, with their results in two variables
abbrev pub both_read : Run ℕ
both_read =
    act begin (act (Writes (Own [] 0) (pos 0)) (act (Writes (Own [] 1) (pos 0))
    (child Spawn 1 (act begin (act (Reads (Global 0) (pos 7)) (act Syncs (act (Writes (Own [] 0) (pos 7)) (act end stop)))))
    (act resume
    (child Spawn 2 (act begin (act (Reads (Global 0) (pos 7)) (act Syncs (act (Writes (Own [] 1) (pos 7)) (act end stop)))))
    (act resume (act Syncs (act (Reads (Own [] 0) (pos 7)) (act (Reads (Own [] 1) (pos 7)) (act Syncs (act end stop)))))))))))

abbrev pub both_read_events : List numbers.Event
both_read_events =
    events.Begin 1 ∷ events.Write 1 (pos 0) ∷ events.Write 2 (pos 0) ∷ events.Spawn 2
    ∷ events.Begin 2 ∷ events.Read 0 (pos 7) ∷ events.Sync ∷ events.Write 1 (pos 7) ∷ events.End
    ∷ events.Resume 1 ∷ events.Spawn 3
    ∷ events.Begin 3 ∷ events.Read 0 (pos 7) ∷ events.Sync ∷ events.Write 2 (pos 7) ∷ events.End
    ∷ events.Resume 1 ∷ events.Sync ∷ events.Read 1 (pos 7) ∷ events.Read 2 (pos 7) ∷ events.Sync ∷ events.End ∷ []

-- two reads do not race, and each result has a variable of its own
abbrev pub TwoReadsDoNotRace : Type 0
TwoReadsDoNotRace = Lists both_read both_read_events × HasNoRace (tree (shape_of both_read)) both_read_events

-- two spawned children that write one global
abbrev pub two_writes : Run ℕ
two_writes =
    act begin
    (child Spawn 1 (act begin (act (Writes (Global 0) (pos 1)) (act Syncs (act end stop))))
    (act resume
    (child Spawn 1 (act begin (act (Writes (Global 0) (pos 1)) (act Syncs (act end stop))))
    (act resume (act Syncs (act (Reads (Global 0) (pos 1)) (act Syncs (act end stop))))))))

abbrev pub two_writes_events : List numbers.Event
two_writes_events =
    events.Begin 1 ∷ events.Spawn 2 ∷ events.Begin 2 ∷ events.Write 0 (pos 1) ∷ events.Sync ∷ events.End
    ∷ events.Resume 1 ∷ events.Spawn 3 ∷ events.Begin 3 ∷ events.Write 0 (pos 1) ∷ events.Sync ∷ events.End
    ∷ events.Resume 1 ∷ events.Sync ∷ events.Read 0 (pos 1) ∷ events.Sync ∷ events.End ∷ []

-- the writes, at positions 4 and 10, race
abbrev pub TwoWritesRace : Type 0
TwoWritesRace = RaceOnlyAt two_writes two_writes_events 4 10

-- The asks of the root and its two children, in order, whatever the answers.
abbrev pub script : ℕ → List (Ask ℕ)
script zero = Pass Begin ∷ Write (Own [] 0) (pos 0) ∷ Write (Own [] 1) (pos 0) ∷ Invoke Spawn 1 ∷ Pass Resume ∷ Invoke Spawn 2 ∷ Pass Resume ∷ Sync ∷ Read (Own [] 0) ∷ Read (Own [] 1) ∷ Sync ∷ End (pos 0) [] ∷ []
script (suc zero) = Pass Begin ∷ Read (Global 0) ∷ Sync ∷ Write (Own [] 0) (pos 7) ∷ End (pos 0) [] ∷ []
script (suc (suc n)) = Pass Begin ∷ Read (Global 0) ∷ Sync ∷ Write (Own [] 1) (pos 7) ∷ End (pos 0) [] ∷ []

-- a frame's next ask after these deeds
abbrev pub asked : ℕ → List (Deed ℕ) → Option (Ask ℕ)
asked w past = slice_get (script w) (length past)

-- each reducer is a sum
abbrev pub sum : Instance → MonoidStructure ℤ
sum i = record { unit = pos 0; combine = λ a b. a +ℤ b; single = λ a. a; number = λ a. a; size = λ a. 0 }

-- the global holds 7, the variables 0
abbrev pub opening : Cell → ℤ
opening c = cond (same_cell c (Global 0)) (pos 7) (pos 0)

-- the totals of the opening state: the root is a frame, and the global and its two variables are
-- cells
abbrev pub used : Total → ℕ
used TickTotal = 0
used EventTotal = 0
used FrameTotal = 1
used CellTotal = 3

-- limits that this run just meets
abbrev pub limit : Total → ℕ
limit TickTotal = 22
limit EventTotal = 22
limit FrameTotal = 3
limit CellTotal = 7

-- each ask costs one tick, and each frame has two cells
abbrev pub costs : Costs ℕ
costs = record { ticks = λ w past. 1; cells = λ w. 2; used = used; limit = limit }

-- the premises of the theorem can be met: this is the serial run of that program
abbrev pub BothReadRuns : Type 0
BothReadRuns = IsNestedSerialRun ℕ ℤ sum (follows asked) costs 0 both_read opening

-- and the theorem applies to it
abbrev pub BothReadIsDeterminate : Type 0
BothReadIsDeterminate = HasNoRaces both_read × IsDeterminate ℕ ℤ sum (follows asked) costs 0 both_read opening

-- a sum that the root created
abbrev pub reducer : Instance
reducer = Reducer [] 1 Add

-- update(r, 1) in a spawned child; x = value(r) before the sync
abbrev pub early_value : Run ℕ
early_value =
    act begin (act (Passes (Creates reducer)) (act (Writes (Own [] 0) (pos 0))
    (child Spawn 1 (act begin (act (Passes (Updates reducer (pos 1))) (act Syncs (act end stop))))
    (act resume (act (Passes (Values reducer (pos 1))) (act (Writes (Own [] 0) (pos 1)) (act Syncs (act (Reads (Own [] 0) (pos 1)) (act Syncs (act end stop))))))))))

abbrev pub early_value_events : List numbers.Event
early_value_events =
    let r = instance_number reducer in
    events.Begin 1 ∷ events.Create r ∷ events.Write 1 (pos 0) ∷ events.Spawn 2
    ∷ events.Begin 2 ∷ events.Update r (pos 1) ∷ events.Sync ∷ events.End
    ∷ events.Resume 1 ∷ events.Value r (pos 1) ∷ events.Write 1 (pos 1) ∷ events.Sync ∷ events.Read 1 (pos 1) ∷ events.Sync ∷ events.End ∷ []

-- the value, at position 10, is parallel to the child, and the creation, at position 2, is not
abbrev pub EarlyValueRaces : Type 0
EarlyValueRaces = Lists early_value early_value_events × IsViewRace (tree (shape_of early_value)) early_value_events 2 10
