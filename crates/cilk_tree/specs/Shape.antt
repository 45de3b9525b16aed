-- The shape of a run: its frames, spawns, calls and syncs, without values.
use Rattle.std.specs.Prelude.{◌≡◌, List, [], ◌∷◌, ◌++◌, map}
use Rattle.cilk_types.specs.declared.event.Event.{Event}
use Rattle.cilk_types.specs.declared.invocation.Invocation.{Invocation}
use Rattle.cilk_types.specs.declared.invocation.Invocation.TheVariants as invocations
use Rattle.cilk_tree.specs.declared.mark.Mark.{Mark}
use Rattle.cilk_tree.specs.declared.mark.Mark.TheVariants.{Begin, End, Sync, Resume, Spawn, Call, Plain}
use Rattle.cilk_tree.specs.Marks.{mark_of}

-- The rest of a frame's events, with the frames that it starts: its end; an event that begins no
-- strand; a sync; or a child's start, the child's events after its `begin`, and the events after
-- the `resume` that follows the child. The shape of a frame is its events after its `begin`.
pub data Shape : Type 0 where
  finish : Shape
  act : (rest : Shape) → Shape
  sync : (rest : Shape) → Shape
  child : (how : Invocation) (inner : Shape) (rest : Shape) → Shape

-- the event that starts a child
abbrev pub start_of : Invocation → Mark
start_of invocations.Call = Call
start_of invocations.Spawn = Spawn

-- the events of a shape in serial order
abbrev pub marks : Shape → List Mark
marks finish = End ∷ []
marks (act r) = Plain ∷ marks r
marks (sync r) = Sync ∷ marks r
marks (child k u r) = start_of k ∷ Begin ∷ marks u ++ Resume ∷ marks r

-- the marks are those of a run of this shape
abbrev pub SpellsMarks : Shape → List Mark → Type 0
SpellsMarks s ms = ms ≡ Begin ∷ marks s

-- the events are those of a run of this shape
abbrev pub Spells : Shape → List Event → Type 0
Spells s events = SpellsMarks s (map mark_of events)

-- a list of events spells at most one shape
abbrev pub SpellsOneShape : Type 0
SpellsOneShape = (s t : Shape) (events : List Event) → Spells s events → Spells t events → s ≡ t
