-- The immediate predecessors of a run's events, found in one pass with a stack of the frames that
-- wait for a child's end.
use Rattle.std.specs.Prelude.{◌≡◌, ℕ, suc, List, [], ◌∷◌, ◌++◌, map}
use Rattle.cilk_types.specs.declared.event.Event.{Event}
use Rattle.cilk_types.specs.declared.invocation.Invocation.{Invocation}
use Rattle.cilk_types.specs.declared.invocation.Invocation.TheVariants as invocations
use Rattle.cilk_tree.specs.declared.mark.Mark.{Mark}
use Rattle.cilk_tree.specs.declared.mark.Mark.TheVariants.{Begin, End, Sync, Resume, Spawn, Call, Plain}
use Rattle.cilk_tree.specs.Marks.{mark_of}
use Rattle.cilk_tree.specs.Shape.{Shape, Spells}
use Rattle.cilk_tree.specs.Reach.{resumed_from, awaited, predecessors}

-- a frame that waits for a child: how and where it started the child, and the `end`s that its block
-- awaits
pub record Waiting : Type 0 where
  pub how : Invocation
  pub at : ℕ
  pub ends : List ℕ

-- the predecessors of the events from position p; `ahead` are those of the first, and `ends` the
-- `end`s that the current block awaits
abbrev pub pass : List Mark → ℕ → List ℕ → List ℕ → List Waiting → List (List ℕ)
pass [] p ahead ends ws = []
pass (Plain ∷ ms) p ahead ends ws = ahead ∷ pass ms (suc p) (p ∷ []) ends ws
pass (Begin ∷ ms) p ahead ends ws = ahead ∷ pass ms (suc p) (p ∷ []) ends ws
pass (Resume ∷ ms) p ahead ends ws = ahead ∷ pass ms (suc p) (p ∷ []) ends ws
pass (Sync ∷ ms) p ahead ends ws = (ahead ++ ends) ∷ pass ms (suc p) (p ∷ []) [] ws
pass (Spawn ∷ ms) p ahead ends ws = ahead ∷ pass ms (suc p) (p ∷ []) [] (record { how = invocations.Spawn; at = p; ends = ends } ∷ ws)
pass (Call ∷ ms) p ahead ends ws = ahead ∷ pass ms (suc p) (p ∷ []) [] (record { how = invocations.Call; at = p; ends = ends } ∷ ws)
pass (End ∷ ms) p ahead ends [] = ahead ∷ pass ms (suc p) (p ∷ []) ends []
pass (End ∷ ms) p ahead ends (w ∷ ws) = ahead ∷ pass ms (suc p) (resumed_from w.how w.at p) (awaited w.how p w.ends) ws

-- for each event of a list
abbrev pub predecessors_in : List Event → List (List ℕ)
predecessors_in events = pass (map mark_of events) 1 [] [] []

-- The pass gives the immediate predecessors of the shape that the events spell.
abbrev pub PassGivesPredecessors : Type 0
PassGivesPredecessors = (shape : Shape) (events : List Event) → Spells shape events → predecessors_in events ≡ predecessors shape
