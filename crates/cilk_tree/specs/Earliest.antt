-- The earliest immediate predecessor of each event, found in one pass that keeps only the earliest
-- of each list.
use Rattle.std.specs.Prelude.{ℕ, suc, nat_lt, if◌then◌else◌, List, [], ◌∷◌, map, Option, Some, None}
use Rattle.cilk_types.specs.declared.event.Event.{Event}
use Rattle.cilk_types.specs.declared.invocation.Invocation.{Invocation}
use Rattle.cilk_types.specs.declared.invocation.Invocation.TheVariants as invocations
use Rattle.cilk_tree.specs.declared.mark.Mark.{Mark}
use Rattle.cilk_tree.specs.declared.mark.Mark.TheVariants.{Begin, End, Sync, Resume, Spawn, Call, Plain}
use Rattle.cilk_tree.specs.declared.earliest.Parent.{Parent}
use Rattle.cilk_tree.specs.Passes.{predecessors_in}

-- the earlier of two positions, or the only one there is
abbrev pub sooner : Option ℕ → Option ℕ → Option ℕ
sooner None b = b
sooner (Some a) None = Some a
sooner (Some a) (Some b) = if nat_lt b a then Some b else Some a

-- the earliest of a list of positions
abbrev pub earliest : List ℕ → Option ℕ
earliest [] = None
earliest (p ∷ ps) = sooner (Some p) (earliest ps)

-- the state of the pass: the earliest predecessor of the next event, the earliest `end` that the
-- current block awaits, and the frames that wait for a child's end
pub record Known : Type 0 where
  pub ahead : Option ℕ
  pub ends : Option ℕ
  pub waiting : List Parent

abbrev pub nothing : Known
nothing = record { ahead = None; ends = None; waiting = [] }

-- the earliest predecessor of the next event
abbrev pub given : Mark → Known → Option ℕ
given Sync k = sooner k.ahead k.ends
given Plain k = k.ahead
given Begin k = k.ahead
given Resume k = k.ahead
given Spawn k = k.ahead
given Call k = k.ahead
given End k = k.ahead

abbrev pub ahead_of : Invocation → ℕ → ℕ → Option ℕ
ahead_of invocations.Call start end = Some end
ahead_of invocations.Spawn start end = Some start

abbrev pub ends_of : Invocation → ℕ → Option ℕ → Option ℕ
ends_of invocations.Call end ends = ends
ends_of invocations.Spawn end ends = sooner (Some end) ends

-- a frame has ended at p, and the frame that waits for it continues
abbrev pub returned : ℕ → Option ℕ → List Parent → Known
returned p ends [] = record { ahead = Some p; ends = ends; waiting = [] }
returned p ends (w ∷ ws) = record { ahead = ahead_of w.how w.at p; ends = ends_of w.how p w.ends; waiting = ws }

abbrev pub starts : Invocation → ℕ → Known → Known
starts how p k = record { ahead = Some p; ends = None; waiting = record { how = how; at = p; ends = k.ends } ∷ k.waiting }

abbrev pub goes_on : ℕ → Option ℕ → Known → Known
goes_on p ends k = record { ahead = Some p; ends = ends; waiting = k.waiting }

-- the state after the event at p
abbrev pub met : Mark → ℕ → Known → Known
met Sync p k = goes_on p None k
met Plain p k = goes_on p k.ends k
met Begin p k = goes_on p k.ends k
met Resume p k = goes_on p k.ends k
met Spawn p k = starts invocations.Spawn p k
met Call p k = starts invocations.Call p k
met End p k = returned p k.ends k.waiting

-- from position p
abbrev pub earliest_from : List Mark → ℕ → Known → List (Option ℕ)
earliest_from [] p k = []
earliest_from (m ∷ ms) p k = given m k ∷ earliest_from ms (suc p) (met m p k)

-- for each event of a list
abbrev pub all_earliest : List Event → List (Option ℕ)
all_earliest events = map earliest (predecessors_in events)

-- a position as a number: 0, which is no position, where there is none
abbrev pub number_of : Option ℕ → ℕ
number_of None = 0
number_of (Some p) = p
