-- Order as reachability: an event is before those that it reaches by immediate predecessors.
use Rattle.std.specs.Prelude.{◌≡◌, ℕ, suc, ◌+◌, ◌-◌, ◌↔◌, List, [], ◌∷◌, ◌++◌, length, Some, slice_get, slice_index_or}
use Rattle.cilk_types.specs.declared.event.Event.{Event}
use Rattle.cilk_types.specs.declared.invocation.Invocation.{Invocation}
use Rattle.cilk_types.specs.declared.invocation.Invocation.TheVariants as invocations
use Rattle.cilk_tree.specs.Shape.{Shape, finish, act, sync, child, marks, Spells}
use Rattle.cilk_tree.specs.Tree.{tree}
use Rattle.cilk_tree.specs.Before.{IsPosition, IsBefore}

-- the predecessor of the `resume` after a child: the child's `end` after a call, the spawn after a
-- spawn
abbrev pub resumed_from : Invocation → ℕ → ℕ → List ℕ
resumed_from invocations.Call start end = end ∷ []
resumed_from invocations.Spawn start end = start ∷ []

-- the `end`s that the block's `sync` awaits after such a child
abbrev pub awaited : Invocation → ℕ → List ℕ → List ℕ
awaited invocations.Call end ends = ends
awaited invocations.Spawn end ends = end ∷ ends

-- The immediate predecessors of a shape's events, from position p. Those of the first event are
-- `ahead`, and `ends` are the `end`s of the children spawned in the block so far. A `sync` has the
-- event before it and those ends, the `resume` after a spawn has the spawn, and every other event
-- has the event before it.
abbrev pub predecessors_from : Shape → ℕ → List ℕ → List ℕ → List (List ℕ)
predecessors_from finish p ahead ends = ahead ∷ []
predecessors_from (act r) p ahead ends = ahead ∷ predecessors_from r (suc p) (p ∷ []) ends
predecessors_from (sync r) p ahead ends = (ahead ++ ends) ∷ predecessors_from r (suc p) (p ∷ []) []
predecessors_from (child k u r) p ahead ends =
    let end = suc p + length (marks u) in
    ahead ∷ (p ∷ []) ∷ predecessors_from u (suc (suc p)) (suc p ∷ []) []
    ++ (resumed_from k p end ∷ predecessors_from r (suc (suc end)) (suc end ∷ []) (awaited k end ends))

-- for each event of a run; the first has none
abbrev pub predecessors : Shape → List (List ℕ)
predecessors s = [] ∷ predecessors_from s 2 (1 ∷ []) []

-- of the event at a position, counted from 1
abbrev pub preceding : Shape → ℕ → List ℕ
preceding s p = slice_index_or (predecessors s) (p - 1) []

pub record Among (q : ℕ) (ps : List ℕ) : Type 0 where
  pub place : ℕ
  pub is : slice_get ps place ≡ Some q

-- q is an immediate predecessor of p, or reaches one
pub data Reaches (preceding : ℕ → List ℕ) : ℕ → ℕ → Type 0 where
  direct : {q p : ℕ} → Among q (preceding p) → Reaches preceding q p
  through : {q e p : ℕ} → Reaches preceding q e → Among e (preceding p) → Reaches preceding q p

-- the frame has a sync later
abbrev pub HasSync : Shape → Type 0
HasSync finish = ⊥
HasSync (act r) = HasSync r
HasSync (sync r) = Unit {0}
HasSync (child k u r) = HasSync r

abbrev pub HasSyncIf : Invocation → Shape → Type 0
HasSyncIf invocations.Call r = Unit {0}
HasSyncIf invocations.Spawn r = HasSync r

-- each frame syncs after it spawned, as a Cilk frame does before it ends
abbrev pub IsSynced : Shape → Type 0
IsSynced finish = Unit {0}
IsSynced (act r) = IsSynced r
IsSynced (sync r) = IsSynced r
IsSynced (child k u r) = HasSyncIf k r × IsSynced u × IsSynced r

-- An event that reaches another is before it.
abbrev pub ReachesOnlyLater : Type 0
ReachesOnlyLater = (s : Shape) (events : List Event) → Spells s events → (p q : ℕ) → IsPosition events p → IsPosition events q
    → Reaches (preceding s) p q → IsBefore (tree s) events p q

-- If each frame syncs after it spawned, an event is before another exactly where it reaches it.
abbrev pub IsReachability : Type 0
IsReachability = (s : Shape) (events : List Event) → Spells s events → IsSynced s → (p q : ℕ) → IsPosition events p → IsPosition events q
    → IsBefore (tree s) events p q ↔ Reaches (preceding s) p q
