-- The changes of events, by numbers.
use Rattle.std.specs.Prelude.{◌≡◌, Box, ℕ, Bool, true, false, List, Option, Some, None, slice_get}
use Rattle.cilk_types.specs.declared.event.Instance.{Instance}
use Rattle.cilk_program.specs.Scopes.{Scope}
use Rattle.cilk_frames.specs.Sight.{HasScope}
use Rattle.cilk_frames.specs.declared.activation.Activation.{Activation}
use Rattle.cilk_hypermap.specs.Hypermap.{EachKind, view_in}
use Rattle.cilk_hypermap.specs.declared.hypermap.Hypermap.{Hypermap}
use Rattle.cilk_join.specs.Joins.{JoinView, arrived_at, opening, passed, passes, stolen_at}
use Rattle.cilk_join.specs.Products.{Product, product}
use Rattle.cilk_join.specs.Waits.{shown}
use Rattle.cilk_join.specs.declared.join.Join.{Join}
use Rattle.cilk_scheduler.specs.declared.frame_state.FrameState.{FrameState}

-- frame k sees this scope
abbrev pub SeesAt : {C : Type 0} → List (Activation C) → ℕ → Scope ℕ Instance → Type 0
SeesAt {C} frames k scope = (a : Activation C) × (slice_get frames k ≡ Some a) × HasScope frames a scope

-- A piece arrives at a block. The block passes with the product of all, or another piece is awaited
-- and no view is left.
abbrev pub Arrives : JoinView → ℕ → Bool → Product → Bool → JoinView → Hypermap → Type 0
Arrives j key last x true j' views = let a = arrived_at j key last x in (passes a ≡ true) × (let r = a.row in r.run ≡ Some (product views)) × (j' ≡ passed a)
Arrives j key last x false j' views = let a = arrived_at j key last x in (passes a ≡ false) × (j' ≡ a) × EachKind (λ k. (i : Instance) → view_in views k i ≡ None)

-- a block without a join is empty: none of its continuations was stolen
abbrev pub block_in : {Z : Type 0} → Option (Box Join Z) → JoinView
block_in None = opening
block_in (Some l) = shown l.value

-- the piece of the frame's newest child is awaited at its block, and nothing else has changed
abbrev pub AwaitsLast : FrameState → FrameState → Type 0
AwaitsLast x x' = (block_in x'.join ≡ stolen_at (block_in x.join) x.children) × (x' ≡ record x { join = x'.join })
