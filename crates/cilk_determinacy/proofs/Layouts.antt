-- The tree of strands of a nested run with their events at its leaves, and freedom of races by
-- names. It is the tree of the run's shape (layouts_agree in Spells), and the list of the run's
-- events has each of these races (NumberedRuns). Lemmas use this form; no contract speaks of it.
--
-- - `Layout`, `layout`: the tree; `are_beside`, `peer_at`: positions in parallel; `IsInhabited`:
--   each child has an event;
-- - `NoneClash`, `ReadsHavePeers`: no two positions have a determinacy race, or a view-read race.
use Rattle.std.proofs.Common.{◌≡◌, ℕ, ◌+◌, ◌-◌, ◌<◌, Bool, true, false, cond, List, [], ◌∷◌, ◌++◌, length, nat_lt, Option, Some, None, slice_get}
use Rattle.cilk_determinacy.specs.Traces.{trace}
use Rattle.cilk_determinacy.specs.Views.{IsReducerRead}
use Rattle.cilk_types.specs.declared.invocation.Invocation.{Invocation}
use Rattle.cilk_types.specs.declared.invocation.Invocation.TheVariants.{Call, Spawn}
use Rattle.cilk_determinacy.specs.Runs.{Instance, same_cell, Event, Reads, Writes, Syncs, Ends, Passes, Deed, Does, Invokes, Run, stop, act, child}

-- strands with their events, in series or in parallel (Feng, Leiserson 1997)
pub data Layout (W : Type 0) : Type 0 where
  Strand : (events : List (Deed W)) → Layout W
  Series : (left : Layout W) → (right : Layout W) → Layout W
  Beside : (left : Layout W) → (right : Layout W) → Layout W

-- a tree, and what follows it if anything
abbrev pub in_order : {W : Type 0} → Layout W → Option (Layout W) → Layout W
in_order a None = a
in_order a (Some b) = Series a b

-- a called child is in series with what follows, a spawned one beside it
abbrev pub child_layout : {W : Type 0} → Invocation → Layout W → Layout W → Layout W
child_layout Call u r = Series u r
child_layout Spawn u r = Beside u r

-- the event is a sync
abbrev pub is_sync : Event → Bool
is_sync (Reads c v) = false
is_sync (Writes c v) = false
is_sync Syncs = true
is_sync (Ends val gone) = false
is_sync (Passes m) = false

-- The current sync block, whose strand has these events so far, and the later blocks. A block is a
-- strand alone; a strand, a called child and the rest of the block in series; or a strand and then
-- a spawned child beside the rest of the block.
abbrev pub layouts : {W : Type 0} → Run W → List (Deed W) → Layout W × Option (Layout W)
layouts stop s = (Strand s, None)
layouts (act e r) s =
    let later = layouts r (Does e ∷ []) in
    let same = layouts r (s ++ Does e ∷ []) in
    elim (is_sync e) [ true ↦ (Strand s, Some (in_order later.0 later.1)) | false ↦ same ]
layouts (child b w u r) s =
    let inner = layouts u [] in
    let rest = layouts r [] in
    (Series (Strand (s ++ Invokes b w ∷ [])) (child_layout b (in_order inner.0 inner.1) rest.0), rest.1)

-- the tree of strands of a run
abbrev pub layout : {W : Type 0} → Run W → Layout W
layout r = in_order (layouts r []).0 (layouts r []).1

-- the number of events
abbrev pub size : {W : Type 0} → Layout W → ℕ
size (Strand s) = length s
size (Series a b) = size a + size b
size (Beside a b) = size a + size b

-- for p < q, counted from 0 in the tree: the lowest node above both is one of Beside
abbrev pub are_beside : {W : Type 0} → Layout W → ℕ → ℕ → Bool
are_beside (Strand s) p q = false
are_beside (Series a b) p q = cond (nat_lt q (size a)) (are_beside a p q) (cond (nat_lt p (size a)) false (are_beside b (p - size a) (q - size a)))
are_beside (Beside a b) p q = cond (nat_lt q (size a)) (are_beside a p q) (cond (nat_lt p (size a)) true (are_beside b (p - size a) (q - size a)))

-- two accesses of one cell, one of them a write
abbrev pub event_clash : Event → Event → Bool
event_clash (Reads c v) (Writes d x) = same_cell c d
event_clash (Writes c v) (Writes d x) = same_cell c d
event_clash (Writes c v) (Reads d x) = same_cell c d
event_clash _ _ = false

-- the same for deeds: only accesses clash
abbrev pub clash : {W : Type 0} → Option (Deed W) → Option (Deed W) → Bool
clash (Some (Does a)) (Some (Does b)) = event_clash a b
clash _ _ = false

-- no determinacy race by names, over all pairs of positions
abbrev pub NoneClash : {W : Type 0} → Run W → Type 0
NoneClash t = (p q : ℕ) → p < q → are_beside (layout t) p q ≡ true → clash (slice_get (trace t) p) (slice_get (trace t) q) ≡ false

-- the events at the leaves, from left to right
abbrev pub events_of : {W : Type 0} → Layout W → List (Deed W)
events_of (Strand s) = s
events_of (Series a b) = events_of a ++ events_of b
events_of (Beside a b) = events_of a ++ events_of b

-- which positions run in parallel with a position, in either order; none with itself
abbrev pub peer_at : {W : Type 0} → Layout W → ℕ → ℕ → Bool
peer_at t p q = cond (nat_lt p q) (are_beside t p q) (cond (nat_lt q p) (are_beside t q p) false)

-- two reducer-reads of instance i have the same peers, over all pairs
abbrev pub ReadsHavePeers : {W : Type 0} → Instance → Run W → Type 0
ReadsHavePeers {W = W} i t = (p q : ℕ) (d e : Event) → slice_get (trace t) p ≡ Some (Does d) → slice_get (trace t) q ≡ Some (Does e) → IsReducerRead i d → IsReducerRead i e → (z : ℕ) (f : Deed W) → slice_get (trace t) z ≡ Some f → peer_at (layout t) p z ≡ peer_at (layout t) q z

-- each child has an event
abbrev pub IsInhabited : {W : Type 0} → Layout W → Type 0
IsInhabited (Strand s) = Unit {0}
IsInhabited (Series a b) = IsInhabited a × IsInhabited b
IsInhabited (Beside a b) = (0 < size a) × IsInhabited a × IsInhabited b
