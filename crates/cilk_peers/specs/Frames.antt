-- The frames of a run, by their first and last events.
use Rattle.std.specs.Prelude.{◌≡◌, ℕ, suc, ◌+◌, ◌⊎◌, List, length}
use Rattle.cilk_types.specs.declared.event.Event.{Event}
use Rattle.cilk_tree.specs.Shape.{Shape, finish, act, sync, child, marks, Spells}
use Rattle.cilk_tree.specs.Tree.{tree}
use Rattle.cilk_tree.specs.Races.{strand_at}
use Rattle.cilk_tree.specs.Reach.{IsSynced}
use Rattle.cilk_peers.specs.Peers.{SamePeers}

-- A frame that begins at b and ends at e, inside a frame whose events from position p have this
-- shape.
abbrev pub IsInner : Shape → ℕ → ℕ → ℕ → Type 0
IsInner finish p b e = ⊥
IsInner (act r) p b e = IsInner r (suc p) b e
IsInner (sync r) p b e = IsInner r (suc p) b e
IsInner (child k u r) p b e =
    let last = suc p + length (marks u) in
    ((b ≡ suc p) × (e ≡ last)) ⊎ IsInner u (suc (suc p)) b e ⊎ IsInner r (suc (suc last)) b e

-- a frame of a run of this shape, whose root begins at position 1
abbrev pub IsFrame : Shape → ℕ → ℕ → Type 0
IsFrame s b e = ((b ≡ 1) × (e ≡ suc (length (marks s)))) ⊎ IsInner s 2 b e

-- A frame's last strand has the same peers as its first.
abbrev pub FramesKeepPeers : Type 0
FramesKeepPeers = (s : Shape) (events : List Event) → Spells s events → IsSynced s → (b e : ℕ) → IsFrame s b e
    → SamePeers (tree s) (strand_at events b) (strand_at events e)
