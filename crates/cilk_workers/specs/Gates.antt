-- The first events of strands.
use Rattle.std.specs.Prelude.{◌≡◌, ℕ, ◌+◌, ◌≤◌}
use Rattle.cilk_tree.specs.PlanStrands.{BeginsStrand}
use Rattle.cilk_shared.specs.Values.{SegmentValue}

-- the last event of the segment is the strand's first
abbrev pub EndsWithFirst : SegmentValue → ℕ → Type 0
EndsWithFirst g n = (p : ℕ) × (p + 1 ≡ g.upto) × (g.from ≤ p) × (let s = g.event_order in BeginsStrand s.events n p)
