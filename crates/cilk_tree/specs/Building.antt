-- How the pass from the last event to the first builds a tree.
use Rattle.std.specs.Prelude.{ℕ, ◌+◌, ◌-◌, ◌==◌, cond, List, [], ◌∷◌, ◌++◌}
use Rattle.cilk_tree.specs.declared.tree.Node.TheVariants.{Strand, Series, Parallel}
use Rattle.cilk_tree.specs.declared.mark.Mark.{Mark}
use Rattle.cilk_tree.specs.declared.mark.Mark.TheVariants.{Begin, End, Sync, Resume, Spawn, Call, Plain}
use Rattle.cilk_tree.specs.declared.building.StrandCounts.{StrandCounts}
use Rattle.cilk_tree.specs.Built.{Built}

-- before the pass
abbrev pub opening : Built
opening = record { nodes = []; outer = []; place = record { frame = 0; block = 0; child = 0 }; strands = 0; events = 0 }

abbrev pub place_at : ℕ → StrandCounts
place_at n = record { frame = n; block = n; child = n }

-- the current strand becomes a leaf, in series with the rest of its block
abbrev pub strand_closed : Built → Built
strand_closed b = record b {
  nodes = cond (b.strands == b.place.block) [] (Series 1 ∷ []) ++ Strand b.events ∷ b.nodes;
  strands = b.strands + 1;
  events = 0;
}

-- the current block, in series with the later blocks
abbrev pub block_closed : Built → Built
block_closed b = record b { nodes = cond (b.place.block == b.place.frame) [] (Series (b.strands - b.place.block) ∷ []) ++ b.nodes }

abbrev pub inner_place : StrandCounts → List StrandCounts → StrandCounts
inner_place p [] = p
inner_place p (q ∷ qs) = q

abbrev pub outer_places : List StrandCounts → List StrandCounts
outer_places [] = []
outer_places (q ∷ qs) = qs

-- back in the outer frame
abbrev pub frame_closed : Built → Built
frame_closed b = record b { place = inner_place b.place b.outer; outer = outer_places b.outer }

abbrev pub counted : Built → Built
counted b = record b { events = b.events + 1 }

abbrev pub marked : Mark → Built → Built
marked Plain b = b
marked End b = record b { outer = b.place ∷ b.outer; place = place_at b.strands }
marked Begin b = frame_closed (block_closed (strand_closed b))
marked Sync b = let c = block_closed (strand_closed b) in record c { place = record c.place { block = c.strands } }
marked Resume b = let c = strand_closed b in record c { place = record c.place { child = c.strands } }
marked Spawn b = record b { nodes = Parallel (b.strands - b.place.child) (b.place.child - b.place.block) ∷ b.nodes }
marked Call b = record b { nodes = Series (b.strands - b.place.child) ∷ b.nodes }

-- after one more event
abbrev pub step : Mark → Built → Built
step m b = marked m (counted b)
