use Rattle.std.proofs.Common.{◌≡◌, map, reverse, ◌<◌, vec_len, vec_capacity, ◌∷◌}
use Rattle.cilk_monoid.specs.Products.{product}
use Rattle.cilk_monoid.proofs.fold.fold_pieces.Given as goal

-- the product so far and the pieces that are left, last first, multiply to the product of all,
-- and there is room to push one back
abbrev pub invariant-loop-piece : goal.invariant-loop-piece
invariant-loop-piece g l =
    let m = g.M.Monoid in
    record {
      same_product : product m.structure (m.value l.product ∷ map m.value (reverse l.pieces.items)) ≡ product m.structure (map m.value l.fn.pieces.items);
      room : vec_len l.pieces < vec_capacity l.pieces;
    }

abbrev pub decreases-loop-piece : goal.decreases-loop-piece
decreases-loop-piece g l = vec_len l.pieces
