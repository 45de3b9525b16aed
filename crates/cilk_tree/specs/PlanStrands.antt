-- The first events of strands.
use Rattle.std.specs.Prelude.{◌≡◌, ◌≢◌, ◌<◌, ◌≤◌, ℕ, List}
use Rattle.cilk_types.specs.declared.event.Event.{Event}
use Rattle.cilk_tree.specs.Before.{IsPosition}
use Rattle.cilk_tree.specs.Races.{strand_at}

-- the first event of a strand (Feng and Leiserson 1997, section 2)
pub record BeginsStrand (es : List Event) (strand p : ℕ) : Type 0 where
  pub place : IsPosition es p
  pub is : strand_at es p ≡ strand
  pub first : (q : ℕ) → 1 ≤ q → q < p → strand_at es q ≢ strand
