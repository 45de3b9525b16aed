-- The span of a run: the length of its longest chain of events, which no number of workers can
-- shorten (Frigo, Leiserson and Randall 1998, section 1: the critical path).
use Rattle.std.specs.Prelude.{◌≡◌, ℕ, ◌≤◌, List, [], ◌∷◌, length}
use Rattle.cilk_types.specs.declared.event.Event.{Event}
use Rattle.cilk_tree.specs.Tree.{Tree}
use Rattle.cilk_tree.specs.Before.{IsPosition, IsBefore}

-- positions, each before the next
abbrev pub IsChain : Tree → List Event → List ℕ → Type 0
IsChain t events [] = Unit {0}
IsChain t events (p ∷ []) = IsPosition events p
IsChain t events (p ∷ q ∷ ps) = IsPosition events p × IsBefore t events p q × IsChain t events (q ∷ ps)

-- the greatest number of events in a chain
pub record IsSpan (t : Tree) (events : List Event) (n : ℕ) : Type 0 where
  pub chain : List ℕ
  pub is_chain : IsChain t events chain
  pub long : length chain ≡ n
  pub greatest : (ps : List ℕ) → IsChain t events ps → length ps ≤ n
