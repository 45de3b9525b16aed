-- An event between two positions whose strands have the same peers comes before the later one:
-- `between`.
use Rattle.std.proofs.Common.{◌≡◌, ◌≢◌, inl, inr, ⊎_elim, ℕ, ◌<◌, ◌≤◌, List, length, subst, arith}
use mathlib.Core.Logic.{dite}
use native.Mathlib.Decide.{ℕ_discrete}
use Rattle.cilk_types.specs.declared.event.Event.{Event}
use Rattle.cilk_tree.specs.Before.{IsBefore}
use Rattle.cilk_tree.specs.Parallel.{Holds, Parallel, Before}
use Rattle.cilk_tree.specs.Races.{strand_at}
use Rattle.cilk_tree.specs.Reach.{IsSynced, Reaches, preceding}
use Rattle.cilk_tree.specs.Shape.{Shape, Spells}
use Rattle.cilk_tree.specs.Tree.{Tree, tree}
use Rattle.cilk_tree.proofs.Before.{before_or_parallel}
use Rattle.cilk_tree.proofs.Order.{parallel_sym, not_to_itself, parallel_by_order}
use Rattle.cilk_tree.proofs.Strands.{strand_grows, strand_held}
use Rattle.cilk_tree.proofs.Tied.{before_is_reached}
use Rattle.cilk_peers.specs.Peers.{SamePeers}

-- of three leaves in order, the first is parallel to the last if the middle one is parallel to both
across : (t : Tree) (u v w : ℕ) → Holds t 1 u → Holds t 1 v → Holds t 1 w → u < v → v < w → Parallel t 1 u v → Parallel t 1 v w → Parallel t 1 u w
across t u v w hu hv hw less less' one other =
    let x = (parallel_by_order t u v hu hv less).1 one in
    let y = (parallel_by_order t v w hv hw less').1 other in
    (parallel_by_order t u w hu hw (omega (arith, less, less'))).0 (omega (arith, x, y))

-- so no leaf between two with the same peers is parallel to the later one
beside_none : (t : Tree) (u v w : ℕ) → Holds t 1 u → Holds t 1 v → Holds t 1 w → u ≤ v → v < w → Parallel t 1 v w → SamePeers t u w → ⊥
beside_none t u v w hu hv hw low less both same =
    let first = (same v).1 (parallel_sym t 1 v w both) in
    dite (ℕ_discrete u v)
    (λ (here : u ≡ v). not_to_itself t 1 v (subst (λ (n : ℕ). Parallel t 1 n v) here first))
    (λ (apart : u ≢ v). not_to_itself t 1 w ((same w).0 (across t u v w hu hv hw (omega (arith, low, apart)) less first both)))

-- the peers need not be known to be the same: it is enough that they don't differ
pub between : (s : Shape) (es : List Event) → Spells s es → IsSynced s → (c x q : ℕ) → 1 ≤ c → c ≤ x → x < q → q ≤ length es
    → ((SamePeers (tree s) (strand_at es c) (strand_at es q) → ⊥) → ⊥) → Reaches (preceding s) x q
between s es sp synced c x q first low less last same =
    let t = tree s in
    let u = strand_at es c in
    let v = strand_at es x in
    let w = strand_at es q in
    let hu = strand_held s es sp c first in
    let hv = strand_held s es sp x (omega (arith, first, low)) in
    let hw = strand_held s es sp q (omega (arith, first, low, less)) in
    let grows = strand_grows es x q (omega (arith, less)) in
    let before : IsBefore t es x q = dite (ℕ_discrete v w)
    (λ (here : v ≡ w). inl (here, less))
    (λ (apart : v ≢ w). let lt : v < w = omega (arith, grows, apart) in
    inr (⊎_elim (λ (b : Before t 1 v w). b)
    (λ (beside : Parallel t 1 v w). absurd (same (beside_none t u v w hu hv hw (strand_grows es c x low) lt beside)))
    (before_or_parallel t 1 v w hv hw lt))) in
    (before_is_reached s es sp synced x q (omega (arith, first, low), omega (arith, less, last)) (omega (arith, first, low, less), last)).0 before
