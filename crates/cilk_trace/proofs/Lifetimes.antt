-- Lifetimes of reducers, line by line: `lives_next`, `retirements_next` and `retirements_grow` take one line more; `peers_at` says that
-- lines of one class have the same peers.
use Rattle.std.proofs.Common.{◌≡◌, ℕ, zero, suc, ◌+◌, ◌≤◌, List, [], ◌∷◌, Bool, refl, ◌∙◌, ap, subst, arith, Some, None, slice_get, ◌↔◌}
use Rattle.cilk_tree.specs.Shape.{Shape, SpellsMarks}
use Rattle.cilk_tree.specs.Tree.{tree}
use Rattle.cilk_peers.specs.Peers.{class_numbers, SamePeers}
use Rattle.cilk_peers.proofs.Same.{one_class, length-class_numbers}
use Rattle.cilk_trace.specs.declared.line.Line.{Line}
use Rattle.cilk_trace.specs.Marks.{marks_of}
use Rattle.cilk_trace.specs.Accesses.{strand_of}
use Rattle.cilk_trace.specs.Reducers.{lives, lives_on, retired_in, retirements}
use Rattle.cilk_trace.specs.Views.{class_at}
use Rattle.cilk_trace.proofs.Strands.{strand_held}

lives_none : (ls : List Line) (r : ℕ) (b : Bool) → lives_on ls r 0 b ≡ b
lives_none [] r b = refl
lives_none (l ∷ ls) r b = refl

pub lives_next : (ls : List Line) (r i : ℕ) (b : Bool) (l : Line) → slice_get ls i ≡ Some l → lives_on ls r (suc i) b ≡ lives l r (lives_on ls r i b)
lives_next [] r i b l h = absurd (let q : None ≡ Some l = h in cc q)
lives_next (k ∷ ls) r zero b l h = let e : k ≡ l = cc h in lives_none ls r (lives k r b) ∙ ap (λ (m : Line). lives m r b) e
lives_next (k ∷ ls) r (suc i) b l h = lives_next ls r i (lives k r b) l h

retirements_none : (ls : List Line) (r : ℕ) → retirements ls r 0 ≡ 0
retirements_none [] r = refl
retirements_none (l ∷ ls) r = refl

pub retirements_next : (ls : List Line) (r i : ℕ) (l : Line) → slice_get ls i ≡ Some l → retirements ls r (suc i) ≡ retirements ls r i + retired_in l r
retirements_next [] r i l h = absurd (let q : None ≡ Some l = h in cc q)
retirements_next (k ∷ ls) r zero l h =
    let e : k ≡ l = cc h in
    subst (λ (m : Line). retired_in k r + retirements ls r 0 ≡ 0 + retired_in m r) e (let z = retirements_none ls r in omega (arith, z))
retirements_next (k ∷ ls) r (suc i) l h = let n = retirements_next ls r i l h in omega (arith, n)

pub retirements_grow : (ls : List Line) (r j i : ℕ) → j ≤ i → retirements ls r j ≤ retirements ls r i
retirements_grow ls r zero i le = let z = retirements_none ls r in omega (arith, z)
retirements_grow [] r (suc j) zero le = absurd (omega (arith, le))
retirements_grow [] r (suc j) (suc i) le = omega arith
retirements_grow (l ∷ ls) r (suc j) zero le = absurd (omega (arith, le))
retirements_grow (l ∷ ls) r (suc j) (suc i) le = let n = retirements_grow ls r j i (omega (arith, le)) in omega (arith, n)

-- one class is one set of peers, at two lines
pub peers_at : (s : Shape) (ls : List Line) → SpellsMarks s (marks_of ls) → (i j : ℕ)
    → (class_at (tree s) ls i ≡ class_at (tree s) ls j) ↔ SamePeers (tree s) (strand_of ls i) (strand_of ls j)
peers_at s ls sp i j =
    let a = strand_held s ls sp i in
    let b = strand_held s ls sp j in
    let n = length-class_numbers (tree s) 0 1 in
    one_class s (class_numbers (tree s) 0 1) (strand_of ls i) (strand_of ls j) _ _ refl a.0 (let k = a.1 in omega (arith, k, n)) b.0 (let k = b.1 in omega (arith, k, n)) refl refl
