-- The walk gives each tree's Hebrew numbers.
use Rattle.std.proofs.Common.{◌≡◌, ℕ, suc, ◌+◌, ◌-◌, ◌^◌, ◌<◌, ◌≤◌, min, List, [], ◌∷◌, ◌++◌, length, get_or, drop, refl, sym, ◌∙◌, ap, subst, arith, inl, inr, ◌↔◌, Bool, true, false, IsTrue}
use Rattle.std.proofs.lemmas.List.{append_assoc, append-nil, drop_all}
use Rattle.std.proofs.Math.Seq.{drop-cons}
use Rattle.cilk_tree.specs.Tree.{Tree, strand, series, parallel, leaves, preorder}
use Rattle.cilk_tree.specs.Hebrew.{hebrews, hebrew}
use Rattle.cilk_tree.specs.Parallel.{Holds, Parallel}
use Rattle.cilk_tree.specs.declared.tree.Node.{Node}
use Rattle.cilk_tree.proofs.Backward.{has_leaf, few_leaves}
use Rattle.cilk_tree.proofs.Order.{length-hebrews, tells, parallel_sym, not_to_itself}
use Rattle.std.proofs.Math.Dec.{ltb}
use Rattle.std.proofs.lemmas.Bool.{cases_order, lt-ltb, le-ltb}
use mathlib.Core.Bool.{not, beq}
use Rattle.cilk_labels.specs.Walk.{numbers_from}

pub nothing_waits : (ns : List Node) → numbers_from ns [] ≡ []
nothing_waits [] = refl
nothing_waits (n ∷ ns) = refl

walk : (t : Tree) (h : ℕ) (ns : List Node) (hs : List ℕ) → h + leaves t ≤ 2 ^ 32 → numbers_from (preorder t ++ ns) (h ∷ hs) ≡ hebrews t h ++ numbers_from ns hs
walk (strand n) h ns hs fits = refl
walk (series a b) h ns hs fits =
    let p = has_leaf b in
    let e : min (h + leaves a) (2 ^ 32 - 1) ≡ h + leaves a = omega (arith, p, fits) in
    let f : numbers_from (preorder a ++ (preorder b ++ ns)) (h ∷ (h + leaves a) ∷ hs) ≡ hebrews a h ++ (hebrews b (h + leaves a) ++ numbers_from ns hs) =
    walk a h (preorder b ++ ns) ((h + leaves a) ∷ hs) (omega (arith, fits)) ∙ ap (λ (l : List ℕ). hebrews a h ++ l) (walk b (h + leaves a) ns hs (omega (arith, fits))) in
    let w = min (h + leaves a) (2 ^ 32 - 1) in
    ap (λ (l : List Node). numbers_from l (h ∷ w ∷ hs)) (append_assoc (preorder a) (preorder b) ns)
    ∙ (ap (λ (x : ℕ). numbers_from (preorder a ++ (preorder b ++ ns)) (h ∷ x ∷ hs)) e ∙ (f ∙ sym (append_assoc (hebrews a h) (hebrews b (h + leaves a)) (numbers_from ns hs))))
walk (parallel a b) h ns hs fits =
    let p = has_leaf a in
    let e : min (h + leaves b) (2 ^ 32 - 1) ≡ h + leaves b = omega (arith, p, fits) in
    let f : numbers_from (preorder a ++ (preorder b ++ ns)) ((h + leaves b) ∷ h ∷ hs) ≡ hebrews a (h + leaves b) ++ (hebrews b h ++ numbers_from ns hs) =
    walk a (h + leaves b) (preorder b ++ ns) (h ∷ hs) (omega (arith, fits)) ∙ ap (λ (l : List ℕ). hebrews a (h + leaves b) ++ l) (walk b h ns hs (omega (arith, fits))) in
    let w = min (h + leaves b) (2 ^ 32 - 1) in
    ap (λ (l : List Node). numbers_from l (w ∷ h ∷ hs)) (append_assoc (preorder a) (preorder b) ns)
    ∙ (ap (λ (x : ℕ). numbers_from (preorder a ++ (preorder b ++ ns)) (x ∷ h ∷ hs)) e ∙ (f ∙ sym (append_assoc (hebrews a (h + leaves b)) (hebrews b h) (numbers_from ns hs))))

pub walk_all : (t : Tree) (ns : List Node) → ns ≡ preorder t → length ns < 2 ^ 32 → numbers_from ns (1 ∷ []) ≡ hebrews t 1
walk_all t ns e few =
    let p = few_leaves t in
    let q = ap (λ (l : List Node). length l) e in
    let f = walk t 1 [] [] (omega (arith, p, q, few)) in
    rw e (subst (λ (l : List Node). numbers_from l (1 ∷ []) ≡ hebrews t 1 ++ []) (append-nil (preorder t)) f ∙ append-nil (hebrews t 1))

-- The state of the walk after n nodes.
pub record Walked (ns : List Node) (i count : ℕ) (numbers starts : List ℕ) : Type 0 where
  pub numbered : numbers ++ numbers_from (drop i ns) starts ≡ numbers_from ns (1 ∷ [])
  pub few : count ≤ i

pub walked_next : (ns : List Node) (i count count' : ℕ) (d : Node) (numbers starts numbers' starts' : List ℕ) → Walked ns i count numbers starts → i < length ns
    → ((rest : List Node) → numbers' ++ numbers_from rest starts' ≡ numbers ++ numbers_from (get_or ns i d ∷ rest) starts)
    → count' ≤ count + 1 → Walked ns (i + 1) count' numbers' starts'
walked_next ns i count count' d numbers starts numbers' starts' w lt f g = record {
  numbered =
      let e : suc i ≡ i + 1 = omega arith in
      let c : drop i ns ≡ get_or ns i d ∷ drop (i + 1) ns = subst (λ (k : ℕ). drop i ns ≡ get_or ns i d ∷ drop k ns) e (drop-cons ns i d lt) in
      f (drop (i + 1) ns) ∙ (ap (λ (l : List Node). numbers ++ numbers_from l starts) (sym c) ∙ w.numbered);
  few = let p = w.few in omega (arith, p, g);
}

pub walked_all : (t : Tree) (ns : List Node) (i count : ℕ) (numbers starts : List ℕ) → Walked ns i count numbers starts → length ns ≤ i → length ns < 2 ^ 32 → ns ≡ preorder t → numbers ≡ hebrews t 1
walked_all t ns i count numbers starts w le few e =
    let d : drop i ns ≡ [] = drop_all i ns le in
    sym (append-nil numbers) ∙ (ap (λ (l : List Node). numbers ++ numbers_from l starts) (sym d) ∙ (w.numbered ∙ walk_all t ns e few))

yes : (P : Type 0) (a b : Bool) → a ≡ not b → P → IsTrue (not (beq a b)) ↔ P
yes P a true e p = ((λ _. p), λ _. rw e refl)
yes P a false e p = ((λ _. p), λ _. rw e refl)

no : (P : Type 0) (a b : Bool) → a ≡ b → (P → ⊥) → IsTrue (not (beq a b)) ↔ P
no P a true e p = ((λ h. absurd (let q : IsTrue (not (beq true true)) = rw e at h in cc q)), λ h. absurd (p h))
no P a false e p = ((λ h. absurd (let q : IsTrue (not (beq false false)) = rw e at h in cc q)), λ h. absurd (p h))

-- two comparisons decide whether two strands are parallel
pub told : (t : Tree) (xs : List ℕ) (u v x y : ℕ) → xs ≡ hebrews t 1 → 1 ≤ u → u ≤ length xs → 1 ≤ v → v ≤ length xs → x ≡ get_or xs (u - 1) 0 → y ≡ get_or xs (v - 1) 0
    → IsTrue (not (beq (ltb u v) (ltb x y))) ↔ Parallel t 1 u v
told t xs u v x y e p p' q q' f g =
    let n = length-hebrews t 1 in
    let m = ap (λ (l : List ℕ). length l) e in
    let hu : Holds t 1 u = (p, omega (arith, p', n, m)) in
    let hv : Holds t 1 v = (q, omega (arith, q', n, m)) in
    let f' : x ≡ hebrew t u = f ∙ ap (λ (l : List ℕ). get_or l (u - 1) 0) e in
    let g' : y ≡ hebrew t v = g ∙ ap (λ (l : List ℕ). get_or l (v - 1) 0) e in
    elim (cases_order u v) [
      | inl same ↦ (let z : x ≡ y = f ∙ (ap (λ (k : ℕ). get_or xs (k - 1) 0) same ∙ sym g) in
          let a : u ≤ v = omega (arith, same) in let a' : v ≤ u = omega (arith, same) in let b : y ≤ x = omega (arith, z) in
          no (Parallel t 1 u v) _ _ (le-ltb u v a' ∙ sym (le-ltb x y b)) (λ h. not_to_itself t 1 u (subst (λ (k : ℕ). Parallel t 1 u k) (sym same) h)))
      | inr (inl l) ↦ elim (tells t 1 1 u v hu hv l) [
        | inl w ↦ (let k = w.1 in let b : y ≤ x = omega (arith, f', g', k) in yes (Parallel t 1 u v) _ _ (lt-ltb u v l ∙ ap not (sym (le-ltb x y b))) w.0)
        | inr w ↦ (let k = w.1 in let b : x < y = omega (arith, f', g', k) in no (Parallel t 1 u v) _ _ (lt-ltb u v l ∙ sym (lt-ltb x y b)) w.0)
      ]
      | inr (inr l) ↦ (let a : v ≤ u = omega (arith, l) in elim (tells t 1 1 v u hv hu l) [
        | inl w ↦ (let k = w.1 in let b : x < y = omega (arith, f', g', k) in yes (Parallel t 1 u v) _ _ (le-ltb u v a ∙ ap not (sym (lt-ltb x y b))) (parallel_sym t 1 v u w.0))
        | inr w ↦ (let k = w.1 in let b : y ≤ x = omega (arith, f', g', k) in no (Parallel t 1 u v) _ _ (le-ltb u v a ∙ sym (le-ltb x y b)) (λ h. w.0 (parallel_sym t 1 u v h)))
      ])
    ]
