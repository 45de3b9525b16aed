-- The walk gives each tree's classes.
use Rattle.std.proofs.Common.{◌≡◌, ℕ, suc, ◌+◌, ◌-◌, ◌^◌, ◌<◌, ◌≤◌, min, List, [], ◌∷◌, ◌++◌, length, get_or, drop, refl, sym, ◌∙◌, ap, subst, arith}
use Rattle.std.proofs.lemmas.List.{append_assoc, append-nil, drop_all}
use Rattle.std.proofs.Math.Seq.{drop-cons}
use Rattle.cilk_tree.specs.Tree.{Tree, strand, series, parallel, leaves, preorder}
use Rattle.cilk_tree.specs.declared.tree.Node.{Node}
use Rattle.cilk_tree.proofs.Backward.{has_leaf, few_leaves}
use Rattle.cilk_peers.specs.Peers.{class_numbers}
use Rattle.cilk_peers.specs.Walk.{classes_from}

pub nothing_waits : (ns : List Node) (o : ℕ) → classes_from ns o [] ≡ []
nothing_waits [] o = refl
nothing_waits (n ∷ ns) o = refl

walk : (t : Tree) (c o : ℕ) (ns : List Node) (cs : List ℕ) → o + leaves t ≤ 2 ^ 32 → classes_from (preorder t ++ ns) o (c ∷ cs) ≡ class_numbers t c o ++ classes_from ns (o + leaves t) cs
walk (strand n) c o ns cs fits = refl
walk (series a b) c o ns cs fits =
    let z : o + leaves a + leaves b ≡ o + (leaves a + leaves b) = omega arith in
    let f : classes_from (preorder a ++ (preorder b ++ ns)) o (c ∷ c ∷ cs) ≡ class_numbers a c o ++ (class_numbers b c (o + leaves a) ++ classes_from ns (o + (leaves a + leaves b)) cs) =
    walk a c o (preorder b ++ ns) (c ∷ cs) (omega (arith, fits))
    ∙ ap (λ (l : List ℕ). class_numbers a c o ++ l) (walk b c (o + leaves a) ns cs (omega (arith, fits)) ∙ ap (λ (k : ℕ). class_numbers b c (o + leaves a) ++ classes_from ns k cs) z) in
    ap (λ (l : List Node). classes_from l o (c ∷ c ∷ cs)) (append_assoc (preorder a) (preorder b) ns)
    ∙ (f ∙ sym (append_assoc (class_numbers a c o) (class_numbers b c (o + leaves a)) (classes_from ns (o + (leaves a + leaves b)) cs)))
walk (parallel a b) c o ns cs fits =
    let p = has_leaf b in
    let w = min (o + leaves a) (2 ^ 32 - 1) in
    let e : w ≡ o + leaves a = omega (arith, p, fits) in
    let z : o + leaves a + leaves b ≡ o + (leaves a + leaves b) = omega arith in
    let f : classes_from (preorder a ++ (preorder b ++ ns)) o (o ∷ (o + leaves a) ∷ cs) ≡ class_numbers a o o ++ (class_numbers b (o + leaves a) (o + leaves a) ++ classes_from ns (o + (leaves a + leaves b)) cs) =
    walk a o o (preorder b ++ ns) ((o + leaves a) ∷ cs) (omega (arith, fits))
    ∙ ap (λ (l : List ℕ). class_numbers a o o ++ l) (walk b (o + leaves a) (o + leaves a) ns cs (omega (arith, fits)) ∙ ap (λ (k : ℕ). class_numbers b (o + leaves a) (o + leaves a) ++ classes_from ns k cs) z) in
    ap (λ (l : List Node). classes_from l o (o ∷ w ∷ cs)) (append_assoc (preorder a) (preorder b) ns)
    ∙ (ap (λ (x : ℕ). classes_from (preorder a ++ (preorder b ++ ns)) o (o ∷ x ∷ cs)) e
    ∙ (f ∙ sym (append_assoc (class_numbers a o o) (class_numbers b (o + leaves a) (o + leaves a)) (classes_from ns (o + (leaves a + leaves b)) cs))))

walk_all : (t : Tree) (ns : List Node) → ns ≡ preorder t → length ns < 2 ^ 32 → classes_from ns 1 (0 ∷ []) ≡ class_numbers t 0 1
walk_all t ns e few =
    let p = few_leaves t in
    let q = ap (λ (l : List Node). length l) e in
    let f = walk t 0 1 [] [] (omega (arith, p, q, few)) in
    rw e (subst (λ (l : List Node). classes_from l 1 (0 ∷ []) ≡ class_numbers t 0 1 ++ []) (append-nil (preorder t)) f ∙ append-nil (class_numbers t 0 1))

-- The state of the walk after n nodes.
pub record Walked (ns : List Node) (i count : ℕ) (numbers waiting : List ℕ) : Type 0 where
  pub numbered : numbers ++ classes_from (drop i ns) (count + 1) waiting ≡ classes_from ns 1 (0 ∷ [])
  pub few : count ≤ i

pub walked_next : (ns : List Node) (i count count' : ℕ) (d : Node) (numbers waiting numbers' waiting' : List ℕ) → Walked ns i count numbers waiting → i < length ns
    → ((rest : List Node) → numbers' ++ classes_from rest (count' + 1) waiting' ≡ numbers ++ classes_from (get_or ns i d ∷ rest) (count + 1) waiting)
    → count' ≤ count + 1 → Walked ns (i + 1) count' numbers' waiting'
walked_next ns i count count' d numbers waiting numbers' waiting' w lt f g = record {
  numbered =
      let e : suc i ≡ i + 1 = omega arith in
      let c : drop i ns ≡ get_or ns i d ∷ drop (i + 1) ns = subst (λ (k : ℕ). drop i ns ≡ get_or ns i d ∷ drop k ns) e (drop-cons ns i d lt) in
      f (drop (i + 1) ns) ∙ (ap (λ (l : List Node). numbers ++ classes_from l (count + 1) waiting) (sym c) ∙ w.numbered);
  few = let p = w.few in omega (arith, p, g);
}

pub walked_all : (t : Tree) (ns : List Node) (i count : ℕ) (numbers waiting : List ℕ) → Walked ns i count numbers waiting → length ns ≤ i → length ns < 2 ^ 32 → ns ≡ preorder t → numbers ≡ class_numbers t 0 1
walked_all t ns i count numbers waiting w le few e =
    let d : drop i ns ≡ [] = drop_all i ns le in
    sym (append-nil numbers) ∙ (ap (λ (l : List Node). numbers ++ classes_from l (count + 1) waiting) (sym d) ∙ (w.numbered ∙ walk_all t ns e few))

pub walked_first : (ns : List Node) (count : ℕ) (numbers waiting bottom : List ℕ) → numbers ≡ [] → count ≡ 0 → waiting ≡ 0 ∷ bottom → bottom ≡ [] → Walked ns 0 count numbers waiting
walked_first ns count numbers waiting bottom e z f g = record {
  numbered = rw e (rw f (rw g (ap (λ (k : ℕ). classes_from ns (k + 1) (0 ∷ [])) z)));
  few = omega (arith, z);
}
