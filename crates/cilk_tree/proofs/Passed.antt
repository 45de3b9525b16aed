-- One pass over a run's events gives their immediate predecessors: `gives_predecessors`.
use Rattle.std.proofs.Common.{◌≡◌, ℕ, suc, ◌+◌, List, [], ◌∷◌, ◌++◌, length, refl, sym, ap, ◌∙◌, arith, append_assoc}
use Rattle.std.proofs.lemmas.List.{length-append}
use Rattle.cilk_types.specs.declared.invocation.Invocation.{Invocation}
use Rattle.cilk_types.specs.declared.invocation.Invocation.TheVariants as invocations
use Rattle.cilk_tree.specs.declared.mark.Mark.{Mark}
use Rattle.cilk_tree.specs.declared.mark.Mark.TheVariants.{Begin, Resume}
use Rattle.cilk_tree.specs.Shape.{Shape, finish, act, sync, child, start_of, marks}
use Rattle.cilk_tree.specs.Reach.{resumed_from, awaited, predecessors_from}
use Rattle.cilk_tree.specs.Passes.{Waiting, pass, PassGivesPredecessors}

abbrev waiting : Invocation → ℕ → List ℕ → Waiting
waiting k p ends = record { how = k; at = p; ends = ends }

-- a child's start and its `begin`
pass_start : (k : Invocation) (ms : List Mark) (p : ℕ) (ahead ends : List ℕ) (ws : List Waiting)
    → pass (start_of k ∷ Begin ∷ ms) p ahead ends ws ≡ ahead ∷ (p ∷ []) ∷ pass ms (suc (suc p)) (suc p ∷ []) [] (waiting k p ends ∷ ws)
pass_start invocations.Call ms p ahead ends ws = refl
pass_start invocations.Spawn ms p ahead ends ws = refl

-- the effect on the waiting frame once its child has ended at z
abbrev back : List Mark → ℕ → Waiting → List Waiting → List (List ℕ)
back ms z w ws = pass ms (suc z) (resumed_from w.how w.at z) (awaited w.how z w.ends) ws

-- a child's events, and the rest of its parent's
passed : (s : Shape) (ms : List Mark) (p z : ℕ) (ahead ends : List ℕ) (w : Waiting) (ws : List Waiting) → suc z ≡ p + length (marks s)
    → pass (marks s ++ ms) p ahead ends (w ∷ ws) ≡ predecessors_from s p ahead ends ++ back ms z w ws
passed finish ms p z ahead ends w ws at = let k : p ≡ z = omega arith in ap (λ (x : ℕ). ahead ∷ back ms x w ws) k
passed (act r) ms p z ahead ends w ws at = ap (λ (l : List (List ℕ)). ahead ∷ l) (passed r ms (suc p) z (p ∷ []) ends w ws (omega arith))
passed (sync r) ms p z ahead ends w ws at = ap (λ (l : List (List ℕ)). (ahead ++ ends) ∷ l) (passed r ms (suc p) z (p ∷ []) [] w ws (omega arith))
passed (child k u r) ms p z ahead ends w ws at =
    let e : ℕ = suc p + length (marks u) in
    let us : List (List ℕ) = predecessors_from u (suc (suc p)) (suc p ∷ []) [] in
    let rs : List (List ℕ) = predecessors_from r (suc (suc e)) (suc e ∷ []) (awaited k e ends) in
    let n = length-append (marks u) (Resume ∷ marks r) in
    let inner : pass (marks u ++ (Resume ∷ (marks r ++ ms))) (suc (suc p)) (suc p ∷ []) [] (waiting k p ends ∷ (w ∷ ws)) ≡ us ++ back (Resume ∷ (marks r ++ ms)) e (waiting k p ends) (w ∷ ws)
    = passed u (Resume ∷ (marks r ++ ms)) (suc (suc p)) e (suc p ∷ []) [] (waiting k p ends) (w ∷ ws) (omega arith) in
    let rest : pass (marks r ++ ms) (suc (suc e)) (suc e ∷ []) (awaited k e ends) (w ∷ ws) ≡ rs ++ back ms z w ws
    = passed r ms (suc (suc e)) z (suc e ∷ []) (awaited k e ends) w ws (omega (arith, n)) in
    pass_start k ((marks u ++ (Resume ∷ marks r)) ++ ms) p ahead ends (w ∷ ws)
    ∙ ap (λ (l : List (List ℕ)). ahead ∷ (p ∷ []) ∷ l)
    (ap (λ (l : List Mark). pass l (suc (suc p)) (suc p ∷ []) [] (waiting k p ends ∷ (w ∷ ws))) (append_assoc (marks u) (Resume ∷ marks r) ms)
    ∙ (inner
    ∙ (ap (λ (l : List (List ℕ)). us ++ (resumed_from k p e ∷ l)) rest
    ∙ sym (append_assoc us (resumed_from k p e ∷ rs) (back ms z w ws)))))

root_passed : (s : Shape) (p : ℕ) (ahead ends : List ℕ) → pass (marks s) p ahead ends [] ≡ predecessors_from s p ahead ends
root_passed finish p ahead ends = refl
root_passed (act r) p ahead ends = ap (λ (l : List (List ℕ)). ahead ∷ l) (root_passed r (suc p) (p ∷ []) ends)
root_passed (sync r) p ahead ends = ap (λ (l : List (List ℕ)). (ahead ++ ends) ∷ l) (root_passed r (suc p) (p ∷ []) [])
root_passed (child k u r) p ahead ends =
    let e : ℕ = suc p + length (marks u) in
    let us : List (List ℕ) = predecessors_from u (suc (suc p)) (suc p ∷ []) [] in
    pass_start k (marks u ++ (Resume ∷ marks r)) p ahead ends []
    ∙ ap (λ (l : List (List ℕ)). ahead ∷ (p ∷ []) ∷ l)
    (passed u (Resume ∷ marks r) (suc (suc p)) e (suc p ∷ []) [] (waiting k p ends) [] (omega arith)
    ∙ ap (λ (l : List (List ℕ)). us ++ (resumed_from k p e ∷ l)) (root_passed r (suc (suc e)) (suc e ∷ []) (awaited k e ends)))

pub gives_predecessors : PassGivesPredecessors
gives_predecessors shape events spells =
    ap (λ (ms : List Mark). pass ms 1 [] [] []) spells ∙ ap (λ (l : List (List ℕ)). [] ∷ l) (root_passed shape 2 (1 ∷ []) [])
