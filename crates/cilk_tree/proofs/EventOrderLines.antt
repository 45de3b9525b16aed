-- The immediate predecessors of the events of a run, by their marks.
--
-- - `marked_shape`: the marks of a list of events, at their places in the line of its shape;
-- - `placed`: each event follows the one before it, or is a `sync`, a `resume`
--   after a spawn, or the first;
-- - `return_inside`, `returned_once`, `returned`: each spawn has one `resume`;
-- - `ends_last`: the last event is an `end`.
use Rattle.std.proofs.Common.{◌≡◌, ◌≢◌, ℕ, suc, ◌+◌, ◌-◌, ◌<◌, ◌≤◌, List, [], ◌∷◌, ◌++◌, length, get_or, sym, ap, ◌∙◌, subst, arith, ◌⊎◌, inl, inr, ⊎_elim}
use Rattle.std.proofs.lemmas.List.{length-append, get_or-append_right}
use Rattle.std.proofs.Math.ListN.{get_or-append}
use mathlib.Core.Logic.{dite}
use native.Mathlib.Decide.{dec_lt, ℕ_discrete}
use Rattle.cilk_types.specs.declared.invocation.Invocation.{Invocation}
use Rattle.cilk_types.specs.declared.invocation.Invocation.TheVariants as invocations
use Rattle.cilk_tree.specs.declared.mark.Mark.{Mark}
use Rattle.cilk_tree.specs.declared.mark.Mark.TheVariants.{Begin, End, Sync, Resume, Spawn, Call, Plain}
use Rattle.cilk_tree.specs.Shape.{Shape, finish, act, sync, child, start_of, marks}
use Rattle.cilk_tree.specs.Reach.{resumed_from, awaited}
use Rattle.cilk_tree.proofs.Lines.{line_of, long, long_marks, Laid}

-- a child's `end`, where the child was started at p
abbrev pub end_of : Shape → ℕ → ℕ
end_of u p = p + suc (long (line_of u))

-- the events of a shape from position p on have these marks
abbrev pub Marked : (ℕ → Mark) → Shape → ℕ → Type 0
Marked m finish p = m p ≡ End
Marked m (act r) p = (m p ≡ Plain) × Marked m r (suc p)
Marked m (sync r) p = (m p ≡ Sync) × Marked m r (suc p)
Marked m (child k u r) p =
    (m p ≡ start_of k) × (m (suc p) ≡ Begin) × Marked m u (suc (suc p)) × (m (suc (end_of u p)) ≡ Resume) × Marked m r (suc (suc (end_of u p)))

abbrev Shows : (ℕ → Mark) → ℕ → List Mark → Type 0
Shows m p ms = (i : ℕ) → i < length ms → m (p + i) ≡ get_or ms i Plain

shows_first : (m : ℕ → Mark) (p : ℕ) (x : Mark) (xs : List Mark) → Shows m p (x ∷ xs) → m p ≡ x
shows_first m p x xs h = let z : p ≡ p + 0 = omega arith in ap m z ∙ h 0 (omega arith)

shows_rest : (m : ℕ → Mark) (p : ℕ) (x : Mark) (xs : List Mark) → Shows m p (x ∷ xs) → Shows m (suc p) xs
shows_rest m p x xs h i l = let z : suc p + i ≡ p + suc i = omega arith in ap m z ∙ h (suc i) (omega (arith, l))

shows_left : (m : ℕ → Mark) (p : ℕ) (xs ys : List Mark) → Shows m p (xs ++ ys) → Shows m p xs
shows_left m p xs ys h i l = let n = length-append xs ys in h i (omega (arith, l, n)) ∙ get_or-append xs ys Plain i l

shows_right : (m : ℕ → Mark) (p n : ℕ) (xs ys : List Mark) → length xs ≡ n → Shows m p (xs ++ ys) → Shows m (p + n) ys
shows_right m p n xs ys e h i l =
    let k = length-append xs ys in
    let z : p + n + i ≡ p + (n + i) = omega arith in
    let w : n + i - n ≡ i = omega arith in
    ap m z ∙ (h (n + i) (omega (arith, l, k, e)) ∙ (get_or-append_right xs ys n (n + i) Plain e (omega arith) ∙ ap (λ (j : ℕ). get_or ys j Plain) w))

pub marked_shape : (m : ℕ → Mark) (s : Shape) (p : ℕ) → Shows m p (marks s) → Marked m s p
marked_shape m finish p h = shows_first m p End [] h
marked_shape m (act r) p h = (shows_first m p Plain (marks r) h, marked_shape m r (suc p) (shows_rest m p Plain (marks r) h))
marked_shape m (sync r) p h = (shows_first m p Sync (marks r) h, marked_shape m r (suc p) (shows_rest m p Sync (marks r) h))
marked_shape m (child k u r) p h =
    let inner : List Mark = marks u ++ Resume ∷ marks r in
    let t = shows_rest m p (start_of k) (Begin ∷ inner) h in
    let v = shows_rest m (suc p) Begin inner t in
    let n : length (marks u) ≡ long (line_of u) = sym (long_marks u) in
    let w = shows_right m (suc (suc p)) (long (line_of u)) (marks u) (Resume ∷ marks r) n v in
    let z : suc (suc p) + long (line_of u) ≡ suc (end_of u p) = omega arith in
    let x : Shows m (suc (end_of u p)) (Resume ∷ marks r) = subst (λ (j : ℕ). Shows m j (Resume ∷ marks r)) z w in (
      shows_first m p (start_of k) (Begin ∷ inner) h,
      shows_first m (suc p) Begin inner t,
      marked_shape m u (suc (suc p)) (shows_left m (suc (suc p)) (marks u) (Resume ∷ marks r) v),
      shows_first m (suc (end_of u p)) Resume (marks r) x,
      marked_shape m r (suc (suc (end_of u p))) (shows_rest m (suc (end_of u p)) Resume (marks r) x),
    )

pub start_not_resume : (k : Invocation) → start_of k ≡ Resume → ⊥
start_not_resume invocations.Call e = absurd (cc e)
start_not_resume invocations.Spawn e = absurd (cc e)

start_not_sync : (k : Invocation) → start_of k ≡ Sync → ⊥
start_not_sync invocations.Call e = absurd (cc e)
start_not_sync invocations.Spawn e = absurd (cc e)

module _ (f : ℕ → List ℕ) (m : ℕ → Mark) where
  -- the `resume` at q comes right after the spawn at k
  pub record IsReturn (k q : ℕ) : Type 0 where
    pub spawned : m k ≡ Spawn
    pub resumes : m q ≡ Resume
    pub alone : f q ≡ k ∷ []

  -- the place of an event
  pub data Place (q : ℕ) : Type 0 where
    near : (e : ℕ) → e + 1 ≡ q → f q ≡ e ∷ [] → m q ≢ Sync → Place q
    synced : m q ≡ Sync → Place q
    returns : (k : ℕ) → IsReturn k q → Place q
    first : f q ≡ [] → m q ≡ Begin → Place q

  near_as : (p q : ℕ) (x : Mark) → q ≡ suc p → f (suc p) ≡ p ∷ [] → m (suc p) ≡ x → (x ≡ Sync → ⊥) → Place q
  near_as p q x e h i not = subst Place (sym e) (near p (omega arith) h (λ z. not (sym i ∙ z)))

  resumed_as : (k : Invocation) (p z q : ℕ) → q ≡ suc z → m p ≡ start_of k → f (suc z) ≡ resumed_from k p z → m (suc z) ≡ Resume → Place q
  resumed_as invocations.Call p z q e i h j = near_as z q Resume e h j (λ r. cc r)
  resumed_as invocations.Spawn p z q e i h j = subst Place (sym e) (returns p (record { spawned = i; resumes = j; alone = h }))

  pub placed : (s : Shape) (o : ℕ) (ends : List ℕ) → Laid f (line_of s) (suc o) (o ∷ []) ends → Marked m s (suc o) → (q : ℕ) → suc o ≤ q → q < suc o + long (line_of s) → Place q
  placed finish o ends h i q le lt = near_as o q End (omega arith) h.0 i (λ r. cc r)
  placed (act r) o ends h i q le lt =
      dite (ℕ_discrete q (suc o))
      (λ (same : q ≡ suc o). near_as o q Plain same h.0 i.0 (λ r. cc r))
      (λ (other : q ≢ suc o). placed r (suc o) ends h.1 i.1 q (omega arith) (omega arith))
  placed (sync r) o ends h i q le lt =
      dite (ℕ_discrete q (suc o))
      (λ (same : q ≡ suc o). synced (ap m same ∙ i.0))
      (λ (other : q ≢ suc o). placed r (suc o) [] h.1 i.1 q (omega arith) (omega arith))
  placed (child k u r) o ends h i q le lt =
      let z : ℕ = end_of u (suc o) in
      dite (ℕ_discrete q (suc o))
      (λ (same : q ≡ suc o). near_as o q (start_of k) same h.0 i.0 (start_not_sync k))
      (λ (other : q ≢ suc o). dite (ℕ_discrete q (suc (suc o)))
      (λ (begun : q ≡ suc (suc o)). near_as (suc o) q Begin begun h.1.0 i.1 (λ e. cc e))
      (λ (more : q ≢ suc (suc o)). dite (dec_lt q (suc z))
      (λ (within : q < suc z). placed u (suc (suc o)) [] h.1.1 i.2 q (omega arith) (omega arith))
      (λ past. dite (ℕ_discrete q (suc z))
      (λ (back : q ≡ suc z). resumed_as k (suc o) z q back i.0 h.2.0 i.3)
      (λ (rest : q ≢ suc z). placed r (suc z) (awaited k z ends) h.2.1 i.4 q (omega arith) (omega arith)))))

  -- such a `resume` in a run belongs to a spawn of that run
  from_return : (k : Invocation) (p z j : ℕ) → resumed_from k p z ≡ j ∷ [] → (j ≡ p) ⊎ (j ≡ z)
  from_return invocations.Call p z j e = inr (let c : z ∷ [] ≡ j ∷ [] = e in let d : z ≡ j = cc c in sym d)
  from_return invocations.Spawn p z j e = inl (let c : p ∷ [] ≡ j ∷ [] = e in let d : p ≡ j = cc c in sym d)

  not_here : {k q : ℕ} (p : ℕ) (x : Mark) → q ≡ p → m p ≡ x → (x ≡ Resume → ⊥) → IsReturn k q → ⊥
  not_here p x e i not r = not (sym i ∙ ap m (sym e) ∙ r.resumes)

  pub return_inside : (s : Shape) (p : ℕ) (prev ends : List ℕ) → Laid f (line_of s) p prev ends → Marked m s p → (q k : ℕ) → p ≤ q → q < p + long (line_of s) → IsReturn k q → p ≤ k
  return_inside finish p prev ends h i q k le lt r = absurd (not_here p End (omega arith) i (λ e. cc e) r)
  return_inside (act s) p prev ends h i q k le lt r =
      dite (ℕ_discrete q p)
      (λ (same : q ≡ p). absurd (not_here p Plain same i.0 (λ e. cc e) r))
      (λ (other : q ≢ p). let g = return_inside s (suc p) (p ∷ []) ends h.1 i.1 q k (omega arith) (omega arith) r in omega arith)
  return_inside (sync s) p prev ends h i q k le lt r =
      dite (ℕ_discrete q p)
      (λ (same : q ≡ p). absurd (not_here p Sync same i.0 (λ e. cc e) r))
      (λ (other : q ≢ p). let g = return_inside s (suc p) (p ∷ []) [] h.1 i.1 q k (omega arith) (omega arith) r in omega arith)
  return_inside (child c u s) p prev ends h i q k le lt r =
      let z : ℕ = end_of u p in
      dite (ℕ_discrete q p)
      (λ (same : q ≡ p). absurd (not_here p (start_of c) same i.0 (start_not_resume c) r))
      (λ (other : q ≢ p). dite (ℕ_discrete q (suc p))
      (λ (begun : q ≡ suc p). absurd (not_here (suc p) Begin begun i.1 (λ e. cc e) r))
      (λ (more : q ≢ suc p). dite (dec_lt q (suc z))
      (λ (within : q < suc z). let g = return_inside u (suc (suc p)) (suc p ∷ []) [] h.1.1 i.2 q k (omega arith) (omega arith) r in omega arith)
      (λ past. dite (ℕ_discrete q (suc z))
      (λ (back : q ≡ suc z). ⊎_elim (λ (e : k ≡ p). omega arith) (λ (e : k ≡ z). omega arith) (from_return c p z k (sym h.2.0 ∙ ap f (sym back) ∙ r.alone)))
      (λ (rest : q ≢ suc z). let g = return_inside s (suc (suc z)) (suc z ∷ []) (awaited c z ends) h.2.1 i.4 q k (omega arith) (omega arith) r in omega arith))))

  module _ (earlier : (k q : ℕ) → IsReturn k q → k < q) where
    pub returned_once : (s : Shape) (p : ℕ) (prev ends : List ℕ) → Laid f (line_of s) p prev ends → Marked m s p → (x q k : ℕ) → p ≤ x → x < q → q < p + long (line_of s) → IsReturn k x → IsReturn k q → ⊥
    returned_once finish p prev ends h i x q k le less lt r t = absurd (omega arith)
    returned_once (act s) p prev ends h i x q k le less lt r t =
        dite (ℕ_discrete x p)
        (λ (same : x ≡ p). not_here p Plain same i.0 (λ e. cc e) r)
        (λ (other : x ≢ p). returned_once s (suc p) (p ∷ []) ends h.1 i.1 x q k (omega arith) less (omega arith) r t)
    returned_once (sync s) p prev ends h i x q k le less lt r t =
        dite (ℕ_discrete x p)
        (λ (same : x ≡ p). not_here p Sync same i.0 (λ e. cc e) r)
        (λ (other : x ≢ p). returned_once s (suc p) (p ∷ []) [] h.1 i.1 x q k (omega arith) less (omega arith) r t)
    returned_once (child c u s) p prev ends h i x q k le less lt r t =
        let z : ℕ = end_of u p in
        let before = earlier k x r in
        let past_resume : x ≤ suc z → q ≢ suc z → suc z ≤ q → ⊥ = λ early other far. let g = return_inside s (suc (suc z)) (suc z ∷ []) (awaited c z ends) h.2.1 i.4 q k (omega arith) (omega arith) t in absurd (omega arith) in
        dite (ℕ_discrete x p)
        (λ (same : x ≡ p). not_here p (start_of c) same i.0 (start_not_resume c) r)
        (λ (other : x ≢ p). dite (ℕ_discrete x (suc p))
        (λ (begun : x ≡ suc p). not_here (suc p) Begin begun i.1 (λ e. cc e) r)
        (λ (more : x ≢ suc p). dite (dec_lt x (suc z))
        (λ (within : x < suc z).
        let low = return_inside u (suc (suc p)) (suc p ∷ []) [] h.1.1 i.2 x k (omega arith) (omega arith) r in
        dite (dec_lt q (suc z))
        (λ (both : q < suc z). returned_once u (suc (suc p)) (suc p ∷ []) [] h.1.1 i.2 x q k (omega arith) less (omega arith) r t)
        (λ far. dite (ℕ_discrete q (suc z))
        (λ (back : q ≡ suc z). ⊎_elim {C = ⊥} (λ (e : k ≡ p). absurd (omega arith)) (λ (e : k ≡ z). absurd (omega arith)) (from_return c p z k (sym h.2.0 ∙ ap f (sym back) ∙ t.alone)))
        (λ (rest : q ≢ suc z). past_resume (omega arith) rest (omega arith))))
        (λ far. dite (ℕ_discrete x (suc z))
        (λ (back : x ≡ suc z). past_resume (omega arith) (λ e. absurd (omega arith)) (omega arith))
        (λ (rest : x ≢ suc z). returned_once s (suc (suc z)) (suc z ∷ []) (awaited c z ends) h.2.1 i.4 x q k (omega arith) less (omega arith) r t))))

  own_return : (c : Invocation) (p z : ℕ) → m p ≡ start_of c → m p ≡ Spawn → f (suc z) ≡ resumed_from c p z → m (suc z) ≡ Resume → IsReturn p (suc z)
  own_return invocations.Call p z i is h j = absurd (let e : Call ≡ Spawn = sym i ∙ is in cc e)
  own_return invocations.Spawn p z i is h j = record { spawned = is; resumes = j; alone = h }

  not_spawn : (p k : ℕ) (x : Mark) → k ≡ p → m p ≡ x → (x ≡ Spawn → ⊥) → m k ≡ Spawn → ⊥
  not_spawn p k x e i not is = not (sym i ∙ ap m (sym e) ∙ is)

  -- each spawn has a `resume`
  pub returned : (s : Shape) (p : ℕ) (prev ends : List ℕ) → Laid f (line_of s) p prev ends → Marked m s p → (k : ℕ) → p ≤ k → k < p + long (line_of s) → m k ≡ Spawn → (q : ℕ) × IsReturn k q
  returned finish p prev ends h i k le lt is = absurd (not_spawn p k End (omega arith) i (λ e. cc e) is)
  returned (act s) p prev ends h i k le lt is =
      dite (ℕ_discrete k p)
      (λ (same : k ≡ p). absurd (not_spawn p k Plain same i.0 (λ e. cc e) is))
      (λ (other : k ≢ p). returned s (suc p) (p ∷ []) ends h.1 i.1 k (omega arith) (omega arith) is)
  returned (sync s) p prev ends h i k le lt is =
      dite (ℕ_discrete k p)
      (λ (same : k ≡ p). absurd (not_spawn p k Sync same i.0 (λ e. cc e) is))
      (λ (other : k ≢ p). returned s (suc p) (p ∷ []) [] h.1 i.1 k (omega arith) (omega arith) is)
  returned (child c u s) p prev ends h i k le lt is =
      let z : ℕ = end_of u p in
      dite (ℕ_discrete k p)
      (λ (same : k ≡ p). (suc z, subst (λ (j : ℕ). IsReturn j (suc z)) (sym same) (own_return c p z i.0 (ap m (sym same) ∙ is) h.2.0 i.3)))
      (λ (other : k ≢ p). dite (ℕ_discrete k (suc p))
      (λ (begun : k ≡ suc p). absurd (not_spawn (suc p) k Begin begun i.1 (λ e. cc e) is))
      (λ (more : k ≢ suc p). dite (dec_lt k (suc z))
      (λ (within : k < suc z). returned u (suc (suc p)) (suc p ∷ []) [] h.1.1 i.2 k (omega arith) (omega arith) is)
      (λ past. dite (ℕ_discrete k (suc z))
      (λ (back : k ≡ suc z). absurd (not_spawn (suc z) k Resume back i.3 (λ e. cc e) is))
      (λ (rest : k ≢ suc z). returned s (suc (suc z)) (suc z ∷ []) (awaited c z ends) h.2.1 i.4 k (omega arith) (omega arith) is))))

pub ends_last : (m : ℕ → Mark) (s : Shape) (p z : ℕ) → suc z ≡ p + long (line_of s) → Marked m s p → m z ≡ End
ends_last m finish p z e h = let k : z ≡ p = omega arith in ap m k ∙ h
ends_last m (act r) p z e h = ends_last m r (suc p) z (omega arith) h.1
ends_last m (sync r) p z e h = ends_last m r (suc p) z (omega arith) h.1
ends_last m (child k u r) p z e h = ends_last m r (suc (suc (end_of u p))) z (omega arith) h.4
