-- Positions beside each other aren't reached by immediate predecessors, and all others are.
use Rattle.std.proofs.Common.{◌≡◌, ◌≢◌, ℕ, zero, suc, ◌+◌, ◌<◌, ◌≤◌, List, [], ◌∷◌, ◌++◌, Some, None, slice_get, refl, sym, ap, subst, ◌∙◌, arith, ◌⊎◌, inl, inr, ⊎_elim}
use mathlib.Core.Logic.{dite}
use native.Mathlib.Decide.{dec_lt, ℕ_discrete}
use Rattle.cilk_types.specs.declared.invocation.Invocation.{Invocation}
use Rattle.cilk_types.specs.declared.invocation.Invocation.TheVariants as invocations
use Rattle.cilk_tree.specs.Reach.{Among, Reaches, direct, through, resumed_from, awaited}
use Rattle.cilk_tree.proofs.Lines.{Line, stop, plain, wait, inside, long, block, Laid, SyncAhead, GoesOn, ComesAfter, IsClosed}
use Rattle.cilk_tree.proofs.Places.{Lies}

-- ---- lists of immediate predecessors
pub among_none : {e : ℕ} → Among e [] → ⊥
among_none {e} h = absurd (let c : None ≡ Some e = h.is in cc c)

pub among_here : (x : ℕ) (xs : List ℕ) → Among x (x ∷ xs)
among_here x xs = record { place = zero; is = refl }

pub among_more : {e : ℕ} (x : ℕ) (xs : List ℕ) → Among e xs → Among e (x ∷ xs)
among_more x xs h = record { place = suc h.place; is = h.is }

among_at : (e x : ℕ) (xs : List ℕ) (k : ℕ) → slice_get (x ∷ xs) k ≡ Some e → (e ≡ x) ⊎ Among e xs
among_at e x xs zero h = inl (let c : Some x ≡ Some e = h in let d : x ≡ e = cc c in sym d)
among_at e x xs (suc k) h = inr (record { place = k; is = h })

pub among_first : {e : ℕ} (x : ℕ) (xs : List ℕ) → Among e (x ∷ xs) → (e ≡ x) ⊎ Among e xs
among_first {e} x xs h = among_at e x xs h.place h.is

pub among_one : {e x : ℕ} → Among e (x ∷ []) → e ≡ x
among_one {x = x} h = ⊎_elim (λ q. q) (λ z. absurd (among_none z)) (among_first x [] h)

among_same : {e : ℕ} (x : ℕ) (xs : List ℕ) → e ≡ x → Among e (x ∷ xs)
among_same x xs q = record { place = zero; is = ap Some (sym q) }

pub among_left : {e : ℕ} (xs ys : List ℕ) → Among e xs → Among e (xs ++ ys)
among_left [] ys h = absurd (among_none h)
among_left (x ∷ xs) ys h = ⊎_elim (λ q. among_same x (xs ++ ys) q) (λ z. among_more x (xs ++ ys) (among_left xs ys z)) (among_first x xs h)

pub among_right : {e : ℕ} (xs ys : List ℕ) → Among e ys → Among e (xs ++ ys)
among_right [] ys h = h
among_right (x ∷ xs) ys h = among_more x (xs ++ ys) (among_right xs ys h)

pub among_split : {e : ℕ} (xs ys : List ℕ) → Among e (xs ++ ys) → Among e xs ⊎ Among e ys
among_split [] ys h = inr h
among_split (x ∷ xs) ys h = ⊎_elim (λ q. inl (among_same x xs q)) (λ z. ⊎_elim (λ a. inl (among_more x xs a)) (λ b. inr b) (among_split xs ys z)) (among_first x (xs ++ ys) h)

-- the same, or reached
abbrev pub Comes : (ℕ → List ℕ) → ℕ → ℕ → Type 0
Comes f a b = (a ≡ b) ⊎ Reaches f a b

pub reach_then : {f : ℕ → List ℕ} {a b c : ℕ} → Reaches f a b → Reaches f b c → Reaches f a c
reach_then g (direct h) = through g h
reach_then g (through k h) = through (reach_then g k) h

pub comes_then : {f : ℕ → List ℕ} {a b c : ℕ} → Comes f a b → Reaches f b c → Reaches f a c
comes_then {f} {c = c} (inl e) g = subst (λ z. Reaches f z c) (sym e) g
comes_then (inr k) g = reach_then k g

-- ---- beside each other, by the line
abbrev pub Across : Invocation → ℕ → ℕ → ℕ → ℕ → ℕ → Type 0
Across invocations.Call a n m p q = ⊥
Across invocations.Spawn a n m p q = Lies a n p × Lies (a + n) m q

-- p is in a spawned child, and q in the rest of the block that spawned it
abbrev pub Par : Line → ℕ → ℕ → ℕ → Type 0
Par stop o p q = ⊥
Par (plain r) o p q = Par r (suc o) p q
Par (wait r) o p q = Par r (suc o) p q
Par (inside k u r) o p q = Par u (suc o) p q ⊎ Par r (suc (o + long u)) p q ⊎ Across k (suc o) (long u) (block r) p q

from_resumed : {x : ℕ} (k : Invocation) (o z : ℕ) → Among x (resumed_from k o z) → (x ≡ o) ⊎ (x ≡ z)
from_resumed invocations.Call o z h = inr (among_one h)
from_resumed invocations.Spawn o z h = inl (among_one h)

from_awaited : {x : ℕ} (k : Invocation) (z : ℕ) (ends : List ℕ) → Among x (awaited k z ends) → (x ≡ z) ⊎ Among x ends
from_awaited invocations.Call z ends h = inr h
from_awaited invocations.Spawn z ends h = among_first z ends h

pub block_long : (r : Line) → block r ≤ long r
block_long stop = omega arith
block_long (plain r) = let k = block_long r in omega (arith, k)
block_long (wait r) = omega arith
block_long (inside k u r) = let h = block_long r in omega (arith, h)

across_bounds : (k : Invocation) (a n m p q : ℕ) → Across k a n m p q → Lies a n p × Lies (a + n) m q
across_bounds invocations.Call a n m p q h = absurd h
across_bounds invocations.Spawn a n m p q h = h

pub par_bounds : (r : Line) (o p q : ℕ) → Par r o p q → (o ≤ p) × (p < q) × (q < o + long r)
par_bounds stop o p q h = absurd h
par_bounds (plain r) o p q h = let k = par_bounds r (suc o) p q h in (omega (arith, k.0), k.1, omega (arith, k.2))
par_bounds (wait r) o p q h = let k = par_bounds r (suc o) p q h in (omega (arith, k.0), k.1, omega (arith, k.2))
par_bounds (inside c u r) o p q (inl h) = let k = par_bounds u (suc o) p q h in (omega (arith, k.0), k.1, omega (arith, k.2))
par_bounds (inside c u r) o p q (inr (inl h)) = let k = par_bounds r (suc (o + long u)) p q h in (omega (arith, k.0), k.1, omega (arith, k.2))
par_bounds (inside c u r) o p q (inr (inr h)) =
    let k = across_bounds c (suc o) (long u) (block r) p q h in
    let m = block_long r in
    (omega (arith, k.0.0), omega (arith, k.0.1, k.1.0), omega (arith, k.1.1, m))

-- ---- immediate predecessors come earlier
abbrev pub Low : List ℕ → ℕ → Type 0
Low xs o = (x : ℕ) → Among x xs → x < o

pub low_none : (o : ℕ) → Low [] o
low_none o x h = absurd (among_none h)

pub low_one : (o : ℕ) → Low (o ∷ []) (suc o)
low_one o x h = let e = among_one h in omega (arith, e)

low_more : (ends : List ℕ) (o : ℕ) → Low ends o → Low ends (suc o)
low_more ends o low x h = let k = low x h in omega (arith, k)

low_resumed : (k : Invocation) (o n : ℕ) → Low (resumed_from k o (o + n)) (suc (o + n))
low_resumed k o n x h = ⊎_elim (λ e. omega arith) (λ e. omega arith) (from_resumed k o (o + n) h)

low_awaited : (k : Invocation) (o n : ℕ) (ends : List ℕ) → Low ends o → Low (awaited k (o + n) ends) (suc (o + n))
low_awaited k o n ends low x h = ⊎_elim (λ e. omega arith) (λ a. let i = low x a in omega arith) (from_awaited k (o + n) ends h)

module _ (f : ℕ → List ℕ) where
  -- the places of an event's immediate predecessors
  abbrev Stand : ℕ → ℕ → ℕ → List ℕ → List ℕ → Type 0
  Stand o q e prev ends = Among e prev ⊎ Among e ends ⊎ ((o ≤ e) × (e < q))

  stand_next : (o q e : ℕ) (ends : List ℕ) → o < q → Stand (suc o) q e (o ∷ []) ends → Among e ends ⊎ ((o ≤ e) × (e < q))
  stand_next o q e ends lt h =
      ⊎_elim
      (λ x. let k = among_one x in inr (omega arith, omega arith))
      (⊎_elim (λ x. inl x) (λ (x : (suc o ≤ e) × (e < q)). inr (omega (arith, x.0), x.1)))
      h

  pub within : (r : Line) (o : ℕ) (prev ends : List ℕ) → Laid f r o prev ends → (q e : ℕ) → o ≤ q → q < o + long r → Among e (f q) → Among e prev ⊎ Among e ends ⊎ ((o ≤ e) × (e < q))
  within stop o prev ends h q e le lt a = absurd (omega arith)
  within (plain r) o prev ends h q e le lt a =
      dite (ℕ_discrete q o)
      (λ (same : q ≡ o). inl (subst (Among e) (ap f same ∙ h.0) a))
      (λ (other : q ≢ o). inr (stand_next o q e ends (omega arith) (within r (suc o) (o ∷ []) ends h.1 q e (omega arith) (omega arith) a)))
  within (wait r) o prev ends h q e le lt a =
      dite (ℕ_discrete q o)
      (λ (same : q ≡ o). ⊎_elim (λ x. inl x) (λ x. inr (inl x)) (among_split prev ends (subst (Among e) (ap f same ∙ h.0) a)))
      (λ (other : q ≢ o). ⊎_elim (λ x. absurd (among_none x)) (λ x. inr (inr x)) (stand_next o q e [] (omega arith) (within r (suc o) (o ∷ []) [] h.1 q e (omega arith) (omega arith) a)))
  within (inside c u r) o prev ends h q e le lt a =
      let z : ℕ = o + long u in
      dite (ℕ_discrete q o)
      (λ (same : q ≡ o). inl (subst (Among e) (ap f same ∙ h.0) a))
      (λ (other : q ≢ o). dite (dec_lt q (suc z))
      (λ (inner : q < suc z). ⊎_elim (λ x. absurd (among_none x)) (λ x. inr (inr x)) (stand_next o q e [] (omega arith) (within u (suc o) (o ∷ []) [] h.1 q e (omega arith) (omega arith) a)))
      (λ past. ⊎_elim
      (λ x. inr (inr (⊎_elim {C = (o ≤ e) × (e < q)} (λ k. (omega arith, omega arith)) (λ k. (omega arith, omega arith)) (from_resumed c o z x))))
      (⊎_elim
      (λ x. ⊎_elim (λ k. inr (inr (omega arith, omega arith))) (λ k. inr (inl k)) (from_awaited c z ends x))
      (λ (x : (suc z ≤ e) × (e < q)). inr (inr (omega (arith, x.0), x.1))))
      (within r (suc z) (resumed_from c o z) (awaited c z ends) h.2 q e (omega arith) (omega arith) a)))

  pub lower : (r : Line) (o : ℕ) (prev ends : List ℕ) → Laid f r o prev ends → Low prev o → Low ends o → (q e : ℕ) → o ≤ q → q < o + long r → Among e (f q) → e < q
  lower r o prev ends h lp le q e low lt a = ⊎_elim (λ x. let k = lp e x in omega arith) (⊎_elim (λ x. let k = le e x in omega arith) (λ (x : (o ≤ e) × (e < q)). x.1)) (within r o prev ends h q e low lt a)

  -- up to the next sync they aren't ends that the block awaits
  pub in_block : (r : Line) (o : ℕ) (prev ends : List ℕ) → Laid f r o prev ends → (q e : ℕ) → o ≤ q → q < o + block r → Among e (f q) → Among e prev ⊎ (o ≤ e)
  in_block stop o prev ends h q e le lt a = absurd (omega arith)
  in_block (plain r) o prev ends h q e le lt a =
      dite (ℕ_discrete q o)
      (λ (same : q ≡ o). inl (subst (Among e) (ap f same ∙ h.0) a))
      (λ (other : q ≢ o). ⊎_elim (λ x. let k = among_one x in inr (omega arith)) (λ x. inr (omega arith)) (in_block r (suc o) (o ∷ []) ends h.1 q e (omega arith) (omega arith) a))
  in_block (wait r) o prev ends h q e le lt a = absurd (omega arith)
  in_block (inside c u r) o prev ends h q e le lt a =
      let z : ℕ = o + long u in
      dite (ℕ_discrete q o)
      (λ (same : q ≡ o). inl (subst (Among e) (ap f same ∙ h.0) a))
      (λ (other : q ≢ o). dite (dec_lt q (suc z))
      (λ (inner : q < suc z). ⊎_elim (λ x. absurd (among_none x)) (λ (x : (o ≤ e) × (e < q)). inr x.0) (stand_next o q e [] (omega arith) (within u (suc o) (o ∷ []) [] h.1 q e (omega arith) (omega arith) a)))
      (λ past. ⊎_elim
      (λ x. inr (⊎_elim {C = o ≤ e} (λ k. omega arith) (λ k. omega arith) (from_resumed c o z x)))
      (λ x. inr (omega arith))
      (in_block r (suc z) (resumed_from c o z) (awaited c z ends) h.2 q e (omega arith) (omega arith) a)))

  across_edge : (c : Invocation) (u r : Line) (o : ℕ) (ends : List ℕ) → Laid f r (suc (o + long u)) (resumed_from c o (o + long u)) (awaited c (o + long u) ends) → Low ends o → (p q e : ℕ) → Across c (suc o) (long u) (block r) p q → Among e (f q) → p ≤ e → Across c (suc o) (long u) (block r) p e
  across_edge invocations.Call u r o ends h low p q e k a le = absurd k
  across_edge invocations.Spawn u r o ends h low p q e k a le =
      let z : ℕ = o + long u in
      let m = block_long r in
      let far : q < suc z + block r = omega (arith, k.1.1) in
      let near : suc z ≤ q = omega (arith, k.1.0) in
      let under = lower r (suc z) (o ∷ []) (z ∷ ends) h (low_resumed invocations.Spawn o (long u)) (low_awaited invocations.Spawn o (long u) ends low) q e near (omega arith) a in
      ⊎_elim
      (λ x. let same = among_one x in absurd (omega (arith, k.0.0)))
      (λ x. (k.0, (omega arith, omega arith)))
      (in_block r (suc z) (o ∷ []) (z ∷ ends) h q e near far a)

  -- a predecessor of an event that isn't before p is beside p too
  pub edge : (r : Line) (o : ℕ) (prev ends : List ℕ) → Laid f r o prev ends → Low prev o → Low ends o → (p q e : ℕ) → Par r o p q → Among e (f q) → p ≤ e → Par r o p e
  edge stop o prev ends h lp lo p q e k a le = absurd k
  edge (plain r) o prev ends h lp lo p q e k a le = edge r (suc o) (o ∷ []) ends h.1 (low_one o) (low_more ends o lo) p q e k a le
  edge (wait r) o prev ends h lp lo p q e k a le = edge r (suc o) (o ∷ []) [] h.1 (low_one o) (low_none (suc o)) p q e k a le
  edge (inside c u r) o prev ends h lp lo p q e (inl k) a le = inl (edge u (suc o) (o ∷ []) [] h.1 (low_one o) (low_none (suc o)) p q e k a le)
  edge (inside c u r) o prev ends h lp lo p q e (inr (inl k)) a le =
      inr (inl (edge r (suc (o + long u)) (resumed_from c o (o + long u)) (awaited c (o + long u) ends) h.2 (low_resumed c o (long u)) (low_awaited c o (long u) ends lo) p q e k a le))
  edge (inside c u r) o prev ends h lp lo p q e (inr (inr k)) a le = inr (inr (across_edge c u r o ends h.2 lo p q e k a le))

  module _ (t : Line) (o : ℕ) (laid : Laid f t o [] []) (earlier : (p e : ℕ) → Among e (f p) → e < p) where
    pub reaches_less : {p q : ℕ} → Reaches f p q → p < q
    reaches_less {p} {q} (direct h) = earlier q p h
    reaches_less {p} {q} (through {e = e} b h) = let k = reaches_less b in let m = earlier q e h in omega arith

    -- of two positions beside each other neither reaches the other
    pub reaches_apart : {p q : ℕ} → Reaches f p q → Par t o p q → ⊥
    reaches_apart {p} {q} (direct h) k =
        let m = par_bounds t o p p (edge t o [] [] laid (low_none o) (low_none o) p q p k h (omega arith)) in
        absurd (omega (arith, m.1))
    reaches_apart {p} {q} (through {e = e} b h) k =
        let m = reaches_less b in
        reaches_apart b (edge t o [] [] laid (low_none o) (low_none o) p q e k h (omega arith))

  -- ---- positions that aren't beside each other are reached
  -- the predecessors of the line's first event
  into : (r : Line) (o : ℕ) (prev ends : List ℕ) → Laid f r o prev ends → 0 < long r → (x : ℕ) → Among x prev → Reaches f x o
  into stop o prev ends h some x a = absurd (omega arith)
  into (plain r) o prev ends h some x a = direct (subst (Among x) (sym h.0) a)
  into (wait r) o prev ends h some x a = direct (subst (Among x) (sym h.0) (among_left prev ends a))
  into (inside c u r) o prev ends h some x a = direct (subst (Among x) (sym h.0) a)

  -- the predecessors of the rest that are reached from the invocation
  resumed_reach : (c : Invocation) (o z : ℕ) → Comes f o z → (y : ℕ) × Among y (resumed_from c o z) × Comes f o y
  resumed_reach invocations.Call o z h = (z, among_here z [], h)
  resumed_reach invocations.Spawn o z h = (o, among_here o [], inl refl)

  -- reaches all of it
  pub first : (r : Line) (o : ℕ) (prev ends : List ℕ) → Laid f r o prev ends → (x : ℕ) → Among x prev → (q : ℕ) → o ≤ q → q < o + long r → Reaches f x q
  first stop o prev ends h x a q le lt = absurd (omega arith)
  first (plain r) o prev ends h x a q le lt =
      let here : Reaches f x o = into (plain r) o prev ends h (omega arith) x a in
      dite (ℕ_discrete q o)
      (λ (same : q ≡ o). subst (λ z. Reaches f x z) (sym same) here)
      (λ (other : q ≢ o). reach_then here (first r (suc o) (o ∷ []) ends h.1 o (among_here o []) q (omega arith) (omega arith)))
  first (wait r) o prev ends h x a q le lt =
      let here : Reaches f x o = into (wait r) o prev ends h (omega arith) x a in
      dite (ℕ_discrete q o)
      (λ (same : q ≡ o). subst (λ z. Reaches f x z) (sym same) here)
      (λ (other : q ≢ o). reach_then here (first r (suc o) (o ∷ []) [] h.1 o (among_here o []) q (omega arith) (omega arith)))
  first (inside c u r) o prev ends h x a q le lt =
      let here : Reaches f x o = into (inside c u r) o prev ends h (omega arith) x a in
      let inner = first u (suc o) (o ∷ []) [] h.1 o (among_here o []) in
      let z : ℕ = o + long u in
      dite (ℕ_discrete q o)
      (λ (same : q ≡ o). subst (λ y. Reaches f x y) (sym same) here)
      (λ (other : q ≢ o). dite (dec_lt q (suc z))
      (λ (before : q < suc z). reach_then here (inner q (omega arith) (omega arith)))
      (λ past. let done : Comes f o z = dite (ℕ_discrete (long u) 0) (λ (none : long u ≡ 0). inl (omega arith)) (λ (some : long u ≢ 0). inr (inner z (omega arith) (omega arith))) in
      let k = resumed_reach c o z done in
      reach_then here (comes_then k.2 (first r (suc z) (resumed_from c o z) (awaited c z ends) h.2 k.0 k.1 q (omega arith) (omega arith)))))

  -- the end of a child is reached from its invocation
  to_end : (u : Line) (o : ℕ) → Laid f u (suc o) (o ∷ []) [] → Comes f o (o + long u)
  to_end u o h =
      dite (ℕ_discrete (long u) 0)
      (λ (none : long u ≡ 0). inl (omega arith))
      (λ (some : long u ≢ 0). inr (first u (suc o) (o ∷ []) [] h o (among_here o []) (o + long u) (omega arith) (omega arith)))

  -- the line's first event reaches all others
  pub ahead : (r : Line) (o : ℕ) (prev ends : List ℕ) → Laid f r o prev ends → (q : ℕ) → o < q → q < o + long r → Reaches f o q
  ahead stop o prev ends h q le lt = absurd (omega arith)
  ahead (plain r) o prev ends h q le lt = first r (suc o) (o ∷ []) ends h.1 o (among_here o []) q (omega arith) (omega arith)
  ahead (wait r) o prev ends h q le lt = first r (suc o) (o ∷ []) [] h.1 o (among_here o []) q (omega arith) (omega arith)
  ahead (inside c u r) o prev ends h q le lt =
      let z : ℕ = o + long u in
      dite (dec_lt q (suc z))
      (λ (before : q < suc z). first u (suc o) (o ∷ []) [] h.1 o (among_here o []) q (omega arith) (omega arith))
      (λ past. let k = resumed_reach c o z (to_end u o h.1) in
      comes_then k.2 (first r (suc z) (resumed_from c o z) (awaited c z ends) h.2 k.0 k.1 q (omega arith) (omega arith)))

  more_awaited : {x : ℕ} (c : Invocation) (z : ℕ) (ends : List ℕ) → Among x ends → Among x (awaited c z ends)
  more_awaited invocations.Call z ends h = h
  more_awaited invocations.Spawn z ends h = among_more z ends h

  -- an end that the block awaits reaches all from the sync on
  pub rejoin : (r : Line) (o : ℕ) (prev ends : List ℕ) → Laid f r o prev ends → (x : ℕ) → Among x ends → (q : ℕ) → o + block r ≤ q → q < o + long r → Reaches f x q
  rejoin stop o prev ends h x a q le lt = absurd (omega arith)
  rejoin (plain r) o prev ends h x a q le lt = rejoin r (suc o) (o ∷ []) ends h.1 x a q (omega arith) (omega arith)
  rejoin (wait r) o prev ends h x a q le lt =
      let here : Reaches f x o = direct (subst (Among x) (sym h.0) (among_right prev ends a)) in
      dite (ℕ_discrete q o)
      (λ (same : q ≡ o). subst (λ z. Reaches f x z) (sym same) here)
      (λ (other : q ≢ o). reach_then here (first r (suc o) (o ∷ []) [] h.1 o (among_here o []) q (omega arith) (omega arith)))
  rejoin (inside c u r) o prev ends h x a q le lt =
      rejoin r (suc (o + long u)) (resumed_from c o (o + long u)) (awaited c (o + long u) ends) h.2 x (more_awaited c (o + long u) ends a) q (omega arith) (omega arith)

  -- the end of a child reaches the positions that aren't across from it
  pub past_end : (c : Invocation) (r : Line) (o z : ℕ) (ends : List ℕ) → Laid f r (suc z) (resumed_from c o z) (awaited c z ends) → (q : ℕ) → suc z ≤ q → q < suc z + long r → (c ≡ invocations.Spawn → suc z + block r ≤ q) → Reaches f z q
  past_end invocations.Call r o z ends h q le lt far = first r (suc z) (z ∷ []) ends h z (among_here z []) q le lt
  past_end invocations.Spawn r o z ends h q le lt far = rejoin r (suc z) (o ∷ []) (z ∷ ends) h z (among_here z ends) q (far refl) lt

goes_on : (r : Line) → GoesOn r → 0 < long r
goes_on stop h = absurd h
goes_on (plain r) h = omega arith
goes_on (wait r) h = omega arith
goes_on (inside c u r) h = omega arith

sync_ahead : (r : Line) → SyncAhead r → block r < long r
sync_ahead stop h = absurd h
sync_ahead (plain r) h = let k = sync_ahead r h in omega (arith, k)
sync_ahead (wait r) h = omega arith
sync_ahead (inside c u r) h = let k = sync_ahead r h in omega (arith, k)

comes_after : (c : Invocation) (r : Line) (z : ℕ) → ComesAfter c r → (0 < long r) × (c ≡ invocations.Spawn → suc z + block r ≤ z + long r)
comes_after invocations.Call r z h = (goes_on r h, λ e. absurd (cc e))
comes_after invocations.Spawn r z h = let k = sync_ahead r h in (omega (arith, k), λ e. omega (arith, k))

-- the positions that aren't across from a child
far_from : (c : Invocation) (a n m p q : ℕ) → Lies a n p → a + n ≤ q → (Across c a n m p q → ⊥) → c ≡ invocations.Spawn → a + n + m ≤ q
far_from invocations.Call a n m p q i le never e = absurd (cc e)
far_from invocations.Spawn a n m p q i le never e = dite (dec_lt q (a + n + m)) (λ (lt : q < a + n + m). absurd (never (i, (le, lt)))) (λ not. omega arith)

module _ (f : ℕ → List ℕ) where
  -- all of a closed line reaches its last event, at z
  pub last : (r : Line) (o : ℕ) (prev ends : List ℕ) → Laid f r o prev ends → IsClosed r → (z p : ℕ) → suc z ≡ o + long r → o ≤ p → p ≤ z → Comes f p z
  last stop o prev ends h closed z p end le lt = absurd (omega arith)
  last (plain r) o prev ends h closed z p end le lt =
      dite (ℕ_discrete p z)
      (λ (same : p ≡ z). inl same)
      (λ (other : p ≢ z). dite (ℕ_discrete p o)
      (λ (one : p ≡ o). inr (subst (λ y. Reaches f y z) (sym one) (ahead f (plain r) o prev ends h z (omega arith) (omega arith))))
      (λ (more : p ≢ o). last r (suc o) (o ∷ []) ends h.1 closed z p (omega arith) (omega arith) lt))
  last (wait r) o prev ends h closed z p end le lt =
      dite (ℕ_discrete p z)
      (λ (same : p ≡ z). inl same)
      (λ (other : p ≢ z). dite (ℕ_discrete p o)
      (λ (one : p ≡ o). inr (subst (λ y. Reaches f y z) (sym one) (ahead f (wait r) o prev ends h z (omega arith) (omega arith))))
      (λ (more : p ≢ o). last r (suc o) (o ∷ []) [] h.1 closed z p (omega arith) (omega arith) lt))
  last (inside c u r) o prev ends h closed z p end le lt =
      let y : ℕ = o + long u in
      let more = comes_after c r (suc y) closed.0 in
      dite (ℕ_discrete p o)
      (λ (one : p ≡ o). inr (subst (λ x. Reaches f x z) (sym one) (ahead f (inside c u r) o prev ends h z (omega (arith, more.0)) (omega arith))))
      (λ (other : p ≢ o). dite (dec_lt p (suc y))
      (λ (before : p < suc y). inr (comes_then (last u (suc o) (o ∷ []) [] h.1 closed.1 y p (omega arith) (omega arith) (omega arith)) (past_end f c r o y ends h.2 z (omega (arith, more.0)) (omega arith) (λ e. let k = more.1 e in omega arith))))
      (λ past. last r (suc y) (resumed_from c o y) (awaited c y ends) h.2 closed.2 z p (omega arith) (omega arith) lt))

  -- of two positions that don't lie beside each other the earlier reaches the other
  pub reaches : (r : Line) (o : ℕ) (prev ends : List ℕ) → Laid f r o prev ends → IsClosed r → (p q : ℕ) → o ≤ p → p < q → q < o + long r → (Par r o p q → ⊥) → Reaches f p q
  reaches stop o prev ends h closed p q le less lt never = absurd (omega arith)
  reaches (plain r) o prev ends h closed p q le less lt never =
      dite (ℕ_discrete p o)
      (λ (one : p ≡ o). subst (λ y. Reaches f y q) (sym one) (ahead f (plain r) o prev ends h q (omega arith) lt))
      (λ (more : p ≢ o). reaches r (suc o) (o ∷ []) ends h.1 closed p q (omega arith) less (omega arith) never)
  reaches (wait r) o prev ends h closed p q le less lt never =
      dite (ℕ_discrete p o)
      (λ (one : p ≡ o). subst (λ y. Reaches f y q) (sym one) (ahead f (wait r) o prev ends h q (omega arith) lt))
      (λ (more : p ≢ o). reaches r (suc o) (o ∷ []) [] h.1 closed p q (omega arith) less (omega arith) never)
  reaches (inside c u r) o prev ends h closed p q le less lt never =
      let z : ℕ = o + long u in
      dite (ℕ_discrete p o)
      (λ (one : p ≡ o). subst (λ y. Reaches f y q) (sym one) (ahead f (inside c u r) o prev ends h q (omega arith) lt))
      (λ (more : p ≢ o). dite (dec_lt p (suc z))
      (λ (before : p < suc z). dite (dec_lt q (suc z))
      (λ (both : q < suc z). reaches u (suc o) (o ∷ []) [] h.1 closed.1 p q (omega arith) less (omega arith) (λ k. never (inl k)))
      (λ past. let far = far_from c (suc o) (long u) (block r) p q (omega arith, omega arith) (omega arith) (λ k. never (inr (inr k))) in
      comes_then (last u (suc o) (o ∷ []) [] h.1 closed.1 z p (omega arith) (omega arith) (omega arith)) (past_end f c r o z ends h.2 q (omega arith) (omega arith) (λ e. let k = far e in omega arith))))
      (λ past. reaches r (suc z) (resumed_from c o z) (awaited c z ends) h.2 closed.2 p q (omega arith) less (omega arith) (λ k. never (inr (inl k)))))
