-- A small run has a plan: `has_plan`.
use Rattle.std.proofs.Common.{◌≡◌, inl, inr, ⊎_elim, ℕ, zero, suc, ◌+◌, ◌-◌, ℤ, pos, List, [], ◌∷◌, Option, Some, None, slice_get, lit≤, refl, sym, ◌∙◌, subst, arith}
use Rattle.cilk_types.specs.declared.event.Event.{Event}
use Rattle.cilk_types.specs.declared.event.Event.TheVariants.{Read, Write}
use Rattle.cilk_types.specs.declared.invocation.Invocation.TheVariants as invocations
use Rattle.cilk_tree.specs.Shape.{Shape, finish, act, sync, child}
use Rattle.cilk_tree.specs.Tree.{Tree, strand, series, beside, block, blocks, tree, leaves}
use Rattle.cilk_tree.specs.Parallel.{Parallel}
use Rattle.cilk_tree.specs.Races.{event_at, strand_at, Accesses, Writes, HasNoRace}
use Rattle.cilk_tree.specs.Sources.{last_write}
use Rattle.cilk_tree.proofs.Order.{holds_both}
use Rattle.cilk_tree.specs.declared.event_order.EventOrder.{EventOrder}
use Rattle.cilk_tree.specs.Word.{event}
use Rattle.cilk_tree.specs.Values.{HasValue}
use Rattle.cilk_tree.specs.Planned.{planned}
use Rattle.cilk_tree.specs.WorkedPlan.{two_reads, TwoReadsHavePlan}

-- each event of a list has a property of its place
abbrev pub Each : (ℕ → Event → Type 0) → List Event → ℕ → Type 0
Each P [] i = Unit {0}
Each P (e ∷ es) i = P i e × Each P es (suc i)

each_at : (P : ℕ → Event → Type 0) (es : List Event) (i j : ℕ) (e : Event) → Each P es i → slice_get es j ≡ Some e → P (i + j) e
each_at P [] i j e h is = absurd (let c : None ≡ Some e = is in cc c)
each_at P (x ∷ xs) i zero e h is =
    let c : Some x ≡ Some e = is in
    let same : x ≡ e = cc c in
    let z : i ≡ i + 0 = omega arith in
    subst (λ (k : ℕ). P k e) z (subst (P i) same h.0)
each_at P (x ∷ xs) i (suc j) e h is = let z : suc i + j ≡ i + suc j = omega arith in subst (λ (k : ℕ). P k e) z (each_at P xs (suc i) j e h.1 is)

pub each_here : (P : ℕ → Event → Type 0) (es : List Event) (j : ℕ) (e : Event) → Each P es 0 → slice_get es j ≡ Some e → P j e
each_here P es j e h is = let z : 0 + j ≡ j = omega arith in subst (λ (k : ℕ). P k e) z (each_at P es 0 j e h is)

abbrev shape : Shape
shape = act (child invocations.Spawn (act (sync finish)) (act (sync (sync finish))))

abbrev event_order : EventOrder
event_order = planned two_reads (pos 0 ∷ [])

-- ---- the one write is at position 2
writes_at : (j c : ℕ) (o : Option Event) → slice_get two_reads j ≡ o → Writes o c → j ≡ 1
writes_at j c None is h = absurd h
writes_at j c (Some e) is h =
    each_here (λ i x. Writes (Some x) c → i ≡ 1) two_reads j e
    (λ k. absurd k, (λ k. refl, (λ k. absurd k, (λ k. absurd k, (λ k. absurd k, (λ k. absurd k, (λ k. absurd k, (λ k. absurd k, (λ k. absurd k, (λ k. absurd k, (λ k. absurd k, (λ k. absurd k, tt))))))))))))
    is h

-- the first strand is in series with all others
first_alone : (n : ℕ) (a b : Tree) (v : ℕ) → Parallel (series (series (strand n) a) b) 1 1 v → ⊥
first_alone n a b v (inl (inl h)) = h
first_alone n a b v (inl (inr h)) = absurd (let k = (holds_both a 2 1 v h).0 in omega (arith, k))
first_alone n a b v (inr h) = absurd (let k = (holds_both b (1 + (1 + leaves a)) 1 v h).0 in omega (arith, k))

-- the child is beside the rest of its block, and before the later block
abbrev ending : Tree
ending = blocks (record { events = 1; after = None; later = None })

abbrev later : Tree
later = blocks (record { events = 0; after = None; later = Some ending })

abbrev beside_parent : Tree
beside_parent = beside invocations.Spawn (blocks (record { events = 1; after = None; later = Some ending })) (block (record { events = 1; after = None; later = Some later }))

free : HasNoRace (tree shape) two_reads
free p q r = ⊎_elim
    (λ (h : Writes (event_at two_reads p) r.cell × Accesses (event_at two_reads q) r.cell).
    let at = writes_at (p - 1) r.cell (event_at two_reads p) refl h.0 in
    let two : p ≡ 2 = let l = r.first in omega (arith, at, l) in
    first_alone 3 beside_parent later (strand_at two_reads q) (subst (λ (k : ℕ). Parallel (tree shape) 1 (strand_at two_reads k) (strand_at two_reads q)) two r.parallel))
    (λ (h : Accesses (event_at two_reads p) r.cell × Writes (event_at two_reads q) r.cell).
    let at = writes_at (q - 1) r.cell (event_at two_reads q) refl h.1 in
    let one : p ≡ 1 = let l = r.first in let e = r.earlier in omega (arith, at, l, e) in
    absurd (subst (λ (k : ℕ). Accesses (event_at two_reads k) r.cell) one h.0))
    r.clash

-- ---- values
has_seven : (n : ℕ) → n ≡ 2 → (k : ℕ) → n ≡ suc k → event event_order (suc k) ≡ Some (Write 0 (pos 7))
has_seven n two k is = let z : 2 ≡ suc k = sym two ∙ is in subst (λ (j : ℕ). event event_order j ≡ Some (Write 0 (pos 7))) z refl

value : (n : ℕ) → last_write two_reads 0 n ≡ 2 → HasValue event_order 0 n (pos 7)
value n two = record {
  opened = λ z. absurd (omega (arith, two, z));
  written = λ q is. has_seven (last_write two_reads 0 n) two q is;
}

value_at : (n : ℕ) → last_write two_reads 0 n ≡ 2 → (c : ℕ) (v : ℤ) → Read 0 (pos 7) ≡ Read c v → HasValue event_order c n v
value_at n two c v h =
    let a : 0 ≡ c = cc h in
    let b : pos 7 ≡ v = cc h in
    subst (λ (k : ℕ). HasValue event_order k n v) a (subst (λ (x : ℤ). HasValue event_order 0 n x) b (value n two))

reads : (p c : ℕ) (v : ℤ) → event_at two_reads p ≡ Some (Read c v) → HasValue event_order c (p - 1) v
reads p c v is =
    each_here (λ i x. (c : ℕ) (v : ℤ) → x ≡ Read c v → HasValue event_order c i v) two_reads (p - 1) (Read c v)
    (λ c v h. absurd (cc h), (λ c v h. absurd (cc h), (λ c v h. absurd (cc h), (λ c v h. absurd (cc h), (value_at 4 refl, (λ c v h. absurd (cc h), (λ c v h. absurd (cc h), (λ c v h. absurd (cc h), (value_at 8 refl, (λ c v h. absurd (cc h), (λ c v h. absurd (cc h), (λ c v h. absurd (cc h), tt))))))))))))
    is c v refl

pub has_plan : TwoReadsHavePlan
has_plan = record {
  shape = shape;
  spells = refl;
  synced = (tt, tt, tt);
  free = free;
  few_events = lit≤ tt;
  few_cells = lit≤ tt;
  reads = reads;
}
