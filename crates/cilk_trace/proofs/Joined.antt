-- Joined intervals hold the same lines, but for those that enter frames: `joined_is_open`. They are kept in ascending order: `joined_is_kept`.
use Rattle.std.proofs.Common.{◌≡◌, ℕ, suc, ◌+◌, ◌<◌, Bool, true, false, nat_eq, cond, List, [], ◌∷◌, length, refl, sym, subst, arith, Some, slice_get, inl, inr, ◌↔◌}
use Rattle.std.proofs.lemmas.Bool.{cases_lt, eqb-true}
use Rattle.cilk_trace.specs.declared.line.Line.{Line}
use Rattle.cilk_trace.specs.declared.line.Line.TheVariants as lines
use Rattle.cilk_trace.specs.declared.intervals.Child.{Child}
use Rattle.cilk_trace.specs.Opened.{Frame, Open, opening, called, spawned, after_line, opened_from, opened, InChildren, InOuter, Descends, least, DescendsOuter, IsSorted}
use Rattle.cilk_trace.specs.Joined.{joined, spawned_on, join_line, joined_from, joined_opened, IsEntry, JoinedIsKept, JoinedIsOpen}
use Rattle.cilk_trace.proofs.Ascending.{kept_by}
use Rattle.cilk_trace.proofs.Prefix.{At}
use Rattle.cilk_trace.proofs.OpenedSorted.{below, sorted_next, wider_out}

-- the same lines, but for those in E
abbrev Match : (ℕ → Type 0) → List Child → List Child → Type 0
Match E ks cs = (j : ℕ) → (E j → ⊥) → InChildren ks j ↔ InChildren cs j

abbrev AreLong : List Child → Type 0
AreLong [] = Unit {0}
AreLong (c ∷ cs) = (c.enter < c.spawned) × AreLong cs

cons : (E : ℕ → Type 0) (k : Child) (ks cs : List Child) → Match E ks cs → Match E (k ∷ ks) (k ∷ cs)
cons E k ks cs m j n =
    let r = m j n in
    ((λ h. elim h [ inl q ↦ inl q | inr q ↦ inr (r.0 q) ]), λ h. elim h [ inl q ↦ inl q | inr q ↦ inr (r.1 q) ])

record Joins (E : ℕ → Type 0) (ks cs : List Child) : Type 0 where
  same : Match E ks cs
  long : AreLong cs

by_test : (E : ℕ → Type 0) (k c : Child) (ks cs : List Child) (b : Bool) → (b ≡ true → suc c.spawned ≡ k.enter) → E k.enter → k.enter < k.spawned → Match E ks (c ∷ cs) → AreLong (c ∷ cs)
    → Joins E (k ∷ ks) (cond b (record { enter = c.enter; spawned = k.spawned } ∷ cs) (k ∷ c ∷ cs))
by_test E k c ks cs false f e l m w = record { same = cons E k ks (c ∷ cs) m; long = (l, (w.0, w.1)) }
by_test E k c ks cs true f e l m w =
    let next = f refl in
    let long = w.0 in
    record {
      same = λ j n. (let r = m j n in (
        λ h. elim h [
          | inl q ↦ (let x = q.0 in inl (omega (arith, x, next, long), q.1))
          | inr q ↦ elim (r.0 q) [ inl p ↦ (let y = p.1 in inl (p.0, omega (arith, y, next, l))) | inr p ↦ inr p ]
        ],
        λ h. elim h [
          | inl q ↦ elim (cases_lt c.spawned j) [
            | inl a ↦ elim (cases_lt k.enter j) [
              | inl z ↦ inl (z, q.1)
              | inr z ↦ (let at : k.enter ≡ j = omega (arith, a, z, next) in absurd (n (subst E at e)))
            ]
            | inr a ↦ inr (r.1 (inl (q.0, a)))
          ]
          | inr q ↦ inr (r.1 (inr q))
        ],
      ));
      long = (omega (arith, long, next, l), w.1);
    }

joins : (E : ℕ → Type 0) (k : Child) (ks cs : List Child) → E k.enter → k.enter < k.spawned → Match E ks cs → AreLong cs → Joins E (k ∷ ks) (joined k cs)
joins E k ks [] e l m w = record { same = cons E k ks [] m; long = (l, tt) }
joins E k ks (c ∷ cs) e l m w = by_test E k c ks cs (nat_eq (suc c.spawned) k.enter) (eqb-true (suc c.spawned) k.enter) e l m w

abbrev AlikeOut : (ℕ → Type 0) → List Frame → List Frame → Type 0
AlikeOut E [] [] = Unit {0}
AlikeOut E [] (g ∷ gs) = ⊥
AlikeOut E (f ∷ fs) [] = ⊥
AlikeOut E (f ∷ fs) (g ∷ gs) = (f.enter ≡ g.enter) × E f.enter × Joins E f.children g.children × AlikeOut E fs gs

record Alike (E : ℕ → Type 0) (o p : Open) : Type 0 where
  children : Joins E o.children p.children
  outer : AlikeOut E o.outer p.outer
  first : p.first ≡ o.first

none : (E : ℕ → Type 0) → Joins E [] []
none E = record { same = λ j n. ((λ h. h), λ h. h); long = tt }

out : (E : ℕ → Type 0) (fs gs : List Frame) → AlikeOut E fs gs → (j : ℕ) → (E j → ⊥) → InOuter fs j ↔ InOuter gs j
out E [] [] a j n = ((λ h. h), λ h. h)
out E [] (g ∷ gs) a j n = absurd a
out E (f ∷ fs) [] a j n = absurd a
out E (f ∷ fs) (g ∷ gs) a j n =
    let r = a.2.same j n in let s = out E fs gs a.3 j n in
    ((λ h. elim h [ inl q ↦ inl (r.0 q) | inr q ↦ inr (s.0 q) ]), λ h. elim h [ inl q ↦ inl (r.1 q) | inr q ↦ inr (s.1 q) ])

alike_called : (E : ℕ → Type 0) (i : ℕ) (o p : Open) (fs gs : List Frame) → AlikeOut E fs gs → Alike E (called i o fs) (called i p gs)
alike_called E i o p [] [] a = record { children = none E; outer = tt; first = refl }
alike_called E i o p [] (g ∷ gs) a = absurd a
alike_called E i o p (f ∷ fs) [] a = absurd a
alike_called E i o p (f ∷ fs) (g ∷ gs) a = record { children = a.2; outer = a.3; first = refl }

alike_spawned : (E : ℕ → Type 0) (i : ℕ) (o p : Open) (fs gs : List Frame) → DescendsOuter i fs → AlikeOut E fs gs → Alike E (spawned i o fs) (spawned_on i p gs)
alike_spawned E i o p [] [] d a = record { children = none E; outer = tt; first = refl }
alike_spawned E i o p [] (g ∷ gs) d a = absurd a
alike_spawned E i o p (f ∷ fs) [] d a = absurd a
alike_spawned E i o p (f ∷ fs) (g ∷ gs) d a =
    let k : Child = record { enter = f.enter; spawned = i } in
    record {
      children = subst (λ (x : ℕ). Joins E (k ∷ f.children) (joined (record { enter = x; spawned = i }) g.children)) a.0 (joins E k f.children g.children a.1 d.0 a.2.same a.2.long);
      outer = a.3;
      first = refl;
    }

alike_next : (ls : List Line) (i : ℕ) (l : Line) (o p : Open) → slice_get ls i ≡ Some l → IsSorted i o → Alike (λ j. IsEntry (slice_get ls j)) o p
    → Alike (λ j. IsEntry (slice_get ls j)) (after_line i l o) (join_line i l p)
alike_next ls i (lines.Enter s) o p at d a = record { children = none (λ j. IsEntry (slice_get ls j)); outer = (refl, subst IsEntry (sym at) tt, a.children, a.outer); first = refl }
alike_next ls i lines.Spawned o p at d a =
    alike_spawned (λ j. IsEntry (slice_get ls j)) i o p o.outer p.outer (wider_out (least i o.children) i o.outer (below i o.children d.0) d.1) a.outer
alike_next ls i lines.Called o p at d a = alike_called (λ j. IsEntry (slice_get ls j)) i o p o.outer p.outer a.outer
alike_next ls i lines.Sync o p at d a = record { children = none (λ j. IsEntry (slice_get ls j)); outer = a.outer; first = refl }
alike_next ls i lines.End o p at d a = record { children = none (λ j. IsEntry (slice_get ls j)); outer = a.outer; first = refl }
alike_next ls i (lines.Read k s) o p at d a = a
alike_next ls i (lines.Write k s) o p at d a = a
alike_next ls i (lines.Clear k) o p at d a = a
alike_next ls i (lines.Unseen k) o p at d a = a
alike_next ls i (lines.Create r s) o p at d a = a
alike_next ls i (lines.Update r s) o p at d a = a
alike_next ls i (lines.Value r s) o p at d a = a
alike_next ls i (lines.Retire r s) o p at d a = a

alike_run : (ls done : List Line) (i : ℕ) (o p : Open) → At ls i done → IsSorted i o → Alike (λ j. IsEntry (slice_get ls j)) o p
    → Alike (λ j. IsEntry (slice_get ls j)) (opened_from i o done) (joined_from i p done)
alike_run ls [] i o p at d a = a
alike_run ls (l ∷ ds) i o p at d a =
    let z : i + 0 ≡ i = omega arith in
    let here : slice_get ls i ≡ Some l = subst (λ (n : ℕ). slice_get ls n ≡ Some l) z (at 0) in
    alike_run ls ds (suc i) (after_line i l o) (join_line i l p)
    (λ k. (let y : i + suc k ≡ suc i + k = omega arith in subst (λ (n : ℕ). slice_get ls n ≡ slice_get ds k) y (at (suc k))))
    (sorted_next i l o d) (alike_next ls i l o p here d a)

pub joined_is_open : JoinedIsOpen
joined_is_open done =
    let E : ℕ → Type 0 = λ j. IsEntry (slice_get done j) in
    let same : (k : ℕ) → k ≡ 0 + k = λ k. omega arith in
    let a = alike_run done done 0 opening opening (λ k. subst (λ (n : ℕ). slice_get done n ≡ slice_get done k) (same k) refl) (tt, tt)
    (record { children = none E; outer = tt; first = refl }) in (
      a.first,
      λ j n. (let r = a.children.same j n in let s = out E (opened done).outer (joined_opened done).outer a.outer j n in
          ((λ h. elim h [ inl q ↦ inl (r.0 q) | inr q ↦ inr (s.0 q) ]), λ h. elim h [ inl q ↦ inl (r.1 q) | inr q ↦ inr (s.1 q) ])),
    )

-- ---- sorted

sorted_test : (i : ℕ) (k c : Child) (cs : List Child) (fs : List Frame) (b : Bool) → k.spawned ≡ i → k.enter < i → Descends k.enter (c ∷ cs) → DescendsOuter (least k.enter (c ∷ cs)) fs
    → Descends (suc i) (cond b (record { enter = c.enter; spawned = k.spawned } ∷ cs) (k ∷ c ∷ cs))
    × DescendsOuter (least (suc i) (cond b (record { enter = c.enter; spawned = k.spawned } ∷ cs) (k ∷ c ∷ cs))) fs
sorted_test i k c cs fs true e m d out = ((omega (arith, e), (let x = d.0 in let y = d.1 in omega (arith, e, m, x, y)), d.2), out)
sorted_test i k c cs fs false e m d out = ((omega (arith, e), omega (arith, e, m), d), out)

sorted_join : (i : ℕ) (k : Child) (ks : List Child) (fs : List Frame) → k.spawned ≡ i → k.enter < i → Descends k.enter ks → DescendsOuter (least k.enter ks) fs
    → Descends (suc i) (joined k ks) × DescendsOuter (least (suc i) (joined k ks)) fs
sorted_join i k [] fs e m d out = ((omega (arith, e), omega (arith, e, m), tt), out)
sorted_join i k (c ∷ cs) fs e m d out = sorted_test i k c cs fs (nat_eq (suc c.spawned) k.enter) e m d out

sorted_on : (i : ℕ) (o : Open) (fs : List Frame) → DescendsOuter i fs → IsSorted (suc i) (spawned_on i o fs)
sorted_on i o [] d = (tt, tt)
sorted_on i o (f ∷ fs) d = sorted_join i (record { enter = f.enter; spawned = i }) f.children fs refl d.0 d.1 d.2

join_sorted : (i : ℕ) (l : Line) (o : Open) → IsSorted i o → IsSorted (suc i) (join_line i l o)
join_sorted i lines.Spawned o h = sorted_on i o o.outer (wider_out (least i o.children) i o.outer (below i o.children h.0) h.1)
join_sorted i (lines.Enter s) o h = sorted_next i (lines.Enter s) o h
join_sorted i lines.Called o h = sorted_next i lines.Called o h
join_sorted i lines.Sync o h = sorted_next i lines.Sync o h
join_sorted i lines.End o h = sorted_next i lines.End o h
join_sorted i (lines.Read k s) o h = sorted_next i (lines.Read k s) o h
join_sorted i (lines.Write k s) o h = sorted_next i (lines.Write k s) o h
join_sorted i (lines.Clear k) o h = sorted_next i (lines.Clear k) o h
join_sorted i (lines.Unseen k) o h = sorted_next i (lines.Unseen k) o h
join_sorted i (lines.Create r s) o h = sorted_next i (lines.Create r s) o h
join_sorted i (lines.Update r s) o h = sorted_next i (lines.Update r s) o h
join_sorted i (lines.Value r s) o h = sorted_next i (lines.Value r s) o h
join_sorted i (lines.Retire r s) o h = sorted_next i (lines.Retire r s) o h

join_run : (done : List Line) (i : ℕ) (o : Open) → IsSorted i o → IsSorted (i + length done) (joined_from i o done)
join_run [] i o h = let z : i ≡ i + 0 = omega arith in subst (λ (n : ℕ). IsSorted n o) z h
join_run (d ∷ ds) i o h =
    let e : suc i + length ds ≡ i + suc (length ds) = omega arith in
    subst (λ (n : ℕ). IsSorted n (joined_from (suc i) (join_line i d o) ds)) e (join_run ds (suc i) (join_line i d o) (join_sorted i d o h))

pub joined_is_kept : JoinedIsKept
joined_is_kept done = kept_by (0 + length done) (joined_opened done) (join_run done 0 opening (tt, tt))
