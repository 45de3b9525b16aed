-- The pass over a trace's lines finds the first race, or there is none.
use Rattle.std.proofs.Common.{◌≡◌, ℕ, suc, ◌+◌, ◌-◌, ◌≤◌, ◌⊎◌, inl, inr, Bool, true, false, cond, List, Option, Some, slice_get, refl, sym, ◌∙◌, ap, subst, arith}
use Rattle.std.proofs.lemmas.Bool.{cases_lt, lt-ltb, le-ltb, le-leb, lt-leb}
use Rattle.cilk_tree.specs.Tree.{Tree}
use Rattle.cilk_trace.specs.declared.line.Cells.{Cells}
use Rattle.cilk_trace.specs.declared.line.Line.{Line}
use Rattle.cilk_trace.specs.declared.line.Line.TheVariants as lines
use Rattle.cilk_trace.specs.declared.histories.Kind.{Kind}
use Rattle.cilk_trace.specs.declared.histories.Kind.TheVariants as kinds
use Rattle.cilk_trace.specs.Accesses.{Covers, covers, cleared_in, clears, AccessesCell, WritesCell, AccessesAt, WritesAt, IsTraceRace, number}
use Rattle.cilk_trace.specs.Histories.{Kept, History, nothing, untouched, better, after, IsMet}
use Rattle.cilk_trace.specs.Passes.{Does, IsIdle, IsGreatest, Standing}
use Rattle.cilk_trace.proofs.Strands.{clears_next, clears_grow}

pub covered : (k : Cells) (c : ℕ) → (Covers k c × (covers k c ≡ true)) ⊎ ((Covers k c → ⊥) × (covers k c ≡ false))
covered k c = elim (cases_lt c k.first) [
  | inl m ↦ inr ((λ w. let x = w.0 in omega (arith, x, m)), (let t = lt-leb k.first c m in rw t refl))
  | inr m ↦ elim (cases_lt c (k.first + k.count)) [
    | inl n ↦ inl ((m, n), (let t = le-leb k.first c m in let u = lt-ltb c (k.first + k.count) n in rw t (rw u refl)))
    | inr n ↦ inr ((λ w. let x = w.1 in omega (arith, x, n)), (let t = le-leb k.first c m in let u = le-ltb c (k.first + k.count) n in rw t (rw u refl)))
  ]
]

skipped : (P : ℕ → Type 0) (H : ℕ → ℕ) (i : ℕ) (k : Kept) → (P i → ⊥) → IsGreatest P H i k → IsGreatest P H (suc i) k
skipped P H i k n g = record {
  held = λ w. (let h = g.held w in let x = h.1 in (h.0, omega (arith, x), h.2, h.3));
  most = λ j l p. elim (cases_lt j i) [ inl m ↦ g.most j m p | inr m ↦ (let e : j ≡ i = omega (arith, l, m) in absurd (n (subst P e p))) ];
}

joined : (P : ℕ → Type 0) (H : ℕ → ℕ) (i : ℕ) (k here : Kept) → 1 ≤ H i → here.at ≡ i + 1 → here.hebrew ≡ H i → P i → IsGreatest P H i k → IsGreatest P H (suc i) (better k here)
joined P H i k here pos e f p g =
    elim (cases_lt k.hebrew here.hebrew) [
      | inl m ↦ (let t = lt-ltb k.hebrew here.hebrew m in
          let z : i ≡ here.at - 1 = omega (arith, e) in
          subst (λ (b : Bool). IsGreatest P H (suc i) (cond b here k)) (sym t) (record {
            held = λ w. (omega (arith, e), omega (arith, e), subst P z p, f ∙ ap H z);
            most = λ j l q. elim (cases_lt j i) [
              | inl n ↦ inl (elim (g.most j n q) [ inl u ↦ omega (arith, u, m) | inr u ↦ (let v = u.0 in omega (arith, v, m)) ])
              | inr n ↦ (let y : j ≡ i = omega (arith, l, n) in inr (ap H y ∙ sym f, omega (arith, e, y)))
            ];
          }))
      | inr m ↦ (let t = le-ltb k.hebrew here.hebrew m in
          let held = g.held (omega (arith, m, f, pos)) in
          subst (λ (b : Bool). IsGreatest P H (suc i) (cond b here k)) (sym t) (record {
            held = λ w. (let x = held.1 in (held.0, omega (arith, x), held.2, held.3));
            most = λ j l q. elim (cases_lt j i) [
              | inl n ↦ g.most j n q
              | inr n ↦ (let y : j ≡ i = omega (arith, l, n) in let hy = ap H y in let x = held.1 in
                  elim (cases_lt (H j) k.hebrew) [ inl u ↦ inl u | inr u ↦ inr (omega (arith, u, hy, f, m), omega (arith, x, y)) ])
            ];
          }))
    ]

-- whether a line accesses, or writes, a cell
abbrev Touch : Type 1
Touch = Option Line → ℕ → Type 0

abbrev TouchesAt : Touch → List Line → ℕ → ℕ → ℕ → Type 0
TouchesAt Q ls c age j = Q (slice_get ls j) c × (clears ls c j ≡ age)

unmoved : (Q : Touch) (ls : List Line) (H : ℕ → ℕ) (c i : ℕ) (l : Line) (k : Kept) → slice_get ls i ≡ Some l → cleared_in l c ≡ 0 → (Q (Some l) c → ⊥)
    → IsGreatest (TouchesAt Q ls c (clears ls c i)) H i k → IsGreatest (TouchesAt Q ls c (clears ls c (suc i))) H (suc i) k
unmoved Q ls H c i l k h z n g =
    let e : clears ls c (suc i) ≡ clears ls c i = let x = clears_next ls c i l h in omega (arith, x, z) in
    subst (λ (a : ℕ). IsGreatest (TouchesAt Q ls c a) H (suc i) k) (sym e)
    (skipped (TouchesAt Q ls c (clears ls c i)) H i k (λ p. n (subst (λ (o : Option Line). Q o c) h p.0)) g)

touched : (Q : Touch) (ls : List Line) (H : ℕ → ℕ) (c i : ℕ) (l : Line) (k here : Kept) → slice_get ls i ≡ Some l → cleared_in l c ≡ 0 → Q (Some l) c
    → 1 ≤ H i → here.at ≡ i + 1 → here.hebrew ≡ H i
    → IsGreatest (TouchesAt Q ls c (clears ls c i)) H i k → IsGreatest (TouchesAt Q ls c (clears ls c (suc i))) H (suc i) (better k here)
touched Q ls H c i l k here h z q pos e f g =
    let x : clears ls c (suc i) ≡ clears ls c i = let y = clears_next ls c i l h in omega (arith, y, z) in
    subst (λ (a : ℕ). IsGreatest (TouchesAt Q ls c a) H (suc i) (better k here)) (sym x)
    (joined (TouchesAt Q ls c (clears ls c i)) H i k here pos e f (subst (λ (o : Option Line). Q o c) (sym h) q, refl) g)

emptied : (Q : Touch) (ls : List Line) (H : ℕ → ℕ) (c i : ℕ) (l : Line) → slice_get ls i ≡ Some l → cleared_in l c ≡ 1
    → IsGreatest (TouchesAt Q ls c (clears ls c (suc i))) H (suc i) nothing
emptied Q ls H c i l h z = record {
  held = λ w. absurd (omega (arith, w));
  most = λ j m p. (let x = clears_next ls c i l h in let y = clears_grow ls c j i (omega (arith, m)) in let a = p.1 in absurd (omega (arith, x, y, a, z)));
}

-- what is kept of a cell before the line with index i
abbrev pub Keeps : Tree → List Line → ℕ → ℕ → History → Type 0
Keeps t ls i c h = IsGreatest (WritesAt ls c (clears ls c i)) (number t ls) i h.write × IsGreatest (AccessesAt ls c (clears ls c i)) (number t ls) i h.access

uncovered : (k : Cells) (c : ℕ) → (Covers k c → ⊥) → cleared_in (lines.Clear k) c ≡ 0
uncovered k c n = elim (covered k c) [ inl w ↦ absurd (n w.0) | inr w ↦ (let e = w.1 in rw e refl) ]

covering : (k : Cells) (c : ℕ) → Covers k c → cleared_in (lines.Clear k) c ≡ 1
covering k c h = elim (covered k c) [ inl w ↦ (let e = w.1 in rw e refl) | inr w ↦ absurd (w.0 h) ]

keeps_covered : (t : Tree) (ls : List Line) (i c : ℕ) (l : Line) (kind : Kind) (k : Cells) (here : Kept) (h : History) → slice_get ls i ≡ Some l → Does l kind k → Covers k c
    → 1 ≤ number t ls i → here.at ≡ i + 1 → here.hebrew ≡ number t ls i → Keeps t ls i c h → Keeps t ls (suc i) c (after kind here h)
keeps_covered t ls i c (lines.Read d s) kinds.Read k here h at does w pos e f g = (
  unmoved WritesCell ls (number t ls) c i (lines.Read d s) h.write at refl (λ x. x) g.0,
  touched AccessesCell ls (number t ls) c i (lines.Read d s) h.access here at refl (subst (λ (x : Cells). Covers x c) (sym does) w) pos e f g.1,
)
keeps_covered t ls i c (lines.Write d s) kinds.Write k here h at does w pos e f g = (
  touched WritesCell ls (number t ls) c i (lines.Write d s) h.write here at refl (subst (λ (x : Cells). Covers x c) (sym does) w) pos e f g.0,
  touched AccessesCell ls (number t ls) c i (lines.Write d s) h.access here at refl (subst (λ (x : Cells). Covers x c) (sym does) w) pos e f g.1,
)
keeps_covered t ls i c (lines.Clear d) kinds.Clear k here h at does w pos e f g =
    let z = covering d c (subst (λ (x : Cells). Covers x c) (sym does) w) in
    (emptied WritesCell ls (number t ls) c i (lines.Clear d) at z, emptied AccessesCell ls (number t ls) c i (lines.Clear d) at z)
keeps_covered t ls i c _ _ k here h at does w pos e f g = absurd does

keeps_other : (t : Tree) (ls : List Line) (i c : ℕ) (l : Line) (kind : Kind) (k : Cells) (h : History) → slice_get ls i ≡ Some l → Does l kind k → (Covers k c → ⊥)
    → Keeps t ls i c h → Keeps t ls (suc i) c h
keeps_other t ls i c (lines.Read d s) kinds.Read k h at does n g = (
  unmoved WritesCell ls (number t ls) c i (lines.Read d s) h.write at refl (λ x. x) g.0,
  unmoved AccessesCell ls (number t ls) c i (lines.Read d s) h.access at refl (λ x. n (subst (λ (y : Cells). Covers y c) does x)) g.1,
)
keeps_other t ls i c (lines.Write d s) kinds.Write k h at does n g = (
  unmoved WritesCell ls (number t ls) c i (lines.Write d s) h.write at refl (λ x. n (subst (λ (y : Cells). Covers y c) does x)) g.0,
  unmoved AccessesCell ls (number t ls) c i (lines.Write d s) h.access at refl (λ x. n (subst (λ (y : Cells). Covers y c) does x)) g.1,
)
keeps_other t ls i c (lines.Clear d) kinds.Clear k h at does n g =
    let z = uncovered d c (λ x. n (subst (λ (y : Cells). Covers y c) does x)) in
    (unmoved WritesCell ls (number t ls) c i (lines.Clear d) h.write at z (λ x. x) g.0, unmoved AccessesCell ls (number t ls) c i (lines.Clear d) h.access at z (λ x. x) g.1)
keeps_other t ls i c _ _ k h at does n g = absurd does

pub keeps_met : (t : Tree) (ls : List Line) (i : ℕ) (hs hs' : ℕ → History) (l : Line) (kind : Kind) (k : Cells) (here : Kept) → slice_get ls i ≡ Some l → Does l kind k
    → 1 ≤ number t ls i → here.at ≡ i + 1 → here.hebrew ≡ number t ls i → Standing t ls i hs → IsMet kind here k hs hs' → (c : ℕ) → Keeps t ls (suc i) c (hs' c)
keeps_met t ls i hs hs' l kind k here at does pos e f s m c = elim (covered k c) [
  | inl w ↦ subst (Keeps t ls (suc i) c) (sym (m.covered c w.0)) (keeps_covered t ls i c l kind k here (hs c) at does w.0 pos e f (s.writes c, s.accesses c))
  | inr w ↦ subst (Keeps t ls (suc i) c) (sym (m.others c w.0)) (keeps_other t ls i c l kind k (hs c) at does w.0 (s.writes c, s.accesses c))
]

-- an idle line changes nothing but the strand
keeps_idle : (t : Tree) (ls : List Line) (i c : ℕ) (l : Line) (h : History) → slice_get ls i ≡ Some l → IsIdle l → Keeps t ls i c h → Keeps t ls (suc i) c h
keeps_idle t ls i c (lines.Read d s) h at idle g = absurd idle
keeps_idle t ls i c (lines.Write d s) h at idle g = absurd idle
keeps_idle t ls i c (lines.Clear d) h at idle g = absurd idle
keeps_idle t ls i c (lines.Enter s) h at idle g =
    (unmoved WritesCell ls (number t ls) c i (lines.Enter s) h.write at refl (λ x. x) g.0, unmoved AccessesCell ls (number t ls) c i (lines.Enter s) h.access at refl (λ x. x) g.1)
keeps_idle t ls i c (lines.Unseen s) h at idle g =
    (unmoved WritesCell ls (number t ls) c i (lines.Unseen s) h.write at refl (λ x. x) g.0, unmoved AccessesCell ls (number t ls) c i (lines.Unseen s) h.access at refl (λ x. x) g.1)
keeps_idle t ls i c lines.Spawned h at idle g =
    (unmoved WritesCell ls (number t ls) c i lines.Spawned h.write at refl (λ x. x) g.0, unmoved AccessesCell ls (number t ls) c i lines.Spawned h.access at refl (λ x. x) g.1)
keeps_idle t ls i c lines.Called h at idle g =
    (unmoved WritesCell ls (number t ls) c i lines.Called h.write at refl (λ x. x) g.0, unmoved AccessesCell ls (number t ls) c i lines.Called h.access at refl (λ x. x) g.1)
keeps_idle t ls i c lines.Sync h at idle g =
    (unmoved WritesCell ls (number t ls) c i lines.Sync h.write at refl (λ x. x) g.0, unmoved AccessesCell ls (number t ls) c i lines.Sync h.access at refl (λ x. x) g.1)
keeps_idle t ls i c lines.End h at idle g =
    (unmoved WritesCell ls (number t ls) c i lines.End h.write at refl (λ x. x) g.0, unmoved AccessesCell ls (number t ls) c i lines.End h.access at refl (λ x. x) g.1)
keeps_idle t ls i c (lines.Create r s) h at idle g =
    (unmoved WritesCell ls (number t ls) c i (lines.Create r s) h.write at refl (λ x. x) g.0, unmoved AccessesCell ls (number t ls) c i (lines.Create r s) h.access at refl (λ x. x) g.1)
keeps_idle t ls i c (lines.Update r s) h at idle g =
    (unmoved WritesCell ls (number t ls) c i (lines.Update r s) h.write at refl (λ x. x) g.0, unmoved AccessesCell ls (number t ls) c i (lines.Update r s) h.access at refl (λ x. x) g.1)
keeps_idle t ls i c (lines.Value r s) h at idle g =
    (unmoved WritesCell ls (number t ls) c i (lines.Value r s) h.write at refl (λ x. x) g.0, unmoved AccessesCell ls (number t ls) c i (lines.Value r s) h.access at refl (λ x. x) g.1)
keeps_idle t ls i c (lines.Retire r s) h at idle g =
    (unmoved WritesCell ls (number t ls) c i (lines.Retire r s) h.write at refl (λ x. x) g.0, unmoved AccessesCell ls (number t ls) c i (lines.Retire r s) h.access at refl (λ x. x) g.1)

idle_touches : (l : Line) (c : ℕ) → IsIdle l → AccessesCell (Some l) c → ⊥
idle_touches (lines.Read d s) c idle a = idle
idle_touches (lines.Write d s) c idle a = idle
idle_touches _ c idle a = a

writes_touch : (o : Option Line) (c : ℕ) → WritesCell o c → AccessesCell o c
writes_touch (Some (lines.Write k s)) c h = h
writes_touch _ c h = absurd h

-- no race ends at an idle line
idle_clean : (t : Tree) (ls : List Line) (i : ℕ) (hs : ℕ → History) (l : Line) → slice_get ls i ≡ Some l → IsIdle l → Standing t ls i hs
    → (p q : ℕ) → q ≤ suc i → IsTraceRace t ls p q → ⊥
idle_clean t ls i hs l at idle st p q le r = elim (cases_lt q (suc i)) [
  | inl m ↦ st.clean p q (omega (arith, m)) r
  | inr m ↦ (let e : q - 1 ≡ i = omega (arith, le, m) in
      let o = r.cell in
      let a : AccessesCell (slice_get ls (q - 1)) o.cell = elim r.clash [ inl w ↦ w.1.0 | inr w ↦ writes_touch (slice_get ls (q - 1)) o.cell w.1.0 ] in
      idle_touches l o.cell idle (subst (λ (x : Option Line). AccessesCell x o.cell) at (subst (λ (n : ℕ). AccessesCell (slice_get ls n) o.cell) e a)))
]

pub standing_idle : (t : Tree) (ls : List Line) (i : ℕ) (hs : ℕ → History) (l : Line) → slice_get ls i ≡ Some l → IsIdle l → Standing t ls i hs → Standing t ls (suc i) hs
standing_idle t ls i hs l at idle st = record {
  writes = λ c. (keeps_idle t ls i c l (hs c) at idle (st.writes c, st.accesses c)).0;
  accesses = λ c. (keeps_idle t ls i c l (hs c) at idle (st.writes c, st.accesses c)).1;
  clean = idle_clean t ls i hs l at idle st;
}

pub standing_first : (t : Tree) (ls : List Line) (hs : ℕ → History) → ((c : ℕ) → hs c ≡ untouched) → Standing t ls 0 hs
standing_first t ls hs empty = record {
  writes = λ c. subst (λ (h : History). IsGreatest (WritesAt ls c (clears ls c 0)) (number t ls) 0 h.write) (sym (empty c))
      (record { held = λ w. absurd (omega (arith, w)); most = λ j m p. absurd (omega (arith, m)) });
  accesses = λ c. subst (λ (h : History). IsGreatest (AccessesAt ls c (clears ls c 0)) (number t ls) 0 h.access) (sym (empty c))
      (record { held = λ w. absurd (omega (arith, w)); most = λ j m p. absurd (omega (arith, m)) });
  clean = λ p q l r. (let x = r.first in let y = r.earlier in omega (arith, l, x, y));
}

-- of a cell the write has no greater number than the access
pub write_least : (t : Tree) (ls : List Line) (i : ℕ) (hs : ℕ → History) → Standing t ls i hs → (c : ℕ) → (hs c).write.hebrew ≤ (hs c).access.hebrew
write_least t ls i hs st c = elim (cases_lt 0 (hs c).write.hebrew) [
  | inl m ↦ (let h = (st.writes c).held m in
      let x = h.0 in let y = h.1 in let e = h.3 in
      let a : AccessesAt ls c (clears ls c i) ((hs c).write.at - 1) = (writes_touch (slice_get ls ((hs c).write.at - 1)) c h.2.0, h.2.1) in
      elim ((st.accesses c).most ((hs c).write.at - 1) (omega (arith, x, y)) a) [ inl u ↦ omega (arith, u, e) | inr u ↦ (let v = u.0 in omega (arith, v, e)) ])
  | inr m ↦ omega (arith, m)
]
