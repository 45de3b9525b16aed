-- Where a kept access races, the race is the first one: `first_met`; where none does, there is none, and the state is the next one: `standing_met`.
use Rattle.std.proofs.Common.{◌≡◌, ℕ, suc, ◌+◌, ◌-◌, ◌<◌, ◌≤◌, ◌⊎◌, inl, inr, Bool, cond, List, Option, Some, slice_get, refl, sym, ◌∙◌, ap, subst, arith}
use Rattle.std.proofs.lemmas.Bool.{cases_lt, lt-ltb, le-ltb}
use Rattle.cilk_tree.specs.Shape.{Shape, SpellsMarks}
use Rattle.cilk_tree.specs.Tree.{Tree, tree}
use Rattle.cilk_tree.specs.Parallel.{Parallel}
use Rattle.cilk_trace.specs.declared.line.Cells.{Cells}
use Rattle.cilk_trace.specs.declared.line.Line.{Line}
use Rattle.cilk_trace.specs.declared.line.Line.TheVariants as lines
use Rattle.cilk_trace.specs.declared.histories.Kind.{Kind}
use Rattle.cilk_trace.specs.declared.histories.Kind.TheVariants as kinds
use Rattle.cilk_trace.specs.Marks.{marks_of}
use Rattle.cilk_trace.specs.Accesses.{Covers, clears, strand_of, AccessesCell, WritesCell, AccessesAt, WritesAt, IsTraceRace, IsCellRace, IsFirstTraceRace, number}
use Rattle.cilk_trace.specs.Histories.{Kept, History, nothing, above, rival, racing, IsMet}
use Rattle.cilk_trace.specs.Passes.{Does, IsGreatest, Standing}
use Rattle.cilk_trace.proofs.Strands.{parallel_lines, number_positive}
use Rattle.cilk_trace.proofs.Passing.{Keeps, keeps_met}

-- the earlier accesses that may race with one of this kind
abbrev RivalAt : Kind → List Line → ℕ → ℕ → ℕ → Type 0
RivalAt kinds.Read ls c age j = WritesAt ls c age j
RivalAt kinds.Write ls c age j = AccessesAt ls c age j
RivalAt kinds.Clear ls c age j = ⊥

rival_keeps : (t : Tree) (ls : List Line) (i c : ℕ) (kind : Kind) (h : History) → Keeps t ls i c h → IsGreatest (RivalAt kind ls c (clears ls c i)) (number t ls) i (rival kind h)
rival_keeps t ls i c kinds.Read h g = g.0
rival_keeps t ls i c kinds.Write h g = g.1
rival_keeps t ls i c kinds.Clear h g = record { held = λ w. absurd (omega (arith, w)); most = λ j m p. absurd p }

-- a race with the line with index i, by this cell
record Meets (t : Tree) (ls : List Line) (i : ℕ) (kind : Kind) (c p : ℕ) : Type 0 where
  first : 1 ≤ p
  earlier : p ≤ i
  has : RivalAt kind ls c (clears ls c i) (p - 1)
  greater : number t ls i < number t ls (p - 1)

writes_access : (o : Option Line) (c : ℕ) → WritesCell o c → AccessesCell o c
writes_access (Some (lines.Write k s)) c h = h
writes_access _ c h = absurd h

-- the two accesses at one location, as those of a rival and of a line's cell
rivals : (ls : List Line) (i j c age : ℕ) (l : Line) (kind : Kind) (k : Cells) → slice_get ls i ≡ Some l → Does l kind k
    → (WritesAt ls c age j × AccessesAt ls c age i) ⊎ (AccessesAt ls c age j × WritesAt ls c age i)
    → Covers k c × RivalAt kind ls c (clears ls c i) j
rivals ls i j c age (lines.Read d s) kinds.Read k h does (inl (w, a)) =
    let x : AccessesCell (Some (lines.Read d s)) c = subst (λ (p : Option Line). AccessesCell p c) h a.0 in
    (subst (λ (y : Cells). Covers y c) does x, (w.0, w.1 ∙ sym a.1))
rivals ls i j c age (lines.Read d s) kinds.Read k h does (inr (a, w)) = absurd (subst (λ (p : Option Line). WritesCell p c) h w.0)
rivals ls i j c age (lines.Write d s) kinds.Write k h does (inl (w, a)) =
    let x : AccessesCell (Some (lines.Write d s)) c = subst (λ (p : Option Line). AccessesCell p c) h a.0 in
    (subst (λ (y : Cells). Covers y c) does x, (writes_access (slice_get ls j) c w.0, w.1 ∙ sym a.1))
rivals ls i j c age (lines.Write d s) kinds.Write k h does (inr (a, w)) =
    let x : WritesCell (Some (lines.Write d s)) c = subst (λ (p : Option Line). WritesCell p c) h w.0 in
    (subst (λ (y : Cells). Covers y c) does x, (a.0, a.1 ∙ sym w.1))
rivals ls i j c age (lines.Clear d) kinds.Clear k h does (inl (w, a)) = absurd (subst (λ (p : Option Line). AccessesCell p c) h a.0)
rivals ls i j c age (lines.Clear d) kinds.Clear k h does (inr (a, w)) = absurd (subst (λ (p : Option Line). WritesCell p c) h w.0)
rivals ls i j c age _ _ k h does e = absurd does

clashes : (ls : List Line) (i j c : ℕ) (l : Line) (kind : Kind) (k : Cells) → slice_get ls i ≡ Some l → Does l kind k → Covers k c → RivalAt kind ls c (clears ls c i) j
    → (WritesAt ls c (clears ls c i) j × AccessesAt ls c (clears ls c i) i) ⊎ (AccessesAt ls c (clears ls c i) j × WritesAt ls c (clears ls c i) i)
clashes ls i j c (lines.Read d s) kinds.Read k h does w r =
    inl (r, (subst (λ (p : Option Line). AccessesCell p c) (sym h) (subst (λ (y : Cells). Covers y c) (sym does) w), refl))
clashes ls i j c (lines.Write d s) kinds.Write k h does w r =
    inr (r, (subst (λ (p : Option Line). WritesCell p c) (sym h) (subst (λ (y : Cells). Covers y c) (sym does) w), refl))
clashes ls i j c (lines.Clear d) kinds.Clear k h does w r = absurd r
clashes ls i j c _ _ k h does w r = absurd does

on_cell : (t : Tree) (ls : List Line) (p q : ℕ) → IsTraceRace t ls p q → (c : ℕ) × IsCellRace t ls c p q
on_cell t ls p q r = (r.cell.cell, record { first = r.first; earlier = r.earlier; cell = r.cell.age; clash = r.clash; parallel = r.parallel })

pub of_cell : (t : Tree) (ls : List Line) (c p q : ℕ) → IsCellRace t ls c p q → IsTraceRace t ls p q
of_cell t ls c p q r = record { first = r.first; earlier = r.earlier; cell = record { cell = c; age = r.cell }; clash = r.clash; parallel = r.parallel }

meets : (s : Shape) (ls : List Line) → SpellsMarks s (marks_of ls) → (i : ℕ) (l : Line) (kind : Kind) (k : Cells) → slice_get ls i ≡ Some l → Does l kind k
    → (c p : ℕ) → IsCellRace (tree s) ls c p (i + 1) → Covers k c × Meets (tree s) ls i kind c p
meets s ls sp i l kind k h does c p r =
    let x = r.first in
    let y = r.earlier in
    let z : i + 1 - 1 ≡ i = omega arith in
    let age : ℕ = r.cell in
    let e = subst (λ (n : ℕ). (WritesAt ls c age (p - 1) × AccessesAt ls c age n) ⊎ (AccessesAt ls c age (p - 1) × WritesAt ls c age n)) z r.clash in
    let v = rivals ls i (p - 1) c age l kind k h does e in
    let q = subst (λ (n : ℕ). Parallel (tree s) 1 (strand_of ls (p - 1)) (strand_of ls n)) z r.parallel in (
      v.0,
      record { first = x; earlier = omega (arith, y); has = v.1; greater = (parallel_lines s ls sp (p - 1) i (omega (arith, x, y))).1 q },
    )

race_of : (s : Shape) (ls : List Line) → SpellsMarks s (marks_of ls) → (i : ℕ) (l : Line) (kind : Kind) (k : Cells) → slice_get ls i ≡ Some l → Does l kind k
    → (c p : ℕ) → Covers k c → Meets (tree s) ls i kind c p → IsCellRace (tree s) ls c p (i + 1)
race_of s ls sp i l kind k h does c p covers m =
    let x = m.first in
    let y = m.earlier in
    let z : i ≡ i + 1 - 1 = omega arith in
    let e = clashes ls i (p - 1) c l kind k h does covers m.has in
    record {
      first = x;
      earlier = omega (arith, y);
      cell = clears ls c i;
      clash = subst (λ (n : ℕ). (WritesAt ls c (clears ls c i) (p - 1) × AccessesAt ls c (clears ls c i) n) ⊎ (AccessesAt ls c (clears ls c i) (p - 1) × WritesAt ls c (clears ls c i) n)) z e;
      parallel = subst (λ (n : ℕ). Parallel (tree s) 1 (strand_of ls (p - 1)) (strand_of ls n)) z ((parallel_lines s ls sp (p - 1) i (omega (arith, x, y))).0 m.greater);
    }

-- the kept access races where its number is greater
is_above : (k : Kept) (n : ℕ) → n < k.hebrew → above k n ≡ k
is_above k n l = let t = lt-ltb n k.hebrew l in ap (λ (b : Bool). cond b k nothing) t

-- the kept access of a cell is at least as great as one that races
at_least : (t : Tree) (ls : List Line) (i : ℕ) (kind : Kind) (c p : ℕ) (h : History) → Meets t ls i kind c p → Keeps t ls i c h
    → (number t ls (p - 1) < (rival kind h).hebrew) ⊎ ((number t ls (p - 1) ≡ (rival kind h).hebrew) × ((rival kind h).at ≤ p))
at_least t ls i kind c p h m g =
    let x = m.first in let y = m.earlier in
    elim ((rival_keeps t ls i c kind h g).most (p - 1) (omega (arith, x, y)) m.has) [
      | inl u ↦ inl u
      | inr u ↦ inr (u.0, (let v = u.1 in omega (arith, v, x)))
    ]

-- so it races
still_races : (t : Tree) (ls : List Line) (i : ℕ) (kind : Kind) (c p : ℕ) (h : History) → Meets t ls i kind c p → Keeps t ls i c h → racing kind h (number t ls i) ≡ nothing → ⊥
still_races t ls i kind c p h m g none =
    let a = m.greater in
    let n : number t ls i < (rival kind h).hebrew = elim (at_least t ls i kind c p h m g) [ inl u ↦ omega (arith, u, a) | inr u ↦ (let v = u.0 in omega (arith, v, a)) ] in
    let e = ap (λ (x : Kept). x.hebrew) (sym (is_above (rival kind h) (number t ls i) n) ∙ none) in
    omega (arith, e, n)

-- what no kept access of these cells does
abbrev pub IsClean : Tree → List Line → ℕ → (ℕ → History) → Kind → Cells → Type 0
IsClean t ls i hs kind k = (c : ℕ) → Covers k c → racing kind (hs c) (number t ls i) ≡ nothing

-- no race with the line with index i, where no kept access races
none_met : (s : Shape) (ls : List Line) → SpellsMarks s (marks_of ls) → (i : ℕ) (hs : ℕ → History) (l : Line) (kind : Kind) (k : Cells)
    → slice_get ls i ≡ Some l → Does l kind k → Standing (tree s) ls i hs → IsClean (tree s) ls i hs kind k → (p q : ℕ) → q ≤ suc i → IsTraceRace (tree s) ls p q → ⊥
none_met s ls sp i hs l kind k h does st none p q le r =
    elim (cases_lt q (suc i)) [
      | inl m ↦ st.clean p q (omega (arith, m)) r
      | inr m ↦ (let e : q ≡ i + 1 = omega (arith, le, m) in
          let w = on_cell (tree s) ls p (i + 1) (subst (λ (n : ℕ). IsTraceRace (tree s) ls p n) e r) in
          let v = meets s ls sp i l kind k h does w.0 p w.1 in
          still_races (tree s) ls i kind w.0 p (hs w.0) v.1 (st.writes w.0, st.accesses w.0) (none w.0 v.0))
    ]

above_is : (k best : Kept) (n : ℕ) → above k n ≡ best → 0 < best.hebrew → (k ≡ best) × (n < k.hebrew)
above_is k best n e pos = elim (cases_lt n k.hebrew) [
  | inl l ↦ (sym (is_above k n l) ∙ e, l)
  | inr l ↦ (let t = le-ltb n k.hebrew l in let z : nothing ≡ best = ap (λ (b : Bool). cond b k nothing) (sym t) ∙ e in
      let y = ap (λ (x : Kept). x.hebrew) z in absurd (omega (arith, y, pos)))
]

-- the race of the kept access of the first cell with one is the first race
pub first_met : (s : Shape) (ls : List Line) → SpellsMarks s (marks_of ls) → (i : ℕ) (hs : ℕ → History) (l : Line) (kind : Kind) (k : Cells) (c : ℕ) (best : Kept)
    → slice_get ls i ≡ Some l → Does l kind k → Standing (tree s) ls i hs → Covers k c → racing kind (hs c) (number (tree s) ls i) ≡ best → 0 < best.hebrew
    → ((d : ℕ) → Covers k d → d < c → racing kind (hs d) (number (tree s) ls i) ≡ nothing) → IsFirstTraceRace (tree s) ls best.at (i + 1)
first_met s ls sp i hs l kind k c best h does st covers is pos before =
    let t = tree s in
    let a = above_is (rival kind (hs c)) best (number t ls i) is pos in
    let kept = rival_keeps t ls i c kind (hs c) (st.writes c, st.accesses c) in
    let held = subst (λ (x : Kept). (1 ≤ x.at) × (x.at ≤ i) × RivalAt kind ls c (clears ls c i) (x.at - 1) × (x.hebrew ≡ number t ls (x.at - 1))) a.0
    (kept.held (let x = a.1 in omega (arith, x))) in
    let bh = ap (λ (x : Kept). x.hebrew) a.0 in
    let ba = ap (λ (x : Kept). x.at) a.0 in
    let y = held.3 in
    let meet : Meets t ls i kind c best.at = record {
      first = held.0;
      earlier = held.1;
      has = held.2;
      greater = let x = a.1 in omega (arith, x, y, bh);
    } in
    let least : (p q : ℕ) → IsTraceRace t ls p q → i + 1 ≤ q = λ p q r. elim (cases_lt i q) [ inl m ↦ omega (arith, m) | inr m ↦ absurd (st.clean p q m r) ] in
    record {
      cell = c;
      first = record {
        race = race_of s ls sp i l kind k h does c best.at covers meet;
        least = λ p q r. least p q (of_cell t ls c p q r);
        greatest = λ p r.
            let v = (meets s ls sp i l kind k h does c p r).1 in
            elim (at_least t ls i kind c p (hs c) v (st.writes c, st.accesses c)) [
              | inl u ↦ inl (omega (arith, u, bh, y))
              | inr u ↦ (let u0 = u.0 in let u1 = u.1 in inr (omega (arith, u0, bh, y), omega (arith, u1, ba)))
            ];
      };
      least = least;
      least_cell = λ d p r. elim (cases_lt d c) [
        | inl m ↦ (let v = meets s ls sp i l kind k h does d p r in
            absurd (still_races t ls i kind d p (hs d) v.1 (st.writes d, st.accesses d) (before d v.0 m)))
        | inr m ↦ m
      ];
    }

-- a line that accesses or clears cells, with no race at it
pub standing_met : (s : Shape) (ls : List Line) → SpellsMarks s (marks_of ls) → (i : ℕ) (hs hs' : ℕ → History) (l : Line) (kind : Kind) (k : Cells) (here : Kept)
    → slice_get ls i ≡ Some l → Does l kind k → here.at ≡ i + 1 → here.hebrew ≡ number (tree s) ls i → Standing (tree s) ls i hs
    → IsMet kind here k hs hs' → IsClean (tree s) ls i hs kind k → Standing (tree s) ls (suc i) hs'
standing_met s ls sp i hs hs' l kind k here h does e f st m none =
    let kept = keeps_met (tree s) ls i hs hs' l kind k here h does (number_positive s ls sp i) e f st m in
    record {
      writes = λ c. (kept c).0;
      accesses = λ c. (kept c).1;
      clean = none_met s ls sp i hs l kind k h does st none;
    }
