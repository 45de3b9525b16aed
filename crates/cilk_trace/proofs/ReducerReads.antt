-- What a survey knows of reducers' views: `viewing_first` before the first line, `viewing_read` after a line; `set_strand`: a view was set by
-- a strand of the trace.
use Rattle.std.proofs.Common.{◌≡◌, ◌≢◌, ℕ, suc, ◌+◌, ◌-◌, ◌<◌, ◌≤◌, ◌⊎◌, inl, inr, Bool, true, false, cond, List, [], ◌∷◌, Option, Some, None, unwrap_or, slice_get, refl, sym, ◌∙◌, ap, subst, arith, eqb}
use Rattle.std.specs.Prelude.{is_some}
use Rattle.std.proofs.lemmas.Bool.{cases_lt, eqb-true, eqb-false}
use Rattle.cilk_tree.specs.Shape.{Shape, SpellsMarks}
use Rattle.cilk_tree.specs.Tree.{Tree, tree}
use Rattle.cilk_trace.specs.declared.line.Line.{Line}
use Rattle.cilk_trace.specs.declared.line.Line.TheVariants as lines
use Rattle.cilk_trace.specs.declared.births.Birth.{Birth}
use Rattle.cilk_trace.specs.declared.views.ViewRace.{ViewRace}
use Rattle.cilk_trace.specs.Marks.{marks_of}
use Rattle.cilk_peers.specs.Peers.{class}
use Rattle.cilk_trace.specs.Accesses.{begun_in, strand_of}
use Rattle.cilk_trace.specs.Reducers.{Suits, is_alive, lives, retired_in, retirements, ReadsView, ReadsViewAt, IsTraceViewRace, IsFirstTraceViewRace}
use Rattle.cilk_trace.specs.Births.{kept_of, set_at}
use Rattle.cilk_trace.specs.Views.{class_at, AreReads, IsBorn, IsStrand, Viewing}
use Rattle.cilk_trace.proofs.Strands.{strand_first, strand_next}
use Rattle.cilk_trace.proofs.Lifetimes.{lives_next, retirements_next, retirements_grow, peers_at}

-- ---- of indices with a property, the first and its strand

skipped : (P : ℕ → Type 0) (S K : ℕ → ℕ) (i : ℕ) (o : Option Birth) → (P i → ⊥) → AreReads P S K i o → AreReads P S K (suc i) o
skipped P S K i None n g = λ j l p. elim (cases_lt j i) [ inl m ↦ g j m p | inr m ↦ (let e : j ≡ i = omega (arith, l, m) in n (subst P e p)) ]
skipped P S K i (Some b) n g = record {
  held = (let h = g.held in let x = h.1 in (h.0, omega (arith, x), h.2));
  strand = g.strand;
  first = λ j l p. elim (cases_lt j i) [ inl m ↦ g.first j m p | inr m ↦ (let e : j ≡ i = omega (arith, l, m) in absurd (n (subst P e p))) ];
  same = λ j l p. elim (cases_lt j i) [ inl m ↦ g.same j m p | inr m ↦ (let e : j ≡ i = omega (arith, l, m) in absurd (n (subst P e p))) ];
}

begun : (P : ℕ → Type 0) (S K : ℕ → ℕ) (i : ℕ) (here : Birth) → AreReads P S K i None → here.at ≡ i + 1 → here.strand ≡ S i → P i → AreReads P S K (suc i) (Some here)
begun P S K i here g e f p =
    let z : i ≡ here.at - 1 = omega (arith, e) in record {
      held = (omega (arith, e), omega (arith, e), subst P z p);
      strand = f ∙ ap S z;
      first = λ j l q. elim (cases_lt j i) [ inl m ↦ absurd (g j m q) | inr m ↦ omega (arith, e, m) ];
      same = λ j l q. elim (cases_lt j i) [ inl m ↦ absurd (g j m q) | inr m ↦ (let y : j ≡ i = omega (arith, l, m) in ap K (ap S y ∙ sym f)) ];
    }

joined : (P : ℕ → Type 0) (S K : ℕ → ℕ) (i : ℕ) (b here : Birth) → AreReads P S K i (Some b) → here.strand ≡ S i → K b.strand ≡ K here.strand → AreReads P S K (suc i) (Some b)
joined P S K i b here g f same =
    let h = g.held in let x = h.1 in record {
      held = (h.0, omega (arith, x), h.2);
      strand = g.strand;
      first = λ j l q. elim (cases_lt j i) [ inl m ↦ g.first j m q | inr m ↦ omega (arith, x, m) ];
      same = λ j l q. elim (cases_lt j i) [ inl m ↦ g.same j m q | inr m ↦ (let y : j ≡ i = omega (arith, l, m) in ap K (ap S y ∙ sym f) ∙ sym same) ];
    }

-- ---- one line of a trace

abbrev ReadsNow : List Line → ℕ → ℕ → ℕ → Type 0
ReadsNow ls r i = ReadsViewAt ls r (retirements ls r i)

-- what is kept of a reducer before the line with index i
abbrev Keeps : Tree → List Line → ℕ → ℕ → Option Birth → Type 0
Keeps t ls i r o = AreReads (ReadsNow ls r i) (strand_of ls) (class t) i o

-- the same lifetime continues
abbrev Kept : Tree → List Line → ℕ → ℕ → Option Birth → Type 0
Kept t ls i r o = AreReads (ReadsNow ls r i) (strand_of ls) (class t) (suc i) o

goes_on : (t : Tree) (ls : List Line) (i r : ℕ) (l : Line) (o : Option Birth) → slice_get ls i ≡ Some l → retired_in l r ≡ 0 → Kept t ls i r o → Keeps t ls (suc i) r o
goes_on t ls i r l o at z g =
    let e : retirements ls r i ≡ retirements ls r (suc i) = (let x = retirements_next ls r i l at in omega (arith, x, z)) in
    subst (λ (a : ℕ). AreReads (ReadsViewAt ls r a) (strand_of ls) (class t) (suc i) o) e g

no_read : (t : Tree) (ls : List Line) (i r : ℕ) (l : Line) (o : Option Birth) → slice_get ls i ≡ Some l → retired_in l r ≡ 0 → (ReadsView (Some l) r → ⊥) → Keeps t ls i r o → Keeps t ls (suc i) r o
no_read t ls i r l o at z n g =
    goes_on t ls i r l o at z (skipped (ReadsNow ls r i) (strand_of ls) (class t) i o (λ p. n (subst (λ (x : Option Line). ReadsView x r) at p.0)) g)

reads_here : (ls : List Line) (i r : ℕ) (l : Line) → slice_get ls i ≡ Some l → ReadsView (Some l) r → ReadsNow ls r i i
reads_here ls i r l at p = (subst (λ (x : Option Line). ReadsView x r) (sym at) p, refl)

retired : (t : Tree) (ls : List Line) (i r : ℕ) (l : Line) → slice_get ls i ≡ Some l → retired_in l r ≡ 1 → Keeps t ls (suc i) r None
retired t ls i r l at z = λ j m p.
    let x = retirements_next ls r i l at in let y = retirements_grow ls r j i (omega (arith, m)) in let a = p.1 in omega (arith, x, y, a, z)

-- the two cases of a comparison of reducers
same_reducer : (q r : ℕ) → ((q ≡ r) × (eqb q r ≡ true)) ⊎ ((q ≢ r) × (eqb q r ≡ false))
same_reducer q r = elim (eqb q r) as (λ b. eqb q r ≡ b → ((q ≡ r) × (eqb q r ≡ true)) ⊎ ((q ≢ r) × (eqb q r ≡ false))) [
  | true ↦ λ e. inl (eqb-true q r e, e)
  | false ↦ λ e. inr (eqb-false q r e, e)
] refl

absent : (o : Option Birth) → is_some o ≡ false → o ≡ None
absent None h = refl
absent (Some b) h = absurd (let q : true ≡ false = h in cc q)

present : (o : Option Birth) (here : Birth) → is_some o ≡ true → o ≡ Some (unwrap_or o here)
present None here h = absurd (let q : false ≡ true = h in cc q)
present (Some b) here h = refl

-- a line after which the first read of each lifetime is kept, and no race is found
keeps_next : (t : Tree) (ls : List Line) (i : ℕ) (l : Line) (here : Birth) (births : ℕ → Option Birth) → slice_get ls i ≡ Some l → here.at ≡ i + 1 → here.strand ≡ strand_of ls i
    → Suits l (λ r. is_some (births r)) → class t (set_at l here births).strand ≡ class t here.strand → ((r : ℕ) → Keeps t ls i r (births r)) → (r : ℕ) → Keeps t ls (suc i) r (kept_of l r here (births r))
keeps_next t ls i (lines.Create q s) here births at e f suits same g r = elim (same_reducer q r) [
  | inl w ↦ (let none : births r ≡ None = absent (births r) (subst (λ (x : ℕ). is_some (births x) ≡ false) w.0 suits) in
      let now = begun (ReadsNow ls r i) (strand_of ls) (class t) i here (subst (Keeps t ls i r) none (g r)) e f (reads_here ls i r (lines.Create q s) at w.0) in
      let k = goes_on t ls i r (lines.Create q s) (Some here) at refl now in
      let b = w.1 in subst (λ (x : Bool). Keeps t ls (suc i) r (cond x (Some here) (births r))) (sym b) k)
  | inr w ↦ (let k = no_read t ls i r (lines.Create q s) (births r) at refl w.0 (g r) in
      let b = w.1 in subst (λ (x : Bool). Keeps t ls (suc i) r (cond x (Some here) (births r))) (sym b) k)
]
keeps_next t ls i (lines.Retire q s) here births at e f suits same g r = elim (same_reducer q r) [
  | inl w ↦ (let b = w.1 in
      let k = retired t ls i r (lines.Retire q s) at (ap (λ (x : Bool). cond x 1 0) b) in
      subst (λ (x : Bool). Keeps t ls (suc i) r (cond x None (births r))) (sym b) k)
  | inr w ↦ (let b = w.1 in
      let k = no_read t ls i r (lines.Retire q s) (births r) at (ap (λ (x : Bool). cond x 1 0) b) (λ x. x) (g r) in
      subst (λ (x : Bool). Keeps t ls (suc i) r (cond x None (births r))) (sym b) k)
]
keeps_next t ls i (lines.Value q s) here births at e f suits same g r = elim (same_reducer q r) [
  | inl w ↦ (let some : births r ≡ Some (unwrap_or (births q) here) =
      present (births r) here (subst (λ (x : ℕ). is_some (births x) ≡ true) w.0 suits) ∙ ap (λ (x : ℕ). Some (unwrap_or (births x) here)) (sym w.0) in
      let now = joined (ReadsNow ls r i) (strand_of ls) (class t) i (unwrap_or (births q) here) here (subst (Keeps t ls i r) some (g r)) f same in
      subst (Keeps t ls (suc i) r) (sym some) (goes_on t ls i r (lines.Value q s) (Some (unwrap_or (births q) here)) at refl now))
  | inr w ↦ no_read t ls i r (lines.Value q s) (births r) at refl w.0 (g r)
]
keeps_next t ls i (lines.Update q s) here births at e f suits same g r = no_read t ls i r (lines.Update q s) (births r) at refl (λ x. x) (g r)
keeps_next t ls i (lines.Enter s) here births at e f suits same g r = no_read t ls i r (lines.Enter s) (births r) at refl (λ x. x) (g r)
keeps_next t ls i lines.Spawned here births at e f suits same g r = no_read t ls i r lines.Spawned (births r) at refl (λ x. x) (g r)
keeps_next t ls i lines.Called here births at e f suits same g r = no_read t ls i r lines.Called (births r) at refl (λ x. x) (g r)
keeps_next t ls i lines.Sync here births at e f suits same g r = no_read t ls i r lines.Sync (births r) at refl (λ x. x) (g r)
keeps_next t ls i lines.End here births at e f suits same g r = no_read t ls i r lines.End (births r) at refl (λ x. x) (g r)
keeps_next t ls i (lines.Read k s) here births at e f suits same g r = no_read t ls i r (lines.Read k s) (births r) at refl (λ x. x) (g r)
keeps_next t ls i (lines.Write k s) here births at e f suits same g r = no_read t ls i r (lines.Write k s) (births r) at refl (λ x. x) (g r)
keeps_next t ls i (lines.Clear k) here births at e f suits same g r = no_read t ls i r (lines.Clear k) (births r) at refl (λ x. x) (g r)
keeps_next t ls i (lines.Unseen k) here births at e f suits same g r = no_read t ls i r (lines.Unseen k) (births r) at refl (λ x. x) (g r)

-- which reducers are alive after a line
alive_next : (l : Line) (r : ℕ) (here : Birth) (o : Option Birth) → is_some (kept_of l r here o) ≡ lives l r (is_some o)
alive_next (lines.Create q s) r here o = elim (same_reducer q r) [
  | inl w ↦ (let b = w.1 in subst (λ (x : Bool). is_some (cond x (Some here) o) ≡ cond x true (is_some o)) (sym b) refl)
  | inr w ↦ (let b = w.1 in subst (λ (x : Bool). is_some (cond x (Some here) o) ≡ cond x true (is_some o)) (sym b) refl)
]
alive_next (lines.Retire q s) r here o = elim (same_reducer q r) [
  | inl w ↦ (let b = w.1 in subst (λ (x : Bool). is_some (cond x None o) ≡ cond x false (is_some o)) (sym b) refl)
  | inr w ↦ (let b = w.1 in subst (λ (x : Bool). is_some (cond x None o) ≡ cond x false (is_some o)) (sym b) refl)
]
alive_next _ r here o = refl

-- ---- races

-- two reads of one lifetime, up to a line after which none is apart, are of one class
one_class : (t : Tree) (ls : List Line) (i r : ℕ) (o : Option Birth) → Keeps t ls (suc i) r o → (j k : ℕ) → j < suc i → k < suc i
    → ReadsNow ls r (suc i) j → ReadsNow ls r (suc i) k → class_at t ls j ≡ class_at t ls k
one_class t ls i r None g j k m n p q = absurd (g j m p)
one_class t ls i r (Some b) g j k m n p q = g.same j m p ∙ sym (g.same k n q)

reading_keeps : (l : Line) (r : ℕ) → ReadsView (Some l) r → retired_in l r ≡ 0
reading_keeps (lines.Create q s) r h = refl
reading_keeps (lines.Value q s) r h = refl
reading_keeps _ r h = absurd h

abbrev IsClean : Tree → List Line → ℕ → Type 0
IsClean t ls i = (p q : ℕ) → q ≤ i → IsTraceViewRace t ls p q → ⊥

clean_next : (s : Shape) (ls : List Line) → SpellsMarks s (marks_of ls) → (i : ℕ) (l : Line) (births : ℕ → Option Birth) → slice_get ls i ≡ Some l
    → ((r : ℕ) → Keeps (tree s) ls (suc i) r (births r)) → IsClean (tree s) ls i → IsClean (tree s) ls (suc i)
clean_next s ls sp i l births at g c p q le r = elim (cases_lt q (suc i)) [
  | inl m ↦ c p q (omega (arith, m)) r
  | inr m ↦ (let x = r.first in
      let y = r.earlier in
      let e : q - 1 ≡ i = omega (arith, le, m) in
      let n : ℕ = r.instance.reducer in
      let a : ℕ = r.instance.age in
      let other : ReadsViewAt ls n a i = subst (ReadsViewAt ls n a) e r.other in
      let reads : ReadsView (Some l) n = subst (λ (o : Option Line). ReadsView o n) at other.0 in
      let age : a ≡ retirements ls n (suc i) = (let u = other.1 in let v = retirements_next ls n i l at in let w = reading_keeps l n reads in omega (arith, u, v, w)) in
      let same = one_class (tree s) ls i n (births n) (g n) (p - 1) i (omega (arith, x, y, le)) (omega arith)
      (subst (λ (z : ℕ). ReadsViewAt ls n z (p - 1)) age r.one) (subst (λ (z : ℕ). ReadsViewAt ls n z i) age other) in
      r.differ ((peers_at s ls sp (p - 1) (q - 1)).0 (same ∙ ap (class_at (tree s) ls) (sym e))))
]

found_by : (s : Shape) (ls : List Line) → SpellsMarks s (marks_of ls) → (i q : ℕ) (b here : Birth) → here.strand ≡ strand_of ls i → ReadsNow ls q i i
    → Keeps (tree s) ls i q (Some b) → IsClean (tree s) ls i → class (tree s) b.strand ≢ class (tree s) here.strand → IsFirstTraceViewRace (tree s) ls b.at (i + 1)
found_by s ls sp i q b here f now g c ne =
    let z : i + 1 - 1 ≡ i = omega arith in
    let held = g.held in
    let a = held.1 in
    record {
      race = record {
        first = held.0;
        earlier = omega (arith, a);
        instance = record { reducer = q; age = retirements ls q i };
        one = held.2;
        other = subst (ReadsNow ls q i) (sym z) now;
        differ = λ k. ne (ap (class (tree s)) g.strand ∙ ((peers_at s ls sp (b.at - 1) (i + 1 - 1)).1 k ∙ (ap (class_at (tree s) ls) z ∙ ap (class (tree s)) (sym f))));
      };
      least = λ p' q' r. elim (cases_lt i q') [ inl m ↦ omega (arith, m) | inr m ↦ absurd (c p' q' m r) ];
      first_read = λ k l r. elim (cases_lt (k - 1) i) [
        | inl m ↦ (let v = g.first (k - 1) m r in omega (arith, v, l))
        | inr m ↦ omega (arith, a, m, l)
      ];
    }

-- the pair that is found is the first one
found_next : (s : Shape) (ls : List Line) → SpellsMarks s (marks_of ls) → (i : ℕ) (l : Line) (here : Birth) (births : ℕ → Option Birth) → slice_get ls i ≡ Some l → here.strand ≡ strand_of ls i
    → Suits l (λ r. is_some (births r)) → ((r : ℕ) → Keeps (tree s) ls i r (births r)) → IsClean (tree s) ls i → class (tree s) (set_at l here births).strand ≢ class (tree s) here.strand
    → IsFirstTraceViewRace (tree s) ls (set_at l here births).at (i + 1)
found_next s ls sp i (lines.Value q s') here births at f suits g c ne =
    let some = present (births q) here suits in
    found_by s ls sp i q (unwrap_or (births q) here) here f (reads_here ls i q (lines.Value q s') at refl) (subst (Keeps (tree s) ls i q) some (g q)) c ne
found_next s ls sp i _ here births at f suits g c ne = absurd (ne refl)

pub suits_along : (l : Line) (a b : ℕ → Bool) → ((r : ℕ) → a r ≡ b r) → Suits l a → Suits l b
suits_along (lines.Create q s) a b e h = sym (e q) ∙ h
suits_along (lines.Update q s) a b e h = sym (e q) ∙ h
suits_along (lines.Value q s) a b e h = sym (e q) ∙ h
suits_along (lines.Retire q s) a b e h = sym (e q) ∙ h
suits_along _ a b e h = h

pub alive_after : (ls : List Line) (i : ℕ) (l : Line) (here : Birth) (births births' : ℕ → Option Birth) → slice_get ls i ≡ Some l → ((r : ℕ) → births' r ≡ kept_of l r here (births r))
    → ((r : ℕ) → is_some (births r) ≡ is_alive ls i r) → (r : ℕ) → is_some (births' r) ≡ is_alive ls (suc i) r
alive_after ls i l here births births' at kept alive r =
    ap (λ (o : Option Birth). is_some o) (kept r)
    ∙ (alive_next l r here (births r) ∙ (ap (lives l r) (alive r) ∙ sym (lives_next ls r i false l at)))

born_either : (ls : List Line) (b : Bool) (o p : Option Birth) → IsBorn ls o → IsBorn ls p → IsBorn ls (cond b o p)
born_either ls true o p f g = f
born_either ls false o p f g = g

born_next : (ls : List Line) (l : Line) (r : ℕ) (here : Birth) (o : Option Birth) → IsStrand ls here.strand → IsBorn ls o → IsBorn ls (kept_of l r here o)
born_next ls (lines.Create q s) r here o f g = born_either ls (eqb q r) (Some here) o f g
born_next ls (lines.Retire q s) r here o f g = born_either ls (eqb q r) None o tt g
born_next ls _ r here o f g = g

born_or : (ls : List Line) (o : Option Birth) (here : Birth) → IsStrand ls here.strand → IsBorn ls o → IsStrand ls (unwrap_or o here).strand
born_or ls None here f g = f
born_or ls (Some b) here f g = g

-- the strand that set the view that a line reads
pub set_strand : (ls : List Line) (l : Line) (here : Birth) (births : ℕ → Option Birth) → IsStrand ls here.strand → ((r : ℕ) → IsBorn ls (births r)) → IsStrand ls (set_at l here births).strand
set_strand ls (lines.Value r s) here births f g = born_or ls (births r) here f (g r)
set_strand ls _ here births f g = f

pub viewing_read : (s : Shape) (ls : List Line) → SpellsMarks s (marks_of ls) → (i strand strand' : ℕ) (l : Line) (here : Birth) (births births' : ℕ → Option Birth) (found found' : Option ViewRace)
    → slice_get ls i ≡ Some l → here.at ≡ i + 1 → here.strand ≡ strand_of ls i → strand' ≡ strand + begun_in l
    → Suits l (λ r. is_some (births r)) → ((r : ℕ) → births' r ≡ kept_of l r here (births r))
    → ((v : ViewRace) → found ≡ Some v → found' ≡ Some v) → (found' ≡ None → class (tree s) (set_at l here births).strand ≡ class (tree s) here.strand)
    → ((v : ViewRace) → found ≡ None → found' ≡ Some v → (class (tree s) (set_at l here births).strand ≢ class (tree s) here.strand) × (v ≡ record { earlier = (set_at l here births).at; later = i + 1 }))
    → Viewing (tree s) ls i strand births found → Viewing (tree s) ls (suc i) strand' births' found'
viewing_read s ls sp i strand strand' l here births births' found found' at e f same_strand suits kept before clean new st =
    let none : found' ≡ None → found ≡ None = λ n. (elim found as (λ o. found ≡ o → found ≡ None) [
      | None ↦ λ k. k
      | Some v ↦ λ k. (let c : Some v ≡ None = sym (before v k) ∙ n in absurd (cc c))
    ] refl) in
    let keeps : found' ≡ None → (r : ℕ) → Keeps (tree s) ls (suc i) r (births' r) =
    λ n r. subst (Keeps (tree s) ls (suc i) r) (sym (kept r)) (keeps_next (tree s) ls i l here births at e f suits (clean n) (st.reads (none n)) r) in
    record {
      here = (let x = st.here in let y = strand_next ls i l at in omega (arith, x, y, same_strand));
      alive = alive_after ls i l here births births' at kept st.alive;
      born = λ r. subst (IsBorn ls) (sym (kept r)) (born_next ls l r here (births r) (i, f) (st.born r));
      reads = keeps;
      clean = λ n. clean_next s ls sp i l births' at (keeps n) (st.clean (none n));
      race = λ v h. (elim found as (λ o. found ≡ o → IsFirstTraceViewRace (tree s) ls v.earlier v.later) [
        | None ↦ λ k. (let w = new v k h in
            let r = found_next s ls sp i l here births at f suits (st.reads k) (st.clean k) w.0 in
            subst (λ (x : ViewRace). IsFirstTraceViewRace (tree s) ls x.earlier x.later) (sym w.1) r)
        | Some w ↦ λ k. (let c : Some w ≡ Some v = sym (before w k) ∙ h in let d : w ≡ v = cc c in st.race v (k ∙ ap (λ (x : ViewRace). Some x) d))
      ] refl);
    }

pub viewing_first : (t : Tree) (ls : List Line) (births : ℕ → Option Birth) (found : Option ViewRace) → ((r : ℕ) → births r ≡ None) → found ≡ None → Viewing t ls 0 1 births found
viewing_first t ls births found e f = record {
  here = sym (strand_first ls);
  alive = λ r. ap (λ (o : Option Birth). is_some o) (e r) ∙ none_alive ls r;
  born = λ r. subst (IsBorn ls) (sym (e r)) tt;
  reads = λ n r. subst (λ (o : Option Birth). AreReads (ReadsNow ls r 0) (strand_of ls) (class t) 0 o) (sym (e r)) (λ j m p. omega (arith, m));
  clean = λ n p q l r. (let x = r.first in let y = r.earlier in omega (arith, l, x, y));
  race = λ v h. (let c : None ≡ Some v = sym f ∙ h in absurd (cc c));
}
  where
    none_alive : (ls : List Line) (r : ℕ) → false ≡ is_alive ls 0 r
    none_alive [] r = refl
    none_alive (l ∷ ls) r = refl
