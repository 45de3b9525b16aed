-- The pass that keeps the first reducer-read of each instance.
use Rattle.std.proofs.Common.{◌≡◌, ◌≢◌, ℕ, ◌+◌, ◌-◌, ◌<◌, ◌≤◌, Bool, true, false, cond, List, length, get_or, Option, Some, None, unwrap_or, slice_get, refl, sym, ◌∙◌, ap, subst, arith, ◌⊎◌, inl, inr, ◌↔◌}
use Rattle.std.proofs.lemmas.Bool.{cases_lt, cond-true, cond-false}
use Rattle.std.proofs.lemmas.Option.{get_or_from_slice_get, slice_get_past, slice_get_within}
use Rattle.cilk_types.specs.declared.event.Event.{Event}
use Rattle.cilk_types.specs.declared.event.Event.TheVariants as events
use Rattle.cilk_types.specs.declared.event.Instance.{Instance}
use Rattle.cilk_monoid.specs.Ranges.{same_instance}
use Rattle.cilk_monoid.proofs.RangeLaws.{same_from_true, different_from_false}
use Rattle.cilk_tree.specs.declared.mark.Mark.{Mark}
use Rattle.cilk_tree.specs.Marks.{mark_of, begun_by}
use Rattle.cilk_tree.specs.Shape.{Shape, Spells}
use Rattle.cilk_tree.specs.Tree.{Tree, tree}
use Rattle.cilk_tree.specs.Races.{strand_at}
use Rattle.cilk_tree.proofs.Strands.{strand_zero, strand_held}
use Rattle.cilk_peers.specs.Peers.{class_numbers, class, SamePeers}
use Rattle.cilk_peers.specs.ViewRaces.{ReadsReducer, IsViewRace, IsFirstViewRace, HasNoViewRace}
use Rattle.cilk_peers.proofs.Same.{one_class, length-class_numbers}
use Rattle.cilk_cells.specs.declared.first_reads.FirstReads.{FirstReads}
use Rattle.cilk_cells.specs.declared.first_reads.Read.{Read}
use Rattle.cilk_cells.proofs.Pass.{begun_once, here_event, here_strand}
use Rattle.cilk_cells.specs.Reads.{instance_read, read_at, first_of_all, KeepsAt}

-- nothing is kept anew where the instance has a first reducer-read
pub kept_present : (m : FirstReads) (i : Instance) (here f : Read) → read_at m i ≡ Some f → KeepsAt m m i (first_of_all m i here)
kept_present m i here f e j = by (same_instance i j) refl
  where
    by : (b : Bool) → same_instance i j ≡ b → read_at m j ≡ cond (same_instance i j) (Some (first_of_all m i here)) (read_at m j)
    by true p =
        let q : read_at m j ≡ Some f = subst (λ (x : Instance). read_at m x ≡ Some f) (same_from_true i j p) e in
        q ∙ (ap (λ (o : Option Read). Some (unwrap_or o here)) (sym e) ∙ sym (cond-true (same_instance i j) (Some (first_of_all m i here)) (read_at m j) p))
    by false p = sym (cond-false (same_instance i j) (Some (first_of_all m i here)) (read_at m j) p)

-- the current one is the first if the instance has none
pub kept_absent : (m : FirstReads) (f : Instance → Option Read) (i : Instance) (here : Read) → read_at m i ≡ None → ((j : Instance) → f j ≡ cond (same_instance i j) (Some here) (read_at m j))
    → (j : Instance) → f j ≡ cond (same_instance i j) (Some (first_of_all m i here)) (read_at m j)
kept_absent m f i here e k j = k j ∙ ap (λ (o : Option Read). cond (same_instance i j) (Some (unwrap_or o here)) (read_at m j)) (sym e)

-- The first index below n that has P, and all of these have its number by C. A position is an index
-- plus one.
abbrev pub IsFirst : (ℕ → Type 0) → (ℕ → ℕ) → ℕ → Option Read → Type 0
IsFirst P C n None = (k : ℕ) → k < n → P k → ⊥
IsFirst P C n (Some r) =
    (1 ≤ r.at) × (r.at ≤ n) × P (r.at - 1) × (r.class ≡ C (r.at - 1))
    × ((k : ℕ) → k < n → P k → (C k ≡ r.class) × (r.at ≤ k + 1))

skipped : (P : ℕ → Type 0) (C : ℕ → ℕ) (n : ℕ) (o : Option Read) → IsFirst P C n o → (P n → ⊥) → IsFirst P C (n + 1) o
skipped P C n None g none = λ k l p. elim (cases_lt k n) [ inl m ↦ g k m p | inr m ↦ (let e : k ≡ n = omega (arith, l, m) in none (subst P e p)) ]
skipped P C n (Some r) (x, y, z, w, g) none = (
  x,
  omega (arith, y),
  z,
  w,
  λ k l p. elim (cases_lt k n) [ inl m ↦ g k m p | inr m ↦ (let e : k ≡ n = omega (arith, l, m) in absurd (none (subst P e p))) ],
)

joined : (P : ℕ → Type 0) (C : ℕ → ℕ) (n : ℕ) (o : Option Read) (here : Read) → IsFirst P C n o → here.at ≡ n + 1 → here.class ≡ C n → P n
    → (unwrap_or o here).class ≡ here.class → IsFirst P C (n + 1) (Some (unwrap_or o here))
joined P C n None here g e f p same =
    let z : n ≡ here.at - 1 = omega (arith, e) in (
      omega (arith, e),
      omega (arith, e),
      subst P z p,
      f ∙ ap C z,
      λ k l q. elim (cases_lt k n) [
        | inl m ↦ absurd (g k m q)
        | inr m ↦ (let y : k ≡ n = omega (arith, l, m) in (ap C y ∙ sym f, omega (arith, e, y)))
      ],
    )
joined P C n (Some r) here (x, y, z, w, g) e f p same = (
  x,
  omega (arith, y),
  z,
  w,
  λ k l q. elim (cases_lt k n) [
    | inl m ↦ g k m q
    | inr m ↦ (let i : k ≡ n = omega (arith, l, m) in (ap C i ∙ (sym f ∙ sym same), omega (arith, y, m)))
  ],
)

-- the meaning of an answer
record IsApart (P : ℕ → Type 0) (C : ℕ → ℕ) (n p : ℕ) : Type 0 where
  first : 1 ≤ p
  earlier : p ≤ n
  has : P (p - 1)
  differ : C (p - 1) ≢ C n
  earliest : (k : ℕ) → k < n → P k → p ≤ k + 1

found : (P : ℕ → Type 0) (C : ℕ → ℕ) (n : ℕ) (o : Option Read) (here : Read) → IsFirst P C n o → here.class ≡ C n → (unwrap_or o here).class ≢ here.class
    → IsApart P C n (unwrap_or o here).at
found P C n None here g f ne = absurd (ne refl)
found P C n (Some r) here (x, y, z, w, g) f ne = record {
  first = x;
  earlier = y;
  has = z;
  differ = λ e. ne (w ∙ (e ∙ sym f));
  earliest = λ k l p. (g k l p).1;
}

-- the class of an index's strand
abbrev pub number : Tree → List Event → ℕ → ℕ
number t es k = class t (strand_at es (k + 1))

abbrev pub ReadsAt : List Event → Instance → ℕ → Type 0
ReadsAt es i k = ReadsReducer (slice_get es k) i

-- The state of the pass after n events: the reducer-reads of each instance among them are of one
-- class.
abbrev pub Passed : Tree → List Event → ℕ → FirstReads → Type 0
Passed t es n m = (i : Instance) → IsFirst (ReadsAt es i) (number t es) n (read_at m i)

-- one class is one set of peers, at two indices
peers_of : (s : Shape) (es : List Event) → Spells s es → (p q : ℕ) → 1 ≤ p → 1 ≤ q
    → (number (tree s) es (p - 1) ≡ number (tree s) es (q - 1)) ↔ SamePeers (tree s) (strand_at es p) (strand_at es q)
peers_of s es sp p q l m =
    let x : p - 1 + 1 ≡ p = omega (arith, l) in
    let y : q - 1 + 1 ≡ q = omega (arith, m) in
    let a = strand_held s es sp p l in
    let b = strand_held s es sp q m in
    let n = length-class_numbers (tree s) 0 1 in
    one_class s (class_numbers (tree s) 0 1) (strand_at es p) (strand_at es q) _ _ refl a.0 (let k = a.1 in omega (arith, k, n)) b.0 (let k = b.1 in omega (arith, k, n))
    (ap (λ (k : ℕ). class (tree s) (strand_at es k)) x) (ap (λ (k : ℕ). class (tree s) (strand_at es k)) y)

-- no two of the first n events race
behind : (s : Shape) (es : List Event) → Spells s es → (n : ℕ) (m : FirstReads) → Passed (tree s) es n m → (p q : ℕ) → q ≤ n → IsViewRace (tree s) es p q → ⊥
behind s es sp n m g p q l r = one (read_at m r.instance) (g r.instance)
  where
    one : (o : Option Read) → IsFirst (ReadsAt es r.instance) (number (tree s) es) n o → ⊥
    one None h = h (p - 1) (let x = r.first in let y = r.earlier in omega (arith, x, y, l)) r.one
    one (Some f) (a, b, c, d, h) =
        let x = r.first in
        let y = r.earlier in
        let u = (h (p - 1) (omega (arith, x, y, l)) r.one).0 in
        let v = (h (q - 1) (omega (arith, x, y, l)) r.other).0 in
        r.differ ((peers_of s es sp p q x (omega (arith, x, y))).0 (u ∙ sym v))

reads_nothing : (e : Event) (i : Instance) → instance_read e ≡ None → ReadsReducer (Some e) i → ⊥
reads_nothing (events.Create j) i n h = absurd (let c : Some j ≡ None = n in cc c)
reads_nothing (events.Set j v) i n h = absurd (let c : Some j ≡ None = n in cc c)
reads_nothing (events.Value j v) i n h = absurd (let c : Some j ≡ None = n in cc c)
reads_nothing _ i n h = h

reads_one : (e : Event) (i : Instance) → instance_read e ≡ Some i → ReadsReducer (Some e) i
reads_one (events.Create j) i n = let c : Some j ≡ Some i = n in cc c
reads_one (events.Set j v) i n = let c : Some j ≡ Some i = n in cc c
reads_one (events.Value j v) i n = let c : Some j ≡ Some i = n in cc c
reads_one _ i n = absurd (let c : None ≡ Some i = n in cc c)

reads_other : (e : Event) (i j : Instance) → instance_read e ≡ Some i → ReadsReducer (Some e) j → i ≡ j
reads_other (events.Create k) i j n h = let c : Some k ≡ Some i = n in let d : k ≡ i = cc c in sym d ∙ h
reads_other (events.Set k v) i j n h = let c : Some k ≡ Some i = n in let d : k ≡ i = cc c in sym d ∙ h
reads_other (events.Value k v) i j n h = let c : Some k ≡ Some i = n in let d : k ≡ i = cc c in sym d ∙ h
reads_other _ i j n h = absurd h

abbrev At : List Event → ℕ → Event → Type 0
At es n e = slice_get es n ≡ Some e

passed_first : (t : Tree) (es : List Event) (m : FirstReads) → ((i : Instance) → read_at m i ≡ None) → Passed t es 0 m
passed_first t es m e i = subst (λ (o : Option Read). IsFirst (ReadsAt es i) (number t es) 0 o) (sym (e i)) (λ k l p. omega (arith, l))

passed_other : (t : Tree) (es : List Event) (n : ℕ) (e : Event) (m : FirstReads) → At es n e → Passed t es n m → instance_read e ≡ None → Passed t es (n + 1) m
passed_other t es n e m h g none i = skipped (ReadsAt es i) (number t es) n (read_at m i) (g i) (λ p. reads_nothing e i none (rw h at p))

passed_read : (t : Tree) (es : List Event) (n : ℕ) (e : Event) (i : Instance) (here : Read) (m m' : FirstReads) → At es n e → Passed t es n m → instance_read e ≡ Some i
    → here.at ≡ n + 1 → here.class ≡ number t es n → (first_of_all m i here).class ≡ here.class → KeepsAt m m' i (first_of_all m i here) → Passed t es (n + 1) m'
passed_read t es n e i here m m' h g some at num same keeps j = by (same_instance i j) refl
  where
    by : (b : Bool) → same_instance i j ≡ b → IsFirst (ReadsAt es j) (number t es) (n + 1) (read_at m' j)
    by true p =
        let q = same_from_true i j p in
        let now : IsFirst (ReadsAt es i) (number t es) (n + 1) (Some (first_of_all m i here)) =
        joined (ReadsAt es i) (number t es) n (read_at m i) here (g i) at num (subst (λ (o : Option Event). ReadsReducer o i) (sym h) (reads_one e i some)) same in
        let k : read_at m' j ≡ Some (first_of_all m i here) = keeps j ∙ cond-true (same_instance i j) (Some (first_of_all m i here)) (read_at m j) p in
        subst (λ (o : Option Read). IsFirst (ReadsAt es j) (number t es) (n + 1) o) (sym k)
        (subst (λ (x : Instance). IsFirst (ReadsAt es x) (number t es) (n + 1) (Some (first_of_all m i here))) q now)
    by false p =
        let k : read_at m' j ≡ read_at m j = keeps j ∙ cond-false (same_instance i j) (Some (first_of_all m i here)) (read_at m j) p in
        subst (λ (o : Option Read). IsFirst (ReadsAt es j) (number t es) (n + 1) o) (sym k)
        (skipped (ReadsAt es j) (number t es) n (read_at m j) (g j) (λ r. different_from_false i j p (reads_other e i j some (rw h at r))))

passed_found : (s : Shape) (es : List Event) → Spells s es → (n : ℕ) (e : Event) (i : Instance) (here : Read) (m : FirstReads) → At es n e → Passed (tree s) es n m → instance_read e ≡ Some i
    → here.class ≡ number (tree s) es n → (first_of_all m i here).class ≢ here.class → IsFirstViewRace (tree s) es (first_of_all m i here).at (n + 1)
passed_found s es sp n e i here m h g some num ne =
    let p : ℕ = (first_of_all m i here).at in
    let f = found (ReadsAt es i) (number (tree s) es) n (read_at m i) here (g i) num ne in
    let z : n ≡ n + 1 - 1 = omega arith in
    let a : p ≤ n = f.earlier in
    record {
      race = record {
        first = f.first;
        earlier = omega (arith, a);
        instance = i;
        one = f.has;
        other = subst (λ (k : ℕ). ReadsAt es i k) z (subst (λ (o : Option Event). ReadsReducer o i) (sym h) (reads_one e i some));
        differ = λ k. f.differ ((peers_of s es sp p (n + 1) f.first (omega arith)).1 k ∙ ap (number (tree s) es) (sym z));
      };
      least = λ p' q' r. elim (cases_lt q' (n + 1)) [
        | inl l ↦ absurd (behind s es sp n m g p' q' (omega (arith, l)) r)
        | inr l ↦ l
      ];
      first_read = λ k l r. elim (cases_lt (k - 1) n) [
        | inl u ↦ (let v = f.earliest (k - 1) u r in omega (arith, v, l))
        | inr u ↦ omega (arith, a, u, l)
      ];
    }

-- the pass, whatever shape the events have
pub record Standing (es : List Event) (classes : List ℕ) (n u : ℕ) (m : FirstReads) : Type 0 where
  pub strand : u ≡ strand_at es n
  pub few : u ≤ n
  pub passed : (s : Shape) → Spells s es → classes ≡ class_numbers (tree s) 0 1 → Passed (tree s) es n m

pub standing_first : (es : List Event) (classes : List ℕ) (strand : ℕ) (m : FirstReads) → strand ≡ 0 → ((i : Instance) → read_at m i ≡ None) → Standing es classes 0 strand m
standing_first es classes strand m z e = record {
  strand = z ∙ sym (strand_zero es);
  few = omega (arith, z);
  passed = λ s sp c. passed_first (tree s) es m e;
}

-- the current event, with its strand u, and the class and position of a reducer-read there
pub record Here (es : List Event) (classes : List ℕ) (n u : ℕ) (e : Event) (here : Read) : Type 0 where
  pub event : slice_get es n ≡ Some e
  pub strand : u ≡ strand_at es (n + 1)
  pub few : u ≤ n + 1
  pub class : here.class ≡ get_or classes (u - 1) 0
  pub at : here.at ≡ n + 1

pub here : (es evs : List Event) (classes : List ℕ) (n strand x c : ℕ) (d : Event) (m : Mark) → evs ≡ es → n < length evs → strand ≡ strand_at es n → strand ≤ n
    → m ≡ mark_of (get_or evs n d) → x ≡ begun_by m → c ≡ get_or classes (strand + x - 1) 0 → Here es classes n (strand + x) (get_or evs n d) (record { class = c; at = n + 1 })
here es evs classes n strand x c d m q l z few b k g = record {
  event = here_event es evs n d q l;
  strand = here_strand es evs n strand x d m q l z b k;
  few = let j = begun_once m in omega (arith, few, j, k);
  class = g;
  at = refl;
}

class_here : (s : Shape) (es : List Event) (classes : List ℕ) (n strand : ℕ) (e : Event) (r : Read) → classes ≡ class_numbers (tree s) 0 1 → Here es classes n strand e r → r.class ≡ number (tree s) es n
class_here s es classes n strand e r c h = h.class ∙ (ap (λ (x : List ℕ). get_or x (strand - 1) 0) c ∙ ap (class (tree s)) h.strand)

pub standing_other : (es : List Event) (classes : List ℕ) (n strand strand' : ℕ) (e : Event) (m : FirstReads) → Standing es classes n strand m
    → slice_get es n ≡ Some e → strand' ≡ strand_at es (n + 1) → strand' ≤ n + 1 → None ≡ instance_read e → Standing es classes (n + 1) strand' m
standing_other es classes n strand strand' e m s h z few none = record {
  strand = z;
  few = few;
  passed = λ t sp c. passed_other (tree t) es n e m h (s.passed t sp c) (sym none);
}

pub standing_read : (es : List Event) (classes : List ℕ) (n strand strand' : ℕ) (e : Event) (i : Instance) (r f : Read) (m m' : FirstReads) → Standing es classes n strand m
    → Here es classes n strand' e r → Some i ≡ instance_read e → f ≡ first_of_all m i r → KeepsAt m m' i (first_of_all m i r) → f.class ≡ r.class → Standing es classes (n + 1) strand' m'
standing_read es classes n strand strand' e i r f m m' s h some g keeps same = record {
  strand = h.strand;
  few = h.few;
  passed = λ t sp c. passed_read (tree t) es n e i r m m' h.event (s.passed t sp c) (sym some) h.at (class_here t es classes n strand' e r c h) (ap (λ (x : Read). x.class) (sym g) ∙ same) keeps;
}

pub standing_found : (es : List Event) (classes : List ℕ) (n strand strand' : ℕ) (e : Event) (i : Instance) (r f : Read) (m : FirstReads) → Standing es classes n strand m
    → Here es classes n strand' e r → Some i ≡ instance_read e → f ≡ first_of_all m i r → f.class ≢ r.class → (t : Shape) → Spells t es → classes ≡ class_numbers (tree t) 0 1 → IsFirstViewRace (tree t) es f.at r.at
standing_found es classes n strand strand' e i r f m s h some g ne t sp c =
    let w = passed_found t es sp n e i r m h.event (s.passed t sp c) (sym some) (class_here t es classes n strand' e r c h) (λ q. ne (ap (λ (x : Read). x.class) g ∙ q)) in
    subst (λ (k : ℕ). IsFirstViewRace (tree t) es f.at k) (sym h.at) (subst (λ (x : Read). IsFirstViewRace (tree t) es x.at (n + 1)) (sym g) w)

-- after the last event no pair races
pub standing_last : (es : List Event) (classes : List ℕ) (n strand : ℕ) (m : FirstReads) → Standing es classes n strand m → length es ≤ n
    → (t : Shape) → Spells t es → classes ≡ class_numbers (tree t) 0 1 → HasNoViewRace (tree t) es
standing_last es classes n strand m s l t sp c p q r =
    elim (cases_lt n q) [
      | inl u ↦ (let z : slice_get es (q - 1) ≡ None = slice_get_past es (q - 1) (omega (arith, l, u)) in
          subst (λ (o : Option Event). ReadsReducer o r.instance) z r.other)
      | inr u ↦ behind t es sp n m (s.passed t sp c) p q u r
    ]

none_at : (es evs : List Event) → evs ≡ es → ((k : ℕ) (e : Event) → k < length evs → instance_read (get_or evs k e) ≡ None) → (k : ℕ) (d : Event) → slice_get es k ≡ Some d → instance_read d ≡ None
none_at es evs q f k d e =
    let l : k < length evs = let j = ap (λ (x : List Event). length x) q in let m = slice_get_within es k d e in omega (arith, j, m) in
    subst (λ (x : Event). instance_read x ≡ None) (ap (λ (x : List Event). get_or x k d) q ∙ get_or_from_slice_get es k d d e) (f k d l)

-- where no event is a reducer-read no pair races
pub no_reads : (t : Tree) (es evs : List Event) → evs ≡ es → ((k : ℕ) (e : Event) → k < length evs → instance_read (get_or evs k e) ≡ None) → HasNoViewRace t es
no_reads t es evs q f p r w = one (slice_get es (p - 1)) refl w.one
  where
    one : (o : Option Event) → slice_get es (p - 1) ≡ o → ReadsReducer o w.instance → ⊥
    one None e h = h
    one (Some d) e h = reads_nothing d w.instance (none_at es evs q f (p - 1) d e) h

-- the strands of a run are those of its classes
pub strands_classed : (es : List Event) (classes : List ℕ) (n strand : ℕ) → strand ≡ strand_at es (n + 1) → (strand ≡ 0) ⊎ (length classes < strand)
    → (t : Shape) → Spells t es → classes ≡ class_numbers (tree t) 0 1 → ⊥
strands_classed es classes n strand z o t sp c =
    let h = strand_held t es sp (n + 1) (omega arith) in
    let k = length-class_numbers (tree t) 0 1 in
    let j = ap (λ (x : List ℕ). length x) c in
    elim o [ inl u ↦ omega (arith, u, z, h) | inr u ↦ omega (arith, u, z, h, k, j) ]
