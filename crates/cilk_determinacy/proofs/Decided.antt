-- A list of events has no race where a test of each pair finds none: tests_tell.
use Rattle.std.proofs.Common.{◌≡◌, ◌⊎◌, inl, inr, ⊎_elim, ℕ, zero, suc, ◌+◌, ◌-◌, ◌<◌, ◌≤◌, nat_lt, nat_eq, Bool, true, false, cond, ◌&&◌, not, List, length, Option, Some, None, refl, sym, ap, ap₂, ◌∙◌, subst, arith, eq-eqb, eqb-true, lt-ltb, le-ltb}
use Rattle.std.proofs.lemmas.Bool.{and_parts, and_from, cases_lt, false≢true}
use Rattle.std.proofs.lemmas.Option.{slice_get_past}
use Rattle.cilk_types.specs.declared.event.Event.{Event}
use Rattle.cilk_types.specs.declared.event.Event.TheVariants.{Begin, Spawn, Call, Resume, Sync, End, Read, Write, Create, Update, Set, Value, Print}
use Rattle.cilk_types.specs.declared.event.Instance.{Instance}
use Rattle.cilk_monoid.specs.Ranges.{same_instance}
use Rattle.cilk_monoid.proofs.RangeLaws.{same_self}
use Rattle.cilk_tree.specs.Shape.{Shape, Spells}
use Rattle.cilk_tree.specs.Tree.{Tree, strand, series, parallel, leaves, tree}
use Rattle.cilk_tree.specs.Parallel.{Holds, Parallel}
use Rattle.cilk_tree.specs.Races.{strand_at, event_at, Accesses, Writes, IsRace}
use Rattle.cilk_tree.proofs.Strands.{strand_held}
use Rattle.cilk_peers.specs.Peers.{class_numbers}
use Rattle.cilk_peers.specs.ViewRaces.{ReadsReducer, HasNoViewRace}
use Rattle.cilk_peers.proofs.Same.{length-class_numbers, one_class}
use Rattle.cilk_determinacy.specs.Tested.{all_below, or, holds, beside, cell_of, is_write, read_of, same_numbers, same_reads, clash, race, is_free_but, none, class_at, agree, is_view_free, TestsTell}

one_of : (f : ℕ → Bool) (n i : ℕ) → all_below f n ≡ true → i < n → f i ≡ true
one_of f zero i h less = absurd (omega arith)
one_of f (suc n) i h less =
    let both = and_parts (f n) (all_below f n) h in
    ⊎_elim (λ below. one_of f n i both.1 below) (λ above. let same : n ≡ i = omega (arith, above, less) in subst (λ i. f i ≡ true) same both.0) (cases_lt i n)

or_first : (a b : Bool) → a ≡ true → or a b ≡ true
or_first true b h = refl
or_first false b h = absurd (false≢true h)

or_second : (a b : Bool) → b ≡ true → or a b ≡ true
or_second true b h = refl
or_second false b h = h

-- ---- parallel strands

holds_true : (t : Tree) (o u : ℕ) → Holds t o u → holds t o u ≡ true
holds_true t o u h = and_from (not (nat_lt u o)) (nat_lt u (o + leaves t)) (ap not (le-ltb u o h.0)) (lt-ltb u (o + leaves t) h.1)

pub beside_true : (t : Tree) (o u v : ℕ) → Parallel t o u v → beside t o u v ≡ true
beside_true (strand n) o u v h = absurd h
beside_true (series a b) o u v (inl h) = or_first (beside a o u v) (beside b (o + leaves a) u v) (beside_true a o u v h)
beside_true (series a b) o u v (inr h) = or_second (beside a o u v) (beside b (o + leaves a) u v) (beside_true b (o + leaves a) u v h)
beside_true (parallel a b) o u v (inl h) = or_first (beside a o u v) _ (beside_true a o u v h)
beside_true (parallel a b) o u v (inr (inl h)) = or_second (beside a o u v) _ (or_first (beside b (o + leaves a) u v) _ (beside_true b (o + leaves a) u v h))
beside_true (parallel a b) o u v (inr (inr (inl h))) =
    or_second (beside a o u v) _ (or_second (beside b (o + leaves a) u v) _ (or_first (holds a o u && holds b (o + leaves a) v) _
    (and_from (holds a o u) (holds b (o + leaves a) v) (holds_true a o u h.0) (holds_true b (o + leaves a) v h.1))))
beside_true (parallel a b) o u v (inr (inr (inr h))) =
    or_second (beside a o u v) _ (or_second (beside b (o + leaves a) u v) _ (or_second (holds a o u && holds b (o + leaves a) v) _
    (and_from (holds a o v) (holds b (o + leaves a) u) (holds_true a o v h.0) (holds_true b (o + leaves a) u h.1))))

-- ---- accesses

cell_is : (e : Option Event) (c : ℕ) → Accesses e c → cell_of e ≡ Some c
cell_is None c h = absurd h
cell_is (Some (Begin f)) c h = absurd h
cell_is (Some (Spawn f)) c h = absurd h
cell_is (Some (Call f)) c h = absurd h
cell_is (Some (Resume f)) c h = absurd h
cell_is (Some Sync) c h = absurd h
cell_is (Some End) c h = absurd h
cell_is (Some (Read d v)) c h = ap Some h
cell_is (Some (Write d v)) c h = ap Some h
cell_is (Some (Create i)) c h = absurd h
cell_is (Some (Update i v)) c h = absurd h
cell_is (Some (Set i v)) c h = absurd h
cell_is (Some (Value i v)) c h = absurd h
cell_is (Some (Print v)) c h = absurd h

write_is : (e : Option Event) (c : ℕ) → Writes e c → (cell_of e ≡ Some c) × (is_write e ≡ true)
write_is None c h = absurd h
write_is (Some (Begin f)) c h = absurd h
write_is (Some (Spawn f)) c h = absurd h
write_is (Some (Call f)) c h = absurd h
write_is (Some (Resume f)) c h = absurd h
write_is (Some Sync) c h = absurd h
write_is (Some End) c h = absurd h
write_is (Some (Read d v)) c h = absurd h
write_is (Some (Write d v)) c h = (ap Some h, refl)
write_is (Some (Create i)) c h = absurd h
write_is (Some (Update i v)) c h = absurd h
write_is (Some (Set i v)) c h = absurd h
write_is (Some (Value i v)) c h = absurd h
write_is (Some (Print v)) c h = absurd h

read_is : (e : Option Event) (j : Instance) → ReadsReducer e j → read_of e ≡ Some j
read_is None j h = absurd h
read_is (Some (Begin f)) j h = absurd h
read_is (Some (Spawn f)) j h = absurd h
read_is (Some (Call f)) j h = absurd h
read_is (Some (Resume f)) j h = absurd h
read_is (Some Sync) j h = absurd h
read_is (Some End) j h = absurd h
read_is (Some (Read d v)) j h = absurd h
read_is (Some (Write d v)) j h = absurd h
read_is (Some (Create i)) j h = ap Some h
read_is (Some (Update i v)) j h = absurd h
read_is (Some (Set i v)) j h = ap Some h
read_is (Some (Value i v)) j h = ap Some h
read_is (Some (Print v)) j h = absurd h

clash_true : (d e : Option Event) (c : ℕ) → (Writes d c × Accesses e c) ⊎ (Accesses d c × Writes e c) → clash d e ≡ true
clash_true d e c (inl (w, a)) =
    and_from (same_numbers (cell_of d) (cell_of e)) (or (is_write d) (is_write e)) (ap₂ same_numbers (write_is d c w).0 (cell_is e c a) ∙ eq-eqb c c refl) (or_first (is_write d) (is_write e) (write_is d c w).1)
clash_true d e c (inr (a, w)) =
    and_from (same_numbers (cell_of d) (cell_of e)) (or (is_write d) (is_write e)) (ap₂ same_numbers (cell_is d c a) (write_is e c w).0 ∙ eq-eqb c c refl) (or_second (is_write d) (is_write e) (write_is e c w).1)

-- an event that is there has a position of the list
inside : {X : Type 0} (es : List Event) (q : ℕ) (f : Option Event → Option X) (x : X) → f None ≡ None → f (event_at es q) ≡ Some x → q < suc (length es)
inside es q f x none is = ⊎_elim (λ less. omega (arith, less)) (λ past. absurd (no_event past)) (cases_lt (q - 1) (length es))
  where
    no_event : length es ≤ q - 1 → ⊥
    no_event past = let e : None ≡ Some x = sym none ∙ ap f (sym (slice_get_past es (q - 1) past)) ∙ is in grind arith

-- ---- the tests

-- each pair that races is excepted
told : (t : Tree) (es : List Event) (excepted : ℕ → ℕ → Bool) → is_free_but excepted t es ≡ true → (p q : ℕ) → IsRace t es p q → excepted p q ≡ true
told t es excepted h p q r =
    let d = event_at es p in
    let e = event_at es q in
    let clashes = clash_true d e r.cell r.clash in
    let par = beside_true t 1 (strand_at es p) (strand_at es q) r.parallel in
    let found : race t es p q ≡ true = and_from (clash d e) (beside t 1 (strand_at es p) (strand_at es q)) clashes par in
    let place = inside es q cell_of r.cell refl (second_cell r.clash) in
    let tested = one_of (λ p. or (not (race t es p q)) (excepted p q)) q p (one_of (λ q. all_below (λ p. or (not (race t es p q)) (excepted p q)) q) (suc (length es)) q h place) r.earlier in
    sym (ap (λ b. or (not b) (excepted p q)) found) ∙ tested
  where
    second_cell : (Writes (event_at es p) r.cell × Accesses (event_at es q) r.cell) ⊎ (Accesses (event_at es p) r.cell × Writes (event_at es q) r.cell) → cell_of (event_at es q) ≡ Some r.cell
    second_cell (inl x) = cell_is (event_at es q) r.cell x.1
    second_cell (inr x) = (write_is (event_at es q) r.cell x.1).0

view_free : (s : Shape) (es : List Event) → Spells s es → is_view_free (tree s) es ≡ true → HasNoViewRace (tree s) es
view_free s es spells h p q race =
    let t = tree s in
    let one = read_is (event_at es p) race.instance race.one in
    let other = read_is (event_at es q) race.instance race.other in
    let same : same_reads (read_of (event_at es p)) (read_of (event_at es q)) ≡ true = ap₂ same_reads one other ∙ same_self race.instance in
    let place = inside es q read_of race.instance refl other in
    let tested = one_of (λ p. agree t es p q) q p
    (one_of (λ q. all_below (λ p. agree t es p q) q) (suc (length es)) q h place) race.earlier in
    let classes : nat_eq (class_at t (strand_at es p)) (class_at t (strand_at es q)) ≡ true = sym (ap (λ b. cond b (nat_eq (class_at t (strand_at es p)) (class_at t (strand_at es q))) true) same) ∙ tested in
    let first = race.first in
    let earlier = race.earlier in
    let u = strand_held s es spells p first in
    let v = strand_held s es spells q (omega (arith, first, earlier)) in
    let n = length-class_numbers t 0 1 in
    let u0 = u.0 in let u1 = u.1 in let v0 = v.0 in let v1 = v.1 in
    race.differ ((one_class s (class_numbers t 0 1) (strand_at es p) (strand_at es q) (class_at t (strand_at es p)) (class_at t (strand_at es q)) refl u0 (omega (arith, u1, n)) v0 (omega (arith, v1, n)) refl refl).0
    (eqb-true (class_at t (strand_at es p)) (class_at t (strand_at es q)) classes))

pub tests_tell : TestsTell
tests_tell = record {
  races = told;
  free = λ s es spells races views. record {
    shape = s;
    spells = spells;
    races = λ p q r. false≢true (told (tree s) es none races p q r);
    view_races = view_free s es spells views;
  };
}
