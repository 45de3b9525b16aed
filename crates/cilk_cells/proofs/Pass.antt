-- The pass over a run's events.
use Rattle.std.proofs.Common.{◌≡◌, ◌≢◌, ℕ, ◌+◌, ◌-◌, ◌<◌, ◌≤◌, List, length, get_or, replicate, Option, Some, None, slice_get, slice_set, refl, sym, ◌∙◌, ap, subst, arith, ◌⊎◌, inl, inr}
use Rattle.std.proofs.lemmas.Bool.{cases_lt, cases_order, le-ltb}
use Rattle.std.proofs.lemmas.Option.{slice_get_past, slice_get-get_or}
use Rattle.std.proofs.lemmas.List.{get_or-set_same, get_or-set_other, get_or-replicate, length-set, get_or_past, length-replicate, get_or_default}
use Rattle.cilk_types.specs.declared.event.Event.{Event}
use Rattle.cilk_types.specs.declared.event.Event.TheVariants as events
use Rattle.cilk_tree.specs.declared.mark.Mark.{Mark}
use Rattle.cilk_tree.specs.declared.mark.Mark.TheVariants.{Begin, Sync, Resume}
use Rattle.cilk_tree.specs.Shape.{Shape, Spells}
use Rattle.cilk_tree.specs.Tree.{Tree, tree}
use Rattle.cilk_tree.specs.Hebrew.{hebrews, hebrew}
use Rattle.cilk_tree.specs.Marks.{mark_of, begun_by}
use Rattle.cilk_tree.specs.Races.{strand_at, Accesses, Writes, IsRace, IsFirstRace, HasNoRace}
use Rattle.cilk_tree.proofs.Strands.{parallel_positions, strand_next, strand_zero, strand_held}
use Rattle.cilk_tree.proofs.Order.{length-hebrews}
use Rattle.cilk_cells.specs.declared.histories.Access.{Access}
use Rattle.cilk_cells.specs.declared.histories.Kept.{Kept}
use Rattle.cilk_cells.specs.Keeping.{racing_with, after_read, after_write, kept_after, answer_at, no_access, untouched, Fits}
use Rattle.cilk_cells.proofs.Greatest.{IsGreatest, greatest_nothing, skipped, joined, answered, found}

-- the Hebrew number of an index's strand
abbrev pub number : Tree → List Event → ℕ → ℕ
number t es k = hebrew t (strand_at es (k + 1))

abbrev pub WritesAt : List Event → ℕ → ℕ → Type 0
WritesAt es c k = Writes (slice_get es k) c

abbrev pub AccessesAt : List Event → ℕ → ℕ → Type 0
AccessesAt es c k = Accesses (slice_get es k) c

-- what a cell keeps of some accesses is the greatest of them among the first i events
abbrev pub Keeps : (Kept → Access) → (ℕ → ℕ → Type 0) → (ℕ → ℕ) → ℕ → List Kept → Type 0
Keeps f P H i ks = (c : ℕ) → c < length ks → IsGreatest (P c) H i (f (get_or ks c untouched))

get_or_nothing : (n c : ℕ) → get_or (replicate n untouched) c untouched ≡ untouched
get_or_nothing n c =
    elim (cases_lt c n) [
      | inl l ↦ get_or-replicate n c untouched untouched l
      | inr l ↦ get_or_past (replicate n untouched) c untouched (let k = length-replicate n untouched in omega (arith, k, l))
    ]

keeps_nothing : (f : Kept → Access) (P : ℕ → ℕ → Type 0) (H : ℕ → ℕ) (n : ℕ) → f untouched ≡ no_access → Keeps f P H 0 (replicate n untouched)
keeps_nothing f P H n e c l = subst (λ (a : Access). IsGreatest (P c) H 0 a) (sym (ap f (get_or_nothing n c) ∙ e)) (greatest_nothing (P c) H)

keeps_on : (f : Kept → Access) (P : ℕ → ℕ → Type 0) (H : ℕ → ℕ) (i : ℕ) (ks : List Kept) → Keeps f P H i ks → ((c : ℕ) → P c i → ⊥) → Keeps f P H (i + 1) ks
keeps_on f P H i ks g n c l = skipped (P c) H i (f (get_or ks c untouched)) (g c l) (n c)

-- one cell is kept anew
keeps_new : (f : Kept → Access) (P : ℕ → ℕ → Type 0) (H : ℕ → ℕ) (i : ℕ) (ks : List Kept) (d : ℕ) (k : Kept) → Keeps f P H i ks → d < length ks
    → IsGreatest (P d) H (i + 1) (f k) → ((c : ℕ) → c ≢ d → P c i → ⊥) → Keeps f P H (i + 1) (slice_set ks d k)
keeps_new f P H i ks d k g fits now n c l =
    let m : c < length ks = let j = length-set ks d k in omega (arith, l, j) in
    elim (cases_order c d) [
      | inl same ↦ subst (λ (x : ℕ). IsGreatest (P x) H (i + 1) (f (get_or (slice_set ks d k) x untouched))) (sym same)
          (subst (λ (x : Kept). IsGreatest (P d) H (i + 1) (f x)) (sym (get_or-set_same ks d k untouched fits)) now)
      | inr other ↦ (let ne : c ≢ d = λ q. elim other [ inl u ↦ omega (arith, u, q) | inr u ↦ omega (arith, u, q) ] in
          subst (λ (x : Kept). IsGreatest (P c) H (i + 1) (f x)) (sym (get_or-set_other ks d c k untouched ne)) (skipped (P c) H i (f (get_or ks c untouched)) (g c m) (n c ne)))
    ]

abbrev write_of : Kept → Access
write_of k = k.write

abbrev access_of : Kept → Access
access_of k = k.access

-- the accesses that may race with this event
abbrev Rival : List Event → Event → ℕ → Type 0
Rival es (events.Read d v) k = WritesAt es d k
Rival es (events.Write d v) k = AccessesAt es d k
Rival es _ k = ⊥

abbrev slot : Event → List Kept → Access
slot (events.Read d v) ks = (get_or ks d untouched).write
slot (events.Write d v) ks = (get_or ks d untouched).access
slot _ ks = no_access

answer_slot : (e : Event) (h : ℕ) (ks : List Kept) → answer_at e h ks ≡ racing_with (slot e ks) h
answer_slot (events.Read d v) h ks = refl
answer_slot (events.Write d v) h ks = refl
answer_slot _ h ks = sym (rw (le-ltb h 0 (omega arith)) refl)

greatest_slot : (es : List Event) (H : ℕ → ℕ) (i : ℕ) (e : Event) (ks : List Kept) → Keeps write_of (WritesAt es) H i ks → Keeps access_of (AccessesAt es) H i ks
    → Fits (length ks) e → IsGreatest (Rival es e) H i (slot e ks)
greatest_slot es H i (events.Read d v) ks g g' f = g d f
greatest_slot es H i (events.Write d v) ks g g' f = g' d f
greatest_slot es H i _ ks g g' f = record { one = λ l. absurd (let z : 1 ≤ 0 = l in omega (arith, z)); greatest = λ k l p. absurd p }

writes_access : (o : Option Event) (c : ℕ) → Writes o c → Accesses o c
writes_access (Some (events.Write d v)) c h = h
writes_access _ c h = absurd h

-- the later event of a race has the earlier one as its rival
rival : (es : List Event) (e : Event) (k c : ℕ) → (WritesAt es c k × Accesses (Some e) c) ⊎ (AccessesAt es c k × Writes (Some e) c) → Rival es e k
rival es (events.Read d v) k c (inl (p, q)) = subst (λ (x : ℕ). WritesAt es x k) (sym q) p
rival es (events.Read d v) k c (inr (p, q)) = absurd q
rival es (events.Write d v) k c (inl (p, q)) = subst (λ (x : ℕ). AccessesAt es x k) (sym q) (writes_access (slice_get es k) c p)
rival es (events.Write d v) k c (inr (p, q)) = subst (λ (x : ℕ). AccessesAt es x k) (sym q) p
rival es _ k c (inl (p, q)) = absurd q
rival es _ k c (inr (p, q)) = absurd q

record Clash (es : List Event) (e : Event) (k : ℕ) : Type 0 where
  cell : ℕ
  clash : (WritesAt es cell k × Accesses (Some e) cell) ⊎ (AccessesAt es cell k × Writes (Some e) cell)

clashes : (es : List Event) (e : Event) (k : ℕ) → Rival es e k → Clash es e k
clashes es (events.Read d v) k r = record { cell = d; clash = inl (r, refl) }
clashes es (events.Write d v) k r = record { cell = d; clash = inr (r, refl) }
clashes es _ k r = absurd r

-- The state of the pass after i events, where none of them ends a race.
pub record Passed (t : Tree) (es : List Event) (i : ℕ) (ks : List Kept) : Type 0 where
  pub writes : Keeps write_of (WritesAt es) (number t es) i ks
  pub accesses : Keeps access_of (AccessesAt es) (number t es) i ks
  pub none : (p q : ℕ) → q ≤ i → IsRace t es p q → ⊥

pub passed_first : (t : Tree) (es : List Event) (n : ℕ) (ks : List Kept) → ks ≡ replicate n untouched → Passed t es 0 ks
passed_first t es n ks e = record {
  writes = rw e (keeps_nothing write_of (WritesAt es) (number t es) n refl);
  accesses = rw e (keeps_nothing access_of (AccessesAt es) (number t es) n refl);
  none = λ p q l r. let x = r.first in let y = r.earlier in omega (arith, l, x, y);
}

-- a race with the event at index i
record Meets (t : Tree) (es : List Event) (i : ℕ) (e : Event) (p : ℕ) : Type 0 where
  first : 1 ≤ p
  earlier : p ≤ i
  has : Rival es e (p - 1)
  greater : number t es i < number t es (p - 1)

meets : (s : Shape) (es : List Event) → Spells s es → (i : ℕ) (e : Event) → slice_get es i ≡ Some e → (p : ℕ) → IsRace (tree s) es p (i + 1) → Meets (tree s) es i e p
meets s es sp i e h p r =
    let x = r.first in
    let y = r.earlier in
    let z : i + 1 - 1 ≡ i = omega arith in
    let w : p - 1 + 1 ≡ p = omega (arith, x) in
    let g : slice_get es (i + 1 - 1) ≡ Some e = ap (λ (k : ℕ). slice_get es k) z ∙ h in
    let c = subst (λ (o : Option Event). (Writes (slice_get es (p - 1)) r.cell × Accesses o r.cell) ⊎ (Accesses (slice_get es (p - 1)) r.cell × Writes o r.cell)) g r.clash in
    let m = (parallel_positions s es sp p (i + 1) x y).1 r.parallel in
    let v = ap (λ (k : ℕ). hebrew (tree s) (strand_at es k)) w in
    record { first = x; earlier = omega (arith, y); has = rival es e (p - 1) r.cell c; greater = omega (arith, m, v) }

race_of : (s : Shape) (es : List Event) → Spells s es → (i : ℕ) (e : Event) → slice_get es i ≡ Some e → (p : ℕ) → Meets (tree s) es i e p → IsRace (tree s) es p (i + 1)
race_of s es sp i e h p m =
    let x = m.first in
    let y = m.earlier in
    let c = clashes es e (p - 1) m.has in
    let z : i + 1 - 1 ≡ i = omega arith in
    let w : p - 1 + 1 ≡ p = omega (arith, x) in
    let g : slice_get es (i + 1 - 1) ≡ Some e = ap (λ (k : ℕ). slice_get es k) z ∙ h in
    let v = ap (λ (k : ℕ). hebrew (tree s) (strand_at es k)) w in
    let u = m.greater in
    record {
      first = x;
      earlier = omega (arith, y);
      cell = c.cell;
      clash = subst (λ (o : Option Event). (Writes (slice_get es (p - 1)) c.cell × Accesses o c.cell) ⊎ (Accesses (slice_get es (p - 1)) c.cell × Writes o c.cell)) (sym g) c.clash;
      parallel = (parallel_positions s es sp p (i + 1) x (omega (arith, y))).0 (omega (arith, u, v));
    }

abbrev Kept_at : Tree → List Event → ℕ → Event → Access → List Kept → Type 0
Kept_at t es i e a ks =
    Keeps write_of (WritesAt es) (number t es) (i + 1) (kept_after e a ks) × Keeps access_of (AccessesAt es) (number t es) (i + 1) (kept_after e a ks)

kept_next : (t : Tree) (es : List Event) (i : ℕ) (e : Event) (a : Access) (ks : List Kept) → slice_get es i ≡ Some e
    → Keeps write_of (WritesAt es) (number t es) i ks → Keeps access_of (AccessesAt es) (number t es) i ks → Fits (length ks) e
    → a.at ≡ i + 1 → a.hebrew ≡ number t es i → Kept_at t es i e a ks
kept_next t es i (events.Read d v) a ks h g g' f x y =
    let k = get_or ks d untouched in (
      keeps_new write_of (WritesAt es) (number t es) i ks d (after_read a k) g f
          (skipped (WritesAt es d) (number t es) i k.write (g d f) (λ p. rw h at p)) (λ c n p. rw h at p),
      keeps_new access_of (AccessesAt es) (number t es) i ks d (after_read a k) g' f
          (joined (AccessesAt es d) (number t es) i k.access a (g' d f) x y (subst (λ (o : Option Event). Accesses o d) (sym h) refl)) (λ c n p. n (sym (rw h at p))),
    )
kept_next t es i (events.Write d v) a ks h g g' f x y =
    let k = get_or ks d untouched in (
      keeps_new write_of (WritesAt es) (number t es) i ks d (after_write a k) g f
          (joined (WritesAt es d) (number t es) i k.write a (g d f) x y (subst (λ (o : Option Event). Writes o d) (sym h) refl)) (λ c n p. n (sym (rw h at p))),
      keeps_new access_of (AccessesAt es) (number t es) i ks d (after_write a k) g' f
          (joined (AccessesAt es d) (number t es) i k.access a (g' d f) x y (subst (λ (o : Option Event). Accesses o d) (sym h) refl)) (λ c n p. n (sym (rw h at p))),
    )
kept_next t es i _ a ks h g g' f x y =
    (keeps_on write_of (WritesAt es) (number t es) i ks g (λ c p. rw h at p), keeps_on access_of (AccessesAt es) (number t es) i ks g' (λ c p. rw h at p))

pub passed_next : (s : Shape) (es : List Event) → Spells s es → (i : ℕ) (e : Event) (a : Access) (ks : List Kept) → slice_get es i ≡ Some e
    → Passed (tree s) es i ks → Fits (length ks) e → a.at ≡ i + 1 → a.hebrew ≡ number (tree s) es i
    → None ≡ answer_at e a.hebrew ks → Passed (tree s) es (i + 1) (kept_after e a ks)
passed_next s es sp i e a ks h w f x y n =
    let k = kept_next (tree s) es i e a ks h w.writes w.accesses f x y in
    record {
      writes = k.0;
      accesses = k.1;
      none = λ p q l r. elim (cases_lt q (i + 1)) [
        | inl m ↦ w.none p q (omega (arith, m)) r
        | inr m ↦ (let z : q ≡ i + 1 = omega (arith, l, m) in
            let r' = subst (λ (j : ℕ). IsRace (tree s) es p j) z r in
            let t = meets s es sp i e h p r' in
            let u = t.first in let v = t.earlier in let b = t.greater in
            answered (Rival es e) (number (tree s) es) i (slot e ks) a.hebrew (greatest_slot es (number (tree s) es) i e ks w.writes w.accesses f)
            (sym (answer_slot e a.hebrew ks) ∙ sym n) (p - 1) (omega (arith, u, v)) t.has (omega (arith, b, y)))
      ];
    }

pub passed_found : (s : Shape) (es : List Event) → Spells s es → (i : ℕ) (e : Event) (a : Access) (p : ℕ) (ks : List Kept) → slice_get es i ≡ Some e
    → Passed (tree s) es i ks → Fits (length ks) e → a.at ≡ i + 1 → a.hebrew ≡ number (tree s) es i
    → Some p ≡ answer_at e a.hebrew ks → IsFirstRace (tree s) es p (i + 1)
passed_found s es sp i e a p ks h w f x y n =
    let g = found (Rival es e) (number (tree s) es) i (slot e ks) a.hebrew p (greatest_slot es (number (tree s) es) i e ks w.writes w.accesses f)
    (sym (answer_slot e a.hebrew ks) ∙ sym n) in
    let b = g.greater in
    record {
      race = race_of s es sp i e h p (record { first = g.first; earlier = g.earlier; has = g.has; greater = omega (arith, b, y) });
      least = λ p' q' r. elim (cases_lt q' (i + 1)) [ inl m ↦ absurd (w.none p' q' (omega (arith, m)) r) | inr m ↦ m ];
      greatest = λ p' r.
          let t = meets s es sp i e h p' r in
          let u = t.first in
          let v = t.earlier in
          let c : p' - 1 + 1 ≡ p' = omega (arith, u) in
          let c' : p - 1 + 1 ≡ p = (let k = g.first in omega (arith, k)) in
          let d = ap (λ (k : ℕ). hebrew (tree s) (strand_at es k)) c in
          let d' = ap (λ (k : ℕ). hebrew (tree s) (strand_at es k)) c' in
          elim (g.greatest (p' - 1) (omega (arith, u, v)) t.has) [
            | inl k ↦ inl (omega (arith, k, d, d'))
            | inr k ↦ inr (sym d ∙ (k.0 ∙ d'), (let j = k.1 in omega (arith, j, c)))
          ];
    }

pub fits_more : (n m : ℕ) (e : Event) → n ≤ m → Fits n e → Fits m e
fits_more n m (events.Read d v) l f = omega (arith, l, f)
fits_more n m (events.Write d v) l f = omega (arith, l, f)
fits_more n m _ l f = tt

-- room for the cells of each event so far
pub fits_next : (es : List Event) (i n m x : ℕ) (d : Event) → ((k : ℕ) (e : Event) → k < i → Fits n (get_or es k e)) → i < length es → Fits x (get_or es i d)
    → n ≤ m → x ≤ m → (k : ℕ) (e : Event) → k < i + 1 → Fits m (get_or es k e)
fits_next es i n m x d g lt f a b k e l =
    elim (cases_lt k i) [
      | inl j ↦ fits_more n m (get_or es k e) a (g k e j)
      | inr j ↦ (let z : k ≡ i = omega (arith, l, j) in
          subst (λ (y : ℕ). Fits m (get_or es y e)) (sym z) (subst (λ (y : Event). Fits m y) (get_or_default es i d e lt) (fits_more x m (get_or es i d) b f)))
    ]

-- the pass, whatever shape the events have, with the number n of the current strand and its Hebrew number h
pub record Standing (es : List Event) (labels : List ℕ) (i n h : ℕ) (ks : List Kept) : Type 0 where
  pub strand : n ≡ strand_at es i
  pub few : n ≤ i
  pub hebrew : 1 ≤ n → h ≡ get_or labels (n - 1) 0
  pub fit : (k : ℕ) (e : Event) → k < length es → Fits (length ks) (get_or es k e)
  pub passed : (s : Shape) → Spells s es → labels ≡ hebrews (tree s) 1 → Passed (tree s) es i ks

pub standing_first : (es : List Event) (labels : List ℕ) (n h m : ℕ) (evs : List Event) (ks : List Kept) → n ≡ 0 → evs ≡ es
    → ((k : ℕ) (e : Event) → k < length evs → Fits m (get_or evs k e)) → ks ≡ replicate m untouched → Standing es labels 0 n h ks
standing_first es labels n h m evs ks z q f e = record {
  strand = z ∙ sym (strand_zero es);
  few = omega (arith, z);
  hebrew = λ l. omega (arith, l, z);
  fit = λ k d l. rw e (rw (length-replicate m untouched) (subst (λ (x : List Event). (k : ℕ) (d : Event) → k < length x → Fits m (get_or x k d)) q f k d l));
  passed = λ s sp lb. passed_first (tree s) es m ks e;
}

length-kept_after : (e : Event) (a : Access) (ks : List Kept) → length (kept_after e a ks) ≡ length ks
length-kept_after (events.Read d v) a ks = length-set ks d (after_read a (get_or ks d untouched))
length-kept_after (events.Write d v) a ks = length-set ks d (after_write a (get_or ks d untouched))
length-kept_after _ a ks = refl

-- the current event, with its strand n' and its access a
pub record Here (es : List Event) (labels : List ℕ) (i n' : ℕ) (e : Event) (a : Access) : Type 0 where
  pub event : slice_get es i ≡ Some e
  pub strand : n' ≡ strand_at es (i + 1)
  pub few : n' ≤ i + 1
  pub hebrew : 1 ≤ n' → a.hebrew ≡ get_or labels (n' - 1) 0
  pub at : a.at ≡ i + 1

-- each event of a run is in a strand
number_here : (s : Shape) (es : List Event) (labels : List ℕ) (i n' : ℕ) (e : Event) (a : Access) → Spells s es → labels ≡ hebrews (tree s) 1 → Here es labels i n' e a
    → a.hebrew ≡ number (tree s) es i
number_here s es labels i n' e a sp lb h =
    let held = strand_held s es sp (i + 1) (omega arith) in
    let z = h.strand in
    h.hebrew (omega (arith, held, z)) ∙ (ap (λ (x : List ℕ). get_or x (n' - 1) 0) lb ∙ ap (λ (x : ℕ). hebrew (tree s) x) z)

pub standing_next : (es : List Event) (labels : List ℕ) (i n h n' : ℕ) (e : Event) (a : Access) (ks ks' : List Kept)
    → Standing es labels i n h ks → Here es labels i n' e a → Fits (length ks) e
    → None ≡ answer_at e a.hebrew ks → ks' ≡ kept_after e a ks → Standing es labels (i + 1) n' a.hebrew ks'
standing_next es labels i n h n' e a ks ks' s w f x y = record {
  strand = w.strand;
  few = w.few;
  hebrew = w.hebrew;
  fit = λ k d l. rw y (rw (length-kept_after e a ks) (s.fit k d l));
  passed = λ t sp lb. rw y (passed_next t es sp i e a ks w.event (s.passed t sp lb) f w.at (number_here t es labels i n' e a sp lb w) x);
}

pub standing_found : (es : List Event) (labels : List ℕ) (i n h n' p : ℕ) (e : Event) (a : Access) (ks : List Kept)
    → Standing es labels i n h ks → Here es labels i n' e a → Fits (length ks) e
    → Some p ≡ answer_at e a.hebrew ks → (t : Shape) → Spells t es → labels ≡ hebrews (tree t) 1 → IsFirstRace (tree t) es p a.at
standing_found es labels i n h n' p e a ks s w f x t sp lb =
    subst (λ (k : ℕ). IsFirstRace (tree t) es p k) (sym w.at)
    (passed_found t es sp i e a p ks w.event (s.passed t sp lb) f w.at (number_here t es labels i n' e a sp lb w) x)

neither : {P Q : Type 0} → (P × ⊥) ⊎ (Q × ⊥) → ⊥
neither (inl x) = x.1
neither (inr x) = x.1

-- after the last event no pair races
pub standing_last : (es : List Event) (labels : List ℕ) (i n h : ℕ) (ks : List Kept) → Standing es labels i n h ks → length es ≤ i
    → (t : Shape) → Spells t es → labels ≡ hebrews (tree t) 1 → HasNoRace (tree t) es
standing_last es labels i n h ks s l t sp lb p q r =
    elim (cases_lt i q) [
      | inl m ↦ (let z : slice_get es (q - 1) ≡ None = slice_get_past es (q - 1) (omega (arith, l, m)) in
          neither (subst (λ (o : Option Event). (Writes (slice_get es (p - 1)) r.cell × Accesses o r.cell) ⊎ (Accesses (slice_get es (p - 1)) r.cell × Writes o r.cell)) z r.clash))
      | inr m ↦ (s.passed t sp lb).none p q m r
    ]

-- the strands of a run are those of its labels
pub strands_labelled : (es : List Event) (labels : List ℕ) (i n' : ℕ) → n' ≡ strand_at es (i + 1) → (n' ≡ 0) ⊎ (length labels < n')
    → (t : Shape) → Spells t es → labels ≡ hebrews (tree t) 1 → ⊥
strands_labelled es labels i n' z o t sp lb =
    let h = strand_held t es sp (i + 1) (omega arith) in
    let n = length-hebrews (tree t) 1 in
    let k = ap (λ (x : List ℕ). length x) lb in
    elim o [ inl u ↦ omega (arith, u, z, h) | inr u ↦ omega (arith, u, z, h, n, k) ]

pub begun_once : (m : Mark) → begun_by m ≤ 1
begun_once Begin = omega arith
begun_once Sync = omega arith
begun_once Resume = omega arith
begun_once _ = omega arith

pub here_event : (es evs : List Event) (i : ℕ) (d : Event) → evs ≡ es → i < length evs → slice_get es i ≡ Some (get_or evs i d)
here_event es evs i d q l = subst (λ (x : List Event). slice_get x i ≡ Some (get_or evs i d)) q (slice_get-get_or evs i d l)

pub here_strand : (es evs : List Event) (i n x : ℕ) (d : Event) (m : Mark) → evs ≡ es → i < length evs → n ≡ strand_at es i → m ≡ mark_of (get_or evs i d) → x ≡ begun_by m → n + x ≡ strand_at es (i + 1)
here_strand es evs i n x d m q l z b c =
    let lt : i < length es = let k = ap (λ (y : List Event). length y) q in omega (arith, l, k) in
    let s = strand_next es i d lt in
    let k = ap (λ (y : List Event). begun_by (mark_of (get_or y i d))) q in
    let j = ap begun_by b in
    omega (arith, z, s, k, j, c)

-- the event begins a strand, whose Hebrew number is looked up
pub here_begun : (es evs : List Event) (labels : List ℕ) (i n x n' h : ℕ) (d : Event) (m : Mark) → evs ≡ es → i < length evs → n ≡ strand_at es i → n ≤ i
    → m ≡ mark_of (get_or evs i d) → x ≡ begun_by m → 0 < x → n' ≡ n + 1 → h ≡ get_or labels (n + 1 - 1) 0 → Here es labels i n' (get_or evs i d) (record { hebrew = h; at = i + 1 })
here_begun es evs labels i n x n' h d m q l z few b c some y g =
    let one : n' ≡ n + x = let k = begun_once m in omega (arith, k, c, some, y) in
    record {
      event = here_event es evs i d q l;
      strand = one ∙ here_strand es evs i n x d m q l z b c;
      few = omega (arith, few, y);
      hebrew = λ _. g ∙ ap (λ (k : ℕ). get_or labels (k - 1) 0) (sym y);
      at = refl;
    }

-- the event is in the strand of the one before
pub here_on : (es evs : List Event) (labels : List ℕ) (i n x n' h h' : ℕ) (d : Event) (m : Mark) → evs ≡ es → i < length evs → n ≡ strand_at es i → n ≤ i
    → m ≡ mark_of (get_or evs i d) → x ≡ begun_by m → x ≤ 0 → n' ≡ n → h' ≡ h → (1 ≤ n → h ≡ get_or labels (n - 1) 0) → Here es labels i n' (get_or evs i d) (record { hebrew = h'; at = i + 1 })
here_on es evs labels i n x n' h h' d m q l z few b c none y e g =
    let one : n' ≡ n + x = omega (arith, none, y) in
    record {
      event = here_event es evs i d q l;
      strand = one ∙ here_strand es evs i n x d m q l z b c;
      few = omega (arith, few, y);
      hebrew = λ k. e ∙ (g (omega (arith, k, y)) ∙ ap (λ (j : ℕ). get_or labels (j - 1) 0) (sym y));
      at = refl;
    }

pub fits_here : (n : ℕ) (es evs : List Event) (i : ℕ) (d : Event) → evs ≡ es → i < length evs → ((k : ℕ) (e : Event) → k < length es → Fits n (get_or es k e)) → Fits n (get_or evs i d)
fits_here n es evs i d q l f = subst (λ (x : List Event). Fits n (get_or x i d)) (sym q) (f i d (let k = ap (λ (y : List Event). length y) q in omega (arith, l, k)))
