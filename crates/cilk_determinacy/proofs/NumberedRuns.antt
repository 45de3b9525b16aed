-- Where the list of a nested run's events has no race, neither has the run by names.
--   from_nested, to_nested   positions beside each other in a layout are so in its tree
--   spelled, layout_length   the list spells the shape, and is as long as the layout
--   free_by_names            no race of the list: no race by names
use Rattle.std.proofs.Common.{◌≡◌, ℕ, zero, suc, ◌+◌, ◌-◌, ◌<◌, ◌≤◌, ℤ, Bool, true, false, true≢false, cond, nat_lt, List, [], ◌∷◌, length, Option, Some, slice_get, refl, sym, ◌∙◌, ap, subst, arith, ◌⊎◌, inl, inr, ◌↔◌}
use Rattle.std.proofs.lemmas.Bool.{cases_lt, cases_order, lt-ltb, le-ltb}
use Rattle.cilk_types.specs.declared.event.Event as numbers
use Rattle.cilk_types.specs.declared.event.Event.TheVariants as events
use Rattle.cilk_types.specs.declared.event.Instance as numbered
use Rattle.cilk_determinacy.specs.Runs.{Cell, Instance, Event, Reads, Writes, Passes, Creates, Sets, Values, Deed, Does, Run}
use Rattle.cilk_determinacy.proofs.Layouts as nested
use Rattle.cilk_determinacy.specs.MachineTheorem.{HasNoRaces}
use Rattle.cilk_determinacy.specs.Views.{IsReducerRead}
use Rattle.cilk_determinacy.proofs.Basics.{same_cell-eq}
use Rattle.cilk_tree.specs.Shape as shapes
use Rattle.cilk_tree.specs.Tree.{Tree, tree}
use Rattle.cilk_tree.specs.Parallel.{Parallel}
use Rattle.cilk_tree.specs.Races as races
use Rattle.cilk_tree.proofs.Spelled.{spells_one}
use Rattle.cilk_tree.proofs.Order.{parallel_sym, not_to_itself}
use Rattle.cilk_tree.proofs.Places.{size, Beside, bounded, beside_positions, size-spelled}
use Rattle.cilk_peers.specs.Peers.{SamePeers}
use Rattle.cilk_peers.specs.ViewRaces as views
use Rattle.cilk_determinacy.specs.Traces.{trace, shape_of, begin_due, IsFramed, IsWrittenEvent, IsWritten, AreWritten}
use Rattle.cilk_determinacy.proofs.Spells.{counted, layouts_agree, events_spell}

-- ---- positions of a nested tree
counted_size : {W : Type 0} (t : nested.Layout W) → size (counted t) ≡ nested.size t
counted_size (nested.Strand s) = refl
counted_size (nested.Series a b) = let x = counted_size a in let y = counted_size b in omega (arith, x, y)
counted_size (nested.Beside a b) = let x = counted_size a in let y = counted_size b in omega (arith, x, y)

pick_left : (n p q : ℕ) (x y : Bool) → q < n → cond (nat_lt q n) x y ≡ x
pick_left n p q x y lt = rw (lt-ltb q n lt) refl

pick_across : (n p q : ℕ) (x y z : Bool) → p < n → n ≤ q → cond (nat_lt q n) x (cond (nat_lt p n) y z) ≡ y
pick_across n p q x y z lt le = rw (le-ltb q n le, lt-ltb p n lt) refl

pick_right : (n p q : ℕ) (x y z : Bool) → n ≤ p → n ≤ q → cond (nat_lt q n) x (cond (nat_lt p n) y z) ≡ z
pick_right n p q x y z lp lq = rw (le-ltb q n lq, le-ltb p n lp) refl

shifted : (t : Tree) (o n m p q : ℕ) → n ≡ m → m ≤ p → m ≤ q → Beside t (o + n) (o + n + (p - m)) (o + n + (q - m)) → Beside t (o + n) (o + p) (o + q)
shifted t o n m p q same x y h =
    let e : o + n + (p - m) ≡ o + p = omega (arith, same, x) in
    let f : o + n + (q - m) ≡ o + q = omega (arith, same, y) in
    subst (λ (k : ℕ). Beside t (o + n) (o + p) k) f (subst (λ (k : ℕ). Beside t (o + n) k (o + n + (q - m))) e h)

module _ {W : Type 0} where
  along_right : (b : nested.Layout W) (o n m p q : ℕ) → n ≡ m → nested.are_beside b (p - (o + n)) (q - (o + n)) ≡ true → nested.are_beside b (p - o - m) (q - o - m) ≡ true
  along_right b o n m p q same h =
      let e : p - o - m ≡ p - (o + n) = omega (arith, same) in
      let f : q - o - m ≡ q - (o + n) = omega (arith, same) in
      ap (λ (k : ℕ). nested.are_beside b k (q - o - m)) e ∙ (ap (λ (k : ℕ). nested.are_beside b (p - (o + n)) k) f ∙ h)

  -- beside each other by numbers of events is parallel by the nested tree
  to_nested : (t : nested.Layout W) (o p q : ℕ) → Beside (counted t) o p q → nested.are_beside t (p - o) (q - o) ≡ true
  to_nested (nested.Strand s) o p q h = absurd h
  to_nested (nested.Series a b) o p q (inl h) =
      let k = bounded (counted a) o p q h in let n = counted_size a in let x = k.low in let y = k.less in let z = k.high in
      pick_left (nested.size a) (p - o) (q - o) _ _ (omega (arith, n, x, y, z)) ∙ to_nested a o p q h
  to_nested (nested.Series a b) o p q (inr h) =
      let k = bounded (counted b) (o + size (counted a)) p q h in let n = counted_size a in let x = k.low in let y = k.less in
      pick_right (nested.size a) (p - o) (q - o) _ _ _ (omega (arith, n, x)) (omega (arith, n, x, y))
      ∙ along_right b o (size (counted a)) (nested.size a) p q n (to_nested b (o + size (counted a)) p q h)
  to_nested (nested.Beside a b) o p q (inl h) =
      let k = bounded (counted a) o p q h in let n = counted_size a in let x = k.low in let y = k.less in let z = k.high in
      pick_left (nested.size a) (p - o) (q - o) _ _ (omega (arith, n, x, y, z)) ∙ to_nested a o p q h
  to_nested (nested.Beside a b) o p q (inr (inl h)) =
      let k = bounded (counted b) (o + size (counted a)) p q h in let n = counted_size a in let x = k.low in let y = k.less in
      pick_right (nested.size a) (p - o) (q - o) _ _ _ (omega (arith, n, x)) (omega (arith, n, x, y))
      ∙ along_right b o (size (counted a)) (nested.size a) p q n (to_nested b (o + size (counted a)) p q h)
  to_nested (nested.Beside a b) o p q (inr (inr (x, y))) =
      let n = counted_size a in
      pick_across (nested.size a) (p - o) (q - o) _ _ _ (omega (arith, n, x)) (omega (arith, n, y))

  pub from_nested : (t : nested.Layout W) (o p q : ℕ) → p < q → q < nested.size t → nested.are_beside t p q ≡ true → Beside (counted t) o (o + p) (o + q)
  from_nested (nested.Strand s) o p q l k h = absurd (cc h)
  from_nested (nested.Series a b) o p q l k h =
      let n = counted_size a in
      elim (cases_lt q (nested.size a)) [
        | inl x ↦ inl (from_nested a o p q l x (sym (pick_left (nested.size a) p q _ _ x) ∙ h))
        | inr x ↦ elim (cases_lt p (nested.size a)) [
          | inl y ↦ absurd (true≢false (sym h ∙ pick_across (nested.size a) p q _ _ _ y x))
          | inr y ↦ inr (shifted (counted b) o (size (counted a)) (nested.size a) p q n y x (from_nested b (o + size (counted a)) (p - nested.size a) (q - nested.size a) (omega (arith, l, y)) (omega (arith, k, x)) (sym (pick_right (nested.size a) p q _ _ _ y x) ∙ h)))
        ]
      ]
  from_nested (nested.Beside a b) o p q l k h =
      let n = counted_size a in
      let m = counted_size b in
      elim (cases_lt q (nested.size a)) [
        | inl x ↦ inl (from_nested a o p q l x (sym (pick_left (nested.size a) p q _ _ x) ∙ h))
        | inr x ↦ elim (cases_lt p (nested.size a)) [
          | inl y ↦ inr (inr ((omega arith, omega (arith, n, y)), (omega (arith, n, x), omega (arith, n, m, k))))
          | inr y ↦ inr (inl (shifted (counted b) o (size (counted a)) (nested.size a) p q n y x (from_nested b (o + size (counted a)) (p - nested.size a) (q - nested.size a) (omega (arith, l, y)) (omega (arith, k, x)) (sym (pick_right (nested.size a) p q _ _ _ y x) ∙ h))))
        ]
      ]

-- ---- events
module _ (cell : Cell → ℕ) (instance : Instance → numbered.Instance) where
  reads_cell : (c : Cell) (v : ℤ) (e : numbers.Event) → e ≡ events.Read (cell c) v → races.Accesses (Some e) (cell c)
  reads_cell c v e h = subst (λ (x : numbers.Event). races.Accesses (Some x) (cell c)) (sym h) refl

  writes_cell : (c : Cell) (v : ℤ) (e : numbers.Event) → e ≡ events.Write (cell c) v → races.Writes (Some e) (cell c) × races.Accesses (Some e) (cell c)
  writes_cell c v e h = subst (λ (x : numbers.Event). races.Writes (Some x) (cell c) × races.Accesses (Some x) (cell c)) (sym h) (refl, refl)

  abbrev ClashAt : numbers.Event → numbers.Event → Type 0
  ClashAt e e' = (c : ℕ) × ((races.Writes (Some e) c × races.Accesses (Some e') c) ⊎ (races.Accesses (Some e) c × races.Writes (Some e') c))

  clash_written : (a b : Event) (e e' : numbers.Event) → IsWrittenEvent cell instance a e → IsWrittenEvent cell instance b e' → nested.event_clash a b ≡ true → ClashAt e e'
  clash_written (Reads c v) (Writes d x) e e' w w' h =
      let q = same_cell-eq c d h in
      (cell c, inr (reads_cell c v e w, subst (λ (k : Cell). races.Writes (Some e') (cell k)) (sym q) (writes_cell d x e' w').0))
  clash_written (Writes c v) (Writes d x) e e' w w' h =
      let q = same_cell-eq c d h in
      (cell c, inl ((writes_cell c v e w).0, subst (λ (k : Cell). races.Accesses (Some e') (cell k)) (sym q) (writes_cell d x e' w').1))
  clash_written (Writes c v) (Reads d x) e e' w w' h =
      let q = same_cell-eq c d h in
      (cell c, inl ((writes_cell c v e w).0, subst (λ (k : Cell). races.Accesses (Some e') (cell k)) (sym q) (reads_cell d x e' w')))
  clash_written _ _ e e' w w' h = absurd (true≢false (sym h))

  read_written : (i : Instance) (a : Event) (e : numbers.Event) → IsReducerRead i a → IsWrittenEvent cell instance a e → views.ReadsReducer (Some e) (instance i)
  read_written i (Passes (Creates j)) e h w = subst (λ (x : numbers.Event). views.ReadsReducer (Some x) (instance i)) (sym w) (ap instance h)
  read_written i (Passes (Sets j x)) e h w = subst (λ (x : numbers.Event). views.ReadsReducer (Some x) (instance i)) (sym w) (ap instance h)
  read_written i (Passes (Values j n)) e h w = subst (λ (x : numbers.Event). views.ReadsReducer (Some x) (instance i)) (sym w) (ap instance h)
  read_written i _ e h w = absurd h

  module _ {W : Type 0} where
    -- the event at a deed's place
    record Found (d : Deed W) (es : List numbers.Event) (p : ℕ) : Type 0 where
      event : numbers.Event
      there : slice_get es p ≡ Some event
      written : IsWritten cell instance d event
      inside : p < length es

    found : (ds : List (Deed W)) (es : List numbers.Event) (p : ℕ) (d : Deed W) → AreWritten cell instance ds es → slice_get ds p ≡ Some d → Found d es p
    found [] es p d w h = absurd (cc h)
    found (x ∷ ds) [] p d w h = absurd w
    found (x ∷ ds) (e ∷ es) zero d w h =
        let q : x ≡ d = (let c : Some x ≡ Some d = h in cc c) in
        record { event = e; there = refl; written = subst (λ (y : Deed W). IsWritten cell instance y e) q w.0; inside = omega arith }
    found (x ∷ ds) (e ∷ es) (suc p) d w h =
        let k = found ds es p d w.1 h in
        let l = k.inside in
        record { event = k.event; there = k.there; written = k.written; inside = omega (arith, l) }

    clash_found : (o o' : Option (Deed W)) → nested.clash o o' ≡ true
        → (a : Event) × (b : Event) × (o ≡ Some (Does a)) × (o' ≡ Some (Does b)) × (nested.event_clash a b ≡ true)
    clash_found (Some (Does a)) (Some (Does b)) h = (a, b, refl, refl, h)
    clash_found _ _ h = absurd (true≢false (sym h))

    module _ (t : Run W) (es : List numbers.Event) (framed : IsFramed begin_due t) (written : AreWritten cell instance (trace t) es) where
      pub spelled : shapes.Spells (shape_of t) es
      spelled = events_spell W cell instance t es framed written

      same_tree : counted (nested.layout t) ≡ tree (shape_of t)
      same_tree = layouts_agree W t framed

      pub layout_length : nested.size (nested.layout t) ≡ length es
      layout_length =
          let a = counted_size (nested.layout t) in
          let b = ap size same_tree in
          let c = size-spelled (shape_of t) es spelled in
          omega (arith, a, b, c)

      -- two positions in serial order: parallel by the nested tree is parallel by their strands
      pub to_strands : (p q : ℕ) → p < q → q < length es → nested.are_beside (nested.layout t) p q ≡ true → Parallel (tree (shape_of t)) 1 (races.strand_at es (suc p)) (races.strand_at es (suc q))
      to_strands p q l k h =
          let n = layout_length in
          let b = subst (λ (x : Tree). Beside x 1 (1 + p) (1 + q)) same_tree (from_nested (nested.layout t) 1 p q l (omega (arith, k, n)) h) in
          let x : 1 + p ≡ suc p = omega arith in
          let y : 1 + q ≡ suc q = omega arith in
          let b' = subst (λ (m : ℕ). Beside (tree (shape_of t)) 1 (suc p) m) y (subst (λ (m : ℕ). Beside (tree (shape_of t)) 1 m (1 + q)) x b) in
          (beside_positions (shape_of t) es spelled (suc p) (suc q) (omega arith, omega (arith, l, k)) (omega arith, omega (arith, k)) (omega (arith, l))).1 b'

      to_positions : (p q : ℕ) → p < q → q < length es → Parallel (tree (shape_of t)) 1 (races.strand_at es (suc p)) (races.strand_at es (suc q)) → nested.are_beside (nested.layout t) p q ≡ true
      to_positions p q l k h =
          let b = (beside_positions (shape_of t) es spelled (suc p) (suc q) (omega arith, omega (arith, l, k)) (omega arith, omega (arith, k)) (omega (arith, l))).0 h in
          let c = to_nested (nested.layout t) 1 (suc p) (suc q) (subst (λ (x : Tree). Beside x 1 (suc p) (suc q)) (sym same_tree) b) in
          let x : suc p - 1 ≡ p = omega arith in
          let y : suc q - 1 ≡ q = omega arith in
          subst (λ (m : ℕ). nested.are_beside (nested.layout t) p m ≡ true) y (subst (λ (m : ℕ). nested.are_beside (nested.layout t) m (suc q - 1) ≡ true) x c)

      at_suc : (p : ℕ) (e : numbers.Event) → slice_get es p ≡ Some e → races.event_at es (suc p) ≡ Some e
      at_suc p e h = let z : suc p - 1 ≡ p = omega arith in ap (λ (k : ℕ). slice_get es k) z ∙ h

      race_of : races.HasNoRace (tree (shape_of t)) es → (p q : ℕ) → p < q → nested.are_beside (nested.layout t) p q ≡ true
          → nested.clash (slice_get (trace t) p) (slice_get (trace t) q) ≡ true → ⊥
      race_of free p q l h c =
          let k = clash_found _ _ c in
          let f = found (trace t) es p (Does k.0) written k.2 in
          let g = found (trace t) es q (Does k.1) written k.3 in
          let w = clash_written k.0 k.1 f.event g.event f.written g.written k.4 in
          let x = sym (at_suc p f.event f.there) in
          let y = sym (at_suc q g.event g.there) in
          free (suc p) (suc q) (record {
            first = omega arith;
            earlier = omega (arith, l);
            cell = w.0;
            clash = subst (λ (o : Option numbers.Event). (races.Writes (races.event_at es (suc p)) w.0 × races.Accesses o w.0) ⊎ (races.Accesses (races.event_at es (suc p)) w.0 × races.Writes o w.0)) y
                (subst (λ (o : Option numbers.Event). (races.Writes o w.0 × races.Accesses (Some g.event) w.0) ⊎ (races.Accesses o w.0 × races.Writes (Some g.event) w.0)) x w.1);
            parallel = to_strands p q l g.inside h;
          })

      no_race : races.HasNoRace (tree (shape_of t)) es → nested.NoneClash t
      no_race free p q l h = by (nested.clash (slice_get (trace t) p) (slice_get (trace t) q)) refl
        where
          by : (b : Bool) → nested.clash (slice_get (trace t) p) (slice_get (trace t) q) ≡ b → nested.clash (slice_get (trace t) p) (slice_get (trace t) q) ≡ false
          by true c = absurd (race_of free p q l h c)
          by false c = c

      -- peers by the nested tree are parallel strands
      peers_strands : (p z : ℕ) → p < length es → z < length es → (nested.peer_at (nested.layout t) p z ≡ true) ↔ Parallel (tree (shape_of t)) 1 (races.strand_at es (suc p)) (races.strand_at es (suc z))
      peers_strands p z lp lz =
          elim (cases_order p z) [
            | inl same ↦ (let a = le-ltb p z (omega (arith, same)) in let b = le-ltb z p (omega (arith, same)) in
                let c : nested.peer_at (nested.layout t) p z ≡ false = rw (a, b) refl in (
                  (λ h. absurd (true≢false (sym h ∙ c))),
                  λ h. absurd (not_to_itself (tree (shape_of t)) 1 (races.strand_at es (suc z)) (subst (λ (x : ℕ). Parallel (tree (shape_of t)) 1 (races.strand_at es (suc x)) (races.strand_at es (suc z))) same h)),
                ))
            | inr (inl l) ↦ (let a = lt-ltb p z l in
                let c : nested.peer_at (nested.layout t) p z ≡ nested.are_beside (nested.layout t) p z = rw a refl in
                ((λ h. to_strands p z l lz (sym c ∙ h)), λ h. c ∙ to_positions p z l lz h))
            | inr (inr l) ↦ (let a = le-ltb p z (omega (arith, l)) in let b = lt-ltb z p l in
                let c : nested.peer_at (nested.layout t) p z ≡ nested.are_beside (nested.layout t) z p = rw (a, b) refl in
                ((λ h. parallel_sym (tree (shape_of t)) 1 _ _ (to_strands z p l lp (sym c ∙ h))), λ h. c ∙ to_positions z p l lp (parallel_sym (tree (shape_of t)) 1 _ _ h)))
          ]

      -- two reducer-reads in serial order have the same peers, or else they race
      apart : views.HasNoViewRace (tree (shape_of t)) es → (i : Instance) (p q : ℕ) (d e : Event) → p < q → slice_get (trace t) p ≡ Some (Does d) → slice_get (trace t) q ≡ Some (Does e)
          → IsReducerRead i d → IsReducerRead i e → (SamePeers (tree (shape_of t)) (races.strand_at es (suc p)) (races.strand_at es (suc q)) → ⊥) → ⊥
      apart free i p q d e l hp hq rd re differ =
          let f = found (trace t) es p (Does d) written hp in
          let g = found (trace t) es q (Does e) written hq in
          free (suc p) (suc q) (record {
            first = omega arith;
            earlier = omega (arith, l);
            instance = instance i;
            one = subst (λ (o : Option numbers.Event). views.ReadsReducer o (instance i)) (sym (at_suc p f.event f.there)) (read_written i d f.event rd f.written);
            other = subst (λ (o : Option numbers.Event). views.ReadsReducer o (instance i)) (sym (at_suc q g.event g.there)) (read_written i e g.event re g.written);
            differ = differ;
          })

      same_test : views.HasNoViewRace (tree (shape_of t)) es → (i : Instance) (p q : ℕ) (d e : Event) → p < q → slice_get (trace t) p ≡ Some (Does d) → slice_get (trace t) q ≡ Some (Does e)
          → IsReducerRead i d → IsReducerRead i e → (z : ℕ) → z < length es → nested.peer_at (nested.layout t) p z ≡ nested.peer_at (nested.layout t) q z
      same_test free i p q d e l hp hq rd re z k = by (nested.peer_at (nested.layout t) p z) (nested.peer_at (nested.layout t) q z) refl refl
        where
          at_p : p < length es
          at_p = (found (trace t) es p (Does d) written hp).inside

          at_q : q < length es
          at_q = (found (trace t) es q (Does e) written hq).inside

          by : (a b : Bool) → nested.peer_at (nested.layout t) p z ≡ a → nested.peer_at (nested.layout t) q z ≡ b → nested.peer_at (nested.layout t) p z ≡ nested.peer_at (nested.layout t) q z
          by true true x y = x ∙ sym y
          by false false x y = x ∙ sym y
          by true false x y = absurd (apart free i p q d e l hp hq rd re (λ same.
              true≢false (sym ((peers_strands q z at_q k).1 ((same (races.strand_at es (suc z))).0 ((peers_strands p z at_p k).0 x))) ∙ y)))
          by false true x y = absurd (apart free i p q d e l hp hq rd re (λ same.
              true≢false (sym ((peers_strands p z at_p k).1 ((same (races.strand_at es (suc z))).1 ((peers_strands q z at_q k).0 y))) ∙ x)))

      no_view_race : views.HasNoViewRace (tree (shape_of t)) es → (i : Instance) → nested.ReadsHavePeers i t
      no_view_race free i p q d e hp hq rd re z f hz =
          let k = (found (trace t) es z f written hz).inside in
          elim (cases_order p q) [
            | inl same ↦ ap (λ (x : ℕ). nested.peer_at (nested.layout t) x z) same
            | inr (inl l) ↦ same_test free i p q d e l hp hq rd re z k
            | inr (inr l) ↦ sym (same_test free i q p e d l hq hp re rd z k)
          ]

pub free_by_names : {W : Type 0} (t : Run W) → IsFramed begin_due t → HasNoRaces t → nested.NoneClash t × ((i : Instance) → nested.ReadsHavePeers i t)
free_by_names {W} t framed h =
    let f = h.free in
    let same : f.shape ≡ shape_of t = spells_one f.shape (shape_of t) h.events f.spells (spelled h.cell h.instance t h.events framed h.written) in (
      no_race h.cell h.instance t h.events framed h.written (subst (λ (s : shapes.Shape). races.HasNoRace (tree s) h.events) same f.races),
      no_view_race h.cell h.instance t h.events framed h.written (subst (λ (s : shapes.Shape). views.HasNoViewRace (tree s) h.events) same f.view_races),
    )
