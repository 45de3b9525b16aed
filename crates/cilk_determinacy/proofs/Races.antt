-- No race over all pairs of positions is no race by the nested run.
use Rattle.std.proofs.Common.{◌≡◌, ℕ, suc, ◌+◌, ◌-◌, ◌<◌, Bool, true, false, cond, List, [], ◌∷◌, ◌++◌, length, Option, Some, None, refl, sym, ap, ◌∙◌, subst, arith, ◌⊎◌, inl, inr, ⊎_elim, append_assoc, append-nil, zero, length-append, zero-add, suc-add, lt-ltb, le-ltb, ℤ}
use Rattle.std.specs.Prelude.{slice_get, nat_lt}
use Rattle.std.proofs.Common.{ap₂}
use Rattle.std.proofs.lemmas.Bool.{cases_lt, cond-true}
use Rattle.std.proofs.lemmas.Option.{slice_get_past}
use Rattle.cilk_types.specs.declared.invocation.Invocation.{Invocation}
use Rattle.cilk_types.specs.declared.invocation.Invocation.TheVariants.{Call, Spawn}
use Rattle.cilk_determinacy.specs.Runs.{Cell, Event, Reads, Writes, Syncs, Ends, Passes, Deed, Does, Invokes, Run, stop, act, child}
use Rattle.cilk_determinacy.specs.Views.{HasEventWith}
use Rattle.cilk_determinacy.proofs.Blocks.{IsAccess, IsWrite, HasInBlockWith, Apart, RaceFree}
use Rattle.cilk_determinacy.specs.Traces.{trace}
use Rattle.cilk_determinacy.proofs.Layouts.{Layout, Strand, Series, Beside, in_order, child_layout, layouts, layout, size, are_beside, event_clash, clash, NoneClash, events_of}
use Rattle.cilk_determinacy.proofs.Basics.{same_cell-refl}

module _ {W : Type 0} where
  abbrev pub IsEvent : (Event → Type 0) → Deed W → Type 0
  IsEvent P (Does e) = P e
  IsEvent P (Invokes b w) = ⊥

  abbrev pub Among : (Event → Type 0) → List (Deed W) → Type 0
  Among P [] = ⊥
  Among P (d ∷ ds) = IsEvent P d ⊎ Among P ds

  pub among_left : (P : Event → Type 0) (a b : List (Deed W)) → Among P a → Among P (a ++ b)
  among_left P [] b h = absurd h
  among_left P (d ∷ a) b (inl h) = inl h
  among_left P (d ∷ a) b (inr h) = inr (among_left P a b h)

  pub among_right : (P : Event → Type 0) (a b : List (Deed W)) → Among P b → Among P (a ++ b)
  among_right P [] b h = h
  among_right P (d ∷ a) b h = inr (among_right P a b h)

  -- no access of one list races with one of the other
  abbrev pub Foreign : List (Deed W) → List (Deed W) → Type 0
  Foreign a b =
      (c : Cell)
      → (Among (λ e. IsAccess e c) a → Among (λ e. IsWrite e c) b → ⊥)
      × (Among (λ e. IsWrite e c) a → Among (λ e. IsAccess e c) b → ⊥)

  abbrev pub Clean : Layout W → Type 0
  Clean (Strand s) = Unit {0}
  Clean (Series a b) = Clean a × Clean b
  Clean (Beside a b) = Clean a × Clean b × Foreign (events_of a) (events_of b)

  abbrev CleanLater : Option (Layout W) → Type 0
  CleanLater None = Unit {0}
  CleanLater (Some b) = Clean b

  later_events : Option (Layout W) → List (Deed W)
  later_events None = []
  later_events (Some b) = events_of b

  clean_split : (a : Layout W) (o : Option (Layout W)) → Clean (in_order a o) → Clean a × CleanLater o
  clean_split a None h = (h, tt)
  clean_split a (Some b) h = h

  series_events : (a : Layout W) (o : Option (Layout W)) → events_of (in_order a o) ≡ events_of a ++ later_events o
  unfolding later_events
  series_events a None = sym (append-nil (events_of a))
  series_events a (Some b) = refl

  pub child_events : (b : Invocation) (x y : Layout W) → events_of (child_layout b x y) ≡ events_of x ++ events_of y
  child_events Call x y = refl
  child_events Spawn x y = refl

  -- the leaves of the tree are the events in serial order
  blocks_events : (r : Run W) (s : List (Deed W)) → events_of (layouts r s).0 ++ later_events (layouts r s).1 ≡ s ++ trace r
  unfolding later_events
  blocks_events stop s = refl
  blocks_events (act (Reads c v) r) s = blocks_events r (s ++ Does (Reads c v) ∷ []) ∙ append_assoc s _ _
  blocks_events (act (Writes c v) r) s = blocks_events r (s ++ Does (Writes c v) ∷ []) ∙ append_assoc s _ _
  blocks_events (act Syncs r) s = ap (λ z. s ++ z) (series_events (layouts r (Does Syncs ∷ [])).0 (layouts r (Does Syncs ∷ [])).1 ∙ blocks_events r (Does Syncs ∷ []))
  blocks_events (act (Ends val gone) r) s = blocks_events r (s ++ Does (Ends val gone) ∷ []) ∙ append_assoc s _ _
  blocks_events (act (Passes m) r) s = blocks_events r (s ++ Does (Passes m) ∷ []) ∙ append_assoc s _ _
  blocks_events (child b w u r) s =
      let inner = in_order (layouts u []).0 (layouts u []).1 in
      let e : events_of inner ≡ trace u = series_events (layouts u []).0 (layouts u []).1 ∙ blocks_events u [] in
      let d = Invokes b w in
      let r0 = events_of (layouts r []).0 in
      let l = later_events (layouts r []).1 in
      let f : (((s ++ d ∷ []) ++ (trace u ++ r0)) ++ l) ≡ s ++ (d ∷ (trace u ++ (r0 ++ l))) = simp append_assoc in
      ap (λ z. ((s ++ d ∷ []) ++ z) ++ l) (child_events b inner (layouts r []).0 ∙ ap (λ z. z ++ r0) e) ∙ f ∙ ap (λ z. s ++ (d ∷ (trace u ++ z))) (blocks_events r [])

  pub tree_events : (r : Run W) → events_of (layout r) ≡ trace r
  tree_events r = series_events (layouts r []).0 (layouts r []).1 ∙ blocks_events r []

  pub some_trace : (P : Event → Type 0) (r : Run W) → HasEventWith P r → Among P (trace r)
  some_trace P stop h = absurd h
  some_trace P (act e r) (inl h) = inl h
  some_trace P (act e r) (inr h) = inr (some_trace P r h)
  some_trace P (child b w u r) (inl h) = inr (among_left P (trace u) (trace r) (some_trace P u h))
  some_trace P (child b w u r) (inr h) = inr (among_right P (trace u) (trace r) (some_trace P r h))

  strand_kept : (P : Event → Type 0) (r : Run W) (s : List (Deed W)) → Among P s → Among P (events_of (layouts r s).0)
  strand_kept P stop s h = h
  strand_kept P (act (Reads c v) r) s h = strand_kept P r _ (among_left P s _ h)
  strand_kept P (act (Writes c v) r) s h = strand_kept P r _ (among_left P s _ h)
  strand_kept P (act Syncs r) s h = h
  strand_kept P (act (Ends val gone) r) s h = strand_kept P r _ (among_left P s _ h)
  strand_kept P (act (Passes m) r) s h = strand_kept P r _ (among_left P s _ h)
  strand_kept P (child b w u r) s h = among_left P (s ++ Invokes b w ∷ []) _ (among_left P s _ h)

  pub some_block : (P : Event → Type 0) → ¬ (P Syncs) → (r : Run W) (s : List (Deed W)) → HasInBlockWith P r → Among P (events_of (layouts r s).0)
  some_block P never stop s h = absurd h
  some_block P never (act (Reads c v) r) s (inl h) = strand_kept P r _ (among_right P s _ (inl h))
  some_block P never (act (Reads c v) r) s (inr h) = some_block P never r _ h.1
  some_block P never (act (Writes c v) r) s (inl h) = strand_kept P r _ (among_right P s _ (inl h))
  some_block P never (act (Writes c v) r) s (inr h) = some_block P never r _ h.1
  some_block P never (act Syncs r) s (inl h) = absurd (never h)
  some_block P never (act Syncs r) s (inr h) = absurd (h.0 tt)
  some_block P never (act (Ends val gone) r) s (inl h) = strand_kept P r _ (among_right P s _ (inl h))
  some_block P never (act (Ends val gone) r) s (inr h) = some_block P never r _ h.1
  some_block P never (act (Passes m) r) s (inl h) = strand_kept P r _ (among_right P s _ (inl h))
  some_block P never (act (Passes m) r) s (inr h) = some_block P never r _ h.1
  some_block P never (child b w u r) s (inl h) =
      among_right P (s ++ Invokes b w ∷ []) _ (rw (child_events b (layout u) (layouts r []).0) (among_left P _ _ (subst (Among P) (sym (tree_events u)) (some_trace P u h))))
  some_block P never (child b w u r) s (inr h) =
      among_right P (s ++ Invokes b w ∷ []) _ (rw (child_events b (layout u) (layouts r []).0) (among_right P (events_of (layout u)) _ (some_block P never r [] h)))

  foreign_apart : (u r : Run W) → Foreign (events_of (layout u)) (events_of (layouts r []).0) → Apart u r
  foreign_apart u r far c =
      let inner : (P : Event → Type 0) → HasEventWith P u → Among P (events_of (layout u)) = λ P h. subst (Among P) (sym (tree_events u)) (some_trace P u h) in (
        λ h g. (far c).0 (inner (λ e. IsAccess e c) h) (some_block (λ e. IsWrite e c) (λ z. z) r [] g),
        λ h g. (far c).1 (inner (λ e. IsWrite e c) h) (some_block (λ e. IsAccess e c) (λ z. z) r [] g),
      )

  -- a clean tree is that of a run without a race
  clean_free : (r : Run W) (s : List (Deed W)) → Clean (layouts r s).0 → CleanLater (layouts r s).1 → RaceFree r
  clean_free stop s a b = tt
  clean_free (act (Reads c v) r) s a b = clean_free r _ a b
  clean_free (act (Writes c v) r) s a b = clean_free r _ a b
  clean_free (act Syncs r) s a b = let p = clean_split (layouts r (Does Syncs ∷ [])).0 (layouts r (Does Syncs ∷ [])).1 b in clean_free r _ p.0 p.1
  clean_free (act (Ends val gone) r) s a b = clean_free r _ a b
  clean_free (act (Passes m) r) s a b = clean_free r _ a b
  clean_free (child Call w u r) s a b = let p = clean_split (layouts u []).0 (layouts u []).1 a.1.0 in (tt, clean_free u [] p.0 p.1, clean_free r [] a.1.1 b)
  clean_free (child Spawn w u r) s a b = let p = clean_split (layouts u []).0 (layouts u []).1 a.1.0 in (foreign_apart u r a.1.2, clean_free u [] p.0 p.1, clean_free r [] a.1.1 b)

  pub tree_free : (r : Run W) → Clean (layout r) → RaceFree r
  tree_free r h = let p = clean_split (layouts r []).0 (layouts r []).1 h in clean_free r [] p.0 p.1

clash_write : (a : Event) (y : Cell) (u : ℤ) (c : Cell) → IsAccess a c → y ≡ c → event_clash a (Writes y u) ≡ true
clash_write (Reads x v) y u c h g = rw (h, g) (same_cell-refl c)
clash_write (Writes x v) y u c h g = rw (h, g) (same_cell-refl c)
clash_write Syncs y u c h g = absurd h
clash_write (Ends val gone) y u c h g = absurd h
clash_write (Passes m) y u c h g = absurd h

clash_to : (c : Cell) (a b : Event) → IsAccess a c → IsWrite b c → event_clash a b ≡ true
clash_to c a (Reads y u) h g = absurd g
clash_to c a (Writes y u) h g = clash_write a y u c h g
clash_to c a Syncs h g = absurd g
clash_to c a (Ends val gone) h g = absurd g
clash_to c a (Passes m) h g = absurd g

clash_from : (c : Cell) (a b : Event) → IsWrite a c → IsAccess b c → event_clash a b ≡ true
clash_from c (Reads x v) b h g = absurd h
clash_from c (Writes x v) (Reads y u) h g = rw (h, g) (same_cell-refl c)
clash_from c (Writes x v) (Writes y u) h g = rw (h, g) (same_cell-refl c)
clash_from c (Writes x v) Syncs h g = absurd g
clash_from c (Writes x v) (Ends val gone) h g = absurd g
clash_from c (Writes x v) (Passes m) h g = absurd g
clash_from c Syncs b h g = absurd h
clash_from c (Ends val gone) b h g = absurd h
clash_from c (Passes m) b h g = absurd h

module _ {W : Type 0} where
  pub tree_size : (t : Layout W) → size t ≡ length (events_of t)
  tree_size (Strand s) = refl
  tree_size (Series a b) = omega (arith, tree_size a, tree_size b, length-append (events_of a) (events_of b))
  tree_size (Beside a b) = omega (arith, tree_size a, tree_size b, length-append (events_of a) (events_of b))

  pub get_left : (a b : List (Deed W)) (p : ℕ) → p < length a → slice_get (a ++ b) p ≡ slice_get a p
  get_left [] b p h = absurd (omega arith)
  get_left (x ∷ a) b zero h = refl
  get_left (x ∷ a) b (suc p) h = get_left a b p (omega arith)

  pub get_right : (a b : List (Deed W)) (q : ℕ) → slice_get (a ++ b) (length a + q) ≡ slice_get b q
  get_right [] b q = ap (slice_get b) (zero-add q)
  get_right (x ∷ a) b q = ap (slice_get (x ∷ (a ++ b))) (suc-add (length a) q) ∙ get_right a b q

  pub clash_none : (o : Option (Deed W)) → clash o None ≡ false
  clash_none None = refl
  clash_none (Some (Does (Reads c v))) = refl
  clash_none (Some (Does (Writes c v))) = refl
  clash_none (Some (Does Syncs)) = refl
  clash_none (Some (Does (Ends val gone))) = refl
  clash_none (Some (Does (Passes m))) = refl
  clash_none (Some (Invokes b w)) = refl

  -- the same over the positions of a tree
  abbrev PairFree : Layout W → Type 0
  PairFree t = (p q : ℕ) → p < q → are_beside t p q ≡ true → clash (slice_get (events_of t) p) (slice_get (events_of t) q) ≡ false

  left_free : (t a b : Layout W) → events_of t ≡ events_of a ++ events_of b → ((p q : ℕ) → q < size a → are_beside t p q ≡ are_beside a p q) → PairFree t → PairFree a
  left_free t a b e same free p q lt par =
      let n = tree_size a in
      ⊎_elim
      (λ within. let f = free p q lt (same p q within ∙ par) in
      let gp : slice_get (events_of t) p ≡ slice_get (events_of a) p = ap (λ z. slice_get z p) e ∙ get_left (events_of a) (events_of b) p (omega (arith, n)) in
      let gq : slice_get (events_of t) q ≡ slice_get (events_of a) q = ap (λ z. slice_get z q) e ∙ get_left (events_of a) (events_of b) q (omega (arith, n)) in
      rw (gp, gq) at f)
      (λ past. rw (slice_get_past (events_of a) q (omega (arith, n))) (clash_none (slice_get (events_of a) p)))
      (cases_lt q (size a))

  pub get_after : (t a b : Layout W) (q : ℕ) → events_of t ≡ events_of a ++ events_of b → slice_get (events_of t) (size a + q) ≡ slice_get (events_of b) q
  get_after t a b q e = ap₂ slice_get e (ap (λ z. z + q) (tree_size a)) ∙ get_right (events_of a) (events_of b) q

  right_free : (t a b : Layout W) → events_of t ≡ events_of a ++ events_of b → ((p q : ℕ) → are_beside t (size a + p) (size a + q) ≡ are_beside b p q) → PairFree t → PairFree b
  right_free t a b e same free p q lt par =
      let f = free (size a + p) (size a + q) (omega arith) (same p q ∙ par) in
      rw (get_after t a b p e, get_after t a b q e) at f

  pub par_right : (n p q : ℕ) (b : Layout W) (x z : Bool) → cond (nat_lt (n + q) n) x (cond (nat_lt (n + p) n) z (are_beside b ((n + p) - n) ((n + q) - n))) ≡ are_beside b p q
  par_right n p q b x z =
      let u : (n + p) - n ≡ p = omega arith in
      let v : (n + q) - n ≡ q = omega arith in
      rw (le-ltb (n + q) n (omega arith), le-ltb (n + p) n (omega arith), u, v) refl

  pub among_at : (P : Event → Type 0) (xs : List (Deed W)) → Among P xs → (p : ℕ) × (e : Event) × (p < length xs) × (slice_get xs p ≡ Some (Does e)) × P e
  among_at P [] h = absurd h
  among_at P (Does e ∷ xs) (inl h) = (0, e, omega arith, refl, h)
  among_at P (Invokes b w ∷ xs) (inl h) = absurd h
  among_at P (d ∷ xs) (inr h) = let (p, e, lt, at, q) = among_at P xs h in (suc p, e, omega arith, at, q)

  cross : (a b : Layout W) → PairFree (Beside a b) → (p q : ℕ) → p < length (events_of a) → clash (slice_get (events_of a) p) (slice_get (events_of b) q) ≡ false
  cross a b free p q within =
      let n = tree_size a in
      let lt : p < size a = omega (arith, n) in
      let par : are_beside (Beside a b) p (size a + q) ≡ true = rw (le-ltb (size a + q) (size a) (omega arith), lt-ltb p (size a) lt) refl in
      let f = free p (size a + q) (omega arith) par in
      rw (get_left (events_of a) (events_of b) p within, get_after (Beside a b) a b q refl) at f

  no_clash : (a b : Layout W) → PairFree (Beside a b) → (P Q : Event → Type 0) → ((d e : Event) → P d → Q e → event_clash d e ≡ true) → Among P (events_of a) → Among Q (events_of b) → ⊥
  no_clash a b free P Q bad h g =
      let (p, d, within, at, x) = among_at P (events_of a) h in
      let (q, e, there, at', y) = among_at Q (events_of b) g in
      let f : event_clash d e ≡ false = rw (at, at') at (cross a b free p q within) in
      let z : true ≡ false = sym (bad d e x y) ∙ f in
      absurd (cc)

  pairs_clean : (t : Layout W) → PairFree t → Clean t
  pairs_clean (Strand s) free = tt
  pairs_clean (Series a b) free = (
    pairs_clean a (left_free (Series a b) a b refl (λ p q within. cond-true (nat_lt q (size a)) _ _ (lt-ltb q (size a) within)) free),
    pairs_clean b (right_free (Series a b) a b refl (λ p q. par_right (size a) p q b _ _) free),
  )
  pairs_clean (Beside a b) free = (
    pairs_clean a (left_free (Beside a b) a b refl (λ p q within. cond-true (nat_lt q (size a)) _ _ (lt-ltb q (size a) within)) free),
    pairs_clean b (right_free (Beside a b) a b refl (λ p q. par_right (size a) p q b _ _) free),
    λ c. (no_clash a b free (λ e. IsAccess e c) (λ e. IsWrite e c) (clash_to c), no_clash a b free (λ e. IsWrite e c) (λ e. IsAccess e c) (clash_from c)),
  )

  -- no race over all pairs of positions of the trace: no spawned child races with the rest of its
  -- block
  pub no_race : (t : Run W) → NoneClash t → RaceFree t
  no_race t free = tree_free t (pairs_clean (layout t) (λ p q lt par. subst (λ z. clash (slice_get z p) (slice_get z q) ≡ false) (sym (tree_events t)) (free p q lt par)))
