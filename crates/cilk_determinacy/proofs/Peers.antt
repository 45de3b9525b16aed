-- View-read races by peers, and by the nested run.
use Rattle.std.proofs.Common.{◌≡◌, ℕ, zero, suc, ◌+◌, ◌<◌, Bool, true, false, cond, List, [], ◌∷◌, ◌++◌, length, Option, Some, None, refl, sym, ap, ◌∙◌, subst, arith, ◌⊎◌, inl, inr, ⊎_elim, lt-ltb, le-ltb, ap₂, add_assoc, zero-add, le_refl}
use Rattle.std.proofs.lemmas.Bool.{cases_Bool, cond-true, cond-false, cases_order}
use Rattle.std.specs.Prelude.{slice_get, nat_lt}
use Rattle.cilk_types.specs.declared.invocation.Invocation.{Invocation}
use Rattle.cilk_types.specs.declared.invocation.Invocation.TheVariants.{Call, Spawn}
use Rattle.cilk_determinacy.specs.Runs.{same_instance, Output, has_instance, Event, Reads, Writes, Syncs, Ends, Passes, Granted, Begins, Resumes, Creates, Updates, Sets, Values, Prints, Deed, Does, Invokes, Run, stop, act, child, Instance}
use Rattle.cilk_monoid.specs.Laws.{MonoidStructure, IsLawful}
use Rattle.cilk_determinacy.specs.Monoids.{IsValue, mark_view, on_view}
use Rattle.cilk_determinacy.specs.Views.{HasEventWith, view_after, IsReducerRead, IsCreate, IsRetire, IsRetiredAtHome, IsCreated, IsUpdate, IsCreatedFirst}
use Rattle.cilk_determinacy.proofs.Blocks.{HasInBlockWith, IsTouch, ReadRule, IsReadApart, ViewApart, ViewFree}
use Rattle.cilk_determinacy.specs.Traces.{trace}
use Rattle.cilk_determinacy.proofs.Layouts.{Layout, Strand, Series, Beside, in_order, child_layout, layouts, layout, size, are_beside, events_of, peer_at, ReadsHavePeers, IsInhabited}
use Rattle.cilk_determinacy.specs.Serial.{IsClosed, SyncAhead, ComesAfter}
use Rattle.cilk_determinacy.proofs.Find.{closed_act}
use Rattle.cilk_determinacy.proofs.Values.{quiet_free}
use Rattle.cilk_determinacy.proofs.Basics.{same_instance-refl, same_instance-eq}
use Rattle.cilk_determinacy.proofs.Races.{Among, tree_events, some_trace, some_block, among_left, among_right, among_at, child_events, get_left, get_after, par_right, tree_size}

dec_instance : (a b : Instance) → (a ≡ b) ⊎ (¬ (a ≡ b))
dec_instance a b = ⊎_elim (λ e. inl (same_instance-eq a b e)) (λ e. inr (λ q. let z : true ≡ false = sym (same_instance-refl a) ∙ ap (same_instance a) q ∙ e in absurd (cc))) (cases_Bool (same_instance a b))

dec_sum : (A B : Type 0) → A ⊎ (¬ A) → B ⊎ (¬ B) → (A ⊎ B) ⊎ (¬ (A ⊎ B))
dec_sum A B (inl a) q = inl (inl a)
dec_sum A B (inr n) (inl b) = inl (inr b)
dec_sum A B (inr n) (inr m) = inr (⊎_elim n m)

module _ (i : Instance) where
  dec_read : (e : Event) → IsReducerRead i e ⊎ (¬ (IsReducerRead i e))
  dec_read (Reads c v) = inr (λ z. z)
  dec_read (Writes c v) = inr (λ z. z)
  dec_read Syncs = inr (λ z. z)
  dec_read (Ends val gone) = inr (λ z. z)
  dec_read (Passes Begins) = inr (λ z. z)
  dec_read (Passes Resumes) = inr (λ z. z)
  dec_read (Passes (Updates j x)) = inr (λ z. z)
  dec_read (Passes (Creates j)) = dec_instance j i
  dec_read (Passes (Sets j x)) = dec_instance j i
  dec_read (Passes (Values j n)) = dec_instance j i
  dec_read (Passes (Prints x)) = inr (λ z. z)

  dec_some : {W : Type 0} (r : Run W) → HasEventWith (IsReducerRead i) r ⊎ (¬ (HasEventWith (IsReducerRead i) r))
  dec_some stop = inr (λ z. z)
  dec_some (act e r) = dec_sum _ _ (dec_read e) (dec_some r)
  dec_some (child b w u r) = dec_sum _ _ (dec_some u) (dec_some r)

  create_read : (e : Event) → IsCreate i e → IsReducerRead i e
  create_read (Reads c v) h = h
  create_read (Writes c v) h = h
  create_read Syncs h = h
  create_read (Ends val gone) h = h
  create_read (Passes Begins) h = h
  create_read (Passes Resumes) h = h
  create_read (Passes (Creates j)) h = h
  create_read (Passes (Updates j x)) h = h
  create_read (Passes (Sets j x)) h = absurd h
  create_read (Passes (Values j n)) h = absurd h
  create_read (Passes (Prints x)) h = h

  touch_parts : (e : Event) → IsTouch i e → IsReducerRead i e ⊎ IsRetire i e
  touch_parts (Reads c v) h = inl h
  touch_parts (Writes c v) h = inl h
  touch_parts Syncs h = inl h
  touch_parts (Ends val gone) h = inr h
  touch_parts (Passes m) h = inl h

  -- the instances retired in a run were created there
  touch_read : {W : Type 0} (r : Run W) (mine : Type 0) → IsRetiredAtHome i r mine → HasEventWith (IsTouch i) r → HasEventWith (IsReducerRead i) r ⊎ mine
  touch_read stop mine home h = absurd h
  touch_read (act e r) mine home (inl h) = ⊎_elim (λ z. inl (inl z)) (λ z. inr (home.0 z)) (touch_parts e h)
  touch_read (act e r) mine home (inr h) = ⊎_elim (λ z. inl (inr z)) (λ z. ⊎_elim (λ m. inr m) (λ c. inl (inl (create_read e c))) z) (touch_read r _ home.1 h)
  touch_read (child b w u r) mine home (inl h) = ⊎_elim (λ z. inl (inl z)) (λ z. absurd z) (touch_read u ⊥ home.0 h)
  touch_read (child b w u r) mine home (inr h) = ⊎_elim (λ z. inl (inr z)) (λ z. inr z) (touch_read r mine home.1 h)

  -- So before a later sync an instance is retired only with a frame that created it there: a
  -- frame's own end comes after its syncs.
  block_read : {W : Type 0} (r : Run W) (mine : Type 0) → IsRetiredAtHome i r mine → IsClosed r → SyncAhead r → HasInBlockWith (IsTouch i) r → HasInBlockWith (IsReducerRead i) r
  block_read stop mine home closed ahead h = absurd h
  block_read (act (Reads c v) r) mine home closed ahead (inl h) = absurd h
  block_read (act (Reads c v) r) mine home closed ahead (inr h) = inr (h.0, block_read r _ home.1 closed ahead h.1)
  block_read (act (Writes c v) r) mine home closed ahead (inl h) = absurd h
  block_read (act (Writes c v) r) mine home closed ahead (inr h) = inr (h.0, block_read r _ home.1 closed ahead h.1)
  block_read (act Syncs r) mine home closed ahead (inl h) = absurd h
  block_read (act Syncs r) mine home closed ahead (inr h) = absurd (h.0 tt)
  block_read (act (Ends val gone) r) mine home closed ahead h = absurd (rw closed at ahead)
  block_read (act (Passes m) r) mine home closed ahead (inl h) = inl h
  block_read (act (Passes m) r) mine home closed ahead (inr h) = inr (h.0, block_read r _ home.1 closed ahead h.1)
  block_read (child b w u r) mine home closed ahead (inl h) = inl (⊎_elim (λ z. z) (λ z. absurd z) (touch_read u ⊥ home.0 h))
  block_read (child b w u r) mine home closed ahead (inr h) = inr (block_read r mine home.1 closed.2 ahead h)

  module _ {V : Type 0} (M : MonoidStructure V) where
    mark_unit : (m : Granted) → ¬ (IsReducerRead i (Passes m)) → ¬ (IsUpdate i (Passes m)) → mark_view M m i M.unit ≡ M.unit
    mark_unit Begins p q = refl
    mark_unit Resumes p q = refl
    mark_unit (Updates j x) p q = ⊎_elim (λ e. absurd (q (same_instance-eq j i e))) (λ e. cond-false (same_instance j i) _ _ e) (cases_Bool (same_instance j i))
    mark_unit (Creates j) p q = ⊎_elim (λ e. absurd (p (same_instance-eq j i e))) (λ e. cond-false (same_instance j i) _ _ e) (cases_Bool (same_instance j i))
    mark_unit (Sets j x) p q = ⊎_elim (λ e. absurd (p (same_instance-eq j i e))) (λ e. cond-false (same_instance j i) _ _ e) (cases_Bool (same_instance j i))
    mark_unit (Prints x) p q = ⊎_elim (λ e. absurd (q (same_instance-eq Output i e))) (λ e. cond-false (same_instance Output i) _ _ e) (cases_Bool (same_instance Output i))
    mark_unit (Values j n) p q = refl

    on_unit : (e : Event) → ¬ (IsReducerRead i e) → ¬ (IsUpdate i e) → on_view M i e M.unit ≡ M.unit
    on_unit (Reads c n) p q = refl
    on_unit (Writes c n) p q = refl
    on_unit Syncs p q = refl
    on_unit (Ends val gone) p q = ⊎_elim (λ e. cond-true (has_instance gone i) _ _ e) (λ e. cond-false (has_instance gone i) _ _ e) (cases_Bool (has_instance gone i))
    on_unit (Passes m) p q = mark_unit m p q

    module _ {W : Type 0} where
      -- before its creation an instance has the unit
      unseen : (r : Run W) (seen : Type 0) (x : V) → IsCreatedFirst i r seen → ¬ seen → ¬ (HasEventWith (IsReducerRead i) r) → x ≡ M.unit → view_after M i r x ≡ M.unit
      unseen stop seen x first new none q = q
      unseen (act e r) seen x first new none q =
          unseen r _ (on_view M i e x) first.1 (⊎_elim new (λ h. none (inl h))) (λ h. none (inr h)) (ap (on_view M i e) q ∙ on_unit e (λ h. none (inl h)) (λ h. new (first.0 h)))
      unseen (child b w u r) seen x first new none q =
          unseen r _ (view_after M i u x) first.1 (⊎_elim new (λ h. none (inl h))) (λ h. none (inr h)) (unseen u seen x first.0 new (λ h. none (inl h)) q)

      rule_apart : (b : Invocation) (seen mine : Type 0) (v : V) (r : Run W) → IsRetiredAtHome i r mine → IsClosed r → ComesAfter b r → ReadRule i b seen r → seen ⊎ (v ≡ M.unit) → ViewApart M i b v r
      rule_apart Call seen mine v r home closed ahead rule h = tt
      rule_apart Spawn seen mine v r home closed ahead rule (inl s) = inr (λ z. rule s (block_read r mine home closed ahead z))
      rule_apart Spawn seen mine v r home closed ahead rule (inr q) = inl q

      pub apart_free : (r : Run W) (seen mine : Type 0) (x : V) → IsRetiredAtHome i r mine → IsClosed r → IsCreatedFirst i r seen → IsReadApart i r seen → seen ⊎ (¬ seen) → (¬ seen → x ≡ M.unit) → ViewFree M i r x
      apart_free stop seen mine x home closed first apart dec h = tt
      apart_free (act e r) seen mine x home closed first apart dec h =
          apart_free r _ _ (on_view M i e x) home.1 (closed_act e r closed) first.1 apart (dec_sum _ _ dec (dec_read e))
          (λ n. ap (on_view M i e) (h (λ s. n (inl s))) ∙ on_unit e (λ z. n (inr z)) (λ z. n (inl (first.0 z))))
      apart_free (child b w u r) seen mine x home closed first apart dec h =
          let dec' = dec_sum _ _ dec (dec_some u) in
          let new : ¬ (seen ⊎ HasEventWith (IsReducerRead i) u) → view_after M i u x ≡ M.unit =
          λ n. unseen u seen x first.0 (λ s. n (inl s)) (λ z. n (inr z)) (h (λ s. n (inl s))) in (
            rule_apart b _ mine (view_after M i u x) r home.1 closed.2 closed.0 apart.0 (⊎_elim (λ s. inl s) (λ n. inr (new n)) dec'),
            apart_free u seen ⊥ x home.0 closed.1 first.0 apart.1 dec h,
            apart_free r _ mine (view_after M i u x) home.1 closed.2 first.1 apart.2 dec' new,
          )

module _ {W : Type 0} (i : Instance) where
  -- the same over the tree
  abbrev ReadTree : Layout W → Type 0 → Type 0
  ReadTree (Strand s) seen = Unit {0}
  ReadTree (Series a b) seen = ReadTree a seen × ReadTree b (seen ⊎ Among (IsReducerRead i) (events_of a))
  ReadTree (Beside a b) seen =
      (seen ⊎ Among (IsReducerRead i) (events_of a) → Among (IsReducerRead i) (events_of b) → ⊥) × ReadTree a seen × ReadTree b (seen ⊎ Among (IsReducerRead i) (events_of a))

  abbrev ReadLater : Option (Layout W) → Type 0 → Type 0
  ReadLater None seen = Unit {0}
  ReadLater (Some b) seen = ReadTree b seen

  tree_weaken : (t : Layout W) (s s' : Type 0) → (s' → s) → ReadTree t s → ReadTree t s'
  tree_weaken (Strand e) s s' f h = tt
  tree_weaken (Series a b) s s' f h = (tree_weaken a s s' f h.0, tree_weaken b _ _ (⊎_elim (λ x. inl (f x)) (λ x. inr x)) h.1)
  tree_weaken (Beside a b) s s' f h =
      ((λ x. h.0 (⊎_elim (λ y. inl (f y)) (λ y. inr y) x)), tree_weaken a s s' f h.1, tree_weaken b _ _ (⊎_elim (λ x. inl (f x)) (λ x. inr x)) h.2)

  later_weaken : (o : Option (Layout W)) (s s' : Type 0) → (s' → s) → ReadLater o s → ReadLater o s'
  later_weaken None s s' f h = tt
  later_weaken (Some t) s s' f h = tree_weaken t s s' f h

  rule_weaken : (b : Invocation) (r : Run W) (s s' : Type 0) → (s' → s) → ReadRule i b s r → ReadRule i b s' r
  rule_weaken Call r s s' f h = tt
  rule_weaken Spawn r s s' f h = λ x. h (f x)

  apart_weaken : (r : Run W) (s s' : Type 0) → (s' → s) → IsReadApart i r s → IsReadApart i r s'
  apart_weaken stop s s' f h = tt
  apart_weaken (act e r) s s' f h = apart_weaken r _ _ (⊎_elim (λ x. inl (f x)) (λ x. inr x)) h
  apart_weaken (child b w u r) s s' f h =
      (rule_weaken b r _ _ (⊎_elim (λ x. inl (f x)) (λ x. inr x)) h.0, apart_weaken u s s' f h.1, apart_weaken r _ _ (⊎_elim (λ x. inl (f x)) (λ x. inr x)) h.2)

  read_split : (a : Layout W) (o : Option (Layout W)) (s : Type 0) → ReadTree (in_order a o) s → ReadTree a s × ReadLater o (s ⊎ Among (IsReducerRead i) (events_of a))
  read_split a None s h = (h, tt)
  read_split a (Some b) s h = h

  -- an event of the strand goes over to what was read
  add_event : (s : List (Deed W)) (e : Event) (seen : Type 0) → (seen ⊎ Among (IsReducerRead i) s) ⊎ IsReducerRead i e → seen ⊎ Among (IsReducerRead i) (s ++ Does e ∷ [])
  add_event s e seen (inl (inl x)) = inl x
  add_event s e seen (inl (inr x)) = inr (among_left (IsReducerRead i) s _ x)
  add_event s e seen (inr x) = inr (among_right (IsReducerRead i) s _ (inl x))

  tree_some : (u : Run W) → HasEventWith (IsReducerRead i) u → Among (IsReducerRead i) (events_of (layout u))
  tree_some u h = subst (Among (IsReducerRead i)) (sym (tree_events u)) (some_trace (IsReducerRead i) u h)

  strand_first : (s : List (Deed W)) (d : Deed W) (seen : Type 0) → seen ⊎ Among (IsReducerRead i) s → seen ⊎ Among (IsReducerRead i) (s ++ d ∷ [])
  strand_first s d seen (inl x) = inl x
  strand_first s d seen (inr x) = inr (among_left (IsReducerRead i) s _ x)

  gather : (b : Invocation) (s : List (Deed W)) (d : Deed W) (x y : Layout W) (seen : Type 0) → ((seen ⊎ Among (IsReducerRead i) (s ++ d ∷ [])) ⊎ Among (IsReducerRead i) (events_of x)) ⊎ Among (IsReducerRead i) (events_of y) → seen ⊎ Among (IsReducerRead i) ((s ++ d ∷ []) ++ events_of (child_layout b x y))
  gather b s d x y seen (inl (inl (inl h))) = inl h
  gather b s d x y seen (inl (inl (inr h))) = inr (among_left (IsReducerRead i) (s ++ d ∷ []) _ h)
  gather b s d x y seen (inl (inr h)) = inr (among_right (IsReducerRead i) (s ++ d ∷ []) _ (rw (child_events b x y) (among_left (IsReducerRead i) (events_of x) _ h)))
  gather b s d x y seen (inr h) = inr (among_right (IsReducerRead i) (s ++ d ∷ []) _ (rw (child_events b x y) (among_right (IsReducerRead i) (events_of x) _ h)))

  before_rest : (u : Run W) (s : List (Deed W)) (d : Deed W) (seen : Type 0) → (seen ⊎ Among (IsReducerRead i) s) ⊎ HasEventWith (IsReducerRead i) u → (seen ⊎ Among (IsReducerRead i) (s ++ d ∷ [])) ⊎ Among (IsReducerRead i) (events_of (layout u))
  before_rest u s d seen (inl x) = inl (strand_first s d seen x)
  before_rest u s d seen (inr z) = inr (tree_some u z)

  pub tree_apart : (r : Run W) (s : List (Deed W)) (seen : Type 0) → ReadTree (layouts r s).0 seen → ReadLater (layouts r s).1 (seen ⊎ Among (IsReducerRead i) (events_of (layouts r s).0)) → IsReadApart i r (seen ⊎ Among (IsReducerRead i) s)
  tree_apart stop s seen a b = tt
  tree_apart (act (Reads c v) r) s seen a b = apart_weaken r _ _ (add_event s (Reads c v) seen) (tree_apart r _ seen a b)
  tree_apart (act (Writes c v) r) s seen a b = apart_weaken r _ _ (add_event s (Writes c v) seen) (tree_apart r _ seen a b)
  tree_apart (act Syncs r) s seen a b =
      let p = read_split (layouts r (Does Syncs ∷ [])).0 (layouts r (Does Syncs ∷ [])).1 _ b in
      apart_weaken r _ _ (⊎_elim (λ x. inl x) (λ x. absurd x)) (tree_apart r (Does Syncs ∷ []) _ p.0 p.1)
  tree_apart (act (Ends val gone) r) s seen a b = apart_weaken r _ _ (add_event s (Ends val gone) seen) (tree_apart r _ seen a b)
  tree_apart (act (Passes m) r) s seen a b = apart_weaken r _ _ (add_event s (Passes m) seen) (tree_apart r _ seen a b)
  tree_apart (child Call w u r) s seen a b =
      let d = Invokes Call w in
      let p = read_split (layouts u []).0 (layouts u []).1 _ a.1.0 in (
        tt,
        apart_weaken u _ _ (λ x. inl (strand_first s d seen x)) (tree_apart u [] _ p.0 p.1),
        apart_weaken r _ _ (λ x. inl (before_rest u s d seen x)) (tree_apart r [] _ a.1.1 (later_weaken (layouts r []).1 _ _ (gather Call s d (layout u) (layouts r []).0 seen) b)),
      )
  tree_apart (child Spawn w u r) s seen a b =
      let d = Invokes Spawn w in
      let p = read_split (layouts u []).0 (layouts u []).1 _ a.1.1 in (
        (λ x h. a.1.0 (before_rest u s d seen x) (some_block (IsReducerRead i) (λ z. z) r [] h)),
        apart_weaken u _ _ (λ x. inl (strand_first s d seen x)) (tree_apart u [] _ p.0 p.1),
        apart_weaken r _ _ (λ x. inl (before_rest u s d seen x)) (tree_apart r [] _ a.1.2 (later_weaken (layouts r []).1 _ _ (gather Spawn s d (layout u) (layouts r []).0 seen) b)),
      )

get_some : {W : Type 0} (xs : List (Deed W)) (p : ℕ) → p < length xs → (d : Deed W) × (slice_get xs p ≡ Some d)
get_some [] p lt = absurd (omega arith)
get_some (d ∷ xs) zero lt = (d, refl)
get_some (d ∷ xs) (suc p) lt = get_some xs p (omega arith)

-- positions: a tree from position o on in a whole whose events and pairs in parallel are these
module _ {W : Type 0} (i : Instance) (get : ℕ → Option (Deed W)) (par : ℕ → ℕ → Bool) (self : (p : ℕ) → par p p ≡ false) (swap : (p q : ℕ) → par p q ≡ par q p) where
  abbrev ReadAt : ℕ → Type 0
  ReadAt p = (e : Event) × (get p ≡ Some (Does e)) × IsReducerRead i e

  -- a read outside, in parallel with all of the tree or with none of it
  abbrev Outside : ℕ → ℕ → Type 0
  Outside o n = (c : ℕ) × (f : Bool) × ReadAt c × ((p : ℕ) → p < n → par c (o + p) ≡ f)

  abbrev Placed : Layout W → ℕ → Type 0
  Placed t o =
      ((p q : ℕ) → p < q → q < size t → par (o + p) (o + q) ≡ are_beside t p q) × ((p : ℕ) → p < size t → get (o + p) ≡ slice_get (events_of t) p)

  module _ (same : (p q : ℕ) → ReadAt p → ReadAt q → (z : ℕ) (d : Deed W) → get z ≡ Some d → par p z ≡ par q z) where
    read_place : (t : Layout W) (o : ℕ) → Placed t o → Among (IsReducerRead i) (events_of t) → (p : ℕ) × (p < size t) × ReadAt (o + p)
    read_place t o placed h =
        let (p, e, lt, at, r) = among_at (IsReducerRead i) (events_of t) h in
        let within : p < size t = omega (arith, tree_size t) in
        (p, within, (e, placed.1 p within ∙ at, r))

    placed_left : (t a b : Layout W) (o : ℕ) → events_of t ≡ events_of a ++ events_of b → size t ≡ size a + size b → ((p q : ℕ) → q < size a → are_beside t p q ≡ are_beside a p q) → Placed t o → Placed a o
    placed_left t a b o e n f placed = (
      (λ p q lt within. placed.0 p q lt (omega arith) ∙ f p q within),
      λ p within. placed.1 p (omega arith) ∙ ap (λ z. slice_get z p) e ∙ get_left (events_of a) (events_of b) p (omega (arith, tree_size a)),
    )

    placed_right : (t a b : Layout W) (o : ℕ) → events_of t ≡ events_of a ++ events_of b → size t ≡ size a + size b → ((p q : ℕ) → are_beside t (size a + p) (size a + q) ≡ are_beside b p q) → Placed t o → Placed b (o + size a)
    placed_right t a b o e n f placed = (
      (λ p q lt within. ap₂ par (add_assoc o (size a) p) (add_assoc o (size a) q) ∙ placed.0 (size a + p) (size a + q) (omega arith) (omega arith) ∙ f p q),
      λ p within. ap get (add_assoc o (size a) p) ∙ placed.1 (size a + p) (omega arith) ∙ get_after t a b p e,
    )

    out_right : (t a b : Layout W) (o : ℕ) (f0 : Bool) (seen : Type 0) → size t ≡ size a + size b → ((p q : ℕ) → p < size a → are_beside t p (size a + q) ≡ f0) → Placed t o → Placed a o → (seen → Outside o (size t)) → seen ⊎ Among (IsReducerRead i) (events_of a) → Outside (o + size a) (size b)
    out_right t a b o f0 seen n f placed left out (inl s) =
        let (c, g, r, far) = out s in
        (c, g, r, λ p within. ap (par c) (add_assoc o (size a) p) ∙ far (size a + p) (omega arith))
    out_right t a b o f0 seen n f placed left out (inr h) =
        let (p, lt, r) = read_place a o left h in
        (o + p, f0, r, λ q within. ap (par (o + p)) (add_assoc o (size a) q) ∙ placed.0 p (size a + q) (omega arith) (omega arith) ∙ f p q lt)

    out_left : (t a b : Layout W) (o : ℕ) (seen : Type 0) → size t ≡ size a + size b → (seen → Outside o (size t)) → seen → Outside o (size a)
    out_left t a b o seen n out s = let (c, g, r, far) = out s in (c, g, r, λ p within. far p (omega arith))

    -- two reads whose peers differ at z
    differ : (p q z : ℕ) (d : Deed W) → get z ≡ Some d → ReadAt p → ReadAt q → par p z ≡ false → par q z ≡ true → ⊥
    differ p q z d at a b f t = let h : true ≡ false = sym t ∙ sym (same p q a b z d at) ∙ f in cc

    beside_apart : (a b : Layout W) (o : ℕ) (seen : Type 0) → 0 < size a → ((p q : ℕ) → p < size a → are_beside (Beside a b) p (size a + q) ≡ true) → Placed (Beside a b) o → Placed a o → Placed b (o + size a) → (seen → Outside o (size (Beside a b))) → seen ⊎ Among (IsReducerRead i) (events_of a) → Among (IsReducerRead i) (events_of b) → ⊥
    beside_apart a b o seen some f placed left right out (inl s) h =
        let (q, lt, r) = read_place b (o + size a) right h in
        let v = (o + size a) + q in
        let (c, g, rc, far) = out s in
        let there : par c v ≡ g = ap (par c) (add_assoc o (size a) q) ∙ far (size a + q) (omega arith) in
        let first : par c (o + 0) ≡ g = far 0 (omega arith) in
        let crossing : par v (o + 0) ≡ true = swap v (o + 0) ∙ ap (par (o + 0)) (add_assoc o (size a) q) ∙ placed.0 0 (size a + q) (omega arith) (omega arith) ∙ f 0 q some in
        ⊎_elim
        (λ e. differ c v c (Does rc.0) rc.1 rc r (self c) (swap v c ∙ there ∙ e))
        (λ e. let m = get_some (events_of a) 0 (omega (arith, tree_size a)) in differ c v (o + 0) m.0 (left.1 0 some ∙ m.1) rc r (first ∙ e) crossing)
        (cases_Bool g)
    beside_apart a b o seen some f placed left right out (inr h') h =
        let (p, lt', rc) = read_place a o left h' in
        let (q, lt, r) = read_place b (o + size a) right h in
        let v = (o + size a) + q in
        let there : par (o + p) v ≡ true = ap (par (o + p)) (add_assoc o (size a) q) ∙ placed.0 p (size a + q) (omega arith) (omega arith) ∙ f p q lt' in
        differ (o + p) v (o + p) (Does rc.0) rc.1 rc r (self (o + p)) (swap v (o + p) ∙ there)

    across : (n p q : ℕ) (x y f : Bool) → p < n → cond (nat_lt (n + q) n) x (cond (nat_lt p n) f y) ≡ f
    across n p q x y f lt = rw (le-ltb (n + q) n (omega arith), lt-ltb p n lt) refl

    pub positions_tree : (t : Layout W) (o : ℕ) (seen : Type 0) → IsInhabited t → Placed t o → (seen → Outside o (size t)) → ReadTree i t seen
    positions_tree (Strand s) o seen kids placed out = tt
    positions_tree (Series a b) o seen kids placed out =
        let left = placed_left (Series a b) a b o refl refl (λ p q within. cond-true (nat_lt q (size a)) _ _ (lt-ltb q (size a) within)) placed in
        let right = placed_right (Series a b) a b o refl refl (λ p q. par_right (size a) p q b _ _) placed in (
          positions_tree a o seen kids.0 left (out_left (Series a b) a b o seen refl out),
          positions_tree b (o + size a) _ kids.1 right (out_right (Series a b) a b o false seen refl (λ p q lt. across (size a) p q _ _ false lt) placed left out),
        )
    positions_tree (Beside a b) o seen kids placed out =
        let left = placed_left (Beside a b) a b o refl refl (λ p q within. cond-true (nat_lt q (size a)) _ _ (lt-ltb q (size a) within)) placed in
        let right = placed_right (Beside a b) a b o refl refl (λ p q. par_right (size a) p q b _ _) placed in
        let f : (p q : ℕ) → p < size a → are_beside (Beside a b) p (size a + q) ≡ true = λ p q lt. across (size a) p q _ _ true lt in (
          beside_apart a b o seen kids.0 f placed left right out,
          positions_tree a o seen kids.1 left (out_left (Beside a b) a b o seen refl out),
          positions_tree b (o + size a) _ kids.2 right (out_right (Beside a b) a b o true seen refl f placed left out),
        )

module _ {W : Type 0} where
  peers_self : (t : Layout W) (p : ℕ) → peer_at t p p ≡ false
  peers_self t p = rw (le-ltb p p (le_refl p)) refl

  peers_less : (t : Layout W) (p q : ℕ) → p < q → peer_at t p q ≡ are_beside t p q
  peers_less t p q lt = cond-true (nat_lt p q) _ _ (lt-ltb p q lt)

  peers_more : (t : Layout W) (p q : ℕ) → p < q → peer_at t q p ≡ are_beside t p q
  peers_more t p q lt = cond-false (nat_lt q p) _ _ (le-ltb q p (omega arith)) ∙ cond-true (nat_lt p q) _ _ (lt-ltb p q lt)

  peers_swap : (t : Layout W) (p q : ℕ) → peer_at t p q ≡ peer_at t q p
  peers_swap t p q =
      ⊎_elim
      (λ e. ap (peer_at t p) (sym e) ∙ ap (λ z. peer_at t z p) e)
      (⊎_elim (λ lt. peers_less t p q lt ∙ sym (peers_more t p q lt)) (λ lt. peers_more t q p lt ∙ sym (peers_less t q p lt)))
      (cases_order p q)

  -- reducer-reads with equal peers: a stolen continuation finds the view that it reads, or reads
  -- none
  created_view : {V : Type 0} (M : MonoidStructure V) (i : Instance) (t : Run W) → ReadsHavePeers i t → IsInhabited (layout t) → IsClosed t → IsRetiredAtHome i t ⊥ → IsCreatedFirst i t ⊥ → ViewFree M i t M.unit
  created_view M i t free kids closed home first =
      let placed0 : (p q : ℕ) → p < q → q < size (layout t) → peer_at (layout t) (0 + p) (0 + q) ≡ are_beside (layout t) p q =
      λ p q lt within. ap₂ (peer_at (layout t)) (zero-add p) (zero-add q) ∙ peers_less (layout t) p q lt in
      let placed1 : (p : ℕ) → p < size (layout t) → slice_get (trace t) (0 + p) ≡ slice_get (events_of (layout t)) p =
      λ p within. ap₂ slice_get (sym (tree_events t)) (zero-add p) in
      let all = positions_tree i (slice_get (trace t)) (peer_at (layout t)) (peers_self (layout t)) (peers_swap (layout t)) (λ p q a b z d at. free p q a.0 b.0 a.1 b.1 a.2 b.2 z d at) (layout t) 0 ⊥ kids (placed0, placed1) (λ s. absurd s) in
      let p = read_split i (layouts t []).0 (layouts t []).1 ⊥ all in
      let apart = apart_weaken i t _ ⊥ (λ s. absurd s) (tree_apart i t [] ⊥ p.0 p.1) in
      apart_free i M t ⊥ ⊥ M.unit home closed first apart (inr (λ s. s)) (λ s. refl)

  pub no_view_race : {V : Type 0} (M : MonoidStructure V) → IsLawful M IsValue → (i : Instance) (t : Run W) → ReadsHavePeers i t → IsInhabited (layout t) → IsClosed t → IsRetiredAtHome i t ⊥ → IsCreated i t → ViewFree M i t M.unit
  no_view_race M law i t free kids closed home (inl first) = created_view M i t free kids closed home first
  no_view_race M law i t free kids closed home (inr never) = quiet_free M law i t M.unit (λ h. ⊎_elim never (λ z. z) (touch_read i t ⊥ home h))
