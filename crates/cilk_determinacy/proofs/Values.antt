-- The views of a piece, compared with the serial run's.
use Rattle.std.proofs.Common.{◌≡◌, ℕ, suc, Bool, true, false, List, [], ◌∷◌, refl, sym, ap, ◌∙◌, subst, ◌⊎◌, inl, inr, ⊎_elim, ℤ}
use Rattle.std.proofs.lemmas.Bool.{cases_Bool, cond-true, cond-false}
use Rattle.cilk_types.specs.declared.invocation.Invocation.{Invocation}
use Rattle.cilk_types.specs.declared.invocation.Invocation.TheVariants.{Call, Spawn}
use Rattle.cilk_determinacy.specs.Runs.{Name, Cell, same_instance, Output, has_instance, Event, Reads, Writes, Syncs, Ends, Passes, Granted, Begins, Resumes, Creates, Updates, Sets, Values, Prints, Deed, Does, Invokes, Run, stop, act, child, Instance}
use Rattle.cilk_monoid.specs.Laws.{MonoidStructure, IsLawful}
use Rattle.cilk_determinacy.specs.Monoids.{IsValue, mark_view, on_view, number_of}
use Rattle.cilk_determinacy.specs.Views.{view_after, IsSerialViews, HasEventWith}
use Rattle.cilk_determinacy.proofs.Blocks.{IsTouch, ViewApart, ViewFree, IsResumed, IsSync, HasInBlockWith}
use Rattle.cilk_determinacy.specs.Machine.{Frames, deeds_at, HasSync}
use Rattle.cilk_determinacy.specs.Serial.{IsClosed, SyncAhead}
use Rattle.cilk_determinacy.specs.Cuts.{below, IsFull, IsPast, IsCut, WhenResumed, block_after, own_after, Lies}
use Rattle.cilk_determinacy.proofs.Basics.{same_instance-eq}
use Rattle.cilk_determinacy.proofs.Front.{Front, here_act, here_child, past_act, past_child, inside, grown}
use Rattle.cilk_determinacy.proofs.Find.{closed_act}
use Rattle.cilk_determinacy.proofs.RunPieces.{is_resume, resumed_parts, resumed_rest}

-- the front, with the serial view of an instance in place of a cell's value
pub data FrontV (W V : Type 0) (M : MonoidStructure V) (i : Instance) : Run W → ℕ → List (Deed W) → (ℕ → Frames W) → Name → Deed W → V → V → Type 0 where
  at_act : {e : Event} {r : Run W} {k : ℕ} {kids : ℕ → Frames W} {x : V} → FrontV W V M i (act e r) k [] kids [] (Does e) x x
  at_child : {b : Invocation} {w : W} {u r : Run W} {k : ℕ} {kids : ℕ → Frames W} {x : V} → FrontV W V M i (child b w u r) k [] kids [] (Invokes b w) x x
  after_act : {e : Event} {r : Run W} {k : ℕ} {d : Deed W} {ds : List (Deed W)} {kids : ℕ → Frames W} {n : Name} {a : Deed W} {x y : V} → FrontV W V M i r k ds kids n a (on_view M i e x) y → FrontV W V M i (act e r) k (d ∷ ds) kids n a x y
  after_child : {b : Invocation} {w : W} {u r : Run W} {k : ℕ} {d : Deed W} {ds : List (Deed W)} {kids : ℕ → Frames W} {n : Name} {a : Deed W} {x y : V} → (IsPast b (grown n ds a) → IsFull u 1 (deeds_at (kids k [])) (below (kids k))) → FrontV W V M i r (suc k) ds kids n a (view_after M i u x) y → FrontV W V M i (child b w u r) k (d ∷ ds) kids n a x y
  within : {b : Invocation} {w : W} {u r : Run W} {k : ℕ} {d : Deed W} {ds : List (Deed W)} {kids : ℕ → Frames W} {m : Name} {a : Deed W} {x y : V} → FrontV W V M i u 1 (deeds_at (kids k [])) (below (kids k)) m a x y → FrontV W V M i (child b w u r) k (d ∷ ds) kids (k ∷ m) a x y

pub front_view : {W V : Type 0} (M : MonoidStructure V) (i : Instance) {c : Cell} {r : Run W} {k : ℕ} {ds : List (Deed W)} {kids : ℕ → Frames W} {n : Name} {a : Deed W} {x y : ℤ} → Front W c r k ds kids n a x y → (z : V) → (t : V) × FrontV W V M i r k ds kids n a z t
front_view M i here_act z = (z, at_act)
front_view M i here_child z = (z, at_child)
front_view M i (past_act {e = e} f) z = let g = front_view M i f (on_view M i e z) in (g.0, after_act g.1)
front_view M i (past_child {u = u} p f) z = let g = front_view M i f (view_after M i u z) in (g.0, after_child p g.1)
front_view M i (inside f) z = let g = front_view M i f z in (g.0, within g.1)

module _ {W V : Type 0} {M : MonoidStructure V} {i : Instance} where
  view_event : (P : Event → Type 0) {r : Run W} {k : ℕ} {ds : List (Deed W)} {kids : ℕ → Frames W} {n : Name} {e : Event} {x y : V} → FrontV W V M i r k ds kids n (Does e) x y → P e → HasEventWith P r
  view_event P at_act h = inl h
  view_event P (after_act f) h = inr (view_event P f h)
  view_event P (after_child p f) h = inr (view_event P f h)
  view_event P (within f) h = inl (view_event P f h)

  first_resumes : {r : Run W} {k : ℕ} {kids : ℕ → Frames W} {n : Name} {a : Deed W} {x y : V} → FrontV W V M i r k [] kids n a x y → IsResumed true r → a ≡ Does (Passes Resumes)
  first_resumes (at_act {e = e}) h = ap Does (is_resume e h.0)
  first_resumes at_child h = absurd h

module _ {W V : Type 0} (M : Instance → MonoidStructure V) {i : Instance} where
  -- a value at the front answers the number of the serial view there
  pub view_right : {r : Run W} {k : ℕ} {ds : List (Deed W)} {kids : ℕ → Frames W} {n : Name} {e : Event} {x y : V} → FrontV W V (M i) i r k ds kids n (Does e) x y → (v : ℤ) → e ≡ Passes (Values i v) → (views : Instance → V) → views i ≡ x → IsSerialViews M r views → v ≡ number_of (M i) y
  view_right at_act v is views q s = (rw is at s.0) ∙ ap (number_of (M i)) q
  view_right (after_act {e = a} f) v is views q s = view_right f v is (λ j. on_view (M j) j a (views j)) (ap (on_view (M i) i a) q) s.1
  view_right (after_child {u = u} p f) v is views q s = view_right f v is (λ j. view_after (M j) j u (views j)) (ap (view_after (M i) i u) q) s.1
  view_right (within f) v is views q s = view_right f v is views q s.0

-- a frame's own view at the front
abbrev pub view_of : {V : Type 0} → V → (Name → V) → Name → V
view_of root pcs [] = root
view_of root pcs (j ∷ m) = pcs (j ∷ m)

pub view_of_inner : {V : Type 0} (pcs : Name → V) (k : ℕ) (m : Name) → view_of (pcs (k ∷ [])) (λ n. pcs (k ∷ n)) m ≡ pcs (k ∷ m)
view_of_inner pcs k [] = refl
view_of_inner pcs k (j ∷ m) = refl

module _ {V : Type 0} (M : MonoidStructure V) (law : IsLawful M IsValue) (i : Instance) where
  -- an event that doesn't read the reducer multiplies from the right
  mark_quiet : (m : Granted) (a v : V) → ¬ (IsTouch i (Passes m)) → mark_view M m i (M.combine a v) ≡ M.combine a (mark_view M m i v)
  mark_quiet Begins a v never = refl
  mark_quiet Resumes a v never = refl
  mark_quiet (Updates j x) a v never =
      ⊎_elim
      (λ e. cond-true (same_instance j i) _ _ e ∙ law.associative a v (M.single x) tt tt tt ∙ ap (M.combine a) (sym (cond-true (same_instance j i) (M.combine v (M.single x)) v e)))
      (λ e. cond-false (same_instance j i) _ _ e ∙ ap (M.combine a) (sym (cond-false (same_instance j i) (M.combine v (M.single x)) v e)))
      (cases_Bool (same_instance j i))
  mark_quiet (Creates j) a v never =
      ⊎_elim
      (λ e. absurd (never (same_instance-eq j i e)))
      (λ e. cond-false (same_instance j i) _ _ e ∙ ap (M.combine a) (sym (cond-false (same_instance j i) M.unit v e)))
      (cases_Bool (same_instance j i))
  mark_quiet (Sets j x) a v never =
      ⊎_elim
      (λ e. absurd (never (same_instance-eq j i e)))
      (λ e. cond-false (same_instance j i) _ _ e ∙ ap (M.combine a) (sym (cond-false (same_instance j i) (M.single x) v e)))
      (cases_Bool (same_instance j i))
  mark_quiet (Prints x) a v never =
      ⊎_elim
      (λ e. cond-true (same_instance Output i) _ _ e ∙ law.associative a v (M.single x) tt tt tt ∙ ap (M.combine a) (sym (cond-true (same_instance Output i) (M.combine v (M.single x)) v e)))
      (λ e. cond-false (same_instance Output i) _ _ e ∙ ap (M.combine a) (sym (cond-false (same_instance Output i) (M.combine v (M.single x)) v e)))
      (cases_Bool (same_instance Output i))
  mark_quiet (Values j n) a v never = refl

  on_quiet : (e : Event) (a v : V) → ¬ (IsTouch i e) → on_view M i e (M.combine a v) ≡ M.combine a (on_view M i e v)
  on_quiet (Reads c n) a v never = refl
  on_quiet (Writes c n) a v never = refl
  on_quiet Syncs a v never = refl
  on_quiet (Ends val gone) a v never =
      ⊎_elim
      (λ e. absurd (never e))
      (λ e. cond-false (has_instance gone i) _ _ e ∙ ap (M.combine a) (sym (cond-false (has_instance gone i) M.unit v e)))
      (cases_Bool (has_instance gone i))
  on_quiet (Passes m) a v never = mark_quiet m a v never

  module _ {W : Type 0} where
    view_quiet : (r : Run W) (a v : V) → ¬ (HasEventWith (IsTouch i) r) → view_after M i r (M.combine a v) ≡ M.combine a (view_after M i r v)
    view_quiet stop a v never = refl
    view_quiet (act e r) a v never = ap (view_after M i r) (on_quiet e a v (λ h. never (inl h))) ∙ view_quiet r a (on_view M i e v) (λ h. never (inr h))
    view_quiet (child b w u r) a v never = ap (view_after M i r) (view_quiet u a v (λ h. never (inl h))) ∙ view_quiet r a (view_after M i u v) (λ h. never (inr h))

    block_some : (P : Event → Type 0) (r : Run W) → HasInBlockWith P r → HasEventWith P r
    block_some P stop h = h
    block_some P (act e r) (inl h) = inl h
    block_some P (act e r) (inr h) = inr (block_some P r h.1)
    block_some P (child b w u r) (inl h) = inl h
    block_some P (child b w u r) (inr h) = inr (block_some P r h)

    -- where the reducer isn't read a thief may begin anywhere
    quiet_apart : (b : Invocation) (v : V) (r : Run W) → ¬ (HasEventWith (IsTouch i) r) → ViewApart M i b v r
    quiet_apart Call v r never = tt
    quiet_apart Spawn v r never = inr (λ h. never (block_some (IsTouch i) r h))

    pub quiet_free : (r : Run W) (x : V) → ¬ (HasEventWith (IsTouch i) r) → ViewFree M i r x
    quiet_free stop x never = tt
    quiet_free (act e r) x never = quiet_free r (on_view M i e x) (λ h. never (inr h))
    quiet_free (child b w u r) x never = (quiet_apart b _ r (λ h. never (inr h)), quiet_free u x (λ h. never (inl h)), quiet_free r _ (λ h. never (inr h)))

    -- A frame's own view p and its block's product acc, against the serial view x. Either the own
    -- view is the serial one and the block is empty, or the two together make it, and the reducer
    -- isn't read until a later sync.
    abbrev pub Even : Run W → V → V → V → Type 0
    Even r acc p x = ((p ≡ x) × (acc ≡ M.unit)) ⊎ ((M.combine acc p ≡ x) × (¬ (HasInBlockWith (IsTouch i) r)) × SyncAhead r)

    pub even_act : (e : Event) (r : Run W) (acc p x : V) → Even (act e r) acc p x → Even r (block_after M e acc) (own_after M i e acc p) (on_view M i e x)
    even_act (Reads c n) r acc p x (inl h) = inl h
    even_act (Reads c n) r acc p x (inr h) = inr (h.0, λ z. h.1 (inr ((λ t. t), z)), h.2)
    even_act (Writes c n) r acc p x (inl h) = inl h
    even_act (Writes c n) r acc p x (inr h) = inr (h.0, λ z. h.1 (inr ((λ t. t), z)), h.2)
    even_act Syncs r acc p x (inl h) = inl (rw h.1 (law.left_neutral p tt ∙ h.0), refl)
    even_act Syncs r acc p x (inr h) = inl (h.0, refl)
    even_act (Ends val gone) r acc p x (inl h) = inl (ap (on_view M i (Ends val gone)) h.0, h.1)
    even_act (Ends val gone) r acc p x (inr h) =
        inr (sym (on_quiet (Ends val gone) acc p (λ z. h.1 (inl z))) ∙ ap (on_view M i (Ends val gone)) h.0, λ z. h.1 (inr ((λ t. t), z)), h.2)
    even_act (Passes m) r acc p x (inl h) = inl (ap (mark_view M m i) h.0, h.1)
    even_act (Passes m) r acc p x (inr h) =
        inr (sym (mark_quiet m acc p (λ z. h.1 (inl z))) ∙ ap (mark_view M m i) h.0, λ z. h.1 (inr ((λ t. t), z)), h.2)

    pub even_child : (b : Invocation) (w : W) (u r : Run W) (acc p x : V) → Even (child b w u r) acc p x → Even r acc (view_after M i u p) (view_after M i u x)
    even_child b w u r acc p x (inl h) = inl (ap (view_after M i u) h.0, h.1)
    even_child b w u r acc p x (inr h) =
        inr (sym (view_quiet u acc p (λ z. h.1 (inl z))) ∙ ap (view_after M i u) h.0, λ z. h.1 (inr z), h.2)

    pub even_stolen : (w : W) (u r : Run W) (acc p x : V) → ViewApart M i Spawn (view_after M i u x) r → SyncAhead r → Even (child Spawn w u r) acc p x → Even r (M.combine acc (view_after M i u p)) M.unit (view_after M i u x)
    even_stolen w u r acc p x (inl z) ahead (inl h) = inl (sym z, rw (h.1, h.0, z) (law.left_neutral M.unit tt))
    even_stolen w u r acc p x (inr z) ahead (inl h) = inr (law.right_neutral _ tt ∙ rw (h.1, h.0) (law.left_neutral (view_after M i u x) tt), z, ahead)
    even_stolen w u r acc p x apart ahead (inr h) =
        inr (law.right_neutral _ tt ∙ sym (view_quiet u acc p (λ z. h.1 (inl z))) ∙ ap (view_after M i u) h.0, λ z. h.1 (inr z), ahead)

    pub free_own : (b : Invocation) (w : W) (u r : Run W) (acc p x : V) → Even (child b w u r) acc p x → ViewFree M i u x → ViewFree M i u p
    free_own b w u r acc p x (inl h) free = rw h.0 free
    free_own b w u r acc p x (inr h) free = quiet_free u p (λ z. h.1 (inl z))

    pub when_get : (k : ℕ) (loose : Name → Bool) (ds : List (Deed W)) (X : Type 0) → IsPast Call ds → WhenResumed k loose ds X → X
    when_get k loose [] X past h = absurd past
    when_get k loose (d ∷ ds) X past h = h

    goes : (b : Invocation) (r : Run W) (k : ℕ) (ds : List (Deed W)) (kids : ℕ → Frames W) → IsResumed true r → IsFull r k ds kids → IsPast Call ds
    goes b stop k ds kids res full = absurd res
    goes b (act e r) k [] kids res full = absurd full
    goes b (act e r) k (d ∷ ds) kids res full = tt
    goes b (child h w u r) k ds kids res full = absurd res

    -- a run that is done has the serial view in its piece
    pub final_view : (r : Run W) (k : ℕ) (ds : List (Deed W)) (kids : ℕ → Frames W) (loose : Name → Bool) (pcs : Name → V) (acc p root x : V) (b : Bool) → IsResumed b r → IsFull r k ds kids → IsCut r k ds kids → IsClosed r → Lies M i r k ds kids loose pcs acc p root → ViewFree M i r x → Even r acc p x → root ≡ view_after M i r x
    final_view stop k [] kids loose pcs acc p root x b res full cut closed lies free (inl h) = lies.0 ∙ h.0
    final_view stop k [] kids loose pcs acc p root x b res full cut closed lies free (inr h) = absurd h.2
    final_view stop k (d ∷ ds) kids loose pcs acc p root x b res full cut closed lies free even = absurd cut
    final_view (act e r) k [] kids loose pcs acc p root x b res full cut closed lies free even = absurd full
    final_view (act e r) k (d ∷ ds) kids loose pcs acc p root x b res full cut closed lies free even =
        final_view r k ds kids loose pcs _ _ root _ false (resumed_rest M i b e r res) full cut.1 (closed_act e r closed) lies free (even_act e r acc p x even)
    final_view (child h w u r) k [] kids loose pcs acc p root x b res full cut closed lies free even = absurd full
    final_view (child Call w u r) k (d ∷ ds) kids loose pcs acc p root x b res full cut closed lies free even =
        let parts = resumed_parts M i b Call w u r res in
        let inner : pcs (k ∷ []) ≡ view_after M i u p = final_view u 1 (deeds_at (kids k [])) (below (kids k)) (λ n. loose (k ∷ n)) (λ n. pcs (k ∷ n)) M.unit p (pcs (k ∷ [])) p false parts.0 full.0 cut.2 closed.1 lies.1 (free_own Call w u r acc p x even free.1) (inl (refl, refl)) in
        let rest = when_get (suc k) loose ds _ (goes Call r (suc k) ds kids parts.1 full.1) lies.2 in
        final_view r (suc k) ds kids loose pcs acc (pcs (k ∷ [])) root _ true parts.1 full.1 cut.4 closed.2 rest free.2 (subst (λ z. Even r acc z (view_after M i u x)) (sym inner) (even_child Call w u r acc p x even))
    final_view (child Spawn w u r) k (d ∷ ds) kids loose pcs acc p root x b res full cut closed lies free even =
        let parts = resumed_parts M i b Spawn w u r res in
        let inner : pcs (k ∷ []) ≡ view_after M i u p = final_view u 1 (deeds_at (kids k [])) (below (kids k)) (λ n. loose (k ∷ n)) (λ n. pcs (k ∷ n)) M.unit p (pcs (k ∷ [])) p false parts.0 full.0 cut.2 closed.1 lies.0 (free_own Spawn w u r acc p x even free.1) (inl (refl, refl)) in
        ⊎_elim
        (λ flag. final_view r (suc k) ds kids loose pcs (M.combine acc (pcs (k ∷ []))) M.unit root _ true parts.1 full.1 cut.4 closed.2 (rw flag at lies.1) free.2 (subst (λ z. Even r (M.combine acc z) M.unit (view_after M i u x)) (sym inner) (even_stolen w u r acc p x free.0 closed.0 even)))
        (λ flag. let rest = when_get (suc k) loose ds _ (goes Spawn r (suc k) ds kids parts.1 full.1) (rw flag at lies.1) in
        final_view r (suc k) ds kids loose pcs acc (pcs (k ∷ [])) root _ true parts.1 full.1 cut.4 closed.2 rest.1 free.2 (subst (λ z. Even r acc z (view_after M i u x)) (sym inner) (even_child Spawn w u r acc p x even)))
        (cases_Bool (loose (k ∷ [])))

    -- The same before all of the block's children have ended: even once there is a sync, and until
    -- then the own view is right where it is read.
    abbrev Fair : Run W → Name → List (Deed W) → Deed W → V → V → V → Type 0
    Fair r n ds a acc p x = (HasSync (grown n ds a) → Even r acc p x) × ((p ≡ x) ⊎ (¬ (HasInBlockWith (IsTouch i) r)))

    more_grown : (n : Name) (d : Deed W) (ds : List (Deed W)) (a : Deed W) (e : Event) → d ≡ Does e → HasSync (grown n ds a) → HasSync (grown n (d ∷ ds) a)
    more_grown [] d ds a (Reads c v) q h = rw q h
    more_grown [] d ds a (Writes c v) q h = rw q h
    more_grown [] d ds a Syncs q h = rw q tt
    more_grown [] d ds a (Ends val gone) q h = rw q h
    more_grown [] d ds a (Passes m) q h = rw q h
    more_grown (j ∷ l) d ds a (Reads c v) q h = rw q h
    more_grown (j ∷ l) d ds a (Writes c v) q h = rw q h
    more_grown (j ∷ l) d ds a Syncs q h = rw q tt
    more_grown (j ∷ l) d ds a (Ends val gone) q h = rw q h
    more_grown (j ∷ l) d ds a (Passes m) q h = rw q h

    now_grown : (n : Name) (d : Deed W) (ds : List (Deed W)) (a : Deed W) → d ≡ Does Syncs → HasSync (grown n (d ∷ ds) a)
    now_grown [] d ds a q = rw q tt
    now_grown (j ∷ l) d ds a q = rw q tt

    child_grown : (n : Name) (d : Deed W) (ds : List (Deed W)) (a : Deed W) (b : Invocation) (w : W) → d ≡ Invokes b w → HasSync (grown n ds a) → HasSync (grown n (d ∷ ds) a)
    child_grown [] d ds a b w q h = rw q h
    child_grown (j ∷ l) d ds a b w q h = rw q h

    later : (e : Event) (r : Run W) (p p' x x' : V) → ¬ (IsSync e) → (p ≡ x → p' ≡ x') → (p ≡ x) ⊎ (¬ (HasInBlockWith (IsTouch i) (act e r))) → (p' ≡ x') ⊎ (¬ (HasInBlockWith (IsTouch i) r))
    later e r p p' x x' other f (inl q) = inl (f q)
    later e r p p' x x' other f (inr never) = inr (λ z. never (inr (other, z)))

    settled_even : (r : Run W) (acc p x : V) → Even r acc p x → (p ≡ x) ⊎ (¬ (HasInBlockWith (IsTouch i) r))
    settled_even r acc p x (inl h) = inl h.0
    settled_even r acc p x (inr h) = inr h.1

    fair_act : (e : Event) (r : Run W) (n : Name) (d : Deed W) (ds : List (Deed W)) (a : Deed W) (acc p x : V) → d ≡ Does e → Fair (act e r) n (d ∷ ds) a acc p x → Fair r n ds a (block_after M e acc) (own_after M i e acc p) (on_view M i e x)
    fair_act (Reads c v) r n d ds a acc p x q h = (λ z. even_act (Reads c v) r acc p x (h.0 (more_grown n d ds a (Reads c v) q z)), later (Reads c v) r p p x x (λ t. t) (λ t. t) h.1)
    fair_act (Writes c v) r n d ds a acc p x q h = (λ z. even_act (Writes c v) r acc p x (h.0 (more_grown n d ds a (Writes c v) q z)), later (Writes c v) r p p x x (λ t. t) (λ t. t) h.1)
    fair_act Syncs r n d ds a acc p x q h = let even = even_act Syncs r acc p x (h.0 (now_grown n d ds a q)) in (λ z. even, settled_even r _ _ _ even)
    fair_act (Ends val gone) r n d ds a acc p x q h = (λ z. even_act (Ends val gone) r acc p x (h.0 (more_grown n d ds a (Ends val gone) q z)), later (Ends val gone) r p (on_view M i (Ends val gone) p) x (on_view M i (Ends val gone) x) (λ t. t) (ap (on_view M i (Ends val gone))) h.1)
    fair_act (Passes m) r n d ds a acc p x q h =
        (λ z. even_act (Passes m) r acc p x (h.0 (more_grown n d ds a (Passes m) q z)), later (Passes m) r p (mark_view M m i p) x (mark_view M m i x) (λ t. t) (ap (mark_view M m i)) h.1)

    fair_child : (b : Invocation) (w : W) (u r : Run W) (n : Name) (d : Deed W) (ds : List (Deed W)) (a : Deed W) (acc p x q : V) → d ≡ Invokes b w → q ≡ view_after M i u p → Fair (child b w u r) n (d ∷ ds) a acc p x → Fair r n ds a acc q (view_after M i u x)
    fair_child b w u r n d ds a acc p x q is e h = (
      λ z. subst (λ t. Even r acc t (view_after M i u x)) (sym e) (even_child b w u r acc p x (h.0 (child_grown n d ds a b w is z))),
      ⊎_elim (λ t. inl (e ∙ ap (view_after M i u) t)) (λ t. inr (λ z. t (inr z))) h.1,
    )

    apart_now : (v : V) (r : Run W) → ViewApart M i Spawn v r → (M.unit ≡ v) ⊎ (¬ (HasInBlockWith (IsTouch i) r))
    apart_now v r (inl h) = inl (sym h)
    apart_now v r (inr h) = inr h

    past_call_view : {r : Run W} {k : ℕ} {ds : List (Deed W)} {kids : ℕ → Frames W} {n : Name} {a : Deed W} {x y : V} → FrontV W V M i r k ds kids n a x y → IsPast Call (grown n ds a)
    past_call_view at_act = tt
    past_call_view at_child = tt
    past_call_view (after_act {n = []} f) = tt
    past_call_view (after_act {n = j ∷ m} f) = tt
    past_call_view (after_child {n = []} p f) = tt
    past_call_view (after_child {n = j ∷ m} p f) = tt
    past_call_view (within f) = tt

    past_values : {r : Run W} {k : ℕ} {kids : ℕ → Frames W} {n : Name} {a : Deed W} {x y : V} {v : ℤ} (ds : List (Deed W)) → FrontV W V M i r k ds kids n a x y → IsResumed true r → a ≡ Does (Passes (Values i v)) → IsPast Call ds
    past_values {v = v} [] f res is = let z : Does (Passes Resumes) ≡ Does (Passes (Values i v)) = sym (first_resumes f res) ∙ is in absurd (cc)
    past_values (d ∷ ds) f res is = tt

    free_fair : (b : Invocation) (w : W) (u r : Run W) (p x : V) → (p ≡ x) ⊎ (¬ (HasInBlockWith (IsTouch i) (child b w u r))) → ViewFree M i u x → ViewFree M i u p
    free_fair b w u r p x (inl h) free = rw h free
    free_fair b w u r p x (inr h) free = quiet_free u p (λ z. h (inl z))

    same_within : {k : ℕ} {ds : List (Deed W)} {kids : ℕ → Frames W} {m : Name} {a : Deed W} {z y : V} (b : Invocation) (w : W) (u r : Run W) (p x : V) → FrontV W V M i u k ds kids m a z y → (v : ℤ) → a ≡ Does (Passes (Values i v)) → (p ≡ x) ⊎ (¬ (HasInBlockWith (IsTouch i) (child b w u r))) → p ≡ x
    same_within b w u r p x f v is (inl h) = h
    same_within {k = k} {ds = ds} {kids = kids} {m = m} {z = z} {y = y} b w u r p x f v is (inr h) =
        absurd (h (inl (view_event (IsTouch i) {e = Passes (Values i v)} (subst (λ t. FrontV W V M i u k ds kids m t z y) is f) refl)))

    -- without a view-read race the frame at the front sees the serial view
    pub view_front : {r : Run W} {k : ℕ} {ds : List (Deed W)} {kids : ℕ → Frames W} {n : Name} {a : Deed W} {x y : V} → FrontV W V M i r k ds kids n a x y → (v : ℤ) → a ≡ Does (Passes (Values i v)) → (loose : Name → Bool) (pcs : Name → V) (acc p root : V) (b : Bool) → IsResumed b r → IsCut r k ds kids → IsClosed r → Lies M i r k ds kids loose pcs acc p root → ViewFree M i r x → Fair r n ds a acc p x → view_of root pcs n ≡ y
    view_front (at_act {e = e} {x = x}) v is loose pcs acc p root b res cut closed lies free fair =
        let e' : e ≡ Passes (Values i v) = cc in
        lies.0 ∙ ⊎_elim (λ q. q) (λ never. absurd (never (inl (rw e' refl)))) fair.1
    view_front at_child v is loose pcs acc p root b res cut closed lies free fair = absurd (cc)
    view_front (after_act {e = e} {r = r} {d = d} {ds = ds} {n = n} {a = a} {x = x} f) v is loose pcs acc p root b res cut closed lies free fair =
        view_front f v is loose pcs _ _ root false (resumed_rest M i b e r res) cut.1 (closed_act e r closed) lies free (fair_act e r n d ds a acc p x cut.0 fair)
    view_front (after_child {b = Call} {w = w} {u = u} {r = r} {k = k} {d = d} {ds = ds} {kids = kids} {n = n} {a = a} {x = x} q f) v is loose pcs acc p root b res cut closed lies free fair =
        let parts = resumed_parts M i b Call w u r res in
        let inner : pcs (k ∷ []) ≡ view_after M i u p = final_view u 1 (deeds_at (kids k [])) (below (kids k)) (λ n. loose (k ∷ n)) (λ n. pcs (k ∷ n)) M.unit p (pcs (k ∷ [])) p false parts.0 (q (past_call_view f)) cut.2 closed.1 lies.1 (free_fair Call w u r p x fair.1 free.1) (inl (refl, refl)) in
        let rest = when_get (suc k) loose ds _ (past_values ds f parts.1 is) lies.2 in
        view_front f v is loose pcs acc (pcs (k ∷ [])) root true parts.1 cut.4 closed.2 rest free.2 (fair_child Call w u r n d ds a acc p x (pcs (k ∷ [])) cut.0 inner fair)
    view_front (after_child {b = Spawn} {w = w} {u = u} {r = r} {k = k} {d = d} {ds = ds} {kids = kids} {n = n} {a = a} {x = x} q f) v is loose pcs acc p root b res cut closed lies free fair =
        let parts = resumed_parts M i b Spawn w u r res in
        let inner : IsFull u 1 (deeds_at (kids k [])) (below (kids k)) → pcs (k ∷ []) ≡ view_after M i u p =
        λ full. final_view u 1 (deeds_at (kids k [])) (below (kids k)) (λ n. loose (k ∷ n)) (λ n. pcs (k ∷ n)) M.unit p (pcs (k ∷ [])) p false parts.0 full cut.2 closed.1 lies.0 (free_fair Spawn w u r p x fair.1 free.1) (inl (refl, refl)) in
        ⊎_elim
        (λ flag. view_front f v is loose pcs (M.combine acc (pcs (k ∷ []))) M.unit root true parts.1 cut.4 closed.2 (rw flag at lies.1) free.2 (
          λ z. subst (λ t. Even r (M.combine acc t) M.unit (view_after M i u x)) (sym (inner (q z))) (even_stolen w u r acc p x free.0 closed.0 (fair.0 (child_grown n d ds a Spawn w cut.0 z))),
          apart_now (view_after M i u x) r free.0,
        ))
        (λ flag. let rest = when_get (suc k) loose ds _ (past_values ds f parts.1 is) (rw flag at lies.1) in
        view_front f v is loose pcs acc (pcs (k ∷ [])) root true parts.1 cut.4 closed.2 rest.1 free.2 (fair_child Spawn w u r n d ds a acc p x (pcs (k ∷ [])) cut.0 (inner rest.0) fair))
        (cases_Bool (loose (k ∷ [])))
    view_front (within {b = Call} {w = w} {u = u} {r = r} {k = k} {d = d} {ds = ds} {kids = kids} {m = m} {a = a} {x = x} {y = y} f) v is loose pcs acc p root b res cut closed lies free fair =
        let same = same_within Call w u r p x f v is fair.1 in
        sym (view_of_inner pcs k m) ∙ view_front f v is (λ n. loose (k ∷ n)) (λ n. pcs (k ∷ n)) M.unit p (pcs (k ∷ [])) false (resumed_parts M i b Call w u r res).0 cut.2 closed.1 lies.1 free.1 (λ z. inl (same, refl), inl same)
    view_front (within {b = Spawn} {w = w} {u = u} {r = r} {k = k} {d = d} {ds = ds} {kids = kids} {m = m} {a = a} {x = x} {y = y} f) v is loose pcs acc p root b res cut closed lies free fair =
        let same = same_within Spawn w u r p x f v is fair.1 in
        sym (view_of_inner pcs k m) ∙ view_front f v is (λ n. loose (k ∷ n)) (λ n. pcs (k ∷ n)) M.unit p (pcs (k ∷ [])) false (resumed_parts M i b Spawn w u r res).0 cut.2 closed.1 lies.0 free.1 (λ z. inl (same, refl), inl same)
