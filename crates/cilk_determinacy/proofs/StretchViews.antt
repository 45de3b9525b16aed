-- Each piece has the views of its stretch alone, if no stolen continuation reads an instance that
-- was read before.
--
-- - `along_append`, `along_run`, `long`: views along lists of events, and along whole runs;
-- - `viewed_append`, `past_viewed`: stretches that follow one another;
-- - `Fit`, `Calm`: the state of the walk: a frame's own view and its block's product against the
--   view of its stretch, and the rest of the run;
-- - `viewed`, `are_views`: the law.
use Rattle.std.proofs.Common.{◌≡◌, ℕ, suc, ◌+◌, Bool, true, false, true≢false, List, [], ◌∷◌, ◌++◌, length, refl, sym, ap, ap₂, ◌∙◌, subst, arith, ◌⊎◌, inl, inr, ⊎_elim, append_assoc, append-nil, length-append, ℤ}
use Rattle.std.proofs.lemmas.Bool.{cases_Bool}
use Rattle.cilk_types.specs.declared.invocation.Invocation.{Invocation}
use Rattle.cilk_types.specs.declared.invocation.Invocation.TheVariants.{Call, Spawn}
use Rattle.cilk_monoid.specs.Laws.{MonoidStructure, IsLawful}
use Rattle.cilk_determinacy.specs.Runs.{Name, Cell, Instance, Ask, Event, Reads, Writes, Syncs, Ends, Passes, Deed, Does, Invokes, Run, stop, act, child}
use Rattle.cilk_determinacy.specs.Costs.{Costs}
use Rattle.cilk_determinacy.specs.Cuts.{below, IsFull, IsPast, IsCut, WhenResumed, block_after, own_after, Lies, IsConsistent}
use Rattle.cilk_determinacy.specs.Machine.{Frames, State, deeds_at}
use Rattle.cilk_determinacy.specs.Monoids.{IsValue, unit_of, mark_view, on_view}
use Rattle.cilk_determinacy.specs.Serial.{IsClosed}
use Rattle.cilk_determinacy.specs.Stretches.{Stretch, Held, Ahead, many, has_sync, is_back, past, stretches, view_along, AreViewed, PiecesAreViews}
use Rattle.cilk_determinacy.specs.MachineTheorem.{IsNestedSerialRun, HasNoRaces}
use Rattle.cilk_determinacy.specs.Traces.{trace, begin_due}
use Rattle.cilk_determinacy.specs.Views.{view_after}
use Rattle.cilk_determinacy.proofs.Blocks.{HasInBlockWith, IsTouch, ViewApart, ViewFree, IsResumed}
use Rattle.cilk_determinacy.proofs.Find.{IsDetermined, closed_act}
use Rattle.cilk_determinacy.proofs.Framed.{resumed}
use Rattle.cilk_determinacy.proofs.RunPieces.{resumed_parts, resumed_rest}
use Rattle.cilk_determinacy.proofs.Stretched.{sync_of, thief_goes}
use Rattle.cilk_determinacy.proofs.MachineTheorem.{apart_views}
use Rattle.cilk_determinacy.proofs.Values.{view_of, view_of_inner, quiet_free, Even, even_act, even_child, even_stolen, free_own, when_get, final_view}

-- ---- lists of events

module _ {W V : Type 0} (M : MonoidStructure V) (i : Instance) where
  along_append : (xs ys : List (Deed W)) (v : V) → view_along M i (xs ++ ys) v ≡ view_along M i ys (view_along M i xs v)
  along_append [] ys v = refl
  along_append (Does e ∷ xs) ys v = along_append xs ys (on_view M i e v)
  along_append (Invokes b w ∷ xs) ys v = along_append xs ys v

  along_run : (r : Run W) (v : V) → view_along M i (trace r) v ≡ view_after M i r v
  along_run stop v = refl
  along_run (act e r) v = along_run r (on_view M i e v)
  along_run (child b w u r) v = along_append (trace u) (trace r) v ∙ ap (view_along M i (trace r)) (along_run u v) ∙ along_run r (view_after M i u v)

  -- a whole child more
  along_child : (seg : List (Deed W)) (b : Invocation) (w : W) (u : Run W) (v x : V) → view_along M i seg v ≡ x → view_along M i (seg ++ Invokes b w ∷ trace u) v ≡ view_after M i u x
  along_child seg b w u v x e = along_append seg (Invokes b w ∷ trace u) v ∙ ap (view_along M i (trace u)) e ∙ along_run u x

long : {W : Type 0} (r : Run W) → length (trace r) ≡ many r
long stop = refl
long (act e r) = ap suc (long r)
long (child b w u r) = ap suc (length-append (trace u) (trace r) ∙ ap₂ (λ a b. a + b) (long u) (long r))

one_longer : {A : Type 0} (xs : List A) (x : A) (n : ℕ) → length xs ≡ n → length (xs ++ x ∷ []) ≡ suc n
one_longer xs x n e = let l = length-append xs (x ∷ []) in omega (arith, l, e)

child_longer : {W : Type 0} (xs : List (Deed W)) (x : Deed W) (u : Run W) (n : ℕ) → length xs ≡ n → length (xs ++ x ∷ trace u) ≡ suc n + many u
child_longer xs x u n e = let l = length-append xs (x ∷ trace u) in let m = long u in omega (arith, l, e, m)

-- ---- stretches

module _ {W V : Type 0} (M : MonoidStructure V) (i : Instance) (P : Name → V) where
  viewed_append : (a b : List Stretch) (xs ys : List (Deed W)) → AreViewed M i P a xs → AreViewed M i P b ys → AreViewed M i P (a ++ b) (xs ++ ys)
  viewed_append [] b xs ys h g = subst (λ l. AreViewed M i P b (l ++ ys)) (sym h) g
  viewed_append (Held n k ∷ a) b xs ys (own, rest, e, l, v, t) g =
      (own, rest ++ ys, ap (λ z. z ++ ys) e ∙ append_assoc own rest ys, l, v, viewed_append a b rest ys t g)
  viewed_append (Ahead k ∷ a) b xs ys (own, rest, e, l, t) g =
      (own, rest ++ ys, ap (λ z. z ++ ys) e ∙ append_assoc own rest ys, l, viewed_append a b rest ys t g)

  -- events that aren't made
  ahead_viewed : (rs : List (Deed W)) (n : ℕ) → length rs ≡ n → AreViewed M i P (Ahead n ∷ []) rs
  ahead_viewed rs n e = (rs, [], sym (append-nil rs), e, refl)

  -- a frame at the end of its stretch
  stands_viewed : (n : Name) (seg rs : List (Deed W)) (own left : ℕ) → length seg ≡ own → P n ≡ view_along M i seg M.unit → length rs ≡ left → AreViewed M i P (Held n own ∷ Ahead left ∷ []) (seg ++ rs)
  stands_viewed n seg rs own left l v e = (seg, rs, refl, l, v, ahead_viewed rs left e)

  past_viewed : (back stolen : Bool) (on inner thief : List Stretch) (left : ℕ) (seg : List (Deed W)) (d : Deed W) (us rs : List (Deed W))
      → (back ≡ true → AreViewed M i P on ((seg ++ d ∷ us) ++ rs)) → (back ≡ false → AreViewed M i P inner ((seg ++ d ∷ []) ++ us))
      → (back ≡ false → stolen ≡ true → AreViewed M i P thief rs) → length rs ≡ left → AreViewed M i P (past back stolen on inner thief left) (seg ++ d ∷ (us ++ rs))
  past_viewed true stolen on inner thief left seg d us rs h g t l = subst (AreViewed M i P on) (append_assoc seg (d ∷ us) rs) (h refl)
  past_viewed false true on inner thief left seg d us rs h g t l =
      subst (AreViewed M i P (inner ++ thief)) (append_assoc (seg ++ d ∷ []) us rs ∙ append_assoc seg (d ∷ []) (us ++ rs))
      (viewed_append inner thief ((seg ++ d ∷ []) ++ us) rs (g refl) (t refl refl))
  past_viewed false false on inner thief left seg d us rs h g t l =
      subst (AreViewed M i P (inner ++ Ahead left ∷ [])) (append_assoc (seg ++ d ∷ []) us rs ∙ append_assoc seg (d ∷ []) (us ++ rs))
      (viewed_append inner (Ahead left ∷ []) ((seg ++ d ∷ []) ++ us) rs (g refl) (ahead_viewed rs left l))

-- ---- the walk

-- a frame whose child isn't back has made no sync since
unsynced : {W : Type 0} (stolen : Bool) (ds : List (Deed W)) → is_back Spawn stolen ds ≡ false → has_sync ds ≡ false
unsynced true ds h = h
unsynced false [] h = refl
unsynced false (d ∷ ds) h = absurd (true≢false h)

some_deed : {W : Type 0} (ds : List (Deed W)) → is_back Spawn false ds ≡ true → IsPast Call ds
some_deed [] h = absurd (true≢false (sym h))
some_deed (d ∷ ds) h = tt

same_sync : {W : Type 0} (d : Deed W) (ds : List (Deed W)) (b : Invocation) (w : W) → d ≡ Invokes b w → has_sync (d ∷ ds) ≡ has_sync ds
same_sync d ds b w q = ap (λ x. has_sync (x ∷ ds)) q

module _ {W V : Type 0} (M : MonoidStructure V) (law : IsLawful M IsValue) (i : Instance) where
  -- A frame's own view p and its block's product acc, against the view x of its stretch. They are
  -- even if the frame has made its next sync; otherwise the own view is that of the stretch.
  abbrev Fit : Run W → List (Deed W) → V → V → V → Type 0
  Fit r ds acc p x = (has_sync ds ≡ true → Even M law i r acc p x) × (has_sync ds ≡ false → p ≡ x)

  -- The rest of the run finds at each stolen continuation the view that it reads, or reads none
  -- until a sync that isn't made.
  abbrev Calm : Run W → List (Deed W) → V → Type 0
  Calm r ds x = ViewFree M i r x ⊎ ((has_sync ds ≡ false) × (¬ (HasInBlockWith (IsTouch i) r)))

  sync_own : (r : Run W) (acc p x : V) → Even M law i (act Syncs r) acc p x → M.combine acc p ≡ x
  sync_own r acc p x (inl h) = rw h.1 (law.left_neutral p tt ∙ h.0)
  sync_own r acc p x (inr h) = h.0

  fit_act : (e : Event) (r : Run W) (d : Deed W) (ds : List (Deed W)) (acc p x : V) → d ≡ Does e → Fit (act e r) (d ∷ ds) acc p x → Fit r ds (block_after M e acc) (own_after M i e acc p) (on_view M i e x)
  fit_act (Reads c v) r d ds acc p x q h =
      let s : has_sync (d ∷ ds) ≡ has_sync ds = ap (λ z. has_sync (z ∷ ds)) q in
      ((λ z. even_act M law i (Reads c v) r acc p x (h.0 (s ∙ z))), λ z. h.1 (s ∙ z))
  fit_act (Writes c v) r d ds acc p x q h =
      let s : has_sync (d ∷ ds) ≡ has_sync ds = ap (λ z. has_sync (z ∷ ds)) q in
      ((λ z. even_act M law i (Writes c v) r acc p x (h.0 (s ∙ z))), λ z. h.1 (s ∙ z))
  fit_act Syncs r d ds acc p x q h =
      let s : has_sync (d ∷ ds) ≡ true = ap (λ z. has_sync (z ∷ ds)) q in
      ((λ z. even_act M law i Syncs r acc p x (h.0 s)), λ z. sync_own r acc p x (h.0 s))
  fit_act (Ends val gone) r d ds acc p x q h =
      let s : has_sync (d ∷ ds) ≡ has_sync ds = ap (λ z. has_sync (z ∷ ds)) q in
      ((λ z. even_act M law i (Ends val gone) r acc p x (h.0 (s ∙ z))), λ z. ap (on_view M i (Ends val gone)) (h.1 (s ∙ z)))
  fit_act (Passes m) r d ds acc p x q h =
      let s : has_sync (d ∷ ds) ≡ has_sync ds = ap (λ z. has_sync (z ∷ ds)) q in
      ((λ z. even_act M law i (Passes m) r acc p x (h.0 (s ∙ z))), λ z. ap (mark_view M m i) (h.1 (s ∙ z)))

  calm_act : (e : Event) (r : Run W) (d : Deed W) (ds : List (Deed W)) (x : V) → d ≡ Does e → Calm (act e r) (d ∷ ds) x → Calm r ds (on_view M i e x)
  calm_act e r d ds x q (inl h) = inl h
  calm_act (Reads c v) r d ds x q (inr h) = inr (ap (λ z. has_sync (z ∷ ds)) (sym q) ∙ h.0, λ z. h.1 (inr ((λ t. t), z)))
  calm_act (Writes c v) r d ds x q (inr h) = inr (ap (λ z. has_sync (z ∷ ds)) (sym q) ∙ h.0, λ z. h.1 (inr ((λ t. t), z)))
  calm_act Syncs r d ds x q (inr h) = absurd (true≢false (ap (λ z. has_sync (z ∷ ds)) (sym q) ∙ h.0))
  calm_act (Ends val gone) r d ds x q (inr h) = inr (ap (λ z. has_sync (z ∷ ds)) (sym q) ∙ h.0, λ z. h.1 (inr ((λ t. t), z)))
  calm_act (Passes m) r d ds x q (inr h) = inr (ap (λ z. has_sync (z ∷ ds)) (sym q) ∙ h.0, λ z. h.1 (inr ((λ t. t), z)))

  free_inner : (b : Invocation) (w : W) (u r : Run W) (ds : List (Deed W)) (acc p x : V) → Calm (child b w u r) ds x → Fit (child b w u r) ds acc p x → ViewFree M i u p
  free_inner b w u r ds acc p x (inl free) fit =
      ⊎_elim (λ s. free_own M law i b w u r acc p x (fit.0 s) free.1) (λ s. subst (ViewFree M i u) (sym (fit.1 s)) free.1) (cases_Bool (has_sync ds))
  free_inner b w u r ds acc p x (inr h) fit = quiet_free M law i u p (λ z. h.1 (inl z))

  calm_apart : (w : W) (u r : Run W) (ds : List (Deed W)) (x : V) → Calm (child Spawn w u r) ds x → ViewApart M i Spawn (view_after M i u x) r
  calm_apart w u r ds x (inl free) = free.0
  calm_apart w u r ds x (inr h) = inr (λ z. h.1 (inr z))

  calm_on : (b : Invocation) (w : W) (u r : Run W) (d : Deed W) (ds : List (Deed W)) (x : V) → d ≡ Invokes b w → Calm (child b w u r) (d ∷ ds) x → Calm r ds (view_after M i u x)
  calm_on b w u r d ds x q (inl free) = inl free.2
  calm_on b w u r d ds x q (inr h) = inr (sym (same_sync d ds b w q) ∙ h.0, λ z. h.1 (inr z))

  -- a thief begins from the unit
  calm_thief : (r : Run W) (ds : List (Deed W)) (v : V) → ViewApart M i Spawn v r → has_sync ds ≡ false → Calm r ds v → Calm r ds M.unit
  calm_thief r ds v (inl e) s calm = subst (Calm r ds) e calm
  calm_thief r ds v (inr never) s calm = inr (s, never)

  -- the frame continues with its child's piece
  fit_on : (b : Invocation) (w : W) (u r : Run W) (d : Deed W) (ds : List (Deed W)) (acc p x q : V) → d ≡ Invokes b w → q ≡ view_after M i u p → Fit (child b w u r) (d ∷ ds) acc p x → Fit r ds acc q (view_after M i u x)
  fit_on b w u r d ds acc p x q is e h =
      let s = same_sync d ds b w is in (
        (λ z. subst (λ t. Even M law i r acc t (view_after M i u x)) (sym e) (even_child M law i b w u r acc p x (h.0 (s ∙ z)))),
        λ z. e ∙ ap (view_after M i u) (h.1 (s ∙ z)),
      )

  -- a thief whose sync is made continues the frame's stretch
  fit_stolen : (w : W) (u r : Run W) (d : Deed W) (ds : List (Deed W)) (acc p x q : V) → d ≡ Invokes Spawn w → q ≡ view_after M i u p → has_sync ds ≡ true → IsClosed (child Spawn w u r)
      → Calm (child Spawn w u r) (d ∷ ds) x → Fit (child Spawn w u r) (d ∷ ds) acc p x → Fit r ds (M.combine acc q) M.unit (view_after M i u x)
  fit_stolen w u r d ds acc p x q is e synced closed calm h = (
    (λ z. subst (λ t. Even M law i r (M.combine acc t) M.unit (view_after M i u x)) (sym e)
        (even_stolen M law i w u r acc p x (calm_apart w u r (d ∷ ds) x calm) closed.0 (h.0 (same_sync d ds Spawn w is ∙ z)))),
    λ z. absurd (true≢false (sym synced ∙ z)),
  )

  viewed : (P : Name → V) (r : Run W) (k : ℕ) (ds : List (Deed W)) (kids : ℕ → Frames W) (loose : Name → Bool) (n : Name) (seg : List (Deed W)) (own : ℕ) (pcs : Name → V) (acc p root x : V) (b : Bool)
      → length seg ≡ own → view_along M i seg M.unit ≡ x → ((m : Name) → P (n ++ m) ≡ view_of root pcs m)
      → IsResumed b r → IsCut r k ds kids → IsClosed r → Lies M i r k ds kids loose pcs acc p root → Calm r ds x → Fit r ds acc p x
      → AreViewed M i P (stretches r k ds kids loose n own) (seg ++ trace r)
  viewed P stop k [] kids loose n seg own pcs acc p root x b l e tie res cut closed lies calm fit =
      stands_viewed M i P n seg [] own 0 l (ap P (sym (append-nil n)) ∙ tie [] ∙ lies.0 ∙ fit.1 refl ∙ sym e) refl
  viewed P stop k (d ∷ ds) kids loose n seg own pcs acc p root x b l e tie res cut closed lies calm fit = absurd cut
  viewed P (act ev r) k [] kids loose n seg own pcs acc p root x b l e tie res cut closed lies calm fit =
      stands_viewed M i P n seg (trace (act ev r)) own (suc (many r)) l (ap P (sym (append-nil n)) ∙ tie [] ∙ lies.0 ∙ fit.1 refl ∙ sym e) (long (act ev r))
  viewed P (act ev r) k (d ∷ ds) kids loose n seg own pcs acc p root x b l e tie res cut closed lies calm fit =
      subst (AreViewed M i P (stretches r k ds kids loose n (suc own))) (append_assoc seg (Does ev ∷ []) (trace r))
      (viewed P r k ds kids loose n (seg ++ Does ev ∷ []) (suc own) pcs (block_after M ev acc) (own_after M i ev acc p) root (on_view M i ev x) false
      (one_longer seg (Does ev) own l) (along_append M i seg (Does ev ∷ []) M.unit ∙ ap (on_view M i ev) e) tie (resumed_rest M i b ev r res) cut.1 (closed_act ev r closed) lies
      (calm_act ev r d ds x cut.0 calm) (fit_act ev r d ds acc p x cut.0 fit))
  viewed P (child h w u r) k [] kids loose n seg own pcs acc p root x b l e tie res cut closed lies calm fit =
      stands_viewed M i P n seg (trace (child h w u r)) own (suc (many u + many r)) l (ap P (sym (append-nil n)) ∙ tie [] ∙ lies.0 ∙ fit.1 refl ∙ sym e) (long (child h w u r))
  viewed P (child Call w u r) k (d ∷ []) kids loose n seg own pcs acc p root x b l e tie res cut closed lies calm fit =
      let parts = resumed_parts M i b Call w u r res in
      let s : has_sync (d ∷ []) ≡ false = same_sync d [] Call w cut.0 in
      past_viewed M i P false (loose (k ∷ [])) (stretches r (suc k) [] kids loose n (suc own + many u)) (stretches u 1 (deeds_at (kids k [])) (below (kids k)) (λ m. loose (k ∷ m)) (n ++ k ∷ []) (suc own)) (stretches r (suc k) [] kids loose n 0) (many r)
      seg (Invokes Call w) (trace u) (trace r)
      (λ q. absurd (true≢false (sym q)))
      (λ q. viewed P u 1 (deeds_at (kids k [])) (below (kids k)) (λ m. loose (k ∷ m)) (n ++ k ∷ []) (seg ++ Invokes Call w ∷ []) (suc own) (λ m. pcs (k ∷ m)) M.unit p (pcs (k ∷ [])) p false
      (one_longer seg (Invokes Call w) own l) (along_append M i seg (Invokes Call w ∷ []) M.unit ∙ e ∙ sym (fit.1 s)) (λ m. ap P (append_assoc n (k ∷ []) m) ∙ tie (k ∷ m) ∙ sym (view_of_inner pcs k m)) parts.0 cut.2 closed.1 lies.1
      (inl (free_inner Call w u r (d ∷ []) acc p x calm fit)) ((λ z. inl (refl, refl)), λ z. refl))
      (λ q f. absurd (true≢false (sym f ∙ lies.0)))
      (long r)
  viewed P (child Call w u r) k (d ∷ c ∷ ds) kids loose n seg own pcs acc p root x b l e tie res cut closed lies calm fit =
      let parts = resumed_parts M i b Call w u r res in
      let inner : pcs (k ∷ []) ≡ view_after M i u p = final_view M law i u 1 (deeds_at (kids k [])) (below (kids k)) (λ n. loose (k ∷ n)) (λ n. pcs (k ∷ n)) M.unit p (pcs (k ∷ [])) p false parts.0 (cut.3 tt) cut.2 closed.1 lies.1 (free_inner Call w u r (d ∷ c ∷ ds) acc p x calm fit) (inl (refl, refl)) in
      past_viewed M i P true (loose (k ∷ [])) (stretches r (suc k) (c ∷ ds) kids loose n (suc own + many u)) (stretches u 1 (deeds_at (kids k [])) (below (kids k)) (λ m. loose (k ∷ m)) (n ++ k ∷ []) (suc own)) (stretches r (suc k) (c ∷ ds) kids loose n 0) (many r)
      seg (Invokes Call w) (trace u) (trace r)
      (λ q. viewed P r (suc k) (c ∷ ds) kids loose n (seg ++ Invokes Call w ∷ trace u) (suc own + many u) pcs acc (pcs (k ∷ [])) root (view_after M i u x) true
      (child_longer seg (Invokes Call w) u own l) (along_child M i seg Call w u M.unit x e) tie parts.1 cut.4 closed.2 lies.2
      (calm_on Call w u r d (c ∷ ds) x cut.0 calm) (fit_on Call w u r d (c ∷ ds) acc p x (pcs (k ∷ [])) cut.0 inner fit))
      (λ q. absurd (true≢false q))
      (λ q f. absurd (true≢false q))
      (long r)
  viewed P (child Spawn w u r) k (d ∷ ds) kids loose n seg own pcs acc p root x b l e tie res cut closed lies calm fit =
      let parts = resumed_parts M i b Spawn w u r res in
      let free = free_inner Spawn w u r (d ∷ ds) acc p x calm fit in
      let inner : IsFull u 1 (deeds_at (kids k [])) (below (kids k)) → pcs (k ∷ []) ≡ view_after M i u p =
      λ full. final_view M law i u 1 (deeds_at (kids k [])) (below (kids k)) (λ n. loose (k ∷ n)) (λ n. pcs (k ∷ n)) M.unit p (pcs (k ∷ [])) p false parts.0 full cut.2 closed.1 lies.0 free (inl (refl, refl)) in
      let F = IsFull u 1 (deeds_at (kids k [])) (below (kids k)) in
      let T = Lies M i r (suc k) ds kids loose pcs (M.combine acc (pcs (k ∷ []))) M.unit root in
      let R = Lies M i r (suc k) ds kids loose pcs acc (pcs (k ∷ [])) root in
      let on = stretches r (suc k) ds kids loose n (suc own + many u) in
      let longer = child_longer seg (Invokes Spawn w) u own l in
      let along = along_child M i seg Spawn w u M.unit x e in
      let calmly = calm_on Spawn w u r d ds x cut.0 calm in
      past_viewed M i P (is_back Spawn (loose (k ∷ [])) ds) (loose (k ∷ [])) on (stretches u 1 (deeds_at (kids k [])) (below (kids k)) (λ m. loose (k ∷ m)) (n ++ k ∷ []) (suc own)) (stretches r (suc k) ds kids loose n 0) (many r)
      seg (Invokes Spawn w) (trace u) (trace r)
      (λ q. ⊎_elim
      (λ flag. let synced : has_sync ds ≡ true = ap (λ z. is_back Spawn z ds) (sym flag) ∙ q in
      viewed P r (suc k) ds kids loose n (seg ++ Invokes Spawn w ∷ trace u) (suc own + many u) pcs (M.combine acc (pcs (k ∷ []))) M.unit root (view_after M i u x) true
      longer along tie parts.1 cut.4 closed.2 (thief_goes (loose (k ∷ [])) T (WhenResumed (suc k) loose ds (F × R)) lies.1 flag)
      calmly (fit_stolen w u r d ds acc p x (pcs (k ∷ [])) cut.0 (inner (cut.3 (sync_of ds synced))) synced closed calm fit))
      (λ flag. let rest = when_get M law i (suc k) loose ds (F × R) (some_deed ds (ap (λ z. is_back Spawn z ds) (sym flag) ∙ q)) (rw flag at lies.1) in
      viewed P r (suc k) ds kids loose n (seg ++ Invokes Spawn w ∷ trace u) (suc own + many u) pcs acc (pcs (k ∷ [])) root (view_after M i u x) true
      longer along tie parts.1 cut.4 closed.2 rest.1
      calmly (fit_on Spawn w u r d ds acc p x (pcs (k ∷ [])) cut.0 (inner rest.0) fit))
      (cases_Bool (loose (k ∷ []))))
      (λ q. let s : has_sync (d ∷ ds) ≡ false = same_sync d ds Spawn w cut.0 ∙ unsynced (loose (k ∷ [])) ds q in
      viewed P u 1 (deeds_at (kids k [])) (below (kids k)) (λ m. loose (k ∷ m)) (n ++ k ∷ []) (seg ++ Invokes Spawn w ∷ []) (suc own) (λ m. pcs (k ∷ m)) M.unit p (pcs (k ∷ [])) p false
      (one_longer seg (Invokes Spawn w) own l) (along_append M i seg (Invokes Spawn w ∷ []) M.unit ∙ e ∙ sym (fit.1 s)) (λ m. ap P (append_assoc n (k ∷ []) m) ∙ tie (k ∷ m) ∙ sym (view_of_inner pcs k m)) parts.0 cut.2 closed.1 lies.0
      (inl free) ((λ z. inl (refl, refl)), λ z. refl))
      (λ q f. let s : has_sync ds ≡ false = unsynced (loose (k ∷ [])) ds q in
      viewed P r (suc k) ds kids loose n [] 0 pcs (M.combine acc (pcs (k ∷ []))) M.unit root M.unit true refl refl tie parts.1 cut.4 closed.2
      (thief_goes (loose (k ∷ [])) T (WhenResumed (suc k) loose ds (F × R)) lies.1 f)
      (calm_thief r ds (view_after M i u x) (calm_apart w u r (d ∷ ds) x calm) s calmly) ((λ z. absurd (true≢false (sym z ∙ s))), λ z. refl))
      (long r)

-- a frame's piece, by its name from the root
from_root : {V : Type 0} (f : Name → V) (m : Name) → f ([] ++ m) ≡ view_of (f []) f m
from_root f [] = refl
from_root f (k ∷ m) = refl

pub are_views : {W V : Type 0} (M : Instance → MonoidStructure V) (law : (i : Instance) → IsLawful (M i) IsValue) (Next : W → List (Deed W) → Ask W → Type 0) (C : Costs W) (w : W) (t : Run W) (opening : Cell → ℤ) → IsDetermined W Next
    → IsNestedSerialRun W V M Next C w t opening → HasNoRaces t → (s : State W V) → IsConsistent M C w t opening s → PiecesAreViews M t s
are_views M law Next C w t opening determined run free s ok i =
    viewed (M i) (law i) i (λ n. s.piece n i) t 1 (deeds_at (s.frames [])) (below s.frames) s.stolen [] [] 0 (λ n. s.piece n i) (unit_of M i) (unit_of M i) (s.piece [] i) (unit_of M i) false
    refl refl (from_root (λ n. s.piece n i)) (resumed begin_due t run.framed) ok.cut run.closed (ok.pieces i)
    (inl (apart_views _ _ M Next C law determined w t opening run free i)) ((λ z. inl (refl, refl)), λ z. refl)
