-- The effect of one more deed on the pieces.
use Rattle.std.proofs.Common.{◌≡◌, ℕ, suc, pred, ◌+◌, ◌≤◌, Bool, true, false, cond, List, [], ◌∷◌, ◌++◌, Some, refl, sym, ap, ◌∙◌, subst, arith, ⊎_elim, le_refl, ℤ}
use mathlib.Core.Path.{fun_ext}
use Rattle.std.proofs.lemmas.Bool.{cases_Bool}
use Rattle.cilk_types.specs.declared.invocation.Invocation.{Invocation}
use Rattle.cilk_types.specs.declared.invocation.Invocation.TheVariants.{Call, Spawn}
use Rattle.cilk_determinacy.specs.Runs.{Name, Cell, Ask, Event, Reads, Writes, Syncs, Ends, Passes, Begins, Resumes, Creates, Updates, Sets, Values, Prints, Deed, Does, Invokes, Run, stop, act, child, Instance}
use Rattle.cilk_monoid.specs.Laws.{MonoidStructure}
use Rattle.cilk_determinacy.proofs.Blocks.{IsResume, IsResumed}
use Rattle.cilk_determinacy.specs.Machine.{Frame, Frames, deeds_at, HasEnd, HasSync, Ready, started, begun, block_view, own_view}
use Rattle.cilk_determinacy.specs.Serial.{IsClosed}
use Rattle.cilk_determinacy.specs.Cuts.{below, IsFull, IsCut, NoneStolen, WhenResumed, WhenStolen, block_after, own_after, Lies}
use Rattle.cilk_determinacy.proofs.Front.{Front, here_act, here_child, past_act, past_child, inside, grown, full_stuck}
use Rattle.cilk_determinacy.proofs.Find.{ended_full, ready_child, closed_act}
use Rattle.cilk_determinacy.proofs.Grows.{Grows, From, unmoved, front_from}

pub when_stolen_map : (b : Bool) (X Y X' Y' : Type 0) → (X → X') → (Y → Y') → WhenStolen b X Y → WhenStolen b X' Y'
when_stolen_map true X Y X' Y' f g h = f h
when_stolen_map false X Y X' Y' f g h = g h

pub front_nonempty : {W : Type 0} {c : Cell} {r : Run W} {k j : ℕ} {ds : List (Deed W)} {kids : ℕ → Frames W} {n m : Name} {a : Deed W} {x y : ℤ} {X : Type 0} → Front W c r k ds kids n a x y → n ≡ j ∷ m → ds ≡ [] → X
front_nonempty here_act p q = absurd (cc)
front_nonempty here_child p q = absurd (cc)
front_nonempty (past_act f) p q = absurd (cc)
front_nonempty (past_child h f) p q = absurd (cc)
front_nonempty (inside f) p q = absurd (cc)

abbrev pub under : {V : Type 0} → (Name → V) → ℕ → Name → V
under pcs k m = pcs (k ∷ m)

-- an event other than a resume, at a frame that holds its piece
own_same : {V : Type 0} (M : MonoidStructure V) (i : Instance) (e : Event) (B : V) (l : Bool) (last : V) (v : V) → ¬ (IsResume e) → own_view M i B l last e v ≡ own_after M i e B v
own_same M i (Reads c n) B l last v no' = refl
own_same M i (Writes c n) B l last v no' = refl
own_same M i Syncs B l last v no' = refl
own_same M i (Ends val gone) B l last v no' = refl
own_same M i (Passes Begins) B l last v no' = refl
own_same M i (Passes Resumes) B l last v no' = absurd (no' tt)
own_same M i (Passes (Updates j x)) B l last v no' = refl
own_same M i (Passes (Creates j)) B l last v no' = refl
own_same M i (Passes (Sets j x)) B l last v no' = refl
own_same M i (Passes (Values j n)) B l last v no' = refl
own_same M i (Passes (Prints x)) B l last v no' = refl

pub is_resume : (e : Event) → IsResume e → e ≡ Passes Resumes
is_resume (Reads c n) h = absurd h
is_resume (Writes c n) h = absurd h
is_resume Syncs h = absurd h
is_resume (Ends val gone) h = absurd h
is_resume (Passes Begins) h = absurd h
is_resume (Passes Resumes) h = refl
is_resume (Passes (Updates j x)) h = absurd h
is_resume (Passes (Creates j)) h = absurd h
is_resume (Passes (Sets j x)) h = absurd h
is_resume (Passes (Values j n)) h = absurd h
is_resume (Passes (Prints x)) h = absurd h

module _ {W V : Type 0} (M : MonoidStructure V) (i : Instance) where
  pub lies_nil : (r : Run W) (k : ℕ) (kids : ℕ → Frames W) (loose : Name → Bool) (pcs : Name → V) (acc p root : V) → root ≡ p → NoneStolen k loose → Lies M i r k [] kids loose pcs acc p root
  lies_nil stop k kids loose pcs acc p root q h = (q, h)
  lies_nil (act e r) k kids loose pcs acc p root q h = (q, h)
  lies_nil (child b w u r) k kids loose pcs acc p root q h = (q, h)

  pub from_nil : (r : Run W) (k : ℕ) (kids : ℕ → Frames W) (loose : Name → Bool) (pcs : Name → V) (acc p root : V) → Lies M i r k [] kids loose pcs acc p root → (root ≡ p) × NoneStolen k loose
  from_nil stop k kids loose pcs acc p root h = h
  from_nil (act e r) k kids loose pcs acc p root h = h
  from_nil (child b w u r) k kids loose pcs acc p root h = h

  pub when_resumed_map : (k : ℕ) (loose : Name → Bool) (ds : List (Deed W)) (X Y : Type 0) → (X → Y) → WhenResumed k loose ds X → WhenResumed k loose ds Y
  when_resumed_map k loose [] X Y f h = h
  when_resumed_map k loose (d ∷ ds) X Y f h = f h

  -- only the children from an ordinal on count
  pub lies_ext : (r : Run W) (k : ℕ) (ds : List (Deed W)) (kids kids' : ℕ → Frames W) (loose : Name → Bool) (pcs pcs' : Name → V) (acc p root : V) → ((j : ℕ) → k ≤ j → kids' j ≡ kids j) → ((j : ℕ) → k ≤ j → (m : Name) → pcs' (j ∷ m) ≡ pcs (j ∷ m)) → Lies M i r k ds kids loose pcs acc p root → Lies M i r k ds kids' loose pcs' acc p root
  lies_ext stop k [] kids kids' loose pcs pcs' acc p root e q h = h
  lies_ext stop k (d ∷ ds) kids kids' loose pcs pcs' acc p root e q h = h
  lies_ext (act a r) k [] kids kids' loose pcs pcs' acc p root e q h = h
  lies_ext (act a r) k (d ∷ ds) kids kids' loose pcs pcs' acc p root e q h = lies_ext r k ds kids kids' loose pcs pcs' _ _ root e q h
  lies_ext (child b w u r) k [] kids kids' loose pcs pcs' acc p root e q h = h
  lies_ext (child Call w u r) k (d ∷ ds) kids kids' loose pcs pcs' acc p root e q h =
      let t = sym (e k (le_refl k)) in
      let v = sym (fun_ext {A = Name} {B = λ m. V} (λ m. q k (le_refl k) m)) in (
        h.0,
        subst (λ (z : Name → V). Lies M i u 1 (deeds_at (kids' k [])) (below (kids' k)) (λ n. loose (k ∷ n)) z M.unit p (z [])) v (subst (λ (z : Frames W). Lies M i u 1 (deeds_at (z [])) (below z) (λ n. loose (k ∷ n)) (λ n. pcs (k ∷ n)) M.unit p (pcs (k ∷ []))) t h.1),
        when_resumed_map (suc k) loose ds _ _ (λ x. subst (λ (z : Name → V). Lies M i r (suc k) ds kids' loose pcs' acc (z []) root) v (lies_ext r (suc k) ds kids kids' loose pcs pcs' acc (pcs (k ∷ [])) root (λ j le. e j (omega arith)) (λ j le. q j (omega arith)) x)) h.2,
      )
  lies_ext (child Spawn w u r) k (d ∷ ds) kids kids' loose pcs pcs' acc p root e q h =
      let t = sym (e k (le_refl k)) in
      let v = sym (fun_ext {A = Name} {B = λ m. V} (λ m. q k (le_refl k) m)) in (
        subst (λ (z : Name → V). Lies M i u 1 (deeds_at (kids' k [])) (below (kids' k)) (λ n. loose (k ∷ n)) z M.unit p (z [])) v (subst (λ (z : Frames W). Lies M i u 1 (deeds_at (z [])) (below z) (λ n. loose (k ∷ n)) (λ n. pcs (k ∷ n)) M.unit p (pcs (k ∷ []))) t h.0),
        when_stolen_map (loose (k ∷ [])) _ _ _ _
            (λ x. subst (λ (z : Name → V). Lies M i r (suc k) ds kids' loose pcs' (M.combine acc (z [])) M.unit root) v (lies_ext r (suc k) ds kids kids' loose pcs pcs' _ _ root (λ j le. e j (omega arith)) (λ j le. q j (omega arith)) x))
            (when_resumed_map (suc k) loose ds _ _ (λ x. (subst (λ (z : Frames W). IsFull u 1 (deeds_at (z [])) (below z)) t x.0, subst (λ (z : Name → V). Lies M i r (suc k) ds kids' loose pcs' acc (z []) root) v (lies_ext r (suc k) ds kids kids' loose pcs pcs' acc (pcs (k ∷ [])) root (λ j le. e j (omega arith)) (λ j le. q j (omega arith)) x.1))))
            h.1,
      )

  -- the product at the block counts only from a sync on
  pub lies_acc : (r : Run W) (k : ℕ) (ds : List (Deed W)) (kids : ℕ → Frames W) (loose : Name → Bool) (pcs : Name → V) (acc acc' p root : V) → IsCut r k ds kids → ¬ (HasSync ds) → Lies M i r k ds kids loose pcs acc p root → Lies M i r k ds kids loose pcs acc' p root
  lies_acc stop k [] kids loose pcs acc acc' p root cut never h = h
  lies_acc stop k (d ∷ ds) kids loose pcs acc acc' p root cut never h = h
  lies_acc (act a r) k [] kids loose pcs acc acc' p root cut never h = h
  lies_acc (act (Reads c n) r) k (d ∷ ds) kids loose pcs acc acc' p root cut never h = lies_acc r k ds kids loose pcs acc acc' _ root cut.1 (rw cut.0 at never) h
  lies_acc (act (Writes c n) r) k (d ∷ ds) kids loose pcs acc acc' p root cut never h = lies_acc r k ds kids loose pcs acc acc' _ root cut.1 (rw cut.0 at never) h
  lies_acc (act Syncs r) k (d ∷ ds) kids loose pcs acc acc' p root cut never h = absurd ((rw cut.0 at never) tt)
  lies_acc (act (Ends val gone) r) k (d ∷ ds) kids loose pcs acc acc' p root cut never h = lies_acc r k ds kids loose pcs acc acc' _ root cut.1 (rw cut.0 at never) h
  lies_acc (act (Passes m) r) k (d ∷ ds) kids loose pcs acc acc' p root cut never h = lies_acc r k ds kids loose pcs acc acc' _ root cut.1 (rw cut.0 at never) h
  lies_acc (child b w u r) k [] kids loose pcs acc acc' p root cut never h = h
  lies_acc (child Call w u r) k (d ∷ ds) kids loose pcs acc acc' p root cut never h =
      (h.0, h.1, when_resumed_map (suc k) loose ds _ _ (lies_acc r (suc k) ds kids loose pcs acc acc' _ root cut.4 (rw cut.0 at never)) h.2)
  lies_acc (child Spawn w u r) k (d ∷ ds) kids loose pcs acc acc' p root cut never h = (
    h.0,
    when_stolen_map (loose (k ∷ [])) _ _ _ _
        (lies_acc r (suc k) ds kids loose pcs _ _ _ root cut.4 (rw cut.0 at never))
        (when_resumed_map (suc k) loose ds _ _ (λ x. (x.0, lies_acc r (suc k) ds kids loose pcs acc acc' _ root cut.4 (rw cut.0 at never) x.1)))
        h.1,
  )

  block_act : (kid : ℕ → V) (loose : ℕ → Bool) (acc : V) (k : ℕ) (d : Deed W) (ds : List (Deed W)) (e : Event) → d ≡ Does e → block_view M kid loose acc k (d ∷ ds) ≡ block_view M kid loose (block_after M e acc) k ds
  block_act kid loose acc k d ds (Reads c n) q = rw q refl
  block_act kid loose acc k d ds (Writes c n) q = rw q refl
  block_act kid loose acc k d ds Syncs q = rw q refl
  block_act kid loose acc k d ds (Ends val gone) q = rw q refl
  block_act kid loose acc k d ds (Passes m) q = rw q refl

  -- frame n's deed changes one instance's views: root of this frame to root', and pcs of those
  -- below it to pcs'
  abbrev pub Moved : Name → Deed W → (Name → Bool) → V → ℕ → (ℕ → Frames W) → (Name → V) → V → (Name → V) → V → Type 0
  Moved [] (Does e) loose B K kids pcs root pcs' root' =
      (root' ≡ own_view M i B (loose (pred K ∷ [])) (pcs (pred K ∷ [])) e root) × ((j : ℕ) (m : Name) → pcs' (j ∷ m) ≡ pcs (j ∷ m))
  Moved [] (Invokes b w) loose B K kids pcs root pcs' root' =
      (root' ≡ root) × (pcs' (K ∷ []) ≡ root) × ((j : ℕ) (m : Name) → (j ≡ K → ⊥) → pcs' (j ∷ m) ≡ pcs (j ∷ m))
  Moved (j ∷ m) a loose B K kids pcs root pcs' root' =
      (root' ≡ root)
      × ((h : ℕ) (n : Name) → (h ≡ j → ⊥) → pcs' (h ∷ n) ≡ pcs (h ∷ n))
      × Moved m a (λ n. loose (j ∷ n)) (block_view M (λ h. pcs (j ∷ h ∷ [])) (λ h. loose (j ∷ h ∷ [])) M.unit 1 (deeds_at (kids j []))) (suc (started (deeds_at (kids j [])))) (below (kids j)) (λ n. pcs (j ∷ n)) (pcs (j ∷ [])) (λ n. pcs' (j ∷ n)) (pcs' (j ∷ []))

  kept_views : (n : Name) (a : Deed W) (loose : Name → Bool) (B : V) (K : ℕ) (kids : ℕ → Frames W) (pcs pcs' : Name → V) (root root' : V) (k : ℕ) → From (suc k) n → suc k ≤ K → Moved n a loose B K kids pcs root pcs' root' → under pcs k ≡ under pcs' k
  kept_views [] (Does e) loose B K kids pcs pcs' root root' k from le mv = fun_ext (λ m. sym (mv.1 k m))
  kept_views [] (Invokes b w) loose B K kids pcs pcs' root root' k from le mv = fun_ext (λ m. sym (mv.2 k m (λ q. omega arith)))
  kept_views (j ∷ l) a loose B K kids pcs pcs' root root' k from le mv = fun_ext (λ m. sym (mv.1 k m (λ q. omega arith)))

  -- the frame at the front isn't waiting
  abbrev pub Rests : (Name → Bool) → Ask W → List (Deed W) → ℕ → (ℕ → Frames W) → Name → Type 0
  Rests loose a ds k kids [] = Ready (λ j. kids j []) (λ j. loose (j ∷ [])) a k ds
  Rests loose a ds k kids (j ∷ m) = (f : Frame W) × (kids j m ≡ Some f) × Ready (λ h. kids j (m ++ h ∷ [])) (λ h. loose (j ∷ (m ++ h ∷ []))) a 1 f.deeds

  rests_act : (loose : Name → Bool) (a : Ask W) (d : Deed W) (ds : List (Deed W)) (e : Event) (k : ℕ) (kids : ℕ → Frames W) (n : Name) → d ≡ Does e → Rests loose a (d ∷ ds) k kids n → Rests loose a ds k kids n
  rests_act loose a d ds e k kids [] q h = rw q at h
  rests_act loose a d ds e k kids (j ∷ m) q h = h

  rests_child : (loose : Name → Bool) (a : Ask W) (b : Invocation) (w : W) (d : Deed W) (ds : List (Deed W)) (k : ℕ) (kids : ℕ → Frames W) (n : Name) → d ≡ Invokes b w → Rests loose a (d ∷ ds) k kids n → Rests loose a ds (suc k) kids n
  rests_child loose a b w d ds k kids [] q h = ready_child b w (λ t. kids t []) (λ t. loose (t ∷ [])) a k ds (rw q at h)
  rests_child loose a b w d ds k kids (j ∷ m) q h = h

  rests_inside : (loose : Name → Bool) (a : Ask W) (ds : List (Deed W)) (k j : ℕ) (kids : ℕ → Frames W) (m : Name) → Rests loose a ds k kids (j ∷ m) → Rests (λ n. loose (j ∷ n)) a (deeds_at (kids j [])) 1 (below (kids j)) m
  rests_inside loose a ds k j kids [] (f, q, h) = rw q h
  rests_inside loose a ds k j kids (l ∷ m) h = h

  abbrev pub NotFirst : Bool → List (Deed W) → Type 0
  NotFirst false ds = Unit {0}
  NotFirst true [] = ⊥
  NotFirst true (d ∷ ds) = Unit {0}

  pub resumed_parts : (b : Bool) (h : Invocation) (w : W) (u r : Run W) → IsResumed b (child h w u r) → IsResumed false u × IsResumed true r
  resumed_parts true h w u r res = absurd res
  resumed_parts false h w u r res = res

  grown_cons : (n : Name) (d : Deed W) (ds : List (Deed W)) (a : Deed W) → grown n (d ∷ ds) a ≡ d ∷ grown n ds a
  grown_cons [] d ds a = refl
  grown_cons (j ∷ m) d ds a = refl

  block_call : (kid : ℕ → V) (loose : ℕ → Bool) (acc : V) (k : ℕ) (d : Deed W) (ds : List (Deed W)) (w : W) → d ≡ Invokes Call w → block_view M kid loose acc k (d ∷ ds) ≡ block_view M kid loose acc (suc k) ds
  block_call kid loose acc k d ds w q = rw q refl

  block_spawn : (kid : ℕ → V) (loose : ℕ → Bool) (acc : V) (k : ℕ) (d : Deed W) (ds : List (Deed W)) (w : W) (b : Bool) → d ≡ Invokes Spawn w → loose k ≡ b → block_view M kid loose acc k (d ∷ ds) ≡ block_view M kid loose (cond b (M.combine acc (kid k)) acc) (suc k) ds
  block_spawn kid loose acc k d ds w b q e = rw (q, e) refl

  -- the views below a child that isn't touched
  pub lies_moved : (u : Run W) (k : ℕ) (kids kids' : ℕ → Frames W) (loose : Name → Bool) (pcs pcs' : Name → V) (p : V) → kids k ≡ kids' k → under pcs k ≡ under pcs' k → Lies M i u 1 (deeds_at (kids k [])) (below (kids k)) (λ n. loose (k ∷ n)) (λ n. pcs (k ∷ n)) M.unit p (pcs (k ∷ [])) → Lies M i u 1 (deeds_at (kids' k [])) (below (kids' k)) (λ n. loose (k ∷ n)) (λ n. pcs' (k ∷ n)) M.unit p (pcs' (k ∷ []))
  lies_moved u k kids kids' loose pcs pcs' p t v h =
      subst (λ (z : Name → V). Lies M i u 1 (deeds_at (kids' k [])) (below (kids' k)) (λ n. loose (k ∷ n)) z M.unit p (z [])) v (subst (λ (z : Frames W). Lies M i u 1 (deeds_at (z [])) (below z) (λ n. loose (k ∷ n)) (λ n. pcs (k ∷ n)) M.unit p (pcs (k ∷ []))) t h)

  pub resumed_rest : (b : Bool) (e : Event) (r : Run W) → IsResumed b (act e r) → IsResumed false r
  resumed_rest true e r h = h.1
  resumed_rest false e r h = h.1

module _ {W V : Type 0} (M : MonoidStructure V) (i : Instance) (loose : Name → Bool) (a : Deed W) (B : V) (K : ℕ) (kids kids' : ℕ → Frames W) (pcs pcs' : Name → V) (root root' : V) where
  -- the frame that resumes, by its flag
  resumed_root : (k : ℕ) (b : Bool) (q : V) → a ≡ Does (Passes Resumes) → K ≡ suc k → loose (k ∷ []) ≡ b → cond b root (pcs (k ∷ [])) ≡ q → Moved M i [] a loose B K kids pcs root pcs' root' → root' ≡ q
  resumed_root k b q is at flag e mv =
      let m : Moved M i [] (Does (Passes Resumes)) loose B K kids pcs root pcs' root' = subst (λ z. Moved M i [] z loose B K kids pcs root pcs' root') is mv in
      let p : pred K ≡ k = rw at refl in
      m.0 ∙ ap (λ z. cond (loose (z ∷ [])) root (pcs (z ∷ []))) p ∙ ap (λ z. cond z root (pcs (k ∷ []))) flag ∙ e

module _ {W V : Type 0} (M : MonoidStructure V) (i : Instance) {c : Cell} where
  pub front_resume : {r : Run W} {k : ℕ} {kids : ℕ → Frames W} {a : Deed W} {x y : ℤ} → Front W c r k [] kids [] a x y → IsResumed true r → a ≡ Does (Passes Resumes)
  front_resume (here_act {e = e}) h = ap Does (is_resume e h.0)
  front_resume here_child h = absurd h

  resume_step : {r : Run W} {k : ℕ} {kids : ℕ → Frames W} {a : Deed W} {x y : ℤ} → Front W c r k [] kids [] a x y → IsResumed true r → (kids' : ℕ → Frames W) (loose : Name → Bool) (pcs' : Name → V) (acc q root' : V) → root' ≡ q → NoneStolen k loose → Lies M i r k (a ∷ []) kids' loose pcs' acc q root'
  resume_step (here_act {e = e} {r = r} {k = k}) h kids' loose pcs' acc q root' at none =
      let is : e ≡ Passes Resumes = is_resume e h.0 in
      rw is (lies_nil M i r k kids' loose pcs' acc q root' at none)
  resume_step here_child h kids' loose pcs' acc q root' at none = absurd h

  module _ (loose : Name → Bool) (a : Deed W) (B : V) (K : ℕ) (kids kids' : ℕ → Frames W) (pcs pcs' : Name → V) (root root' : V) where
    -- what follows a child that was not left to a thief
    called_rest : {r : Run W} {k : ℕ} {x y : ℤ} (n : Name) (ds : List (Deed W)) (acc : V) → Front W c r (suc k) ds kids n a x y → IsResumed true r → K ≡ suc k + started ds → Moved M i n a loose B K kids pcs root pcs' root' → loose (k ∷ []) ≡ false → pcs (k ∷ []) ≡ pcs' (k ∷ []) → (NotFirst {W = W} M i true ds → Lies M i r (suc k) ds kids loose pcs acc (pcs (k ∷ [])) root → Lies M i r (suc k) (grown n ds a) kids' loose pcs' acc (pcs (k ∷ [])) root') → WhenResumed (suc k) loose ds (Lies M i r (suc k) ds kids loose pcs acc (pcs (k ∷ [])) root) → WhenResumed (suc k) loose (grown n ds a) (Lies M i r (suc k) (grown n ds a) kids' loose pcs' acc (pcs' (k ∷ [])) root')
    called_rest {r = r} {k = k} [] [] acc f res at mv flag same ih h =
        let e : root' ≡ pcs' (k ∷ []) = resumed_root M i loose a B K kids kids' pcs pcs' root root' k false (pcs (k ∷ [])) (front_resume f res) (omega arith) flag refl mv ∙ same in
        resume_step f res kids' loose pcs' acc (pcs' (k ∷ [])) root' e h
    called_rest (j ∷ m) [] acc f res at mv flag same ih h = front_nonempty f refl refl
    called_rest {r = r} {k = k} [] (d ∷ ds) acc f res at mv flag same ih h = subst (λ z. Lies M i r (suc k) (d ∷ (ds ++ a ∷ [])) kids' loose pcs' acc z root') same (ih tt h)
    called_rest {r = r} {k = k} (j ∷ m) (d ∷ ds) acc f res at mv flag same ih h = subst (λ z. Lies M i r (suc k) (d ∷ ds) kids' loose pcs' acc z root') same (ih tt h)

    -- what follows a child whose continuation was stolen
    stolen_rest : {r : Run W} {k : ℕ} {x y : ℤ} (n : Name) (ds : List (Deed W)) (acc acc' : V) → Front W c r (suc k) ds kids n a x y → IsResumed true r → K ≡ suc k + started ds → Moved M i n a loose B K kids pcs root pcs' root' → loose (k ∷ []) ≡ true → acc ≡ acc' → (NotFirst {W = W} M i true ds → Lies M i r (suc k) ds kids loose pcs acc M.unit root → Lies M i r (suc k) (grown n ds a) kids' loose pcs' acc M.unit root') → Lies M i r (suc k) ds kids loose pcs acc M.unit root → Lies M i r (suc k) (grown n ds a) kids' loose pcs' acc' M.unit root'
    stolen_rest {r = r} {k = k} [] [] acc acc' f res at mv flag same ih h =
        let old = from_nil M i r (suc k) kids loose pcs acc M.unit root h in
        let e : root' ≡ M.unit = resumed_root M i loose a B K kids kids' pcs pcs' root root' k true M.unit (front_resume f res) (omega arith) flag old.0 mv in
        resume_step f res kids' loose pcs' acc' M.unit root' e old.1
    stolen_rest (j ∷ m) [] acc acc' f res at mv flag same ih h = front_nonempty f refl refl
    stolen_rest {r = r} {k = k} [] (d ∷ ds) acc acc' f res at mv flag same ih h = subst (λ z. Lies M i r (suc k) (d ∷ (ds ++ a ∷ [])) kids' loose pcs' z M.unit root') same (ih tt h)
    stolen_rest {r = r} {k = k} (j ∷ m) (d ∷ ds) acc acc' f res at mv flag same ih h = subst (λ z. Lies M i r (suc k) (d ∷ ds) kids' loose pcs' z M.unit root') same (ih tt h)

  -- a spawned child whose continuation is resumed and was not stolen has ended
  full_now : {r : Run W} {k : ℕ} {a : Deed W} {kids : ℕ → Frames W} {x y : ℤ} (n : Name) (d : Deed W) (ds : List (Deed W)) (w : W) (u : Run W) (loose : Name → Bool) (ask : Ask W) (Y : Type 0) → Front W c r (suc k) ds kids n a x y → d ≡ Invokes Spawn w → loose (k ∷ []) ≡ false → Rests M i loose ask (d ∷ ds) k kids n → (HasEnd (deeds_at (kids k [])) → IsFull u 1 (deeds_at (kids k [])) (below (kids k))) → WhenResumed (suc k) loose ds (IsFull u 1 (deeds_at (kids k [])) (below (kids k)) × Y) → IsFull u 1 (deeds_at (kids k [])) (below (kids k))
  full_now {k = k} {kids = kids} [] d [] w u loose ask Y f q flag rests ended h =
      let ready : Ready (λ t. kids t []) (λ t. loose (t ∷ [])) ask k (Invokes Spawn w ∷ []) = rw q at rests in
      ⊎_elim ended (λ e. let z : true ≡ false = sym e ∙ flag in absurd (cc)) (ready.0 refl)
  full_now (j ∷ m) d [] w u loose ask Y f q flag rests ended h = front_nonempty f refl refl
  full_now n d (e ∷ ds) w u loose ask Y f q flag rests ended h = h.0

  -- the pieces with the deed at the front
  pub lies_step : {r : Run W} {k : ℕ} {ds : List (Deed W)} {kids : ℕ → Frames W} {n : Name} {a : Deed W} {x y : ℤ} → Front W c r k ds kids n a x y → IsCut r k ds kids → IsClosed r → (b : Bool) → NotFirst {W = W} M i b ds → IsResumed b r → (loose : Name → Bool) (ask : Ask W) → Rests M i loose ask ds k kids n → (acc B p : V) (pcs : Name → V) (root : V) → B ≡ block_view M (λ h. pcs (h ∷ [])) (λ h. loose (h ∷ [])) acc k ds → Lies M i r k ds kids loose pcs acc p root → (K : ℕ) (kids' : ℕ → Frames W) → K ≡ k + started ds → Grows n a K kids kids' → (pcs' : Name → V) (root' : V) → Moved M i n a loose B K kids pcs root pcs' root' → Lies M i r k (grown n ds a) kids' loose pcs' acc p root'
  lies_step (here_act {e = e} {r = r} {k = k} {kids = kids}) cut closed true not res loose ask rests acc B p pcs root be lies K kids' at g pcs' root' mv = absurd not
  lies_step (here_act {e = e} {r = r} {k = k} {kids = kids}) cut closed false not res loose ask rests acc B p pcs root be lies K kids' at g pcs' root' mv =
      lies_nil M i r k kids' loose pcs' _ _ root' (mv.0 ∙ own_same M i e B (loose (pred K ∷ [])) (pcs (pred K ∷ [])) root res.0 ∙ ap (λ z. own_after M i e z root) be ∙ ap (own_after M i e acc) lies.0) lies.1
  lies_step here_child cut closed true not res loose ask rests acc B p pcs root be lies K kids' at g pcs' root' mv = absurd not
  lies_step (here_child {i = Call} {w = w} {u = u} {r = r} {k = k} {kids = kids}) cut closed false not res loose ask rests acc B p pcs root be lies K kids' at g pcs' root' mv =
      let here : K ≡ k = omega arith in
      let first : kids' k [] ≡ Some (begun w) = subst (λ t. kids' t [] ≡ Some (begun w)) here g.1 in
      let view : pcs' (k ∷ []) ≡ p = ap (λ t. pcs' (t ∷ [])) (sym here) ∙ mv.1 ∙ lies.0 in (
        lies.1 k (le_refl k) [],
        rw first (lies_nil M i u 1 (below (kids' k)) (λ n. loose (k ∷ n)) (λ n. pcs' (k ∷ n)) M.unit p (pcs' (k ∷ [])) view (λ j le m. lies.1 k (le_refl k) (j ∷ m))),
        λ j le m. lies.1 j (omega arith) m,
      )
  lies_step (here_child {i = Spawn} {w = w} {u = u} {r = r} {k = k} {kids = kids}) cut closed false not res loose ask rests acc B p pcs root be lies K kids' at g pcs' root' mv =
      let here : K ≡ k = omega arith in
      let first : kids' k [] ≡ Some (begun w) = subst (λ t. kids' t [] ≡ Some (begun w)) here g.1 in
      let view : pcs' (k ∷ []) ≡ p = ap (λ t. pcs' (t ∷ [])) (sym here) ∙ mv.1 ∙ lies.0 in
      let flag : loose (k ∷ []) ≡ false = lies.1 k (le_refl k) [] in (
        rw first (lies_nil M i u 1 (below (kids' k)) (λ n. loose (k ∷ n)) (λ n. pcs' (k ∷ n)) M.unit p (pcs' (k ∷ [])) view (λ j le m. lies.1 k (le_refl k) (j ∷ m))),
        rw flag (λ j le m. lies.1 j (omega arith) m),
      )
  lies_step (past_act {e = e} {r = r} {k = k} {d = d} {ds = ds} {kids = kids} {n = n} {a = a} f) cut closed b not res loose ask rests acc B p pcs root be lies K kids' at g pcs' root' mv =
      rw (grown_cons M i n d ds a)
      (lies_step f cut.1 (closed_act e r closed) false tt (resumed_rest M i b e r res) loose ask (rests_act M i loose ask d ds e k kids n cut.0 rests) (block_after M e acc) B (own_after M i e acc p) pcs root (be ∙ block_act M i (λ h. pcs (h ∷ [])) (λ h. loose (h ∷ [])) acc k d ds e cut.0) lies K kids' (rw cut.0 at at) g pcs' root' mv)
  lies_step (past_child {i = Call} {w = w} {u = u} {r = r} {k = k} {d = d} {ds = ds} {kids = kids} {n = n} {a = a} q f) cut closed b not res loose ask rests acc B p pcs root be lies K kids' at g pcs' root' mv =
      let at1 : K ≡ k + suc (started ds) = rw cut.0 at at in
      let at2 : K ≡ suc k + started ds = omega arith in
      let more : suc k ≤ K = omega arith in
      let views = kept_views M i n a loose B K kids pcs pcs' root root' k (front_from f) more mv in
      let parts = resumed_parts M i b Call w u r res in
      rw (grown_cons M i n d ds a) (
        lies.0,
        lies_moved M i u k kids kids' loose pcs pcs' p (sym (unmoved n a k K kids kids' (front_from f) more g)) views lies.1,
        called_rest loose a B K kids kids' pcs pcs' root root' n ds acc f parts.1 at2 mv lies.0 (ap (λ (z : Name → V). z []) views)
            (λ nf h. lies_step f cut.4 closed.2 true nf parts.1 loose ask (rests_child M i loose ask Call w d ds k kids n cut.0 rests) acc B (pcs (k ∷ [])) pcs root (be ∙ block_call M i (λ h. pcs (h ∷ [])) (λ h. loose (h ∷ [])) acc k d ds w cut.0) h K kids' at2 g pcs' root' mv)
            lies.2,
      )
  lies_step (past_child {i = Spawn} {w = w} {u = u} {r = r} {k = k} {d = d} {ds = ds} {kids = kids} {n = n} {a = a} q f) cut closed b not res loose ask rests acc B p pcs root be lies K kids' at g pcs' root' mv =
      let at1 : K ≡ k + suc (started ds) = rw cut.0 at at in
      let at2 : K ≡ suc k + started ds = omega arith in
      let more : suc k ≤ K = omega arith in
      let views = kept_views M i n a loose B K kids pcs pcs' root root' k (front_from f) more mv in
      let same = sym (unmoved n a k K kids kids' (front_from f) more g) in
      let parts = resumed_parts M i b Spawn w u r res in
      let rests' = rests_child M i loose ask Spawn w d ds k kids n cut.0 rests in
      rw (grown_cons M i n d ds a) (
        lies_moved M i u k kids kids' loose pcs pcs' p same views lies.0,
        ⊎_elim
            (λ flag. rw flag
            (stolen_rest loose a B K kids kids' pcs pcs' root root' n ds (M.combine acc (pcs (k ∷ []))) (M.combine acc (pcs' (k ∷ []))) f parts.1 at2 mv flag (ap (λ (z : Name → V). M.combine acc (z [])) views)
            (λ nf h. lies_step f cut.4 closed.2 true nf parts.1 loose ask rests' (M.combine acc (pcs (k ∷ []))) B M.unit pcs root (be ∙ block_spawn M i (λ h. pcs (h ∷ [])) (λ h. loose (h ∷ [])) acc k d ds w true cut.0 flag) h K kids' at2 g pcs' root' mv)
            (rw flag at lies.1)))
            (λ flag. rw flag
            (let old = rw flag at lies.1 in
            let full = full_now n d ds w u loose ask _ f cut.0 flag rests (ended_full u 1 (deeds_at (kids k [])) (below (kids k)) cut.2 closed.1) old in
            when_resumed_map M i (suc k) loose (grown n ds a) _ _ (λ y. (subst (λ (z : Frames W). IsFull u 1 (deeds_at (z [])) (below z)) same full, y))
            (called_rest loose a B K kids kids' pcs pcs' root root' n ds acc f parts.1 at2 mv flag (ap (λ (z : Name → V). z []) views)
            (λ nf h. lies_step f cut.4 closed.2 true nf parts.1 loose ask rests' acc B (pcs (k ∷ [])) pcs root (be ∙ block_spawn M i (λ h. pcs (h ∷ [])) (λ h. loose (h ∷ [])) acc k d ds w false cut.0 flag) h K kids' at2 g pcs' root' mv)
            (when_resumed_map M i (suc k) loose ds _ _ (λ y. y.1) old))))
            (cases_Bool (loose (k ∷ []))),
      )
  lies_step (inside {i = Call} {w = w} {u = u} {r = r} {k = k} {d = d} {ds = e ∷ ds} {kids = kids} {m = m} {a = a} f) cut closed b not res loose ask rests acc B p pcs root be lies K kids' at g pcs' root' mv = absurd (full_stuck f (cut.3 tt))
  lies_step (inside {i = Call} {w = w} {u = u} {r = r} {k = k} {d = d} {ds = []} {kids = kids} {m = m} {a = a} f) cut closed b not res loose ask rests acc B p pcs root be lies K kids' at g pcs' root' mv =
      let inner = lies_step f cut.2 closed.1 false tt (resumed_parts M i b Call w u r res).0 (λ n. loose (k ∷ n)) ask (rests_inside M i loose ask (d ∷ []) k k kids m rests) M.unit _ p (λ n. pcs (k ∷ n)) (pcs (k ∷ [])) refl lies.1 (suc (started (deeds_at (kids k [])))) (below (kids' k)) (omega arith) g.3 (λ n. pcs' (k ∷ n)) (pcs' (k ∷ [])) mv.2 in
      (lies.0, rw g.2 inner, lies.2)
  lies_step (inside {i = Spawn} {w = w} {u = u} {r = r} {k = k} {d = d} {ds = ds} {kids = kids} {m = m} {a = a} f) cut closed b not res loose ask rests acc B p pcs root be lies K kids' at g pcs' root' mv =
      let inner = lies_step f cut.2 closed.1 false tt (resumed_parts M i b Spawn w u r res).0 (λ n. loose (k ∷ n)) ask (rests_inside M i loose ask (d ∷ ds) k k kids m rests) M.unit _ p (λ n. pcs (k ∷ n)) (pcs (k ∷ [])) refl lies.0 (suc (started (deeds_at (kids k [])))) (below (kids' k)) (omega arith) g.3 (λ n. pcs' (k ∷ n)) (pcs' (k ∷ [])) mv.2 in (
        rw g.2 inner,
        when_stolen_map (loose (k ∷ [])) _ _ _ _
            (λ h. subst (λ z. Lies M i r (suc k) ds kids' loose pcs' (M.combine acc (pcs' (k ∷ []))) M.unit z) (sym mv.0)
            (lies_ext M i r (suc k) ds kids kids' loose pcs pcs' _ M.unit root (λ j le. g.0 j (λ q. omega arith)) (λ j le n. mv.1 j n (λ q. omega arith))
            (lies_acc M i r (suc k) ds kids loose pcs _ _ M.unit root cut.4 (λ s. full_stuck f (cut.3 s)) h)))
            (when_resumed_map M i (suc k) loose ds _ _ (λ h. absurd (full_stuck f h.0)))
            lies.1,
      )
