-- The place of a cut's frame in the serial run.
use Rattle.std.proofs.Common.{◌≡◌, ℕ, suc, List, [], ◌∷◌, ◌++◌, refl, sym, ap, ◌∙◌, inl, inr, ⊎_elim, ℤ}
use Rattle.std.proofs.lemmas.Bool.{cases_Bool, cond-false}
use Rattle.cilk_types.specs.declared.invocation.Invocation.{Invocation}
use Rattle.cilk_types.specs.declared.invocation.Invocation.TheVariants.{Call, Spawn}
use Rattle.cilk_determinacy.specs.Runs.{Name, Cell, same_cell, Event, Reads, Writes, Syncs, Ends, Passes, Deed, Does, Invokes, Run, stop, act, child}
use Rattle.cilk_determinacy.specs.Machine.{Frames, deeds_at, HasSync, put}
use Rattle.cilk_determinacy.specs.Serial.{value_after}
use Rattle.cilk_determinacy.specs.Views.{HasEventWith}
use Rattle.cilk_determinacy.proofs.Blocks.{IsAccess, IsWrite, IsSync, HasInBlockWith, ApartIf, RaceFree}
use Rattle.cilk_determinacy.specs.Cuts.{below, IsFull, IsPast, IsCut, made}
use Rattle.cilk_determinacy.proofs.Basics.{same_cell-eq, has_sync, more_sync}

-- the deeds of the frame at the top after one more deed of frame n
abbrev pub grown : {W : Type 0} → Name → List (Deed W) → Deed W → List (Deed W)
grown [] ds d = ds ++ d ∷ []
grown (j ∷ m) ds d = ds

-- Frame n, by its name below the top frame, is at its deed e of the serial run. There cell c holds
-- y, and it held x when the run began. The frame doesn't wait: what must have ended before e has.
pub data Front (W : Type 0) (c : Cell) : Run W → ℕ → List (Deed W) → (ℕ → Frames W) → Name → Deed W → ℤ → ℤ → Type 0 where
  here_act : {e : Event} {r : Run W} {k : ℕ} {kids : ℕ → Frames W} {x : ℤ} → Front W c (act e r) k [] kids [] (Does e) x x
  here_child : {i : Invocation} {w : W} {u r : Run W} {k : ℕ} {kids : ℕ → Frames W} {x : ℤ} → Front W c (child i w u r) k [] kids [] (Invokes i w) x x
  past_act : {e : Event} {r : Run W} {k : ℕ} {d : Deed W} {ds : List (Deed W)} {kids : ℕ → Frames W} {n : Name} {a : Deed W} {x y : ℤ} → Front W c r k ds kids n a (put e c x) y → Front W c (act e r) k (d ∷ ds) kids n a x y
  past_child : {i : Invocation} {w : W} {u r : Run W} {k : ℕ} {d : Deed W} {ds : List (Deed W)} {kids : ℕ → Frames W} {n : Name} {a : Deed W} {x y : ℤ} → (IsPast i (grown n ds a) → IsFull u 1 (deeds_at (kids k [])) (below (kids k))) → Front W c r (suc k) ds kids n a (value_after u c x) y → Front W c (child i w u r) k (d ∷ ds) kids n a x y
  inside : {i : Invocation} {w : W} {u r : Run W} {k : ℕ} {d : Deed W} {ds : List (Deed W)} {kids : ℕ → Frames W} {m : Name} {a : Deed W} {x y : ℤ} → Front W c u 1 (deeds_at (kids k [])) (below (kids k)) m a x y → Front W c (child i w u r) k (d ∷ ds) kids (k ∷ m) a x y

pub no_sync_here : {W : Type 0} (e : Event) (d : Deed W) (ds : List (Deed W)) → d ≡ Does e → ¬ (HasSync (d ∷ ds)) → ¬ (IsSync e) × ¬ (HasSync ds)
no_sync_here (Reads a v) d ds q h = (λ z. z, rw q at h)
no_sync_here (Writes a v) d ds q h = (λ z. z, rw q at h)
no_sync_here Syncs d ds q h = absurd ((rw q at h) tt)
no_sync_here (Ends val gone) d ds q h = (λ z. z, rw q at h)
no_sync_here (Passes m) d ds q h = (λ z. z, rw q at h)

pub no_sync_child : {W : Type 0} (i : Invocation) (w : W) (d : Deed W) (ds : List (Deed W)) → d ≡ Invokes i w → ¬ (HasSync (d ∷ ds)) → ¬ (HasSync ds)
no_sync_child i w d ds q h = rw q at h

pub grown_sync : {W : Type 0} (n : Name) (ds : List (Deed W)) (a : Deed W) → HasSync ds → HasSync (grown n ds a)
grown_sync [] ds a h = more_sync ds a h
grown_sync (j ∷ m) ds a h = h

module _ {W : Type 0} {c : Cell} where
  -- nothing is left to do in a run that is done
  pub full_stuck : {r : Run W} {k : ℕ} {ds : List (Deed W)} {kids : ℕ → Frames W} {n : Name} {a : Deed W} {x y : ℤ} → Front W c r k ds kids n a x y → IsFull r k ds kids → ⊥
  full_stuck here_act h = h
  full_stuck here_child h = h
  full_stuck (past_act f) h = full_stuck f h
  full_stuck (past_child p f) h = full_stuck f h.1
  full_stuck (inside f) h = full_stuck f h.0

  -- the next deed is an event of the run
  pub front_event : (P : Event → Type 0) {r : Run W} {k : ℕ} {ds : List (Deed W)} {kids : ℕ → Frames W} {n : Name} {e : Event} {x y : ℤ} → Front W c r k ds kids n (Does e) x y → P e → HasEventWith P r
  front_event P here_act h = inl h
  front_event P (past_act f) h = inr (front_event P f h)
  front_event P (past_child p f) h = inr (front_event P f h)
  front_event P (inside f) h = inl (front_event P f h)

  -- as long as no sync is made it lies in the block in which the run begins
  pub front_in_block : (P : Event → Type 0) {r : Run W} {k : ℕ} {ds : List (Deed W)} {kids : ℕ → Frames W} {n : Name} {e : Event} {x y : ℤ} → Front W c r k ds kids n (Does e) x y → IsCut r k ds kids → ¬ (HasSync ds) → P e → HasInBlockWith P r
  front_in_block P here_act cut never h = inl h
  front_in_block P (past_act {e = a} {d = d} {ds = ds} f) cut never h =
      let q = no_sync_here a d ds cut.0 never in
      inr (q.0, front_in_block P f cut.1 q.1 h)
  front_in_block P (past_child {i = i} {w = w} {d = d} {ds = ds} p f) cut never h = inr (front_in_block P f cut.4 (no_sync_child i w d ds cut.0 never) h)
  front_in_block P (inside f) cut never h = inl (front_event P f h)

-- an event that doesn't write a cell leaves it
pub put_other : (e : Event) (c : Cell) (x : ℤ) → ¬ (IsWrite e c) → put e c x ≡ x
put_other (Reads d v) c x never = refl
put_other (Writes d v) c x never = ⊎_elim (λ t. absurd (never (same_cell-eq d c t))) (λ f. cond-false (same_cell d c) v x f) (cases_Bool (same_cell d c))
put_other Syncs c x never = refl
put_other (Ends val gone) c x never = refl
put_other (Passes m) c x never = refl

module _ {W : Type 0} (c : Cell) where
  -- a run without a write of the cell leaves it, and so does a part of it
  pub value_quiet : (r : Run W) (x : ℤ) → ¬ (HasEventWith (λ e. IsWrite e c) r) → value_after r c x ≡ x
  value_quiet stop x never = refl
  value_quiet (act e r) x never = value_quiet r (put e c x) (λ h. never (inr h)) ∙ put_other e c x (λ h. never (inl h))
  value_quiet (child i w u r) x never = value_quiet r (value_after u c x) (λ h. never (inr h)) ∙ value_quiet u x (λ h. never (inl h))

  pub made_quiet : (r : Run W) (k : ℕ) (ds : List (Deed W)) (kids : ℕ → Frames W) (x : ℤ) → ¬ (HasEventWith (λ e. IsWrite e c) r) → made r k ds kids c x ≡ x
  made_quiet stop k ds kids x never = refl
  made_quiet (act e r) k [] kids x never = refl
  made_quiet (act e r) k (d ∷ ds) kids x never = made_quiet r k ds kids (put e c x) (λ h. never (inr h)) ∙ put_other e c x (λ h. never (inl h))
  made_quiet (child i w u r) k [] kids x never = refl
  made_quiet (child i w u r) k (d ∷ ds) kids x never =
      made_quiet r (suc k) ds kids (made u 1 (deeds_at (kids k [])) (below (kids k)) c x) (λ h. never (inr h)) ∙ made_quiet u 1 (deeds_at (kids k [])) (below (kids k)) x (λ h. never (inl h))

  pub made_nil : (r : Run W) (k : ℕ) (kids : ℕ → Frames W) (x : ℤ) → made r k [] kids c x ≡ x
  made_nil stop k kids x = refl
  made_nil (act e r) k kids x = refl
  made_nil (child i w u r) k kids x = refl

  -- the same in the first block
  pub block_quiet : (r : Run W) (k : ℕ) (ds : List (Deed W)) (kids : ℕ → Frames W) (x : ℤ) → IsCut r k ds kids → ¬ (HasSync ds) → ¬ (HasInBlockWith (λ e. IsWrite e c) r) → made r k ds kids c x ≡ x
  block_quiet stop k ds kids x cut none never = refl
  block_quiet (act e r) k [] kids x cut none never = refl
  block_quiet (act e r) k (d ∷ ds) kids x cut none never =
      let q = no_sync_here e d ds cut.0 none in
      block_quiet r k ds kids (put e c x) cut.1 q.1 (λ h. never (inr (q.0, h))) ∙ put_other e c x (λ h. never (inl h))
  block_quiet (child i w u r) k [] kids x cut none never = refl
  block_quiet (child i w u r) k (d ∷ ds) kids x cut none never =
      block_quiet r (suc k) ds kids (made u 1 (deeds_at (kids k [])) (below (kids k)) c x) cut.4 (no_sync_child i w d ds cut.0 none) (λ h. never (inr h)) ∙ made_quiet u 1 (deeds_at (kids k [])) (below (kids k)) x (λ h. never (inl h))

  -- a complete run has its final effect on the cell
  pub made_full : (r : Run W) (k : ℕ) (ds : List (Deed W)) (kids : ℕ → Frames W) (x : ℤ) → IsFull r k ds kids → made r k ds kids c x ≡ value_after r c x
  made_full stop k ds kids x full = refl
  made_full (act e r) k [] kids x full = absurd full
  made_full (act e r) k (d ∷ ds) kids x full = made_full r k ds kids (put e c x) full
  made_full (child i w u r) k [] kids x full = absurd full
  made_full (child i w u r) k (d ∷ ds) kids x full =
      made_full r (suc k) ds kids (made u 1 (deeds_at (kids k [])) (below (kids k)) c x) full.1 ∙ ap (value_after r c) (made_full u 1 (deeds_at (kids k [])) (below (kids k)) x full.0)

module _ {W : Type 0} {c : Cell} where
  pub past_call : {r : Run W} {k : ℕ} {ds : List (Deed W)} {kids : ℕ → Frames W} {n : Name} {a : Deed W} {x y : ℤ} → Front W c r k ds kids n a x y → IsPast Call (grown n ds a)
  past_call here_act = tt
  past_call here_child = tt
  past_call (past_act {n = []} f) = tt
  past_call (past_act {n = j ∷ m} f) = tt
  past_call (past_child {n = []} p f) = tt
  past_call (past_child {n = j ∷ m} p f) = tt
  past_call (inside f) = tt

  -- The events made of a child on the way to the front have the whole child's effect on a cell that
  -- is accessed there.
  pub beside : (i : Invocation) (u r : Run W) (k : ℕ) (ds : List (Deed W)) (kids : ℕ → Frames W) (v : ℤ) {n : Name} {e : Event} {x y : ℤ} → (IsPast i (grown n ds (Does e)) → IsFull u 1 (deeds_at (kids k [])) (below (kids k))) → Front W c r (suc k) ds kids n (Does e) x y → IsCut r (suc k) ds kids → ApartIf i u r → IsAccess e c → made u 1 (deeds_at (kids k [])) (below (kids k)) c v ≡ value_after u c v
  beside Call u r k ds kids v p f cut far acc = made_full c u 1 (deeds_at (kids k [])) (below (kids k)) v (p (past_call f))
  beside Spawn u r k ds kids v {n} {e} p f cut far acc =
      ⊎_elim (λ h. made_full c u 1 (deeds_at (kids k [])) (below (kids k)) v (p (grown_sync n ds (Does e) h)))
      (λ never. let quiet : ¬ (HasEventWith (λ z. IsWrite z c) u) = λ h. (far c).1 h (front_in_block (λ z. IsAccess z c) f cut never acc) in
      made_quiet c u 1 (deeds_at (kids k [])) (below (kids k)) v quiet ∙ sym (value_quiet c u v quiet))
      (has_sync ds)

  -- The events made after a child that isn't complete don't change a cell that the child accesses
  -- next.
  pub after_child : (i : Invocation) (u r : Run W) (k : ℕ) (ds : List (Deed W)) (kids : ℕ → Frames W) (v : ℤ) {m : Name} {e : Event} {x y : ℤ} → Front W c u 1 (deeds_at (kids k [])) (below (kids k)) m (Does e) x y → (IsPast i ds → IsFull u 1 (deeds_at (kids k [])) (below (kids k))) → IsCut r (suc k) ds kids → ApartIf i u r → IsAccess e c → made r (suc k) ds kids c v ≡ v
  after_child Call u r k [] kids v f p cut far acc = made_nil c r (suc k) kids v
  after_child Call u r k (d ∷ ds) kids v f p cut far acc = absurd (full_stuck f (p tt))
  after_child Spawn u r k ds kids v f p cut far acc =
      block_quiet c r (suc k) ds kids v cut (λ h. full_stuck f (p h)) (λ h. (far c).0 (front_event (λ z. IsAccess z c) f acc) h)

  -- Without a race, what was made leaves in the cell what the serial run has there.
  pub front_value : {r : Run W} {k : ℕ} {ds : List (Deed W)} {kids : ℕ → Frames W} {n : Name} {e : Event} {x y : ℤ} → Front W c r k ds kids n (Does e) x y → IsCut r k ds kids → RaceFree r → IsAccess e c → made r k ds kids c x ≡ y
  front_value here_act cut free acc = refl
  front_value (past_act f) cut free acc = front_value f cut.1 free acc
  front_value (past_child {i = i} {u = u} {r = r} {k = k} {ds = ds} {kids = kids} {x = x} p f) cut free acc =
      ap (made r (suc k) ds kids c) (beside i u r k ds kids x p f cut.4 free.0 acc) ∙ front_value f cut.4 free.2 acc
  front_value (inside {i = i} {u = u} {r = r} {k = k} {ds = ds} {kids = kids} {x = x} f) cut free acc =
      after_child i u r k ds kids _ f cut.3 cut.4 free.0 acc ∙ front_value f cut.2 free.1 acc
