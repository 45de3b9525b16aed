-- One step of the free machine, from two states that agree.
--
-- - `ended_moves`, `block_moves`: what has ended in the one has ended in the other;
-- - `agreed`: the other state, by its views alone;
-- - `own_same`, `views_after`: the views after a deed;
-- - `MadeBy`, `made_by`, `made_same`: an event leads to states that agree;
-- - `StolenBy`, `stolen_by`, `stolen_same`: and so does a steal;
-- - `over_all`, `asks_no_more`: once the first frame has ended, each frame has, and requests
--   nothing.
use Rattle.std.proofs.Common.{◌≡◌, ◌⊎◌, inl, inr, ⊎_elim, ◌+◌, ◌<◌, ◌≤◌, ℕ, zero, suc, Bool, true, false, true≢false, cond, ℤ, List, [], ◌∷◌, ◌++◌, length, Option, Some, None, refl, sym, ap, ap₂, ◌∙◌, subst, arith}
use mathlib.Core.Path.{fun_ext}
use Rattle.cilk_types.specs.declared.invocation.Invocation.{Invocation}
use Rattle.cilk_monoid.specs.Laws.{MonoidStructure}
use Rattle.cilk_program.specs.Syntax.{Source}
use Rattle.cilk_determinacy.specs.Costs.{Total, cost}
use Rattle.cilk_determinacy.specs.Machine.{Frame, Frames, State, HasEnd, Makes, Steals, after_deed, after_views, begun, block_view, deed_of, deeds_at, effect, joined_by, own_view, started, with_view}
use Rattle.cilk_determinacy.specs.Monoids.{numbers_of, on_view, unit_of}
use Rattle.cilk_determinacy.specs.Progress.{HasEnded, child_after}
use Rattle.cilk_determinacy.specs.Runs.{Name, same_name, Cell, Instance, Ask, Read, Write, Invoke, Sync, End, Pass, Fail, Begin, Resume, Create, Update, Set, Value, Print, Event, Reads, Writes, Syncs, Ends, Passes, Begins, Resumes, Creates, Updates, Sets, Values, Prints, Deed, Does, Invokes}
use Rattle.cilk_determinacy.proofs.Basics.{same_name-eq}
use Rattle.cilk_determinacy.proofs.Started.{started_invokes}
use Rattle.cilk_determinacy.specs.FrameEnvMachine.{costs, has_ended, next}
use Rattle.cilk_determinacy.specs.Reducers.{View, monoid_of}
use Rattle.cilk_determinacy.specs.Steps.{Next}
use Rattle.cilk_determinacy.specs.FrameEnvs.{FrameEnv}
use Rattle.cilk_scheduler.specs.Schedulers.{is_resuming}
use Rattle.cilk_scheduler.specs.WorkerTables.{BlockIsOver, IsOver}
use Rattle.cilk_scheduler.specs.Histories.{DidAsAsked}
use Rattle.cilk_scheduler.specs.Parents.{OutliveChildren}
use Rattle.cilk_scheduler.proofs.Carried.{block_ext}
use Rattle.cilk_scheduler.proofs.Histories.{does_as_asked}
use Rattle.cilk_scheduler.proofs.Onward.{has_end}
use Rattle.cilk_schedule.specs.Deciding.{Agree}

-- ---- what the frames alone decide

pub ended_moves : (s t : State FrameEnv View) → t.frames ≡ s.frames → (m : Name) → HasEnded FrameEnv View s m → HasEnded FrameEnv View t m
ended_moves s t e m h = record {
  frame = h.frame;
  before = h.before;
  result = h.result;
  retired = h.retired;
  after = h.after;
  here = ap (λ (z : Frames FrameEnv). z m) e ∙ h.here;
  ends = h.ends;
}

pub block_moves : (s t : State FrameEnv View) → t.frames ≡ s.frames → (m : Name) → BlockIsOver s m → BlockIsOver t m
block_moves s t e m h = λ before after what at none. ended_moves s t e (child_after m before) (h before after what (sym (ap (λ (z : Frames FrameEnv). deeds_at (z m)) e) ∙ at) none)

-- The other state, by its views alone.
abbrev pub with_pieces : State FrameEnv View → (Name → Instance → View) → State FrameEnv View
with_pieces s q = record s { piece = q }

pub agreed : (s t : State FrameEnv View) → Agree s t → t ≡ with_pieces s t.piece
agreed s t h =
    ap (λ (z : Frames FrameEnv). record t { frames = z }) h.frames
    ∙ ap (λ (z : Name → Bool). record t { frames = s.frames; stolen = z }) h.stolen
    ∙ ap (λ (z : Cell → ℤ). record t { frames = s.frames; stolen = s.stolen; memory = z }) h.memory
    ∙ ap (λ (z : List Name). record t { frames = s.frames; stolen = s.stolen; memory = s.memory; joins = z }) h.joins
    ∙ ap (λ (z : Total → ℕ). record t { frames = s.frames; stolen = s.stolen; memory = s.memory; joins = s.joins; totals = z }) h.totals
    ∙ ap (λ (z : Option _). record s { piece = t.piece; stopped = z }) h.stopped

-- ---- views after a deed

own_same : (M : MonoidStructure View) (i : Instance) (e : Event) (B B' : View) (l : Bool) (last last' v v' : View) → B' ≡ B → (e ≡ Passes Resumes → last' ≡ last) → v' ≡ v → own_view M i B' l last' e v' ≡ own_view M i B l last e v
own_same M i (Reads c n) B B' l last last' v v' b r h = h
own_same M i (Writes c n) B B' l last last' v v' b r h = h
own_same M i Syncs B B' l last last' v v' b r h = ap₂ M.combine b h
own_same M i (Ends val gone) B B' l last last' v v' b r h = ap (on_view M i (Ends val gone)) h
own_same M i (Passes Begins) B B' l last last' v v' b r h = h
own_same M i (Passes Resumes) B B' l last last' v v' b r h = ap₂ (λ x y. cond l x y) h (r refl)
own_same M i (Passes (Creates j)) B B' l last last' v v' b r h = ap (on_view M i (Passes (Creates j))) h
own_same M i (Passes (Updates j x)) B B' l last last' v v' b r h = ap (on_view M i (Passes (Updates j x))) h
own_same M i (Passes (Sets j x)) B B' l last last' v v' b r h = ap (on_view M i (Passes (Sets j x))) h
own_same M i (Passes (Values j n)) B B' l last last' v v' b r h = h
own_same M i (Passes (Prints x)) B B' l last last' v v' b r h = ap (on_view M i (Passes (Prints x))) h

-- a frame that resumes requested it
resumes_by : (memory : Cell → ℤ) (number : Instance → ℤ) (a : Ask FrameEnv) → deed_of memory number a ≡ Does (Passes Resumes) → a ≡ Pass Resume
resumes_by memory number (Read c) q = let f : ⊥ = cc in absurd f
resumes_by memory number (Write c v) q = let f : ⊥ = cc in absurd f
resumes_by memory number (Invoke k w) q = let f : ⊥ = cc in absurd f
resumes_by memory number Sync q = let f : ⊥ = cc in absurd f
resumes_by memory number (End v gone) q = let f : ⊥ = cc in absurd f
resumes_by memory number (Pass Begin) q = let f : ⊥ = cc in absurd f
resumes_by memory number (Pass Resume) q = refl
resumes_by memory number (Pass (Create i)) q = let f : ⊥ = cc in absurd f
resumes_by memory number (Pass (Update i x)) q = let f : ⊥ = cc in absurd f
resumes_by memory number (Pass (Set i x)) q = let f : ⊥ = cc in absurd f
resumes_by memory number (Pass (Value i)) q = let f : ⊥ = cc in absurd f
resumes_by memory number (Pass (Print x)) q = let f : ⊥ = cc in absurd f
resumes_by memory number (Fail n) q = let f : ⊥ = cc in absurd f

-- the child that the last deed started
resuming_is : (ds : List (Deed FrameEnv)) → is_resuming ds ≡ true → (before : List (Deed FrameEnv)) × (how : Invocation) × (what : FrameEnv) × (ds ≡ before ++ Invokes how what ∷ [])
resuming_is [] h = let f : ⊥ = true≢false (sym h) in absurd f
resuming_is (Does e ∷ []) h = let f : ⊥ = true≢false (sym h) in absurd f
resuming_is (Invokes k w ∷ []) h = ([], k, w, refl)
resuming_is (Does a ∷ d ∷ ds) h = let r = resuming_is (d ∷ ds) h in (Does a ∷ r.0, r.1, r.2, ap (λ l. Does a ∷ l) r.3)
resuming_is (Invokes k w ∷ d ∷ ds) h = let r = resuming_is (d ∷ ds) h in (Invokes k w ∷ r.0, r.1, r.2, ap (λ l. Invokes k w ∷ l) r.3)

stolen_there : (s : State FrameEnv View) → OutliveChildren s → (m : Name) → s.stolen m ≡ true → (g : Frame FrameEnv) × (s.frames m ≡ Some g)
stolen_there s kids m h = by (s.frames m) refl
  where
    by : (o : Option (Frame FrameEnv)) → s.frames m ≡ o → (g : Frame FrameEnv) × (s.frames m ≡ Some g)
    by None e = let f : ⊥ = true≢false (sym h ∙ kids.unstolen m e) in absurd f
    by (Some g) e = (g, e)

module _ (s : State FrameEnv View) (q : Name → Instance → View) (same : (n : Name) (f : Frame FrameEnv) → s.frames n ≡ Some f → q n ≡ s.piece n) (kids : OutliveChildren s) (n : Name) (f : Frame FrameEnv) (here : s.frames n ≡ Some f) where
  block_same : (M : MonoidStructure View) (i : Instance) → block_view M (λ k. q (n ++ k ∷ []) i) (λ k. s.stolen (n ++ k ∷ [])) M.unit 1 f.deeds ≡ block_view M (λ k. s.piece (n ++ k ∷ []) i) (λ k. s.stolen (n ++ k ∷ [])) M.unit 1 f.deeds
  block_same M i =
      block_ext M (λ k. s.piece (n ++ k ∷ []) i) (λ k. q (n ++ k ∷ []) i) (λ k. s.stolen (n ++ k ∷ [])) (λ k. s.stolen (n ++ k ∷ [])) (λ k. refl)
      (λ k is. let g = stolen_there s kids (n ++ k ∷ []) is in ap (λ (v : Instance → View). v i) (same (n ++ k ∷ []) g.0 g.1)) M.unit 1 f.deeds

  last_same : (i : Instance) → is_resuming f.deeds ≡ true → q (n ++ started f.deeds ∷ []) i ≡ s.piece (n ++ started f.deeds ∷ []) i
  last_same i h =
      let r = resuming_is f.deeds h in
      let g = kids.present n f r.0 r.1 r.2 [] here r.3 in
      let e : started f.deeds ≡ suc (started r.0) = ap (λ l. started l) r.3 ∙ started_invokes r.0 r.1 r.2 in
      subst (λ k. q (n ++ k ∷ []) i ≡ s.piece (n ++ k ∷ []) i) (sym e) (ap (λ (v : Instance → View). v i) (same (n ++ suc (started r.0) ∷ []) g.0 g.1))

  views_after : (M : MonoidStructure View) (i : Instance) (d : Deed FrameEnv) → (d ≡ Does (Passes Resumes) → is_resuming f.deeds ≡ true) → (m : Name) (g : Frame FrameEnv) → after_deed s.frames n f d m ≡ Some g
      → after_views M i s.stolen n f.deeds d (λ z. q z i) m ≡ after_views M i s.stolen n f.deeds d (λ z. s.piece z i) m
  views_after M i (Does e) resumes m g at = by (same_name n m) at
    where
      own : own_view M i (block_view M (λ k. q (n ++ k ∷ []) i) (λ k. s.stolen (n ++ k ∷ [])) M.unit 1 f.deeds) (s.stolen (n ++ started f.deeds ∷ [])) (q (n ++ started f.deeds ∷ []) i) e (q n i)
          ≡ own_view M i (block_view M (λ k. s.piece (n ++ k ∷ []) i) (λ k. s.stolen (n ++ k ∷ [])) M.unit 1 f.deeds) (s.stolen (n ++ started f.deeds ∷ [])) (s.piece (n ++ started f.deeds ∷ []) i) e (s.piece n i)
      own =
          own_same M i e (block_view M (λ k. s.piece (n ++ k ∷ []) i) (λ k. s.stolen (n ++ k ∷ [])) M.unit 1 f.deeds) (block_view M (λ k. q (n ++ k ∷ []) i) (λ k. s.stolen (n ++ k ∷ [])) M.unit 1 f.deeds)
          (s.stolen (n ++ started f.deeds ∷ [])) (s.piece (n ++ started f.deeds ∷ []) i) (q (n ++ started f.deeds ∷ []) i) (s.piece n i) (q n i) (block_same M i) (λ is. last_same i (resumes (ap (λ x. Does x) is))) (ap (λ (v : Instance → View). v i) (same n f here))

      by : (t : Bool) → cond t (Some (record f { deeds = f.deeds ++ Does e ∷ [] })) (s.frames m) ≡ Some g
          → cond t (own_view M i (block_view M (λ k. q (n ++ k ∷ []) i) (λ k. s.stolen (n ++ k ∷ [])) M.unit 1 f.deeds) (s.stolen (n ++ started f.deeds ∷ [])) (q (n ++ started f.deeds ∷ []) i) e (q n i)) (q m i)
          ≡ cond t (own_view M i (block_view M (λ k. s.piece (n ++ k ∷ []) i) (λ k. s.stolen (n ++ k ∷ [])) M.unit 1 f.deeds) (s.stolen (n ++ started f.deeds ∷ [])) (s.piece (n ++ started f.deeds ∷ []) i) e (s.piece n i)) (s.piece m i)
      by true z = own
      by false z = ap (λ (v : Instance → View). v i) (same m g z)
  views_after M i (Invokes k w) resumes m g at = by (same_name (n ++ suc (started f.deeds) ∷ []) m) at
    where
      old : (t : Bool) → same_name n m ≡ t → cond t (Some (record f { deeds = f.deeds ++ Invokes k w ∷ [] })) (s.frames m) ≡ Some g → q m i ≡ s.piece m i
      old true e z = subst (λ x. q x i ≡ s.piece x i) (same_name-eq n m e) (ap (λ (v : Instance → View). v i) (same n f here))
      old false e z = ap (λ (v : Instance → View). v i) (same m g z)

      by : (t : Bool) → cond t (Some (begun w)) (cond (same_name n m) (Some (record f { deeds = f.deeds ++ Invokes k w ∷ [] })) (s.frames m)) ≡ Some g → cond t (q n i) (q m i) ≡ cond t (s.piece n i) (s.piece m i)
      by true z = ap (λ (v : Instance → View). v i) (same n f here)
      by false z = old (same_name n m) refl z

-- ---- events and steals

module _ (p : Source) (inputs : List ℤ) where
  -- the state after an event of this frame, by this request
  pub record MadeBy (s : State FrameEnv View) (n : Name) (f : Frame FrameEnv) (a : Ask FrameEnv) (s' : State FrameEnv View) : Type 0 where
    pub frames : s'.frames ≡ after_deed s.frames n f (deed_of s.memory (numbers_of monoid_of (s.piece n)) a)
    pub memory : s'.memory ≡ (λ c. effect (deed_of s.memory (numbers_of monoid_of (s.piece n)) a) c (s.memory c))
    pub stolen : s'.stolen ≡ s.stolen
    pub piece : (i : Instance) (m : Name) → s'.piece m i ≡ after_views (monoid_of i) i s.stolen n f.deeds (deed_of s.memory (numbers_of monoid_of (s.piece n)) a) (λ z. s.piece z i) m
    pub joins : s'.joins ≡ joined_by a n f.deeds ++ s.joins
    pub totals : (total : Total) → s'.totals total ≡ s.totals total + cost (costs p inputs) total f.what f.deeds a
    pub stopped : s'.stopped ≡ s.stopped

  pub made_by : (s : State FrameEnv View) (n : Name) (s' : State FrameEnv View) (m : Makes FrameEnv View monoid_of (Next p inputs) (costs p inputs) s n s') → MadeBy s n m.frame m.ask s'
  made_by s n s' m = record { frames = m.frames; memory = m.memory; stolen = m.stolen; piece = m.piece; joins = m.joins; totals = m.totals; stopped = m.stopped }

  pub made_same : (s : State FrameEnv View) (q : Name → Instance → View) → ((n : Name) (f : Frame FrameEnv) → s.frames n ≡ Some f → q n ≡ s.piece n) → OutliveChildren s → DidAsAsked p inputs s → (n : Name) (f : Frame FrameEnv) (a : Ask FrameEnv) → s.frames n ≡ Some f
      → next p inputs f.what f.deeds ≡ Some a → (s' t' : State FrameEnv View) → MadeBy s n f a s' → MadeBy (with_pieces s q) n f a t' → Agree s' t'
  made_same s q same kids asked n f a here is s' t' m k = record {
    frames = k.frames ∙ ap (λ (v : Instance → View). after_deed s.frames n f (deed_of s.memory (numbers_of monoid_of v) a)) (same n f here) ∙ sym m.frames;
    stolen = k.stolen ∙ sym m.stolen;
    memory = k.memory ∙ ap {B = Cell → ℤ} (λ (v : Instance → View). λ c. effect (deed_of s.memory (numbers_of monoid_of v) a) c (s.memory c)) (same n f here) ∙ sym m.memory;
    piece = λ z g at. fun_ext {A = Instance} {B = λ i. View} (λ i.
        k.piece i z ∙ ap (λ (v : Instance → View). after_views (monoid_of i) i s.stolen n f.deeds (deed_of s.memory (numbers_of monoid_of v) a) (λ y. q y i) z) (same n f here)
        ∙ views_after s q same kids n f here (monoid_of i) i (deed_of s.memory (numbers_of monoid_of (s.piece n)) a) resumes z g (sym (ap (λ (x : Frames FrameEnv). x z) m.frames) ∙ at) ∙ sym (m.piece i z));
    joins = k.joins ∙ sym m.joins;
    totals = fun_ext {A = Total} {B = λ z. ℕ} (λ z. k.totals z ∙ sym (m.totals z));
    stopped = k.stopped ∙ sym m.stopped;
  }
    where
      resumes : deed_of s.memory (numbers_of monoid_of (s.piece n)) a ≡ Does (Passes Resumes) → is_resuming f.deeds ≡ true
      resumes e =
          let law = does_as_asked p inputs in
          let r = resumes_by s.memory (numbers_of monoid_of (s.piece n)) a e in
          let o = law.order s n f a asked here is (λ x z. let y : Pass Resume ≡ Fail x = sym r ∙ z in let b : ⊥ = cc in b) in
          o.resumes r

  -- the state after a steal of the continuation after these deeds of a frame
  pub record StolenBy (s : State FrameEnv View) (n : Name) (before : List (Deed FrameEnv)) (s' : State FrameEnv View) : Type 0 where
    pub frames : s'.frames ≡ s.frames
    pub memory : s'.memory ≡ s.memory
    pub stolen : s'.stolen ≡ (λ m. cond (same_name (n ++ suc (started before) ∷ []) m) true (s.stolen m))
    pub piece : (i : Instance) (m : Name) → s'.piece m i ≡ with_view (λ z. s.piece z i) n (unit_of monoid_of i) m
    pub joins : s'.joins ≡ s.joins
    pub totals : s'.totals ≡ s.totals
    pub stopped : s'.stopped ≡ s.stopped

  pub stolen_by : (s : State FrameEnv View) (n : Name) (s' : State FrameEnv View) (m : Steals FrameEnv View monoid_of (Next p inputs) (costs p inputs) s n s') → StolenBy s n m.before s'
  stolen_by s n s' m = record { frames = m.frames; memory = m.memory; stolen = m.stolen; piece = m.piece; joins = m.joins; totals = m.totals; stopped = m.stopped }

  pub stolen_same : (s : State FrameEnv View) (q : Name → Instance → View) → ((n : Name) (f : Frame FrameEnv) → s.frames n ≡ Some f → q n ≡ s.piece n) → (n : Name) (before : List (Deed FrameEnv)) (s' t' : State FrameEnv View) → StolenBy s n before s'
      → StolenBy (with_pieces s q) n before t' → Agree s' t'
  stolen_same s q same n before s' t' m k = record {
    frames = k.frames ∙ sym m.frames;
    stolen = k.stolen ∙ sym m.stolen;
    memory = k.memory ∙ sym m.memory;
    piece = λ z g at. fun_ext {A = Instance} {B = λ i. View} (λ i.
        k.piece i z ∙ ap (λ (v : Instance → View). cond (same_name n z) (unit_of monoid_of i) (v i)) (same z g (sym (ap (λ (x : Frames FrameEnv). x z) m.frames) ∙ at)) ∙ sym (m.piece i z));
    joins = k.joins ∙ sym m.joins;
    totals = k.totals ∙ sym m.totals;
    stopped = k.stopped ∙ sym m.stopped;
  }

-- ---- a run that is over

-- the deed that started this child
record StartedAt (ds : List (Deed FrameEnv)) (q : ℕ) : Type 0 where
  pub before : List (Deed FrameEnv)
  pub how : Invocation
  pub what : FrameEnv
  pub after : List (Deed FrameEnv)
  pub are : ds ≡ before ++ Invokes how what ∷ after
  pub number : q ≡ suc (started before)

ordinal_at : (ds : List (Deed FrameEnv)) (q : ℕ) → 0 < q → q ≤ started ds → StartedAt ds q
ordinal_at [] q low high = absurd (omega (arith, low, high))
ordinal_at (Does e ∷ ds) q low high =
    let r = ordinal_at ds q low high in
    record { before = Does e ∷ r.before; how = r.how; what = r.what; after = r.after; are = ap (λ l. Does e ∷ l) r.are; number = r.number }
ordinal_at (Invokes k w ∷ ds) zero low high = absurd (omega (arith, low))
ordinal_at (Invokes k w ∷ ds) (suc zero) low high = record { before = []; how = k; what = w; after = ds; are = refl; number = refl }
ordinal_at (Invokes k w ∷ ds) (suc (suc q)) low high =
    let r = ordinal_at ds (suc q) (omega arith) (omega (arith, high)) in
    let n = r.number in
    record { before = Invokes k w ∷ r.before; how = r.how; what = r.what; after = r.after; are = ap (λ l. Invokes k w ∷ l) r.are; number = omega (arith, n) }

over_is : (ds : List (Deed FrameEnv)) → HasEnd ds → has_ended ds ≡ true
over_is [] h = absurd h
over_is (Does (Reads c v) ∷ ds) h = over_is ds h
over_is (Does (Writes c v) ∷ ds) h = over_is ds h
over_is (Does Syncs ∷ ds) h = over_is ds h
over_is (Does (Ends val gone) ∷ ds) h = refl
over_is (Does (Passes m) ∷ ds) h = over_is ds h
over_is (Invokes k w ∷ ds) h = over_is ds h

-- a name is the first frame's or a child's
child_or : (n : Name) → (n ≡ []) ⊎ ((m : Name) × (q : ℕ) × (n ≡ m ++ q ∷ []))
child_or [] = inl refl
child_or (k ∷ n) = by (child_or n)
  where
    by : (n ≡ []) ⊎ ((m : Name) × (q : ℕ) × (n ≡ m ++ q ∷ [])) → (k ∷ n ≡ []) ⊎ ((m : Name) × (q : ℕ) × (k ∷ n ≡ m ++ q ∷ []))
    by (inl e) = inr ([], k, ap (λ l. k ∷ l) e)
    by (inr (m, q, e)) = inr (k ∷ m, q, ap (λ l. k ∷ l) e)

length_child : (m : Name) (q : ℕ) → length (m ++ q ∷ []) ≡ suc (length m)
length_child [] q = refl
length_child (k ∷ m) q = ap suc (length_child m q)

module _ (s : State FrameEnv View) (kids : OutliveChildren s) (over : IsOver s) where
  abbrev AreOver : ℕ → Type 0
  AreOver l = (n : Name) (f : Frame FrameEnv) → length n ≤ l → s.frames n ≡ Some f → has_ended f.deeds ≡ true

  root_over : (n : Name) (f : Frame FrameEnv) → s.frames n ≡ Some f → n ≡ [] → has_ended f.deeds ≡ true
  root_over n f here e = over_is f.deeds (subst (λ o. HasEnd (deeds_at o)) (ap s.frames (sym e) ∙ here) over)

  child_over : (l : ℕ) → AreOver l → (n : Name) (f : Frame FrameEnv) → length n ≤ suc l → s.frames n ≡ Some f → (m : Name) (q : ℕ) → n ≡ m ++ q ∷ [] → (o : Option (Frame FrameEnv)) → s.frames m ≡ o → has_ended f.deeds ≡ true
  child_over l earlier n f low here m q e None at =
      let c = kids.counted m q f (ap s.frames (sym e) ∙ here) in
      let c0 = c.0 in
      let c1 = c.1 in
      let none : started (deeds_at (s.frames m)) ≡ 0 = ap (λ o. started (deeds_at o)) at in
      absurd (omega (arith, c0, c1, none))
  child_over l earlier n f low here m q e (Some g) at =
      let c = kids.counted m q f (ap s.frames (sym e) ∙ here) in
      let c1 = c.1 in
      let some : started (deeds_at (s.frames m)) ≡ started g.deeds = ap (λ o. started (deeds_at o)) at in
      let o = ordinal_at g.deeds q c.0 (omega (arith, c1, some)) in
      let is : n ≡ child_after m o.before = e ∙ ap (λ k. m ++ k ∷ []) o.number in
      let long : length n ≡ suc (length m) = ap (λ z. length z) e ∙ length_child m q in
      ⊎_elim
      (λ ended. sym (ap (λ z. has_ended (deeds_at z)) here) ∙ ap (λ z. has_ended (deeds_at (s.frames z))) is ∙ has_end s (child_after m o.before) ended)
      (λ beside. let b : ⊥ = true≢false (sym (earlier m g (omega (arith, low, long)) at) ∙ beside.goes) in absurd b)
      (kids.outlive m g o.before o.how o.what o.after at o.are)

  over_below : (l : ℕ) → AreOver l
  over_below zero n f low here = by (child_or n)
    where
      by : (n ≡ []) ⊎ ((m : Name) × (q : ℕ) × (n ≡ m ++ q ∷ [])) → has_ended f.deeds ≡ true
      by (inl e) = root_over n f here e
      by (inr (m, q, e)) = let long : length n ≡ suc (length m) = ap (λ z. length z) e ∙ length_child m q in absurd (omega (arith, low, long))
  over_below (suc l) n f low here = by (child_or n) (over_below l)
    where
      by : (n ≡ []) ⊎ ((m : Name) × (q : ℕ) × (n ≡ m ++ q ∷ [])) → AreOver l → has_ended f.deeds ≡ true
      by (inl e) earlier = root_over n f here e
      by (inr (m, q, e)) earlier = child_over l earlier n f low here m q e (s.frames m) refl

  pub over_all : (n : Name) (f : Frame FrameEnv) → s.frames n ≡ Some f → has_ended f.deeds ≡ true
  over_all n f here = over_below (length n) n f (omega arith) here

  pub asks_no_more : (p : Source) (inputs : List ℤ) (n : Name) (f : Frame FrameEnv) (a : Ask FrameEnv) → s.frames n ≡ Some f → next p inputs f.what f.deeds ≡ Some a → ⊥
  asks_no_more p inputs n f a here is = by (has_ended f.deeds) _ (over_all n f here) is
    where
      by : (b : Bool) (x : Ask FrameEnv) → b ≡ true → cond b None (Some x) ≡ Some a → ⊥
      by true x e z = let b : ⊥ = cc in b
      by false x e z = true≢false (sym e)
