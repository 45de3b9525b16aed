-- A frame continues after each child that it spawned.
--
-- - `last_or_earlier`: a deed before the last of one deed more;
-- - `fewer_started`: how many children the deeds before another have started;
-- - `after_one`, `still_ended`: the frames after one more deed, and those that have ended;
-- - `behind_last`: the child that a frame continues after;
-- - `gone_on_behind`: the law.
use Rattle.std.proofs.Common.{◌≡◌, ◌⊎◌, inl, inr, ⊎_elim, ◌<◌, suc, Bool, true, false, true≢false, cond, ℤ, List, [], ◌∷◌, ◌++◌, Option, Some, None, refl, sym, ap, ◌∙◌, subst, append_assoc, arith}
use Rattle.cilk_types.specs.declared.invocation.Invocation.{Invocation}
use Rattle.cilk_types.specs.declared.invocation.Invocation.TheVariants.{Spawn}
use Rattle.cilk_program.specs.Syntax.{Source}
use Rattle.cilk_determinacy.specs.Machine.{Frame, Frames, State, Makes, Steals, Steps, after_deed, begun, deed_of, deeds_at, started}
use Rattle.cilk_determinacy.specs.Monoids.{numbers_of}
use Rattle.cilk_determinacy.specs.Progress.{AfterChild, AfterEvent, AfterSteal, AtBegin, GoesOn, HasEnded, child_after}
use Rattle.cilk_determinacy.specs.Runs.{Name, same_name, Deed, Does, Invokes}
use Rattle.cilk_determinacy.proofs.Basics.{nil_snoc, same_name-eq, snoc_one}
use Rattle.cilk_determinacy.proofs.Progress.{progress}
use Rattle.cilk_determinacy.specs.FrameEnvMachine.{costs, has_ended, is_end}
use Rattle.cilk_determinacy.specs.Reducers.{View, monoid_of}
use Rattle.cilk_determinacy.specs.Steps.{IsFirst, Next, OneStep}
use Rattle.cilk_determinacy.specs.FrameEnvs.{FrameEnv, first_env}
use Rattle.cilk_scheduler.specs.GoneOn.{FramesGoOnBehind, HaveGoneOn, WentOnBehind}
use Rattle.cilk_scheduler.proofs.Choosing.{one_step}
use Rattle.cilk_scheduler.proofs.Onward.{end_of, has_end}
use Rattle.cilk_scheduler.proofs.Thieves.{snoc_name}

-- ---- deeds

abbrev Ending : List (Deed FrameEnv) → Type 0
Ending ds = (ds ≡ []) ⊎ ((rest : List (Deed FrameEnv)) × (d : Deed FrameEnv) × (ds ≡ rest ++ d ∷ []))

ending : (ds : List (Deed FrameEnv)) → Ending ds
ending [] = inl refl
ending (d ∷ ds) = by (ending ds)
  where
    by : Ending ds → Ending (d ∷ ds)
    by (inl e) = inr ([], d, ap (λ l. d ∷ l) e)
    by (inr (rest, x, e)) = inr (d ∷ rest, x, ap (λ l. d ∷ l) e)

-- of two neighbouring deeds among these and one more, the second is the new one, or both were there
last_or_earlier : (ds : List (Deed FrameEnv)) (d : Deed FrameEnv) (before after : List (Deed FrameEnv)) (x y : Deed FrameEnv) → ds ++ d ∷ [] ≡ before ++ x ∷ y ∷ after
    → (ds ≡ before ++ x ∷ []) ⊎ ((rest : List (Deed FrameEnv)) × (ds ≡ before ++ x ∷ y ∷ rest))
last_or_earlier ds d before after x y h = by (ending after)
  where
    by : Ending after → (ds ≡ before ++ x ∷ []) ⊎ ((rest : List (Deed FrameEnv)) × (ds ≡ before ++ x ∷ y ∷ rest))
    by (inl e) = inl (let q = snoc_one ds (before ++ x ∷ []) d y (h ∙ ap (λ l. before ++ x ∷ y ∷ l) e ∙ sym (append_assoc before (x ∷ []) (y ∷ []))) in q.0)
    by (inr (rest, z, e)) = inr (rest, (let q = snoc_one ds (before ++ x ∷ y ∷ rest) d z (h ∙ ap (λ l. before ++ x ∷ y ∷ l) e ∙ sym (append_assoc before (x ∷ y ∷ rest) (z ∷ []))) in q.0))

fewer_started : (before after : List (Deed FrameEnv)) (how : Invocation) (what : FrameEnv) → started before < started (before ++ Invokes how what ∷ after)
fewer_started [] after how what = omega arith
fewer_started (Does e ∷ before) after how what = fewer_started before after how what
fewer_started (Invokes k w ∷ before) after how what = let h = fewer_started before after how what in omega (arith, h)

no_deed : (before after : List (Deed FrameEnv)) (x : Deed FrameEnv) → [] ≡ before ++ x ∷ after → ⊥
no_deed [] after x h = cc
no_deed (d ∷ before) after x h = cc

over_more : (ds : List (Deed FrameEnv)) (d : Deed FrameEnv) → has_ended ds ≡ true → has_ended (ds ++ d ∷ []) ≡ true
over_more [] d h = absurd (true≢false (sym h))
over_more (c ∷ ds) d h = by (is_end c) (over_more ds d) h
  where
    by : (t : Bool) → (has_ended ds ≡ true → has_ended (ds ++ d ∷ []) ≡ true) → cond t true (has_ended ds) ≡ true → cond t true (has_ended (ds ++ d ∷ [])) ≡ true
    by true g q = refl
    by false g q = g q

-- ---- the frames after one more deed

module _ (frames : Frames FrameEnv) (n : Name) (f : Frame FrameEnv) where
  -- a frame is the one of the deed, has done nothing, or was there
  abbrev OneOf : Deed FrameEnv → Name → Frame FrameEnv → Type 0
  OneOf d m g = ((n ≡ m) × (g ≡ record f { deeds = f.deeds ++ d ∷ [] })) ⊎ ((g.deeds ≡ []) ⊎ (frames m ≡ Some g))

  after_one : (d : Deed FrameEnv) (m : Name) (g : Frame FrameEnv) → after_deed frames n f d m ≡ Some g → OneOf d m g
  after_one d m g = by d (same_name n m) refl
    where
      grown : (d : Deed FrameEnv) (t : Bool) → same_name n m ≡ t → cond t (Some (record f { deeds = f.deeds ++ d ∷ [] })) (frames m) ≡ Some g → OneOf d m g
      grown d true e q = inl (same_name-eq n m e, (let z : Some (record f { deeds = f.deeds ++ d ∷ [] }) ≡ Some g = q in cc))
      grown d false e q = inr (inr q)

      by : (d : Deed FrameEnv) (t : Bool) → same_name n m ≡ t → after_deed frames n f d m ≡ Some g → OneOf d m g
      by (Does e) t is q = grown (Does e) (same_name n m) refl q
      by (Invokes how w) t is q = child (same_name (child_after n f.deeds) m) q
        where
          child : (c : Bool) → cond c (Some (begun w)) (cond (same_name n m) (Some (record f { deeds = f.deeds ++ Invokes how w ∷ [] })) (frames m)) ≡ Some g → OneOf (Invokes how w) m g
          child true q = let z : Some (begun w) ≡ Some g = q in let same : begun w ≡ g = cc in inr (inl (ap (λ (x : Frame FrameEnv). x.deeds) (sym same)))
          child false q = grown (Invokes how w) (same_name n m) refl q

  -- a frame that has ended stays so, unless a new frame has its name
  still_ended : (d : Deed FrameEnv) (m : Name) → frames n ≡ Some f → (child_after n f.deeds ≡ m → ⊥) → has_ended (deeds_at (frames m)) ≡ true → has_ended (deeds_at (after_deed frames n f d m)) ≡ true
  still_ended d m here other h = by d
    where
      grown : (d : Deed FrameEnv) (t : Bool) → same_name n m ≡ t → has_ended (deeds_at (cond t (Some (record f { deeds = f.deeds ++ d ∷ [] })) (frames m))) ≡ true
      grown d true e = over_more f.deeds d (sym (ap (λ o. has_ended (deeds_at o)) (ap frames (sym (same_name-eq n m e)) ∙ here)) ∙ h)
      grown d false e = h

      child : (w : FrameEnv) (c : Bool) → same_name (child_after n f.deeds) m ≡ c → (o : Option (Frame FrameEnv)) → has_ended (deeds_at o) ≡ true → has_ended (deeds_at (cond c (Some (begun w)) o)) ≡ true
      child w true e o g = absurd (other (same_name-eq (child_after n f.deeds) m e))
      child w false e o g = g

      by : (d : Deed FrameEnv) → has_ended (deeds_at (after_deed frames n f d m)) ≡ true
      by (Does e) = grown (Does e) (same_name n m) refl
      by (Invokes how w) = child w (same_name (child_after n f.deeds) m) refl (cond (same_name n m) (Some (record f { deeds = f.deeds ++ Invokes how w ∷ [] })) (frames m)) (grown (Invokes how w) (same_name n m) refl)

-- ---- the child that a frame continues after

-- its last child has ended or was stolen from
abbrev IsPassed : State FrameEnv View → Name → List (Deed FrameEnv) → Type 0
IsPassed s n before = HasEnded FrameEnv View s (child_after n before) ⊎ (s.stolen (child_after n before) ≡ true)

behind_last : (s : State FrameEnv View) (n : Name) (ds : List (Deed FrameEnv)) → GoesOn FrameEnv View s n ds → (before : List (Deed FrameEnv)) (what : FrameEnv) → ds ≡ before ++ Invokes Spawn what ∷ [] → IsPassed s n before
behind_last s n ds (AtBegin z) before what q = nil_snoc before (Invokes Spawn what) (sym z ∙ q)
behind_last s n ds (AfterEvent c e z) before what q = let r = snoc_one c before (Does e) (Invokes Spawn what) (sym z ∙ q) in let same : Does e ≡ Invokes Spawn what = r.1 in absurd (let f : ⊥ = cc in f)
behind_last s n ds (AfterChild c how w z h) before what q = let r = snoc_one c before (Invokes how w) (Invokes Spawn what) (sym z ∙ q) in inl (subst (λ l. HasEnded FrameEnv View s (child_after n l)) r.0 h)
behind_last s n ds (AfterSteal c w z h) before what q = let r = snoc_one c before (Invokes Spawn w) (Invokes Spawn what) (sym z ∙ q) in inr (subst (λ l. s.stolen (child_after n l) ≡ true) r.0 h)

module _ (s s' : State FrameEnv View) (n : Name) (before : List (Deed FrameEnv)) where
  passed_on : (has_ended (deeds_at (s.frames (child_after n before))) ≡ true → has_ended (deeds_at (s'.frames (child_after n before))) ≡ true) → (s.stolen (child_after n before) ≡ true → s'.stolen (child_after n before) ≡ true)
      → IsPassed s n before → IsPassed s' n before
  passed_on ends flags (inl h) = inl (end_of s' (child_after n before) (s'.frames (child_after n before)) refl (ends (has_end s (child_after n before) h)))
  passed_on ends flags (inr h) = inr (flags h)

-- ---- steps

module _ (p : Source) (inputs : List ℤ) where
  opens_so : (s : State FrameEnv View) → IsFirst p inputs s → HaveGoneOn s
  opens_so s o [] f q before after what d e =
      let z : Some (begun (first_env p)) ≡ Some f = sym (o.0 []) ∙ q in
      let same : begun (first_env p) ≡ f = cc in
      absurd (no_deed before (d ∷ after) (Invokes Spawn what) (ap (λ (x : Frame FrameEnv). x.deeds) same ∙ e))
  opens_so s o (j ∷ n) f q before after what d e = let no : None ≡ Some f = sym (o.0 (j ∷ n)) ∙ q in let z : ⊥ = cc in absurd z

  -- nothing is done, and nothing stolen is given back
  still_so : (s s' : State FrameEnv View) → s'.frames ≡ s.frames → ((m : Name) → s.stolen m ≡ true → s'.stolen m ≡ true) → HaveGoneOn s → HaveGoneOn s'
  still_so s s' same flags h m f at before after what d e =
      let frame_is : (c : Name) → s'.frames c ≡ s.frames c = (λ c. ap (λ l. l c) same) in
      passed_on s s' m before (λ q. ap (λ o. has_ended (deeds_at o)) (frame_is (child_after m before)) ∙ q) (flags (child_after m before)) (h m f (sym (frame_is m) ∙ at) before after what d e)

  made_so : (s s' : State FrameEnv View) (n : Name) → HaveGoneOn s → Makes FrameEnv View monoid_of (Next p inputs) (costs p inputs) s n s' → HaveGoneOn s'
  made_so s s' n h t m g at before after what e q = ⊎_elim own (λ o. ⊎_elim fresh there o) (after_one s.frames n t.frame d m g (sym (ap (λ l. l m) t.frames) ∙ at))
    where
      d : Deed FrameEnv
      d = deed_of s.memory (numbers_of monoid_of (s.piece n)) t.ask

      here : s.frames n ≡ Some t.frame
      here = let a = t.asking in a.here

      on : (child_after n (let f = t.frame in f.deeds) ≡ child_after m before → ⊥) → IsPassed s m before → IsPassed s' m before
      on other = passed_on s s' m before (λ y. ap (λ l. has_ended (deeds_at (l (child_after m before)))) t.frames ∙ still_ended s.frames n t.frame d (child_after m before) here other y) (λ y. ap (λ l. l (child_after m before)) t.stolen ∙ y)

      -- the child of an earlier deed isn't the one that this deed starts
      earlier : (ds rest : List (Deed FrameEnv)) → s.frames m ≡ Some (record g { deeds = ds }) → ds ≡ before ++ Invokes Spawn what ∷ rest → child_after n (let f = t.frame in f.deeds) ≡ child_after m before → ⊥
      earlier ds rest known is z =
          let parts = snoc_name n m (suc (started (let f = t.frame in f.deeds))) (suc (started before)) z in
          let found : Some t.frame ≡ Some (record g { deeds = ds }) = sym here ∙ ap s.frames parts.0 ∙ known in
          let same : t.frame ≡ record g { deeds = ds } = cc in
          let count : started (let f = t.frame in f.deeds) ≡ started (before ++ Invokes Spawn what ∷ rest) = ap (λ (x : Frame FrameEnv). started x.deeds) same ∙ ap (λ l. started l) is in
          let less = fewer_started before rest Spawn what in
          let last = parts.1 in
          absurd (omega (arith, count, less, last))

      own : (n ≡ m) × (g ≡ record t.frame { deeds = (let f = t.frame in f.deeds) ++ d ∷ [] }) → IsPassed s' m before
      own (same, is) =
          let P = progress FrameEnv View monoid_of (Next p inputs) (costs p inputs) in
          let may = P.exact s n t.frame t.ask t.asking in
          let past = (let f = t.frame in f.deeds) in
          let was : s.frames m ≡ Some (record g { deeds = past }) = ap s.frames (sym same) ∙ here ∙ ap (λ (x : Frame FrameEnv). Some (record x { deeds = past })) (sym is) in
          ⊎_elim
          (λ last. on (earlier past [] was last) (subst (λ z. IsPassed s z before) same (behind_last s n past may.goes_on before what last)))
          (λ r. on (earlier past (e ∷ r.0) was r.1) (subst (λ z. IsPassed s z before) same (h n t.frame here before r.0 what e r.1)))
          (last_or_earlier past d before after (Invokes Spawn what) e (sym (ap (λ (x : Frame FrameEnv). x.deeds) is) ∙ q))

      fresh : g.deeds ≡ [] → IsPassed s' m before
      fresh none = absurd (no_deed before (e ∷ after) (Invokes Spawn what) (sym none ∙ q))

      there : s.frames m ≡ Some g → IsPassed s' m before
      there known = on (earlier g.deeds (e ∷ after) known q) (h m g known before after what e q)

  stolen_so : (s s' : State FrameEnv View) (n : Name) → HaveGoneOn s → Steals FrameEnv View monoid_of (Next p inputs) (costs p inputs) s n s' → HaveGoneOn s'
  stolen_so s s' n h t = still_so s s' t.frames (λ m q. ap (λ l. l m) t.stolen ∙ by (same_name (child_after n t.before) m) (s.stolen m) q) h
    where
      by : (c is : Bool) → is ≡ true → cond c true is ≡ true
      by true is q = refl
      by false is q = q

  keeps_so : (s s' : State FrameEnv View) (n : Name) → HaveGoneOn s → OneStep p inputs s n s' → HaveGoneOn s'
  keeps_so s s' n h step =
      ⊎_elim (made_so s s' n h)
      (λ o. ⊎_elim (stolen_so s s' n h) (λ t. still_so s s' (ap (λ (z : State FrameEnv View). z.frames) t.after) (λ m q. ap (λ (z : State FrameEnv View). z.stolen m) t.after ∙ q) h) o) step.1

  steps_so : (ns : List Name) (s s' : State FrameEnv View) → HaveGoneOn s → Steps FrameEnv View monoid_of (Next p inputs) (costs p inputs) ns s s' → HaveGoneOn s'
  steps_so [] s s' h e = subst HaveGoneOn (sym e) h
  steps_so (n ∷ ns) s s' h (mid, one, rest) = steps_so ns mid s' (keeps_so s mid n h one) rest

  behind_so : (s : State FrameEnv View) (n : Name) → HaveGoneOn s → GoesOn FrameEnv View s n (deeds_at (s.frames n)) → WentOnBehind s n (deeds_at (s.frames n))
  behind_so s n h goes before after what = by (s.frames n) refl goes after
    where
      by : (found : Option (Frame FrameEnv)) → s.frames n ≡ found → GoesOn FrameEnv View s n (deeds_at found) → (after : List (Deed FrameEnv)) → deeds_at found ≡ before ++ Invokes Spawn what ∷ after → IsPassed s n before
      by None at g after q = absurd (no_deed before after (Invokes Spawn what) q)
      by (Some f) at g [] q = behind_last s n f.deeds g before what q
      by (Some f) at g (d ∷ after) q = h n f at before after what d q

  pub gone_on_behind : FramesGoOnBehind p inputs
  gone_on_behind = record {
    opens = opens_so;
    keeps = keeps_so;
    reached = λ ns s r. steps_so ns r.0 s (opens_so r.0 r.1) r.2;
    chosen = λ s s' d d' c t going h choice. let o = one_step p inputs s s' d d' c t going choice in steps_so o.0 s s' h o.1;
    behind = behind_so;
  }
