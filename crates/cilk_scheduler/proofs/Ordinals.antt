-- The children of a frame are counted from 1 on.
--
-- - `next_is_none`: the next child isn't there yet;
-- - `more_counted`, `child_counted`, `deed_counted`: one frame has started no fewer, one child
--   more, one deed more;
-- - `children_are_counted`: the law.
use Rattle.std.proofs.Common.{◌≡◌, ⊎_elim, ◌<◌, ◌≤◌, ℕ, suc, Bool, true, false, cond, ℤ, List, [], ◌∷◌, ◌++◌, Option, Some, None, refl, sym, ap, ◌∙◌, subst, arith}
use Rattle.cilk_program.specs.Syntax.{Source}
use Rattle.cilk_determinacy.specs.Machine.{Frame, Frames, State, Makes, with_frame, after_deed, begun, deed_of, deeds_at, Steps, started}
use Rattle.cilk_determinacy.specs.Monoids.{numbers_of}
use Rattle.cilk_determinacy.specs.Runs.{Name, same_name, Deed, Does, Invokes}
use Rattle.cilk_determinacy.proofs.Basics.{same_name-refl, same_name-eq}
use Rattle.cilk_determinacy.proofs.Started.{started_does, started_invokes}
use Rattle.cilk_determinacy.specs.FrameEnvMachine.{costs}
use Rattle.cilk_determinacy.specs.Reducers.{View, monoid_of}
use Rattle.cilk_determinacy.specs.Steps.{IsFirst, Next, OneStep}
use Rattle.cilk_determinacy.specs.FrameEnvs.{FrameEnv}
use Rattle.cilk_scheduler.specs.Ordinals.{AreCounted, ChildrenAreCounted}
use Rattle.cilk_scheduler.proofs.Onward.{longer, name_off}
use Rattle.cilk_scheduler.proofs.Thieves.{snoc_name}

pub next_is_none : (frames : Frames FrameEnv) (n : Name) (f : Frame FrameEnv) → AreCounted frames → frames n ≡ Some f → frames (n ++ suc (started f.deeds) ∷ []) ≡ None
next_is_none frames n f h here = by (frames (n ++ suc (started f.deeds) ∷ [])) refl
  where
    by : (found : Option (Frame FrameEnv)) → frames (n ++ suc (started f.deeds) ∷ []) ≡ found → frames (n ++ suc (started f.deeds) ∷ []) ≡ None
    by None e = e
    by (Some g) e =
        let it = h n (suc (started f.deeds)) g e in
        let most = it.1 in
        let same : started (deeds_at (frames n)) ≡ started f.deeds = ap (λ o. started (deeds_at o)) here in
        absurd (omega (arith, most, same))

module _ (frames : Frames FrameEnv) (n : Name) (f g : Frame FrameEnv) (here : frames n ≡ Some f) (more : started f.deeds ≤ started g.deeds) where
  -- each frame of this name was there before
  was_there : (m : Name) (x : Frame FrameEnv) → with_frame frames n g m ≡ Some x → (y : Frame FrameEnv) × (frames m ≡ Some y)
  was_there m x = by (same_name n m) refl
    where
      by : (t : Bool) → same_name n m ≡ t → cond t (Some g) (frames m) ≡ Some x → (y : Frame FrameEnv) × (frames m ≡ Some y)
      by true e at = (f, ap frames (sym (same_name-eq n m e)) ∙ here)
      by false e at = (x, at)

  no_fewer : (m : Name) → started (deeds_at (frames m)) ≤ started (deeds_at (with_frame frames n g m))
  no_fewer m = by (same_name n m) refl
    where
      by : (t : Bool) → same_name n m ≡ t → started (deeds_at (frames m)) ≤ started (deeds_at (cond t (Some g) (frames m)))
      by true e = let was : started (deeds_at (frames m)) ≡ started f.deeds = ap (λ o. started (deeds_at o)) (ap frames (sym (same_name-eq n m e)) ∙ here) in omega (arith, was, more)
      by false e = omega arith

  pub more_counted : AreCounted frames → AreCounted (with_frame frames n g)
  more_counted h m q x at =
      let y = was_there (m ++ q ∷ []) x at in
      let it = h m q y.0 y.1 in
      let most = it.1 in
      let least = no_fewer m in
      (it.0, omega (arith, most, least))

module _ (frames : Frames FrameEnv) (n : Name) (f child : Frame FrameEnv) (q : ℕ) (here : frames n ≡ Some f) (positive : 0 < q) (most : q ≤ started f.deeds) (none : frames (n ++ q ∷ []) ≡ None) where
  abbrev kid : Name
  kid = n ++ q ∷ []

  stays : (m : Name) → started (deeds_at (frames m)) ≤ started (deeds_at (with_frame frames kid child m))
  stays m = by (same_name kid m) refl
    where
      by : (t : Bool) → same_name kid m ≡ t → started (deeds_at (frames m)) ≤ started (deeds_at (cond t (Some child) (frames m)))
      by true e = let was : started (deeds_at (frames m)) ≡ 0 = ap (λ o. started (deeds_at o)) (ap frames (sym (same_name-eq kid m e)) ∙ none) in omega (arith, was)
      by false e = omega arith

  pub child_counted : AreCounted frames → AreCounted (with_frame frames kid child)
  child_counted h m r x at = by (same_name kid (m ++ r ∷ [])) refl at
    where
      by : (t : Bool) → same_name kid (m ++ r ∷ []) ≡ t → cond t (Some child) (frames (m ++ r ∷ [])) ≡ Some x → (0 < r) × (r ≤ started (deeds_at (with_frame frames kid child m)))
      by true e at' =
          let parts = snoc_name n m q r (same_name-eq kid (m ++ r ∷ []) e) in
          let last = parts.1 in
          let least = stays m in
          let was : started (deeds_at (frames m)) ≡ started f.deeds = ap (λ o. started (deeds_at o)) (ap frames (sym parts.0) ∙ here) in
          (omega (arith, last, positive), omega (arith, last, most, least, was))
      by false e at' =
          let it = h m r x at' in
          let up = it.1 in
          let least = stays m in
          (it.0, omega (arith, up, least))

pub deed_counted : (frames : Frames FrameEnv) (n : Name) (f : Frame FrameEnv) (d : Deed FrameEnv) → frames n ≡ Some f → AreCounted frames → AreCounted (after_deed frames n f d)
deed_counted frames n f (Does e) here h =
    let same = started_does f.deeds e in
    more_counted frames n f (record f { deeds = f.deeds ++ Does e ∷ [] }) here (omega (arith, same)) h
deed_counted frames n f (Invokes how w) here h =
    let g = record f { deeds = f.deeds ++ Invokes how w ∷ [] } in
    let same = started_invokes f.deeds how w in
    let q = suc (started f.deeds) in
    let none : with_frame frames n g (n ++ q ∷ []) ≡ None = ap (λ c. cond c (Some g) (frames (n ++ q ∷ []))) (name_off n (n ++ q ∷ []) (λ e. longer n q (sym e))) ∙ next_is_none frames n f h here in
    let now : with_frame frames n g n ≡ Some g = ap (λ c. cond c (Some g) (frames n)) (same_name-refl n) in
    child_counted (with_frame frames n g) n g (begun w) q now (omega arith) (omega (arith, same)) none (more_counted frames n f g here (omega (arith, same)) h)

module _ (p : Source) (inputs : List ℤ) where
  opens_so : (s : State FrameEnv View) → IsFirst p inputs s → AreCounted s.frames
  opens_so s o [] q f at = let no : None ≡ Some f = sym (o.0 (q ∷ [])) ∙ at in let z : ⊥ = cc in absurd z
  opens_so s o (j ∷ n) q f at = let no : None ≡ Some f = sym (o.0 (j ∷ n ++ q ∷ [])) ∙ at in let z : ⊥ = cc in absurd z

  keeps_so : (s s' : State FrameEnv View) (n : Name) → AreCounted s.frames → OneStep p inputs s n s' → AreCounted s'.frames
  keeps_so s s' n h step = ⊎_elim made (λ o. ⊎_elim (λ t. by t.frames) (λ t. by (ap (λ (z : State FrameEnv View). z.frames) t.after)) o) step.1
    where
      by : s'.frames ≡ s.frames → AreCounted s'.frames
      by same = subst AreCounted (sym same) h

      made : Makes FrameEnv View monoid_of (Next p inputs) (costs p inputs) s n s' → AreCounted s'.frames
      made t = let a = t.asking in subst AreCounted (sym t.frames) (deed_counted s.frames n t.frame (deed_of s.memory (numbers_of monoid_of (s.piece n)) t.ask) a.here h)

  pub children_are_counted : ChildrenAreCounted p inputs
  children_are_counted = record {
    opens = opens_so;
    keeps = keeps_so;
    reached = λ ns s r. steps_so ns r.0 s (opens_so r.0 r.1) r.2;
    fresh = λ s n f h here. next_is_none s.frames n f h here;
  }
    where
      steps_so : (ns : List Name) (s s' : State FrameEnv View) → AreCounted s.frames → Steps FrameEnv View monoid_of (Next p inputs) (costs p inputs) ns s s' → AreCounted s'.frames
      steps_so [] s s' h e = subst (λ (z : State FrameEnv View). AreCounted z.frames) (sym e) h
      steps_so (n ∷ ns) s s' h (mid, one, rest) = steps_so ns mid s' (keeps_so s mid n h one) rest
