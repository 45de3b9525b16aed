-- A state after one frame has made one more event, which isn't its end: all else is the same.
--
-- - `name_off`, `longer`: names that differ;
-- - `ends_in`, `ended_in`: the end among a frame's deeds;
-- - `frame_else`, `frame_here`, `size_same`, `ended_same`: frames;
-- - `ended_on`, `ended_back`, `goes_on`, `block_on`, `block_back`: what frames wait for.
use Rattle.std.proofs.Common.{◌≡◌, ⊎_elim, ℕ, Bool, true, false, true≢false, cond, ℤ, List, [], ◌∷◌, ◌++◌, Option, Some, None, refl, sym, ap, ◌∙◌}
use Rattle.std.proofs.lemmas.Bool.{cases_Bool}
use Rattle.cilk_program.specs.Syntax.{Source}
use Rattle.cilk_determinacy.specs.Runs.{Name, same_name, Instance, Event, Reads, Writes, Syncs, Ends, Passes, Deed, Does, Invokes}
use Rattle.cilk_determinacy.specs.Machine.{Frame, State, deeds_at, after_deed}
use Rattle.cilk_determinacy.specs.Progress.{child_after, HasEnded, GoesOn, AtBegin, AfterEvent, AfterChild, AfterSteal, BlockHasEnded}
use Rattle.cilk_determinacy.proofs.Basics.{same_name-refl, same_name-eq}
use Rattle.cilk_determinacy.specs.FrameEnvMachine.{is_end, has_ended}
use Rattle.cilk_determinacy.specs.Reducers.{View}
use Rattle.cilk_determinacy.specs.FrameEnvs.{FrameEnv}
use Rattle.cilk_determinacy.proofs.Histories.{ended_more}
use Rattle.cilk_scheduler.specs.Numbered.{size_of}

pub name_off : (n m : Name) → (n ≡ m → ⊥) → same_name n m ≡ false
name_off n m ne = ⊎_elim (λ t. absurd (ne (same_name-eq n m t))) (λ f. f) (cases_Bool (same_name n m))

pub longer : (n : Name) (q : ℕ) → n ++ q ∷ [] ≡ n → ⊥
longer [] q h = cc
longer (j ∷ n) q h = longer n q (cc)

pub ends_in : (ds : List (Deed FrameEnv)) → has_ended ds ≡ true → (before : List (Deed FrameEnv)) × (result : ℤ) × (retired : List Instance) × (after : List (Deed FrameEnv)) × (ds ≡ before ++ Does (Ends result retired) ∷ after)
ends_in [] h = absurd (true≢false (sym h))
ends_in (Does (Reads c v) ∷ ds) h = let r = ends_in ds h in (Does (Reads c v) ∷ r.0, r.1, r.2, r.3, ap (λ l. Does (Reads c v) ∷ l) r.4)
ends_in (Does (Writes c v) ∷ ds) h = let r = ends_in ds h in (Does (Writes c v) ∷ r.0, r.1, r.2, r.3, ap (λ l. Does (Writes c v) ∷ l) r.4)
ends_in (Does Syncs ∷ ds) h = let r = ends_in ds h in (Does Syncs ∷ r.0, r.1, r.2, r.3, ap (λ l. Does Syncs ∷ l) r.4)
ends_in (Does (Ends v gone) ∷ ds) h = ([], v, gone, ds, refl)
ends_in (Does (Passes m) ∷ ds) h = let r = ends_in ds h in (Does (Passes m) ∷ r.0, r.1, r.2, r.3, ap (λ l. Does (Passes m) ∷ l) r.4)
ends_in (Invokes how u ∷ ds) h = let r = ends_in ds h in (Invokes how u ∷ r.0, r.1, r.2, r.3, ap (λ l. Invokes how u ∷ l) r.4)

pub ended_in : (before : List (Deed FrameEnv)) (v : ℤ) (gone : List Instance) (after : List (Deed FrameEnv)) → has_ended (before ++ Does (Ends v gone) ∷ after) ≡ true
ended_in [] v gone after = refl
ended_in (d ∷ before) v gone after = by (is_end d) (ended_in before v gone after)
  where
    by : (t : Bool) → has_ended (before ++ Does (Ends v gone) ∷ after) ≡ true → cond t true (has_ended (before ++ Does (Ends v gone) ∷ after)) ≡ true
    by true h = refl
    by false h = h

-- a frame has ended where its end is among its deeds
pub has_end : (s : State FrameEnv View) (m : Name) → HasEnded FrameEnv View s m → has_ended (deeds_at (s.frames m)) ≡ true
has_end s m h = ap (λ f. has_ended (deeds_at f)) h.here ∙ ap (λ ds. has_ended ds) h.ends ∙ ended_in h.before h.result h.retired h.after

pub end_of : (s : State FrameEnv View) (m : Name) (found : Option (Frame FrameEnv)) → s.frames m ≡ found → has_ended (deeds_at found) ≡ true → HasEnded FrameEnv View s m
end_of s m None at h = absurd (true≢false (sym h))
end_of s m (Some f) at h = let r = ends_in f.deeds h in record { frame = f; before = r.0; result = r.1; retired = r.2; after = r.3; here = at; ends = r.4 }

module _ (s s' : State FrameEnv View) (n : Name) (f : Frame FrameEnv) (e : Event) (here : s.frames n ≡ Some f) (going : has_ended f.deeds ≡ false) (lasting : is_end (Does e) ≡ false) (frames_are : s'.frames ≡ after_deed s.frames n f (Does e)) (stolen_is : s'.stolen ≡ s.stolen) where
  pub frame_else : (m : Name) → (n ≡ m → ⊥) → s'.frames m ≡ s.frames m
  frame_else m ne = ap (λ t. t m) frames_are ∙ rw (name_off n m ne) refl

  pub frame_here : s'.frames n ≡ Some (record f { deeds = f.deeds ++ Does e ∷ [] })
  frame_here = ap (λ t. t n) frames_are ∙ rw (same_name-refl n) refl

  pub size_same : (p : Source) (m : Name) → size_of p (s.frames m) ≡ size_of p (s'.frames m)
  size_same p m = sym (ap (λ t. size_of p (t m)) frames_are ∙ by (same_name n m) refl)
    where
      by : (t : Bool) → same_name n m ≡ t → size_of p (after_deed s.frames n f (Does e) m) ≡ size_of p (s.frames m)
      by true q = rw q (sym (ap (λ x. size_of p x) (ap s.frames (sym (same_name-eq n m q)) ∙ here)))
      by false q = rw q refl

  pub ended_same : (m : Name) → has_ended (deeds_at (s'.frames m)) ≡ has_ended (deeds_at (s.frames m))
  ended_same m = ap (λ t. has_ended (deeds_at (t m))) frames_are ∙ by (same_name n m) refl
    where
      by : (t : Bool) → same_name n m ≡ t → has_ended (deeds_at (after_deed s.frames n f (Does e) m)) ≡ has_ended (deeds_at (s.frames m))
      by true q = rw q (ended_more f.deeds (Does e) going ∙ lasting ∙ sym (ap (λ x. has_ended (deeds_at x)) (ap s.frames (sym (same_name-eq n m q)) ∙ here) ∙ going))
      by false q = rw q refl

  pub ended_on : (m : Name) → HasEnded FrameEnv View s m → HasEnded FrameEnv View s' m
  ended_on m h = end_of s' m (s'.frames m) refl (ended_same m ∙ has_end s m h)

  pub ended_back : (m : Name) → HasEnded FrameEnv View s' m → HasEnded FrameEnv View s m
  ended_back m h = end_of s m (s.frames m) refl (sym (ended_same m) ∙ has_end s' m h)

  pub goes_on : (m : Name) (ds : List (Deed FrameEnv)) → GoesOn FrameEnv View s m ds → GoesOn FrameEnv View s' m ds
  goes_on m ds (AtBegin q) = AtBegin q
  goes_on m ds (AfterEvent b x q) = AfterEvent b x q
  goes_on m ds (AfterChild b kind what q h) = AfterChild b kind what q (ended_on (child_after m b) h)
  goes_on m ds (AfterSteal b what q h) = AfterSteal b what q (ap (λ l. l (child_after m b)) stolen_is ∙ h)

  pub block_on : (m : Name) (ds : List (Deed FrameEnv)) → BlockHasEnded FrameEnv View s m ds → BlockHasEnded FrameEnv View s' m ds
  block_on m ds h = λ before after what q none. ended_on (child_after m before) (h before after what q none)

  pub block_back : (m : Name) (ds : List (Deed FrameEnv)) → BlockHasEnded FrameEnv View s' m ds → BlockHasEnded FrameEnv View s m ds
  block_back m ds h = λ before after what q none. ended_back (child_after m before) (h before after what q none)
