-- A frame's own piece comes to its block.
--
-- - `on_if`: a promise about each answer, if there is one;
-- - `changed_same`: a frame that stays as it is;
-- - `own_of`: a piece that comes as the last is the frame's own;
-- - `own_passed`: its block has passed.
use Rattle.std.proofs.Common.{◌≡◌, ◌+◌, ◌<◌, ℕ, zero, suc, Bool, true, false, List, [], ◌∷◌, length, slice_get, Some, Result, Ok, Err, IfOk, OnOk, refl, sym, ap, ◌∙◌, subst}
use Rattle.cilk_frames.specs.declared.activation.Activation.{Activation}
use Rattle.cilk_hypermap.specs.declared.hypermap.Hypermap.{Hypermap}
use Rattle.cilk_join.specs.Products.{product}
use Rattle.cilk_join.specs.Waits.{shown}
use Rattle.cilk_scheduler.specs.Events.{Arrives}
use Rattle.cilk_scheduler.specs.Parts.{Alone, Brought, BringsOwn, Passed}
use Rattle.cilk_scheduler.specs.FrameStates.{changed}
use Rattle.cilk_scheduler.specs.declared.frame_state.FrameState.{FrameState}
use Rattle.cilk_scheduler.specs.declared.frame_state.Worker.{Worker}
use Rattle.cilk_scheduler.proofs.Placed.{get_some}
use Rattle.cilk_scheduler.proofs.Viewing.{viewing_own}
use Rattle.cilk_schedule.specs.Passing.{PieceComes, ComesTo, OwnComes, Arrived, Unstolen}
use Rattle.cilk_schedule.proofs.Workers.{same_at}

pub on_if : {A E : Type 0} {P : A → Type 0} {Q : Type 0} (r : Result A E) → IfOk r P → ((x : A) → P x → Q) → OnOk r Q
on_if (Ok x) h f = f x h
on_if (Err e) h f = tt

pub changed_same : {C : Type 0} (list : List (Activation C)) (k : ℕ) (a : Activation C) → slice_get list k ≡ Some a → changed (λ _. a.cursor) list k ≡ list
changed_same [] k a at = refl
changed_same {C} (x ∷ list) zero a at = let same : a ≡ x = (let q : Some x ≡ Some a = at in cc) in ap (λ (z : Activation C). record x { cursor = z.cursor } ∷ list) same
changed_same (x ∷ list) (suc k) a at = ap (λ l. x ∷ l) (changed_same list k a at)

own_brings : (x : FrameState) (key : ℕ) (old : Hypermap) (passes : Bool) (x' : FrameState) (new : Hypermap) → key ≡ x.children + 1 → x.merged ≡ false → ComesTo x key true old passes x' new → BringsOwn x old x' new
own_brings x key old passes x' new is q (Unstolen none same views off) = Alone q none same views
own_brings x key old passes x' new is q (Arrived l l' at now arrives) = Brought q l l' passes at now (subst (λ n. Arrives (shown l.value) n true (product old) passes (shown l'.value) new) is arrives)

module _ (frames frames' : List (Activation FrameState)) (workers workers' : List Worker) (w k : ℕ) (a : Activation FrameState) (sits : slice_get frames k ≡ Some a) where
  pub own_of : (key : ℕ) (passes : Bool) → (let x = a.cursor in key ≡ x.children + 1) → (let x = a.cursor in x.merged ≡ false) → PieceComes frames frames' workers workers' w k key true passes → OwnComes frames frames' workers workers' w k
  own_of key passes is q t =
      let x = (let z = t.frame_state in z.cursor) in
      let u = t.worker in
      let same : a ≡ t.frame_state = same_at frames k a t.frame_state sits t.sits in
      record {
        frame_state = t.frame_state;
        worker = t.worker;
        brought = t.brought;
        views = t.views;
        sits = t.sits;
        at = t.at;
        brings = own_brings x key u.views passes t.brought t.views (is ∙ ap (λ (z : Activation FrameState). let y = z.cursor in y.children + 1) same) (sym (ap (λ (z : Activation FrameState). let y = z.cursor in y.merged) same) ∙ q) t.comes;
        frames_are = t.frames_are;
        workers_are = t.workers_are;
      }

  pub own_passed : w < length workers → (let x = a.cursor in x.merged ≡ true) → frames' ≡ frames → workers' ≡ workers → OwnComes frames frames' workers workers' w k
  own_passed low q frames_are workers_are =
      let it = get_some workers w low in
      let u = it.0 in
      record {
        frame_state = a;
        worker = u;
        brought = a.cursor;
        views = u.views;
        sits = sits;
        at = it.1;
        brings = Passed q refl refl;
        frames_are = frames_are ∙ sym (changed_same frames k a sits);
        workers_are = workers_are ∙ sym (viewing_own workers w u it.1);
      }
