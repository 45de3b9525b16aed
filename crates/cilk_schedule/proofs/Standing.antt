-- Frames keep their places and their parents.
--
-- - `stand_same`, `stand_twice`, `stand_changed`: no change, two changes, and a change of one
--   frame;
-- - `stand_gone`: a frame has stepped to its request;
-- - `stand_joined`: a change at a frame's block;
-- - `on_err_same`, `on_err_stand`, `on_err_then`: after an error;
-- - `kept_by`, `kept_gone`, `if_err_gone`, `if_err_always`, `kept_stopped`: what a scheduler
--   records.
use Rattle.std.proofs.Common.{◌≡◌, ◌<◌, ⊎_elim, ℕ, ℤ, List, length, slice_get, slice_index_or, slice_set, Some, Result, Ok, Err, OnErr, IfErr, refl, sym, ap, ap₂, ◌∙◌, subst}
use Rattle.cilk_lower.specs.Code.{CodeView}
use Rattle.cilk_program.specs.declared.ask.Ask.{Ask}
use Rattle.cilk_frames.specs.declared.activation.Activation.{Activation}
use Rattle.cilk_scheduler.specs.Asking.{WentOn, WentOnFrom}
use Rattle.cilk_scheduler.specs.FrameStates.{changed}
use Rattle.cilk_scheduler.specs.Stopping.{StandAsBefore}
use Rattle.cilk_scheduler.specs.declared.scheduler.Scheduler.{Scheduler}
use Rattle.cilk_scheduler.specs.declared.choice.Stop.{Stop}
use Rattle.cilk_scheduler.specs.declared.choice.Told.{Told}
use Rattle.cilk_scheduler.specs.declared.frame_state.Due.{Due}
use Rattle.cilk_scheduler.specs.declared.frame_state.Due.TheVariants as due
use Rattle.cilk_scheduler.specs.declared.frame_state.FrameState.{FrameState}
use Rattle.cilk_scheduler.proofs.Changing.{changed_at, changed_known, changed_length}
use Rattle.cilk_scheduler.proofs.Kept.{changed_from}
use Rattle.cilk_scheduler.proofs.Placed.{get_there}
use Rattle.cilk_schedule.specs.Acts.{WentTo}
use Rattle.cilk_schedule.specs.Faults.{KeepsTold}

pub stand_same : (f g : List (Activation FrameState)) → g ≡ f → StandAsBefore f g
stand_same f g e = record { as_many = ap (λ (l : List (Activation FrameState)). length l) e; each = λ j a at. (a, ap (λ l. slice_get l j) (sym e) ∙ at, refl, (refl, refl)) }

pub stand_twice : (f g h : List (Activation FrameState)) → StandAsBefore f g → StandAsBefore g h → StandAsBefore f h
stand_twice f g h one two = record {
  as_many = two.as_many ∙ one.as_many;
  each = λ j a at.
      let r = two.each j a at in
      let q = one.each j r.0 r.1 in
      (q.0, q.1, r.2 ∙ ap (λ (z : Activation FrameState). record z { cursor = a.cursor }) q.2, (r.3.0 ∙ q.3.0, r.3.1 ∙ q.3.1));
}

pub stand_changed : (f : FrameState → FrameState) → ((x : FrameState) → (let y = f x in (y.parent ≡ x.parent) × (y.ordinal ≡ x.ordinal))) → (frames : List (Activation FrameState)) (k : ℕ) → StandAsBefore frames (changed f frames k)
stand_changed f same frames k = record {
  as_many = changed_length f frames k;
  each = λ j a at.
      let r = changed_from f frames k j a at in
      let x = (let z = r.0 in z.cursor) in
      let y = a.cursor in
      let links : (y.parent ≡ x.parent) × (y.ordinal ≡ x.ordinal) =
      ⊎_elim (λ e. (ap (λ (z : FrameState). z.parent) e, ap (λ (z : FrameState). z.ordinal) e))
      (λ e. let s = same x in (ap (λ (z : FrameState). z.parent) e ∙ s.0, ap (λ (z : FrameState). z.ordinal) e ∙ s.1)) r.3 in
      (r.0, r.1, r.2, links);
}

-- one frame has another state and the same parent
stand_set : (frames : List (Activation FrameState)) (k : ℕ) (a : Activation FrameState) (y : FrameState) → slice_get frames k ≡ Some a → (let x = a.cursor in (y.parent ≡ x.parent) × (y.ordinal ≡ x.ordinal)) → StandAsBefore frames (changed (λ _. y) frames k)
stand_set frames k a y at same =
    let x = a.cursor in
    let J : FrameState → FrameState = (λ z. record y { parent = z.parent; ordinal = z.ordinal }) in
    let is : J x ≡ y = ap₂ (λ n q. record y { parent = n; ordinal = q }) (sym same.0) (sym same.1) in
    subst (λ l. StandAsBefore frames l) (changed_known J (λ _. y) frames k a at is) (stand_changed J (λ z. (refl, refl)) frames k)

links_stay : (code : CodeView) (inputs : List ℤ) (x : FrameState) (ask : Ask) (x' : FrameState) → WentOn code inputs x ask x' → (x'.parent ≡ x.parent) × (x'.ordinal ≡ x.ordinal)
links_stay code inputs x ask x' went = by x.due went
  where
    by : (q : Due) → WentOnFrom code inputs q x ask x' → (x'.parent ≡ x.parent) × (x'.ordinal ≡ x.ordinal)
    by due.Begin h = (ap (λ (z : FrameState). z.parent) h.1, ap (λ (z : FrameState). z.ordinal) h.1)
    by (due.Answer a) h = (ap (λ (z : FrameState). z.parent) h.now, ap (λ (z : FrameState). z.ordinal) h.now)
    by due.Sync h = (ap (λ (z : FrameState). z.parent) h.1, ap (λ (z : FrameState). z.ordinal) h.1)

pub stand_gone : (code : CodeView) (inputs : List ℤ) (b b' : Scheduler) (k : ℕ) → WentTo code inputs b b' k → let f = b.frames in let g = b'.frames in StandAsBefore f.items g.items
stand_gone code inputs b b' k go =
    let f = b.frames in
    subst (λ l. StandAsBefore f.items l) (sym go.frames) (stand_set f.items k go.frame_state go.came go.sits (let a = go.frame_state in links_stay code inputs a.cursor b'.asked go.came go.went))

pub stand_joined : (y : FrameState) (frames frames' : List (Activation FrameState)) (k : ℕ) (a : Activation FrameState) → a ≡ slice_index_or frames k a → k < length frames → (let x = a.cursor in y ≡ record x { join = y.join })
    → frames' ≡ slice_set frames k (record a { cursor = y }) → StandAsBefore frames frames'
stand_joined y frames frames' k a is there same now =
    subst (λ l. StandAsBefore frames l) (sym (now ∙ changed_at (λ (x : FrameState). y) frames k a is there))
    (stand_set frames k a y (get_there frames k a is there) (ap (λ (z : FrameState). z.parent) same, ap (λ (z : FrameState). z.ordinal) same))

-- ---- after an error

pub on_err_same : {A E : Type 0} (r : Result A E) (f g : List (Activation FrameState)) → OnErr r (g ≡ f) → OnErr r (StandAsBefore f g)
on_err_same (Ok a) f g h = tt
on_err_same (Err e) f g h = stand_same f g h

pub on_err_stand : {A E : Type 0} (r : Result A E) (f g : List (Activation FrameState)) → StandAsBefore f g → OnErr r (StandAsBefore f g)
on_err_stand (Ok a) f g h = tt
on_err_stand (Err e) f g h = h

pub on_err_then : {A E : Type 0} (r : Result A E) (f g h : List (Activation FrameState)) → StandAsBefore f g → OnErr r (StandAsBefore g h) → OnErr r (StandAsBefore f h)
on_err_then (Ok a) f g h one two = tt
on_err_then (Err e) f g h one two = stand_twice f g h one two

-- ---- what a scheduler records

pub kept_by : (b b' : Scheduler) → (let f = b.frames in let g = b'.frames in StandAsBefore f.items g.items) → (let e = b.journal in let l = b'.journal in l.items ≡ e.items) → b'.outcome ≡ b.outcome → KeepsTold b b'
kept_by b b' frames journal outcome = record { frames = frames; journal = journal; outcome = outcome }

-- the frame has stepped to its request before
pub kept_gone : (code : CodeView) (inputs : List ℤ) (b mid b' : Scheduler) (k : ℕ) → WentTo code inputs b mid k → KeepsTold mid b' → KeepsTold b b'
kept_gone code inputs b mid b' k go kept =
    let f = b.frames in
    let g = mid.frames in
    let h = b'.frames in
    record { frames = stand_twice f.items g.items h.items (stand_gone code inputs b mid k go) kept.frames; journal = kept.journal ∙ ap (λ e. e.items) go.journal; outcome = kept.outcome ∙ go.outcome }

pub if_err_gone : (code : CodeView) (inputs : List ℤ) (b mid b' : Scheduler) (k : ℕ) (r : Result Told Stop) → WentTo code inputs b mid k → IfErr r (λ stop. KeepsTold mid b') → IfErr r (λ stop. KeepsTold b b')
if_err_gone code inputs b mid b' k (Ok t) go kept = tt
if_err_gone code inputs b mid b' k (Err e) go kept = kept_gone code inputs b mid b' k go kept

pub if_err_always : {A E : Type 0} (r : Result A E) (P : Type 0) → P → IfErr r (λ e. P)
if_err_always (Ok a) P h = tt
if_err_always (Err e) P h = h

-- the scheduler after a choice that stopped, which keeps the stop
pub kept_stopped : (b b' b2 : Scheduler) (r r2 : Result Told Stop) (stop : Stop) → r ≡ Err stop → b' ≡ b2 → r ≡ r2 → IfErr r2 (λ z. KeepsTold b b2) → KeepsTold b (record b' { stopped = Some stop })
kept_stopped b b' b2 r r2 stop is scheduler_is told_is h =
    let k : KeepsTold b b' = subst (λ q. KeepsTold b q) (sym scheduler_is) (subst (λ q. IfErr q (λ z. KeepsTold b b2)) (sym told_is ∙ is) h) in
    record { frames = k.frames; journal = k.journal; outcome = k.outcome }
