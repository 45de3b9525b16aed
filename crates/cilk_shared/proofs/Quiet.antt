-- Which events are events of reducers, and of whose.
--
-- - `quiet_read`, `quiet_write`, `quiet_spawn`, `quiet_resume`, `quiet_value`: events of no
--   reducer;
-- - `finish_event`: the root's `end` is an `end`;
-- - `words_ends`: numbers are words;
-- - `in_frame`: whose frame an event is in.
use Rattle.std.proofs.Common.{◌≡◌, ℕ, zero, suc, ◌+◌, ◌-◌, ◌<◌, ◌≤◌, ℤ, List, [], ◌∷◌, Bool, true, false, if◌then◌else◌, Option, Some, None, slice_get, refl, sym, ap, ◌∙◌, subst, arith}
use Rattle.cilk_types.specs.declared.event.Event.{Event}
use Rattle.cilk_types.specs.declared.event.Event.TheVariants as events
use Rattle.cilk_types.specs.declared.event.Instance.{Instance}
use Rattle.cilk_monoid.specs.Ranges.{HaveWords}
use Rattle.cilk_tree.specs.Frames.{Enters, IsInFrame}
use Rattle.cilk_tree.specs.Races.{event_at}
use Rattle.cilk_tree.specs.declared.mark.Mark.TheVariants as mark
use Rattle.cilk_tree.specs.declared.event_order.EventOrder.{EventOrder}
use Rattle.cilk_tree.specs.Word.{event, word_step, predecessors_of, spawn, resume, finish, plain, word_event, resumption, is_spawn}
use Rattle.cilk_tree.proofs.Events.{mark_at, spawn_mark, resume_mark}
use Rattle.cilk_shared.specs.declared.reducers.Reducers.{Reducers}
use Rattle.cilk_shared.specs.Reducers.{ends_from, entered, frame_behind, frame_in, of_event, events_at}

-- ---- events of no reducer
spawn_quiet : (r : Reducers) (f : ℕ) (o : Option Event) → mark_at o ≡ mark.Spawn → of_event r f o ≡ []
spawn_quiet r f (Some (events.Spawn g)) e = refl
spawn_quiet r f o e = absurd (cc e)

resume_quiet : (r : Reducers) (f : ℕ) (o : Option Event) → mark_at o ≡ mark.Resume → of_event r f o ≡ []
resume_quiet r f (Some (events.Resume g)) e = refl
resume_quiet r f o e = absurd (cc e)

module _ (s : EventOrder) (r : Reducers) (p : ℕ) where
  pub quiet_read : (c : ℕ) (v : ℤ) → event s p ≡ Some (events.Read c v) → events_at s r p ≡ []
  quiet_read c v is = ap (of_event r (frame_in s.events p)) is

  pub quiet_write : (c : ℕ) (v : ℤ) → event s p ≡ Some (events.Write c v) → events_at s r p ≡ []
  quiet_write c v is = ap (of_event r (frame_in s.events p)) is

  pub quiet_value : (i : Instance) (v : ℤ) → event s p ≡ Some (events.Value i v) → events_at s r p ≡ []
  quiet_value i v is = ap (of_event r (frame_in s.events p)) is

  pub quiet_spawn : word_step s p ≡ spawn → events_at s r p ≡ []
  quiet_spawn is = spawn_quiet r (frame_in s.events p) (event s p) (spawn_mark s.events p (event s p) (predecessors_of s p) is)

  pub quiet_resume : (k : ℕ) → word_step s p ≡ resume k → events_at s r p ≡ []
  quiet_resume k is = resume_quiet r (frame_in s.events p) (event s p) (resume_mark s.events p (event s p) (predecessors_of s p) k is).mark

no_finish : (es : List Event) (ps : List ℕ) → resumption es ps ≡ finish → ⊥
no_finish es [] e = cc e
no_finish es (q ∷ r ∷ ps) e = cc e
no_finish es (q ∷ []) e = by (is_spawn (event_at es q)) e
  where
    by : (b : Bool) → (if b then resume q else plain) ≡ finish → ⊥
    by true h = cc h
    by false h = cc h

pub finish_event : (es : List Event) (p : ℕ) (o : Option Event) (ps : List ℕ) → word_event es p o ps ≡ finish → o ≡ Some events.End
finish_event es p (Some events.End) ps e = refl
finish_event es p (Some (events.Resume f)) ps e = absurd (no_finish es ps e)
finish_event es p o ps e = absurd (cc e)

pub words_ends : (f p n : ℕ) → HaveWords (ends_from f p n)
words_ends f p zero = tt
words_ends f p (suc n) = (tt, words_ends f (suc p) n)

-- ---- whose frame an event is in
abbrev entered_by : Option Event → ℕ → ℕ
entered_by None g = g
entered_by (Some e) g = entered e g

frame_step : (es : List Event) (n f : ℕ) → frame_behind es (suc n) f ≡ entered_by (slice_get es n) (frame_behind es n f)
frame_step [] zero f = refl
frame_step [] (suc n) f = refl
frame_step (e ∷ es) zero f = refl
frame_step (e ∷ es) (suc n) f = frame_step es n (entered e f)

enters_by : (o : Option Event) (f g : ℕ) → Enters o f → entered_by o g ≡ f
enters_by (Some (events.Begin h)) f g is = is
enters_by (Some (events.Resume h)) f g is = is
enters_by o f g is = absurd is

stays_by : (o : Option Event) (g : ℕ) → ((other : ℕ) → Enters o other → ⊥) → entered_by o g ≡ g
stays_by None g stays = refl
stays_by (Some (events.Begin h)) g stays = absurd (stays h refl)
stays_by (Some (events.Resume h)) g stays = absurd (stays h refl)
stays_by (Some (events.Spawn h)) g stays = refl
stays_by (Some (events.Call h)) g stays = refl
stays_by (Some events.Sync) g stays = refl
stays_by (Some events.End) g stays = refl
stays_by (Some (events.Read c v)) g stays = refl
stays_by (Some (events.Write c v)) g stays = refl
stays_by (Some (events.Create i)) g stays = refl
stays_by (Some (events.Update i v)) g stays = refl
stays_by (Some (events.Set i v)) g stays = refl
stays_by (Some (events.Value i v)) g stays = refl
stays_by (Some (events.Print v)) g stays = refl

frame_at : (es : List Event) (n f : ℕ) → frame_behind es (suc n) f ≡ entered_by (event_at es (suc n)) (frame_behind es n f)
frame_at es n f = let z : suc n - 1 ≡ n = omega arith in frame_step es n f ∙ ap (λ (k : ℕ). entered_by (slice_get es k) (frame_behind es n f)) (sym z)

stays_on : (es : List Event) (n f m : ℕ) → ((q other : ℕ) → n < q → q ≤ n + m → Enters (event_at es q) other → ⊥) → frame_behind es (n + m) f ≡ frame_behind es n f
stays_on es n f zero none = let e : n + 0 ≡ n = omega arith in ap (λ k. frame_behind es k f) e
stays_on es n f (suc m) none =
    let e : n + suc m ≡ suc (n + m) = omega arith in
    ap (λ k. frame_behind es k f) e ∙ frame_at es (n + m) f
    ∙ stays_by (event_at es (suc (n + m))) (frame_behind es (n + m) f) (λ other enters. none (suc (n + m)) other (omega arith) (omega arith) enters)
    ∙ stays_on es n f m (λ q other lt le enters. none q other lt (omega (arith, le)) enters)

pub in_frame : (es : List Event) (p f : ℕ) → 1 ≤ p → IsInFrame es p f → frame_in es p ≡ f
in_frame es p f low h = by h.since refl
  where
    by : (n : ℕ) → h.since ≡ n → frame_in es p ≡ f
    by zero e =
        let enters : Enters (event_at es 1) f = subst (λ (k : ℕ). Enters (event_at es k) f) e h.entered in
        absurd (h.last 1 f (omega (arith, e)) low enters)
    by (suc n) e =
        let u = h.upto in
        let m : ℕ = p - suc n in
        let whole : suc n + m ≡ p = omega (arith, u, e) in
        let enters : Enters (event_at es (suc n)) f = subst (λ (k : ℕ). Enters (event_at es k) f) e h.entered in
        ap (λ k. frame_behind es k 0) (sym whole)
        ∙ stays_on es (suc n) 0 m (λ q other lt le x. h.last q other (omega (arith, e, lt)) (omega (arith, whole, le)) x)
        ∙ frame_at es n 0
        ∙ enters_by (event_at es (suc n)) f (frame_behind es n 0) enters
