-- A steal is a step of the free machine.
--
-- - `idle_place`: the worker that has no frame;
-- - `takes`, `steals_are_steps`: from what the functions change, by numbers, to the law of a
--   thief's choice.
use Rattle.std.proofs.Common.{◌≡◌, ◌-◌, ℕ, suc, true, false, if◌then◌else◌, ℤ, List, slice_get, Option, Some, None, refl, ap, subst}
use Rattle.std.specs.Option.{is_some}
use Rattle.std.specs.Prelude.{remove}
use Rattle.cilk_lower.specs.Code.{CodeView}
use Rattle.cilk_frames.specs.declared.activation.Activation.{Activation}
use Rattle.cilk_scheduler.specs.Events.{AwaitsLast}
use Rattle.cilk_scheduler.specs.Parts.{working}
use Rattle.cilk_scheduler.specs.FrameStates.{changed, moved_to}
use Rattle.cilk_scheduler.specs.Thieves.{IsOffered, TakesOver}
use Rattle.cilk_scheduler.specs.Workers.{IsLocated, altered, is_free, is_idle}
use Rattle.cilk_scheduler.specs.declared.scheduler.Scheduler.{Scheduler}
use Rattle.cilk_scheduler.specs.declared.choice.Choice.TheVariants as choices
use Rattle.cilk_scheduler.specs.declared.choice.Told.TheVariants as told
use Rattle.cilk_scheduler.specs.declared.frame_state.FrameState.{FrameState}
use Rattle.cilk_scheduler.specs.declared.frame_state.Status.TheVariants.{Held}
use Rattle.cilk_scheduler.specs.declared.frame_state.Worker.{Worker}
use Rattle.cilk_scheduler.proofs.Parts.{taken}
use Rattle.cilk_scheduler.proofs.Thieves.{steals_are_shown}
use Rattle.cilk_schedule.specs.Choices.{CanSteal}
use Rattle.cilk_schedule.specs.Passing.{HasNoView, OffersLess, Robs, StealsAreSteps}
use Rattle.cilk_schedule.proofs.Workers.{same_at}

-- ---- thieves

no_frame : (f : Option ℕ) → (if is_some f then false else true) ≡ true → f ≡ None
no_frame None h = refl
no_frame (Some k) h = let z : false ≡ true = h in cc

pub idle_place : (ws : List Worker) (v : ℕ) → is_idle ws (suc v) ≡ true → (u : Worker) × (slice_get ws v ≡ Some u) × (u.frame ≡ None)
idle_place ws v h = by (slice_get ws v) refl h
  where
    by : (o : Option Worker) → slice_get ws v ≡ o → is_free o ≡ true → (u : Worker) × (slice_get ws v ≡ Some u) × (u.frame ≡ None)
    by None e q = let z : false ≡ true = q in cc
    by (Some u) e q = (u, e, no_frame u.frame q)

module _ (b b' : Scheduler) (w place victim at k : ℕ) (can : CanSteal b (suc w) place k) (still : b.outcome ≡ None) (g : let l = b.workers in IsLocated l.items place victim at) (same : g.1 ≡ k) where
  is_offered : IsOffered b w place k
  is_offered =
      let l = b.workers in
      let thief = idle_place l.items w can.idle in
      record {
        thief = thief.0;
        owner = g.0;
        victim = victim;
        at = at;
        frame_state = can.frame_state;
        idles = thief.1;
        free = thief.2;
        owns = g.2;
        stands = let u = g.0 in let o = u.offered in subst (λ z. slice_get o.items at ≡ Some z) same g.3;
        is_place = can.offered;
        sits = can.sits;
        was_open = still;
      }

  -- what the functions change one after the other
  pub takes : (robbed_frames : List (Activation FrameState)) (less cleared : List Worker) → (let f = b.frames in Robs f.items robbed_frames k) → (let l = b.workers in OffersLess l.items less victim at) → HasNoView less cleared w
      → (let f = b'.frames in f.items ≡ changed (moved_to (Held w)) robbed_frames k) → (let l = b'.workers in l.items ≡ altered (working k) cleared w) → b'.offered ≡ b.offered - 1 → b'.cells ≡ b.cells → b'.journal ≡ b.journal → b'.ticks ≡ b.ticks → b'.outcome ≡ b.outcome
      → (h : IsOffered b w place k) × TakesOver b b' w place k h
  unfolding is_offered
  takes robbed_frames less cleared robs offers_less no_view frames_are workers_are offered cells journal ticks outcome =
      let l = b.workers in
      let f = b.frames in
      let h = is_offered in
      let one : robs.frame_state ≡ can.frame_state = same_at f.items k robs.frame_state can.frame_state robs.sits can.sits in
      let two : offers_less.owner ≡ g.0 = same_at l.items victim offers_less.owner g.0 offers_less.owns g.2 in
      let awaiting = robs.awaiting in
      let without = offers_less.without in (
        h,
        taken b b' w place k h robs.awaiting offers_less.without no_view.0 (changed (λ _. robs.awaiting) f.items k) robbed_frames less cleared
            (subst (λ (a : Activation FrameState). AwaitsLast a.cursor awaiting) one robs.awaits) refl robs.frames_are
            (subst (λ (u : Worker). without ≡ record u { offered = without.offered }) two offers_less.same) (subst (λ (u : Worker). let o = u.offered in let z = without.offered in z.items ≡ remove o.items at) two offers_less.items) offers_less.workers_are
            no_view.1 no_view.2 workers_are frames_are offered (ap (λ z. z.items) cells) (ap (λ z. z.items) journal) ticks outcome,
      )

pub steals_are_steps : (code : CodeView) (inputs : List ℤ) (b b' : Scheduler) (w place k : ℕ) → (h : IsOffered b w place k) × TakesOver b b' w place k h → StealsAreSteps code inputs b b' (choices.Steal (suc w) place) told.Stole
steals_are_steps code inputs b b' w place k took = λ p name d s sh. steals_are_shown code p inputs name b b' d s w place k sh.shows took.0 took.1
