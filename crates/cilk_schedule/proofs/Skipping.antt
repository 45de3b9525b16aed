-- A choice that is skipped can't be made.
--
-- - `located_in`: a continuation that is offered is in some worker's list;
-- - `run_skips`, `steal_skips`: a choice of a worker that is to run, and of one that is to steal;
-- - `skips_are_steps`, `over_skips`: from choices that can't be made, and in a run that is over, to
--   the law.
use Rattle.std.proofs.Common.{◌≡◌, ◌⊎◌, inl, inr, ◌<◌, ℕ, zero, suc, nat_lt, Bool, true, false, ℤ, List, [], ◌∷◌, ◌++◌, slice_get, Option, Some, None, Result, Ok, Err, IfOk, refl, sym, ◌∙◌, subst}
use Rattle.std.proofs.lemmas.Bool.{ltb-false, ltb-true}
use Rattle.cilk_types.specs.declared.outcome.Outcome.{Outcome}
use Rattle.cilk_program.specs.Syntax.{Source}
use Rattle.cilk_lower.specs.Code.{CodeView}
use Rattle.cilk_determinacy.specs.Machine.{State}
use Rattle.cilk_determinacy.specs.Runs.{Name}
use Rattle.cilk_determinacy.specs.Reducers.{View}
use Rattle.cilk_determinacy.specs.FrameEnvs.{FrameEnv}
use Rattle.cilk_scheduler.specs.Schedulers.{ShowsBy}
use Rattle.cilk_scheduler.specs.WorkerTables.{WorkerTable, Chooses, Skipped}
use Rattle.cilk_scheduler.specs.Workers.{IsLocated, held_by, is_idle, offers}
use Rattle.cilk_scheduler.specs.declared.scheduler.Scheduler.{Scheduler}
use Rattle.cilk_scheduler.specs.declared.choice.Choice.{Choice}
use Rattle.cilk_scheduler.specs.declared.choice.Choice.TheVariants as choices
use Rattle.cilk_scheduler.specs.declared.choice.Stop.{Stop}
use Rattle.cilk_scheduler.specs.declared.choice.Told.{Told}
use Rattle.cilk_scheduler.specs.declared.choice.Told.TheVariants as told
use Rattle.cilk_scheduler.specs.declared.frame_state.Worker.{Worker}
use Rattle.cilk_scheduler.proofs.Parts.{offered}
use Rattle.cilk_scheduler.proofs.Stopping.{skips_are_shown}
use Rattle.cilk_schedule.specs.Choices.{CanChoose}
use Rattle.cilk_schedule.specs.Passing.{SkipsAreSteps}
use Rattle.cilk_schedule.proofs.Workers.{is_held}

-- one of two lists has it
one_of : (xs ys : List ℕ) (i k : ℕ) → slice_get (xs ++ ys) i ≡ Some k → (slice_get xs i ≡ Some k) ⊎ ((j : ℕ) × (slice_get ys j ≡ Some k))
one_of [] ys i k h = inr (i, h)
one_of (x ∷ xs) ys zero k h = inl h
one_of (x ∷ xs) ys (suc i) k h = one_of xs ys i k h

abbrev Stands : List Worker → ℕ → Type 0
Stands ws k = (victim : ℕ) × (at : ℕ) × (u : Worker) × (slice_get ws victim ≡ Some u) × (let o = u.offered in slice_get o.items at ≡ Some k)

in_either : (u : Worker) (ws : List Worker) (place k : ℕ) → (let o = u.offered in slice_get o.items place ≡ Some k) ⊎ ((j : ℕ) × (slice_get (offers ws) j ≡ Some k)) → ((j : ℕ) → slice_get (offers ws) j ≡ Some k → Stands ws k) → Stands (u ∷ ws) k
in_either u ws place k (inl q) later = (0, place, u, refl, q)
in_either u ws place k (inr q) later = let r = later q.0 q.1 in (suc r.0, r.1, r.2, r.3, r.4)

in_list : (ws : List Worker) (place k : ℕ) → slice_get (offers ws) place ≡ Some k → Stands ws k
in_list [] place k h = let z : None ≡ Some k = h in cc
in_list (u ∷ ws) place k h = in_either u ws place k (let o = u.offered in one_of o.items (offers ws) place k h) (λ j q. in_list ws j k q)

pub located_in : (ws : List Worker) (place k : ℕ) → slice_get (offers ws) place ≡ Some k → (victim : ℕ) × (at : ℕ) × IsLocated ws place victim at
located_in ws place k h = let r = in_list ws place k h in (r.0, r.1, (r.2, k, r.3, r.4, h))

module _ (code : CodeView) (p : Source) (inputs : List ℤ) (name : ℕ → Name) (b : Scheduler) (d : WorkerTable) (s : State FrameEnv View) (sh : ShowsBy code p inputs name b d s) where
  run_skips : (worker : ℕ) → (CanChoose b (choices.Run worker) → ⊥) → Chooses p inputs s d (choices.Run worker) Skipped s d
  run_skips zero can_not = let sk = skips_are_shown code p inputs in sk.nobody name b d s 0 sh refl
  run_skips (suc v) can_not = by (let l = b.workers in held_by l.items (suc v)) refl
    where
      by : (o : Option ℕ) → (let l = b.workers in held_by l.items (suc v) ≡ o) → Chooses p inputs s d (choices.Run (suc v)) Skipped s d
      by None e = let sk = skips_are_shown code p inputs in sk.nobody name b d s (suc v) sh e
      by (Some k) e =
          let sk = skips_are_shown code p inputs in
          let l = b.workers in
          let it = sk.held name b d s v k sh e in
          let f = it.0 in
          let there = is_held l.items (suc v) k e in
          absurd (can_not (k, record { held = e; first = there.0; last = there.1; frame_state = f.frame_state; sits = f.sits; cursor = it.1; has = it.2 }))

  steal_skips : (worker place : ℕ) → b.outcome ≡ None → (CanChoose b (choices.Steal worker place) → ⊥) → Chooses p inputs s d (choices.Steal worker place) Skipped s d
  unfolding located_in
  steal_skips zero place still can_not = let sk = skips_are_shown code p inputs in sk.busy name b d s 0 place sh refl
  steal_skips (suc v) place still can_not = by (let l = b.workers in is_idle l.items (suc v)) refl
    where
      low : (k : ℕ) → (let l = b.workers in slice_get (offers l.items) place ≡ Some k) → (t : Bool) → nat_lt place b.offered ≡ t → place < b.offered
      low k e true q = ltb-true place b.offered q
      low k e false q = let sk = skips_are_shown code p inputs in let z : None ≡ Some k = sym (sk.past name b d s place sh (ltb-false place b.offered q)) ∙ e in cc

      at : (let l = b.workers in is_idle l.items (suc v) ≡ true) → (o : Option ℕ) → (let l = b.workers in slice_get (offers l.items) place ≡ o) → Chooses p inputs s d (choices.Steal (suc v) place) Skipped s d
      at idle None e = let sk = skips_are_shown code p inputs in sk.unoffered name b d s (suc v) place sh e
      at idle (Some k) e =
          let l = b.workers in
          let g = located_in l.items place k e in
          let it = offered code p inputs name b d s v place g.0 g.1 sh still idle g.2 in
          let h = it.0 in
          absurd (can_not (k, record { idle = idle; few = low k e (nat_lt place b.offered) refl; offered = e; frame_state = h.frame_state; sits = h.sits; opens = (let q = it.4 in q.0) }))

      by : (t : Bool) → (let l = b.workers in is_idle l.items (suc v) ≡ t) → Chooses p inputs s d (choices.Steal (suc v) place) Skipped s d
      by false e = let sk = skips_are_shown code p inputs in sk.busy name b d s (suc v) place sh e
      by true e = at e (let l = b.workers in slice_get (offers l.items) place) refl

  choice_skips : (c : Choice) → b.outcome ≡ None → (CanChoose b c → ⊥) → Chooses p inputs s d c Skipped s d
  choice_skips (choices.Run worker) still can_not = run_skips worker can_not
  choice_skips (choices.Steal worker place) still can_not = steal_skips worker place still can_not

pub skips_are_steps : (code : CodeView) (inputs : List ℤ) (b b' : Scheduler) (c : Choice) → b.outcome ≡ None → (r : Result Told Stop) → IfOk r (λ t. t ≡ told.Skipped → b' ≡ b) → (r ≡ Ok told.Skipped → CanChoose b c → ⊥) → IfOk r (λ t. SkipsAreSteps code inputs b b' c t)
skips_are_steps code inputs b b' c still (Ok (told.Did act)) same can_not = tt
skips_are_steps code inputs b b' c still (Ok told.Stole) same can_not = tt
skips_are_steps code inputs b b' c still (Ok told.Waits) same can_not = tt
skips_are_steps code inputs b b' c still (Ok told.Skipped) same can_not = λ p name d s sh. (
  choice_skips code p inputs name b d s sh.shows c still (can_not refl),
  subst (λ q. ShowsBy code p inputs name q d s) (sym (same refl)) sh.shows,
)
skips_are_steps code inputs b b' c still (Err x) same can_not = tt

pub over_skips : (code : CodeView) (inputs : List ℤ) (b : Scheduler) (c : Choice) (o : Outcome) → b.outcome ≡ Some o → SkipsAreSteps code inputs b b c told.Skipped
over_skips code inputs b c o is = λ p name d s sh. let sk = skips_are_shown code p inputs in (sk.over name b d s c o sh.shows is, sh.shows)
