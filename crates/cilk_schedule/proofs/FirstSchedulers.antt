-- Schedulers that show a reachable state.
--
-- - `each_more`: what holds of each element holds of one more;
-- - `has_opened`, `first_reached`: a new scheduler shows the opening state;
-- - `goes_on`: a choice leads from one to the next.
use Rattle.std.proofs.Common.{◌≡◌, ℕ, zero, suc, ℤ, List, [], ◌∷◌, ◌++◌, length, slice_get, Some, refl, subst}
use Rattle.cilk_program.specs.Syntax.{Source}
use Rattle.cilk_lower.specs.Code.{CodeView}
use Rattle.cilk_determinacy.specs.Machine.{State}
use Rattle.cilk_determinacy.specs.Runs.{Name}
use Rattle.cilk_determinacy.specs.Reducers.{View}
use Rattle.cilk_determinacy.specs.FrameEnvs.{FrameEnv}
use Rattle.cilk_scheduler.specs.declared.scheduler.Scheduler.{Scheduler}
use Rattle.cilk_scheduler.specs.declared.choice.Choice.{Choice}
use Rattle.cilk_scheduler.specs.Schedulers.{ShowsBy}
use Rattle.cilk_scheduler.specs.WorkerTables.{Chooses, Comes, WorkerTable}
use Rattle.cilk_scheduler.specs.Openings.{IsNew, first_worker_table}
use Rattle.cilk_scheduler.proofs.Choosing.{choices_are_steps}
use Rattle.cilk_scheduler.proofs.Openings.{openings_are_shown}
use Rattle.cilk_schedule.specs.Reached.{HasOpened, HasReached}
use Rattle.cilk_lower.specs.Behaves.{IsCodeOf}
use Rattle.cilk_schedule.proofs.Coming.{some_is}

pub each_more : {A : Type 0} (P : ℕ → A → Type 0) (xs : List A) (x : A) → ((v : ℕ) (u : A) → slice_get xs v ≡ Some u → P v u) → P (length xs) x → (v : ℕ) (u : A) → slice_get (xs ++ x ∷ []) v ≡ Some u → P v u
each_more P [] x each last zero u e = subst (λ z. P 0 z) (some_is x u e) last
each_more P [] x each last (suc v) u e = absurd (let f : ⊥ = cc in f)
each_more P (y ∷ ys) x each last zero u e = each zero u e
each_more P (y ∷ ys) x each last (suc v) u e = each_more (λ n z. P (suc n) z) ys x (λ n z. each (suc n) z) last v u e

pub has_opened : (code : CodeView) (p : Source) (inputs : List ℤ) → IsCodeOf p code → (b : Scheduler) (count : ℕ) → (h : IsNew code p inputs b) × (let l = h.others in length l ≡ count) → HasOpened code p inputs b count
has_opened code p inputs is b count (h, many) =
    let o = openings_are_shown code p inputs is.well is.lays b h in
    record { state = o.0; first = o.1; shows = subst (λ n. ShowsBy code p inputs (λ q. []) b (first_worker_table n) o.0) many o.2 }

pub first_reached : (code : CodeView) (p : Source) (inputs : List ℤ) (b : Scheduler) (idle : ℕ) → HasOpened code p inputs b idle → HasReached code p inputs b
first_reached code p inputs b idle h = record { steps = []; state = h.state; reaches = (h.state, h.first, refl); name = λ n. []; worker_table = first_worker_table idle; shows = h.shows }

pub goes_on : (code : CodeView) (p : Source) (inputs : List ℤ) (b b' : Scheduler) (h : HasReached code p inputs b) (c : Choice) (t : Comes) (s' : State FrameEnv View) (d' : WorkerTable) (name' : ℕ → Name)
    → Chooses p inputs h.state h.worker_table c t s' d' → ShowsBy code p inputs name' b' d' s' → (h' : HasReached code p inputs b') × Chooses p inputs h.state h.worker_table c t h'.state h'.worker_table
goes_on code p inputs b b' h c t s' d' name' chooses shows =
    let law = choices_are_steps p inputs in
    let x = h.shows in
    let r = law.reached h.steps h.state s' h.worker_table d' c t x.running h.reaches chooses in
    (record { steps = r.0; state = s'; reaches = r.1; name = name'; worker_table = d'; shows = shows }, chooses)
