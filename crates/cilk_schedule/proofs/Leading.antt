-- A choice leads from a scheduler that shows a reachable state to another such scheduler.
--
-- - `reached_of`: what holds of each reachable state;
-- - `led_by`, `events_reach`: by an event;
-- - `choices_reach`, `if_ok_reaches`: whatever the result of the choice.
use Rattle.std.proofs.Common.{ℕ, ℤ, List, refl}
use Rattle.std.specs.Prelude.{Result, Ok, Err, IfOk}
use Rattle.cilk_scheduler.specs.declared.choice.Stop.{Stop}
use Rattle.cilk_types.specs.declared.event.Event.{Event}
use Rattle.cilk_types.specs.declared.event.Event.TheVariants as events
use Rattle.cilk_program.specs.Syntax.{Source}
use Rattle.cilk_lower.specs.Code.{CodeView}
use Rattle.cilk_determinacy.specs.Machine.{State}
use Rattle.cilk_determinacy.specs.Reducers.{View}
use Rattle.cilk_determinacy.specs.FrameEnvs.{FrameEnv}
use Rattle.cilk_scheduler.specs.Schedulers.{ShowsBy}
use Rattle.cilk_scheduler.specs.WorkerTables.{Chooses, Comes, Did, Skipped, Stole, Waited}
use Rattle.cilk_scheduler.specs.declared.scheduler.Scheduler.{Scheduler}
use Rattle.cilk_scheduler.specs.declared.choice.Act.{Act}
use Rattle.cilk_scheduler.specs.declared.choice.Choice.{Choice}
use Rattle.cilk_scheduler.specs.declared.choice.Told.{Told}
use Rattle.cilk_scheduler.specs.declared.choice.Told.TheVariants as told
use Rattle.cilk_scheduler.proofs.GoneOn.{gone_on_behind}
use Rattle.cilk_scheduler.proofs.Histories.{does_as_asked}
use Rattle.cilk_scheduler.proofs.Parents.{names_are_kept, parents_outlive}
use Rattle.cilk_schedule.specs.Acts.{EventsAreSteps}
use Rattle.cilk_schedule.specs.Ends.{EndsAreSteps}
use Rattle.cilk_schedule.specs.Passing.{SkipsAreSteps, StealsAreSteps, SyncsAreSteps, WaitsAreSteps}
use Rattle.cilk_schedule.specs.Reached.{HasReached, IsReached, LeadsOn, comes_of}
use Rattle.cilk_lower.specs.Behaves.{IsCodeOf}
use Rattle.cilk_schedule.specs.Starting.{StartsAreSteps}
use Rattle.cilk_schedule.proofs.FirstSchedulers.{goes_on}

pub reached_of : (code : CodeView) (p : Source) (inputs : List ℤ) (b : Scheduler) → IsCodeOf p code → (h : HasReached code p inputs b) → IsReached code p inputs h.name b h.worker_table h.state
reached_of code p inputs b is h =
    let asked = does_as_asked p inputs in
    let outlive = parents_outlive p inputs in
    let behind = gone_on_behind p inputs in
    let started = names_are_kept p inputs in
    record {
      behaves = is.behaves;
      shown = record { well = is.well; lays = is.lays; shows = h.shows; asked = asked.reached h.steps h.state h.reaches };
      outlive = outlive.reached h.steps h.state h.reaches;
      behind = behind.reached h.steps h.state h.reaches;
      started = started.reached h.steps h.state h.reaches;
    }

module _ (code : CodeView) (inputs : List ℤ) (b b' : Scheduler) (c : Choice) (p : Source) (is : IsCodeOf p code) (h : HasReached code p inputs b) where
  -- the choice, by names, leads from the one state to the other
  abbrev Leads : Comes → Type 0
  Leads t = (h' : HasReached code p inputs b') × Chooses p inputs h.state h.worker_table c t h'.state h'.worker_table

  -- by a step that keeps names and worker table
  led_by : (s' : State FrameEnv View) × Chooses p inputs h.state h.worker_table c Did s' h.worker_table × ShowsBy code p inputs h.name b' h.worker_table s' → Leads Did
  led_by m = goes_on code p inputs b b' h c Did m.0 h.worker_table h.name m.1 m.2

  events_reach : (frame : ℕ) (e : Event) → (let act : Act = record { frame = frame; event = e } in EventsAreSteps code inputs b b' c (told.Did act) × StartsAreSteps code inputs b b' c (told.Did act) × SyncsAreSteps code inputs b b' c (told.Did act) × EndsAreSteps code inputs b b' c (told.Did act))
      → Leads Did
  events_reach frame (events.Begin k) m = let r = reached_of code p inputs b is h in led_by (m.0 tt p h.name h.worker_table h.state r.shown)
  events_reach frame (events.Read n v) m = let r = reached_of code p inputs b is h in led_by (m.0 tt p h.name h.worker_table h.state r.shown)
  events_reach frame (events.Write n v) m = let r = reached_of code p inputs b is h in led_by (m.0 tt p h.name h.worker_table h.state r.shown)
  events_reach frame (events.Create j) m = let r = reached_of code p inputs b is h in led_by (m.0 tt p h.name h.worker_table h.state r.shown)
  events_reach frame (events.Update j v) m = let r = reached_of code p inputs b is h in led_by (m.0 tt p h.name h.worker_table h.state r.shown)
  events_reach frame (events.Set j v) m = let r = reached_of code p inputs b is h in led_by (m.0 tt p h.name h.worker_table h.state r.shown)
  events_reach frame (events.Value j v) m = let r = reached_of code p inputs b is h in led_by (m.0 tt p h.name h.worker_table h.state r.shown)
  events_reach frame (events.Print v) m = let r = reached_of code p inputs b is h in led_by (m.0 tt p h.name h.worker_table h.state r.shown)
  events_reach frame (events.Resume k) m = let r = reached_of code p inputs b is h in led_by (m.0 tt p h.name h.worker_table h.state r.shown)
  events_reach frame (events.Call k) m =
      let t = m.1 tt p h.name h.worker_table h.state (reached_of code p inputs b is h) in
      let x = t.4 in
      let y = x.shown in
      goes_on code p inputs b b' h c Did t.1 t.2 t.0 t.3 y.shows
  events_reach frame (events.Spawn k) m =
      let t = m.1 tt p h.name h.worker_table h.state (reached_of code p inputs b is h) in
      let x = t.4 in
      let y = x.shown in
      goes_on code p inputs b b' h c Did t.1 t.2 t.0 t.3 y.shows
  events_reach frame events.Sync m = let r = reached_of code p inputs b is h in led_by (m.2 refl p h.name h.worker_table h.state r.shown r.behind)
  events_reach frame events.End m =
      let t = m.3 refl p h.name h.worker_table h.state (reached_of code p inputs b is h) in
      let x = t.3 in
      let y = x.shown in
      goes_on code p inputs b b' h c Did t.0 t.1 h.name t.2 y.shows

  pub choices_reach : (t : Told) → EventsAreSteps code inputs b b' c t → StartsAreSteps code inputs b b' c t → SyncsAreSteps code inputs b b' c t → EndsAreSteps code inputs b b' c t → StealsAreSteps code inputs b b' c t → WaitsAreSteps code inputs b b' c t
      → SkipsAreSteps code inputs b b' c t → Leads (comes_of t)
  choices_reach (told.Did act) touches starts syncs ends steals waits skips = events_reach act.frame act.event (touches, starts, syncs, ends)
  choices_reach told.Stole touches starts syncs ends steals waits skips =
      let r = reached_of code p inputs b is h in
      let m = steals p h.name h.worker_table h.state r.shown in
      goes_on code p inputs b b' h c Stole m.0 m.1 h.name m.2 m.3
  choices_reach told.Waits touches starts syncs ends steals waits skips =
      let r = reached_of code p inputs b is h in
      let m = waits p h.name h.worker_table h.state r.shown in
      goes_on code p inputs b b' h c Waited h.state m.0 h.name m.1 m.2
  choices_reach told.Skipped touches starts syncs ends steals waits skips =
      let r = reached_of code p inputs b is h in
      let m = skips p h.name h.worker_table h.state r.shown in
      goes_on code p inputs b b' h c Skipped h.state h.worker_table h.name m.0 m.1

pub if_ok_reaches : (code : CodeView) (inputs : List ℤ) (b b' : Scheduler) (c : Choice) (r : Result Told Stop) → IfOk r (λ t. EventsAreSteps code inputs b b' c t) → IfOk r (λ t. StartsAreSteps code inputs b b' c t)
    → IfOk r (λ t. SyncsAreSteps code inputs b b' c t) → IfOk r (λ t. EndsAreSteps code inputs b b' c t) → IfOk r (λ t. StealsAreSteps code inputs b b' c t) → IfOk r (λ t. WaitsAreSteps code inputs b b' c t)
    → IfOk r (λ t. SkipsAreSteps code inputs b b' c t) → IfOk r (λ t. (p : Source) → IsCodeOf p code → LeadsOn code p inputs b b' c t)
if_ok_reaches code inputs b b' c (Ok t) touches starts syncs ends steals waits skips = λ p is h. choices_reach code inputs b b' c p is h t touches starts syncs ends steals waits skips
if_ok_reaches code inputs b b' c (Err stop) touches starts syncs ends steals waits skips = tt
