-- A worker's frame that has reached a request other than a resume or a sync.
--
-- - `strands_stay`: an event that begins no strand leaves their number;
-- - `in_turn`, `quiet`: it begins and resumes where it must, and otherwise its last deed starts no
--   child;
-- - `own_views`, `own_bare`: the worker's views are the frame's piece, with nothing of frames that
--   haven't begun;
-- - `there`, `means_cell`, `means_reducer`, `result_lies`: what the request names exists, with the
--   number that its place means.
use Rattle.std.proofs.Common.{◌≡◌, ℕ, suc, Bool, true, false, cond, IsTrue, ℤ, List, [], ◌∷◌, ◌++◌, unwrap_or, Some, refl, sym, ap, ◌∙◌, subst}
use Rattle.std.specs.Option.{option_map}
use Rattle.cilk_types.specs.declared.event.Instance as numbered
use Rattle.cilk_monoid.specs.declared.kind.MonoidKind.{MonoidKind}
use Rattle.cilk_program.specs.declared.ask.Ask as language
use Rattle.cilk_program.specs.declared.ask.Ask.TheVariants as asks
use Rattle.cilk_program.specs.declared.syntax.Place.{Place}
use Rattle.cilk_program.specs.declared.syntax.Reducer as syntax
use Rattle.cilk_program.specs.Inside.{AskIsThere, IsTaken, body_of, is_whole}
use Rattle.cilk_program.specs.Scopes.{cell_in, instance_in}
use Rattle.cilk_program.specs.Syntax.{Source}
use Rattle.cilk_program.specs.WellNamed.{is_well_named, place_is_there, reducer_is_there}
use Rattle.cilk_lower.specs.Code.{CodeView}
use Rattle.cilk_lower.specs.Layout.{LaysOut}
use Rattle.cilk_hypermap.specs.Hypermap.{value_in}
use Rattle.cilk_frames.specs.declared.activation.Activation.{Activation}
use Rattle.cilk_determinacy.specs.Machine.{State, begins_strand, started, strands}
use Rattle.cilk_determinacy.specs.Monoids.{unit_of}
use Rattle.cilk_determinacy.specs.Runs.{Name, Global, Pass, Resume, Instance, Reducer, Event, Deed, Does, Invokes}
use Rattle.cilk_determinacy.specs.FrameEnvMachine.{costs, named_ask}
use Rattle.cilk_determinacy.specs.Reducers.{View, kind_of, monoid_of}
use Rattle.cilk_determinacy.specs.FrameEnvViews.{IsViewOf}
use Rattle.cilk_determinacy.specs.FrameEnvs.{FrameEnv, cell_seen, global_named, reducer_seen, result_cell}
use Rattle.cilk_scheduler.specs.declared.scheduler.Scheduler.{Scheduler}
use Rattle.cilk_scheduler.specs.declared.frame_state.FrameState.{FrameState}
use Rattle.cilk_scheduler.specs.Acting.{MeansCell, MeansReducer}
use Rattle.cilk_scheduler.specs.Schedulers.{is_resuming, Sits, ShowsBy}
use Rattle.cilk_scheduler.specs.WorkerTables.{WorkerTable}
use Rattle.cilk_scheduler.specs.Histories.{BeginsAndResumes, DidAsAsked}
use Rattle.cilk_scheduler.specs.Numbered.{IsAbsent, IsCell, IsInstance, CellBoth, numbers_in, global_cell, global_both}
use Rattle.cilk_scheduler.specs.Steps.{HasCome}
use Rattle.cilk_scheduler.proofs.Carried.{plain}
use Rattle.cilk_scheduler.proofs.Histories.{does_as_asked}
use Rattle.cilk_scheduler.proofs.Seeing.{asked_there, cell_named, cell_numbered, reducer_named, reducer_numbered}
use Rattle.cilk_scheduler.proofs.Stepped.{carries, goes, here, low, named_as, no_fault}
use Rattle.cilk_scheduler.proofs.Within.{no_fault_then}

pub strands_stay : (e : Event) → begins_strand e ≡ false → (ds : List (Deed FrameEnv)) → strands (ds ++ Does e ∷ []) ≡ strands ds
strands_stay e q [] = rw q refl
strands_stay e q (Does a ∷ ds) = ap (λ n. cond (begins_strand a) (suc n) n) (strands_stay e q ds)
strands_stay e q (Invokes how w ∷ ds) = strands_stay e q ds

module _ (code : CodeView) (p : Source) (inputs : List ℤ) (name : ℕ → Name) (b : Scheduler) (d : WorkerTable) (s : State FrameEnv View) (w k : ℕ) (ask : language.Ask) (lays : LaysOut p code.layout) (sh : ShowsBy code p inputs name b d s)
    (h : HasCome code p inputs b w k ask) (no_sync : ask ≡ asks.Sync → ⊥) where
  abbrev sits : Sits code p inputs name b s k h.frame_state
  sits = sh.sits k h.frame_state h.sits

  abbrev what : FrameEnv
  what = let f = (let o = sh.sits k h.frame_state h.sits in o.frame) in f.what

  abbrev past : List (Deed FrameEnv)
  past = let f = (let o = sh.sits k h.frame_state h.sits in o.frame) in f.deeds

  abbrev frame_states : List (Activation FrameState)
  frame_states = let f = b.frames in f.items

  -- it begins and resumes where it must
  pub in_turn : DidAsAsked p inputs s → BeginsAndResumes past (named_ask p what (suc (started past)) ask)
  in_turn asked =
      let fine = no_fault_then (costs p inputs) s.totals what past (named_ask p what (suc (started past)) ask) (no_fault code p inputs name b d s w k ask lays sh h no_sync) in
      let law = does_as_asked p inputs in
      law.order s (name k) (let o = sits in o.frame) (named_ask p what (suc (started past)) ask) asked (here code p inputs name b d s w k ask lays sh h no_sync) (let n = named_as code p inputs name b d s w k ask lays sh h no_sync in n.0) fine.0

  pub quiet : DidAsAsked p inputs s → (named_ask p what (suc (started past)) ask ≡ Pass Resume → ⊥) → is_resuming past ≡ false
  quiet asked other = by (is_resuming past) refl
    where
      by : (t : Bool) → is_resuming past ≡ t → is_resuming past ≡ false
      by true e = let it = in_turn asked in absurd (other (it.resumes_there e))
      by false e = e

  pub own_views : is_resuming past ≡ false → (i : Instance) (j : numbered.Instance) → IsInstance p frame_states name i j → IsViewOf (kind_of i) (s.piece (name k) i) (let u = h.worker in value_in u.views (kind_of i) j)
  own_views calm i j is =
      let u = h.worker in
      subst (λ v. IsViewOf (kind_of i) v (value_in u.views (kind_of i) j)) (plain (monoid_of i) (λ m. s.piece m i) s.stolen (name k) past false refl calm) (carries code p inputs name b d s w k ask lays sh h no_sync i j is)

  pub own_bare : (n : Name) (q : ℕ) (kind : MonoidKind) → IsAbsent frame_states name n → s.piece (name k) (Reducer n q kind) ≡ unit_of monoid_of (Reducer n q kind)
  own_bare n q kind none = sh.bare n (name k) q kind none (λ t. t k (low code p inputs name b d s w k ask lays sh h no_sync) refl)

  pub there : IsTrue (is_well_named p) → AskIsThere p (let w = what in w.callee) ask
  there well =
      let o = sits in
      let seen = o.seen in
      let sees = seen.sees in
      let x = (let a = h.frame_state in a.cursor) in
      let c = o.due (goes code p inputs name b d s w k ask lays sh h no_sync) in
      asked_there code p inputs what past x h.came c.0 ask x.due well sees.fit c.1 c.2 h.went

  pub means_cell : (x : Place) (n : ℕ) → (let w = what in IsTrue (is_whole w.callee) × IsTrue (place_is_there p (body_of p w.callee) x)) → MeansCell b k x n → IsCell p frame_states name s (cell_seen what x) n
  means_cell x n is means =
      let o = sits in
      let seen = o.seen in
      let sees = seen.sees in
      let own = sees.own is.0 in
      let both = own.cells x is.1 in
      let by_name : (let c = cell_in global_cell seen.scope x in c.0) ≡ cell_seen what x = cell_named seen.scope x ∙ ap (λ v. cell_in Global v x) (sym seen.names) in
      let by_number : (let c = cell_in global_cell seen.scope x in c.1) ≡ n = cell_numbered seen.scope x ∙ sym (means (numbers_in seen.scope) (h.frame_state, h.sits, seen.numbers)) in
      subst (λ m. IsCell p frame_states name s (cell_seen what x) m) by_number (subst (λ c. IsCell p frame_states name s c (let z = cell_in global_cell seen.scope x in z.1)) by_name both)

  pub means_reducer : (r : syntax.Reducer) (j : numbered.Instance) → (let w = what in IsTrue (is_whole w.callee) × IsTrue (reducer_is_there p (body_of p w.callee) r.place r.kind)) → MeansReducer b k r.place j
      → (kind_of (reducer_seen what r) ≡ r.kind) × IsInstance p frame_states name (reducer_seen what r) j
  means_reducer r j is means =
      let o = sits in
      let seen = o.seen in
      let sees = seen.sees in
      let own = sees.own is.0 in
      let both = own.reducers r.place r.kind is.1 in
      let by_name : (let c = instance_in global_both seen.scope r.place in c.0) ≡ instance_in global_named (let w = what in w.sight) r.place = reducer_named seen.scope r.place ∙ ap (λ v. instance_in global_named v r.place) (sym seen.names) in
      let by_number : (let c = instance_in global_both seen.scope r.place in c.1) ≡ j = reducer_numbered seen.scope r.place ∙ sym (means (numbers_in seen.scope) (h.frame_state, h.sits, seen.numbers)) in (
        sym (ap (λ (i : MonoidKind → Instance). kind_of (i r.kind)) by_name) ∙ both.0,
        subst (λ m. IsInstance p frame_states name (reducer_seen what r) m) by_number (subst (λ (i : MonoidKind → Instance). IsInstance p frame_states name (i r.kind) (let z = instance_in global_both seen.scope r.place in z.1)) by_name both.1),
      )

  pub result_lies : (n : ℕ) → (let w = what in IsTaken w.callee) → (let a = h.frame_state in a.result ≡ Some n) → IsCell p frame_states name s (result_cell what) n
  result_lies n taken lies =
      let o = sits in
      let seen = o.seen in
      let sees = seen.sees in
      let it = sees.result taken in
      let c = it.0 in
      let by_name : c.0 ≡ result_cell what = sym (ap (λ v. unwrap_or v (Global 0)) (seen.goes_to ∙ ap (λ t. option_map (λ (z : CellBoth). z.0) t) it.1)) in
      let same : Some c.1 ≡ Some n = sym (seen.lies_at ∙ ap (λ t. option_map (λ (z : CellBoth). z.1) t) it.1) ∙ lies in
      let by_number : c.1 ≡ n = cc in
      subst (λ m. IsCell p frame_states name s (result_cell what) m) by_number (subst (λ z. IsCell p frame_states name s z c.1) by_name it.2)
