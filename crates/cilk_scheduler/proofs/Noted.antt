-- Events, put together from the contracts of the functions: a frame reaches its request, and its
-- event is recorded.
--
-- - `sight_stays`: what a frame sees that has gone on;
-- - `is_ready`: a frame may continue;
-- - `taken_more`, `ticks_more`: ticks are counted no faster than they are taken;
-- - `refused_low`, `frames_come`: a frame has come to an ask;
-- - `read_there`, `write_there`, `result_there`, `reducer_there`: cells and reducers are there;
-- - `views_set`, `noted`: an event is noted.
use Rattle.std.proofs.Common.{◌≡◌, ⊎_elim, ◌+◌, ◌-◌, ◌<◌, ◌≤◌, ℕ, zero, suc, nat_lt, Bool, true, false, if◌then◌else◌, IsTrue, ℤ, List, [], ◌∷◌, ◌++◌, length, slice_get, slice_set, Option, Some, None, refl, sym, ap, ◌∙◌, subst, arith}
use Rattle.std.proofs.lemmas.Bool.{ltb-false}
use Rattle.std.specs.Option.{option_map}
use Rattle.cilk_types.specs.declared.fault.Fault.{Fault}
use Rattle.cilk_types.specs.declared.fault.Fault.TheVariants.{TooManyEvents}
use Rattle.cilk_types.specs.declared.limits.TheConstants.{MAX_TICKS}
use Rattle.cilk_program.specs.declared.ask.Ask.{Ask}
use Rattle.cilk_program.specs.declared.ask.Ask.TheVariants as asks
use Rattle.cilk_program.specs.declared.ask.Callee.{Callee}
use Rattle.cilk_program.specs.declared.syntax.Reducer.{Reducer}
use Rattle.cilk_program.specs.Behaviour.{frame_asks}
use Rattle.cilk_program.specs.Inside.{AskIsThere, body_of}
use Rattle.cilk_program.specs.Syntax.{Source}
use Rattle.cilk_program.specs.WellNamed.{reducer_is_there}
use Rattle.cilk_program.proofs.Naming.{well_named_parts}
use Rattle.cilk_program.proofs.Smallness.{reducer_small}
use Rattle.cilk_program.proofs.Ticking.{frame_further}
use Rattle.cilk_lower.specs.Code.{CodeView}
use Rattle.cilk_frames.specs.Cursor.{CursorView}
use Rattle.cilk_frames.specs.declared.activation.Activation.{Activation}
use Rattle.cilk_hypermap.specs.declared.hypermap.Hypermap.{Hypermap}
use Rattle.cilk_determinacy.specs.Machine.{State}
use Rattle.cilk_determinacy.specs.Runs.{Name, Deed}
use Rattle.cilk_determinacy.specs.FrameEnvMachine.{answer_of, answers_of, but_last, has_ended, taken}
use Rattle.cilk_determinacy.specs.Reducers.{View}
use Rattle.cilk_determinacy.specs.FrameEnvs.{FrameEnv}
use Rattle.cilk_determinacy.proofs.Histories.{answers_more}
use Rattle.cilk_scheduler.specs.declared.scheduler.Scheduler.{Scheduler}
use Rattle.cilk_scheduler.specs.declared.frame_state.Due.{Due}
use Rattle.cilk_scheduler.specs.declared.frame_state.Due.TheVariants as due
use Rattle.cilk_scheduler.specs.declared.frame_state.FrameState.{FrameState}
use Rattle.cilk_scheduler.specs.declared.frame_state.Status.TheVariants.{Held}
use Rattle.cilk_scheduler.specs.declared.frame_state.Worker.{Worker}
use Rattle.cilk_scheduler.specs.Asking.{IsReadyFor, refusal}
use Rattle.cilk_scheduler.specs.Schedulers.{IsDue, IsWhere, Sits, ShowsBy}
use Rattle.cilk_scheduler.specs.WorkerTables.{WorkerTable}
use Rattle.cilk_scheduler.specs.Events.{SeesAt}
use Rattle.cilk_scheduler.specs.Noting.{SightStays, HasFrame, FramesAreReady, TicksAreMore, FramesCome, ReadCellsAreThere, WrittenCellsAreThere, ResultCellsAreThere, ReducersAreThere, EventsAreNoted, reducer_asked}
use Rattle.cilk_scheduler.specs.Numbered.{CellBoth, IsCell, numbers_in}
use Rattle.cilk_scheduler.specs.FrameStates.{changed, counted}
use Rattle.cilk_scheduler.specs.Workers.{viewing}
use Rattle.cilk_scheduler.proofs.Changing.{changed_here, changed_length, changed_twice}
use Rattle.cilk_scheduler.proofs.Kept.{sees_changed}
use Rattle.cilk_scheduler.proofs.Nexts.{named_next}
use Rattle.cilk_scheduler.proofs.Plain.{get_low}
use Rattle.cilk_scheduler.proofs.Ready.{there}
use Rattle.cilk_scheduler.proofs.Seeing.{cell_numbered}
use Rattle.cilk_scheduler.proofs.Stepped.{kept_by}
use Rattle.cilk_scheduler.proofs.Viewing.{viewing_own}

refused_low : (ticks : ℕ) (rest : Option Fault) → (if nat_lt MAX_TICKS ticks then Some TooManyEvents else rest) ≡ None → ticks ≤ MAX_TICKS
refused_low ticks rest h = ltb-false MAX_TICKS ticks (by (nat_lt MAX_TICKS ticks) h)
  where
    by : (t : Bool) → (if t then Some TooManyEvents else rest) ≡ None → t ≡ false
    by true q = let no : Some TooManyEvents ≡ None = q in cc
    by false q = refl

pub sight_stays : SightStays
sight_stays frames went k came is = (
  λ scope sees. subst (λ (l : List (Activation FrameState)). SeesAt l k scope) (sym is) (sees_changed (λ _. came) frames k k scope sees),
  λ a at. ap (λ (l : List (Activation FrameState)). slice_get l k) is ∙ changed_here (λ _. came) frames k a at,
)

-- one deed more leaves no fewer ticks taken
module _ (p : Source) (inputs : List ℤ) (w : FrameEnv) where
  last_of : (ds : List (Deed FrameEnv)) (d : Deed FrameEnv) → (e : Deed FrameEnv) × (d ∷ ds ≡ but_last (d ∷ ds) ++ e ∷ [])
  last_of [] d = (d, refl)
  last_of (x ∷ ds) d = let it = last_of ds x in (it.0, ap (λ l. d ∷ l) it.1)

  taken_more : (ds : List (Deed FrameEnv)) → taken p inputs w (but_last ds) ≤ taken p inputs w ds
  taken_more [] = omega arith
  taken_more (d ∷ ds) =
      let it = last_of ds d in
      let front = but_last (d ∷ ds) in
      let further = frame_further p inputs w.callee (answer_of it.0) (answers_of front) MAX_TICKS in
      let same : answers_of (d ∷ ds) ≡ answers_of front ++ answer_of it.0 ∷ [] = ap answers_of it.1 ∙ answers_more front it.0 in
      let less : (let q = frame_asks p inputs w.callee (answers_of (d ∷ ds)) MAX_TICKS in q.left) ≤ (let q = frame_asks p inputs w.callee (answers_of front) MAX_TICKS in q.left) =
      subst (λ l. (let q = frame_asks p inputs w.callee l MAX_TICKS in q.left) ≤ (let q = frame_asks p inputs w.callee (answers_of front) MAX_TICKS in q.left)) (sym same) further in
      omega (arith, less)

none_named : {X : Type 0} (r : Reducer) → None ≡ Some r → X
none_named r e = let no : ⊥ = cc in absurd no

module _ (code : CodeView) (p : Source) (inputs : List ℤ) where
  module _ (name : ℕ → Name) (b : Scheduler) (d : WorkerTable) (s : State FrameEnv View) (w k : ℕ) (sh : ShowsBy code p inputs name b d s) (f : HasFrame b w k) where
    abbrev sits : Sits code p inputs name b s k f.frame_state
    sits = sh.sits k f.frame_state f.sits

    goes : has_ended (let g = (let o = sh.sits k f.frame_state f.sits in o.frame) in g.deeds) ≡ false
    goes =
        let g = sh.holds w k f.worker f.at f.has in
        let same : g.frame_state ≡ f.frame_state = (let q : Some g.frame_state ≡ Some f.frame_state = sym g.here ∙ f.sits in cc) in
        let status : (let a = f.frame_state in let x = a.cursor in x.status) ≡ Held w = ap (λ (a : Activation FrameState). let y = a.cursor in y.status) (sym same) ∙ g.held in
        let o = sits in
        (subst (λ z. IsWhere code p inputs name b s k (name k) (let t = (let o = sh.sits k f.frame_state f.sits in o.frame) in t.deeds) (let a = f.frame_state in a.cursor) z) status o.is_where).4

  ready_for : (w : FrameEnv) (deeds : List (Deed FrameEnv)) (x : FrameState) (c : CursorView) (d : Due) → x.cursor ≡ Some c → IsDue code p inputs w deeds d c x.took → IsReadyFor code inputs x d
  ready_for w deeds x c due.Begin at is = tt
  ready_for w deeds x c (due.Answer a) at is = (c, at, (_, is.stands), is.fits, is.small)
  ready_for w deeds x c due.Sync at is = tt

  pub is_ready : FramesAreReady code p inputs
  is_ready name b d s w k sh f =
      let o = sits name b d s w k sh f in
      let g = o.frame in
      let x = (let a = f.frame_state in a.cursor) in
      let c = o.due (goes name b d s w k sh f) in
      ready_for g.what g.deeds x c.0 x.due c.1 c.2

  pub ticks_more : TicksAreMore code p inputs
  ticks_more name b d s w k ask came sh f went =
      let o = sits name b d s w k sh f in
      let g = o.frame in
      let x = (let a = f.frame_state in a.cursor) in
      let c = o.due (goes name b d s w k sh f) in
      let took = (named_next code p inputs g.what g.deeds x came c.0 ask (goes name b d s w k sh f) c.1 c.2 went).1 in
      let counts : came.counted ≡ x.counted = ap (λ (y : FrameState). y.counted) (kept_by code p inputs x came ask x.due went) in
      let was = o.counted in
      let more = taken_more p inputs g.what g.deeds in
      omega (arith, took, counts, was, more)

  pub frames_come : FramesCome code p inputs
  frames_come b w k ticks ask came went f open_yet gone went_is ticks_are fine =
      let l = b.frames in
      let e = b.journal in
      let c = b.cells in
      let here : slice_get went k ≡ Some (record f.frame_state { cursor = came }) = ap (λ z. slice_get z k) went_is ∙ changed_here (λ _. came) l.items k f.frame_state f.sits in
      let is : ticks ≡ came.took - came.counted = ticks_are (record f.frame_state { cursor = came }) here in
      let many : length went ≡ length l.items = ap (λ (z : List (Activation FrameState)). length z) went_is ∙ changed_length (λ _. came) l.items k in
      let accepted : refusal (b.ticks + (came.took - came.counted)) (length e.items) (length l.items) (length c.items) code.layout ask ≡ None =
      subst (λ n. refusal (b.ticks + (came.took - came.counted)) (length e.items) n (length c.items) code.layout ask ≡ None) many (subst (λ n. refusal (b.ticks + n) (length e.items) (length went) (length c.items) code.layout ask ≡ None) is fine) in (
        record { worker = f.worker; frame_state = f.frame_state; came = came; at = f.at; has = f.has; sits = f.sits; was_open = open_yet; went = gone; accepted = accepted },
        refl,
        refl,
        refl,
        refused_low (b.ticks + (came.took - came.counted)) _ accepted,
      )

  -- ---- cells are there

  module _ (name : ℕ → Name) (b : Scheduler) (d : WorkerTable) (s : State FrameEnv View) (sh : ShowsBy code p inputs name b d s) where
    low_cell : (c : _) (n : ℕ) → (let f = b.frames in IsCell p f.items name s c n) → (let l = b.cells in n < length l.items)
    low_cell c n is = let l = b.cells in get_low l.items n (s.memory c) (sh.memory c n is)

  pub read_there : ReadCellsAreThere code p inputs
  read_there name b d s w k x t h =
      let sh = t.shows in
      let o = sh.sits k h.frame_state h.sits in
      let seen = o.seen in
      let sees = seen.sees in
      let is = there code p inputs name b d s w k (asks.Read x) t.lays sh h (λ q. cc) t.well in
      let own = sees.own is.0 in
      let l = b.cells in
      (numbers_in seen.scope, (h.frame_state, h.sits, seen.numbers), subst (λ n. n < length l.items) (cell_numbered seen.scope x) (low_cell name b d s sh _ _ (own.cells x is.1)))

  pub write_there : WrittenCellsAreThere code p inputs
  write_there name b d s w k x v t h =
      let sh = t.shows in
      let o = sh.sits k h.frame_state h.sits in
      let seen = o.seen in
      let sees = seen.sees in
      let is = there code p inputs name b d s w k (asks.Write x v) t.lays sh h (λ q. cc) t.well in
      let own = sees.own is.0 in
      let l = b.cells in
      (numbers_in seen.scope, (h.frame_state, h.sits, seen.numbers), subst (λ n. n < length l.items) (cell_numbered seen.scope x) (low_cell name b d s sh _ _ (own.cells x is.1)))

  pub result_there : ResultCellsAreThere code p inputs
  result_there name b d s w k v t h =
      let sh = t.shows in
      let o = sh.sits k h.frame_state h.sits in
      let seen = o.seen in
      let sees = seen.sees in
      let it = sees.result (there code p inputs name b d s w k (asks.Result v) t.lays sh h (λ q. cc) t.well) in
      let c = it.0 in
      (c.1, seen.lies_at ∙ ap (λ z. option_map (λ (y : CellBoth). y.1) z) it.1, low_cell name b d s sh c.0 c.1 it.2)

  -- ---- reducers are there

  named_there : (callee : Callee) (ask : Ask) (r : Reducer) → AskIsThere p callee ask → reducer_asked ask ≡ Some r → IsTrue (reducer_is_there p (body_of p callee) r.place r.kind)
  named_there callee (asks.Create q) r is e = let same : q ≡ r = (let z : Some q ≡ Some r = e in cc) in subst (λ (q : Reducer). IsTrue (reducer_is_there p (body_of p callee) q.place q.kind)) same is.1
  named_there callee (asks.Update q v) r is e = let same : q ≡ r = (let z : Some q ≡ Some r = e in cc) in subst (λ (q : Reducer). IsTrue (reducer_is_there p (body_of p callee) q.place q.kind)) same is.1
  named_there callee (asks.Set q v) r is e = let same : q ≡ r = (let z : Some q ≡ Some r = e in cc) in subst (λ (q : Reducer). IsTrue (reducer_is_there p (body_of p callee) q.place q.kind)) same is.1
  named_there callee (asks.Value q) r is e = let same : q ≡ r = (let z : Some q ≡ Some r = e in cc) in subst (λ (q : Reducer). IsTrue (reducer_is_there p (body_of p callee) q.place q.kind)) same is.1
  named_there callee asks.Begin r is e = none_named r e
  named_there callee (asks.Read x) r is e = none_named r e
  named_there callee (asks.Write x v) r is e = none_named r e
  named_there callee (asks.Print v) r is e = none_named r e
  named_there callee (asks.Invoke how c) r is e = none_named r e
  named_there callee asks.Resume r is e = none_named r e
  named_there callee asks.Sync r is e = none_named r e
  named_there callee (asks.Result v) r is e = none_named r e
  named_there callee (asks.End v) r is e = none_named r e
  named_there callee (asks.Fault f) r is e = none_named r e

  pub reducer_there : ReducersAreThere code p inputs
  reducer_there name b d s w k ask r t h named =
      let sh = t.shows in
      let o = sh.sits k h.frame_state h.sits in
      let seen = o.seen in
      let is = there code p inputs name b d s w k ask t.lays sh h (λ q. none_named r (sym (ap reducer_asked q) ∙ named)) t.well in
      ((numbers_in seen.scope, (h.frame_state, h.sits, seen.numbers)), reducer_small p (well_named_parts p t.well) (body_of p (let f = o.frame in let v = f.what in v.callee)) r.place r.kind (named_there (let f = o.frame in let v = f.what in v.callee) ask r is named))

  -- ---- an event is noted

  pub views_set : (ws : List Worker) (w : ℕ) (u : Worker) (views : Hypermap) → slice_get ws w ≡ Some u → slice_set ws w (record u { views = views }) ≡ viewing views ws w
  views_set [] w u views at = refl
  views_set (x ∷ ws) zero u views at =
      let same : u ≡ x = (let q : Some x ≡ Some u = at in cc) in
      ap (λ (y : Worker). record y { views = views } ∷ ws) same
  views_set (x ∷ ws) (suc w) u views at = ap (λ l. x ∷ l) (views_set ws w u views at)

  pub noted : EventsAreNoted code p inputs
  noted b b' w k ask h act event cells views went acted keeps went_is acted_is then_is ticks_are written cells_are workers_are offered_is outcome_is =
      let l = b.frames in
      let ws = b.workers in
      let u = h.worker in
      let y = act h.came in
      let both : acted ≡ changed (λ _. act h.came) l.items k = acted_is ∙ ap (λ z. changed act z k) went_is ∙ changed_twice act (λ _. h.came) l.items k in
      let here : slice_get acted k ≡ Some (record h.frame_state { cursor = act h.came }) = ap (λ z. slice_get z k) both ∙ changed_here (λ _. act h.came) l.items k h.frame_state h.sits in
      let same = keeps h.came in
      let spent = ticks_are (record h.frame_state { cursor = act h.came }) here in
      let x = h.came in
      let ticks : b'.ticks ≡ b.ticks + (x.took - x.counted) = spent ∙ ap (λ n. b.ticks + (n - y.counted)) same.0 ∙ ap (λ n. b.ticks + (x.took - n)) same.1 in
      record {
        frames = then_is ∙ ap (λ z. changed counted z k) both ∙ changed_twice counted (λ _. act h.came) l.items k;
        journal = written;
        cells_are = cells_are;
        workers = ⊎_elim
            (λ stay. stay.0 ∙ sym (viewing_own ws.items w u h.at) ∙ ap (λ v. viewing v ws.items w) (sym stay.1))
            (λ set. set ∙ views_set ws.items w u views h.at) workers_are;
        offered = offered_is;
        outcome = outcome_is;
        ticks = ticks;
      }
