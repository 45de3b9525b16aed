-- The events of a serial run are those of the run by names, by the numbers of its frames, cells and
-- reducers.
--
-- - `act_numbered`: one event of a frame;
-- - `start_numbered`, `run_numbered`: a run from some point on;
-- - `events_numbered`: the law, for a whole run;
-- - `are_written`: so the list is written by these numbers.
use Rattle.std.proofs.Common.{◌≡◌, ℕ, suc, ℤ, IsTrue, List, [], ◌∷◌, ◌++◌, Some, option_map, unwrap_or, refl, sym, ap, ap₂, ◌∙◌, subst, append-nil}
use Rattle.cilk_types.specs.declared.event.Event as numbers
use Rattle.cilk_types.specs.declared.event.Event.TheVariants as events
use Rattle.cilk_program.specs.declared.ask.Ask.{Ask}
use Rattle.cilk_program.specs.declared.ask.Ask.TheVariants as asks
use Rattle.cilk_types.specs.declared.invocation.Invocation.{Invocation}
use Rattle.cilk_types.specs.declared.invocation.Invocation.TheVariants.{Call, Spawn}
use Rattle.cilk_program.specs.declared.syntax.Reducer as syntax
use Rattle.cilk_program.specs.Scopes.{instance_in}
use Rattle.cilk_program.specs.Store.{number_at}
use Rattle.cilk_program.specs.Syntax.{Source}
use Rattle.cilk_program.specs.WellNamed.{is_well_named}
use Rattle.cilk_program.specs.Inside.{AskIsThere}
use Rattle.cilk_program.specs.SerialRun as serial
use Rattle.cilk_program.specs.SerialRun.{Memory, Frame, cell_at, reducer_at, next_frame, answer_to, result_written, event_of, invocation, IsInner, Ending, Serial, Made, Ended, Went, Broke, Refused}
use Rattle.cilk_program.specs.Numbering.{counts_of, counts_after, entered}
use Rattle.cilk_program.proofs.Numbers.{serial_counts}
use Rattle.cilk_determinacy.specs.Runs.{Cell, Global, Event, Reads, Writes, Syncs, Ends, Passes, Begins, Resumes, Creates, Updates, Sets, Values, Prints, Invokes, Run, stop, act, child}
use Rattle.cilk_determinacy.specs.Traces.{trace, IsWrittenEvent, IsWritten, AreWritten}
use Rattle.cilk_determinacy.specs.Nested.{named_event, named_from}
use Rattle.cilk_determinacy.specs.Numbers.{frame_number, cell_number, instance_number, start_event, numbered_event, numbered_events, IsHere, HasCell, EventIsHere, AreHere, EventsHaveNumbers}
use Rattle.cilk_determinacy.specs.FrameEnvs.{FrameEnv, first_env, child_env, global_named, cell_seen, result_cell}
use Rattle.cilk_determinacy.proofs.Numbers.{frame_is}
use Rattle.cilk_determinacy.proofs.Remembered.{written_both}
use Rattle.cilk_determinacy.proofs.Sights.{IsNumbered, tied_cell, tied_reducer, Stands}
use Rattle.cilk_determinacy.proofs.Standing.{Standing, asked_there, standing_act, standing_child, standing_past, standing_root}

module _ (p : Source) (whole : serial.Transcript) where
  -- an event of the list is that of the run by names, which names what is there
  record IsEvent (name : List ℕ) (e : Event) (n : numbers.Event) : Type 0 where
    number : n ≡ numbered_event p whole name e
    here : EventIsHere p whole e

  module _ (w : FrameEnv) (fr : Frame) (h : Stands p whole w fr) (m : Memory) where
    frame : fr.number ≡ frame_number p whole w.name
    frame = sym (frame_is p whole w.name h.here ∙ h.number)

    reducer : (x : syntax.Reducer) → IsNumbered p whole (instance_in global_named w.sight x.place) (reducer_at fr x)
    reducer x = tied_reducer p whole w.sight fr.scope h.tied x.place

    cell : (x : _) → cell_at fr x ≡ cell_number p whole (cell_seen w x)
    cell x = sym (tied_cell p whole w.sight fr.scope h.tied x)

    result_number : (c : Cell) (v : ℤ) → w.result ≡ Some c → result_written fr.result v ≡ events.Write (cell_number p whole (result_cell w)) v
    result_number c v is =
        let result : fr.result ≡ Some (cell_number p whole c) = sym h.result_tied ∙ ap (option_map (cell_number p whole)) is in
        ap (λ o. result_written o v) result ∙ ap (λ (x : Cell). events.Write (cell_number p whole x) v) (ap (λ o. unwrap_or o (Global 0)) (sym is))

    act_numbered : (a : Ask) → AskIsThere p w.callee a → IsInner a → IsEvent w.name (named_event p w a (answer_to fr m a)) (event_of fr m a)
    act_numbered asks.Begin there inner = record { number = ap events.Begin frame; here = tt }
    act_numbered (asks.Read x) there inner = record { number = ap (λ c. events.Read c (m.store.cells (cell_at fr x))) (cell x); here = (h.sees.own there.0).cells x there.1 }
    act_numbered (asks.Write x v) there inner = record { number = ap (λ c. events.Write c v) (cell x); here = (h.sees.own there.0).cells x there.1 }
    act_numbered (asks.Create x) there inner = record { number = ap events.Create (sym (reducer x x.kind).0); here = (h.sees.own there.0).reducers x.place x.kind there.1 }
    act_numbered (asks.Update x v) there inner = record { number = ap (λ j. events.Update j v) (sym (reducer x x.kind).0); here = (h.sees.own there.0).reducers x.place x.kind there.1 }
    act_numbered (asks.Set x v) there inner = record { number = ap (λ j. events.Set j v) (sym (reducer x x.kind).0); here = (h.sees.own there.0).reducers x.place x.kind there.1 }
    act_numbered (asks.Value x) there inner = record {
      number = ap (λ j. events.Value j (number_at x.kind (reducer_at fr x) m.store)) (sym (reducer x x.kind).0);
      here = (h.sees.own there.0).reducers x.place x.kind there.1;
    }
    act_numbered (asks.Print v) there inner = record { number = refl; here = tt }
    act_numbered (asks.Invoke how callee) there inner = absurd inner
    act_numbered asks.Resume there inner = record { number = ap events.Resume frame; here = tt }
    act_numbered asks.Sync there inner = record { number = refl; here = tt }
    act_numbered (asks.Result v) there inner =
        let result = h.sees.result there in
        record { number = result_number result.0 v result.1; here = subst (HasCell p whole) (ap (λ o. unwrap_or o (Global 0)) (sym result.1)) result.2 }
    act_numbered (asks.End v) there inner = absurd inner
    act_numbered (asks.Fault f) there inner = absurd inner

  -- the claim for the rest of a frame's run
  record AreEvents (name : List ℕ) (t : Run FrameEnv) (es : List numbers.Event) : Type 0 where
    number : es ≡ numbered_events p whole name t
    here : AreHere p whole t

  start_numbered : (how : Invocation) (n m : ℕ) → n ≡ m → invocation how n ≡ start_event how m
  start_numbered Call n m e = ap events.Call e
  start_numbered Spawn n m e = ap events.Spawn e

  act_events : (name : List ℕ) (e : Event) (n : numbers.Event) (t : Run FrameEnv) (es : List numbers.Event) → IsEvent name e n → AreEvents name t es → AreEvents name (act e t) (n ∷ es)
  act_events name e n t es f h = record {
    number = ap (λ n. n ∷ es) f.number ∙ ap (λ es. numbered_event p whole name e ∷ es) h.number;
    here = (f.here, h.here);
  }

  child_events : (name : List ℕ) (how : Invocation) (n : ℕ) (w : FrameEnv) (u t : Run FrameEnv) (es es' : List numbers.Event) → IsHere p whole w.name → n ≡ frame_number p whole w.name
      → AreEvents w.name u es → AreEvents name t es' → AreEvents name (child how w u t) (invocation how n ∷ (es ++ es'))
  child_events name how n w u t es es' here e h g = record {
    number = ap (λ x. x ∷ (es ++ es')) (start_numbered how n (frame_number p whole w.name) e)
        ∙ ap (λ l. start_event how (frame_number p whole w.name) ∷ l) (ap₂ (λ a b. a ++ b) h.number g.number);
    here = (here, h.here, g.here);
  }

  nothing : (name : List ℕ) → AreEvents name stop []
  nothing name = record { number = refl; here = tt }

  module _ (inputs : List ℤ) (well : IsTrue (is_well_named p)) where
    run_numbered : {fr : Frame} {start : ℕ} {history : List ℤ} {m : Memory} {rest : serial.Transcript} {es : List numbers.Event} {end : Ending} → Serial p inputs fr start history m rest es end
        → (w : FrameEnv) (j : ℕ) → Standing p inputs well whole w fr j rest (counts_of m) → AreEvents w.name (named_from p w (suc j) rest) es
    run_numbered (Made {fr = fr} {start = start} {history = history} {m = m} {r = r} {es = es} a left q inner ok rest) w j standing =
        let there = asked_there p inputs well whole w fr history start left a standing.stands q in
        act_events w.name (named_event p w a (answer_to fr m a)) (event_of fr m a) (named_from p w (suc j) r) es
        (act_numbered w fr standing.stands m a there inner)
        (run_numbered rest w j (standing_act p inputs well whole w fr j a (answer_to fr m a) r (counts_of m) standing))
    run_numbered (Ended v left q ok) w j standing = record { number = refl; here = (tt, tt) }
    run_numbered (Went {fr = fr} {start = start} {history = history} {m = m} {u = u} {r = r} {es = es} {es' = es'} how callee left v left' m' q ok inner rest) w j standing =
        let c = child_env p w (suc j) callee in
        let after : counts_of m' ≡ counts_after p u (entered p callee (counts_of m)) = serial_counts inner in
        let below = standing_child p inputs well whole w fr j how callee u r m history start left standing q in
        child_events w.name how (suc m.frames) c (named_from p c 1 u) (named_from p w (suc (suc j)) r) es es' below.stands.here
        (frame c (next_frame p fr.scope m callee) below.stands m)
        (run_numbered inner c 0 below)
        (run_numbered rest w (suc j) (standing_past p inputs well whole w fr j how callee u r (counts_of m) (counts_of m') after standing))
    run_numbered (Broke {fr = fr} {start = start} {history = history} {m = m} {u = u} {es = es} how callee left f q ok inner) w j standing =
        let c = child_env p w (suc j) callee in
        let below = standing_child p inputs well whole w fr j how callee u serial.stop m history start left standing q in
        subst (λ es. AreEvents w.name (child how c (named_from p c 1 u) stop) (invocation how (suc m.frames) ∷ es)) (append-nil es)
        (child_events w.name how (suc m.frames) c (named_from p c 1 u) stop es [] below.stands.here
        (frame c (next_frame p fr.scope m callee) below.stands m)
        (run_numbered inner c 0 below) (nothing w.name))
    run_numbered (Refused k left f q bad) w j standing = nothing w.name

pub events_numbered : (p : Source) (inputs : List ℤ) → EventsHaveNumbers p inputs
events_numbered p inputs r es c well (end, d, e) =
    let h = run_numbered p r inputs well d (first_env p) 0 (standing_root p inputs well r) in
    record { events = h.number; here = h.here }

-- ---- as a relation

module _ (p : Source) (whole : serial.Transcript) where
  event_written : (name : List ℕ) (e : Event) → IsWrittenEvent (cell_number p whole) (instance_number p whole) e (numbered_event p whole name e)
  event_written name (Reads c v) = refl
  event_written name (Writes c v) = refl
  event_written name Syncs = refl
  event_written name (Ends v gone) = refl
  event_written name (Passes Begins) = (frame_number p whole name, refl)
  event_written name (Passes Resumes) = (frame_number p whole name, refl)
  event_written name (Passes (Creates i)) = refl
  event_written name (Passes (Updates i x)) = refl
  event_written name (Passes (Sets i x)) = refl
  event_written name (Passes (Values i v)) = refl
  event_written name (Passes (Prints x)) = refl

  start_written : (k : Invocation) (w : FrameEnv) (n : ℕ) → IsWritten (cell_number p whole) (instance_number p whole) (Invokes k w) (start_event k n)
  start_written Call w n = (n, refl)
  start_written Spawn w n = (n, refl)

  pub are_written : (name : List ℕ) (t : Run FrameEnv) → AreWritten (cell_number p whole) (instance_number p whole) (trace t) (numbered_events p whole name t)
  are_written name stop = tt
  are_written name (act e t) = (event_written name e, are_written name t)
  are_written name (child k w u t) = (start_written k w (frame_number p whole w.name), written_both (cell_number p whole) (instance_number p whole) (trace u) (trace t) _ _ (are_written w.name u) (are_written name t))
