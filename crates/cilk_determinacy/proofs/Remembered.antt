-- The serial run by names: reads and values are right, its memory and views end as the serial run's
-- store, and its events by numbers are the list.
use Rattle.std.proofs.Common.{◌≡◌, ℕ, suc, ◌+◌, ℤ, IsTrue, List, [], ◌∷◌, ◌++◌, Some, option_map, unwrap_or, refl, sym, ap, ◌∙◌, subst, arith}
use Rattle.cilk_types.specs.declared.event.Instance as numbered
use Rattle.cilk_types.specs.declared.event.Event as numbers
use Rattle.cilk_types.specs.declared.event.Event.TheVariants as events
use Rattle.cilk_monoid.specs.declared.kind.MonoidKind.{MonoidKind}
use Rattle.cilk_monoid.specs.Kinds.{structure_of}
use Rattle.cilk_monoid.specs.Lawful.{lawful}
use Rattle.cilk_types.specs.Word.{IsWord}
use Rattle.cilk_program.specs.declared.ask.Ask.{Ask}
use Rattle.cilk_program.specs.declared.ask.Ask.TheVariants as asks
use Rattle.cilk_types.specs.declared.invocation.Invocation.{Invocation}
use Rattle.cilk_types.specs.declared.invocation.Invocation.TheVariants.{Call, Spawn}
use Rattle.cilk_program.specs.declared.syntax.Reducer as syntax
use Rattle.cilk_program.specs.Scopes.{instance_in}
use Rattle.cilk_program.specs.Store.{Store, number_at}
use Rattle.cilk_program.specs.Syntax.{Source}
use Rattle.cilk_program.specs.WellNamed.{is_well_named}
use Rattle.cilk_program.specs.Inside.{AskIsThere}
use Rattle.cilk_program.specs.SerialRun as serial
use Rattle.cilk_program.specs.SerialRun.{Memory, Frame, own_reducers, own_from, cell_at, reducer_at, next_frame, begun, counted, answer_to, put_result, result_written, stored, event_of, invocation, IsInner, Ending, Finished, Serial, Made, Ended, Went}
use Rattle.cilk_program.specs.Numbering.{counts_of, counts_after, entered}
use Rattle.cilk_program.proofs.Numbers.{serial_counts}
use Rattle.cilk_determinacy.specs.Runs.{Cell, Global, Instance, Event, Reads, Writes, Syncs, Ends, Passes, Begins, Resumes, Creates, Updates, Sets, Values, Prints, Deed, Invokes, Run, stop, act, child}
use Rattle.cilk_determinacy.specs.Machine.{put}
use Rattle.cilk_determinacy.specs.Monoids.{on_view}
use Rattle.cilk_determinacy.specs.Serial.{value_after, IsReadRight, IsSerial}
use Rattle.cilk_determinacy.specs.Traces.{trace, IsWrittenEvent, IsWritten, AreWritten}
use Rattle.cilk_determinacy.specs.Views.{view_after, IsViewRight, IsSerialViews}
use Rattle.cilk_determinacy.specs.Reducers.{View, value_of, kind_of, monoid_of}
use Rattle.cilk_determinacy.specs.FrameEnvs.{Reducers, own_named, global_named, FrameEnv, child_env, cell_seen, result_cell}
use Rattle.cilk_determinacy.specs.FrameEnvMachine.{retired_by}
use Rattle.cilk_determinacy.specs.Nested.{named_event, named_from}
use Rattle.cilk_determinacy.specs.Theorem.{SetsWord, SetWords}
use Rattle.cilk_determinacy.specs.Numbers.{cell_number, instance_number, HasCell, HasInstance}
use Rattle.cilk_determinacy.proofs.Sights.{IsNumbered, tied_cell, tied_reducer, own_tied, own_here, Stands}
use Rattle.cilk_determinacy.proofs.Standing.{Standing, asked_there, standing_act, standing_child, standing_past}
use Rattle.cilk_determinacy.proofs.Stores.{Same, same_put, same_put_view, same_print, same_retired}

pub written_both : {W : Type 0} (cell : Cell → ℕ) (instance : Instance → numbered.Instance) (ds ds' : List (Deed W)) (es es' : List numbers.Event) → AreWritten cell instance ds es → AreWritten cell instance ds' es' → AreWritten cell instance (ds ++ ds') (es ++ es')
written_both cell instance [] ds' [] es' h g = g
written_both cell instance [] ds' (e ∷ es) es' h g = absurd h
written_both cell instance (d ∷ ds) ds' [] es' h g = absurd h
written_both cell instance (d ∷ ds) ds' (e ∷ es) es' h g = (h.0, written_both cell instance ds ds' es es' h.1 g)

set_first : (es es' : List numbers.Event) → SetWords (es ++ es') → SetWords es
set_first [] es' h = tt
set_first (e ∷ es) es' h = (h.0, set_first es es' h.1)

set_second : (es es' : List numbers.Event) → SetWords (es ++ es') → SetWords es'
set_second [] es' h = h
set_second (e ∷ es) es' h = set_second es es' h.1

module _ (p : Source) (whole : serial.Transcript) where
  -- the reducers of an event are the run's
  abbrev pub EventHas : Event → Type 0
  EventHas (Reads c v) = Unit {0}
  EventHas (Writes c v) = Unit {0}
  EventHas Syncs = Unit {0}
  EventHas (Ends v gone) = Unit {0}
  EventHas (Passes Begins) = Unit {0}
  EventHas (Passes Resumes) = Unit {0}
  EventHas (Passes (Creates i)) = HasInstance p whole i
  EventHas (Passes (Updates i x)) = HasInstance p whole i
  EventHas (Passes (Sets i x)) = HasInstance p whole i
  EventHas (Passes (Values i v)) = HasInstance p whole i
  EventHas (Passes (Prints x)) = Unit {0}

  abbrev pub RunHas : Run FrameEnv → Type 0
  RunHas stop = Unit {0}
  RunHas (act e t) = EventHas e × RunHas t
  RunHas (child k w u t) = RunHas u × RunHas t

  -- one event, by names and by numbers
  pub record Follows (memory : Cell → ℤ) (views : Instance → View) (store : Store numbered.Instance) (e : Event) (n : numbers.Event) : Type 0 where
    pub right : IsReadRight e memory
    pub view_right : IsViewRight monoid_of e views
    pub same : Same p whole (λ c. put e c (memory c)) (λ i. on_view (monoid_of i) i e (views i)) store
    pub written : IsWrittenEvent (cell_number p whole) (instance_number p whole) e n
    pub has : EventHas e

  pub view_at : (memory : Cell → ℤ) (views : Instance → View) (store : Store numbered.Instance) (i : Reducers) (k : MonoidKind) (j : numbered.Instance) → HasInstance p whole (i k) → IsNumbered p whole i j → Same p whole memory views store → value_of k (views (i k)) ≡ store.views k j
  view_at memory views store i k j has n same = subst (λ k'. value_of k' (views (i k)) ≡ store.views k' j) (n k).1 (same.reducers (i k) has ∙ ap (store.views (kind_of (i k))) (n k).0)

  set_alone : (k : MonoidKind) (x : ℤ) → IsWord x → (structure_of k).combine ((structure_of k).unit) ((structure_of k).single x) ≡ (structure_of k).single x
  set_alone k x h = let law = lawful k in law.left_neutral ((structure_of k).single x) (law.single_member x h)

  module _ (w : FrameEnv) (fr : Frame) (h : Stands p whole w fr) (m : Memory) (memory : Cell → ℤ) (views : Instance → View) (same : Same p whole memory views m.store) where
    numbers_of : (x : syntax.Reducer) → IsNumbered p whole (instance_in global_named w.sight x.place) (reducer_at fr x)
    numbers_of x = tied_reducer p whole w.sight fr.scope h.tied x.place

    cell_is : (x : _) → cell_number p whole (cell_seen w x) ≡ cell_at fr x
    cell_is x = tied_cell p whole w.sight fr.scope h.tied x

    result_put : (c : Cell) (v : ℤ) → w.result ≡ Some c → HasCell p whole c
        → Same p whole (λ d. put (Writes (result_cell w) v) d (memory d)) views (put_result fr.result v m.store)
    result_put c v is has =
        let result : fr.result ≡ Some (cell_number p whole c) = sym h.result_tied ∙ ap (option_map (cell_number p whole)) is in
        subst (λ o. Same p whole (λ d. put (Writes (result_cell w) v) d (memory d)) views (put_result o v m.store)) (sym result)
        (subst (λ (x : Cell). Same p whole (λ d. put (Writes x v) d (memory d)) views (put_result (Some (cell_number p whole c)) v m.store)) (ap (λ o. unwrap_or o (Global 0)) (sym is))
        (same_put p whole memory views m.store c (cell_number p whole c) v has refl same))

    result_event : (c : Cell) (v : ℤ) → w.result ≡ Some c → result_written fr.result v ≡ events.Write (cell_number p whole (result_cell w)) v
    result_event c v is =
        let result : fr.result ≡ Some (cell_number p whole c) = sym h.result_tied ∙ ap (option_map (cell_number p whole)) is in
        ap (λ o. result_written o v) result ∙ ap (λ (x : Cell). events.Write (cell_number p whole x) v) (ap (λ o. unwrap_or o (Global 0)) (sym is))

    pub act_follows : (a : Ask) → AskIsThere p w.callee a → IsInner a → SetsWord (event_of fr m a) → Follows memory views (stored p fr m a) (named_event p w a (answer_to fr m a)) (event_of fr m a)
    act_follows asks.Begin there inner word = record { right = tt; view_right = tt; same = same; written = (fr.number, refl); has = tt }
    act_follows (asks.Read x) there inner word = record {
      right = ap m.store.cells (sym (cell_is x)) ∙ sym (same.cells (cell_seen w x) ((h.sees.own there.0).cells x there.1));
      view_right = tt;
      same = same;
      written = ap (λ c. events.Read c (m.store.cells (cell_at fr x))) (sym (cell_is x));
      has = tt;
    }
    act_follows (asks.Write x v) there inner word = record {
      right = tt;
      view_right = tt;
      same = same_put p whole memory views m.store (cell_seen w x) (cell_at fr x) v ((h.sees.own there.0).cells x there.1) (cell_is x) same;
      written = ap (λ c. events.Write c v) (sym (cell_is x));
      has = tt;
    }
    act_follows (asks.Create x) there inner word =
        let has = (h.sees.own there.0).reducers x.place x.kind there.1 in
        record {
          right = tt;
          view_right = tt;
          same = same_put_view p whole memory views (λ d u. u) m.store (instance_in global_named w.sight x.place) x.kind (reducer_at fr x) ((structure_of x.kind).unit) has (numbers_of x) refl same;
          written = ap events.Create (sym (numbers_of x x.kind).0);
          has = has;
        }
    act_follows (asks.Update x v) there inner word =
        let has = (h.sees.own there.0).reducers x.place x.kind there.1 in
        let n = numbers_of x in
        let i : Reducers = instance_in global_named w.sight x.place in
        record {
          right = tt;
          view_right = tt;
          same = same_put_view p whole memory views (λ d u. (structure_of (kind_of d)).combine (views d u) ((structure_of (kind_of d)).single v)) m.store i x.kind (reducer_at fr x)
              ((structure_of x.kind).combine (m.store.views x.kind (reducer_at fr x)) ((structure_of x.kind).single v)) has n
              (ap (λ k. (structure_of k).combine (value_of x.kind (views (i x.kind))) ((structure_of k).single v)) (n x.kind).1
              ∙ ap (λ u. (structure_of x.kind).combine u ((structure_of x.kind).single v)) (view_at memory views m.store i x.kind (reducer_at fr x) has n same))
              same;
          written = ap (λ j. events.Update j v) (sym (n x.kind).0);
          has = has;
        }
    act_follows (asks.Set x v) there inner word =
        let has = (h.sees.own there.0).reducers x.place x.kind there.1 in
        let n = numbers_of x in
        let i : Reducers = instance_in global_named w.sight x.place in
        record {
          right = tt;
          view_right = tt;
          same = same_put_view p whole memory views (λ d u. (structure_of (kind_of d)).combine u ((structure_of (kind_of d)).single v)) m.store i x.kind (reducer_at fr x) ((structure_of x.kind).single v) has n
              (ap (λ k. (structure_of k).combine ((structure_of x.kind).unit) ((structure_of k).single v)) (n x.kind).1 ∙ set_alone x.kind v word)
              same;
          written = ap (λ j. events.Set j v) (sym (n x.kind).0);
          has = has;
        }
    act_follows (asks.Value x) there inner word =
        let has = (h.sees.own there.0).reducers x.place x.kind there.1 in
        let n = numbers_of x in
        let i : Reducers = instance_in global_named w.sight x.place in
        record {
          right = tt;
          view_right =
              ap (structure_of x.kind).number (sym (view_at memory views m.store i x.kind (reducer_at fr x) has n same))
              ∙ ap (λ k. (structure_of k).number (value_of k (views (i x.kind)))) (sym (n x.kind).1);
          same = same;
          written = ap (λ j. events.Value j (number_at x.kind (reducer_at fr x) m.store)) (sym (n x.kind).0);
          has = has;
        }
    act_follows (asks.Print v) there inner word = record { right = tt; view_right = tt; same = same_print p whole memory views m.store v same; written = refl; has = tt }
    act_follows (asks.Invoke how callee) there inner word = absurd inner
    act_follows asks.Resume there inner word = record { right = tt; view_right = tt; same = same; written = (fr.number, refl); has = tt }
    act_follows asks.Sync there inner word = record { right = tt; view_right = tt; same = same; written = refl; has = tt }
    act_follows (asks.Result v) there inner word =
        let result = h.sees.result there in
        record {
          right = tt;
          view_right = tt;
          same = result_put result.0 v result.1 result.2;
          written = result_event result.0 v result.1;
          has = tt;
        }
    act_follows (asks.End v) there inner word = absurd inner
    act_follows (asks.Fault f) there inner word = absurd inner

    pub end_follows : (v : ℤ) → Follows memory views (stored p fr m (asks.End v)) (Ends v (retired_by p w)) events.End
    end_follows v =
        let here = h.here in
        let callee : w.callee ≡ fr.callee = h.callee in
        record {
          right = tt;
          view_right = tt;
          same = subst (λ c. Same p whole memory (λ i. on_view (monoid_of i) i (Ends v (retired_by p w)) (views i)) (stored p (record fr { callee = c }) m (asks.End v))) callee
              (same_retired p whole (own_named p w.callee w.name) (own_from p (record fr { callee = w.callee })) 0 (own_reducers p w.callee) memory views m.store
              (own_tied p whole w.callee w.name here fr.number h.number)
              (λ i k is. let e : i ≡ 0 + i = omega arith in subst (λ i. HasInstance p whole (own_named p w.callee w.name i k)) e (own_here p whole w.callee w.name here h.runs i k is)) same);
          written = refl;
          has = tt;
        }

  -- the claim for a run
  pub record Remembers (t : Run FrameEnv) (es : List numbers.Event) (memory : Cell → ℤ) (views : Instance → View) (store : Store numbered.Instance) : Type 0 where
    pub serial : IsSerial t memory
    pub serial_views : IsSerialViews monoid_of t views
    pub same : Same p whole (λ c. value_after t c (memory c)) (λ i. view_after (monoid_of i) i t (views i)) store
    pub written : AreWritten (cell_number p whole) (instance_number p whole) (trace t) es
    pub has : RunHas t

  abbrev pub RemembersAt : Ending → Run FrameEnv → List numbers.Event → (Cell → ℤ) → (Instance → View) → Type 0
  RemembersAt (Finished v left m) t es memory views = Remembers t es memory views m.store
  RemembersAt (serial.Stopped f) t es memory views = Unit {0}

  act_remembers : (end : Ending) (t : Run FrameEnv) (e : Event) (n : numbers.Event) (es : List numbers.Event) (memory : Cell → ℤ) (views : Instance → View) (store : Store numbered.Instance) → Follows memory views store e n
      → RemembersAt end t es (λ c. put e c (memory c)) (λ i. on_view (monoid_of i) i e (views i)) → RemembersAt end (act e t) (n ∷ es) memory views
  act_remembers (Finished v left m) t e n es memory views store f h = record {
    serial = (f.right, h.serial);
    serial_views = (f.view_right, h.serial_views);
    same = h.same;
    written = (f.written, h.written);
    has = (f.has, h.has);
  }
  act_remembers (serial.Stopped g) t e n es memory views store f h = tt

  child_written : (how : Invocation) (w : FrameEnv) (n : ℕ) → IsWritten (cell_number p whole) (instance_number p whole) (Invokes how w) (invocation how n)
  child_written Call w n = (n, refl)
  child_written Spawn w n = (n, refl)

  child_remembers : (end : Ending) (how : Invocation) (n : ℕ) (w : FrameEnv) (u t : Run FrameEnv) (es es' : List numbers.Event) (memory : Cell → ℤ) (views : Instance → View) (v : ℤ) (left : ℕ) (m : Memory) → RemembersAt (Finished v left m) u es memory views
      → RemembersAt end t es' (λ c. value_after u c (memory c)) (λ i. view_after (monoid_of i) i u (views i)) → RemembersAt end (child how w u t) (invocation how n ∷ (es ++ es')) memory views
  child_remembers (Finished v' left' m') how n w u t es es' memory views v left m h g = record {
    serial = (h.serial, g.serial);
    serial_views = (h.serial_views, g.serial_views);
    same = g.same;
    written = (child_written how w n, written_both (cell_number p whole) (instance_number p whole) (trace u) (trace t) es es' h.written g.written);
    has = (h.has, g.has);
  }
  child_remembers (serial.Stopped f) how n w u t es es' memory views v left m h g = tt

  module _ (inputs : List ℤ) (well : IsTrue (is_well_named p)) where
    pub run_remembers : {fr : Frame} {start : ℕ} {history : List ℤ} {m : Memory} {rest : serial.Transcript} {es : List numbers.Event} {end : Ending} → Serial p inputs fr start history m rest es end
        → (w : FrameEnv) (j : ℕ) → Standing p inputs well whole w fr j rest (counts_of m) → SetWords es → (memory : Cell → ℤ) (views : Instance → View) → Same p whole memory views m.store → RemembersAt end (named_from p w (suc j) rest) es memory views
    run_remembers (Made {fr = fr} {start = start} {history = history} {m = m} {r = r} {es = es} {end = end} a left q inner ok rest) w j standing words memory views same =
        let there = asked_there p inputs well whole w fr history start left a standing.stands q in
        let f = act_follows w fr standing.stands m memory views same a there inner words.0 in
        act_remembers end (named_from p w (suc j) r) (named_event p w a (answer_to fr m a)) (event_of fr m a) es memory views (stored p fr m a) f
        (run_remembers rest w j (standing_act p inputs well whole w fr j a (answer_to fr m a) r (counts_of m) standing) words.1 (λ c. put (named_event p w a (answer_to fr m a)) c (memory c))
        (λ i. on_view (monoid_of i) i (named_event p w a (answer_to fr m a)) (views i)) f.same)
    run_remembers (Ended {fr = fr} {m = m} v left q ok) w j standing words memory views same =
        let f = end_follows w fr standing.stands m memory views same v in
        record { serial = (f.right, tt); serial_views = (f.view_right, tt); same = f.same; written = (f.written, tt); has = (tt, tt) }
    run_remembers (Went {fr = fr} {start = start} {history = history} {m = m} {u = u} {r = r} {es = es} {es' = es'} {end = end} how callee left v left' m' q ok inner rest) w j standing words memory views same =
        let c = child_env p w (suc j) callee in
        let after : counts_of m' ≡ counts_after p u (entered p callee (counts_of m)) = serial_counts inner in
        let one = run_remembers inner c 0 (standing_child p inputs well whole w fr j how callee u r m history start left standing q) (set_first es es' words.1) memory views same in
        child_remembers end how (suc m.frames) c (named_from p c 1 u) (named_from p w (suc (suc j)) r) es es' memory views v left' m' one
        (run_remembers rest w (suc j) (standing_past p inputs well whole w fr j how callee u r (counts_of m) (counts_of m') after standing) (set_second es es' words.1) (λ x. value_after (named_from p c 1 u) x (memory x))
        (λ i. view_after (monoid_of i) i (named_from p c 1 u) (views i)) one.same)
    run_remembers (serial.Broke how callee left f q ok inner) w j standing words memory views same = tt
    run_remembers (serial.Refused k left f q bad) w j standing words memory views same = tt
