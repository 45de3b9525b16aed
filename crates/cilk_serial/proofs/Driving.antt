-- A run in progress, from one event to the next.
use Rattle.std.proofs.Common.{◌≡◌, ◌⊎◌, inl, inr, ⊎_elim, ℕ, suc, ◌+◌, ◌-◌, ◌<◌, ◌≤◌, nat_eq, nat_lt, ℤ, pos, if◌then◌else◌, List, [], ◌∷◌, ◌++◌, length, reverse, get_or, Option, Some, None, refl, sym, ap, ◌∙◌, subst, arith, length-append, append_assoc, append-nil}
use Rattle.std.proofs.lemmas.Bool.{cases_Bool, eq-eqb, ltb-true, ltb-false, ne_eqb}
use Rattle.std.proofs.lemmas.Option.{unwrap_or-slice_get}
use Rattle.std.specs.Prelude.{IsTrue}
use Rattle.cilk_types.specs.declared.event.Event.{Event}
use Rattle.cilk_types.specs.declared.event.Event.TheVariants as events
use Rattle.cilk_types.specs.declared.fault.Fault.{Fault}
use Rattle.cilk_types.specs.declared.fault.Fault.TheVariants.{DivisionByZero, IndexOutside, InputOutside, TooManyEvents, TooManyFrames, TooManyCells}
use Rattle.cilk_types.specs.declared.event.Instance.{Instance}
use Rattle.cilk_types.specs.declared.limits.TheConstants.{MAX_EVENTS, MAX_TICKS, MAX_FRAMES, MAX_CELLS}
use Rattle.cilk_monoid.specs.declared.kind.MonoidKind.{MonoidKind}
use Rattle.cilk_monoid.specs.Ranges.{same_instance}
use Rattle.cilk_program.specs.declared.ask.Ask.{Ask}
use Rattle.cilk_program.specs.declared.ask.Ask.TheVariants as asks
use Rattle.cilk_program.specs.declared.ask.Callee.{Callee}
use Rattle.cilk_program.specs.declared.ask.Callee.TheVariants as callees
use Rattle.cilk_types.specs.declared.invocation.Invocation.{Invocation}
use Rattle.cilk_program.specs.Syntax.{Source}
use Rattle.cilk_program.specs.Behaviour.{asks_for, frame_asks}
use Rattle.cilk_program.specs.Inside.{CalleeIsFit}
use Rattle.cilk_program.specs.Store.{Store, clear, clear_all}
use Rattle.cilk_program.specs.WellNamed.{is_well_named}
use Rattle.cilk_program.specs.SerialRun.{Transcript, act, child, stop, Frame, Memory, Ending, Finished, Stopped, Serial, Made, Ended, Went, Broke, Refused, IsInner, answer_to, begun, before_root, cells_of, counted, crowded, event_of, first_place, full, invocation, next_frame, own_from, refused, result_written, root_frame, stored, with_store, IsSerialRun}
use Rattle.cilk_lower.specs.Behaves.{Behaves}
use Rattle.cilk_lower.specs.Code.{CodeView}
use Rattle.cilk_program.specs.Outcomes.{StopsBy}
use Rattle.cilk_program.specs.Agreement.{IsLimit}
use Rattle.cilk_program.proofs.Existence.{room_for}
use Rattle.cilk_program.proofs.Roots.{ends_as_elided}
use Rattle.cilk_serial.specs.Ran.{StopsAfter}
use Rattle.cilk_frames.specs.declared.cursor.Answer.{Answer}
use Rattle.cilk_frames.specs.declared.cursor.Answer.TheVariants.{Done}
use Rattle.cilk_frames.specs.Cursor.{CursorView}
use Rattle.cilk_frames.specs.Following.{Asking, GoesOn, HasAnswer, Stands, owed_for, word_in}
use Rattle.cilk_frames.proofs.Asking.{asking_first, asking_next}
use Rattle.cilk_serial.specs.Scoped.{Activation, Frames, MayBegin, waiting}
use Rattle.cilk_serial.specs.declared.running.Running.{Running}
use Rattle.cilk_serial.specs.declared.running.Step.{Step}
use Rattle.cilk_serial.specs.declared.running.Step.TheVariants as steps
use Rattle.cilk_serial.specs.declared.answer.Told.{Told}
use Rattle.cilk_serial.specs.declared.state.State.{State}
use Rattle.cilk_serial.specs.Children.{IsChild}
use Rattle.cilk_serial.specs.Going.{Whole, Completes, Wait, Going, HasBegun, HasBegunIf, HasEnded, IsAllowed, Progresses}
use Rattle.cilk_program.proofs.Naming.{well_named_parts}
use Rattle.cilk_monoid.specs.Kinds.{structure_of}
use Rattle.cilk_hypermap.specs.Hypermap.{EachKind, value_in, view_in}
use Rattle.cilk_hypermap.specs.Views.{or_unit}
use Rattle.cilk_hypermap.proofs.Merges.{each_kind}
use Rattle.cilk_serial.proofs.Homes.{waiting_more}
use Rattle.cilk_serial.proofs.Sights.{asked, asked_there, asked_rightly, begins, child_sees, root_sees, sees_more}
use Rattle.cilk_serial.specs.Scoped.{Parent, Scoped, AreScoped, Seen, IsThere, IsBegunRightly, kinds_of, own_of}
use Rattle.cilk_serial.specs.SoFar.{BeginsNoFrame, begun_in}
use Rattle.cilk_serial.specs.States.{Shows, Answers, Begins, Extends, Tells}

-- ---- the frames that wait

pub wait_scoped : (code : CodeView) (p : Source) (inputs : List ℤ) (n : ℕ) (below : List Activation) (parents : List Parent) → Wait code p inputs n below parents → AreScoped p below parents
wait_scoped code p inputs n [] [] h = tt
wait_scoped code p inputs n [] (q ∷ qs) h = absurd h
wait_scoped code p inputs n (a ∷ list) [] h = absurd h
wait_scoped code p inputs n (a ∷ list) (q ∷ qs) h = let w = h.0 in (w.scoped, wait_scoped code p inputs n list qs h.1)

wait_more : (code : CodeView) (p : Source) (inputs : List ℤ) (n n' : ℕ) (below : List Activation) (parents : List Parent) → n ≤ n' → Wait code p inputs n below parents → Wait code p inputs n' below parents
wait_more code p inputs n n' [] [] low h = tt
wait_more code p inputs n n' [] (q ∷ qs) low h = absurd h
wait_more code p inputs n n' (a ∷ list) [] low h = absurd h
wait_more code p inputs n n' (a ∷ list) (q ∷ qs) low h =
    let w = h.0 in
    (record { stands = w.stands; owes = w.owes; scoped = w.scoped; sees = sees_more p q.frame n n' low w.sees }, wait_more code p inputs n n' list qs low h.1)

pub going_seen : (code : CodeView) (p : Source) (inputs : List ℤ) (r : Running) → (g : Going code p inputs r) → Seen p r.frames g.frame g.parents
going_seen code p inputs r g = record { scoped = g.scoped; waits = wait_scoped code p inputs g.memory.cells (waiting r.frames) g.parents g.wait }

pub going_there : (code : CodeView) (p : Source) (inputs : List ℤ) (r : Running) → IsTrue (is_well_named p) → (g : Going code p inputs r) → IsThere p g.frame (length r.state.cells.items) r.ask
going_there code p inputs r well g =
    let s = g.shows in
    subst (λ n. IsThere p g.frame n r.ask) s.cells (asked_there p well inputs g.frame g.memory.cells g.sees g.history (g.took + r.left) r.ask r.left g.asking.asks)

-- ---- allowed events

crowded_not : (p : Source) (callee : Callee) (m : Memory) → crowded p callee m ≡ None → (m.frames < MAX_FRAMES) × (m.cells + cells_of p callee ≤ MAX_CELLS)
crowded_not p callee m e = elim (cases_Bool (nat_eq m.room 0)) [
  | inl past ↦ (let f : Some TooManyEvents ≡ None = sym (ap (λ b. if b then Some TooManyEvents else (if nat_lt m.frames MAX_FRAMES then (if nat_lt MAX_CELLS (m.cells + cells_of p callee) then Some TooManyCells else None) else Some TooManyFrames)) past) ∙ e in cc)
  | inr room ↦ (
      let e1 = sym (ap (λ b. if b then Some TooManyEvents else (if nat_lt m.frames MAX_FRAMES then (if nat_lt MAX_CELLS (m.cells + cells_of p callee) then Some TooManyCells else None) else Some TooManyFrames)) room) ∙ e in
      elim (cases_Bool (nat_lt m.frames MAX_FRAMES)) [
        | inr past ↦ (let f : Some TooManyFrames ≡ None = sym (ap (λ b. if b then (if nat_lt MAX_CELLS (m.cells + cells_of p callee) then Some TooManyCells else None) else Some TooManyFrames) past) ∙ e1 in cc)
        | inl frames ↦ (
            let e2 = sym (ap (λ b. if b then (if nat_lt MAX_CELLS (m.cells + cells_of p callee) then Some TooManyCells else None) else Some TooManyFrames) frames) ∙ e1 in
            elim (cases_Bool (nat_lt MAX_CELLS (m.cells + cells_of p callee))) [
              | inl past ↦ (let f : Some TooManyCells ≡ None = sym (ap (λ b. if b then Some TooManyCells else None) past) ∙ e2 in cc)
              | inr cells ↦ (ltb-true m.frames MAX_FRAMES frames, ltb-false MAX_CELLS (m.cells + cells_of p callee) cells)
            ])
      ])
]

pub inner_has : (k : Ask) → IsInner k → HasAnswer k
inner_has asks.Begin h = tt
inner_has (asks.Read x) h = tt
inner_has (asks.Write x v) h = tt
inner_has (asks.Create r) h = tt
inner_has (asks.Update r v) h = tt
inner_has (asks.Set r v) h = tt
inner_has (asks.Value r) h = tt
inner_has (asks.Print v) h = tt
inner_has (asks.Invoke how callee) h = absurd h
inner_has asks.Resume h = tt
inner_has asks.Sync h = tt
inner_has (asks.Result v) h = tt
inner_has (asks.End v) h = absurd h
inner_has (asks.Fault f) h = absurd h

written_begins_no_frame : (o : Option ℕ) (v : ℤ) → BeginsNoFrame (result_written o v)
written_begins_no_frame None v = tt
written_begins_no_frame (Some c) v = tt

-- no frame begins with the event of a request after which the frame continues at once
pub inner_begins_no_frame : (fr : Frame) (m : Memory) (k : Ask) → IsInner k → BeginsNoFrame (event_of fr m k)
inner_begins_no_frame fr m asks.Begin h = tt
inner_begins_no_frame fr m (asks.Read x) h = tt
inner_begins_no_frame fr m (asks.Write x v) h = tt
inner_begins_no_frame fr m (asks.Create r) h = tt
inner_begins_no_frame fr m (asks.Update r v) h = tt
inner_begins_no_frame fr m (asks.Set r v) h = tt
inner_begins_no_frame fr m (asks.Value r) h = tt
inner_begins_no_frame fr m (asks.Print v) h = tt
inner_begins_no_frame fr m (asks.Invoke how callee) h = absurd h
inner_begins_no_frame fr m asks.Resume h = tt
inner_begins_no_frame fr m asks.Sync h = tt
inner_begins_no_frame fr m (asks.Result v) h = written_begins_no_frame fr.result v
inner_begins_no_frame fr m (asks.End v) h = absurd h
inner_begins_no_frame fr m (asks.Fault f) h = absurd h

pub cursor_moves : (p : Source) (a : Activation) (c : CursorView) (fr : Frame) (parents : List Parent) → Scoped p a fr parents → Scoped p (record a { cursor = c }) fr parents
cursor_moves p a c fr parents s = record {
  number = s.number;
  outer = s.outer;
  scope = s.scope;
  leads = s.leads;
  result = s.result;
  first = s.first;
  low = s.low;
  creator = s.creator;
  creates = s.creates;
}

-- one more event is counted
one_more : (s s' : State) (m : Memory) (e : Event) → Shows s m → 0 < m.room → s'.events.items ≡ s.events.items ++ e ∷ [] → length s'.events.items ≤ MAX_EVENTS
one_more s s' m e h some events =
    let l = ap length events ∙ length-append s.events.items (e ∷ []) in
    let r = h.room in
    omega (arith, l, r, some)

behind : (es es' : List Event) (e : Event) (more : List Event) → es' ≡ es ++ e ∷ [] → es' ++ more ≡ es ++ e ∷ more
behind es es' e more is = ap (λ l. l ++ more) is ∙ append_assoc es (e ∷ []) more

-- ---- the frame continues at once

pub answers : (code : CodeView) (p : Source) (inputs : List ℤ) (r : Running) (s' : State) (a : Answer) (c' : CursorView) (k' : Ask) (left' : ℕ) → (g : Going code p inputs r) → IsAllowed p r.state r.ask → IsInner r.ask
    → Answers p g.frame r.state s' r.ask a
    → ((callee : Callee) (history : List ℤ) (took : ℕ) → Stands code inputs p callee r.frames.top.cursor history took → GoesOn code inputs r.frames.top.cursor a r.left k' c' left' p callee history took)
    → Going code p inputs (record { state = s'; frames = record r.frames { top = record r.frames.top { cursor = c' } }; ask = k'; left = left' })
answers code p inputs r s' a c' k' left' g allowed inner told on =
    let fr = g.frame in
    let m = g.memory in
    let k = r.ask in
    let did = told.makes m g.shows in
    let made = did.1 in
    let has = inner_has k inner in
    let step = on fr.callee g.history g.took (g.asking.stands has) in
    let m' = with_store m (stored p fr m k) in
    let ok = allowed m g.shows in
    let same : g.took + (r.left - left') + left' ≡ g.took + r.left = omega (arith, step.less) in
    record {
      frame = fr;
      history = g.history ++ word_in a ∷ [];
      took = g.took + (r.left - left');
      memory = m';
      parents = g.parents;
      callees = g.callees;
      shows = made.shows;
      asking = asking_next code inputs p fr.callee r.frames.top.cursor g.history g.took k r.left a r.left k' c' left' g.asking has (λ stands. on fr.callee g.history g.took stands);
      completes = λ u es end s.
          let s1 : Serial p inputs fr (g.took + r.left) (g.history ++ answer_to fr m k ∷ []) m' u es end = subst (λ w. Serial p inputs fr (g.took + r.left) (g.history ++ w ∷ []) m' u es end) did.0 (subst (λ n. Serial p inputs fr n (g.history ++ word_in a ∷ []) m' u es end) same s) in
          subst (λ l. Completes p inputs g.parents l (g.callees ++ begun_in u) end) (sym (behind r.state.events.items s'.events.items (event_of fr m k) es made.events))
          (g.completes (act k (answer_to fr m k) u) (event_of fr m k ∷ es) end (Made k r.left g.asking.asks inner ok s1));
      numbered = g.numbered;
      scoped = cursor_moves p r.frames.top c' fr g.parents g.scoped;
      sees = g.sees;
      wait = g.wait;
      opened = g.opened;
      counted = one_more r.state s' m (event_of fr m k) g.shows (room_for p m k ok) made.events;
      small = g.small;
      behaves = g.behaves;
    }

-- ---- a child begins

child_completes : (p : Source) (inputs : List ℤ) (fr : Frame) (history : List ℤ) (took left : ℕ) (m : Memory) (parents : List Parent) (es0 es1 : List Event) (cs : List Callee) (how : Invocation) (callee : Callee)
    → frame_asks p inputs fr.callee history (took + left) ≡ asks_for (asks.Invoke how callee) left → refused p m (asks.Invoke how callee) ≡ None
    → es1 ≡ es0 ++ invocation how (suc m.frames) ∷ []
    → ((u : Transcript) (es : List Event) (end : Ending) → Serial p inputs fr (took + left) history m u es end → Completes p inputs parents (es0 ++ es) (cs ++ begun_in u) end)
    → (u : Transcript) (es : List Event) (end : Ending) → Serial p inputs (next_frame p fr.scope m callee) left [] (begun p callee (counted m)) u es end
    → Completes p inputs (record { frame = fr; history = history; took = took } ∷ parents) (es1 ++ es) ((cs ++ callee ∷ []) ++ begun_in u) end
child_completes p inputs fr history took left m parents es0 es1 cs how callee asked ok is completes u es (Finished v left' m') s = λ u' es' end' s'.
    let same : left' + took ≡ left' + (took + left - left) = omega arith in
    let s1 = subst (λ n. Serial p inputs fr n (history ++ pos 0 ∷ []) m' u' es' end') same s' in
    let list : (es1 ++ es) ++ es' ≡ es0 ++ invocation how (suc m.frames) ∷ (es ++ es') = append_assoc es1 es es' ∙ behind es0 es1 (invocation how (suc m.frames)) (es ++ es') is in
    let more : ((cs ++ callee ∷ []) ++ begun_in u) ++ begun_in u' ≡ cs ++ callee ∷ (begun_in u ++ begun_in u') = simp append_assoc in
    subst (λ (l : List Event). Completes p inputs parents l (((cs ++ callee ∷ []) ++ begun_in u) ++ begun_in u') end') (sym list)
    (subst (λ (c : List Callee). Completes p inputs parents (es0 ++ invocation how (suc m.frames) ∷ (es ++ es')) c end') (sym more)
    (completes (child how callee u u') (invocation how (suc m.frames) ∷ (es ++ es')) end' (Went how callee left v left' m' asked ok s s1)))
child_completes p inputs fr history took left m parents es0 es1 cs how callee asked ok is completes u es (Stopped f) s =
    let more : (cs ++ callee ∷ []) ++ begun_in u ≡ cs ++ callee ∷ (begun_in u ++ []) = append_assoc cs (callee ∷ []) (begun_in u) ∙ ap (λ l. cs ++ callee ∷ l) (sym (append-nil (begun_in u))) in
    subst (λ (l : List Event). Completes p inputs parents l ((cs ++ callee ∷ []) ++ begun_in u) (Stopped f)) (sym (behind es0 es1 (invocation how (suc m.frames)) es is))
    (subst (λ (c : List Callee). Completes p inputs parents (es0 ++ invocation how (suc m.frames) ∷ es) c (Stopped f)) (sym more)
    (completes (child how callee u stop) (invocation how (suc m.frames) ∷ es) (Stopped f) (Broke how callee left f asked ok s)))

pub invokes : (code : CodeView) (p : Source) (inputs : List ℤ) (r : Running) (s' : State) (frames : Frames) (how : Invocation) (callee : Callee) → IsTrue (is_well_named p) → (g : Going code p inputs r) → IsAllowed p r.state r.ask
    → r.ask ≡ asks.Invoke how callee → Begins r.state s' how (cells_of p callee) → waiting frames ≡ r.frames.top ∷ waiting r.frames
    → (CalleeIsFit p callee → Stands code inputs p callee frames.top.cursor [] 0) → frames.top.cursor.owed ≡ owed_for asks.Begin
    → ((q : Parent) → q.frame ≡ g.frame → Scoped p frames.top (next_frame p g.frame.scope g.memory callee) (q ∷ g.parents))
    → Going code p inputs (record { state = s'; frames = frames; ask = asks.Begin; left = r.left })
invokes code p inputs r s' frames how callee well g allowed is made wait stands owes scoped =
    let fr = g.frame in
    let m = g.memory in
    let did = made m g.shows in
    let k = asks.Invoke how callee in
    let ok = subst (λ k. refused p m k ≡ None) is (allowed m g.shows) in
    let asking : Asking code inputs p fr.callee r.frames.top.cursor g.history g.took k r.left = subst (λ k. Asking code inputs p fr.callee r.frames.top.cursor g.history g.took k r.left) is g.asking in
    let q : Parent = record { frame = fr; history = g.history; took = g.took } in
    let there = asked p well inputs fr.callee g.sees.fit g.history (g.took + r.left) k r.left asking.asks in
    let sees = child_sees p well fr m g.sees g.opened callee there (begins p inputs fr.callee g.history (g.took + r.left) r.left how callee asking.asks) in
    let none : 0 + r.left ≡ r.left = omega arith in
    let low : m.cells ≤ m.cells + cells_of p callee = omega arith in
    let op = g.opened in
    record {
      frame = next_frame p fr.scope m callee;
      history = [];
      took = 0;
      memory = begun p callee (counted m);
      parents = q ∷ g.parents;
      callees = g.callees ++ callee ∷ [];
      shows = did.shows;
      asking = asking_first code inputs p callee frames.top.cursor r.left (stands sees.fit) owes;
      completes = λ u es end s.
          child_completes p inputs fr g.history g.took r.left m g.parents r.state.events.items s'.events.items g.callees how callee asking.asks ok did.events g.completes u es end
          (subst (λ n. Serial p inputs (next_frame p fr.scope m callee) n [] (begun p callee (counted m)) u es end) none s);
      numbered = omega (arith, length-append g.callees (callee ∷ []), g.numbered);
      scoped = scoped q refl;
      sees = sees;
      wait = subst (λ (b : List Activation). Wait code p inputs (m.cells + cells_of p callee) b (q ∷ g.parents)) (sym wait) (
        record { stands = asking.stands tt; owes = asking.owes tt; scoped = g.scoped; sees = sees_more p fr m.cells (m.cells + cells_of p callee) low g.sees },
        wait_more code p inputs m.cells (m.cells + cells_of p callee) (waiting r.frames) g.parents low g.wait,
      );
      opened = omega (arith, op, low);
      counted = one_more r.state s' m (invocation how (suc m.frames)) g.shows (room_for p m k ok) did.events;
      small = (crowded_not p callee m ok).1;
      behaves = g.behaves;
    }

-- ---- a frame ends

-- the state after the end
pub record Closes (code : CodeView) (p : Source) (inputs : List ℤ) (s' : State) (v : ℤ) (left : ℕ) (below : List Activation) : Type 0 where
  pub memory : Memory
  pub parents : List Parent
  pub callees : List Callee
  pub shows : Shows s' memory
  pub completes : Completes p inputs parents s'.events.items callees (Finished v left memory)
  pub numbered : suc (length callees) ≡ memory.frames
  pub wait : Wait code p inputs memory.cells below parents
  pub opened : length p.openings ≤ memory.cells
  pub counted : length s'.events.items ≤ MAX_EVENTS
  pub small : memory.cells ≤ MAX_CELLS
  pub behaves : Behaves p code

pub closes : (code : CodeView) (p : Source) (inputs : List ℤ) (r : Running) (s' : State) (v : ℤ) → (g : Going code p inputs r) → IsAllowed p r.state r.ask → r.ask ≡ asks.End v
    → s'.events.items ≡ r.state.events.items ++ events.End ∷ []
    → ((m : Memory) → Shows r.state m → Shows s' (record { store = clear_all same_instance (own_of r.frames.top) 0 (kinds_of p r.frames.top.creator) m.store; frames = m.frames; cells = m.cells; room = m.room - 1 }))
    → Closes code p inputs s' v r.left (waiting r.frames)
closes code p inputs r s' v g allowed is made cleared =
    let fr = g.frame in
    let m = g.memory in
    let k = asks.End v in
    let ok = subst (λ k. refused p m k ≡ None) is (allowed m g.shows) in
    let asks = g.asking.asks ∙ ap (λ k. asks_for k r.left) is in
    let sc = g.scoped in
    let own : (n : ℕ) → own_from p fr n ≡ own_of r.frames.top n = λ n. ap (λ x. record { frame = x; place = first_place p fr.callee + n }) sc.number ∙ ap (λ x. record { frame = r.frames.top.number; place = x + n }) (sym sc.first) in
    let store : clear_all same_instance (own_of r.frames.top) 0 (kinds_of p r.frames.top.creator) m.store ≡ stored p fr m k = cleared_same (own_of r.frames.top) (own_from p fr) (λ n. sym (own n)) 0 (kinds_of p r.frames.top.creator) m.store ∙ ap (λ ks. clear_all same_instance (own_from p fr) 0 ks m.store) (sym sc.creates) in
    record {
      memory = with_store m (stored p fr m k);
      parents = g.parents;
      callees = g.callees;
      shows = subst (λ (x : Store Instance). Shows s' (with_store m x)) store (cleared m g.shows);
      completes = subst (λ l. Completes p inputs g.parents l g.callees (Finished v r.left (with_store m (stored p fr m k)))) (sym made)
          (subst (λ (c : List Callee). Completes p inputs g.parents (r.state.events.items ++ events.End ∷ []) c (Finished v r.left (with_store m (stored p fr m k)))) (append-nil g.callees)
          (g.completes (act k (pos 0) stop) (events.End ∷ []) _ (Ended v r.left asks ok)));
      numbered = g.numbered;
      wait = g.wait;
      opened = g.opened;
      counted = one_more r.state s' m events.End g.shows (room_for p m k ok) made;
      small = g.small;
      behaves = g.behaves;
    }
  where
    cleared_same : (f h : ℕ → Instance) → ((n : ℕ) → f n ≡ h n) → (n : ℕ) (ks : List MonoidKind) (m : Store Instance) → clear_all same_instance f n ks m ≡ clear_all same_instance h n ks m
    cleared_same f h same n [] m = refl
    cleared_same f h same n (k ∷ ks) m = cleared_same f h same (suc n) ks (clear same_instance k (f n) m) ∙ ap (λ i. clear_all same_instance h (suc n) ks (clear same_instance k i m)) (same n)

-- the root has
pub last_ends : (code : CodeView) (p : Source) (inputs : List ℤ) (s' : State) (v : ℤ) (left : ℕ) (below : List Activation) → Closes code p inputs s' v left below → below ≡ [] → HasEnded p inputs s' v
last_ends code p inputs s' v left below c none = all_end c.parents c.completes (subst (λ (b : List Activation). Wait code p inputs c.memory.cells b c.parents) none c.wait)
  where
    all_end : (parents : List Parent) → Completes p inputs parents s'.events.items c.callees (Finished v left c.memory) → Wait code p inputs c.memory.cells [] parents → HasEnded p inputs s' v
    all_end [] whole wait = record { left = left; memory = c.memory; callees = c.callees; shows = c.shows; opened = c.opened; counted = c.counted; whole = whole }
    all_end (q ∷ qs) whole wait = absurd wait

-- the waiting frame continues
pub resumes : (code : CodeView) (p : Source) (inputs : List ℤ) (s' : State) (v : ℤ) (left : ℕ) (below : List Activation) (frames : Frames) (c' : CursorView) (k' : Ask) (left' : ℕ) → Closes code p inputs s' v left below → below ≡ frames.top ∷ waiting frames
    → ((callee : Callee) (history : List ℤ) (took : ℕ) → Stands code inputs p callee frames.top.cursor history took → GoesOn code inputs frames.top.cursor Done left k' c' left' p callee history took)
    → Going code p inputs (record { state = s'; frames = record frames { top = record frames.top { cursor = c' } }; ask = k'; left = left' })
resumes code p inputs s' v left below frames c' k' left' c is on = one_goes c.parents c.completes (subst (λ (b : List Activation). Wait code p inputs c.memory.cells b c.parents) is c.wait)
  where
    one_goes : (parents : List Parent) → Completes p inputs parents s'.events.items c.callees (Finished v left c.memory) → Wait code p inputs c.memory.cells (frames.top ∷ waiting frames) parents
        → Going code p inputs (record { state = s'; frames = record frames { top = record frames.top { cursor = c' } }; ask = k'; left = left' })
    one_goes [] done wait = absurd wait
    one_goes (q ∷ qs) done wait =
        let w = wait.0 in
        let step = on q.frame.callee q.history q.took w.stands in
        let same : q.took + (left - left') + left' ≡ q.took + left = omega (arith, step.less) in
        let turned : q.took + (left - left') + left' ≡ left + q.took = omega (arith, step.less) in
        record {
          frame = q.frame;
          history = q.history ++ pos 0 ∷ [];
          took = q.took + (left - left');
          memory = c.memory;
          parents = qs;
          callees = c.callees;
          shows = c.shows;
          asking = record { asks = ap (frame_asks p inputs q.frame.callee (q.history ++ pos 0 ∷ [])) same ∙ step.asks; stands = step.stands; owes = step.owes };
          completes = λ u es end s. done u es end (subst (λ n. Serial p inputs q.frame n (q.history ++ pos 0 ∷ []) c.memory u es end) turned s);
          numbered = c.numbered;
          scoped = cursor_moves p frames.top c' q.frame qs w.scoped;
          sees = w.sees;
          wait = wait.1;
          opened = c.opened;
          counted = c.counted;
          small = c.small;
          behaves = c.behaves;
        }

-- ---- a fault

stopped_whole : (p : Source) (inputs : List ℤ) (parents : List Parent) (es : List Event) (cs : List Callee) (f : Fault) → Completes p inputs parents es cs (Stopped f) → Whole p inputs es cs (Stopped f)
stopped_whole p inputs [] es cs f h = h
stopped_whole p inputs (q ∷ qs) es cs f h = stopped_whole p inputs qs es cs f h

limit_or_not : (f : Fault) → IsLimit f ⊎ (IsLimit f → ⊥)
limit_or_not DivisionByZero = inr (λ h. h)
limit_or_not IndexOutside = inr (λ h. h)
limit_or_not InputOutside = inr (λ h. h)
limit_or_not TooManyEvents = inl tt
limit_or_not TooManyFrames = inl tt
limit_or_not TooManyCells = inl tt

-- the whole run is the run so far, if a fault replaces the next event
pub stopped_here : (code : CodeView) (p : Source) (inputs : List ℤ) (r : Running) (f : Fault) → (g : Going code p inputs r) → Some f ≡ refused p g.memory r.ask → Whole p inputs r.state.events.items (g.callees ++ []) (Stopped f)
stopped_here code p inputs r f g fault =
    let es = r.state.events.items in
    let s : Serial p inputs g.frame (g.took + r.left) g.history g.memory stop [] (Stopped f) = Refused r.ask r.left f g.asking.asks (sym fault) in
    let whole = stopped_whole p inputs g.parents (es ++ []) (g.callees ++ []) f (g.completes stop [] (Stopped f) s) in
    subst (λ l. Whole p inputs l (g.callees ++ []) (Stopped f)) (append-nil es) whole

pub stops : (code : CodeView) (p : Source) (inputs : List ℤ) (r : Running) (f : Fault) → IsTrue (is_well_named p) → (g : Going code p inputs r) → ((m : Memory) → Shows r.state m → Some f ≡ refused p m r.ask)
    → StopsAfter p inputs r.state.events.items f
stops code p inputs r f well g fault =
    let es = r.state.events.items in
    let w = stopped_here code p inputs r f g (fault g.memory g.shows) in
    let run : IsSerialRun p inputs w.run es (StopsBy f) = (Stopped f, w.serial, refl) in
    record {
      run = w.run;
      serial = run;
      elision = ⊎_elim (λ h. inr h) (λ h. inl (ends_as_elided p inputs well MAX_TICKS MAX_EVENTS w.run es (StopsBy f) run h)) (limit_or_not f);
    }

-- ---- the requirements of a step and of an invocation

-- the children that a frame may begin
pub may_begin : (code : CodeView) (p : Source) (inputs : List ℤ) (r : Running) (how : Invocation) (callee : Callee) → IsTrue (is_well_named p) → (g : Going code p inputs r) → r.ask ≡ asks.Invoke how callee → MayBegin p g.frame (length r.state.cells.items) callee
may_begin code p inputs r how callee well g is = subst (λ k. IsThere p g.frame (length r.state.cells.items) k) is (going_there code p inputs r well g)

pub fits_callee : (code : CodeView) (p : Source) (inputs : List ℤ) (r : Running) (how : Invocation) (callee : Callee) → IsTrue (is_well_named p) → Going code p inputs r → r.ask ≡ asks.Invoke how callee → CalleeIsFit p callee
fits_callee code p inputs r how callee well g is = subst (λ k. IsBegunRightly p k) is (asked_rightly p well inputs g.frame.callee g.sees.fit g.history (g.took + r.left) r.ask r.left g.asking.asks)

pub not_crowded : (code : CodeView) (p : Source) (inputs : List ℤ) (r : Running) (how : Invocation) (callee : Callee) → Going code p inputs r → IsAllowed p r.state r.ask → r.ask ≡ asks.Invoke how callee → (r.state.frames < MAX_FRAMES) × (length r.state.cells.items ≤ MAX_CELLS)
not_crowded code p inputs r how callee g allowed is =
    let s = g.shows in
    let h = crowded_not p callee g.memory (subst (λ k. refused p g.memory k ≡ None) is (allowed g.memory s)) in
    (subst (λ n. n < MAX_FRAMES) s.frames h.0, subst (λ n. n ≤ MAX_CELLS) s.cells g.small)

-- a child begins, in the form of the code
pub begins_child : (code : CodeView) (p : Source) (inputs : List ℤ) (r r' : Running) (a : Activation) (how : Invocation) (callee : Callee) (count : ℕ) → IsTrue (is_well_named p) → (g : Going code p inputs r) → IsAllowed p r.state r.ask
    → r.ask ≡ asks.Invoke how callee → count ≡ cells_of p callee → IsChild code r.state r.frames callee a → HasBegun r r' how count a → Progresses code p inputs r steps.Made r'
begins_child code p inputs r r' a how callee count well g allowed is cells next did =
    let may = may_begin code p inputs r how callee well g is in
    let made = subst (λ n. Begins r.state r'.state how n) cells did.state in
    let on_top = subst (λ (t : Activation). IsChild code r.state r.frames callee t) (sym did.top) next in
    let wait = waiting_more r.frames.below.items r'.frames.below.items r.frames.top did.below in
    let went = invokes code p inputs r r'.state r'.frames how callee well g allowed is made wait (on_top.stands p inputs g.behaves) on_top.owes (λ q same. on_top.scoped p g.frame g.parents g.memory q (going_seen code p inputs r g) may g.shows same) in
    let left = subst (λ n. Going code p inputs (record { state = r'.state; frames = r'.frames; ask = asks.Begin; left = n })) (sym did.left) went in
    (subst (λ (k : Ask). Going code p inputs (record { state = r'.state; frames = r'.frames; ask = k; left = r'.left })) (sym did.ask) left, (_, (did.state g.memory g.shows).events))

pub begins_child_if : (code : CodeView) (p : Source) (inputs : List ℤ) (r r' : Running) (a : Activation) (how : Invocation) (callee : Callee) (count : ℕ) (step : Step) → IsTrue (is_well_named p) → Going code p inputs r → IsAllowed p r.state r.ask
    → r.ask ≡ asks.Invoke how callee → count ≡ cells_of p callee → IsChild code r.state r.frames callee a → HasBegunIf step r r' how count a → Progresses code p inputs r step r'
begins_child_if code p inputs r r' a how callee count steps.Made well g allowed is cells next did = begins_child code p inputs r r' a how callee count well g allowed is cells next did
begins_child_if code p inputs r r' a how callee count steps.NoMemory well g allowed is cells next did = tt
begins_child_if code p inputs r r' a how callee count (steps.Last v) well g allowed is cells next did = absurd did
begins_child_if code p inputs r r' a how callee count (steps.Stops f) well g allowed is cells next did = absurd did

-- ---- the first frame

pub first_shows : (p : Source) (inputs : List ℤ) (s0 s1 : State) (count : ℕ) → s0.cells.items ≡ p.openings → EachKind (λ k. (i : Instance) → view_in s0.views k i ≡ None) → s0.output.items ≡ [] → s0.events.items ≡ [] → s0.frames ≡ 1
    → Extends s0 s1 count → count ≡ cells_of p callees.Root → Shows s1 (begun p callees.Root (before_root p inputs MAX_EVENTS))
first_shows p inputs s0 s1 count cells views output events frames more many =
    let long = more.more in
    let l0 = ap length cells in
    let e1 = ap (λ v. length v.items) more.events in
    let e0 = ap length events in
    record {
      cell = λ n. unwrap_or-slice_get p.openings n (pos 0) ∙ ap (λ l. get_or l n (pos 0)) (sym cells) ∙ sym (more.cells n);
      view = λ k i. sym (ap (λ h. value_in h k i) more.views ∙ ap (or_unit (structure_of k)) (each_kind (λ k. (i : Instance) → view_in s0.views k i ≡ None) views k i));
      printed = sym (ap (λ v. v.items) more.output ∙ output);
      frames = sym (more.frames ∙ frames);
      cells = omega (arith, long, l0, many);
      room = omega (arith, e1, e0);
    }

pub goes_first : (code : CodeView) (p : Source) (inputs : List ℤ) (s : State) (frames : Frames) (a : Activation) → IsTrue (is_well_named p) → Behaves p code → Shows s (begun p callees.Root (before_root p inputs MAX_EVENTS)) → s.events.items ≡ []
    → Stands code inputs p callees.Root a.cursor [] 0 → a.cursor.owed ≡ owed_for asks.Begin → Scoped p a (root_frame p inputs) [] → frames.top ≡ a → frames.below.items ≡ []
    → Going code p inputs (record { state = s; frames = frames; ask = asks.Begin; left = MAX_TICKS })
goes_first code p inputs s frames a well behaves shows events stands owes scoped top none =
    let named = well_named_parts p well in
    let main = named.functions p.main named.main in
    let openings = named.openings in
    let cells = main.cells in
    let start : 0 + MAX_TICKS ≡ MAX_TICKS = omega arith in
    record {
      frame = root_frame p inputs;
      history = [];
      took = 0;
      memory = begun p callees.Root (before_root p inputs MAX_EVENTS);
      parents = [];
      callees = [];
      shows = shows;
      asking = asking_first code inputs p callees.Root frames.top.cursor MAX_TICKS (subst (λ (t : Activation). Stands code inputs p callees.Root t.cursor [] 0) (sym top) stands) (ap (λ (t : Activation). t.cursor.owed) top ∙ owes);
      completes = λ u es end r. record { run = u; begins = refl; serial = subst (λ n. Serial p inputs (root_frame p inputs) n [] (begun p callees.Root (before_root p inputs MAX_EVENTS)) u (s.events.items ++ es) end) start (subst (λ (l : List Event). Serial p inputs (root_frame p inputs) (0 + MAX_TICKS) [] (begun p callees.Root (before_root p inputs MAX_EVENTS)) u (l ++ es) end) (sym events) r) };
      numbered = refl;
      scoped = subst (λ (t : Activation). Scoped p t (root_frame p inputs) []) (sym top) scoped;
      sees = root_sees p inputs;
      wait = subst (λ (b : List Activation). Wait code p inputs (begun p callees.Root (before_root p inputs MAX_EVENTS)).cells b []) (sym (ap reverse none)) tt;
      opened = omega arith;
      counted = subst (λ (l : List Event). length l ≤ MAX_EVENTS) (sym events) (omega arith);
      small = omega (arith, openings, cells);
      behaves = behaves;
    }

-- the effect of a request, with each part renamed
pub told_as : (p : Source) (fr : Frame) (s s' : State) (k k' : Ask) (t t' : Told) → k ≡ k' → t ≡ t' → Tells p fr s s' k' t → Tells p fr s s' k t'
told_as p fr s s' k k' t t' ask told h = subst (λ (t : Told). Tells p fr s s' k t) told (subst (λ (k : Ask). Tells p fr s s' k t) (sym ask) h)

-- ---- the requirements of a request

-- the fault that replaces a child's beginning, or none
pub uncrowded : (p : Source) (s : State) (k : Ask) (how : Invocation) (callee : Callee) (n : ℕ) → k ≡ asks.Invoke how callee → n ≡ cells_of p callee
    → ((p : Source) (callee : Callee) (m : Memory) → n ≡ cells_of p callee → Shows s m → None ≡ crowded p callee m) → IsAllowed p s k
uncrowded p s k how callee n is cells none m h = subst (λ k. refused p m k ≡ None) (sym is) (sym (none p callee m cells h))

pub crowd_refuses : (p : Source) (s : State) (k : Ask) (how : Invocation) (callee : Callee) (n : ℕ) (f : Fault) → k ≡ asks.Invoke how callee → n ≡ cells_of p callee
    → ((p : Source) (callee : Callee) (m : Memory) → n ≡ cells_of p callee → Shows s m → Some f ≡ crowded p callee m) → (m : Memory) → Shows s m → Some f ≡ refused p m k
crowd_refuses p s k how callee n f is cells some m h = subst (λ k. Some f ≡ refused p m k) (sym is) (some p callee m cells h)

-- a request after which the frame continues at once needs only room for an event
pub inner_full : (p : Source) (m : Memory) (k : Ask) → IsInner k → refused p m k ≡ full m
inner_full p m asks.Begin h = refl
inner_full p m (asks.Read x) h = refl
inner_full p m (asks.Write x v) h = refl
inner_full p m (asks.Create r) h = refl
inner_full p m (asks.Update r v) h = refl
inner_full p m (asks.Set r v) h = refl
inner_full p m (asks.Value r) h = refl
inner_full p m (asks.Print v) h = refl
inner_full p m (asks.Invoke how callee) h = absurd h
inner_full p m asks.Resume h = refl
inner_full p m asks.Sync h = refl
inner_full p m (asks.Result v) h = refl
inner_full p m (asks.End v) h = absurd h
inner_full p m (asks.Fault f) h = absurd h

abbrev event_left : ℕ → Option Fault
event_left n = if nat_eq n 0 then Some TooManyEvents else None

some_left : (n : ℕ) → 0 < n → event_left n ≡ None
some_left n h = ap (λ b. if b then Some TooManyEvents else None) (ne_eqb n 0 (λ e. absurd (omega (arith, h, e))))

-- one more event may be made, if there is room
pub not_full : (s : State) (m : Memory) → Shows s m → length s.events.items < MAX_EVENTS → full m ≡ None
not_full s m h room = let left = h.room in some_left m.room (omega (arith, left, room))

pub is_full : (s : State) (m : Memory) → Shows s m → MAX_EVENTS ≤ length s.events.items → full m ≡ Some TooManyEvents
is_full s m h many =
    let left = h.room in
    let none : m.room ≡ 0 = omega (arith, left, many) in
    ap (λ b. if b then Some TooManyEvents else None) (eq-eqb m.room 0 none)

pub allowed : (p : Source) (s : State) (k : Ask) → ((m : Memory) → refused p m k ≡ full m) → length s.events.items < MAX_EVENTS → IsAllowed p s k
allowed p s k only room m h = only m ∙ not_full s m h room

-- a full trace stops the run by a fault
pub stops_full : (code : CodeView) (p : Source) (inputs : List ℤ) (r : Running) → IsTrue (is_well_named p) → (g : Going code p inputs r) → ((m : Memory) → refused p m r.ask ≡ full m) → MAX_EVENTS ≤ length r.state.events.items → StopsAfter p inputs r.state.events.items TooManyEvents
stops_full code p inputs r well g only many = stops code p inputs r TooManyEvents well g (λ m h. sym (only m ∙ is_full r.state m h many))

-- the same state, renamed
pub ended_as : (p : Source) (inputs : List ℤ) (s s' : State) (v w : ℤ) → s' ≡ s → w ≡ v → HasEnded p inputs s v → HasEnded p inputs s' w
ended_as p inputs s s' v w same value h = subst (λ (s : State). HasEnded p inputs s w) (sym same) (subst (λ v. HasEnded p inputs s v) (sym value) h)
