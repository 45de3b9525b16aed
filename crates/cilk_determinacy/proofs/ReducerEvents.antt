-- The reducers' views in a serial run are those of its events.
--
-- - `only_both`, `view_pushed`: the view over a range with one event more;
-- - `Holds`: the store has the views over the events so far; `put_holds`, `retire_holds`,
--   `act_holds`: the same after an event;
-- - `run_viewed`: along a run, each value that is read is the view's number;
-- - `values_viewed`, `finals_viewed`: the laws.
use Rattle.std.proofs.Common.{◌≡◌, ℕ, zero, suc, ◌-◌, ℤ, Bool, true, false, cond, ◌&&◌, if◌then◌else◌, IsTrue, List, [], ◌∷◌, ◌++◌, take, slice_get, Option, Some, None, refl, sym, ap, ap₂, ◌∙◌, subst, append_assoc, append-nil}
use Rattle.cilk_types.specs.declared.event.Event as numbers
use Rattle.cilk_types.specs.declared.event.Event.TheVariants as events
use Rattle.cilk_types.specs.declared.event.Instance as numbered
use Rattle.cilk_types.specs.declared.limits.TheConstants.{MAX_EVENTS, MAX_TICKS}
use Rattle.cilk_types.specs.declared.outcome.Outcome.{Outcome}
use Rattle.cilk_monoid.specs.declared.kind.MonoidKind.{MonoidKind}
use Rattle.cilk_monoid.specs.Kinds.{structure_of, same_kind, final_of}
use Rattle.cilk_monoid.specs.Ranges.{ReducerEvent, Created, Updated, SetTo, Retired, same_instance, after_event, view_of}
use Rattle.cilk_monoid.specs.Values.{ViewValue}
use Rattle.cilk_monoid.proofs.RangeLaws.{view_of-push, same_from_true}
use Rattle.cilk_program.specs.declared.ask.Ask.{Ask}
use Rattle.cilk_program.specs.declared.ask.Ask.TheVariants as asks
use Rattle.cilk_program.specs.declared.ask.Callee.TheVariants as callees
use Rattle.cilk_types.specs.declared.invocation.Invocation.{Invocation}
use Rattle.cilk_types.specs.declared.invocation.Invocation.TheVariants.{Call, Spawn}
use Rattle.cilk_program.specs.declared.syntax.Reducer as syntax
use Rattle.cilk_program.specs.Outcomes.{finals_from}
use Rattle.cilk_program.specs.Inside.{AskIsThere}
use Rattle.cilk_program.specs.Scopes.{instance_in}
use Rattle.cilk_program.specs.Store.{Store, put_view, clear_all}
use Rattle.cilk_program.specs.Syntax.{Source}
use Rattle.cilk_program.specs.SerialRun as serial
use Rattle.cilk_program.specs.SerialRun.{Memory, Frame, global_reducer, reducer_at, own_from, own_reducers, put_result, answer_to, result_written, event_of, invocation, stored, IsInner, Ending, Finished, Serial, Made, Ended, Went, Broke, Refused}
use Rattle.cilk_program.specs.WellNamed.{is_well_named}
use Rattle.cilk_program.specs.Numbering.{counts_of, counts_after, entered}
use Rattle.cilk_program.proofs.Numbers.{serial_counts}
use Rattle.cilk_determinacy.specs.Runs.{Instance, Event, Deed, Does, Invokes, Run, stop, act, child}
use Rattle.cilk_determinacy.specs.Traces.{trace}
use Rattle.cilk_monoid.proofs.SameKinds.{same_kind-eq}
use Rattle.cilk_determinacy.specs.FrameEnvMachine.{retired_by, retired_from}
use Rattle.cilk_determinacy.specs.Nested.{named_event, named_from, named}
use Rattle.cilk_determinacy.specs.ReducerEvents.{OfKind, only, view_over, of_instance, retired_all, of_event, reducer_events, finals_over, ValuesAreViewed, FinalsAreViewed}
use Rattle.cilk_determinacy.specs.Reducers.{kind_of}
use Rattle.cilk_determinacy.specs.FrameEnvs.{Reducers, FrameEnv, first_env, child_env, global_named, own_named}
use Rattle.cilk_determinacy.specs.Numbers.{instance_number, HasInstance}
use Rattle.cilk_determinacy.proofs.Determinate.{ran}
use Rattle.cilk_determinacy.proofs.Sights.{IsNumbered, tied_reducer, own_tied, Stands}
use Rattle.cilk_determinacy.proofs.Standing.{Standing, asked_there, standing_act, standing_child, standing_past, standing_root}

-- ---- ranges

only_both : (k : MonoidKind) (ts us : List OfKind) → only k (ts ++ us) ≡ only k ts ++ only k us
only_both k [] us = refl
only_both k (t ∷ ts) us = by (same_kind t.kind k) (only_both k ts us)
  where
    by : (b : Bool) → only k (ts ++ us) ≡ only k ts ++ only k us → cond b (t.event ∷ only k (ts ++ us)) (only k (ts ++ us)) ≡ cond b (t.event ∷ only k ts) (only k ts) ++ only k us
    by true e = ap (λ l. t.event ∷ l) e
    by false e = e

-- the view over one event more
view_pushed : (k : MonoidKind) (i : numbered.Instance) (ts : List OfKind) (t : OfKind)
    → view_over k i (ts ++ t ∷ []) ≡ cond (same_kind t.kind k) (after_event (structure_of k) i t.event (view_over k i ts)) (view_over k i ts)
view_pushed k i ts t = ap (view_of (structure_of k) i) (only_both k ts (t ∷ [])) ∙ by (same_kind t.kind k)
  where
    by : (b : Bool) → view_of (structure_of k) i (only k ts ++ cond b (t.event ∷ []) []) ≡ cond b (after_event (structure_of k) i t.event (view_over k i ts)) (view_over k i ts)
    by true = view_of-push (structure_of k) i (only k ts) t.event
    by false = ap (view_of (structure_of k) i) (append-nil (only k ts))

-- ---- the store

-- each reducer's view is that over these events
record Holds (s : Store numbered.Instance) (ts : List OfKind) : Type 0 where
  views : (k : MonoidKind) (j : numbered.Instance) → s.views k j ≡ view_over k j ts

nothing_more : (s : Store numbered.Instance) (ts : List OfKind) → Holds s ts → Holds s (ts ++ [])
nothing_more s ts h = subst (Holds s) (sym (append-nil ts)) h

pick : (b c : Bool) (x y z u : ViewValue) → (b ≡ true → c ≡ true → x ≡ y) → z ≡ u → (if b && c then x else z) ≡ cond b (cond c y u) u
pick true true x y z u e f = e refl refl
pick true false x y z u e f = f
pick false c x y z u e f = f

result_holds : (o : Option ℕ) (v : ℤ) (s : Store numbered.Instance) (ts : List OfKind) → Holds s ts → Holds (put_result o v s) ts
result_holds None v s ts h = record { views = h.views }
result_holds (Some c) v s ts h = record { views = h.views }

module _ (p : Source) (whole : serial.Transcript) where
  -- the value that an event reads is the number of its reducer's view over these events
  record IsOver (ts : List OfKind) (i : numbered.Instance) (v : ℤ) : Type 0 where
    name : Instance
    here : HasInstance p whole name
    number : instance_number p whole name ≡ i
    value : v ≡ (structure_of (kind_of name)).number (view_over (kind_of name) i ts)

  abbrev ValueIs : numbers.Event → List OfKind → Type 0
  ValueIs (events.Value i v) ts = IsOver ts i v
  ValueIs e ts = Unit {0}

  no_value_written : (o : Option ℕ) (v : ℤ) (ts : List OfKind) → ValueIs (result_written o v) ts
  no_value_written None v ts = tt
  no_value_written (Some c) v ts = tt

  no_value_invoked : (how : Invocation) (n : ℕ) (ts : List OfKind) → ValueIs (invocation how n) ts
  no_value_invoked Call n ts = tt
  no_value_invoked Spawn n ts = tt

  put_holds : (s : Store numbered.Instance) (ts : List OfKind) → Holds s ts → (i : Instance) (k : MonoidKind) (j : numbered.Instance) → instance_number p whole i ≡ j → kind_of i ≡ k
      → (event : numbered.Instance → ReducerEvent) (effect : MonoidKind → ViewValue → ViewValue)
      → ((k' : MonoidKind) (j' : numbered.Instance) (u : ViewValue) → after_event (structure_of k') j' (event j) u ≡ cond (same_instance j j') (effect k' u) u)
      → Holds (put_view same_instance k j (effect k (s.views k j)) s) (ts ++ of_instance p whole i event ∷ [])
  put_holds s ts h i k j number kind event effect after = record { views = views }
    where
      views : (k' : MonoidKind) (j' : numbered.Instance) → (if same_kind k k' && same_instance j j' then effect k (s.views k j) else s.views k' j') ≡ view_over k' j' (ts ++ of_instance p whole i event ∷ [])
      views k' j' =
          let w = view_over k' j' ts in
          pick (same_kind k k') (same_instance j j') (effect k (s.views k j)) (effect k' w) (s.views k' j') w
          (λ b c. ap₂ (λ k j. effect k (s.views k j)) (same_kind-eq k k' b) (same_from_true j j' c) ∙ ap (effect k') (h.views k' j'))
          (h.views k' j')
          ∙ ap (λ a. cond (same_kind k k') a w) (sym (after k' j' w))
          ∙ ap (λ k. cond (same_kind k k') (after_event (structure_of k') j' (event j) w) w) (sym kind)
          ∙ ap (λ j. cond (same_kind (kind_of i) k') (after_event (structure_of k') j' (event j) w) w) (sym number)
          ∙ sym (view_pushed k' j' ts (of_instance p whole i event))

  retire_holds : (own : ℕ → Reducers) (own' : ℕ → numbered.Instance) → ((i : ℕ) → IsNumbered p whole (own i) (own' i)) → (n : ℕ) (ks : List MonoidKind) (s : Store numbered.Instance) (ts : List OfKind)
      → Holds s ts → Holds (clear_all same_instance own' n ks s) (ts ++ retired_all p whole (retired_from own n ks))
  retire_holds own own' numbers n [] s ts h = nothing_more s ts h
  retire_holds own own' numbers n (k ∷ ks) s ts h =
      let one = put_holds s ts h (own n k) k (own' n) (numbers n k).0 (numbers n k).1 Retired (λ k u. (structure_of k).unit) (λ k' j' u. refl) in
      subst (Holds (clear_all same_instance own' n (k ∷ ks) s)) (append_assoc ts (of_instance p whole (own n k) Retired ∷ []) (retired_all p whole (retired_from own (suc n) ks)))
      (retire_holds own own' numbers (suc n) ks (put_view same_instance k (own' n) ((structure_of k).unit) s) (ts ++ of_instance p whole (own n k) Retired ∷ []) one)

  module _ (w : FrameEnv) (fr : Frame) (h : Stands p whole w fr) (m : Memory) (ts : List OfKind) (holds : Holds m.store ts) where
    number : (x : syntax.Reducer) → IsNumbered p whole (instance_in global_named w.sight x.place) (reducer_at fr x)
    number x = tied_reducer p whole w.sight fr.scope h.tied x.place

    -- one event of a reducer
    one_holds : (x : syntax.Reducer) (event : numbered.Instance → ReducerEvent) (effect : MonoidKind → ViewValue → ViewValue)
        → ((k' : MonoidKind) (j' : numbered.Instance) (u : ViewValue) → after_event (structure_of k') j' (event (reducer_at fr x)) u ≡ cond (same_instance (reducer_at fr x) j') (effect k' u) u)
        → Holds (put_view same_instance x.kind (reducer_at fr x) (effect x.kind (m.store.views x.kind (reducer_at fr x))) m.store) (ts ++ of_instance p whole (instance_in global_named w.sight x.place x.kind) event ∷ [])
    one_holds x event effect after =
        put_holds m.store ts holds (instance_in global_named w.sight x.place x.kind) x.kind (reducer_at fr x) (number x x.kind).0 (number x x.kind).1 event effect after

    act_holds : (a : Ask) → IsInner a → Holds (stored p fr m a) (ts ++ of_event p whole (named_event p w a (answer_to fr m a)))
    act_holds asks.Begin inner = nothing_more m.store ts holds
    act_holds (asks.Read x) inner = nothing_more m.store ts holds
    act_holds (asks.Write x v) inner = nothing_more (stored p fr m (asks.Write x v)) ts (record { views = holds.views })
    act_holds (asks.Create x) inner = one_holds x Created (λ k u. (structure_of k).unit) (λ k' j' u. refl)
    act_holds (asks.Update x v) inner = one_holds x (λ j. Updated j v) (λ k u. (structure_of k).combine u ((structure_of k).single v)) (λ k' j' u. refl)
    act_holds (asks.Set x v) inner = one_holds x (λ j. SetTo j v) (λ k u. (structure_of k).single v) (λ k' j' u. refl)
    act_holds (asks.Value x) inner = nothing_more m.store ts holds
    act_holds (asks.Print v) inner = nothing_more (stored p fr m (asks.Print v)) ts (record { views = holds.views })
    act_holds (asks.Invoke how callee) inner = absurd inner
    act_holds asks.Resume inner = nothing_more m.store ts holds
    act_holds asks.Sync inner = nothing_more m.store ts holds
    act_holds (asks.Result v) inner = nothing_more (stored p fr m (asks.Result v)) ts (result_holds fr.result v m.store ts holds)
    act_holds (asks.End v) inner = absurd inner
    act_holds (asks.Fault f) inner = absurd inner

    act_value : (a : Ask) → AskIsThere p w.callee a → ValueIs (event_of fr m a) ts
    act_value asks.Begin there = tt
    act_value (asks.Read x) there = tt
    act_value (asks.Write x v) there = tt
    act_value (asks.Create x) there = tt
    act_value (asks.Update x v) there = tt
    act_value (asks.Set x v) there = tt
    act_value (asks.Value x) there =
        let n = number x x.kind in
        record {
          name = instance_in global_named w.sight x.place x.kind;
          here = (h.sees.own there.0).reducers x.place x.kind there.1;
          number = n.0;
          value = ap (structure_of x.kind).number (holds.views x.kind (reducer_at fr x))
              ∙ ap (λ k. (structure_of k).number (view_over k (reducer_at fr x) ts)) (sym n.1);
        }
    act_value (asks.Print v) there = tt
    act_value (asks.Invoke how callee) there = no_value_invoked how (suc m.frames) ts
    act_value asks.Resume there = tt
    act_value asks.Sync there = tt
    act_value (asks.Result v) there = no_value_written fr.result v ts
    act_value (asks.End v) there = tt
    act_value (asks.Fault f) there = tt

    end_holds : (v : ℤ) → Holds (stored p fr m (asks.End v)) (ts ++ retired_all p whole (retired_by p w))
    end_holds v =
        subst (λ c. Holds (stored p (record fr { callee = c }) m (asks.End v)) (ts ++ retired_all p whole (retired_by p w))) h.callee
        (retire_holds (own_named p w.callee w.name) (own_from p (record fr { callee = w.callee })) (own_tied p whole w.callee w.name h.here fr.number h.number) 0 (own_reducers p w.callee) m.store ts holds)

  -- ---- along a run

  abbrev after : List OfKind → Deed FrameEnv → List OfKind
  after ts (Does e) = ts ++ of_event p whole e
  after ts (Invokes k w) = ts

  after_more : (ts : List OfKind) (d : Deed FrameEnv) (ds : List (Deed FrameEnv)) → after ts d ++ reducer_events p whole ds ≡ ts ++ reducer_events p whole (d ∷ ds)
  after_more ts (Does e) ds = append_assoc ts (of_event p whole e) (reducer_events p whole ds)
  after_more ts (Invokes k w) ds = refl

  events_both : (ds es : List (Deed FrameEnv)) → reducer_events p whole (ds ++ es) ≡ reducer_events p whole ds ++ reducer_events p whole es
  events_both [] es = refl
  events_both (Does e ∷ ds) es = ap (λ l. of_event p whole e ++ l) (events_both ds es) ∙ sym (append_assoc (of_event p whole e) (reducer_events p whole ds) (reducer_events p whole es))
  events_both (Invokes k w ∷ ds) es = events_both ds es

  -- each value that is read, where these events come before the list
  abbrev AreOver : List OfKind → List (Deed FrameEnv) → List numbers.Event → Type 0
  AreOver ts [] [] = Unit {0}
  AreOver ts [] (e ∷ es) = ⊥
  AreOver ts (d ∷ ds) [] = ⊥
  AreOver ts (d ∷ ds) (e ∷ es) = ValueIs e ts × AreOver (after ts d) ds es

  over_both : (ts : List OfKind) (ds ds' : List (Deed FrameEnv)) (es es' : List numbers.Event) → AreOver ts ds es → AreOver (ts ++ reducer_events p whole ds) ds' es' → AreOver ts (ds ++ ds') (es ++ es')
  over_both ts [] ds' [] es' h g = subst (λ ts. AreOver ts ds' es') (append-nil ts) g
  over_both ts [] ds' (e ∷ es) es' h g = absurd h
  over_both ts (d ∷ ds) ds' [] es' h g = absurd h
  over_both ts (d ∷ ds) ds' (e ∷ es) es' h g = (h.0, over_both (after ts d) ds ds' es es' h.1 (subst (λ ts. AreOver ts ds' es') (sym (after_more ts d ds)) g))

  over_at : (ts : List OfKind) (ds : List (Deed FrameEnv)) (es : List numbers.Event) → AreOver ts ds es → (n : ℕ) (i : numbered.Instance) (v : ℤ) → slice_get es n ≡ Some (events.Value i v) → IsOver (ts ++ reducer_events p whole (take n ds)) i v
  over_at ts ds [] h n i v is = let z : None ≡ Some (events.Value i v) = is in absurd (cc)
  over_at ts [] (e ∷ es) h n i v is = absurd h
  over_at ts (d ∷ ds) (e ∷ es) h zero i v is =
      let same : e ≡ events.Value i v = cc in
      subst (λ ts. IsOver ts i v) (sym (append-nil ts)) (subst (λ (e : numbers.Event). ValueIs e ts) same h.0)
  over_at ts (d ∷ ds) (e ∷ es) h (suc n) i v is = subst (λ ts. IsOver ts i v) (after_more ts d (take n ds)) (over_at (after ts d) ds es h.1 n i v is)

  abbrev HoldsAt : Ending → List OfKind → Type 0
  HoldsAt (Finished v left m) ts = Holds m.store ts
  HoldsAt (serial.Stopped f) ts = Unit {0}

  record Viewed (end : Ending) (t : Run FrameEnv) (es : List numbers.Event) (ts : List OfKind) : Type 0 where
    values : AreOver ts (trace t) es
    holds : HoldsAt end (ts ++ reducer_events p whole (trace t))

  act_viewed : (end : Ending) (e : Event) (n : numbers.Event) (t : Run FrameEnv) (es : List numbers.Event) (ts : List OfKind) → ValueIs n ts → Viewed end t es (ts ++ of_event p whole e) → Viewed end (act e t) (n ∷ es) ts
  act_viewed end e n t es ts value h = record {
    values = (value, h.values);
    holds = subst (HoldsAt end) (append_assoc ts (of_event p whole e) (reducer_events p whole (trace t))) h.holds;
  }

  child_viewed : (end : Ending) (how : Invocation) (n : ℕ) (w : FrameEnv) (u t : Run FrameEnv) (es es' : List numbers.Event) (ts : List OfKind) → AreOver ts (trace u) es
      → Viewed end t es' (ts ++ reducer_events p whole (trace u)) → Viewed end (child how w u t) (invocation how n ∷ (es ++ es')) ts
  child_viewed end how n w u t es es' ts h g = record {
    values = (no_value_invoked how n ts, over_both ts (trace u) (trace t) es es' h g.values);
    holds = subst (HoldsAt end) (append_assoc ts (reducer_events p whole (trace u)) (reducer_events p whole (trace t)) ∙ ap (λ l. ts ++ l) (sym (events_both (trace u) (trace t)))) g.holds;
  }

  module _ (inputs : List ℤ) (well : IsTrue (is_well_named p)) where
    run_viewed : {fr : Frame} {start : ℕ} {history : List ℤ} {m : Memory} {rest : serial.Transcript} {es : List numbers.Event} {end : Ending} → Serial p inputs fr start history m rest es end
        → (w : FrameEnv) (j : ℕ) → Standing p inputs well whole w fr j rest (counts_of m) → (ts : List OfKind) → Holds m.store ts → Viewed end (named_from p w (suc j) rest) es ts
    run_viewed (Made {fr = fr} {start = start} {history = history} {m = m} {r = r} {es = es} {end = end} a left q inner ok rest) w j standing ts holds =
        act_viewed end (named_event p w a (answer_to fr m a)) (event_of fr m a) (named_from p w (suc j) r) es ts
        (act_value w fr standing.stands m ts holds a (asked_there p inputs well whole w fr history start left a standing.stands q))
        (run_viewed rest w j (standing_act p inputs well whole w fr j a (answer_to fr m a) r (counts_of m) standing) (ts ++ of_event p whole (named_event p w a (answer_to fr m a))) (act_holds w fr standing.stands m ts holds a inner))
    run_viewed (Ended {fr = fr} {m = m} v left q ok) w j standing ts holds = record {
      values = (tt, tt);
      holds = subst (λ l. Holds (stored p fr m (asks.End v)) (ts ++ l)) (sym (append-nil (retired_all p whole (retired_by p w)))) (end_holds w fr standing.stands m ts holds v);
    }
    run_viewed (Went {fr = fr} {start = start} {history = history} {m = m} {u = u} {r = r} {es = es} {es' = es'} {end = end} how callee left v left' m' q ok inner rest) w j standing ts holds =
        let c = child_env p w (suc j) callee in
        let after : counts_of m' ≡ counts_after p u (entered p callee (counts_of m)) = serial_counts inner in
        let one = run_viewed inner c 0 (standing_child p inputs well whole w fr j how callee u r m history start left standing q) ts (record { views = holds.views }) in
        child_viewed end how (suc m.frames) c (named_from p c 1 u) (named_from p w (suc (suc j)) r) es es' ts one.values
        (run_viewed rest w (suc j) (standing_past p inputs well whole w fr j how callee u r (counts_of m) (counts_of m') after standing) (ts ++ reducer_events p whole (trace (named_from p c 1 u))) one.holds)
    run_viewed (Broke {fr = fr} {start = start} {history = history} {m = m} {u = u} {es = es} how callee left f q ok inner) w j standing ts holds =
        let c = child_env p w (suc j) callee in
        let one = run_viewed inner c 0 (standing_child p inputs well whole w fr j how callee u serial.stop m history start left standing q) ts (record { views = holds.views }) in
        subst (λ es. Viewed (serial.Stopped f) (child how c (named_from p c 1 u) stop) (invocation how (suc m.frames) ∷ es) ts) (append-nil es)
        (child_viewed (serial.Stopped f) how (suc m.frames) c (named_from p c 1 u) stop es [] ts one.values (record { values = tt; holds = tt }))
    run_viewed (Refused k left f q bad) w j standing ts holds = record { values = tt; holds = tt }

    -- a whole run
    whole_viewed : {es : List numbers.Event} {end : Ending} → Serial p inputs (serial.root_frame p inputs) MAX_TICKS [] (serial.begun p callees.Root (serial.before_root p inputs MAX_EVENTS)) whole es end → Viewed end (named p whole) es []
    whole_viewed d = run_viewed d (first_env p) 0 (standing_root p inputs well whole) [] (record { views = λ k j. refl })

-- ---- the laws

pub values_viewed : (p : Source) (inputs : List ℤ) → ValuesAreViewed p inputs
values_viewed p inputs r es c well (end, d, e) q i v first is =
    let h = whole_viewed p r inputs well d in
    let o = over_at p r [] (trace (named p r)) es h.values (q - 1) i v is in
    record { name = o.name; here = o.here; number = o.number; value = o.value }

finals_same : (s : Store numbered.Instance) (ts : List OfKind) → Holds s ts → (n : ℕ) (ks : List MonoidKind) → finals_from global_reducer n ks s ≡ finals_over ts n ks
finals_same s ts h n [] = refl
finals_same s ts h n (k ∷ ks) = ap₂ (λ v l. final_of v ∷ l) (h.views k (global_reducer n)) (finals_same s ts h (suc n) ks)

pub finals_viewed : (p : Source) (inputs : List ℤ) → FinalsAreViewed p inputs
finals_viewed p inputs r es outcome well run =
    let g = ran p inputs r es outcome run in
    let h = whole_viewed p r inputs well g.derivation in
    ap (λ (o : Outcome). o.reducers) g.leaves ∙ finals_same g.memory.store (reducer_events p r (trace (named p r))) h.holds 0 p.reducers
