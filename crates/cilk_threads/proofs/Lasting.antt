-- The views of a whole run give its outcome: `whole_last`.
--
-- - `list_from`: the reducer events of a list of events, in one pass; `over_list`: those of an
--   event order's positions are the same;
-- - `Alike`: two lists give each reducer the same view; `run_alike`: so do the pass and the run by
--   names;
-- - `prints_viewed`: the output's view over a list has what it prints.
use Rattle.std.proofs.Common.{◌≡◌, ◌⊎◌, inl, inr, ℕ, zero, suc, ◌+◌, ◌-◌, ◌<◌, ◌≤◌, eqb, ℤ, Bool, true, false, cond, ◌&&◌, List, [], ◌∷◌, ◌++◌, length, take, get_or, slice_get, slice_index_or, Option, Some, None, refl, sym, ap, ap₂, ◌∙◌, subst, arith, append_assoc, append-nil, length-append}
use Rattle.std.proofs.Math.Seq.{take-length}
use Rattle.std.proofs.lemmas.List.{take_more}
use Rattle.std.proofs.lemmas.Bool.{cases_Bool, ne_eqb}
use Rattle.std.proofs.lemmas.Option.{slice_get_within, slice_get-get_or, get_or_from_slice_get}
use Rattle.cilk_types.specs.declared.event.Event as numbers
use Rattle.cilk_types.specs.declared.event.Event.TheVariants as events
use Rattle.cilk_types.specs.declared.event.Instance as numbered
use Rattle.cilk_types.specs.declared.invocation.Invocation.{Invocation}
use Rattle.cilk_types.specs.declared.invocation.Invocation.TheVariants.{Call, Spawn}
use Rattle.cilk_types.specs.declared.outcome.Final.{Final}
use Rattle.cilk_monoid.specs.declared.kind.MonoidKind.{MonoidKind}
use Rattle.cilk_monoid.specs.declared.kind.MonoidKind.TheVariants.{Append}
use Rattle.cilk_monoid.specs.Kinds.{structure_of, same_kind, final_of}
use Rattle.cilk_monoid.specs.Ranges.{ReducerEvent, Created, Updated, SetTo, Retired, same_instance, after_event, view_after, view_of, instance_of}
use Rattle.cilk_monoid.specs.Laws.{MonoidStructure}
use Rattle.cilk_monoid.specs.Values.{ViewValue, Elements}
use Rattle.cilk_monoid.proofs.RangeLaws.{same_from_true, view_after-append}
use Rattle.cilk_monoid.proofs.SameKinds.{kind_itself}
use Rattle.cilk_hypermap.specs.Hypermap.{value_in}
use Rattle.cilk_hypermap.specs.Views.{output}
use Rattle.cilk_program.specs.declared.ask.Ask.TheVariants as asks
use Rattle.cilk_program.specs.declared.ask.Callee.{Callee}
use Rattle.cilk_program.specs.declared.ask.Callee.TheVariants as callees
use Rattle.cilk_program.specs.Outcomes.{Leaves}
use Rattle.cilk_program.specs.SerialRun as serial
use Rattle.cilk_program.specs.SerialRun.{global_reducer, own_reducers}
use Rattle.cilk_program.specs.Syntax.{Source, main_of, function_at}
use Rattle.cilk_program.specs.Answered.{prints, printed_by}
use Rattle.cilk_program.proofs.Remembered.{runs_leave}
use Rattle.cilk_tree.specs.declared.event_order.EventOrder.{EventOrder}
use Rattle.cilk_tree.specs.Word.{event}
use Rattle.cilk_shared.specs.declared.reducers.FrameReducers.{FrameReducers}
use Rattle.cilk_shared.specs.declared.reducers.Reducers.{Reducers}
use Rattle.cilk_shared.specs.Reducers.{own, kind_in, ends_from, retired, entered, frame_behind, frame_in, of_event, events_from, events_over}
use Rattle.cilk_determinacy.specs.Runs.{Name, Instance, Output, Reducer, Reads, Writes, Syncs, Ends, Passes, Begins, Resumes, Creates, Updates, Sets, Values, Prints, Run, stop, act, child}
use Rattle.cilk_determinacy.specs.Runs as runs
use Rattle.cilk_determinacy.specs.Traces.{trace, Due, begin_due, resume_due, neither_due, IsFramed}
use Rattle.cilk_determinacy.specs.FrameEnvMachine.{retired_from, retired_by}
use Rattle.cilk_determinacy.specs.Reducers.{kind_of}
use Rattle.cilk_determinacy.specs.FrameEnvs.{FrameEnv, first_env, child_env, own_named, before_own}
use Rattle.cilk_determinacy.specs.Nested.{named, named_from}
use Rattle.cilk_determinacy.specs.Numbers.{frame_number, instance_number, start_event, numbered_event, numbered_events, all_reducers, EventIsHere, AreHere, AreNumbered}
use Rattle.cilk_determinacy.specs.ReducerEvents as reducer_events
use Rattle.cilk_determinacy.specs.ReducerEvents.{OfKind, only, view_over, of_instance, retired_all, finals_over}
use Rattle.cilk_determinacy.proofs.Determinate.{serial_numbered}
use Rattle.cilk_determinacy.proofs.Numbered.{events_numbered}
use Rattle.cilk_determinacy.proofs.Numbers.{frame_is}
use Rattle.cilk_determinacy.proofs.ReducerEvents.{finals_viewed}
use Rattle.cilk_threads.specs.Tables.{reducers_of, AreReducersOf, HaveTheirKinds}
use Rattle.cilk_frames.specs.Leaving.{finals_of}
use Rattle.cilk_threads.specs.Finals.{WholeViewsAreLast}
use Rattle.cilk_threads.proofs.Opened.{IsFrameOf, AllFrames, FramesOpen, frames_open}
use Rattle.cilk_threads.proofs.Places.{nth_left, nth_right}
use Rattle.cilk_threads.proofs.Tabled.{no_output, kinds_told}

-- ---- by one pass
abbrev pub list_from : Reducers → ℕ → List numbers.Event → List ReducerEvent
list_from r g [] = []
list_from r g (e ∷ es) = of_event r (entered e g) (Some e) ++ list_from r (entered e g) es

abbrev pub last_from : ℕ → List numbers.Event → ℕ
last_from g [] = g
last_from g (e ∷ es) = last_from (entered e g) es

list_both : (r : Reducers) (g : ℕ) (es ds : List numbers.Event) → list_from r g (es ++ ds) ≡ list_from r g es ++ list_from r (last_from g es) ds
list_both r g [] ds = refl
list_both r g (e ∷ es) ds =
    ap (λ l. of_event r (entered e g) (Some e) ++ l) (list_both r (entered e g) es ds)
    ∙ sym (append_assoc (of_event r (entered e g) (Some e)) (list_from r (entered e g) es) (list_from r (last_from (entered e g) es) ds))

last_behind : (es : List numbers.Event) (n g : ℕ) → n ≤ length es → frame_behind es n g ≡ last_from g (take n es)
last_behind es zero g le = refl
last_behind [] (suc n) g le = refl
last_behind (e ∷ es) (suc n) g le = last_behind es n (entered e g) (omega (arith, le))

entered_last : (g : ℕ) (es : List numbers.Event) (e : numbers.Event) → last_from g (es ++ e ∷ []) ≡ entered e (last_from g es)
entered_last g [] e = refl
entered_last g (d ∷ es) e = entered_last (entered d g) es e

-- ---- of an event order's positions
module _ (s : EventOrder) (r : Reducers) where
  pub over_from : (n : ℕ) → n ≤ length s.events → events_from s r 1 n ≡ list_from r 0 (take n s.events)
  unfolding events_from
  over_from zero le = refl
  over_from (suc n) le =
      let less : n < length s.events = omega (arith, le) in
      let e = get_or s.events n events.Sync in
      let z : 1 + n - 1 ≡ n = omega arith in
      let there : event s (1 + n) ≡ Some e = ap (slice_get s.events) z ∙ slice_get-get_or s.events n events.Sync less in
      let one : n + 1 ≡ suc n = omega arith in
      let next : take (suc n) s.events ≡ take n s.events ++ e ∷ [] = ap (λ (k : ℕ). take k s.events) (sym one) ∙ take_more s.events n events.Sync less in
      let y : 1 + n ≡ suc n = omega arith in
      let frame : frame_in s.events (1 + n) ≡ entered e (last_from 0 (take n s.events)) =
      ap (λ (k : ℕ). frame_behind s.events k 0) y ∙ last_behind s.events (suc n) 0 le ∙ ap (last_from 0) next ∙ entered_last 0 (take n s.events) e in
      ap₂ (λ l m. l ++ m) (over_from n (omega (arith, le)))
      (ap₂ (λ (f : ℕ) (o : Option numbers.Event). of_event r f o) frame there ∙ sym (append-nil (of_event r (entered e (last_from 0 (take n s.events))) (Some e))))
      ∙ sym (list_both r 0 (take n s.events) (e ∷ []))
      ∙ ap (list_from r 0) (sym next)

  pub over_list : events_over s r 1 (length s.events + 1) ≡ list_from r 0 s.events
  over_list =
      let z : length s.events + 1 - 1 ≡ length s.events = omega arith in
      ap (events_from s r 1) z ∙ over_from (length s.events) (omega arith) ∙ ap (list_from r 0) (take-length s.events)

-- ---- two lists that give the same views
only_both : (k : MonoidKind) (ts us : List OfKind) → only k (ts ++ us) ≡ only k ts ++ only k us
only_both k [] us = refl
only_both k (t ∷ ts) us = by (same_kind t.kind k) (only_both k ts us)
  where
    by : (b : Bool) → only k (ts ++ us) ≡ only k ts ++ only k us → cond b (t.event ∷ only k (ts ++ us)) (only k (ts ++ us)) ≡ cond b (t.event ∷ only k ts) (only k ts) ++ only k us
    by true e = ap (λ l. t.event ∷ l) e
    by false e = e

-- of each reducer of the table but the output
abbrev Alike : Reducers → List ReducerEvent → List OfKind → Type 0
Alike r es ts = (i : numbered.Instance) (v : ViewValue) → same_instance output i ≡ false
    → view_after (structure_of (kind_in r i)) i es v ≡ view_after (structure_of (kind_in r i)) i (only (kind_in r i) ts) v

alike_both : (r : Reducers) (es es' : List ReducerEvent) (ts ts' : List OfKind) → Alike r es ts → Alike r es' ts' → Alike r (es ++ es') (ts ++ ts')
alike_both r es es' ts ts' h g i v other =
    let S = structure_of (kind_in r i) in
    view_after-append S i es es' v
    ∙ ap (view_after S i es') (h i v other)
    ∙ g i (view_after S i (only (kind_in r i) ts) v) other
    ∙ sym (view_after-append S i (only (kind_in r i) ts) (only (kind_in r i) ts') v)
    ∙ ap (λ l. view_after S i l v) (sym (only_both (kind_in r i) ts ts'))

-- an event of another reducer changes nothing
stays : (S : MonoidStructure ViewValue) (i : numbered.Instance) (e : ReducerEvent) (v : ViewValue) → same_instance (instance_of e) i ≡ false → after_event S i e v ≡ v
stays S i (Created j) v h = ap (λ b. cond b S.unit v) h
stays S i (Updated j x) v h = ap (λ b. cond b (S.combine v (S.single x)) v) h
stays S i (SetTo j x) v h = ap (λ b. cond b (S.single x) v) h
stays S i (Retired j) v h = ap (λ b. cond b S.unit v) h

alike_one : (r : Reducers) (e : ReducerEvent) (k : MonoidKind) → kind_in r (instance_of e) ≡ k → Alike r (e ∷ []) (record { kind = k; event = e } ∷ [])
alike_one r e k is i v other = by (cases_Bool (same_instance (instance_of e) i))
  where
    kept : (b : Bool) → after_event (structure_of (kind_in r i)) i e v ≡ v → after_event (structure_of (kind_in r i)) i e v ≡ view_after (structure_of (kind_in r i)) i (cond b (e ∷ []) []) v
    kept true h = refl
    kept false h = h

    by : (same_instance (instance_of e) i ≡ true) ⊎ (same_instance (instance_of e) i ≡ false)
        → after_event (structure_of (kind_in r i)) i e v ≡ view_after (structure_of (kind_in r i)) i (cond (same_kind k (kind_in r i)) (e ∷ []) []) v
    by (inl same) =
        let here : instance_of e ≡ i = same_from_true (instance_of e) i same in
        let kind : kind_in r i ≡ k = ap (kind_in r) (sym here) ∙ is in
        let one : same_kind k (kind_in r i) ≡ true = ap (same_kind k) kind ∙ kind_itself k in
        ap (λ b. view_after (structure_of (kind_in r i)) i (cond b (e ∷ []) []) v) (sym one)
    by (inr apart) = kept (same_kind k (kind_in r i)) (stays (structure_of (kind_in r i)) i e v apart)

alike_print : (r : Reducers) (x : ℤ) → Alike r (Updated output x ∷ []) []
alike_print r x i v other = stays (structure_of (kind_in r i)) i (Updated output x) v other

alike_none : (r : Reducers) → Alike r [] []
alike_none r i v other = refl

-- ---- each frame retires its own reducers
abbrev pub RetiresOwn : Source → FrameEnv → Run FrameEnv → Type 0
RetiresOwn p w stop = Unit {0}
RetiresOwn p w (act (Ends v gone) t) = (gone ≡ retired_by p w) × RetiresOwn p w t
RetiresOwn p w (act e t) = RetiresOwn p w t
RetiresOwn p w (child k x u t) = RetiresOwn p x u × RetiresOwn p w t

pub retires_own : (p : Source) (w : FrameEnv) (j : ℕ) (r : serial.Transcript) → RetiresOwn p w (named_from p w j r)
retires_own p w j serial.stop = tt
retires_own p w j (serial.act asks.Begin v r) = retires_own p w j r
retires_own p w j (serial.act (asks.Read x) v r) = retires_own p w j r
retires_own p w j (serial.act (asks.Write x y) v r) = retires_own p w j r
retires_own p w j (serial.act (asks.Create c) v r) = retires_own p w j r
retires_own p w j (serial.act (asks.Update c y) v r) = retires_own p w j r
retires_own p w j (serial.act (asks.Set c y) v r) = retires_own p w j r
retires_own p w j (serial.act (asks.Value c) v r) = retires_own p w j r
retires_own p w j (serial.act (asks.Print y) v r) = retires_own p w j r
retires_own p w j (serial.act (asks.Invoke how callee) v r) = retires_own p w j r
retires_own p w j (serial.act asks.Resume v r) = retires_own p w j r
retires_own p w j (serial.act asks.Sync v r) = retires_own p w j r
retires_own p w j (serial.act (asks.Result y) v r) = retires_own p w j r
retires_own p w j (serial.act (asks.End y) v r) = (refl, retires_own p w j r)
retires_own p w j (serial.act (asks.Fault f) v r) = retires_own p w j r
retires_own p w j (serial.child how callee u r) = (retires_own p (child_env p w j callee) 1 u, retires_own p w (suc j) r)

module _ (p : Source) (run : serial.Transcript) (r : Reducers) (table : AreReducersOf p run r) (kinds : HaveTheirKinds p run r) where
  abbrev deeds : List (runs.Deed FrameEnv) → List OfKind
  deeds ds = reducer_events.reducer_events p run ds

  -- one after the other, from a place of the frame's own on
  ends_alike : (f first : ℕ) (own_one : ℕ → MonoidKind → Instance) → ((n : ℕ) (k : MonoidKind) → instance_number p run (own_one n k) ≡ record { frame = f; place = suc (first + n) }) → ((n : ℕ) (k : MonoidKind) → kind_of (own_one n k) ≡ k)
      → (n : ℕ) (ks : List MonoidKind) → ((m : ℕ) (k : MonoidKind) → slice_get ks m ≡ Some k → kind_in r (record { frame = f; place = suc (first + (n + m)) }) ≡ k)
      → Alike r (ends_from f (suc (first + n)) (length ks)) (retired_all p run (retired_from own_one n ks))
  ends_alike f first own_one number kind n [] each = alike_none r
  ends_alike f first own_one number kind n (k ∷ ks) each =
      let z : n + 0 ≡ n = omega arith in
      let s : suc (suc (first + n)) ≡ suc (first + suc n) = omega arith in
      let here : kind_in r (record { frame = f; place = suc (first + n) }) ≡ k = ap (λ (m : ℕ). kind_in r (record { frame = f; place = suc (first + m) })) (sym z) ∙ each 0 k refl in
      let one = alike_one r (Retired (record { frame = f; place = suc (first + n) })) k here in
      let same : OfKind = of_instance p run (own_one n k) Retired in
      let is : record { kind = k; event = Retired (record { frame = f; place = suc (first + n) }) } ≡ same = ap₂ (λ (k : MonoidKind) (i : numbered.Instance). record { kind = k; event = Retired i }) (sym (kind n k)) (sym (number n k)) in
      let rest = ends_alike f first own_one number kind (suc n) ks (λ m x at. let y : n + suc m ≡ suc n + m = omega arith in ap (λ (q : ℕ). kind_in r (record { frame = f; place = suc (first + q) })) (sym y) ∙ each (suc m) x at) in
      alike_both r (Retired (record { frame = f; place = suc (first + n) }) ∷ []) (ends_from f (suc (suc (first + n))) (length ks)) (same ∷ []) (retired_all p run (retired_from own_one (suc n) ks))
      (subst (λ (t : OfKind). Alike r (Retired (record { frame = f; place = suc (first + n) }) ∷ []) (t ∷ [])) is one)
      (subst (λ (q : ℕ). Alike r (ends_from f q (length ks)) (retired_all p run (retired_from own_one (suc n) ks))) (sym s) rest)

  -- a frame's end
  pub record IsOf (w : FrameEnv) : Type 0 where
    pub table_is : own r (frame_number p run w.name) ≡ reducers_of p w.callee

  pub of_frame : (w : FrameEnv) (u : Run FrameEnv) → IsFrameOf p run w u → IsOf w
  of_frame w u h = let b = h.here in record { table_is = ap (own r) (frame_is p run w.name b) ∙ table b.path b.block w.callee b.found h.runs }

  pub many_own : (w : FrameEnv) → length (all_reducers p w.callee) - before_own p w.callee ≡ length (own_reducers p w.callee)
  many_own w = by w.callee
    where
      front : (l m : List MonoidKind) → length (l ++ m) - length l ≡ length m
      front l m = let n = length-append l m in omega (arith, n)

      by : (c : Callee) → length (all_reducers p c) - before_own p c ≡ length (own_reducers p c)
      by callees.Root = let f = main_of p in front p.reducers f.reducers
      by (callees.Function c) = let f = function_at p c.function in let z : length f.reducers - 0 ≡ length f.reducers = omega arith in z
      by (callees.Loop l) = refl

  pub own_in_all : (w : FrameEnv) (m : ℕ) (k : MonoidKind) → slice_get (own_reducers p w.callee) m ≡ Some k → slice_get (all_reducers p w.callee) (before_own p w.callee + m) ≡ Some k
  own_in_all w m k at = by w.callee at
    where
      by : (c : Callee) → slice_get (own_reducers p c) m ≡ Some k → slice_get (all_reducers p c) (before_own p c + m) ≡ Some k
      by callees.Root at = let f = main_of p in nth_right p.reducers f.reducers m ∙ at
      by (callees.Function c) at = let f = function_at p c.function in let z : 0 + m ≡ m = omega arith in ap (slice_get f.reducers) z ∙ at
      by (callees.Loop l) at = let z : None ≡ Some k = at in absurd (cc z)

  kind_at : (w : FrameEnv) → IsOf w → (m : ℕ) (k : MonoidKind) → slice_get (all_reducers p w.callee) m ≡ Some k → kind_in r (record { frame = frame_number p run w.name; place = suc m }) ≡ k
  kind_at w h m k at =
      let z : suc m - 1 ≡ m = omega arith in
      ap (λ (t : Bool). cond t Append (let o = own r (frame_number p run w.name) in slice_index_or o.kinds (suc m - 1) Append)) (no_output (eqb 0 (frame_number p run w.name)) m)
      ∙ ap (λ (o : FrameReducers). slice_index_or o.kinds (suc m - 1) Append) h.table_is
      ∙ ap (λ (j : ℕ). slice_index_or (all_reducers p w.callee) j Append) z
      ∙ get_or_from_slice_get (all_reducers p w.callee) m k Append at

  end_alike : (w : FrameEnv) → IsOf w → (gone : List Instance) → gone ≡ retired_by p w → Alike r (retired (frame_number p run w.name) (own r (frame_number p run w.name))) (retired_all p run gone)
  end_alike w h gone is =
      let f = frame_number p run w.name in
      let b = before_own p w.callee in
      let z : b + 0 ≡ b = omega arith in
      let ends : retired f (own r f) ≡ ends_from f (suc (b + 0)) (length (own_reducers p w.callee)) =
      ap (retired f) h.table_is ∙ ap (ends_from f (suc b)) (many_own w) ∙ ap (λ (n : ℕ). ends_from f (suc n) (length (own_reducers p w.callee))) (sym z) in
      let whole = ends_alike f b (own_named p w.callee w.name) (λ n k. refl) (λ n k. refl) 0 (own_reducers p w.callee)
      (λ m k at. let y : b + (0 + m) ≡ b + m = omega arith in ap (λ (q : ℕ). kind_in r (record { frame = f; place = suc q })) y ∙ kind_at w h (b + m) k (own_in_all w m k at)) in
      subst (λ (l : List Instance). Alike r (retired f (own r f)) (retired_all p run l)) (sym is)
      (subst (λ (l : List ReducerEvent). Alike r l (retired_all p run (retired_by p w))) (sym ends) whole)

  -- the state where an event is due
  abbrev Since : Due → ℕ → FrameEnv → Type 0
  Since begin_due g w = Unit {0}
  Since resume_due g w = Unit {0}
  Since neither_due g w = g ≡ frame_number p run w.name

  abbrev RunAlike : ℕ → FrameEnv → Run FrameEnv → Type 0
  RunAlike g w t = Alike r (list_from r g (numbered_events p run w.name t)) (deeds (trace t))

  more_alike : (g : ℕ) (w : FrameEnv) (e : runs.Event) (t : Run FrameEnv) → (let n = numbered_event p run w.name e in Alike r (of_event r (entered n g) (Some n)) (reducer_events.of_event p run e) × RunAlike (entered n g) w t) → RunAlike g w (act e t)
  more_alike g w e t h =
      let n = numbered_event p run w.name e in
      alike_both r (of_event r (entered n g) (Some n)) (list_from r (entered n g) (numbered_events p run w.name t)) (reducer_events.of_event p run e) (deeds (trace t)) h.0 h.1

  deeds_both : (ds es : List (runs.Deed FrameEnv)) → deeds (ds ++ es) ≡ deeds ds ++ deeds es
  deeds_both [] es = refl
  deeds_both (runs.Does e ∷ ds) es = ap (λ l. reducer_events.of_event p run e ++ l) (deeds_both ds es) ∙ sym (append_assoc (reducer_events.of_event p run e) (deeds ds) (deeds es))
  deeds_both (runs.Invokes k w ∷ ds) es = deeds_both ds es

  child_alike : (k : Invocation) (g : ℕ) (w c : FrameEnv) (u t : Run FrameEnv) → Alike r (list_from r g (numbered_events p run c.name u ++ numbered_events p run w.name t)) (deeds (trace u ++ trace t)) → RunAlike g w (child k c u t)
  child_alike Call g w c u t h = h
  child_alike Spawn g w c u t h = h

  run_alike : (due : Due) (g : ℕ) (w : FrameEnv) (t : Run FrameEnv) → IsFramed due t → Since due g w → IsOf w → AreHere p run t → AllFrames p run t → RetiresOwn p w t → RunAlike g w t
  run_alike begin_due g w (act (Passes Begins) t) f h o n a x = more_alike g w (Passes Begins) t (alike_none r, run_alike neither_due (frame_number p run w.name) w t f refl o n.1 a x)
  run_alike resume_due g w (act (Passes Resumes) t) f h o n a x = more_alike g w (Passes Resumes) t (alike_none r, run_alike neither_due (frame_number p run w.name) w t f refl o n.1 a x)
  run_alike neither_due g w (act (Reads c v) t) f h o n a x = more_alike g w (Reads c v) t (alike_none r, run_alike neither_due g w t f h o n.1 a x)
  run_alike neither_due g w (act (Writes c v) t) f h o n a x = more_alike g w (Writes c v) t (alike_none r, run_alike neither_due g w t f h o n.1 a x)
  run_alike neither_due g w (act Syncs t) f h o n a x = more_alike g w Syncs t (alike_none r, run_alike neither_due g w t f h o n.1 a x)
  run_alike neither_due g w (act (Ends v gone) t) f h o n a x =
      more_alike g w (Ends v gone) t (
        subst (λ (m : ℕ). Alike r (retired m (own r m)) (retired_all p run gone)) (sym h) (end_alike w o gone x.0),
        subst (λ (t : Run FrameEnv). RunAlike g w t) (sym f) (alike_none r),
      )
  run_alike neither_due g w (act (Passes (Creates i)) t) f h o n a x = more_alike g w (Passes (Creates i)) t (alike_one r (Created (instance_number p run i)) (kind_of i) (kinds i n.0), run_alike neither_due g w t f h o n.1 a x)
  run_alike neither_due g w (act (Passes (Updates i v)) t) f h o n a x = more_alike g w (Passes (Updates i v)) t (alike_one r (Updated (instance_number p run i) v) (kind_of i) (kinds i n.0), run_alike neither_due g w t f h o n.1 a x)
  run_alike neither_due g w (act (Passes (Sets i v)) t) f h o n a x = more_alike g w (Passes (Sets i v)) t (alike_one r (SetTo (instance_number p run i) v) (kind_of i) (kinds i n.0), run_alike neither_due g w t f h o n.1 a x)
  run_alike neither_due g w (act (Passes (Values i v)) t) f h o n a x = more_alike g w (Passes (Values i v)) t (alike_none r, run_alike neither_due g w t f h o n.1 a x)
  run_alike neither_due g w (act (Passes (Prints v)) t) f h o n a x = more_alike g w (Passes (Prints v)) t (alike_print r v, run_alike neither_due g w t f h o n.1 a x)
  run_alike neither_due g w (child k c u t) f h o n a x =
      let ones = numbered_events p run c.name u in
      let others = numbered_events p run w.name t in
      let one = run_alike begin_due g c u f.0 tt (of_frame c u a.0) n.1 a.1 x.0 in
      let rest = run_alike resume_due (last_from g ones) w t f.1 tt o n.2 a.2 x.1 in
      child_alike k g w c u t (subst (λ (l : List ReducerEvent). Alike r l (deeds (trace u ++ trace t))) (sym (list_both r g ones others))
      (subst (Alike r (list_from r g ones ++ list_from r (last_from g ones) others)) (sym (deeds_both (trace u) (trace t))) (alike_both r (list_from r g ones) (list_from r (last_from g ones) others) (deeds (trace u)) (deeds (trace t)) one rest)))
  run_alike due g w t f h o n a x = absurd f

-- ---- what is printed
-- the event is no event of the output, or prints
abbrev pub LeavesOutput : numbers.Event → Type 0
LeavesOutput (events.Create i) = same_instance i output ≡ false
LeavesOutput (events.Update i v) = same_instance i output ≡ false
LeavesOutput (events.Set i v) = same_instance i output ≡ false
LeavesOutput e = Unit {0}

abbrev pub AllLeave : List numbers.Event → Type 0
AllLeave [] = Unit {0}
AllLeave (e ∷ es) = LeavesOutput e × AllLeave es

all_both : (es ds : List numbers.Event) → AllLeave es → AllLeave ds → AllLeave (es ++ ds)
all_both [] ds h g = g
all_both (e ∷ es) ds h g = (h.0, all_both es ds h.1 g)

-- a reducer of a frame is not the output
no_place : (b : Bool) (n : ℕ) → (b && eqb (suc n) 0) ≡ false
no_place true n = ne_eqb (suc n) 0 (λ e. omega (arith, e))
no_place false n = refl

placed_apart : (f n : ℕ) → same_instance (record { frame = f; place = suc n }) output ≡ false
placed_apart f n = no_place (eqb f 0) n

abbrev pub S : MonoidStructure ViewValue
S = structure_of Append

ends_still : (f p n : ℕ) (v : ViewValue) → view_after S output (ends_from f (suc p) n) v ≡ v
ends_still f p zero v = refl
ends_still f p (suc n) v = ap (view_after S output (ends_from f (suc (suc p)) n)) (stays S output (Retired (record { frame = f; place = suc p })) v (placed_apart f p)) ∙ ends_still f (suc p) n v

event_views : (r : Reducers) (f : ℕ) (e : numbers.Event) → LeavesOutput e → (zs : List ℤ) → view_after S output (of_event r f (Some e)) (Elements zs) ≡ Elements (zs ++ printed_by e)
event_views r f (events.Create i) h zs = stays S output (Created i) (Elements zs) h ∙ ap Elements (sym (append-nil zs))
event_views r f (events.Update i v) h zs = stays S output (Updated i v) (Elements zs) h ∙ ap Elements (sym (append-nil zs))
event_views r f (events.Set i v) h zs = stays S output (SetTo i v) (Elements zs) h ∙ ap Elements (sym (append-nil zs))
event_views r f (events.Print v) h zs = refl
event_views r f events.End h zs = let o = own r f in ends_still f o.outlive (length o.kinds - o.outlive) (Elements zs) ∙ ap Elements (sym (append-nil zs))
event_views r f (events.Begin n) h zs = ap Elements (sym (append-nil zs))
event_views r f (events.Spawn n) h zs = ap Elements (sym (append-nil zs))
event_views r f (events.Call n) h zs = ap Elements (sym (append-nil zs))
event_views r f (events.Resume n) h zs = ap Elements (sym (append-nil zs))
event_views r f events.Sync h zs = ap Elements (sym (append-nil zs))
event_views r f (events.Read c v) h zs = ap Elements (sym (append-nil zs))
event_views r f (events.Write c v) h zs = ap Elements (sym (append-nil zs))
event_views r f (events.Value i v) h zs = ap Elements (sym (append-nil zs))

pub prints_viewed : (r : Reducers) (g : ℕ) (es : List numbers.Event) → AllLeave es → (zs : List ℤ) → view_after S output (list_from r g es) (Elements zs) ≡ Elements (zs ++ prints es)
prints_viewed r g [] h zs = ap Elements (sym (append-nil zs))
prints_viewed r g (e ∷ es) h zs =
    view_after-append S output (of_event r (entered e g) (Some e)) (list_from r (entered e g) es) (Elements zs)
    ∙ ap (view_after S output (list_from r (entered e g) es)) (event_views r (entered e g) e h.0 zs)
    ∙ prints_viewed r (entered e g) es h.1 (zs ++ printed_by e)
    ∙ ap Elements (append_assoc zs (printed_by e) (prints es))

module _ (p : Source) (run : serial.Transcript) where
  event_leaves : (name : Name) (e : runs.Event) → EventIsHere p run e → LeavesOutput (numbered_event p run name e)
  event_leaves name (Passes (Creates (Reducer m n k))) h = placed_apart (frame_number p run m) n
  event_leaves name (Passes (Updates (Reducer m n k) v)) h = placed_apart (frame_number p run m) n
  event_leaves name (Passes (Sets (Reducer m n k) v)) h = placed_apart (frame_number p run m) n
  event_leaves name (Passes (Creates Output)) h = absurd h
  event_leaves name (Passes (Updates Output v)) h = absurd h
  event_leaves name (Passes (Sets Output v)) h = absurd h
  event_leaves name e h = tt

  start_leaves : (k : Invocation) (n : ℕ) → LeavesOutput (start_event k n)
  start_leaves Call n = tt
  start_leaves Spawn n = tt

  pub all_leave : (name : Name) (t : Run FrameEnv) → AreHere p run t → AllLeave (numbered_events p run name t)
  all_leave name stop h = tt
  all_leave name (act e t) h = (event_leaves name e h.0, all_leave name t h.1)
  all_leave name (child k w u t) h = (start_leaves k (frame_number p run w.name), all_both (numbered_events p run w.name u) (numbered_events p run name t) (all_leave w.name u h.1) (all_leave name t h.2))

-- ---- the law
-- the reducers of main
abbrev main_own : Source → List MonoidKind
main_own p = let f = main_of p in f.reducers

pub whole_last : WholeViewsAreLast
whole_last p inputs run es outcome s r h well ran same table shows = record {
  reducers = finals_viewed p inputs run es outcome well ran ∙ lasts 0 p.reducers (λ m k at. let z : 0 + m ≡ m = omega arith in ap (slice_get (p.reducers ++ (main_own p))) z ∙ nth_left p.reducers (main_own p) m (slice_get_within p.reducers m k at) ∙ at);
  printed = shows output ∙ ap (view_of (structure_of Append) output) here ∙ prints_viewed r 0 es leave [] ∙ ap Elements (sym left_printed);
}
  where
    here : events_over s r 1 (length es + 1) ≡ list_from r 0 es
    here = ap (λ (l : List numbers.Event). events_over s r 1 (length l + 1)) (sym same) ∙ over_list s r ∙ ap (list_from r 0) same

    list : AreNumbered p run es
    list = events_numbered p inputs run es (Leaves outcome) well ran

    leave : AllLeave es
    leave = subst AllLeave (sym list.events) (all_leave p run [] (named p run) list.here)

    left_printed : outcome.output ≡ prints es
    left_printed = let left = runs_leave p well inputs run es outcome ran in left.output

    kinds : HaveTheirKinds p run r
    kinds = kinds_told p run r table

    frames : FramesOpen p run
    frames = frames_open p inputs run es outcome well ran

    first : IsOf p run r table kinds (first_env p)
    first = of_frame p run r table kinds (first_env p) (named p run) frames.first

    alike : Alike r (list_from r 0 es) (reducer_events.reducer_events p run (trace (named p run)))
    alike =
        let n = serial_numbered p inputs run es outcome well ran in
        subst (λ (l : List numbers.Event). Alike r (list_from r 0 l) (reducer_events.reducer_events p run (trace (named p run)))) (sym list.events)
        (run_alike p run r table kinds begin_due 0 (first_env p) (named p run) n.framed tt first list.here frames.others (retires_own p (first_env p) 1 run))

    one : (n : ℕ) (k : MonoidKind) → kind_in r (global_reducer n) ≡ k → view_over k (global_reducer n) (reducer_events.reducer_events p run (trace (named p run))) ≡ value_in h k (global_reducer n)
    one n k is =
        let i : numbered.Instance = global_reducer n in
        subst (λ (k : MonoidKind). view_over k i (reducer_events.reducer_events p run (trace (named p run))) ≡ value_in h k i) is
        (sym (shows i ∙ ap (view_of (structure_of (kind_in r i)) i) here ∙ alike i (let M = structure_of (kind_in r i) in M.unit) refl))

    lasts : (n : ℕ) (ks : List MonoidKind) → ((m : ℕ) (k : MonoidKind) → slice_get ks m ≡ Some k → slice_get (p.reducers ++ (main_own p)) (n + m) ≡ Some k) → finals_over (reducer_events.reducer_events p run (trace (named p run))) n ks ≡ finals_of h n ks
    lasts n [] each = refl
    lasts n (k ∷ ks) each =
        let z : n + 0 ≡ n = omega arith in
        let kind = kind_at p run r table kinds (first_env p) first n k (ap (slice_get (p.reducers ++ (main_own p))) (sym z) ∙ each 0 k refl) in
        ap₂ (λ (v : ViewValue) (l : List Final). final_of v ∷ l) (one n k kind)
        (lasts (suc n) ks (λ m x at. let y : suc n + m ≡ n + suc m = omega arith in ap (slice_get (p.reducers ++ (main_own p))) y ∙ each (suc m) x at))
