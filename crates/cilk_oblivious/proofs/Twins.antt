-- An oblivious run has a twin on each alike input: `twin`.
use Rattle.std.proofs.Common.{◌≡◌, ℕ, suc, ◌+◌, ℤ, pos, Bool, true, false, nat_eq, List, [], ◌∷◌, ◌++◌, map, Option, Some, None, refl, sym, ap, ◌∙◌, subst, if◌then◌else◌, ◌||◌, ◌&&◌}
use Rattle.cilk_types.specs.declared.event.Event.{Event}
use Rattle.cilk_types.specs.declared.event.Event.TheVariants as events
use Rattle.cilk_types.specs.declared.event.Instance.{Instance}
use Rattle.cilk_types.specs.declared.invocation.Invocation.{Invocation}
use Rattle.cilk_types.specs.declared.limits.TheConstants.{MAX_EVENTS, MAX_TICKS}
use Rattle.cilk_monoid.specs.declared.kind.MonoidKind.{MonoidKind}
use Rattle.cilk_monoid.specs.Kinds.{structure_of, same_kind}
use Rattle.cilk_monoid.specs.Ranges.{same_instance}
use Rattle.cilk_monoid.specs.Values.{ViewValue}
use Rattle.cilk_program.specs.declared.ask.Ask.{Ask}
use Rattle.cilk_program.specs.declared.ask.Ask.TheVariants as asks
use Rattle.cilk_program.specs.declared.ask.Callee.{Callee}
use Rattle.cilk_program.specs.declared.ask.Callee.TheVariants as callees
use Rattle.cilk_program.specs.Outcomes.{Conclusion}
use Rattle.cilk_program.specs.Syntax.{Source}
use Rattle.cilk_program.specs.Store.{Store, put, clear, clear_all, set, update}
use Rattle.cilk_program.specs.Scopes.{Scope}
use Rattle.cilk_program.specs.SerialRun.{Transcript, act, child, stop, Memory, Frame, Ending, Finished, Stopped, Serial, Made, Ended, Went, Broke, Refused, IsInner, IsSerialRun, answer_to, before_root, begun, cell_at, conclusion_of, counted, crowded, event_of, first_place, invocation, next_frame, own_reducers, put_result, reducer_at, refused, result_written, stored}
use Rattle.cilk_program.proofs.Uniqueness.{serial_run_is_one}
use Rattle.cilk_tree.specs.Kinds.{kind_of}
use Rattle.cilk_oblivious.specs.Pairs.{IsAlike, AreAlike, Empty, And, InputsAreAlike}
use Rattle.cilk_oblivious.specs.Open.{Labels, Covers, Oblivious, MadeSo, EndedSo, WentSo, BrokeSo, RefusedSo, AreSentAlike, answer_mark, ask_with, callee_with, first_mark, first_word, mark_cell, mark_result, mark_view, marked_by, words_of}
use Rattle.cilk_oblivious.specs.Twins.{ViewsAreAlike, StoresAreAlike, frame_with, memory_with, ending_with, TranscriptsAreAlike, NothingAlike, ActsAlike, ChildrenAlike, Twin, ConcludesAlike, ObliviousRunsHaveTwins}

-- ---- words

first_alike : {sent : List Bool} {v : ℤ} {ws : List ℤ} → AreAlike sent (v ∷ []) ws → IsAlike (first_mark sent) v (first_word ws)
first_alike (And i r) = i

snoc : {ms : List Bool} {xs ys : List ℤ} (m : Bool) (x y : ℤ) → AreAlike ms xs ys → IsAlike m x y → AreAlike (ms ++ m ∷ []) (xs ++ x ∷ []) (ys ++ y ∷ [])
snoc m x y Empty i = And i Empty
snoc m x y (And j r) i = And j (snoc m x y r i)

-- ---- requests with other words

inner_with : (k : Ask) (ws : List ℤ) → IsInner k → IsInner (ask_with k ws)
inner_with asks.Begin ws h = tt
inner_with (asks.Read x) ws h = tt
inner_with (asks.Write x v) ws h = tt
inner_with (asks.Create r) ws h = tt
inner_with (asks.Update r v) ws h = tt
inner_with (asks.Set r v) ws h = tt
inner_with (asks.Value r) ws h = tt
inner_with (asks.Print v) ws h = tt
inner_with (asks.Invoke how c) ws h = absurd h
inner_with asks.Resume ws h = tt
inner_with asks.Sync ws h = tt
inner_with (asks.Result v) ws h = tt
inner_with (asks.End v) ws h = absurd h
inner_with (asks.Fault f) ws h = absurd h

crowded_with : (p : Source) (c : Callee) (ws : List ℤ) (m : Memory) (s : Store Instance) → crowded p (callee_with c ws) (memory_with m s) ≡ crowded p c m
crowded_with p callees.Root ws m s = refl
crowded_with p (callees.Function c) ws m s = refl
crowded_with p (callees.Loop l) ws m s = refl

refused_with : (p : Source) (k : Ask) (ws : List ℤ) (m : Memory) (s : Store Instance) → refused p (memory_with m s) (ask_with k ws) ≡ refused p m k
refused_with p asks.Begin ws m s = refl
refused_with p (asks.Read x) ws m s = refl
refused_with p (asks.Write x v) ws m s = refl
refused_with p (asks.Create r) ws m s = refl
refused_with p (asks.Update r v) ws m s = refl
refused_with p (asks.Set r v) ws m s = refl
refused_with p (asks.Value r) ws m s = refl
refused_with p (asks.Print v) ws m s = refl
refused_with p (asks.Invoke how c) ws m s = crowded_with p c ws m s
refused_with p asks.Resume ws m s = refl
refused_with p asks.Sync ws m s = refl
refused_with p (asks.Result v) ws m s = refl
refused_with p (asks.End v) ws m s = refl
refused_with p (asks.Fault f) ws m s = refl

-- a child begins in the same way
child_with : (p : Source) (c : Callee) (ws : List ℤ) (scope : Scope ℕ Instance) (m : Memory) (s : Store Instance) → next_frame p scope (memory_with m s) (callee_with c ws) ≡ frame_with (next_frame p scope m c) ws
child_with p callees.Root ws scope m s = refl
child_with p (callees.Function c) ws scope m s = refl
child_with p (callees.Loop l) ws scope m s = refl

begun_with : (p : Source) (c : Callee) (ws : List ℤ) (m : Memory) (s : Store Instance) → begun p (callee_with c ws) (counted (memory_with m s)) ≡ memory_with (begun p c (counted m)) s
begun_with p callees.Root ws m s = refl
begun_with p (callees.Function c) ws m s = refl
begun_with p (callees.Loop l) ws m s = refl

kind_invoked : (how : Invocation) (n : ℕ) → kind_of (invocation how n) ≡ kind_of (invocation how n)
kind_invoked how n = refl

kind_result : (o : Option ℕ) (v w : ℤ) → kind_of (result_written o w) ≡ kind_of (result_written o v)
kind_result None v w = refl
kind_result (Some c) v w = refl

kind_with : (fr : Frame) (given : List ℤ) (k : Ask) (ws : List ℤ) (m : Memory) (s : Store Instance) → kind_of (event_of (frame_with fr given) (memory_with m s) (ask_with k ws)) ≡ kind_of (event_of fr m k)
kind_with fr given asks.Begin ws m s = refl
kind_with fr given (asks.Read x) ws m s = refl
kind_with fr given (asks.Write x v) ws m s = refl
kind_with fr given (asks.Create r) ws m s = refl
kind_with fr given (asks.Update r v) ws m s = refl
kind_with fr given (asks.Set r v) ws m s = refl
kind_with fr given (asks.Value r) ws m s = refl
kind_with fr given (asks.Print v) ws m s = refl
kind_with fr given (asks.Invoke how c) ws m s = refl
kind_with fr given asks.Resume ws m s = refl
kind_with fr given asks.Sync ws m s = refl
kind_with fr given (asks.Result v) ws m s = kind_result fr.result v (first_word ws)
kind_with fr given (asks.End v) ws m s = refl
kind_with fr given (asks.Fault f) ws m s = refl

-- ---- stores

number_alike : (m : Bool) (k : MonoidKind) (v w : ViewValue) → ViewsAreAlike m v w → IsAlike m ((structure_of k).number v) ((structure_of k).number w)
number_alike true k v w h = tt
number_alike false k v w h = ap (structure_of k).number h

view_same : (m : Bool) (v : ViewValue) → ViewsAreAlike m v v
view_same true v = tt
view_same false v = refl

answer_with : (fr : Frame) (given : List ℤ) (l : Labels) (k : Ask) (ws : List ℤ) (m : Memory) (s : Store Instance) → StoresAreAlike l m.store s
    → IsAlike (answer_mark fr k l) (answer_to fr m k) (answer_to (frame_with fr given) (memory_with m s) (ask_with k ws))
answer_with fr given l asks.Begin ws m s h = refl
answer_with fr given l (asks.Read x) ws m s h = h.cells (cell_at fr x)
answer_with fr given l (asks.Write x v) ws m s h = refl
answer_with fr given l (asks.Create r) ws m s h = refl
answer_with fr given l (asks.Update r v) ws m s h = refl
answer_with fr given l (asks.Set r v) ws m s h = refl
answer_with fr given l (asks.Value r) ws m s h = number_alike (l.views r.kind (reducer_at fr r)) r.kind (m.store.views r.kind (reducer_at fr r)) (s.views r.kind (reducer_at fr r)) (h.views r.kind (reducer_at fr r))
answer_with fr given l (asks.Print v) ws m s h = refl
answer_with fr given l (asks.Invoke how c) ws m s h = refl
answer_with fr given l asks.Resume ws m s h = refl
answer_with fr given l asks.Sync ws m s h = refl
answer_with fr given l (asks.Result v) ws m s h = refl
answer_with fr given l (asks.End v) ws m s h = refl
answer_with fr given l (asks.Fault f) ws m s h = refl

word_if : (t : Bool) (m n : Bool) (x x' y y' : ℤ) → IsAlike m x x' → IsAlike n y y' → IsAlike (if t then m else n) (if t then x else y) (if t then x' else y')
word_if true m n x x' y y' h i = h
word_if false m n x x' y y' h i = i

view_if : (t : Bool) (m n : Bool) (x x' y y' : ViewValue) → ViewsAreAlike m x x' → ViewsAreAlike n y y' → ViewsAreAlike (if t then m else n) (if t then x else y) (if t then x' else y')
view_if true m n x x' y y' h i = h
view_if false m n x x' y y' h i = i

put_alike : (l : Labels) (c : ℕ) (m : Bool) (v w : ℤ) (s s' : Store Instance) → StoresAreAlike l s s' → IsAlike m v w → StoresAreAlike (mark_cell c m l) (put c v s) (put c w s')
put_alike l c m v w s s' h i = record { cells = λ n. word_if (nat_eq c n) m (l.cells n) v w (s.cells n) (s'.cells n) i (h.cells n); views = h.views }

result_alike : (l : Labels) (o : Option ℕ) (m : Bool) (v w : ℤ) (s s' : Store Instance) → StoresAreAlike l s s' → IsAlike m v w → StoresAreAlike (mark_result o m l) (put_result o v s) (put_result o w s')
result_alike l None m v w s s' h i = h
result_alike l (Some c) m v w s s' h i = put_alike l c m v w s s' h i

clear_alike : (l : Labels) (k : MonoidKind) (i : Instance) (m : Bool) (s s' : Store Instance) → StoresAreAlike l s s' → StoresAreAlike (mark_view k i m l) (clear same_instance k i s) (clear same_instance k i s')
clear_alike l k i m s s' h = record {
  cells = h.cells;
  views = λ k' j. view_if (same_kind k k' && same_instance i j) m (l.views k' j) ((structure_of k).unit) ((structure_of k).unit) (s.views k' j) (s'.views k' j) (view_same m ((structure_of k).unit)) (h.views k' j);
}

set_alike : (l : Labels) (k : MonoidKind) (i : Instance) (m : Bool) (v w : ℤ) (s s' : Store Instance) → StoresAreAlike l s s' → IsAlike m v w → StoresAreAlike (mark_view k i m l) (set same_instance k i v s) (set same_instance k i w s')
set_alike l k i m v w s s' h e = record {
  cells = h.cells;
  views = λ k' j. view_if (same_kind k k' && same_instance i j) m (l.views k' j) ((structure_of k).single v) ((structure_of k).single w) (s.views k' j) (s'.views k' j) (single m e) (h.views k' j);
}
  where
    single : (m : Bool) → IsAlike m v w → ViewsAreAlike m ((structure_of k).single v) ((structure_of k).single w)
    single true e = tt
    single false e = ap (structure_of k).single e

combined : (n m : Bool) (k : MonoidKind) (x x' : ViewValue) (v w : ℤ) → ViewsAreAlike n x x' → IsAlike m v w → ViewsAreAlike (n || m) ((structure_of k).combine x ((structure_of k).single v)) ((structure_of k).combine x' ((structure_of k).single w))
combined true m k x x' v w h e = tt
combined false true k x x' v w h e = tt
combined false false k x x' v w h e = subst (λ z. (structure_of k).combine x ((structure_of k).single v) ≡ (structure_of k).combine x' ((structure_of k).single z)) e (ap (λ y. (structure_of k).combine y ((structure_of k).single v)) h)

update_alike : (l : Labels) (k : MonoidKind) (i : Instance) (m : Bool) (v w : ℤ) (s s' : Store Instance) → StoresAreAlike l s s' → IsAlike m v w → StoresAreAlike (mark_view k i (l.views k i || m) l) (update same_instance k i v s) (update same_instance k i w s')
update_alike l k i m v w s s' h e = record {
  cells = h.cells;
  views = λ k' j. view_if (same_kind k k' && same_instance i j) (l.views k i || m) (l.views k' j) ((structure_of k).combine (s.views k i) ((structure_of k).single v)) ((structure_of k).combine (s'.views k i) ((structure_of k).single w)) (s.views k' j) (s'.views k' j) (combined (l.views k i) m k (s.views k i) (s'.views k i) v w (h.views k i) e) (h.views k' j);
}

-- a view that is cleared keeps its mark
cleared : (l : Labels) (k : MonoidKind) (i : Instance) (s s' : Store Instance) → StoresAreAlike l s s' → StoresAreAlike l (clear same_instance k i s) (clear same_instance k i s')
cleared l k i s s' h = record {
  cells = h.cells;
  views = λ k' j. keeps (same_kind k k' && same_instance i j) k' j;
}
  where
    keeps : (t : Bool) (k' : MonoidKind) (j : Instance) → ViewsAreAlike (l.views k' j) (if t then (structure_of k).unit else s.views k' j) (if t then (structure_of k).unit else s'.views k' j)
    keeps true k' j = view_same (l.views k' j) ((structure_of k).unit)
    keeps false k' j = h.views k' j

all_cleared : (l : Labels) (own : ℕ → Instance) (n : ℕ) (ks : List MonoidKind) (s s' : Store Instance) → StoresAreAlike l s s' → StoresAreAlike l (clear_all same_instance own n ks s) (clear_all same_instance own n ks s')
all_cleared l own n [] s s' h = h
all_cleared l own n (k ∷ ks) s s' h = all_cleared l own (suc n) ks (clear same_instance k (own n) s) (clear same_instance k (own n) s') (cleared l k (own n) s s' h)

-- the end of a frame retires its own reducers
retired : (p : Source) (l : Labels) (number : ℕ) (c : Callee) (given : List ℤ) (s s' : Store Instance) → StoresAreAlike l s s'
    → StoresAreAlike l (clear_all same_instance (λ n. record { frame = number; place = first_place p c + n }) 0 (own_reducers p c) s)
    (clear_all same_instance (λ n. record { frame = number; place = first_place p (callee_with c given) + n }) 0 (own_reducers p (callee_with c given)) s')
retired p l number callees.Root given s s' h = all_cleared l (λ n. record { frame = number; place = first_place p callees.Root + n }) 0 (own_reducers p callees.Root) s s' h
retired p l number (callees.Function c) given s s' h = all_cleared l (λ n. record { frame = number; place = first_place p (callees.Function c) + n }) 0 (own_reducers p (callees.Function c)) s s' h
retired p l number (callees.Loop part) given s s' h = h

stored_with : (p : Source) (fr : Frame) (given : List ℤ) (l : Labels) (k : Ask) (sent : List Bool) (ws : List ℤ) (m : Memory) (s : Store Instance) → AreSentAlike k sent ws → StoresAreAlike l m.store s
    → StoresAreAlike (marked_by fr k sent l) (stored p fr m k) (stored p (frame_with fr given) (memory_with m s) (ask_with k ws))
stored_with p fr given l asks.Begin sent ws m s a h = h
stored_with p fr given l (asks.Read x) sent ws m s a h = h
stored_with p fr given l (asks.Write x v) sent ws m s a h = put_alike l (cell_at fr x) (first_mark sent) v (first_word ws) m.store s h (first_alike a)
stored_with p fr given l (asks.Create r) sent ws m s a h = clear_alike l r.kind (reducer_at fr r) false m.store s h
stored_with p fr given l (asks.Update r v) sent ws m s a h = update_alike l r.kind (reducer_at fr r) (first_mark sent) v (first_word ws) m.store s h (first_alike a)
stored_with p fr given l (asks.Set r v) sent ws m s a h = set_alike l r.kind (reducer_at fr r) (first_mark sent) v (first_word ws) m.store s h (first_alike a)
stored_with p fr given l (asks.Value r) sent ws m s a h = h
stored_with p fr given l (asks.Print v) sent ws m s a h = record { cells = h.cells; views = h.views }
stored_with p fr given l (asks.Invoke how c) sent ws m s a h = h
stored_with p fr given l asks.Resume sent ws m s a h = h
stored_with p fr given l asks.Sync sent ws m s a h = h
stored_with p fr given l (asks.Result v) sent ws m s a h = result_alike l fr.result (first_mark sent) v (first_word ws) m.store s h (first_alike a)
stored_with p fr given l (asks.End v) sent ws m s a h = retired p l fr.number fr.callee given m.store s h
stored_with p fr given l (asks.Fault f) sent ws m s a h = h

-- more marks ask for less
weaker : (m m' : Bool) (x y : ℤ) → (m' ≡ false → m ≡ false) → IsAlike m x y → IsAlike m' x y
weaker m true x y c h = tt
weaker m false x y c h = subst (λ b. IsAlike b x y) (c refl) h

weaker_view : (m m' : Bool) (x y : ViewValue) → (m' ≡ false → m ≡ false) → ViewsAreAlike m x y → ViewsAreAlike m' x y
weaker_view m true x y c h = tt
weaker_view m false x y c h = subst (λ b. ViewsAreAlike b x y) (c refl) h

covered : (l l' : Labels) (s s' : Store Instance) → Covers l l' → StoresAreAlike l s s' → StoresAreAlike l' s s'
covered l l' s s' c h = record {
  cells = λ n. weaker (l.cells n) (l'.cells n) (s.cells n) (s'.cells n) (c.cells n) (h.cells n);
  views = λ k i. weaker_view (l.views k i) (l'.views k i) (s.views k i) (s'.views k i) (c.views k i) (h.views k i);
}

-- ---- kinds of events

cons_same : {A : Type 0} (x y : A) (xs ys : List A) → x ≡ y → xs ≡ ys → (x ∷ xs) ≡ (y ∷ ys)
cons_same x y xs ys e f = ap (λ z. z ∷ xs) e ∙ ap (λ zs. y ∷ zs) f

map_both : {A B : Type 0} (f : A → B) (xs ys : List A) → map f (xs ++ ys) ≡ map f xs ++ map f ys
map_both f [] ys = refl
map_both f (x ∷ xs) ys = ap (λ zs. f x ∷ zs) (map_both f xs ys)

both_kinds : (es es' fs fs' : List Event) → map kind_of es ≡ map kind_of es' → map kind_of fs ≡ map kind_of fs' → map kind_of (es ++ fs) ≡ map kind_of (es' ++ fs')
both_kinds es es' fs fs' h i = map_both kind_of es fs ∙ ap (λ zs. zs ++ map kind_of fs) h ∙ ap (λ zs. map kind_of es' ++ zs) i ∙ sym (map_both kind_of es' fs')

-- ---- runs

module _ (p : Source) (inputs : List ℤ) (hidden : ℕ → Bool) where
  -- the requests of an oblivious run
  abbrev transcript : {fr : Frame} {words : List Bool} {start : ℕ} {history : List ℤ} {marks : List Bool} {m : Memory} {l : Labels} {es : List Event} {end : Ending} {after : Labels}
      → Oblivious p inputs hidden fr words start history marks m l es end after → Transcript
  transcript (MadeSo {fr = fr} {m = m} k left sent next free inner ok covers rest) = act k (answer_to fr m k) (transcript rest)
  transcript (EndedSo v left sent free ok) = act (asks.End v) (pos 0) stop
  transcript (WentSo how callee left sent v left' m1 l1 free ok inner rest) = child how callee (transcript inner) (transcript rest)
  transcript (BrokeSo how callee left sent f free ok inner) = child how callee (transcript inner) stop
  transcript (RefusedSo k left sent f free bad) = stop

  is_serial : {fr : Frame} {words : List Bool} {start : ℕ} {history : List ℤ} {marks : List Bool} {m : Memory} {l : Labels} {es : List Event} {end : Ending} {after : Labels}
      → (o : Oblivious p inputs hidden fr words start history marks m l es end after) → Serial p inputs fr start history m (transcript o) es end
  is_serial (MadeSo k left sent next free inner ok covers rest) = Made k left free.asks inner ok (is_serial rest)
  is_serial (EndedSo v left sent free ok) = Ended v left free.asks ok
  is_serial (WentSo how callee left sent v left' m1 l1 free ok inner rest) = Went how callee left v left' m1 free.asks ok (is_serial inner) (is_serial rest)
  is_serial (BrokeSo how callee left sent f free ok inner) = Broke how callee left f free.asks ok (is_serial inner)
  is_serial (RefusedSo k left sent f free bad) = Refused k left f free.asks bad

module _ (p : Source) (inputs : List ℤ) (hidden : ℕ → Bool) (others : List ℤ) (alike : InputsAreAlike hidden inputs others) where
  -- a child begins on the other input, too
  begins_with : (fr : Frame) (callee : Callee) (left : ℕ) (ws : List ℤ) (m : Memory) (s : Store Instance) (u : Transcript) (es : List Event) (end : Ending)
      → Serial p others (frame_with (next_frame p fr.scope m callee) ws) left [] (memory_with (begun p callee (counted m)) s) u es end
      → Serial p others (next_frame p fr.scope (memory_with m s) (callee_with callee ws)) left [] (begun p (callee_with callee ws) (counted (memory_with m s))) u es end
  begins_with fr callee left ws m s u es end h =
      subst (λ f. Serial p others f left [] (begun p (callee_with callee ws) (counted (memory_with m s))) u es end) (sym (child_with p callee ws fr.scope m s))
      (subst (λ n. Serial p others (frame_with (next_frame p fr.scope m callee) ws) left [] n u es end) (sym (begun_with p callee ws m s)) h)

  pub twin : {fr : Frame} {words : List Bool} {start : ℕ} {history : List ℤ} {marks : List Bool} {m : Memory} {l : Labels} {es : List Event} {end : Ending} {after : Labels}
      → (o : Oblivious p inputs hidden fr words start history marks m l es end after)
      → (given : List ℤ) → AreAlike words (words_of fr.callee) given → (answers : List ℤ) → AreAlike marks history answers → (s : Store Instance) → StoresAreAlike l m.store s
      → Twin p others (frame_with fr given) start answers (memory_with m s) (transcript p inputs hidden o) es end after
  twin (MadeSo {fr = fr} {history = history} {m = m} {l = l} {es = es} {end = end} k left sent next free inner ok covers rest) given g answers a s h =
      let o = free.also others alike given g answers a in
      let ws = o.0 in
      let fr' = frame_with fr given in
      let m' = memory_with m s in
      let k' = ask_with k ws in
      let r = twin rest given g (answers ++ answer_to fr' m' k' ∷ []) (snoc (answer_mark fr k l) (answer_to fr m k) (answer_to fr' m' k') a (answer_with fr given l k ws m s h)) (stored p fr' m' k') (covered (marked_by fr k sent l) next (stored p fr m k) (stored p fr' m' k') covers (stored_with p fr given l k sent ws m s o.2 h)) in
      record {
        run = act k' (answer_to fr' m' k') r.run;
        events = event_of fr' m' k' ∷ r.events;
        value = r.value;
        store = r.store;
        requests = ActsAlike k ws (answer_to fr m k) (answer_to fr' m' k') r.requests;
        serial = Made k' left o.1 (inner_with k ws inner) (refused_with p k ws m s ∙ ok) r.serial;
        kinds = cons_same (kind_of (event_of fr' m' k')) (kind_of (event_of fr m k)) (map kind_of r.events) (map kind_of es) (kind_with fr given k ws m s) r.kinds;
        stores = r.stores;
      }
  twin (EndedSo {fr = fr} {m = m} {l = l} v left sent free ok) given g answers a s h =
      let o = free.also others alike given g answers a in
      let w = first_word o.0 in
      let fr' = frame_with fr given in
      let m' = memory_with m s in
      record {
        run = act (asks.End w) (pos 0) stop;
        events = events.End ∷ [];
        value = w;
        store = stored p fr' m' (asks.End w);
        requests = ActsAlike (asks.End v) o.0 (pos 0) (pos 0) NothingAlike;
        serial = Ended w left o.1 (refused_with p (asks.End v) o.0 m s ∙ ok);
        kinds = refl;
        stores = stored_with p fr given l (asks.End v) sent o.0 m s o.2 h;
      }
  twin (WentSo {fr = fr} {m = m} {es = es} {es' = es'} how callee left sent v left' m1 l1 free ok inner rest) given g answers a s h =
      let o = free.also others alike given g answers a in
      let ws = o.0 in
      let m' = memory_with m s in
      let c' = callee_with callee ws in
      let i = twin inner ws o.2 [] Empty s h in
      let r = twin rest given g (answers ++ pos 0 ∷ []) (snoc false (pos 0) (pos 0) a refl) i.store i.stores in
      let begins = begins_with fr callee left ws m s i.run i.events (Finished i.value left' (memory_with m1 i.store)) i.serial in
      record {
        run = child how c' i.run r.run;
        events = invocation how (suc m.frames) ∷ (i.events ++ r.events);
        value = r.value;
        store = r.store;
        requests = ChildrenAlike how callee ws i.requests r.requests;
        serial = Went how c' left i.value left' (memory_with m1 i.store) o.1 (refused_with p (asks.Invoke how callee) ws m s ∙ ok) begins r.serial;
        kinds = ap (λ ks. kind_of (invocation how (suc m.frames)) ∷ ks) (both_kinds i.events es r.events es' i.kinds r.kinds);
        stores = r.stores;
      }
  twin (BrokeSo {fr = fr} {m = m} {es = es} how callee left sent f free ok inner) given g answers a s h =
      let o = free.also others alike given g answers a in
      let ws = o.0 in
      let i = twin inner ws o.2 [] Empty s h in
      let begins = begins_with fr callee left ws m s i.run i.events (Stopped f) i.serial in
      record {
        run = child how (callee_with callee ws) i.run stop;
        events = invocation how (suc m.frames) ∷ i.events;
        value = i.value;
        store = i.store;
        requests = ChildrenAlike how callee ws i.requests NothingAlike;
        serial = Broke how (callee_with callee ws) left f o.1 (refused_with p (asks.Invoke how callee) ws m s ∙ ok) begins;
        kinds = ap (λ ks. kind_of (invocation how (suc m.frames)) ∷ ks) i.kinds;
        stores = tt;
      }
  twin (RefusedSo {fr = fr} {m = m} k left sent f free bad) given g answers a s h =
      let o = free.also others alike given g answers a in
      record {
        run = stop;
        events = [];
        value = pos 0;
        store = s;
        requests = NothingAlike;
        serial = Refused (ask_with k o.0) left f o.1 (refused_with p k o.0 m s ∙ bad);
        kinds = refl;
        stores = tt;
      }

same_word : (m : Bool) (x : ℤ) → IsAlike m x x
same_word true x = tt
same_word false x = refl

-- memory is the same before the root begins, whatever is marked
opened : (p : Source) (inputs others : List ℤ) (l : Labels) → StoresAreAlike l (begun p callees.Root (before_root p inputs MAX_EVENTS)).store (begun p callees.Root (before_root p others MAX_EVENTS)).store
opened p inputs others l = record { cells = λ n. same_word (l.cells n) _; views = λ k i. view_same (l.views k i) _ }

concludes : (p : Source) (inputs others : List ℤ) (end : Ending) (v : ℤ) (s : Store Instance) → ConcludesAlike (conclusion_of p inputs end) (conclusion_of p others (ending_with end v s))
concludes p inputs others (Finished w left m) v s = tt
concludes p inputs others (Stopped f) v s = refl

pub all_have_twins : ObliviousRunsHaveTwins
all_have_twins p inputs hidden es c run others alike =
    let end = run.0 in
    let m = begun p callees.Root (before_root p inputs MAX_EVENTS) in
    let t = twin p inputs hidden others alike run.3 [] Empty [] Empty m.store (opened p inputs others run.1) in
    let d = conclusion_of p others (ending_with end t.value t.store) in
    let same : ConcludesAlike c d = subst (λ c. ConcludesAlike c d) (sym run.4) (concludes p inputs others end t.value t.store) in
    let own = transcript p inputs hidden run.3 in
    let requests : (r : Transcript) (es' : List Event) (c' : Conclusion) → IsSerialRun p inputs r es' c' → TranscriptsAreAlike r t.run =
    λ r es' c' is.
    let one = serial_run_is_one p inputs MAX_TICKS MAX_EVENTS own r es es' c c' (end, is_serial p inputs hidden run.3, run.4) is in
    subst (λ x. TranscriptsAreAlike x t.run) one.0 t.requests in
    (t.run, t.events, d, (ending_with end t.value t.store, t.serial, refl), t.kinds, same, requests)
