-- Where a program and its inputs are words, a serial run sets reducers to words alone.
use Rattle.std.proofs.Common.{◌≡◌, ℕ, zero, suc, ◌+◌, ◌≤◌, nat_eq, ℤ, pos, Bool, true, false, if◌then◌else◌, ◌&&◌, List, [], ◌∷◌, ◌++◌, length, slice_get, Option, Some, None, unwrap_or, refl, subst, arith, length-append}
use Rattle.std.proofs.lemmas.Bool.{and_parts}
use Rattle.cilk_types.specs.declared.event.Instance.{Instance}
use Rattle.cilk_types.specs.declared.event.Event.{Event}
use Rattle.cilk_types.specs.declared.fault.Fault.TheVariants.{TooManyEvents}
use Rattle.cilk_monoid.specs.declared.kind.MonoidKind.{MonoidKind}
use Rattle.cilk_monoid.specs.declared.kind.MonoidKind.TheVariants.{Add, Least, Greatest, Append, Affine}
use Rattle.cilk_monoid.specs.Kinds.{structure_of, size_of, IsMember, same_kind}
use Rattle.cilk_monoid.specs.Lawful.{lawful}
use Rattle.cilk_monoid.specs.Ranges.{same_instance}
use Rattle.cilk_monoid.specs.Values.{ViewValue, Number, Elements, Map}
use Rattle.cilk_types.specs.Word.{IsWord}
use Rattle.cilk_program.specs.declared.ask.Ask.{Ask}
use Rattle.cilk_program.specs.declared.ask.Ask.TheVariants as asks
use Rattle.cilk_types.specs.declared.invocation.Invocation.{Invocation}
use Rattle.cilk_types.specs.declared.invocation.Invocation.TheVariants.{Call, Spawn}
use Rattle.cilk_program.specs.Behaviour.{OpenAsk}
use Rattle.cilk_program.specs.Outcomes.{Conclusion, Leaves}
use Rattle.cilk_program.specs.Store.{Store, put, put_view, clear_all}
use Rattle.cilk_program.specs.Syntax.{Source}
use Rattle.cilk_program.specs.SerialRun as serial
use Rattle.cilk_program.specs.SerialRun.{Memory, Frame, own_reducers, own_from, reducer_at, result_written, full, answer_to, stored, put_result, event_of, invocation, IsInner, refused, Ending, Finished, Stopped, Serial, Made, Ended, Went, Broke, Refused}
use Rattle.cilk_monoid.proofs.SameKinds.{same_kind-eq}
use Rattle.cilk_determinacy.specs.Theorem.{SetsWord, SetWords}
use Rattle.cilk_determinacy.specs.Words.{AreWords, HasWords, InputsAreWords, IsDeterminateInWords}
use Rattle.cilk_determinacy.proofs.Determinate.{is_determinate}
use Rattle.cilk_determinacy.proofs.Worded.{zero_word, AskWords, CalleeWords, asks_words}

-- the cells and views are of words, and no list is longer than this
record Wordy (store : Store Instance) (count : ℕ) : Type 0 where
  cells : (n : ℕ) → IsWord (store.cells n)
  members : (k : MonoidKind) (i : Instance) → IsMember k (store.views k i)
  sizes : (k : MonoidKind) (i : Instance) → size_of (store.views k i) ≤ count

more : (store : Store Instance) (n k : ℕ) → n ≤ k → Wordy store n → Wordy store k
more store n k low h = record { cells = h.cells; members = h.members; sizes = λ j i. let s = h.sizes j i in omega (arith, s, low) }

pub length_word : (n : ℕ) → n ≤ 1000000 → IsWord (pos n)
length_word n h = record { sfits = omega (arith, h) }

-- the number of a view
pub number_word : (k : MonoidKind) (v : ViewValue) → IsMember k v → size_of v ≤ 1000000 → IsWord ((structure_of k).number v)
number_word Add (Number z) h s = h
number_word Add (Elements zs) h s = absurd h
number_word Add (Map a b) h s = absurd h
number_word Least (Number z) h s = h
number_word Least (Elements zs) h s = absurd h
number_word Least (Map a b) h s = absurd h
number_word Greatest (Number z) h s = h
number_word Greatest (Elements zs) h s = absurd h
number_word Greatest (Map a b) h s = absurd h
number_word Append (Number z) h s = absurd h
number_word Append (Elements zs) h s = length_word (length zs) s
number_word Append (Map a b) h s = absurd h
number_word Affine (Number z) h s = absurd h
number_word Affine (Elements zs) h s = absurd h
number_word Affine (Map a b) h s = h.1

-- an update makes a list longer by one at most
pub update_size : (k : MonoidKind) (v : ViewValue) (x : ℤ) → size_of ((structure_of k).combine v ((structure_of k).single x)) ≤ suc (size_of v)
update_size Add (Number z) x = omega arith
update_size Add (Elements zs) x = omega arith
update_size Add (Map a b) x = omega arith
update_size Least (Number z) x = omega arith
update_size Least (Elements zs) x = omega arith
update_size Least (Map a b) x = omega arith
update_size Greatest (Number z) x = omega arith
update_size Greatest (Elements zs) x = omega arith
update_size Greatest (Map a b) x = omega arith
update_size Append (Number z) x = omega arith
update_size Append (Elements zs) x = let e = length-append zs (x ∷ []) in omega (arith, e)
update_size Append (Map a b) x = omega arith
update_size Affine (Number z) x = omega arith
update_size Affine (Elements zs) x = omega arith
update_size Affine (Map a b) x = omega arith

pub single_size : (k : MonoidKind) (x : ℤ) → size_of ((structure_of k).single x) ≤ 1
single_size Add x = omega arith
single_size Least x = omega arith
single_size Greatest x = omega arith
single_size Append x = omega arith
single_size Affine x = omega arith

pub unit_size : (k : MonoidKind) → size_of ((structure_of k).unit) ≤ 0
unit_size Add = omega arith
unit_size Least = omega arith
unit_size Greatest = omega arith
unit_size Append = omega arith
unit_size Affine = omega arith

chosen : {A : Type 0} (P : A → Type 0) (b : Bool) (x y : A) → (b ≡ true → P x) → P y → P (if b then x else y)
chosen P true x y h g = h refl
chosen P false x y h g = g

wordy_put : (store : Store Instance) (count c : ℕ) (v : ℤ) → IsWord v → Wordy store count → Wordy (put c v store) count
wordy_put store count c v w h = record { cells = λ n. chosen IsWord (nat_eq c n) v (store.cells n) (λ _. w) (h.cells n); members = h.members; sizes = h.sizes }

wordy_view : (store : Store Instance) (count : ℕ) (k : MonoidKind) (i : Instance) (v : ViewValue) → IsMember k v → size_of v ≤ count → Wordy store count → Wordy (put_view same_instance k i v store) count
wordy_view store count k i v m s h = record {
  cells = h.cells;
  members = λ k' j. chosen (IsMember k') (same_kind k k' && same_instance i j) v (store.views k' j) (λ e. subst (λ k. IsMember k v) (same_kind-eq k k' (and_parts (same_kind k k') (same_instance i j) e).0) m) (h.members k' j);
  sizes = λ k' j. chosen (λ v. size_of v ≤ count) (same_kind k k' && same_instance i j) v (store.views k' j) (λ _. s) (h.sizes k' j);
}

wordy_clear : (own : ℕ → Instance) (n : ℕ) (ks : List MonoidKind) (store : Store Instance) (count : ℕ) → Wordy store count → Wordy (clear_all same_instance own n ks store) count
wordy_clear own n [] store count h = h
wordy_clear own n (k ∷ ks) store count h =
    let law = lawful k in
    let s = unit_size k in
    wordy_clear own (suc n) ks _ count (wordy_view store count k (own n) ((structure_of k).unit) law.unit_member (omega (arith, s)) h)

answer_word : (fr : Frame) (m : Memory) (count : ℕ) (a : Ask) → count ≤ 1000000 → Wordy m.store count → IsWord (answer_to fr m a)
answer_word fr m count asks.Begin few h = zero_word
answer_word fr m count (asks.Read x) few h = h.cells _
answer_word fr m count (asks.Write x v) few h = zero_word
answer_word fr m count (asks.Create r) few h = zero_word
answer_word fr m count (asks.Update r v) few h = zero_word
answer_word fr m count (asks.Set r v) few h = zero_word
answer_word fr m count (asks.Value r) few h = let i = reducer_at fr r in let s = h.sizes r.kind i in number_word r.kind (m.store.views r.kind i) (h.members r.kind i) (omega (arith, s, few))
answer_word fr m count (asks.Print v) few h = zero_word
answer_word fr m count (asks.Invoke how callee) few h = zero_word
answer_word fr m count asks.Resume few h = zero_word
answer_word fr m count asks.Sync few h = zero_word
answer_word fr m count (asks.Result v) few h = zero_word
answer_word fr m count (asks.End v) few h = zero_word
answer_word fr m count (asks.Fault f) few h = zero_word

wordy_result : (o : Option ℕ) (v : ℤ) (store : Store Instance) (count : ℕ) → IsWord v → Wordy store count → Wordy (put_result o v store) count
wordy_result None v store count w h = h
wordy_result (Some c) v store count w h = wordy_put store count c v w h

stored_wordy : (p : Source) (fr : Frame) (m : Memory) (count : ℕ) (a : Ask) → AskWords a → Wordy m.store count → Wordy (stored p fr m a) (suc count)
stored_wordy p fr m count asks.Begin w h = more m.store count (suc count) (omega arith) h
stored_wordy p fr m count (asks.Read x) w h = more m.store count (suc count) (omega arith) h
stored_wordy p fr m count (asks.Write x v) w h = wordy_put m.store (suc count) _ v w (more m.store count (suc count) (omega arith) h)
stored_wordy p fr m count (asks.Create r) w h =
    let law = lawful r.kind in
    let s = unit_size r.kind in
    wordy_view m.store (suc count) r.kind (reducer_at fr r) ((structure_of r.kind).unit) law.unit_member (omega (arith, s)) (more m.store count (suc count) (omega arith) h)
stored_wordy p fr m count (asks.Update r v) w h =
    let law = lawful r.kind in
    let old = m.store.views r.kind (reducer_at fr r) in
    let s = update_size r.kind old v in
    let t = h.sizes r.kind (reducer_at fr r) in
    wordy_view m.store (suc count) r.kind (reducer_at fr r) ((structure_of r.kind).combine old ((structure_of r.kind).single v)) (law.combine_member old ((structure_of r.kind).single v) (h.members r.kind (reducer_at fr r)) (law.single_member v w)) (omega (arith, s, t))
    (more m.store count (suc count) (omega arith) h)
stored_wordy p fr m count (asks.Set r v) w h =
    let law = lawful r.kind in
    let s = single_size r.kind v in
    wordy_view m.store (suc count) r.kind (reducer_at fr r) ((structure_of r.kind).single v) (law.single_member v w) (omega (arith, s)) (more m.store count (suc count) (omega arith) h)
stored_wordy p fr m count (asks.Value r) w h = more m.store count (suc count) (omega arith) h
stored_wordy p fr m count (asks.Print v) w h = record { cells = h.cells; members = h.members; sizes = λ k i. let s = h.sizes k i in omega (arith, s) }
stored_wordy p fr m count (asks.Invoke how callee) w h = more m.store count (suc count) (omega arith) h
stored_wordy p fr m count asks.Resume w h = more m.store count (suc count) (omega arith) h
stored_wordy p fr m count asks.Sync w h = more m.store count (suc count) (omega arith) h
stored_wordy p fr m count (asks.Result v) w h = wordy_result fr.result v m.store (suc count) w (more m.store count (suc count) (omega arith) h)
stored_wordy p fr m count (asks.End v) w h = wordy_clear (own_from p fr) 0 (own_reducers p fr.callee) m.store (suc count) (more m.store count (suc count) (omega arith) h)
stored_wordy p fr m count (asks.Fault f) w h = more m.store count (suc count) (omega arith) h

event_word : (fr : Frame) (m : Memory) (a : Ask) → AskWords a → SetsWord (event_of fr m a)
event_word fr m asks.Begin w = tt
event_word fr m (asks.Read x) w = tt
event_word fr m (asks.Write x v) w = tt
event_word fr m (asks.Create r) w = tt
event_word fr m (asks.Update r v) w = tt
event_word fr m (asks.Set r v) w = w
event_word fr m (asks.Value r) w = tt
event_word fr m (asks.Print v) w = tt
event_word fr m (asks.Invoke Call callee) w = tt
event_word fr m (asks.Invoke Spawn callee) w = tt
event_word fr m asks.Resume w = tt
event_word fr m asks.Sync w = tt
event_word fr m (asks.Result v) w = by fr.result
  where
    by : (o : Option ℕ) → SetsWord (result_written o v)
    by None = tt
    by (Some c) = tt
event_word fr m (asks.End v) w = tt
event_word fr m (asks.Fault f) w = tt

started_words : (how : Invocation) (n : ℕ) (es : List Event) → SetWords es → SetWords (invocation how n ∷ es)
started_words Call n es h = (tt, h)
started_words Spawn n es h = (tt, h)

both_words : (es es' : List Event) → SetWords es → SetWords es' → SetWords (es ++ es')
both_words [] es' h g = g
both_words (e ∷ es) es' h g = (h.0, both_words es es' h.1 g)

pub more_words : (history : List ℤ) (v : ℤ) → AreWords history → IsWord v → AreWords (history ++ v ∷ [])
more_words [] v h w = (w, tt)
more_words (x ∷ history) v h w = (h.0, more_words history v h.1 w)

-- an event that isn't refused had room
has_room : (m : Memory) → full m ≡ None → 1 ≤ m.room
has_room m h = by m.room h
  where
    by : (n : ℕ) → (if nat_eq n 0 then Some TooManyEvents else None) ≡ None → 1 ≤ n
    by zero h = absurd_none h
      where
        absurd_none : Some TooManyEvents ≡ None → 1 ≤ 0
        absurd_none h = grind arith
    by (suc n) h = omega arith

inner_room : (p : Source) (m : Memory) (a : Ask) → IsInner a → refused p m a ≡ None → 1 ≤ m.room
inner_room p m asks.Begin i h = has_room m h
inner_room p m (asks.Read x) i h = has_room m h
inner_room p m (asks.Write x v) i h = has_room m h
inner_room p m (asks.Create r) i h = has_room m h
inner_room p m (asks.Update r v) i h = has_room m h
inner_room p m (asks.Set r v) i h = has_room m h
inner_room p m (asks.Value r) i h = has_room m h
inner_room p m (asks.Print v) i h = has_room m h
inner_room p m (asks.Invoke how callee) i h = absurd i
inner_room p m asks.Resume i h = has_room m h
inner_room p m asks.Sync i h = has_room m h
inner_room p m (asks.Result v) i h = has_room m h
inner_room p m (asks.End v) i h = absurd i
inner_room p m (asks.Fault f) i h = absurd i

module _ (p : Source) (has : HasWords p) (inputs : List ℤ) (inputs_words : InputsAreWords inputs) where
  -- the store is of words at the end, too
  abbrev LeavesWords : Ending → Type 0
  LeavesWords (Finished v left m) = (count : ℕ) × Wordy m.store count × (count + m.room ≤ 1000000)
  LeavesWords (Stopped f) = Unit {0}

  runs_words : {fr : Frame} {start : ℕ} {history : List ℤ} {m : Memory} {r : serial.Transcript} {es : List Event} {end : Ending} → Serial p inputs fr start history m r es end
      → CalleeWords fr.callee → AreWords history → (count : ℕ) → Wordy m.store count → count + m.room ≤ 1000000 → SetWords es × LeavesWords end
  runs_words (Made {fr = fr} {start = start} {history = history} {m = m} a left q inner ok rest) callee words count h few =
      let w = subst (λ (q : OpenAsk). AskWords q.ask) q (asks_words p has inputs inputs_words fr.callee callee history words start) in
      let room = inner_room p m a inner ok in
      let later = runs_words rest callee (more_words history (answer_to fr m a) words (answer_word fr m count a (omega (arith, few)) h)) (suc count) (stored_wordy p fr m count a w h) (omega (arith, few, room)) in
      ((event_word fr m a w, later.0), later.1)
  runs_words (Ended {fr = fr} {m = m} v left q ok) callee words count h few =
      let room = has_room m ok in
      ((tt, tt), (suc count, stored_wordy p fr m count (asks.End v) tt h, omega (arith, few, room)))
  runs_words (Went {fr = fr} {start = start} {history = history} {m = m} {es = es} {es' = es'} how callee' left v left' m' q ok inner rest) callee words count h few =
      let w = subst (λ (q : OpenAsk). AskWords q.ask) q (asks_words p has inputs inputs_words fr.callee callee history words start) in
      let one = runs_words inner w tt count h (omega (arith, few)) in
      let leaves = one.1 in
      let later = runs_words rest callee (more_words history (pos 0) words zero_word) leaves.0 leaves.1 leaves.2 in
      (started_words how (suc m.frames) (es ++ es') (both_words es es' one.0 later.0), later.1)
  runs_words (Broke {fr = fr} {start = start} {history = history} {m = m} {es = es} how callee' left f q ok inner) callee words count h few =
      let w = subst (λ (q : OpenAsk). AskWords q.ask) q (asks_words p has inputs inputs_words fr.callee callee history words start) in
      let one = runs_words inner w tt count h (omega (arith, few)) in
      (started_words how (suc m.frames) es one.0, tt)
  runs_words (Refused k left f q bad) callee words count h few = (tt, tt)

  pub opening_word : (xs : List ℤ) → AreWords xs → (n : ℕ) → IsWord (unwrap_or (slice_get xs n) (pos 0))
  opening_word [] h n = zero_word
  opening_word (x ∷ xs) h zero = h.0
  opening_word (x ∷ xs) h (suc n) = opening_word xs h.1 n

  pub set_words : (r : serial.Transcript) (es : List Event) (c : Conclusion) → serial.IsSerialRun p inputs r es c → SetWords es
  set_words r es c (end, d, e) =
      (runs_words d tt tt 0 (record { cells = opening_word p.openings has.openings; members = λ k i. let law = lawful k in law.unit_member; sizes = λ k i. unit_size k }) (omega arith)).0

pub determinate_in_words : (p : Source) (inputs : List ℤ) → IsDeterminateInWords p inputs
determinate_in_words p inputs well has inputs_words r es outcome runs free ns s reached =
    is_determinate p inputs r es outcome (record { named = well; runs = runs; sets = set_words p has inputs inputs_words r es (Leaves outcome) runs; free = free }) ns s reached
