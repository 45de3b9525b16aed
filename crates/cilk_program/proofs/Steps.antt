-- The next step of a serial run, by the frame's request.
use Rattle.std.proofs.Common.{eqb-true, ◌≡◌, ℕ, ◌+◌, ◌-◌, ℤ, pos, Bool, true, false, List, [], ◌∷◌, ◌++◌, ◌⊎◌, inl, inr, Some, None, nat_eq, nat_lt, if◌then◌else◌, refl, sym, ap, ap₂, ◌∙◌, subst, subst₂}
use Rattle.std.proofs.lemmas.Option.{none-some, same_Some}
use Rattle.cilk_types.specs.declared.fault.Fault.{Fault}
use Rattle.cilk_types.specs.declared.fault.Fault.TheVariants.{TooManyEvents, TooManyFrames, TooManyCells}
use Rattle.cilk_types.specs.declared.limits.TheConstants.{MAX_FRAMES, MAX_CELLS}
use Rattle.cilk_types.specs.declared.event.Event.{Event}
use Rattle.cilk_program.specs.declared.ask.Ask.{Ask}
use Rattle.cilk_program.specs.declared.ask.Ask.TheVariants as asks
use Rattle.cilk_program.specs.declared.ask.Callee.{Callee}
use Rattle.cilk_program.specs.declared.ask.Callee.TheVariants as callees
use Rattle.cilk_types.specs.declared.invocation.Invocation.{Invocation}
use Rattle.cilk_program.specs.Syntax.{Source}
use Rattle.cilk_program.specs.Behaviour.{asks_for, frame_asks}
use Rattle.cilk_program.specs.SerialRun.{Transcript, stop, act, child, Memory, Frame, next_frame, begun, counted, with_store, answer_to, stored, full, cells_of, refused, IsInner, Ending, Finished, Stopped, Serial, Made, Ended, Went, Broke, Refused}
use Rattle.cilk_program.specs.Agreement.{IsLimit, IsCrowd}

-- the children in a frame's run
abbrev pub Children : (Transcript → Type 0) → Transcript → Type 0
Children P stop = Unit {0}
Children P (act k v r) = Children P r
Children P (child how c u r) = P u × Children P r

inner_refused : (p : Source) (m : Memory) (k : Ask) → IsInner k → refused p m k ≡ full m
inner_refused p m asks.Begin i = refl
inner_refused p m (asks.Read x) i = refl
inner_refused p m (asks.Write x v) i = refl
inner_refused p m (asks.Create r) i = refl
inner_refused p m (asks.Update r v) i = refl
inner_refused p m (asks.Set r v) i = refl
inner_refused p m (asks.Value r) i = refl
inner_refused p m (asks.Print v) i = refl
inner_refused p m (asks.Invoke how c) i = absurd i
inner_refused p m asks.Resume i = refl
inner_refused p m asks.Sync i = refl
inner_refused p m (asks.Result v) i = refl
inner_refused p m (asks.End v) i = absurd i
inner_refused p m (asks.Fault f) i = absurd i

none_or : {F : Type 0} (t : Bool) (f g : F) → (if t then Some f else None) ≡ Some g → g ≡ f
none_or true f g e = sym (same_Some f g e)
none_or false f g e = absurd (none-some g e)

full_fault : (m : Memory) (f : Fault) → full m ≡ Some f → f ≡ TooManyEvents
full_fault m f e = none_or (nat_eq m.room 0) TooManyEvents f e

some_if : {F : Type 0} (t : Bool) (f g : F) → (if t then Some f else None) ≡ Some g → t ≡ true
some_if true f g e = refl
some_if false f g e = absurd (none-some g e)

full_room : (m : Memory) (f : Fault) → full m ≡ Some f → m.room ≡ 0
full_room m f e = eqb-true m.room 0 (some_if (nat_eq m.room 0) TooManyEvents f e)

limit : (f g : Fault) → IsLimit g → f ≡ g → IsLimit f
limit f g l e = subst IsLimit (sym e) l

crowd : (f g : Fault) → IsCrowd g → f ≡ g → IsCrowd f
crowd f g l e = subst IsCrowd (sym e) l

-- there is no room for an event, or there are too many frames or cells
crowded_limit : (a b c : Bool) (f : Fault) → (if a then Some TooManyEvents else (if b then (if c then Some TooManyCells else None) else Some TooManyFrames)) ≡ Some f → IsLimit f × (IsCrowd f ⊎ (a ≡ true))
crowded_limit true b c f e = (limit f TooManyEvents tt (sym (same_Some TooManyEvents f e)), inr refl)
crowded_limit false true c f e = (limit f TooManyCells tt (none_or c TooManyCells f e), inl (crowd f TooManyCells tt (none_or c TooManyCells f e)))
crowded_limit false false c f e = (limit f TooManyFrames tt (sym (same_Some TooManyFrames f e)), inl (crowd f TooManyFrames tt (sym (same_Some TooManyFrames f e))))

-- a request that ends the frame, or begins a child
abbrev IsEnd : Ask → Type 0
IsEnd asks.Begin = ⊥
IsEnd (asks.Read x) = ⊥
IsEnd (asks.Write x v) = ⊥
IsEnd (asks.Create r) = ⊥
IsEnd (asks.Update r v) = ⊥
IsEnd (asks.Set r v) = ⊥
IsEnd (asks.Value r) = ⊥
IsEnd (asks.Print v) = ⊥
IsEnd (asks.Invoke how c) = ⊥
IsEnd asks.Resume = ⊥
IsEnd asks.Sync = ⊥
IsEnd (asks.Result v) = ⊥
IsEnd (asks.End v) = Unit {0}
IsEnd (asks.Fault f) = ⊥

abbrev IsFault : Ask → Type 0
IsFault asks.Begin = ⊥
IsFault (asks.Read x) = ⊥
IsFault (asks.Write x v) = ⊥
IsFault (asks.Create r) = ⊥
IsFault (asks.Update r v) = ⊥
IsFault (asks.Set r v) = ⊥
IsFault (asks.Value r) = ⊥
IsFault (asks.Print v) = ⊥
IsFault (asks.Invoke how c) = ⊥
IsFault asks.Resume = ⊥
IsFault asks.Sync = ⊥
IsFault (asks.Result v) = ⊥
IsFault (asks.End v) = ⊥
IsFault (asks.Fault f) = Unit {0}

abbrev callee_of : Ask → Callee
callee_of asks.Begin = callees.Root
callee_of (asks.Read x) = callees.Root
callee_of (asks.Write x v) = callees.Root
callee_of (asks.Create r) = callees.Root
callee_of (asks.Update r v) = callees.Root
callee_of (asks.Set r v) = callees.Root
callee_of (asks.Value r) = callees.Root
callee_of (asks.Print v) = callees.Root
callee_of (asks.Invoke how c) = c
callee_of asks.Resume = callees.Root
callee_of asks.Sync = callees.Root
callee_of (asks.Result v) = callees.Root
callee_of (asks.End v) = callees.Root
callee_of (asks.Fault f) = callees.Root

abbrev value_of : Ask → ℤ
value_of asks.Begin = pos 0
value_of (asks.Read x) = pos 0
value_of (asks.Write x v) = pos 0
value_of (asks.Create r) = pos 0
value_of (asks.Update r v) = pos 0
value_of (asks.Set r v) = pos 0
value_of (asks.Value r) = pos 0
value_of (asks.Print v) = pos 0
value_of (asks.Invoke how c) = pos 0
value_of asks.Resume = pos 0
value_of asks.Sync = pos 0
value_of (asks.Result v) = pos 0
value_of (asks.End v) = v
value_of (asks.Fault f) = pos 0

abbrev fault_of : Ask → Fault
fault_of asks.Begin = TooManyEvents
fault_of (asks.Read x) = TooManyEvents
fault_of (asks.Write x v) = TooManyEvents
fault_of (asks.Create r) = TooManyEvents
fault_of (asks.Update r v) = TooManyEvents
fault_of (asks.Set r v) = TooManyEvents
fault_of (asks.Value r) = TooManyEvents
fault_of (asks.Print v) = TooManyEvents
fault_of (asks.Invoke how c) = TooManyEvents
fault_of asks.Resume = TooManyEvents
fault_of asks.Sync = TooManyEvents
fault_of (asks.Result v) = TooManyEvents
fault_of (asks.End v) = TooManyEvents
fault_of (asks.Fault f) = f

module _ (p : Source) (inputs : List ℤ) (P : Transcript → Type 0) where
  -- a request that is answered at once
  pub data Answered (fr : Frame) (start : ℕ) (history : List ℤ) (m : Memory) (k : Ask) (end : Ending) : Type 0 where
    Goes : (r : Transcript) (es : List Event) → Serial p inputs fr start (history ++ answer_to fr m k ∷ []) (with_store m (stored p fr m k)) r es end → Children P r → Answered fr start history m k end
    Full : m.room ≡ 0 → end ≡ Stopped TooManyEvents → Answered fr start history m k end

  pub answered : {fr : Frame} {start : ℕ} {history : List ℤ} {m : Memory} {r : Transcript} {es : List Event} {end : Ending} (k : Ask) (left : ℕ) → IsInner k → frame_asks p inputs fr.callee history start ≡ asks_for k left → Children P r
      → Serial p inputs fr start history m r es end → Answered fr start history m k end
  answered {end = end} k left i e inner (Made {fr} {start} {history} {m} {r} {es} k' left' e' i' ref d) =
      let same : k' ≡ k = ap (λ a. a.ask) (sym e' ∙ e) in
      Goes r es (subst (λ k. Serial p inputs fr start (history ++ answer_to fr m k ∷ []) (with_store m (stored p fr m k)) r es end) same d) inner
  answered k left i e inner (Ended v left' e' ref) = absurd (subst IsInner (ap (λ a. a.ask) (sym e ∙ e')) i)
  answered k left i e inner (Went how callee left' v left'' m' e' ref d d') = absurd (subst IsInner (ap (λ a. a.ask) (sym e ∙ e')) i)
  answered k left i e inner (Broke how callee left' f e' ref d) = absurd (subst IsInner (ap (λ a. a.ask) (sym e ∙ e')) i)
  answered k left i e inner (Refused {m = m} k' left' f e' ref) =
      let same : k' ≡ k = ap (λ a. a.ask) (sym e' ∙ e) in
      let q : full m ≡ Some f = sym (inner_refused p m k i) ∙ ap (refused p m) (sym same) ∙ ref in
      Full (full_room m f q) (ap Stopped (full_fault m f q))

  -- a child
  pub data Invoked (fr : Frame) (start : ℕ) (history : List ℤ) (m : Memory) (callee : Callee) (left : ℕ) (end : Ending) : Type 0 where
    Ran : (u r : Transcript) (es es' : List Event) (v : ℤ) (left' : ℕ) (m' : Memory) → Serial p inputs (next_frame p fr.scope m callee) left [] (begun p callee (counted m)) u es (Finished v left' m')
        → Serial p inputs fr (left' + (start - left)) (history ++ pos 0 ∷ []) m' r es' end → P u → Children P r → Invoked fr start history m callee left end
    Broken : (u : Transcript) (es : List Event) (f : Fault) → Serial p inputs (next_frame p fr.scope m callee) left [] (begun p callee (counted m)) u es (Stopped f) → P u → end ≡ Stopped f → Invoked fr start history m callee left end
    Crowded : (f : Fault) → IsLimit f → (IsCrowd f ⊎ (m.room ≡ 0)) → end ≡ Stopped f → Invoked fr start history m callee left end

  pub invoked : {fr : Frame} {start : ℕ} {history : List ℤ} {m : Memory} {r : Transcript} {es : List Event} {end : Ending} (how : Invocation) (callee : Callee) (left : ℕ)
      → frame_asks p inputs fr.callee history start ≡ asks_for (asks.Invoke how callee) left → Children P r → Serial p inputs fr start history m r es end → Invoked fr start history m callee left end
  invoked how callee left e inner (Made k' left' e' i' ref d) = absurd (subst IsInner (ap (λ a. a.ask) (sym e' ∙ e)) i')
  invoked how callee left e inner (Ended v left' e' ref) = absurd (subst IsEnd (ap (λ a. a.ask) (sym e' ∙ e)) tt)
  invoked {end = end} how callee left e inner (Went {fr} {start} {history} {m} {u} {r} {es} {es'} how' callee' left' v left'' m' e' ref d d') =
      let same : callee' ≡ callee = ap (λ a. callee_of a.ask) (sym e' ∙ e) in
      let same' : left' ≡ left = ap (λ a. a.left) (sym e' ∙ e) in
      Ran u r es es' v left'' m'
      (subst₂ (λ c l. Serial p inputs (next_frame p fr.scope m c) l [] (begun p c (counted m)) u es (Finished v left'' m')) same same' d)
      (subst (λ l. Serial p inputs fr (left'' + (start - l)) (history ++ pos 0 ∷ []) m' r es' end) same' d')
      inner.0 inner.1
  invoked how callee left e inner (Broke {fr} {start} {history} {m} {u} {es} how' callee' left' f e' ref d) =
      let same : callee' ≡ callee = ap (λ a. callee_of a.ask) (sym e' ∙ e) in
      let same' : left' ≡ left = ap (λ a. a.left) (sym e' ∙ e) in
      Broken u es f (subst₂ (λ c l. Serial p inputs (next_frame p fr.scope m c) l [] (begun p c (counted m)) u es (Stopped f)) same same' d) inner.0 refl
  invoked how callee left e inner (Refused {m = m} k' left' f e' ref) =
      let same : k' ≡ asks.Invoke how callee = ap (λ a. a.ask) (sym e' ∙ e) in
      let q = crowded_limit (nat_eq m.room 0) (nat_lt m.frames MAX_FRAMES) (nat_lt MAX_CELLS (m.cells + cells_of p callee)) f (ap (refused p m) (sym same) ∙ ref) in
      Crowded f q.0 (elim q.1 [ inl c ↦ inl c | inr e ↦ inr (eqb-true m.room 0 e) ]) refl

  -- a frame's end
  pub ends : {fr : Frame} {start : ℕ} {history : List ℤ} {m : Memory} {r : Transcript} {es : List Event} {end : Ending} (v : ℤ) (left : ℕ) → frame_asks p inputs fr.callee history start ≡ asks_for (asks.End v) left
      → Serial p inputs fr start history m r es end → (end ≡ Finished v left (with_store m (stored p fr m (asks.End v)))) ⊎ ((m.room ≡ 0) × (end ≡ Stopped TooManyEvents))
  ends v left e (Made k' left' e' i' ref d) = absurd (subst IsInner (ap (λ a. a.ask) (sym e' ∙ e)) i')
  ends v left e (Ended {fr} {start} {history} {m} v' left' e' ref) =
      inl (ap₂ (λ v l. Finished v l (with_store m (stored p fr m (asks.End v)))) (ap (λ a. value_of a.ask) (sym e' ∙ e)) (ap (λ a. a.left) (sym e' ∙ e)))
  ends v left e (Went how callee left' v' left'' m' e' ref d d') = absurd (subst IsEnd (ap (λ a. a.ask) (sym e ∙ e')) tt)
  ends v left e (Broke how callee left' f e' ref d) = absurd (subst IsEnd (ap (λ a. a.ask) (sym e ∙ e')) tt)
  ends v left e (Refused {m = m} k' left' f e' ref) =
      let same : k' ≡ asks.End v = ap (λ a. a.ask) (sym e' ∙ e) in
      let q : full m ≡ Some f = ap (refused p m) (sym same) ∙ ref in
      inr (full_room m f q, ap Stopped (full_fault m f q))

  -- a fault
  pub faulted : {fr : Frame} {start : ℕ} {history : List ℤ} {m : Memory} {r : Transcript} {es : List Event} {end : Ending} (f : Fault) (left : ℕ) → frame_asks p inputs fr.callee history start ≡ asks_for (asks.Fault f) left
      → Serial p inputs fr start history m r es end → end ≡ Stopped f
  faulted f left e (Made k' left' e' i' ref d) = absurd (subst IsInner (ap (λ a. a.ask) (sym e' ∙ e)) i')
  faulted f left e (Ended v left' e' ref) = absurd (subst IsEnd (ap (λ a. a.ask) (sym e' ∙ e)) tt)
  faulted f left e (Went how callee left' v left'' m' e' ref d d') = absurd (subst IsFault (ap (λ a. a.ask) (sym e ∙ e')) tt)
  faulted f left e (Broke how callee left' g e' ref d) = absurd (subst IsFault (ap (λ a. a.ask) (sym e ∙ e')) tt)
  faulted f left e (Refused {m = m} k' left' g e' ref) =
      let same : k' ≡ asks.Fault f = ap (λ a. a.ask) (sym e' ∙ e) in
      ap Stopped (sym (same_Some f g (ap (refused p m) (sym same) ∙ ref)))
