-- A moment of a frame: the state of the elision, and the rest of the serial run.
use Rattle.std.proofs.Common.{◌≡◌, ℕ, zero, suc, ◌+◌, ◌-◌, ◌<◌, ◌≤◌, ℤ, pos, ◌<ℤ◌, IsTrue, List, [], ◌∷◌, ◌++◌, drop, ◌⊎◌, inl, inr, Some, None, refl, sym, ap, ◌∙◌, subst, arith, append-nil, append_assoc, nat_eq}
use Rattle.cilk_types.specs.declared.fault.Fault.{Fault}
use Rattle.cilk_types.specs.declared.fault.Fault.TheVariants.{TooManyEvents}
use Rattle.cilk_types.specs.declared.event.Event.{Event}
use Rattle.cilk_types.specs.declared.event.Instance.{Instance}
use Rattle.cilk_program.specs.declared.ask.Ask.{Ask}
use Rattle.cilk_program.specs.declared.ask.Ask.TheVariants as asks
use Rattle.cilk_program.specs.declared.ask.Callee.{Callee}
use Rattle.cilk_program.specs.declared.ask.Callee.TheVariants as callees
use Rattle.cilk_program.specs.declared.ask.LoopPart.{LoopPart}
use Rattle.cilk_program.specs.declared.program.Body.{Body}
use Rattle.cilk_types.specs.declared.invocation.Invocation.{Invocation}
use Rattle.cilk_program.specs.declared.syntax.Place.{Place}
use Rattle.cilk_program.specs.declared.syntax.Reducer.{Reducer}
use Rattle.cilk_program.specs.Syntax.{Source, Invoke, loop_at}
use Rattle.cilk_program.specs.WellNamed.{invoke_is_named, reducer_is_there}
use Rattle.cilk_program.specs.Scopes.{Scope}
use Rattle.cilk_program.specs.Store.{Store, put, print, update, set, number_at}
use Rattle.cilk_program.specs.Behaviour.{Got, Gives, Asks, ◌>>=◌, tick, ask, Flow, invokes, ended, frame_asks}
use Rattle.cilk_program.specs.Elision as elision
use Rattle.cilk_program.specs.Elision.{Sight, cell_at, reducer_at, Gives as Worth, Came, GoesOn, Returns, Faults, ElidesCall, ElidesTurns, evaluate_all, turns_between}
use Rattle.cilk_program.specs.SerialRun.{Transcript, Memory, Frame, next_frame, begun, counted, with_store, answer_to, stored, IsInner, Ending, Finished, Stopped, Serial}
use Rattle.cilk_program.specs.Agreement.{IsLimit}
use Rattle.cilk_program.proofs.Ties.{Same, Since, since_then, same_put, same_print, same_update, same_set, same_number}
use Rattle.cilk_program.proofs.Sights.{SeesAlike, sees_since}
use Rattle.cilk_program.proofs.Steps.{Children, Answered, Goes, Full, answered, Invoked, Ran, Broken, Crowded, invoked, faulted}

-- the two memories are the same
pub record SameMemory (tied : ℕ → Instance) (m : elision.Memory) (m' : Memory) : Type 0 where
  pub store : Same tied m.reducers m'.frames m.store m'.store
  pub cells : m.cells ≡ m'.cells

-- how a child ends, when n reducers had begun: as its elision, or by a limit
abbrev pub ChildEnds : (Came → Type 0) → (ℕ → Instance) → ℕ → ℕ → Ending → Type 0
ChildEnds E tied count left (Finished v left' m') = (m : elision.Memory) × E (GoesOn m) × (left' ≤ left) × ((tied' : ℕ → Instance) × Since tied count tied' m.reducers × SameMemory tied' m m')
ChildEnds E tied count left (Stopped f) = E (Faults f) ⊎ IsLimit f

abbrev pub called : Invoke → List ℤ → Callee
called i words = callees.Function (record { function = i.function; words = words; reducers = i.reducers; result = i.result })

-- a frame does the same as its elision, for any callee
pub record IsElided (p : Source) (inputs : List ℤ) (u : Transcript) : Type 0 where
  pub function : (tied : ℕ → Instance) (m : elision.Memory) (m' : Memory) (b : Body) (s : Sight) (scope : Scope ℕ Instance) (left : ℕ) (es : List Event) (end : Ending) (i : Invoke) (words : List ℤ)
      → SameMemory tied m m' → SeesAlike p tied m.reducers b s scope → IsTrue (invoke_is_named p b i) → evaluate_all inputs s m.store i.arguments ≡ Worth words
      → Serial p inputs (next_frame p scope m' (called i words)) left [] (begun p (called i words) (counted m')) u es end → ChildEnds (ElidesCall p inputs s i m) tied m.reducers left end
  pub loop : (tied : ℕ → Instance) (m : elision.Memory) (m' : Memory) (s : Sight) (scope : Scope ℕ Instance) (left : ℕ) (es : List Event) (end : Ending) (l : LoopPart)
      → SameMemory tied m m' → (let body = loop_at p l.number in SeesAlike p tied m.reducers body.within s (drop l.up scope)) → l.low <ℤ l.high
      → Serial p inputs (next_frame p scope m' (callees.Loop l)) left [] (begun p (callees.Loop l) (counted m')) u es end
      → ChildEnds (ElidesTurns p inputs s l.number l.low (turns_between l.low l.high) m) tied m.reducers left end

-- A frame in both runs: its elision's sight and its body, how its serial run ends, and the reducers
-- that were tied as its body began.
pub record Site : Type 0 where
  pub p : Source
  pub inputs : List ℤ
  pub fr : Frame
  pub end : Ending
  pub tied : ℕ → Instance
  pub count : ℕ
  pub sight : Sight
  pub body : Body
  pub sees : SeesAlike p tied count body sight fr.scope

-- A moment. The elision has reached a memory, and the frame is to do x with these ticks left.
-- `took` counts the frame's own ticks until now.
pub record Now (z : Site) (m : elision.Memory) (left : ℕ) (x : List ℤ → ℕ → Got ℤ) : Type 0 where
  pub m' : Memory
  pub tied : ℕ → Instance
  pub took : ℕ
  pub history : List ℤ
  pub r : Transcript
  pub es : List Event
  pub run : Serial z.p z.inputs z.fr (took + left) history m' r es z.end
  pub rest : (answers : List ℤ) (t : ℕ) → frame_asks z.p z.inputs z.fr.callee (history ++ answers) (took + t) ≡ ended (x answers t)
  pub same : SameMemory tied m m'
  pub since : Since z.tied z.count tied m.reducers
  pub inner : Children (IsElided z.p z.inputs) r

abbrev pub now_as : {z : Site} {m : elision.Memory} {left : ℕ} {x y : List ℤ → ℕ → Got ℤ} → ((answers : List ℤ) (t : ℕ) → x answers t ≡ y answers t) → Now z m left x → Now z m left y
now_as e n = record { m' = n.m'; tied = n.tied; took = n.took; history = n.history; r = n.r; es = n.es; run = n.run; rest = λ answers t. n.rest answers t ∙ ap ended (e answers t); same = n.same; since = n.since; inner = n.inner }

pub in_turn : {A B C : Type 0} (x : Got A) (f : A → List ℤ → ℕ → Got B) (g : B → List ℤ → ℕ → Got C) → (x >>= f) >>= g ≡ x >>= (λ v a l. f v a l >>= g)
in_turn (Gives v a l) f g = refl
in_turn (Asks k) f g = refl

abbrev pub regroup : {A B : Type 0} {z : Site} {m : elision.Memory} {left : ℕ} (y : List ℤ → ℕ → Got A) (f : A → List ℤ → ℕ → Got B) (g : B → List ℤ → ℕ → Got ℤ)
    → Now z m left (λ a t. (y a t >>= f) >>= g) → Now z m left (λ a t. y a t >>= (λ v a l. f v a l >>= g))
regroup y f g n = now_as (λ a t. in_turn (y a t) f g) n

-- the frame's next request
pub asks_now : {z : Site} {m : elision.Memory} {left : ℕ} {x : List ℤ → ℕ → Got ℤ} (n : Now z m left x) → frame_asks z.p z.inputs z.fr.callee n.history (n.took + left) ≡ ended (x [] left)
asks_now {z} {left = left} n = ap (λ h. frame_asks z.p z.inputs z.fr.callee h (n.took + left)) (sym (append-nil n.history)) ∙ n.rest [] left

-- a tick
pub data Ticked (z : Site) (m : elision.Memory) (left : ℕ) (y : List ℤ → ℕ → Got ℤ) : Type 0 where
  Tick : (left' : ℕ) → left' < left → Now z m left' y → Ticked z m left y
  NoTick : z.end ≡ Stopped TooManyEvents → Ticked z m left y

abbrev pub tick_now : {z : Site} {m : elision.Memory} {left : ℕ} (y : Unit {0} → List ℤ → ℕ → Got ℤ) → Now z m (suc left) (λ a t. tick a t >>= y) → Now z m left (y tt)
tick_now {z} {m} {left} y n = record {
  m' = n.m';
  tied = n.tied;
  took = suc n.took;
  history = n.history;
  r = n.r;
  es = n.es;
  run = let e : n.took + suc left ≡ suc n.took + left = omega arith in subst (λ s. Serial z.p z.inputs z.fr s n.history n.m' n.r n.es z.end) e n.run;
  rest = λ a t. let e : suc n.took + t ≡ n.took + suc t = omega arith in ap (frame_asks z.p z.inputs z.fr.callee (n.history ++ a)) e ∙ n.rest a (suc t);
  same = n.same;
  since = n.since;
  inner = n.inner;
}

pub ticked : {z : Site} {m : elision.Memory} (left : ℕ) (y : Unit {0} → List ℤ → ℕ → Got ℤ) → Now z m left (λ a t. tick a t >>= y) → Ticked z m left (y tt)
ticked {z} zero y n = NoTick (faulted z.p z.inputs (IsElided z.p z.inputs) TooManyEvents 0 (asks_now n) n.run)
ticked {z} {m} (suc left) y n = Tick left (omega arith) (tick_now y n)

-- a request that is answered at once
pub data AskGoes (z : Site) (m : elision.Memory) (left : ℕ) (y : List ℤ → ℕ → Got ℤ) : Type 0 where
  Answer : Now z m left y → AskGoes z m left y
  NoRoom : z.end ≡ Stopped TooManyEvents → AskGoes z m left y

-- a request may be made now, after which the elision has another store; its answer is v
pub record Fits {z : Site} {m : elision.Memory} {left : ℕ} {x : List ℤ → ℕ → Got ℤ} (n : Now z m left x) (k : Ask) (store : Store ℕ) (v : ℤ) : Type 0 where
  pub is_inner : IsInner k
  pub same : Same n.tied m.reducers n.m'.frames store (stored z.p z.fr n.m' k)
  pub answer : answer_to z.fr n.m' k ≡ v

abbrev pub after_answer : {z : Site} {m : elision.Memory} {left : ℕ} (k : Ask) (store : Store ℕ) (v : ℤ) (g : ℤ → List ℤ → ℕ → Got ℤ) (n : Now z m left (λ a t. ask k a t >>= g)) → Fits n k store v → (r : Transcript) (es : List Event)
    → Serial z.p z.inputs z.fr (n.took + left) (n.history ++ answer_to z.fr n.m' k ∷ []) (with_store n.m' (stored z.p z.fr n.m' k)) r es z.end → Children (IsElided z.p z.inputs) r → Now z (record m { store = store }) left (g v)
after_answer {z} k store v g n fits r es d inner = record {
  m' = with_store n.m' (stored z.p z.fr n.m' k);
  tied = n.tied;
  took = n.took;
  history = n.history ++ answer_to z.fr n.m' k ∷ [];
  r = r;
  es = es;
  run = d;
  rest = λ a t. ap (λ h. frame_asks z.p z.inputs z.fr.callee h (n.took + t)) (append_assoc n.history (answer_to z.fr n.m' k ∷ []) a) ∙ n.rest (answer_to z.fr n.m' k ∷ a) t ∙ ap (λ w. ended (g w a t)) fits.answer;
  same = record { store = fits.same; cells = n.same.cells };
  since = n.since;
  inner = inner;
}

pub asked : {z : Site} {m : elision.Memory} {left : ℕ} (k : Ask) (store : Store ℕ) (v : ℤ) (g : ℤ → List ℤ → ℕ → Got ℤ) (n : Now z m left (λ a t. ask k a t >>= g)) → Fits n k store v → AskGoes z (record m { store = store }) left (g v)
asked {z} {m} {left} k store v g n fits = go (answered z.p z.inputs (IsElided z.p z.inputs) k left fits.is_inner (asks_now n) n.inner n.run)
  where
    go : Answered z.p z.inputs (IsElided z.p z.inputs) z.fr (n.took + left) n.history n.m' k z.end → AskGoes z (record m { store = store }) left (g v)
    go (Goes r es d inner) = Answer (after_answer k store v g n fits r es d inner)
    go (Full e q) = NoRoom q

-- the frame's current scope
pub sees_now : {z : Site} {m : elision.Memory} {left : ℕ} {x : List ℤ → ℕ → Got ℤ} (n : Now z m left x) → SeesAlike z.p n.tied m.reducers z.body z.sight z.fr.scope
sees_now {z} n = sees_since z.sees n.since

module _ {z : Site} {m : elision.Memory} {left : ℕ} {y : List ℤ → ℕ → Got ℤ} (n : Now z m left y) where
  pub read_fits : (x : Place) → Fits n (asks.Read x) m.store (m.store.cells (cell_at z.sight x))
  read_fits x = record { is_inner = tt; same = n.same.store; answer = ap n.m'.store.cells (sym (z.sees.cells x)) ∙ ap (λ f. f (cell_at z.sight x)) (sym n.same.store.cells) }

  pub write_fits : (x : Place) (v : ℤ) → Fits n (asks.Write x v) (put (cell_at z.sight x) v m.store) (pos 0)
  write_fits x v = record {
    is_inner = tt;
    same = subst (λ c. Same n.tied m.reducers n.m'.frames (put (cell_at z.sight x) v m.store) (put c v n.m'.store)) (z.sees.cells x) (same_put n.same.store (cell_at z.sight x) v);
    answer = refl;
  }

  pub print_fits : (v : ℤ) → Fits n (asks.Print v) (print v m.store) (pos 0)
  print_fits v = record { is_inner = tt; same = same_print n.same.store v; answer = refl }

  pub sync_fits : Fits n asks.Sync m.store (pos 0)
  sync_fits = record { is_inner = tt; same = n.same.store; answer = refl }

  pub resume_fits : Fits n asks.Resume m.store (pos 0)
  resume_fits = record { is_inner = tt; same = n.same.store; answer = refl }

  module _ (r : Reducer) (there : IsTrue (reducer_is_there z.p z.body r.place r.kind)) where
    pub value_fits : Fits n (asks.Value r) m.store (number_at r.kind (reducer_at z.sight r) m.store)
    value_fits = let q = (sees_now n).reducers r.place r.kind there in
        record { is_inner = tt; same = n.same.store; answer = sym (same_number n.same.store r.kind (reducer_at z.sight r) _ q.0 q.1) }

    pub update_fits : (v : ℤ) → Fits n (asks.Update r v) (update nat_eq r.kind (reducer_at z.sight r) v m.store) (pos 0)
    update_fits v = let q = (sees_now n).reducers r.place r.kind there in record { is_inner = tt; same = same_update n.same.store r.kind (reducer_at z.sight r) _ q.0 q.1 v; answer = refl }

    pub set_fits : (v : ℤ) → Fits n (asks.Set r v) (set nat_eq r.kind (reducer_at z.sight r) v m.store) (pos 0)
    set_fits v = let q = (sees_now n).reducers r.place r.kind there in record { is_inner = tt; same = same_set n.same.store r.kind (reducer_at z.sight r) _ q.0 q.1 v; answer = refl }

module _ {z : Site} {m : elision.Memory} {left : ℕ} (g : ℤ → List ℤ → ℕ → Got ℤ) where
  pub read : (x : Place) → Now z m left (λ a t. ask (asks.Read x) a t >>= g) → AskGoes z m left (g (m.store.cells (cell_at z.sight x)))
  read x n = asked (asks.Read x) m.store (m.store.cells (cell_at z.sight x)) g n (read_fits n x)

  pub write : (x : Place) (v : ℤ) → Now z m left (λ a t. ask (asks.Write x v) a t >>= g) → AskGoes z (record m { store = put (cell_at z.sight x) v m.store }) left (g (pos 0))
  write x v n = asked (asks.Write x v) (put (cell_at z.sight x) v m.store) (pos 0) g n (write_fits n x v)

  pub prints : (v : ℤ) → Now z m left (λ a t. ask (asks.Print v) a t >>= g) → AskGoes z (record m { store = print v m.store }) left (g (pos 0))
  prints v n = asked (asks.Print v) (print v m.store) (pos 0) g n (print_fits n v)

  pub syncs : Now z m left (λ a t. ask asks.Sync a t >>= g) → AskGoes z m left (g (pos 0))
  syncs n = asked asks.Sync m.store (pos 0) g n (sync_fits n)

  pub resumes : Now z m left (λ a t. ask asks.Resume a t >>= g) → AskGoes z m left (g (pos 0))
  resumes n = asked asks.Resume m.store (pos 0) g n (resume_fits n)

  module _ (r : Reducer) (there : IsTrue (reducer_is_there z.p z.body r.place r.kind)) where
    pub reads_view : Now z m left (λ a t. ask (asks.Value r) a t >>= g) → AskGoes z m left (g (number_at r.kind (reducer_at z.sight r) m.store))
    reads_view n = asked (asks.Value r) m.store (number_at r.kind (reducer_at z.sight r) m.store) g n (value_fits n r there)

    pub updates : (v : ℤ) → Now z m left (λ a t. ask (asks.Update r v) a t >>= g) → AskGoes z (record m { store = update nat_eq r.kind (reducer_at z.sight r) v m.store }) left (g (pos 0))
    updates v n = asked (asks.Update r v) (update nat_eq r.kind (reducer_at z.sight r) v m.store) (pos 0) g n (update_fits n r there v)

    pub sets : (v : ℤ) → Now z m left (λ a t. ask (asks.Set r v) a t >>= g) → AskGoes z (record m { store = set nat_eq r.kind (reducer_at z.sight r) v m.store }) left (g (pos 0))
    sets v n = asked (asks.Set r v) (set nat_eq r.kind (reducer_at z.sight r) v m.store) (pos 0) g n (set_fits n r there v)

-- The result of a part of a frame. It is that of its elision, and the frame continues with the
-- rest. Or both meet the same fault. Or a limit is met.
pub data Comes (z : Site) (E : Came → Type 0) (bound : ℕ) (g : Flow → List ℤ → ℕ → Got ℤ) : Type 0 where
  On : (m : elision.Memory) → E (GoesOn m) → (left : ℕ) → left < bound → Now z m left (g None) → Comes z E bound g
  Back : (v : ℤ) (m : elision.Memory) → E (Returns v m) → (left : ℕ) → left < bound → Now z m left (g (Some v)) → Comes z E bound g
  Broken' : (f : Fault) → E (Faults f) → z.end ≡ Stopped f → Comes z E bound g
  Limited : (f : Fault) → IsLimit f → z.end ≡ Stopped f → Comes z E bound g

-- the rest of a frame after a child has ended
abbrev pub after_child : {z : Site} {m m1 : elision.Memory} {left : ℕ} (how : Invocation) (callee : Callee) (g : Flow → List ℤ → ℕ → Got ℤ) (n : Now z m left (λ a t. invokes how callee a t >>= g)) (left' : ℕ) (m' : Memory) (r : Transcript) (es : List Event)
    (tied : ℕ → Instance) → Since n.tied m.reducers tied m1.reducers → SameMemory tied m1 m' → Serial z.p z.inputs z.fr (left' + (n.took + left - left)) (n.history ++ pos 0 ∷ []) m' r es z.end → Children (IsElided z.p z.inputs) r
    → Now z m1 left' (λ a t. ask asks.Resume a t >>= λ v a l. g None a l)
after_child {z} {left = left} how callee g n left' m' r es tied since same d inner = record {
  m' = m';
  tied = tied;
  took = n.took;
  history = n.history ++ pos 0 ∷ [];
  r = r;
  es = es;
  run = let e : left' + (n.took + left - left) ≡ n.took + left' = omega arith in subst (λ s. Serial z.p z.inputs z.fr s (n.history ++ pos 0 ∷ []) m' r es z.end) e d;
  rest = λ a t. ap (λ h. frame_asks z.p z.inputs z.fr.callee h (n.took + t)) (append_assoc n.history (pos 0 ∷ []) a) ∙ n.rest (pos 0 ∷ a) t ∙ ap ended (in_turn (ask asks.Resume a t) (λ v. Gives None) g);
  same = same;
  since = since_then n.since since;
  inner = inner;
}

-- a child, and then the frame continues
pub child_goes : {z : Site} {m : elision.Memory} {left : ℕ} (E : Came → Type 0) (how : Invocation) (callee : Callee) (g : Flow → List ℤ → ℕ → Got ℤ)
    (n : Now z m left (λ a t. invokes how callee a t >>= g))
    → ((u : Transcript) (es : List Event) (end : Ending) → IsElided z.p z.inputs u → Serial z.p z.inputs (next_frame z.p z.fr.scope n.m' callee) left [] (begun z.p callee (counted n.m')) u es end → ChildEnds E n.tied m.reducers left end)
    → Comes z E (suc left) g
child_goes {z} {m} {left} E how callee g n ok = go (invoked z.p z.inputs (IsElided z.p z.inputs) how callee left (asks_now n) n.inner n.run)
  where
    resumed : (m : elision.Memory) → E (GoesOn m) → (left' : ℕ) → left' ≤ left → AskGoes z m left' (λ a t. g None a t) → Comes z E (suc left) g
    resumed m e left' h (Answer n) = On m e left' (omega arith) n
    resumed m e left' h (NoRoom q) = Limited TooManyEvents tt q

    go : Invoked z.p z.inputs (IsElided z.p z.inputs) z.fr (n.took + left) n.history n.m' callee left z.end → Comes z E (suc left) g
    go (Ran u r es es' v left' m' d d' inner inner') =
        let q = ok u es (Finished v left' m') inner d in
        let w = q.3 in
        resumed q.0 q.1 left' q.2 (resumes (λ v a l. g None a l) (after_child how callee g n left' m' r es' w.0 w.1 w.2 d' inner'))
    go (Broken u es f d inner q) = elim (ok u es (Stopped f) inner d) [ inl e ↦ Broken' f e q | inr l ↦ Limited f l q ]
    go (Crowded f l c q) = Limited f l q
