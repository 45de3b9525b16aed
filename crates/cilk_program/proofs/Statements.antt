-- A statement does the same as its elision.
use Rattle.std.proofs.Common.{◌≡◌, ℕ, suc, ◌<◌, ◌≤◌, ℤ, pos, ◌+ℤ◌, int_lt, Bool, true, false, ◌&&◌, IsTrue, nat_eq, nat_lt, length, inl, inr, if◌then◌else◌, List, [], ◌∷◌, Option, Some, None, refl, sym, ap, ◌∙◌, subst, arith, le_refl}
use Rattle.std.proofs.lemmas.Bool.{and_parts}
use Rattle.cilk_types.specs.Word.{word_of}
use Rattle.cilk_types.specs.declared.fault.Fault.{Fault}
use Rattle.cilk_types.specs.declared.fault.Fault.TheVariants.{IndexOutside, TooManyEvents}
use Rattle.cilk_program.specs.declared.ask.Ask.TheVariants as asks
use Rattle.cilk_program.specs.declared.ask.Callee.TheVariants as callees
use Rattle.cilk_program.specs.declared.ask.LoopPart.{LoopPart}
use Rattle.cilk_types.specs.declared.invocation.Invocation.TheVariants.{Call}
use Rattle.cilk_program.specs.declared.syntax.Place.{Place}
use Rattle.cilk_program.specs.declared.syntax.Place.TheVariants as places
use Rattle.cilk_program.specs.declared.program.Body.{Body}
use Rattle.cilk_types.specs.declared.compound.Compound.{Compound}
use Rattle.cilk_program.specs.Operators.{is_zero, change}
use Rattle.cilk_program.specs.Syntax.{Source, Expression, Target, Invoke, Declaration, Zero, Opening, Invoking, Statement, Assign, Change, Step, Sync, If, IfElse, ParallelFor, Print, Update, Set, Return, loop_at, place_of}
use Rattle.cilk_program.specs.declared.syntax.Reducer.{Reducer}
use Rattle.cilk_program.specs.WellNamed.{reducer_is_there, all_are_named, expression_is_named, option_is_named, target_is_named, invoke_is_named, same_body, declaration_is_named, declarations_are_named, statement_is_named}
use Rattle.cilk_program.specs.Store.{put, print, update, set}
use Rattle.cilk_program.specs.Behaviour.{Got, Gives, ◌>>=◌, tick, ask, or_fault, value, values, index_of, Flow, invokes, invokes_function, declares, all_declare, does}
use Rattle.cilk_program.specs.Elision.{Memory, cell_at, reducer_at, Valued, Gives as Worth, Fails, then_value, or_fails, evaluate, evaluate_all, evaluate_index, Came, GoesOn, Returns, Faults, on_value, goes_on, turns_between, Elides, Assigns, Changes, Steps, Prints, Updates, Sets, Ends, EndsPlainly, Syncs, Holds, Skips, IfFails, First, Second, IfElseFails, Ascends, LowFails, HighFails, ElidesEach, NoneLeft, Next, LastOne, ElidesOne, Zeroes, Opens, OpensByCall, ElidesTurns, NoTurns, ElidesCall, ArgumentFails}
use Rattle.cilk_program.specs.SerialRun.{Ending, Finished, Stopped}
use Rattle.cilk_types.specs.declared.event.Instance.{Instance}
use Rattle.cilk_program.proofs.Asked.{same_body_is}
use Rattle.cilk_program.proofs.Sights.{SeesAlike}
use Rattle.cilk_program.proofs.Moments.{Site, Now, regroup, called, ChildEnds, Ticked, Tick, NoTick, ticked, AskGoes, Answer, NoRoom, read, write, prints, syncs, updates, sets, sees_now, Comes, On, Back, Broken', Limited, child_goes}
use Rattle.cilk_program.proofs.Values.{ValueGoes, Has, Lacks, Late, or_fault_value, value_goes, values_go, index_goes}
use Rattle.cilk_program.proofs.Intervals.{turns_none, below_from}

pub comes_as : {z : Site} {E E' : Came → Type 0} {bound bound' : ℕ} {g : Flow → List ℤ → ℕ → Got ℤ} → bound ≤ bound' → ((r : Came) → E r → E' r) → Comes z E bound g → Comes z E' bound' g
comes_as h f (On m e left l n) = On m (f (GoesOn m) e) left (omega arith) n
comes_as h f (Back v m e left l n) = Back v m (f (Returns v m) e) left (omega arith) n
comes_as h f (Broken' fault e q) = Broken' fault (f (Faults fault) e) q
comes_as h f (Limited fault l q) = Limited fault l q

pub tick_comes : {z : Site} {m : Memory} (E : Came → Type 0) (f : List ℤ → ℕ → Got Flow) (left : ℕ) (g : Flow → List ℤ → ℕ → Got ℤ) → Now z m left (λ a l. (tick a l >>= λ _. f) >>= g)
    → ((left' : ℕ) → left' < left → Now z m left' (λ a l. f a l >>= g) → Comes z E left g) → Comes z E left g
tick_comes {z} {m} E f left g n go = after (ticked left (λ u a l. f a l >>= g) (regroup tick (λ u. f) g n))
  where
    after : Ticked z m left (λ a l. f a l >>= g) → Comes z E left g
    after (Tick left' h n) = go left' h n
    after (NoTick q) = Limited TooManyEvents tt q

-- a value, and then the rest of a statement
pub valued : {z : Site} {m : Memory} {left : ℕ} (E : Came → Type 0) {A : Type 0} (w : Valued A) (f : A → List ℤ → ℕ → Got Flow) (g : Flow → List ℤ → ℕ → Got ℤ) (bound : ℕ) → left < bound → ValueGoes z A w m left (λ v a l. f v a l >>= g)
    → ((v : A) → w ≡ Worth v → (left' : ℕ) → left' < bound → Now z m left' (λ a l. f v a l >>= g) → Comes z E bound g) → ((fault : Fault) → w ≡ Fails fault → E (Faults fault)) → Comes z E bound g
valued E w f g bound h (Has v e left' h' n) go fails = go v e left' (omega arith) n
valued E w f g bound h (Lacks fault e q) go fails = Broken' fault (fails fault e) q
valued E w f g bound h (Late fault l q) go fails = Limited fault l q

-- a request that is the last of its statement
last_ask : {z : Site} {m : Memory} {left : ℕ} (E : Came → Type 0) (g : Flow → List ℤ → ℕ → Got ℤ) (bound : ℕ) → left < bound → E (GoesOn m) → AskGoes z m left (λ a l. g None a l) → Comes z E bound g
last_ask {m = m} {left = left} E g bound h e (Answer n) = On m e left h n
last_ask E g bound h e (NoRoom q) = Limited TooManyEvents tt q

pub split : {z : Site} {m : Memory} {left : ℕ} {G : Type 0} (t : Bool) (x y : List ℤ → ℕ → Got Flow) (g : Flow → List ℤ → ℕ → Got ℤ) → Now z m left (λ a l. (if t then y a l else x a l) >>= g)
    → (t ≡ false → Now z m left (λ a l. x a l >>= g) → G) → (t ≡ true → Now z m left (λ a l. y a l >>= g) → G) → G
split true x y g n one two = two refl n
split false x y g n one two = one refl n

on_gives : {A : Type 0} (k : A → Came) {w : Valued A} {v : A} → w ≡ Worth v → on_value w k ≡ k v
on_gives k e = ap (λ w. on_value w k) e

on_fails : {A : Type 0} (k : A → Came) {w : Valued A} {f : Fault} → w ≡ Fails f → on_value w k ≡ Faults f
on_fails k e = ap (λ w. on_value w k) e

pub arguments_named : (p : Source) (b : Body) (i : Invoke) → IsTrue (invoke_is_named p b i) → IsTrue (all_are_named p b i.arguments)
arguments_named p b i h = (and_parts _ _ (and_parts _ _ (and_parts _ _ h).0).0).1

-- it doesn't return
abbrev pub Stays : Came → Type 0
Stays (GoesOn m) = Unit {0}
Stays (Returns v m) = ⊥
Stays (Faults f) = Unit {0}

pub child_stays : (E : Came → Type 0) (tied : ℕ → Instance) (count left : ℕ) (end : Ending) → ChildEnds E tied count left end → ChildEnds (λ r. Stays r × E r) tied count left end
child_stays E tied count left (Finished v left' m') q = (q.0, (tt, q.1), q.2, q.3)
child_stays E tied count left (Stopped f) (inl e) = inl (tt, e)
child_stays E tied count left (Stopped f) (inr l) = inr l

module _ (z : Site) where
  abbrev none : ℤ → List ℤ → ℕ → Got Flow
  none v = Gives None

  -- an expression, and then the rest of a statement
  with_value : {m : Memory} {left : ℕ} (E : Came → Type 0) (e : Expression) → IsTrue (expression_is_named z.p z.body e) → (f : ℤ → List ℤ → ℕ → Got Flow) (g : Flow → List ℤ → ℕ → Got ℤ) (bound : ℕ) → left < bound
      → Now z m left (λ a l. (value z.inputs e a l >>= f) >>= g)
      → ((v : ℤ) → evaluate z.inputs z.sight m.store e ≡ Worth v → (left' : ℕ) → left' < bound → Now z m left' (λ a l. f v a l >>= g) → Comes z E bound g)
      → ((fault : Fault) → evaluate z.inputs z.sight m.store e ≡ Fails fault → E (Faults fault)) → Comes z E bound g
  with_value {m} {left} E e t f g bound h n = valued E (evaluate z.inputs z.sight m.store e) f g bound h (value_goes z m e t left (λ v a l. f v a l >>= g) (regroup (value z.inputs e) f g n))

  with_index : {m : Memory} {left : ℕ} (E : Came → Type 0) (t : Target) → IsTrue (target_is_named z.p z.body t) → (f : ℤ → List ℤ → ℕ → Got Flow) (g : Flow → List ℤ → ℕ → Got ℤ) (bound : ℕ) → left < bound
      → Now z m left (λ a l. (index_of z.inputs t a l >>= f) >>= g)
      → ((i : ℤ) → evaluate_index z.inputs z.sight m.store t ≡ Worth i → (left' : ℕ) → left' < bound → Now z m left' (λ a l. f i a l >>= g) → Comes z E bound g)
      → ((fault : Fault) → evaluate_index z.inputs z.sight m.store t ≡ Fails fault → E (Faults fault)) → Comes z E bound g
  with_index {m} {left} E t h f g bound l n = valued E (evaluate_index z.inputs z.sight m.store t) f g bound l (index_goes z m t h left (λ v a l. f v a l >>= g) (regroup (index_of z.inputs t) f g n))

  with_place : {m : Memory} {left : ℕ} (E : Came → Type 0) (o : Option Place) (f : Place → List ℤ → ℕ → Got Flow) (g : Flow → List ℤ → ℕ → Got ℤ) (bound : ℕ) → left < bound
      → Now z m left (λ a l. (or_fault IndexOutside o a l >>= f) >>= g)
      → ((x : Place) → or_fails IndexOutside o ≡ Worth x → (left' : ℕ) → left' < bound → Now z m left' (λ a l. f x a l >>= g) → Comes z E bound g)
      → ((fault : Fault) → or_fails IndexOutside o ≡ Fails fault → E (Faults fault)) → Comes z E bound g
  with_place {m} {left} E o f g bound h n = valued E (or_fails IndexOutside o) f g bound h (or_fault_value IndexOutside o left (λ v a l. f v a l >>= g) (regroup (or_fault IndexOutside o) f g n))

  -- a read, and then the rest of a statement
  with_read : {m : Memory} {left : ℕ} (E : Came → Type 0) (x : Place) (f : ℤ → List ℤ → ℕ → Got Flow) (g : Flow → List ℤ → ℕ → Got ℤ) (bound : ℕ)
      → Now z m left (λ a l. (ask (asks.Read x) a l >>= f) >>= g) → (Now z m left (λ a l. f (m.store.cells (cell_at z.sight x)) a l >>= g) → Comes z E bound g) → Comes z E bound g
  with_read {m} {left} E x f g bound n go = after (read (λ v a l. f v a l >>= g) x (regroup (ask (asks.Read x)) f g n))
    where
      after : AskGoes z m left (λ a l. f (m.store.cells (cell_at z.sight x)) a l >>= g) → Comes z E bound g
      after (Answer n) = go n
      after (NoRoom q) = Limited TooManyEvents tt q

  pub assign_goes : (t : Target) (e : Expression) → IsTrue (target_is_named z.p z.body t) → IsTrue (expression_is_named z.p z.body e) → (m : Memory) (left : ℕ) (g : Flow → List ℤ → ℕ → Got ℤ)
      → Now z m left (λ a l. does z.inputs (Assign t e) a l >>= g) → Comes z (Elides z.p z.inputs z.sight (Assign t e) m) left g
  assign_goes t e ht he m left g n =
      let E : Came → Type 0 = Elides z.p z.inputs z.sight (Assign t e) m in
      let k3 : ℤ → Place → Came = λ v x. goes_on m (put (cell_at z.sight x) v m.store) in
      let k2 : ℤ → ℤ → Came = λ i v. on_value (or_fails IndexOutside (place_of t i)) (k3 v) in
      let k1 : ℤ → Came = λ i. on_value (evaluate z.inputs z.sight m.store e) (k2 i) in
      tick_comes E _ left g n (λ left1 h1 n.
      with_index E t ht _ g left h1 n (λ i ei left2 h2 n.
      with_value E e he _ g left h2 n (λ v ev left3 h3 n.
      with_place E (place_of t i) _ g left h3 n (λ x ex left4 h4 n.
      last_ask E g left h4 (Assigns t e (sym (on_gives k1 ei ∙ on_gives (k2 i) ev ∙ on_gives (k3 v) ex))) (write (λ v a l. g None a l) x v (regroup (ask (asks.Write x v)) none g n)))
      (λ f ex. Assigns t e (sym (on_gives k1 ei ∙ on_gives (k2 i) ev ∙ on_fails (k3 v) ex))))
      (λ f ev. Assigns t e (sym (on_gives k1 ei ∙ on_fails (k2 i) ev))))
      (λ f ei. Assigns t e (sym (on_fails k1 ei))))

  pub change_goes : (t : Target) (op : Compound) (e : Expression) → IsTrue (target_is_named z.p z.body t) → IsTrue (expression_is_named z.p z.body e) → (m : Memory) (left : ℕ) (g : Flow → List ℤ → ℕ → Got ℤ)
      → Now z m left (λ a l. does z.inputs (Change t op e) a l >>= g) → Comes z (Elides z.p z.inputs z.sight (Change t op e) m) left g
  change_goes t op e ht he m left g n =
      let E : Came → Type 0 = Elides z.p z.inputs z.sight (Change t op e) m in
      let worth : ℤ → ℤ → Valued ℤ = λ x v. Worth (change op x v) in
      let k3 : Place → ℤ → Came = λ x v. goes_on m (put (cell_at z.sight x) v m.store) in
      let k2 : Place → Came = λ x. on_value (then_value (evaluate z.inputs z.sight m.store e) (worth (m.store.cells (cell_at z.sight x)))) (k3 x) in
      let k1 : ℤ → Came = λ i. on_value (or_fails IndexOutside (place_of t i)) k2 in
      tick_comes E _ left g n (λ left1 h1 n.
      with_index E t ht _ g left h1 n (λ i ei left2 h2 n.
      with_place E (place_of t i) _ g left h2 n (λ x ex left3 h3 n.
      with_read E x _ g left n (λ n.
      with_value E e he _ g left h3 n (λ v ev left4 h4 n.
      last_ask E g left h4 (Changes t op e (sym (on_gives k1 ei ∙ on_gives k2 ex ∙ on_gives (k3 x) (ap (λ w. then_value w (worth (m.store.cells (cell_at z.sight x)))) ev))))
      (write (λ v a l. g None a l) x (change op (m.store.cells (cell_at z.sight x)) v) (regroup (ask (asks.Write x (change op (m.store.cells (cell_at z.sight x)) v))) none g n)))
      (λ f ev. Changes t op e (sym (on_gives k1 ei ∙ on_gives k2 ex ∙ on_fails (k3 x) (ap (λ w. then_value w (worth (m.store.cells (cell_at z.sight x)))) ev))))))
      (λ f ex. Changes t op e (sym (on_gives k1 ei ∙ on_fails k2 ex))))
      (λ f ei. Changes t op e (sym (on_fails k1 ei))))

  pub step_goes : (t : Target) (k : ℤ) → IsTrue (target_is_named z.p z.body t) → (m : Memory) (left : ℕ) (g : Flow → List ℤ → ℕ → Got ℤ)
      → Now z m left (λ a l. does z.inputs (Step t k) a l >>= g) → Comes z (Elides z.p z.inputs z.sight (Step t k) m) left g
  step_goes t k ht m left g n =
      let E : Came → Type 0 = Elides z.p z.inputs z.sight (Step t k) m in
      let next : Place → ℤ = λ x. word_of (m.store.cells (cell_at z.sight x) +ℤ k) in
      let k2 : Place → Came = λ x. goes_on m (put (cell_at z.sight x) (next x) m.store) in
      let k1 : ℤ → Came = λ i. on_value (or_fails IndexOutside (place_of t i)) k2 in
      tick_comes E _ left g n (λ left1 h1 n.
      with_index E t ht _ g left h1 n (λ i ei left2 h2 n.
      with_place E (place_of t i) _ g left h2 n (λ x ex left3 h3 n.
      with_read E x _ g left n (λ n.
      last_ask E g left h3 (Steps t k (sym (on_gives k1 ei ∙ on_gives k2 ex))) (write (λ v a l. g None a l) x (next x) (regroup (ask (asks.Write x (next x))) none g n))))
      (λ f ex. Steps t k (sym (on_gives k1 ei ∙ on_fails k2 ex))))
      (λ f ei. Steps t k (sym (on_fails k1 ei))))

  pub call_goes : (i : Invoke) → IsTrue (invoke_is_named z.p z.body i) → (m : Memory) (left bound : ℕ) → left < bound → (g : Flow → List ℤ → ℕ → Got ℤ)
      → Now z m left (λ a l. invokes_function z.inputs i a l >>= g) → Comes z (λ r. Stays r × ElidesCall z.p z.inputs z.sight i m r) bound g
  call_goes i h m left bound b g n =
      let E : Came → Type 0 = λ r. Stays r × ElidesCall z.p z.inputs z.sight i m r in
      let f : List ℤ → List ℤ → ℕ → Got Flow = λ vs. invokes i.how (called i vs) in
      let t = arguments_named z.p z.body i h in
      valued E (evaluate_all z.inputs z.sight m.store i.arguments) f g bound b (values_go z m i.arguments t left (λ v a l. f v a l >>= g) (regroup (values z.inputs i.arguments) f g n))
      (λ words e left1 h1 n. comes_as (omega arith) (λ r x. x)
      (child_goes E i.how (called i words) g n (λ u es end ok d. child_stays (ElidesCall z.p z.inputs z.sight i m) n.tied m.reducers left1 end
      (ok.function n.tied m n.m' z.body z.sight z.fr.scope left1 es end i words n.same (sees_now n) h e d))))
      (λ fault e. (tt, ArgumentFails fault e))

  declare_goes : (d : Declaration) → IsTrue (declaration_is_named z.p z.body d) → (m : Memory) (left : ℕ) (g : Flow → List ℤ → ℕ → Got ℤ)
      → Now z m left (λ a l. declares z.inputs d a l >>= g) → Comes z (λ r. Stays r × ElidesOne z.p z.inputs z.sight d m r) (suc left) g
  declare_goes (Zero k) h m left g n =
      last_ask (λ r. Stays r × ElidesOne z.p z.inputs z.sight (Zero k) m r) g (suc left) (omega arith) (tt, Zeroes k) (write (λ v a l. g None a l) (places.Local 0 k) (pos 0) (regroup (ask (asks.Write (places.Local 0 k) (pos 0))) none g n))
  declare_goes (Opening k e) h m left g n =
      let E : Came → Type 0 = λ r. Stays r × ElidesOne z.p z.inputs z.sight (Opening k e) m r in
      let k1 : ℤ → Came = λ v. goes_on m (put (cell_at z.sight (places.Local 0 k)) v m.store) in
      with_value E e (and_parts _ _ h).1 _ g (suc left) (omega arith) n
      (λ v ev left1 h1 n. last_ask E g (suc left) h1 (tt, Opens k e (sym (on_gives k1 ev))) (write (λ v a l. g None a l) (places.Local 0 k) v (regroup (ask (asks.Write (places.Local 0 k) v)) none g n)))
      (λ f ev. (tt, Opens k e (sym (on_fails k1 ev))))
  declare_goes (Invoking i) h m left g n = comes_as (le_refl (suc left)) (λ r x. (x.0, OpensByCall i x.1)) (call_goes i h m left (suc left) (omega arith) g n)

  pub each_goes : (ds : List Declaration) → IsTrue (declarations_are_named z.p z.body ds) → (m : Memory) (left : ℕ) (g : Flow → List ℤ → ℕ → Got ℤ)
      → Now z m left (λ a l. all_declare z.inputs ds a l >>= g) → Comes z (ElidesEach z.p z.inputs z.sight ds m) (suc left) g
  each_goes [] h m left g n = On m NoneLeft left (omega arith) n
  each_goes (d ∷ ds) h m left g n =
      let k : Flow → List ℤ → ℕ → Got Flow = λ f. all_declare z.inputs ds in
      let hs = and_parts _ _ h in
      each_then (λ m1 left1. each_goes ds hs.1 m1 left1 g) (declare_goes d hs.0 m left (λ f a l. k f a l >>= g) (regroup (declares z.inputs d) k g n))
    where
      each_then : ((m1 : Memory) (left1 : ℕ) → Now z m1 left1 (λ a l. all_declare z.inputs ds a l >>= g) → Comes z (ElidesEach z.p z.inputs z.sight ds m1) (suc left1) g)
          → Comes z (λ r. Stays r × ElidesOne z.p z.inputs z.sight d m r) (suc left) (λ f a l. all_declare z.inputs ds a l >>= g) → Comes z (ElidesEach z.p z.inputs z.sight (d ∷ ds) m) (suc left) g
      each_then more (On m1 e left1 b n) = comes_as (omega arith) (λ r. Next m1 e.1) (more m1 left1 n)
      each_then more (Back v m1 e left1 b n) = absurd e.0
      each_then more (Broken' f e q) = Broken' f (LastOne e.1 tt) q
      each_then more (Limited f l q) = Limited f l q

  pub parallel_goes : (e e' : Expression) (k : ℕ) → IsTrue (statement_is_named z.p z.body (ParallelFor e e' k)) → (m : Memory) (left : ℕ) (g : Flow → List ℤ → ℕ → Got ℤ)
      → Now z m left (λ a l. does z.inputs (ParallelFor e e' k) a l >>= g) → Comes z (Elides z.p z.inputs z.sight (ParallelFor e e' k) m) left g
  parallel_goes e e' k h m left g n =
      let E : Came → Type 0 = Elides z.p z.inputs z.sight (ParallelFor e e' k) m in
      let body = loop_at z.p k in
      let t = and_parts (expression_is_named z.p z.body e && expression_is_named z.p z.body e') (nat_lt k (length z.p.loops) && same_body body.within z.body) h in
      let t' = and_parts (expression_is_named z.p z.body e) (expression_is_named z.p z.body e') t.0 in
      let stands : body.within ≡ z.body = same_body_is body.within z.body (and_parts (nat_lt k (length z.p.loops)) (same_body body.within z.body) t.1).1 in
      tick_comes E _ left g n (λ left1 h1 n.
      with_value E e t'.0 _ g left h1 n (λ low el left2 h2 n.
      with_value E e' t'.1 _ g left h2 n (λ high eh left3 h3 n.
      let l : LoopPart = record { number = k; up = 0; low = low; high = high } in
      split (int_lt low high) (λ a l. Gives None a l) (λ a t. invokes Call (callees.Loop l) a t) g n
      (λ q n. On m (Ascends low high el eh (subst (λ c. ElidesTurns z.p z.inputs z.sight k low c m (GoesOn m)) (sym (turns_none low high q)) NoTurns)) left3 h3 n)
      (λ q n. comes_as (omega arith) (λ r x. Ascends low high el eh x)
      (child_goes (ElidesTurns z.p z.inputs z.sight k low (turns_between low high) m) Call (callees.Loop l) g n
      (λ u es end ok d. ok.loop n.tied m n.m' z.sight z.fr.scope left3 es end l n.same (subst (λ b. SeesAlike z.p n.tied m.reducers b z.sight z.fr.scope) (sym stands) (sees_now n)) (below_from low high q) d))))
      (λ f eh. HighFails low f el eh))
      (λ f el. LowFails f el))

  pub if_goes : (e : Expression) (s : Statement) → IsTrue (expression_is_named z.p z.body e) → ((m : Memory) (left : ℕ) (g : Flow → List ℤ → ℕ → Got ℤ) → Now z m left (λ a l. does z.inputs s a l >>= g) → Comes z (Elides z.p z.inputs z.sight s m) left g)
      → (m : Memory) (left : ℕ) (g : Flow → List ℤ → ℕ → Got ℤ) → Now z m left (λ a l. does z.inputs (If e s) a l >>= g) → Comes z (Elides z.p z.inputs z.sight (If e s) m) left g
  if_goes e s he body m left g n =
      let E : Came → Type 0 = Elides z.p z.inputs z.sight (If e s) m in
      tick_comes E _ left g n (λ left1 h1 n.
      with_value E e he _ g left h1 n (λ v ev left2 h2 n.
      split (is_zero v) (does z.inputs s) (λ a l. Gives None a l) g n
      (λ q n. comes_as (omega arith) (λ r. Holds v ev q) (body m left2 g n))
      (λ q n. On m (Skips v ev q) left2 h2 n))
      (λ f ev. IfFails f ev))

  pub if_else_goes : (e : Expression) (s other : Statement) → IsTrue (expression_is_named z.p z.body e) → ((m : Memory) (left : ℕ) (g : Flow → List ℤ → ℕ → Got ℤ) → Now z m left (λ a l. does z.inputs s a l >>= g) → Comes z (Elides z.p z.inputs z.sight s m) left g)
      → ((m : Memory) (left : ℕ) (g : Flow → List ℤ → ℕ → Got ℤ) → Now z m left (λ a l. does z.inputs other a l >>= g) → Comes z (Elides z.p z.inputs z.sight other m) left g)
      → (m : Memory) (left : ℕ) (g : Flow → List ℤ → ℕ → Got ℤ) → Now z m left (λ a l. does z.inputs (IfElse e s other) a l >>= g) → Comes z (Elides z.p z.inputs z.sight (IfElse e s other) m) left g
  if_else_goes e s other he body body' m left g n =
      let E : Came → Type 0 = Elides z.p z.inputs z.sight (IfElse e s other) m in
      tick_comes E _ left g n (λ left1 h1 n.
      with_value E e he _ g left h1 n (λ v ev left2 h2 n.
      split (is_zero v) (does z.inputs s) (does z.inputs other) g n
      (λ q n. comes_as (omega arith) (λ r. First v ev q) (body m left2 g n))
      (λ q n. comes_as (omega arith) (λ r. Second v ev q) (body' m left2 g n)))
      (λ f ev. IfElseFails f ev))

  pub return_goes : (e : Option Expression) → IsTrue (option_is_named z.p z.body e) → (m : Memory) (left : ℕ) (g : Flow → List ℤ → ℕ → Got ℤ) → Now z m left (λ a l. does z.inputs (Return e) a l >>= g) → Comes z (Elides z.p z.inputs z.sight (Return e) m) left g
  return_goes None h m left g n = tick_comes (Elides z.p z.inputs z.sight (Return None) m) _ left g n (λ left1 h1 n. Back (pos 0) m EndsPlainly left1 h1 n)
  return_goes (Some e) h m left g n =
      let E : Came → Type 0 = Elides z.p z.inputs z.sight (Return (Some e)) m in
      let k : ℤ → Came = λ v. Returns v m in
      tick_comes E _ left g n (λ left1 h1 n.
      with_value E e h _ g left h1 n (λ v ev left2 h2 n. Back v m (Ends e (sym (on_gives k ev))) left2 h2 n) (λ f ev. Ends e (sym (on_fails k ev))))

  pub print_goes : (e : Expression) → IsTrue (expression_is_named z.p z.body e) → (m : Memory) (left : ℕ) (g : Flow → List ℤ → ℕ → Got ℤ) → Now z m left (λ a l. does z.inputs (Print e) a l >>= g) → Comes z (Elides z.p z.inputs z.sight (Print e) m) left g
  print_goes e h m left g n =
      let E : Came → Type 0 = Elides z.p z.inputs z.sight (Print e) m in
      let k : ℤ → Came = λ v. goes_on m (print v m.store) in
      tick_comes E _ left g n (λ left1 h1 n.
      with_value E e h _ g left h1 n (λ v ev left2 h2 n. last_ask E g left h2 (Prints e (sym (on_gives k ev))) (prints (λ v a l. g None a l) v (regroup (ask (asks.Print v)) none g n))) (λ f ev. Prints e (sym (on_fails k ev))))

  pub update_goes : (x : Reducer) (e : Expression) → IsTrue (reducer_is_there z.p z.body x.place x.kind) → IsTrue (expression_is_named z.p z.body e) → (m : Memory) (left : ℕ) (g : Flow → List ℤ → ℕ → Got ℤ)
      → Now z m left (λ a l. does z.inputs (Update x e) a l >>= g) → Comes z (Elides z.p z.inputs z.sight (Update x e) m) left g
  update_goes x e hx h m left g n =
      let E : Came → Type 0 = Elides z.p z.inputs z.sight (Update x e) m in
      let k : ℤ → Came = λ v. goes_on m (update nat_eq x.kind (reducer_at z.sight x) v m.store) in
      tick_comes E _ left g n (λ left1 h1 n.
      with_value E e h _ g left h1 n (λ v ev left2 h2 n. last_ask E g left h2 (Updates x e (sym (on_gives k ev))) (updates (λ v a l. g None a l) x hx v (regroup (ask (asks.Update x v)) none g n))) (λ f ev. Updates x e (sym (on_fails k ev))))

  pub set_goes : (x : Reducer) (e : Expression) → IsTrue (reducer_is_there z.p z.body x.place x.kind) → IsTrue (expression_is_named z.p z.body e) → (m : Memory) (left : ℕ) (g : Flow → List ℤ → ℕ → Got ℤ)
      → Now z m left (λ a l. does z.inputs (Set x e) a l >>= g) → Comes z (Elides z.p z.inputs z.sight (Set x e) m) left g
  set_goes x e hx h m left g n =
      let E : Came → Type 0 = Elides z.p z.inputs z.sight (Set x e) m in
      let k : ℤ → Came = λ v. goes_on m (set nat_eq x.kind (reducer_at z.sight x) v m.store) in
      tick_comes E _ left g n (λ left1 h1 n.
      with_value E e h _ g left h1 n (λ v ev left2 h2 n. last_ask E g left h2 (Sets x e (sym (on_gives k ev))) (sets (λ v a l. g None a l) x hx v (regroup (ask (asks.Set x v)) none g n))) (λ f ev. Sets x e (sym (on_fails k ev))))

  pub sync_goes : (m : Memory) (left : ℕ) (g : Flow → List ℤ → ℕ → Got ℤ) → Now z m left (λ a l. does z.inputs Sync a l >>= g) → Comes z (Elides z.p z.inputs z.sight Sync m) left g
  sync_goes m left g n =
      tick_comes (Elides z.p z.inputs z.sight Sync m) _ left g n (λ left1 h1 n. last_ask (Elides z.p z.inputs z.sight Sync m) g left h1 Syncs (syncs (λ v a l. g None a l) (regroup (ask asks.Sync) none g n)))
