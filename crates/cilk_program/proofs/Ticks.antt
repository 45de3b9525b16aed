-- No part of a frame's behaviour gives ticks back, and each statement uses one. So a loop has
-- enough turns.
use Rattle.std.proofs.Common.{◌≡◌, ℕ, zero, suc, ◌<◌, ◌≤◌, ℤ, pos, neg_ℤ, Bool, true, false, if◌then◌else◌, int_lt, List, [], ◌∷◌, Option, Some, None, refl, ap, arith, lt-suc_self}
use Rattle.cilk_types.specs.Input.{input_at, input_count}
use Rattle.cilk_types.specs.Word.{word_of}
use Rattle.cilk_types.specs.declared.fault.Fault.{Fault}
use Rattle.cilk_types.specs.declared.fault.Fault.TheVariants.{DivisionByZero, IndexOutside, InputOutside}
use Rattle.cilk_program.specs.declared.ask.Ask.{Ask}
use Rattle.cilk_program.specs.declared.ask.Ask.TheVariants as asks
use Rattle.cilk_program.specs.declared.ask.Callee.{Callee}
use Rattle.cilk_program.specs.declared.ask.Callee.TheVariants as callees
use Rattle.cilk_types.specs.declared.invocation.Invocation.{Invocation}
use Rattle.cilk_types.specs.declared.invocation.Invocation.TheVariants.{Call}
use Rattle.cilk_program.specs.declared.syntax.Place.TheVariants as places
use Rattle.cilk_program.specs.Operators.{is_zero, truth, truth_of, apply, change}
use Rattle.cilk_program.specs.Syntax.{Expression, Number, Variable, Element, Negate, Not, Binary, And, Or, Value, Input, InputCount, Target, ToVariable, ToElement, Invoke, Declaration, Zero, Opening, Invoking, Statement, Empty, Block, Declare, Assign, Change, Step, Invokes, Sync, If, IfElse, For, ParallelFor, Print, Update, Set, Return, Statements, Nothing, Then, element, place_of}
use Rattle.cilk_program.specs.Behaviour.{Got, Gives, Asks, ◌>>=◌, tick, ask, tick_gives, or_fault, chosen, value, values, index_of, Flow, unless_returned, invokes, invokes_function, declares, all_declare, condition, turns, parallel_turns, return_value, does, all_do}

-- fewer ticks than these are left
abbrev pub Below : {A : Type 0} → ℕ → Got A → Type 0
Below n (Gives v answers left) = left < n
Below n (Asks k) = Unit {0}

lower : {A : Type 0} (n k : ℕ) (x : Got A) → n ≤ k → Below n x → Below k x
lower n k (Gives v a l) h b = omega arith
lower n k (Asks q) h b = tt

bind_below : {A B : Type 0} (n : ℕ) (x : Got A) (f : A → List ℤ → ℕ → Got B) → Below n x → ((v : A) (a : List ℤ) (l : ℕ) → Below (suc l) (f v a l)) → Below n (x >>= f)
bind_below n (Gives v a l) f h g = let h' : suc l ≤ n = h in lower (suc l) n (f v a l) h' (g v a l)
bind_below n (Asks k) f h g = tt

tick_below : (a : List ℤ) (l : ℕ) → Below l (tick a l)
tick_below a zero = tt
tick_below a (suc l) = (lt-suc_self l)

tick_below' : (a : List ℤ) (l : ℕ) → Below (suc l) (tick a l)
tick_below' a l = lower l (suc l) (tick a l) (omega arith) (tick_below a l)

ask_below : (k : Ask) (a : List ℤ) (l : ℕ) → Below (suc l) (ask k a l)
ask_below k [] l = tt
ask_below k (v ∷ a) l = (lt-suc_self l)

tick_gives_below : (v : ℤ) (a : List ℤ) (l : ℕ) → Below (suc l) (tick_gives v a l)
tick_gives_below v a l = bind_below (suc l) (tick a l) (λ _. Gives v) (tick_below' a l) (λ u a l. (lt-suc_self l))

or_fault_below : {A : Type 0} (f : Fault) (o : Option A) (a : List ℤ) (l : ℕ) → Below (suc l) (or_fault f o a l)
or_fault_below f None a l = tt
or_fault_below f (Some v) a l = (lt-suc_self l)

if_below : {A : Type 0} (n : ℕ) (t : Bool) (x y : Got A) → Below n x → Below n y → Below n (if t then x else y)
if_below n true x y h g = h
if_below n false x y h g = g

abbrev goes_on : ℤ → List ℤ → ℕ → Got Flow
goes_on v = Gives None

module _ (inputs : List ℤ) where
  value_below : (e : Expression) (a : List ℤ) (l : ℕ) → Below (suc l) (value inputs e a l)
  value_below (Number n) a l = tick_gives_below n a l
  value_below (Variable x) a l = bind_below (suc l) (tick a l) _ (tick_below' a l) (λ u. ask_below (asks.Read x))
  value_below (Element y e) a l =
      bind_below (suc l) (value inputs e a l) _ (value_below e a l) (λ i a l. bind_below (suc l) (or_fault IndexOutside (element y i) a l) _ (or_fault_below IndexOutside (element y i) a l)
      (λ x a l. bind_below (suc l) (tick a l) _ (tick_below' a l) (λ u. ask_below (asks.Read x))))
  value_below (Negate e) a l = bind_below (suc l) (value inputs e a l) _ (value_below e a l) (λ x. tick_gives_below (word_of (neg_ℤ x)))
  value_below (Not e) a l = bind_below (suc l) (value inputs e a l) _ (value_below e a l) (λ x. tick_gives_below (truth_of (is_zero x)))
  value_below (Binary op d e) a l =
      bind_below (suc l) (value inputs d a l) _ (value_below d a l) (λ x a l. bind_below (suc l) (value inputs e a l) _ (value_below e a l)
      (λ y a l. bind_below (suc l) (or_fault DivisionByZero (apply op x y) a l) tick_gives (or_fault_below DivisionByZero (apply op x y) a l) tick_gives_below))
  value_below (And d e) a l =
      bind_below (suc l) (value inputs d a l) _ (value_below d a l) (λ x a l. if_below (suc l) (is_zero x) (tick_gives (pos 0) a l) (value inputs e a l >>= λ y. tick_gives (truth y)) (tick_gives_below (pos 0) a l)
      (bind_below (suc l) (value inputs e a l) _ (value_below e a l) (λ y. tick_gives_below (truth y))))
  value_below (Or d e) a l =
      bind_below (suc l) (value inputs d a l) _ (value_below d a l) (λ x a l. if_below (suc l) (is_zero x) (value inputs e a l >>= λ y. tick_gives (truth y)) (tick_gives (pos 1) a l)
      (bind_below (suc l) (value inputs e a l) _ (value_below e a l) (λ y. tick_gives_below (truth y))) (tick_gives_below (pos 1) a l))
  value_below (Value r) a l = bind_below (suc l) (tick a l) _ (tick_below' a l) (λ u. ask_below (asks.Value r))
  value_below (Input e) a l =
      bind_below (suc l) (value inputs e a l) _ (value_below e a l)
      (λ x a l. bind_below (suc l) (or_fault InputOutside (input_at inputs x) a l) tick_gives (or_fault_below InputOutside (input_at inputs x) a l) tick_gives_below)
  value_below InputCount a l = tick_gives_below (input_count inputs) a l

  values_below : (es : List Expression) (a : List ℤ) (l : ℕ) → Below (suc l) (values inputs es a l)
  values_below [] a l = (lt-suc_self l)
  values_below (e ∷ es) a l =
      bind_below (suc l) (value inputs e a l) _ (value_below e a l) (λ v a l. bind_below (suc l) (values inputs es a l) _ (values_below es a l) (λ vs a l. (lt-suc_self l)))

  index_below : (t : Target) (a : List ℤ) (l : ℕ) → Below (suc l) (index_of inputs t a l)
  index_below (ToVariable x) a l = (lt-suc_self l)
  index_below (ToElement y e) a l = value_below e a l

  pub condition_below : (test : Option Expression) (a : List ℤ) (l : ℕ) → Below (suc l) (condition inputs test a l)
  condition_below None a l = (lt-suc_self l)
  condition_below (Some e) a l = value_below e a l

  return_below : (e : Option Expression) (a : List ℤ) (l : ℕ) → Below (suc l) (return_value inputs e a l)
  return_below None a l = (lt-suc_self l)
  return_below (Some e) a l = bind_below (suc l) (value inputs e a l) _ (value_below e a l) (λ v a l. (lt-suc_self l))

  asked_below : (k : Ask) (a : List ℤ) (l : ℕ) → Below (suc l) (ask k a l >>= goes_on)
  asked_below k a l = bind_below (suc l) (ask k a l) _ (ask_below k a l) (λ v a l. (lt-suc_self l))

  invokes_below : (how : Invocation) (c : Callee) (a : List ℤ) (l : ℕ) → Below (suc l) (invokes how c a l)
  invokes_below how c a l = bind_below (suc l) (ask (asks.Invoke how c) a l) _ (ask_below (asks.Invoke how c) a l) (λ v. asked_below asks.Resume)

  function_below : (i : Invoke) (a : List ℤ) (l : ℕ) → Below (suc l) (invokes_function inputs i a l)
  function_below i a l =
      bind_below (suc l) (values inputs i.arguments a l) _ (values_below i.arguments a l)
      (λ vs. invokes_below i.how (callees.Function (record { function = i.function; words = vs; reducers = i.reducers; result = i.result })))

  declares_below : (d : Declaration) (a : List ℤ) (l : ℕ) → Below (suc l) (declares inputs d a l)
  declares_below (Zero n) a l = asked_below (asks.Write (places.Local 0 n) (pos 0)) a l
  declares_below (Opening n e) a l = bind_below (suc l) (value inputs e a l) _ (value_below e a l) (λ v. asked_below (asks.Write (places.Local 0 n) v))
  declares_below (Invoking i) a l = function_below i a l

  all_declare_below : (ds : List Declaration) (a : List ℤ) (l : ℕ) → Below (suc l) (all_declare inputs ds a l)
  all_declare_below [] a l = (lt-suc_self l)
  all_declare_below (d ∷ ds) a l = bind_below (suc l) (declares inputs d a l) _ (declares_below d a l) (λ _. all_declare_below ds)

unless_below : (f : Flow) (go : List ℤ → ℕ → Got Flow) → ((a : List ℤ) (l : ℕ) → Below (suc l) (go a l)) → (a : List ℤ) (l : ℕ) → Below (suc l) (unless_returned f go a l)
unless_below None go h a l = h a l
unless_below (Some v) go h a l = (lt-suc_self l)

module _ (test : List ℤ → ℕ → Got ℤ) (body step : List ℤ → ℕ → Got Flow)
    (tested : (a : List ℤ) (l : ℕ) → Below (suc l) (test a l)) (walked : (a : List ℤ) (l : ℕ) → Below l (body a l)) (stepped : (a : List ℤ) (l : ℕ) → Below (suc l) (step a l)) where
  turns_below : (n : ℕ) (a : List ℤ) (l : ℕ) → Below (suc l) (turns n test body step a l)
  turns_below zero a l = tt
  turns_below (suc n) a l =
      bind_below (suc l) (test a l) _ (tested a l)
      (λ v a l. if_below (suc l) (is_zero v) (Gives None a l) (body a l >>= λ f. unless_returned f (λ a l. step a l >>= λ g. unless_returned g (turns n test body step)))
      (lt-suc_self l)
      (bind_below (suc l) (body a l) _ (lower l (suc l) (body a l) (omega arith) (walked a l))
      (λ f a l. unless_below f (λ a l. step a l >>= λ g. unless_returned g (turns n test body step)) (λ a l. bind_below (suc l) (step a l) _ (stepped a l) (λ g a l. unless_below g (turns n test body step) (turns_below n) a l)) a l)))

  bind_same : {A : Type 0} (n : ℕ) (x : Got A) (f g : A → List ℤ → ℕ → Got Flow) → Below n x → ((v : A) (a : List ℤ) (l : ℕ) → l < n → f v a l ≡ g v a l) → x >>= f ≡ x >>= g
  bind_same n (Gives v a l) f g h e = e v a l h
  bind_same n (Asks k) f g h e = refl

  unless_same : (f : Flow) (x y : List ℤ → ℕ → Got Flow) (a : List ℤ) (l : ℕ) → x a l ≡ y a l → unless_returned f x a l ≡ unless_returned f y a l
  unless_same None x y a l e = e
  unless_same (Some v) x y a l e = refl

  -- further turns than there are ticks make no difference
  pub turns_enough : (n k : ℕ) (a : List ℤ) (l : ℕ) → l < n → l < k → turns n test body step a l ≡ turns k test body step a l
  turns_enough zero k a l h h' = absurd (omega arith)
  turns_enough (suc n) zero a l h h' = absurd (omega arith)
  turns_enough (suc n) (suc k) a l h h' =
      bind_same (suc l) (test a l) _ _ (tested a l)
      (λ v a1 l1 h1. ap (λ x. if is_zero v then Gives None a1 l1 else x)
      (bind_same l1 (body a1 l1) _ _ (walked a1 l1)
      (λ f a2 l2 h2. unless_same f _ _ a2 l2 (bind_same (suc l2) (step a2 l2) _ _ (stepped a2 l2)
      (λ g a3 l3 h3. unless_same g _ _ a3 l3 (turns_enough n k a3 l3 (omega arith) (omega arith)))))))

  -- a loop with enough turns: its condition, its body, its step, and the loop again
  abbrev pub loops : List ℤ → ℕ → Got Flow
  loops a l = turns (suc l) test body step a l

  pub loops_once : (a : List ℤ) (l : ℕ)
      → loops a l ≡ test a l >>= λ v a l. chosen v (body a l >>= λ f. unless_returned f (λ a l. step a l >>= λ g. unless_returned g loops)) (Gives None a l)
  loops_once a l =
      bind_same (suc l) (test a l) _ _ (tested a l)
      (λ v a1 l1 h1. ap (λ x. if is_zero v then Gives None a1 l1 else x)
      (bind_same l1 (body a1 l1) _ _ (walked a1 l1)
      (λ f a2 l2 h2. unless_same f _ _ a2 l2 (bind_same (suc l2) (step a2 l2) _ _ (stepped a2 l2)
      (λ g a3 l3 h3. unless_same g _ _ a3 l3 (turns_enough l (suc l3) a3 l3 (omega arith) (omega arith)))))))

module _ (inputs : List ℤ) where
  ticked : {A : Type 0} (f : List ℤ → ℕ → Got A) (a : List ℤ) (l : ℕ) → ((a : List ℤ) (l : ℕ) → Below (suc l) (f a l)) → Below l (tick a l >>= λ _. f)
  ticked f a l h = bind_below l (tick a l) (λ _. f) (tick_below a l) (λ u. h)

  with_value : {A : Type 0} (e : Expression) (f : ℤ → List ℤ → ℕ → Got A) → ((v : ℤ) (a : List ℤ) (l : ℕ) → Below (suc l) (f v a l)) → (a : List ℤ) (l : ℕ) → Below (suc l) (value inputs e a l >>= f)
  with_value e f h a l = bind_below (suc l) (value inputs e a l) f (value_below inputs e a l) h

  parallel_below : (n : ℕ) (low high : ℤ) (a : List ℤ) (l : ℕ) → Below (suc l) (parallel_turns n low high a l)
  parallel_below n low high a l =
      let c : Callee = callees.Loop (record { number = n; up = 0; low = low; high = high }) in
      if_below (suc l) (int_lt low high) (invokes Call c a l) (Gives None a l) (invokes_below inputs Call c a l) (lt-suc_self l)

  mutual
    pub does_below : (s : Statement) (a : List ℤ) (l : ℕ) → Below l (does inputs s a l)
    does_below Empty a l = ticked {A = Flow} (Gives None) a l (λ a l. (lt-suc_self l))
    does_below (Block row) a l = ticked (all_do inputs row) a l (all_below row)
    does_below (Declare ds) a l = ticked (all_declare inputs ds) a l (all_declare_below inputs ds)
    does_below (Assign t e) a l =
        ticked _ a l (λ a l. bind_below (suc l) (index_of inputs t a l) _ (index_below inputs t a l) (λ i. with_value e _ (λ v a l. bind_below (suc l) (or_fault IndexOutside (place_of t i) a l) _ (or_fault_below IndexOutside (place_of t i) a l)
        (λ x. asked_below inputs (asks.Write x v)))))
    does_below (Change t op e) a l =
        ticked _ a l (λ a l. bind_below (suc l) (index_of inputs t a l) _ (index_below inputs t a l) (λ i a l. bind_below (suc l) (or_fault IndexOutside (place_of t i) a l) _ (or_fault_below IndexOutside (place_of t i) a l)
        (λ x a l. bind_below (suc l) (ask (asks.Read x) a l) _ (ask_below (asks.Read x) a l) (λ old. with_value e _ (λ v. asked_below inputs (asks.Write x (change op old v)))))))
    does_below (Step t n) a l =
        ticked _ a l (λ a l. bind_below (suc l) (index_of inputs t a l) _ (index_below inputs t a l) (λ i a l. bind_below (suc l) (or_fault IndexOutside (place_of t i) a l) _ (or_fault_below IndexOutside (place_of t i) a l)
        (λ x a l. bind_below (suc l) (ask (asks.Read x) a l) _ (ask_below (asks.Read x) a l) (λ old. asked_below inputs (asks.Write x _)))))
    does_below (Invokes i) a l = ticked (invokes_function inputs i) a l (function_below inputs i)
    does_below Sync a l = ticked _ a l (asked_below inputs asks.Sync)
    does_below (If e s) a l =
        ticked _ a l (with_value e _ (λ v a l. if_below (suc l) (is_zero v) (Gives None a l) (does inputs s a l) (lt-suc_self l) (lower l (suc l) (does inputs s a l) (omega arith) (does_below s a l))))
    does_below (IfElse e s other) a l =
        ticked _ a l (with_value e _ (λ v a l. if_below (suc l) (is_zero v) (does inputs other a l) (does inputs s a l) (lower l (suc l) (does inputs other a l) (omega arith) (does_below other a l)) (lower l (suc l) (does inputs s a l) (omega arith) (does_below s a l))))
    does_below (For row test step s) a l =
        ticked _ a l (λ a l. bind_below (suc l) (all_do inputs row a l) _ (all_below row a l) (λ f. unless_below f (λ a l. turns (suc l) (condition inputs test) (does inputs s) (all_do inputs step) a l)
        (λ a l. turns_below (condition inputs test) (does inputs s) (all_do inputs step) (condition_below inputs test) (does_below s) (all_below step) (suc l) a l)))
    does_below (ParallelFor e e' n) a l = ticked _ a l (with_value e _ (λ low. with_value e' _ (λ high. parallel_below n low high)))
    does_below (Print e) a l = ticked _ a l (with_value e _ (λ v. asked_below inputs (asks.Print v)))
    does_below (Update r e) a l = ticked _ a l (with_value e _ (λ v. asked_below inputs (asks.Update r v)))
    does_below (Set r e) a l = ticked _ a l (with_value e _ (λ v. asked_below inputs (asks.Set r v)))
    does_below (Return e) a l = ticked (return_value inputs e) a l (return_below inputs e)

    pub all_below : (row : Statements) (a : List ℤ) (l : ℕ) → Below (suc l) (all_do inputs row a l)
    all_below Nothing a l = (lt-suc_self l)
    all_below (Then s row) a l = bind_below (suc l) (does inputs s a l) _ (lower l (suc l) (does inputs s a l) (omega arith) (does_below s a l)) (λ f. unless_below f (all_do inputs row) (all_below row))
