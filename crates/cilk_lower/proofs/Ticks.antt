-- A value uses at least one tick, and so does a statement. Neither gives any back.
use Rattle.std.proofs.Common.{ℕ, zero, suc, ◌<◌, ◌≤◌, ℤ, pos, ◌+ℤ◌, neg_ℤ, Bool, true, false, List, [], ◌∷◌, Option, Some, None, arith, if◌then◌else◌}
use Rattle.std.specs.Prelude.{int_lt}
use Rattle.cilk_types.specs.Input.{input_at, input_count}
use Rattle.cilk_types.specs.Word.{word_of}
use Rattle.cilk_types.specs.declared.fault.Fault.{Fault}
use Rattle.cilk_types.specs.declared.fault.Fault.TheVariants.{DivisionByZero, IndexOutside, InputOutside}
use Rattle.cilk_program.specs.declared.ask.Ask.{Ask}
use Rattle.cilk_program.specs.declared.ask.Ask.TheVariants as asks
use Rattle.cilk_program.specs.declared.ask.Callee.{Callee}
use Rattle.cilk_types.specs.declared.invocation.Invocation.{Invocation}
use Rattle.cilk_program.specs.Syntax.{Expression, Number, Variable, Element, Negate, Not, Binary, And, Or, Value, Input, InputCount, Target, ToVariable, ToElement, Invoke, Declaration, Zero, Opening, Invoking, Statement, Empty, Block, Declare, Assign, Change, Step, Invokes, Sync, If, IfElse, For, ParallelFor, Print, Update, Set, Return, Statements, Nothing, Then, element, place_of}
use Rattle.cilk_program.specs.Operators.{is_zero, truth, truth_of, apply, change}
use Rattle.cilk_program.specs.Behaviour.{Got, Gives, Asks, ◌>>=◌, tick, ask, tick_gives, or_fault, value, values, index_of, Flow, unless_returned, invokes, invokes_function, declares, all_declare, condition, turns, parallel_turns, return_value, does, all_do}

-- the ticks left are fewer, or at most the same
abbrev pub Takes : {A : Type 0} → ℕ → Got A → Type 0
Takes l (Gives v a l') = l' < l
Takes l (Asks k) = Unit {0}

abbrev pub Keeps : {A : Type 0} → ℕ → Got A → Type 0
Keeps l (Gives v a l') = l' ≤ l
Keeps l (Asks k) = Unit {0}

takes_less : {A : Type 0} (l l1 : ℕ) (g : Got A) → l1 < l → Keeps l1 g → Takes l g
takes_less l l1 (Gives v a l2) low h = omega arith
takes_less l l1 (Asks k) low h = tt

keeps_less : {A : Type 0} (l l1 : ℕ) (g : Got A) → l1 ≤ l → Keeps l1 g → Keeps l g
keeps_less l l1 (Gives v a l2) low h = omega arith
keeps_less l l1 (Asks k) low h = tt

pub takes_keeps : {A : Type 0} (l : ℕ) (g : Got A) → Takes l g → Keeps l g
takes_keeps l (Gives v a l2) h = omega arith
takes_keeps l (Asks k) h = tt

takes_then : {A B : Type 0} (l : ℕ) (g : Got A) (f : A → List ℤ → ℕ → Got B) → Takes l g → ((v : A) (a : List ℤ) (l1 : ℕ) → Keeps l1 (f v a l1)) → Takes l (g >>= f)
takes_then l (Gives v a l1) f h k = takes_less l l1 (f v a l1) h (k v a l1)
takes_then l (Asks k) f h r = tt

keeps_then : {A B : Type 0} (l : ℕ) (g : Got A) (f : A → List ℤ → ℕ → Got B) → Keeps l g → ((v : A) (a : List ℤ) (l1 : ℕ) → Keeps l1 (f v a l1)) → Keeps l (g >>= f)
keeps_then l (Gives v a l1) f h k = keeps_less l l1 (f v a l1) h (k v a l1)
keeps_then l (Asks k) f h r = tt

tick_takes : (a : List ℤ) (l : ℕ) → Takes l (tick a l)
tick_takes a zero = tt
tick_takes a (suc l) = omega arith

ask_keeps : (k : Ask) (a : List ℤ) (l : ℕ) → Keeps l (ask k a l)
ask_keeps k [] l = tt
ask_keeps k (v ∷ a) l = omega arith

tick_gives_takes : (v : ℤ) (a : List ℤ) (l : ℕ) → Takes l (tick_gives v a l)
tick_gives_takes v a zero = tt
tick_gives_takes v a (suc l) = omega arith

tick_gives_keeps : (v : ℤ) (a : List ℤ) (l : ℕ) → Keeps l (tick_gives v a l)
tick_gives_keeps v a l = takes_keeps l _ (tick_gives_takes v a l)

or_fault_keeps : {A : Type 0} (f : Fault) (o : Option A) (a : List ℤ) (l : ℕ) → Keeps l (or_fault f o a l)
or_fault_keeps f None a l = tt
or_fault_keeps f (Some v) a l = omega arith

keeps_if : {A : Type 0} (t : Bool) (l : ℕ) (x y : Got A) → Keeps l x → Keeps l y → Keeps l (if t then x else y)
keeps_if true l x y h k = h
keeps_if false l x y h k = k

-- a request, then another part
asked_keeps : {A : Type 0} (k : Ask) (f : ℤ → List ℤ → ℕ → Got A) → ((v : ℤ) (a : List ℤ) (l : ℕ) → Keeps l (f v a l)) → (a : List ℤ) (l : ℕ) → Keeps l (ask k a l >>= f)
asked_keeps k f h a l = keeps_then l (ask k a l) f (ask_keeps k a l) h

-- a check, then another part
checked_keeps : {A B : Type 0} (x : Fault) (o : Option A) (f : A → List ℤ → ℕ → Got B) → ((v : A) (a : List ℤ) (l : ℕ) → Keeps l (f v a l)) → (a : List ℤ) (l : ℕ) → Keeps l (or_fault x o a l >>= f)
checked_keeps x o f h a l = keeps_then l (or_fault x o a l) f (or_fault_keeps x o a l) h

pub value_takes : (inputs : List ℤ) (e : Expression) (a : List ℤ) (l : ℕ) → Takes l (value inputs e a l)
value_takes inputs (Number n) a l = tick_gives_takes n a l
value_takes inputs (Variable x) a l = takes_then l (tick a l) _ (tick_takes a l) (λ v a l. ask_keeps (asks.Read x) a l)
value_takes inputs (Element arr e) a l =
    takes_then l (value inputs e a l) _ (value_takes inputs e a l) (λ i. checked_keeps IndexOutside (element arr i) (λ x a l. tick a l >>= λ _. ask (asks.Read x))
    (λ x a l. keeps_then l (tick a l) _ (takes_keeps l _ (tick_takes a l)) (λ _ a l. ask_keeps (asks.Read x) a l)))
value_takes inputs (Negate e) a l = takes_then l (value inputs e a l) _ (value_takes inputs e a l) (λ x a l. tick_gives_keeps (word_of (neg_ℤ x)) a l)
value_takes inputs (Not e) a l = takes_then l (value inputs e a l) _ (value_takes inputs e a l) (λ x a l. tick_gives_keeps (truth_of (is_zero x)) a l)
value_takes inputs (Binary op e f) a l =
    takes_then l (value inputs e a l) _ (value_takes inputs e a l) (λ x a l.
    keeps_then l (value inputs f a l) _ (takes_keeps l _ (value_takes inputs f a l)) (λ y. checked_keeps DivisionByZero (apply op x y) tick_gives tick_gives_keeps))
value_takes inputs (And e f) a l =
    takes_then l (value inputs e a l) _ (value_takes inputs e a l) (λ x a l. keeps_if (is_zero x) l _ _ (tick_gives_keeps (pos 0) a l)
    (keeps_then l (value inputs f a l) _ (takes_keeps l _ (value_takes inputs f a l)) (λ y a l. tick_gives_keeps (truth y) a l)))
value_takes inputs (Or e f) a l =
    takes_then l (value inputs e a l) _ (value_takes inputs e a l) (λ x a l. keeps_if (is_zero x) l _ _
    (keeps_then l (value inputs f a l) _ (takes_keeps l _ (value_takes inputs f a l)) (λ y a l. tick_gives_keeps (truth y) a l)) (tick_gives_keeps (pos 1) a l))
value_takes inputs (Value r) a l = takes_then l (tick a l) _ (tick_takes a l) (λ v a l. ask_keeps (asks.Value r) a l)
value_takes inputs (Input e) a l = takes_then l (value inputs e a l) _ (value_takes inputs e a l) (λ x. checked_keeps InputOutside (input_at inputs x) tick_gives tick_gives_keeps)
value_takes inputs InputCount a l = tick_gives_takes (input_count inputs) a l

-- a value, then another part
valued_keeps : {A : Type 0} (inputs : List ℤ) (e : Expression) (f : ℤ → List ℤ → ℕ → Got A) → ((v : ℤ) (a : List ℤ) (l : ℕ) → Keeps l (f v a l)) → (a : List ℤ) (l : ℕ) → Keeps l (value inputs e a l >>= f)
valued_keeps inputs e f h a l = keeps_then l (value inputs e a l) f (takes_keeps l _ (value_takes inputs e a l)) h

values_keeps : (inputs : List ℤ) (es : List Expression) (a : List ℤ) (l : ℕ) → Keeps l (values inputs es a l)
values_keeps inputs [] a l = omega arith
values_keeps inputs (e ∷ es) a l =
    valued_keeps inputs e (λ v a l. values inputs es a l >>= λ vs. Gives (v ∷ vs)) (λ v a l. keeps_then l (values inputs es a l) _ (values_keeps inputs es a l) (λ vs a l. omega arith)) a l

-- a target's index, then another part
indexed_keeps : {A : Type 0} (inputs : List ℤ) (t : Target) (f : ℤ → List ℤ → ℕ → Got A) → ((v : ℤ) (a : List ℤ) (l : ℕ) → Keeps l (f v a l)) → (a : List ℤ) (l : ℕ) → Keeps l (index_of inputs t a l >>= f)
indexed_keeps inputs (ToVariable x) f h a l = h (pos 0) a l
indexed_keeps inputs (ToElement arr e) f h a l = valued_keeps inputs e f h a l

none_keeps : (a : List ℤ) (l : ℕ) → Keeps {A = Flow} l (Gives None a l)
none_keeps a l = omega arith

-- the last request of a statement
last_keeps : (k : Ask) (a : List ℤ) (l : ℕ) → Keeps {A = Flow} l (ask k a l >>= λ _. Gives None)
last_keeps k a l = asked_keeps {A = Flow} k (λ _. Gives None) (λ _. none_keeps) a l

invokes_keeps : (how : Invocation) (c : Callee) (a : List ℤ) (l : ℕ) → Keeps l (invokes how c a l)
invokes_keeps how c a l = asked_keeps (asks.Invoke how c) _ (λ _. last_keeps asks.Resume) a l

function_keeps : (inputs : List ℤ) (i : Invoke) (a : List ℤ) (l : ℕ) → Keeps l (invokes_function inputs i a l)
function_keeps inputs i a l = keeps_then l (values inputs i.arguments a l) _ (values_keeps inputs i.arguments a l) (λ vs a l. invokes_keeps i.how _ a l)

declares_keeps : (inputs : List ℤ) (d : Declaration) (a : List ℤ) (l : ℕ) → Keeps l (declares inputs d a l)
declares_keeps inputs (Zero n) a l = last_keeps _ a l
declares_keeps inputs (Opening n e) a l = valued_keeps inputs e _ (λ v a l. last_keeps _ a l) a l
declares_keeps inputs (Invoking i) a l = function_keeps inputs i a l

all_declare_keeps : (inputs : List ℤ) (ds : List Declaration) (a : List ℤ) (l : ℕ) → Keeps l (all_declare inputs ds a l)
all_declare_keeps inputs [] a l = omega arith
all_declare_keeps inputs (d ∷ ds) a l = keeps_then l (declares inputs d a l) _ (declares_keeps inputs d a l) (λ _. all_declare_keeps inputs ds)

pub condition_keeps : (inputs : List ℤ) (test : Option Expression) (a : List ℤ) (l : ℕ) → Keeps l (condition inputs test a l)
condition_keeps inputs None a l = omega arith
condition_keeps inputs (Some e) a l = takes_keeps l _ (value_takes inputs e a l)

keeps_unless : (f : Flow) (go : List ℤ → ℕ → Got Flow) (a : List ℤ) (l : ℕ) → ((a : List ℤ) (l : ℕ) → Keeps l (go a l)) → Keeps l (unless_returned f go a l)
keeps_unless None go a l h = h a l
keeps_unless (Some v) go a l h = omega arith

turns_keeps : (n : ℕ) (test : List ℤ → ℕ → Got ℤ) (body step : List ℤ → ℕ → Got Flow) → ((a : List ℤ) (l : ℕ) → Keeps l (test a l)) → ((a : List ℤ) (l : ℕ) → Keeps l (body a l)) → ((a : List ℤ) (l : ℕ) → Keeps l (step a l)) → (a : List ℤ) (l : ℕ) → Keeps l (turns n test body step a l)
turns_keeps zero test body step ht hb hs a l = tt
turns_keeps (suc n) test body step ht hb hs a l =
    keeps_then l (test a l) _ (ht a l) (λ v a l. keeps_if (is_zero v) l _ _ (omega arith)
    (keeps_then l (body a l) _ (hb a l) (λ f a l. keeps_unless f _ a l
    (λ a l. keeps_then l (step a l) _ (hs a l) (λ g a l. keeps_unless g (turns n test body step) a l (turns_keeps n test body step ht hb hs))))))

parallel_keeps : (n : ℕ) (low high : ℤ) (a : List ℤ) (l : ℕ) → Keeps l (parallel_turns n low high a l)
parallel_keeps n low high a l = keeps_if (int_lt low high) l _ _ (invokes_keeps _ _ a l) (omega arith)

return_keeps : (inputs : List ℤ) (e : Option Expression) (a : List ℤ) (l : ℕ) → Keeps l (return_value inputs e a l)
return_keeps inputs None a l = omega arith
return_keeps inputs (Some e) a l = valued_keeps inputs e _ (λ v a l. omega arith) a l

-- a tick, then another part
ticked_takes : (f : List ℤ → ℕ → Got Flow) → ((a : List ℤ) (l : ℕ) → Keeps l (f a l)) → (a : List ℤ) (l : ℕ) → Takes l (tick a l >>= λ _. f)
ticked_takes f h a l = takes_then l (tick a l) _ (tick_takes a l) (λ _ a l. h a l)

mutual
  pub does_takes : (inputs : List ℤ) (s : Statement) (a : List ℤ) (l : ℕ) → Takes l (does inputs s a l)
  does_takes inputs Empty a l = ticked_takes (Gives None) none_keeps a l
  does_takes inputs (Block row) a l = ticked_takes (all_do inputs row) (all_keeps inputs row) a l
  does_takes inputs (Declare ds) a l = ticked_takes (all_declare inputs ds) (all_declare_keeps inputs ds) a l
  does_takes inputs (Assign t e) a l =
      ticked_takes _ (indexed_keeps inputs t _ (λ i. valued_keeps inputs e _ (λ v. checked_keeps IndexOutside (place_of t i) _ (λ x a l. last_keeps (asks.Write x v) a l)))) a l
  does_takes inputs (Change t op e) a l =
      ticked_takes _ (indexed_keeps inputs t _ (λ i. checked_keeps IndexOutside (place_of t i) _ (λ x. asked_keeps (asks.Read x) _
      (λ old. valued_keeps inputs e _ (λ v a l. last_keeps (asks.Write x (change op old v)) a l))))) a l
  does_takes inputs (Step t n) a l =
      ticked_takes _ (indexed_keeps inputs t _ (λ i. checked_keeps IndexOutside (place_of t i) _ (λ x. asked_keeps (asks.Read x) _
      (λ old a l. last_keeps (asks.Write x (word_of (old +ℤ n))) a l)))) a l
  does_takes inputs (Invokes i) a l = ticked_takes (invokes_function inputs i) (function_keeps inputs i) a l
  does_takes inputs Sync a l = ticked_takes _ (last_keeps asks.Sync) a l
  does_takes inputs (If e s) a l =
      ticked_takes _ (valued_keeps inputs e _ (λ v a l. keeps_if (is_zero v) l _ _ (none_keeps a l) (takes_keeps l _ (does_takes inputs s a l)))) a l
  does_takes inputs (IfElse e s other) a l =
      ticked_takes _ (valued_keeps inputs e _ (λ v a l. keeps_if (is_zero v) l _ _ (takes_keeps l _ (does_takes inputs other a l)) (takes_keeps l _ (does_takes inputs s a l)))) a l
  does_takes inputs (For row test step s) a l =
      ticked_takes _ (λ a l. keeps_then l (all_do inputs row a l) _ (all_keeps inputs row a l) (λ f a l. keeps_unless f _ a l
      (λ a l. turns_keeps (suc l) (condition inputs test) (does inputs s) (all_do inputs step) (condition_keeps inputs test) (λ a l. takes_keeps l _ (does_takes inputs s a l)) (all_keeps inputs step) a l))) a l
  does_takes inputs (ParallelFor e f n) a l =
      ticked_takes _ (valued_keeps inputs e _ (λ low. valued_keeps inputs f _ (λ high a l. parallel_keeps n low high a l))) a l
  does_takes inputs (Print e) a l = ticked_takes _ (valued_keeps inputs e _ (λ v a l. last_keeps (asks.Print v) a l)) a l
  does_takes inputs (Update r e) a l = ticked_takes _ (valued_keeps inputs e _ (λ v a l. last_keeps (asks.Update r v) a l)) a l
  does_takes inputs (Set r e) a l = ticked_takes _ (valued_keeps inputs e _ (λ v a l. last_keeps (asks.Set r v) a l)) a l
  does_takes inputs (Return e) a l = ticked_takes (return_value inputs e) (return_keeps inputs e) a l

  pub all_keeps : (inputs : List ℤ) (row : Statements) (a : List ℤ) (l : ℕ) → Keeps l (all_do inputs row a l)
  all_keeps inputs Nothing a l = omega arith
  all_keeps inputs (Then s row) a l = keeps_then l (does inputs s a l) _ (takes_keeps l _ (does_takes inputs s a l)) (λ f a l. keeps_unless f (all_do inputs row) a l (all_keeps inputs row))
