-- The serial elision of a program: its meaning without the parallel keywords (Frigo, Leiserson and
-- Randall 1998), as a natural semantics over one store (Kahn 1987). A spawn is a call, and a sync
-- does nothing. A parallel loop is an ascending loop, and each reducer has one value. The elision
-- has no ticks, frames, events or limits.
use Rattle.std.specs.Prelude.{◌≡◌, ℕ, zero, suc, ◌+◌, nat_eq, ℤ, pos, negsuc, ◌+ℤ◌, ◌-ℤ◌, neg_ℤ, true, false, if◌then◌else◌, List, [], ◌∷◌, length, Option, Some, None}
use Rattle.cilk_types.specs.Input.{input_at, input_count}
use Rattle.cilk_types.specs.Word.{word_of}
use Rattle.cilk_types.specs.declared.fault.Fault.{Fault}
use Rattle.cilk_types.specs.declared.fault.Fault.TheVariants.{DivisionByZero, IndexOutside, InputOutside}
use Rattle.cilk_program.specs.declared.syntax.Place.{Place}
use Rattle.cilk_program.specs.declared.syntax.Place.TheVariants as places
use Rattle.cilk_program.specs.declared.syntax.Reducer.{Reducer}
use Rattle.cilk_program.specs.Operators.{is_zero, truth, truth_of, apply, change}
use Rattle.cilk_program.specs.Syntax.{Expression, Number, Variable, Element, Negate, Not, Binary, And, Or, Value, Input, InputCount, Target, ToVariable, ToElement, Invoke, Declaration, Zero, Opening, Invoking, Statement, Empty, Block, Declare, Assign, Change, Step, Invokes, Sync, If, IfElse, For, ParallelFor, Print, Update, Set, Return, Statements, Nothing, Then, Function, Loop, Source, function_at, main_of, loop_at, element, place_of}
use Rattle.cilk_program.specs.Scopes.{Home, Scope, cell_in, instance_in, instances_in}
use Rattle.cilk_program.specs.Store.{Store, opening, put, put_all, print, clear_all, update, set, number_at}
use Rattle.cilk_program.specs.Outcomes.{Conclusion, Leaves, StopsBy, outcome_of}

-- The store, and how many cells and reducers have existed so far. Both are numbered in order of
-- creation, the globals first.
pub record Memory : Type 0 where
  pub store : Store ℕ
  pub cells : ℕ
  pub reducers : ℕ

-- what a frame sees
abbrev pub Sight : Type 0
Sight = Scope ℕ ℕ

-- a global is known by its number
abbrev pub itself : ℕ → ℕ
itself n = n

abbrev pub cell_at : Sight → Place → ℕ
cell_at scope x = cell_in itself scope x

abbrev pub reducer_at : Sight → Reducer → ℕ
reducer_at scope r = instance_in itself scope r.place

-- an expression's value, or the fault that it meets
pub data Valued (A : Type 0) : Type 0 where
  Gives : (value : A) → Valued A
  Fails : (fault : Fault) → Valued A

abbrev pub then_value : {A B : Type 0} → Valued A → (A → Valued B) → Valued B
then_value (Gives v) go = go v
then_value (Fails f) go = Fails f

abbrev pub or_fails : {A : Type 0} → Fault → Option A → Valued A
or_fails f None = Fails f
or_fails f (Some v) = Gives v

-- The value of an expression over a store, evaluated from left to right. `&&` and `||` skip the
-- right side if the left decides.
abbrev pub evaluate : List ℤ → Sight → Store ℕ → Expression → Valued ℤ
evaluate inputs scope m (Number n) = Gives n
evaluate inputs scope m (Variable x) = Gives (m.cells (cell_at scope x))
evaluate inputs scope m (Element a e) =
    then_value (evaluate inputs scope m e) (λ i. then_value (or_fails IndexOutside (element a i)) (λ x. Gives (m.cells (cell_at scope x))))
evaluate inputs scope m (Negate e) = then_value (evaluate inputs scope m e) (λ x. Gives (word_of (neg_ℤ x)))
evaluate inputs scope m (Not e) = then_value (evaluate inputs scope m e) (λ x. Gives (truth_of (is_zero x)))
evaluate inputs scope m (Binary op a b) =
    then_value (evaluate inputs scope m a) (λ x. then_value (evaluate inputs scope m b) (λ y. or_fails DivisionByZero (apply op x y)))
evaluate inputs scope m (And a b) =
    then_value (evaluate inputs scope m a) (λ x. if is_zero x then Gives (pos 0) else then_value (evaluate inputs scope m b) (λ y. Gives (truth y)))
evaluate inputs scope m (Or a b) =
    then_value (evaluate inputs scope m a) (λ x. if is_zero x then then_value (evaluate inputs scope m b) (λ y. Gives (truth y)) else Gives (pos 1))
evaluate inputs scope m (Value r) = Gives (number_at r.kind (reducer_at scope r) m)
evaluate inputs scope m (Input e) = then_value (evaluate inputs scope m e) (λ x. or_fails InputOutside (input_at inputs x))
evaluate inputs scope m InputCount = Gives (input_count inputs)

abbrev pub evaluate_all : List ℤ → Sight → Store ℕ → List Expression → Valued (List ℤ)
evaluate_all inputs scope m [] = Gives []
evaluate_all inputs scope m (e ∷ es) =
    then_value (evaluate inputs scope m e) (λ v. then_value (evaluate_all inputs scope m es) (λ vs. Gives (v ∷ vs)))

-- the index of a target, or 0 for a variable
abbrev pub evaluate_index : List ℤ → Sight → Store ℕ → Target → Valued ℤ
evaluate_index inputs scope m (ToVariable x) = Gives (pos 0)
evaluate_index inputs scope m (ToElement a e) = evaluate inputs scope m e

-- the value of a condition; an absent one is true
abbrev pub evaluate_condition : List ℤ → Sight → Store ℕ → Option Expression → Valued ℤ
evaluate_condition inputs scope m None = Gives (pos 1)
evaluate_condition inputs scope m (Some e) = evaluate inputs scope m e

-- how a statement ends
pub data Came : Type 0 where
  GoesOn : (memory : Memory) → Came
  Returns : (value : ℤ) (memory : Memory) → Came
  Faults : (fault : Fault) → Came

abbrev pub on_value : {A : Type 0} → Valued A → (A → Came) → Came
on_value (Gives v) go = go v
on_value (Fails f) go = Faults f

-- continues with another store
abbrev pub goes_on : Memory → Store ℕ → Came
goes_on m store = GoesOn (record m { store = store })

-- nothing follows a return or a fault
abbrev pub IsLast : Came → Type 0
IsLast (GoesOn m) = ⊥
IsLast (Returns v m) = Unit {0}
IsLast (Faults f) = Unit {0}

-- an assignment: the index, then the value, then the check of the index
abbrev pub assigned : List ℤ → Sight → Target → Expression → Memory → Came
assigned inputs scope t e m =
    on_value (evaluate_index inputs scope m.store t) (λ i. on_value (evaluate inputs scope m.store e) (λ v. on_value (or_fails IndexOutside (place_of t i)) (λ x.
    goes_on m (put (cell_at scope x) v m.store))))

-- a change of a target's value by a function
abbrev pub changed : List ℤ → Sight → Target → (ℤ → Valued ℤ) → Memory → Came
changed inputs scope t f m =
    on_value (evaluate_index inputs scope m.store t) (λ i. on_value (or_fails IndexOutside (place_of t i)) (λ x.
    on_value (f (m.store.cells (cell_at scope x))) (λ v. goes_on m (put (cell_at scope x) v m.store))))

-- The frame of a function. Its cells and reducers are the next ones.
abbrev pub home_in : Memory → List ℕ → Home ℕ ℕ
home_in m given = record { cells = λ n. m.cells + n; own = λ n. m.reducers + n; given = given }

abbrev pub entered : Function → List ℤ → Memory → Memory
entered f words m = record {
  store = clear_all nat_eq (λ n. m.reducers + n) 0 f.reducers (put_all m.cells words m.store);
  cells = m.cells + f.cells;
  reducers = m.reducers + length f.reducers;
}

-- the memory at the beginning of a parallel loop's turn, whose first cell is the loop's variable
abbrev pub turned : Loop → ℤ → Memory → Memory
turned l v m = record m { store = put m.cells v m.store; cells = m.cells + l.cells }

-- the caller continues: its variable has the result, and the function's reducers are retired
abbrev pub left_with : Option ℕ → ℤ → (Store ℕ → Store ℕ) → Memory → Came
left_with None v gone m = goes_on m (gone m.store)
left_with (Some c) v gone m = goes_on m (gone (put c v m.store))

-- after a body has ended, with 0 as its value if it had no `return`
abbrev pub on_ended : Came → (ℤ → Memory → Came) → Came
on_ended (GoesOn m) go = go (pos 0) m
on_ended (Returns v m) go = go v m
on_ended (Faults f) go = Faults f

abbrev pub result_cell : Sight → Option Place → Option ℕ
result_cell scope None = None
result_cell scope (Some x) = Some (cell_at scope x)

-- one of a frame's own cells
abbrev pub own_cell : ℕ → Place
own_cell n = places.Local 0 n

-- the number of turns between two bounds
abbrev pub turns_between : ℤ → ℤ → ℕ
turns_between low high = count (high -ℤ low)
  where
    count : ℤ → ℕ
    count (pos n) = n
    count (negsuc n) = zero

module _ (p : Source) (inputs : List ℤ) where
  mutual
    -- a statement, in a frame that sees this, leads from a memory to this end
    pub data Elides : Sight → Statement → Memory → Came → Type 0 where
      Empties : {s : Sight} {m : Memory} → Elides s Empty m (GoesOn m)
      Blocks : {s : Sight} {row : Statements} {m : Memory} {r : Came} → ElidesAll s row m r → Elides s (Block row) m r
      Declares : {s : Sight} {m : Memory} {r : Came} (row : List Declaration) → ElidesEach s row m r → Elides s (Declare row) m r
      Assigns : {s : Sight} {m : Memory} {r : Came} (t : Target) (e : Expression) → r ≡ assigned inputs s t e m → Elides s (Assign t e) m r
      Changes : {s : Sight} {m : Memory} {r : Came} (t : Target) (op : _) (e : Expression)
          → r ≡ changed inputs s t (λ x. then_value (evaluate inputs s m.store e) (λ v. Gives (change op x v))) m → Elides s (Change t op e) m r
      Steps : {s : Sight} {m : Memory} {r : Came} (t : Target) (n : ℤ) → r ≡ changed inputs s t (λ x. Gives (word_of (x +ℤ n))) m → Elides s (Step t n) m r
      Prints : {s : Sight} {m : Memory} {r : Came} (e : Expression) → r ≡ on_value (evaluate inputs s m.store e) (λ v. goes_on m (print v m.store)) → Elides s (Print e) m r
      Updates : {s : Sight} {m : Memory} {r : Came} (x : Reducer) (e : Expression)
          → r ≡ on_value (evaluate inputs s m.store e) (λ v. goes_on m (update nat_eq x.kind (reducer_at s x) v m.store)) → Elides s (Update x e) m r
      Sets : {s : Sight} {m : Memory} {r : Came} (x : Reducer) (e : Expression)
          → r ≡ on_value (evaluate inputs s m.store e) (λ v. goes_on m (set nat_eq x.kind (reducer_at s x) v m.store)) → Elides s (Set x e) m r
      Ends : {s : Sight} {m : Memory} {r : Came} (e : Expression) → r ≡ on_value (evaluate inputs s m.store e) (λ v. Returns v m) → Elides s (Return (Some e)) m r
      EndsPlainly : {s : Sight} {m : Memory} → Elides s (Return None) m (Returns (pos 0) m)
      Syncs : {s : Sight} {m : Memory} → Elides s Sync m (GoesOn m)
      Calls : {s : Sight} {m : Memory} {r : Came} (i : Invoke) → ElidesCall s i m r → Elides s (Invokes i) m r
      Holds : {s : Sight} {e : Expression} {a : Statement} {m : Memory} {r : Came} (v : ℤ) → evaluate inputs s m.store e ≡ Gives v → is_zero v ≡ false → Elides s a m r → Elides s (If e a) m r
      Skips : {s : Sight} {e : Expression} {a : Statement} {m : Memory} (v : ℤ) → evaluate inputs s m.store e ≡ Gives v → is_zero v ≡ true → Elides s (If e a) m (GoesOn m)
      IfFails : {s : Sight} {e : Expression} {a : Statement} {m : Memory} (f : Fault) → evaluate inputs s m.store e ≡ Fails f → Elides s (If e a) m (Faults f)
      First : {s : Sight} {e : Expression} {a b : Statement} {m : Memory} {r : Came} (v : ℤ) → evaluate inputs s m.store e ≡ Gives v → is_zero v ≡ false → Elides s a m r → Elides s (IfElse e a b) m r
      Second : {s : Sight} {e : Expression} {a b : Statement} {m : Memory} {r : Came} (v : ℤ) → evaluate inputs s m.store e ≡ Gives v → is_zero v ≡ true → Elides s b m r → Elides s (IfElse e a b) m r
      IfElseFails : {s : Sight} {e : Expression} {a b : Statement} {m : Memory} (f : Fault) → evaluate inputs s m.store e ≡ Fails f → Elides s (IfElse e a b) m (Faults f)
      Fors : {s : Sight} {row step : Statements} {test : Option Expression} {a : Statement} {m : Memory} {r : Came} (m' : Memory)
          → ElidesAll s row m (GoesOn m') → ElidesLoop s test step a m' r → Elides s (For row test step a) m r
      ForStops : {s : Sight} {row step : Statements} {test : Option Expression} {a : Statement} {m : Memory} {r : Came}
          → ElidesAll s row m r → IsLast r → Elides s (For row test step a) m r
      Ascends : {s : Sight} {a b : Expression} {n : ℕ} {m : Memory} {r : Came} (low high : ℤ) → evaluate inputs s m.store a ≡ Gives low → evaluate inputs s m.store b ≡ Gives high
          → ElidesTurns s n low (turns_between low high) m r → Elides s (ParallelFor a b n) m r
      LowFails : {s : Sight} {a b : Expression} {n : ℕ} {m : Memory} (f : Fault) → evaluate inputs s m.store a ≡ Fails f → Elides s (ParallelFor a b n) m (Faults f)
      HighFails : {s : Sight} {a b : Expression} {n : ℕ} {m : Memory} (low : ℤ) (f : Fault) → evaluate inputs s m.store a ≡ Gives low → evaluate inputs s m.store b ≡ Fails f
          → Elides s (ParallelFor a b n) m (Faults f)

    -- statements in order
    pub data ElidesAll : Sight → Statements → Memory → Came → Type 0 where
      NoMore : {s : Sight} {m : Memory} → ElidesAll s Nothing m (GoesOn m)
      Follows : {s : Sight} {a : Statement} {row : Statements} {m : Memory} {r : Came} (m' : Memory) → Elides s a m (GoesOn m') → ElidesAll s row m' r → ElidesAll s (Then a row) m r
      Stops : {s : Sight} {a : Statement} {row : Statements} {m : Memory} {r : Came} → Elides s a m r → IsLast r → ElidesAll s (Then a row) m r

    -- the variables of a declaration in order
    pub data ElidesEach : Sight → List Declaration → Memory → Came → Type 0 where
      NoneLeft : {s : Sight} {m : Memory} → ElidesEach s [] m (GoesOn m)
      Next : {s : Sight} {d : Declaration} {ds : List Declaration} {m : Memory} {r : Came} (m' : Memory) → ElidesOne s d m (GoesOn m') → ElidesEach s ds m' r → ElidesEach s (d ∷ ds) m r
      LastOne : {s : Sight} {d : Declaration} {ds : List Declaration} {m : Memory} {r : Came} → ElidesOne s d m r → IsLast r → ElidesEach s (d ∷ ds) m r

    pub data ElidesOne : Sight → Declaration → Memory → Came → Type 0 where
      Zeroes : {s : Sight} {m : Memory} (n : ℕ) → ElidesOne s (Zero n) m (goes_on m (put (cell_at s (own_cell n)) (pos 0) m.store))
      Opens : {s : Sight} {m : Memory} {r : Came} (n : ℕ) (e : Expression)
          → r ≡ on_value (evaluate inputs s m.store e) (λ v. goes_on m (put (cell_at s (own_cell n)) v m.store)) → ElidesOne s (Opening n e) m r
      OpensByCall : {s : Sight} {m : Memory} {r : Came} (i : Invoke) → ElidesCall s i m r → ElidesOne s (Invoking i) m r

    -- a loop: its condition, its body, its step
    pub data ElidesLoop : Sight → Option Expression → Statements → Statement → Memory → Came → Type 0 where
      Done : {s : Sight} {test : Option Expression} {step : Statements} {a : Statement} {m : Memory} (v : ℤ)
          → evaluate_condition inputs s m.store test ≡ Gives v → is_zero v ≡ true → ElidesLoop s test step a m (GoesOn m)
      TestFails : {s : Sight} {test : Option Expression} {step : Statements} {a : Statement} {m : Memory} (f : Fault)
          → evaluate_condition inputs s m.store test ≡ Fails f → ElidesLoop s test step a m (Faults f)
      Turns : {s : Sight} {test : Option Expression} {step : Statements} {a : Statement} {m : Memory} {r : Came} (v : ℤ) (m' m'' : Memory)
          → evaluate_condition inputs s m.store test ≡ Gives v → is_zero v ≡ false → Elides s a m (GoesOn m') → ElidesAll s step m' (GoesOn m'') → ElidesLoop s test step a m'' r → ElidesLoop s test step a m r
      BodyLeaves : {s : Sight} {test : Option Expression} {step : Statements} {a : Statement} {m : Memory} {r : Came} (v : ℤ)
          → evaluate_condition inputs s m.store test ≡ Gives v → is_zero v ≡ false → Elides s a m r → IsLast r → ElidesLoop s test step a m r
      StepLeaves : {s : Sight} {test : Option Expression} {step : Statements} {a : Statement} {m : Memory} {r : Came} (v : ℤ) (m' : Memory)
          → evaluate_condition inputs s m.store test ≡ Gives v → is_zero v ≡ false → Elides s a m (GoesOn m') → ElidesAll s step m' r → IsLast r → ElidesLoop s test step a m r

    -- n turns of a parallel loop in ascending order, beginning with this value of its variable
    pub data ElidesTurns : Sight → ℕ → ℤ → ℕ → Memory → Came → Type 0 where
      NoTurns : {s : Sight} {n : ℕ} {v : ℤ} {m : Memory} → ElidesTurns s n v zero m (GoesOn m)
      Turned : {s : Sight} {n : ℕ} {v : ℤ} {k : ℕ} {m : Memory} {r : Came} (r' : Came) (w : ℤ) (m' : Memory)
          → ElidesTurn s n v m r' → on_ended r' Returns ≡ Returns w m' → ElidesTurns s n (v +ℤ pos 1) k m' r → ElidesTurns s n v (suc k) m r
      TurnFails : {s : Sight} {n : ℕ} {v : ℤ} {k : ℕ} {m : Memory} (f : Fault) → ElidesTurn s n v m (Faults f) → ElidesTurns s n v (suc k) m (Faults f)

    pub data ElidesTurn : Sight → ℕ → ℤ → Memory → Came → Type 0 where
      OneTurn : {s : Sight} {n : ℕ} {v : ℤ} {m : Memory} {r : Came} (l : Loop) → l ≡ loop_at p n
          → ElidesAll (home_in m [] ∷ s) l.body (turned l v m) r → ElidesTurn s n v m r

    -- a call of a function
    pub data ElidesCall : Sight → Invoke → Memory → Came → Type 0 where
      ArgumentFails : {s : Sight} {i : Invoke} {m : Memory} (f : Fault) → evaluate_all inputs s m.store i.arguments ≡ Fails f → ElidesCall s i m (Faults f)
      Called : {s : Sight} {i : Invoke} {m : Memory} {r : Came} (words : List ℤ) (f : Function) (r' : Came) → evaluate_all inputs s m.store i.arguments ≡ Gives words
          → f ≡ function_at p i.function → ElidesAll (home_in m (instances_in itself s i.reducers) ∷ []) f.body (entered f words m) r'
          → r ≡ on_ended r' (λ v. left_with (result_cell s i.result) v (clear_all nat_eq (λ n. m.reducers + n) 0 f.reducers)) → ElidesCall s i m r

  -- the memory when a program begins: global cells have their opening values, and global reducers
  -- exist
  abbrev pub begins : Memory
  begins = record { store = opening p.openings; cells = length p.openings; reducers = length p.reducers }

  abbrev pub conclusion_of : Came → Conclusion
  conclusion_of (GoesOn m) = Leaves (outcome_of itself p (pos 0) m.store)
  conclusion_of (Returns v m) = Leaves (outcome_of itself p v m.store)
  conclusion_of (Faults f) = StopsBy f

  -- the program's elision on these inputs ends in this way
  abbrev pub IsElision : Conclusion → Type 0
  IsElision e = (r : Came) × (f : Function) × (f ≡ main_of p) × ElidesAll (home_in begins [] ∷ []) f.body (entered f [] begins) r × (e ≡ conclusion_of r)
