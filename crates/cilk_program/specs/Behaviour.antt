-- The requests of a frame's body, given any answers, by cases of its statements. Ticks are counted
-- here, and bound every computation. A statement costs one tick when it begins. An expression's
-- node costs one tick when it has its value, after its check and before its event.
use Rattle.std.specs.Prelude.{ℕ, zero, suc, ℤ, pos, ◌+ℤ◌, ◌-ℤ◌, neg_ℤ, int_lt, int_div, Bool, true, false, if◌then◌else◌, List, [], ◌∷◌, Option, Some, None}
use Rattle.std.specs.Option.{is_some}
use Rattle.std.specs.Ordering.{int_eq}
use Rattle.cilk_types.specs.Input.{input_at, input_count}
use Rattle.cilk_types.specs.Word.{word_of}
use Rattle.cilk_types.specs.declared.fault.Fault.{Fault}
use Rattle.cilk_types.specs.declared.fault.Fault.TheVariants.{DivisionByZero, IndexOutside, InputOutside, TooManyEvents}
use Rattle.cilk_monoid.specs.declared.kind.MonoidKind.{MonoidKind}
use Rattle.cilk_program.specs.declared.ask.Ask.{Ask}
use Rattle.cilk_program.specs.declared.ask.Ask.TheVariants as asks
use Rattle.cilk_program.specs.declared.ask.Callee.{Callee}
use Rattle.cilk_program.specs.declared.ask.Callee.TheVariants as callees
use Rattle.cilk_program.specs.declared.ask.LoopPart.{LoopPart}
use Rattle.cilk_types.specs.declared.invocation.Invocation.{Invocation}
use Rattle.cilk_types.specs.declared.invocation.Invocation.TheVariants.{Call, Spawn}
use Rattle.cilk_program.specs.declared.syntax.Place.TheVariants as places
use Rattle.cilk_program.specs.declared.syntax.ReducerPlace.{ReducerPlace}
use Rattle.cilk_program.specs.declared.syntax.ReducerPlace.TheVariants as reducers
use Rattle.cilk_program.specs.Operators.{is_zero, truth, truth_of, apply, change}
use Rattle.cilk_program.specs.Syntax.{Expression, Number, Variable, Element, Negate, Not, Binary, And, Or, Value, Input, InputCount, Target, ToVariable, ToElement, Invoke, Declaration, Zero, Opening, Invoking, Statement, Empty, Block, Declare, Assign, Change, Step, Invokes, Sync, If, IfElse, For, ParallelFor, Print, Update, Set, Return, Statements, Nothing, Then, Function, Source, function_at, main_of, loop_at, element, place_of}

-- a request that has no answer yet, and the ticks that are then left
pub record OpenAsk : Type 0 where
  pub ask : Ask
  pub left : ℕ

-- the result of a part of a body: a value, with the answers and ticks that are left, or a request
-- that has no answer yet
pub data Got (A : Type 0) : Type 0 where
  Gives : (value : A) (answers : List ℤ) (left : ℕ) → Got A
  Asks : (asked : OpenAsk) → Got A

-- the next request of a frame, or of the rest of it, after these answers and with n ticks
abbrev pub Behaviour : Type 0
Behaviour = List ℤ → ℕ → OpenAsk

abbrev pub asks_for : Ask → ℕ → OpenAsk
asks_for k left = record { ask = k; left = left }

infixl 10 ◌>>=◌
abbrev pub ◌>>=◌ : {A B : Type 0} → Got A → (A → List ℤ → ℕ → Got B) → Got B
(Gives a answers left) >>= f = f a answers left
(Asks k) >>= f = Asks k

-- uses one tick
abbrev pub tick : List ℤ → ℕ → Got (Unit {0})
tick answers zero = Asks (asks_for (asks.Fault TooManyEvents) 0)
tick answers (suc left) = Gives tt answers left

-- Consumes the next answer. A request without a result consumes one too, which is 0.
abbrev pub ask : Ask → List ℤ → ℕ → Got ℤ
ask k [] left = Asks (asks_for k left)
ask k (a ∷ answers) left = Gives a answers left

-- a value that has passed its check, for one tick
abbrev pub tick_gives : ℤ → List ℤ → ℕ → Got ℤ
tick_gives v answers left = tick answers left >>= λ _. Gives v

abbrev pub or_fault : {A : Type 0} → Fault → Option A → List ℤ → ℕ → Got A
or_fault f None answers left = Asks (asks_for (asks.Fault f) left)
or_fault f (Some v) answers left = Gives v answers left

-- the first if the value isn't 0, else the second
abbrev pub chosen : {A : Type 0} → ℤ → Got A → Got A → Got A
chosen v a b = if is_zero v then b else a

-- the value of an expression, evaluated from left to right
abbrev pub value : List ℤ → Expression → List ℤ → ℕ → Got ℤ
value inputs (Number n) answers left = tick_gives n answers left
value inputs (Variable x) answers left = tick answers left >>= λ _. ask (asks.Read x)
value inputs (Element a e) answers left =
    value inputs e answers left >>= λ i answers left. or_fault IndexOutside (element a i) answers left >>= λ x answers left. tick answers left >>= λ _. ask (asks.Read x)
value inputs (Negate e) answers left = value inputs e answers left >>= λ x. tick_gives (word_of (neg_ℤ x))
value inputs (Not e) answers left = value inputs e answers left >>= λ x. tick_gives (truth_of (is_zero x))
value inputs (Binary op a b) answers left =
    value inputs a answers left >>= λ x answers left. value inputs b answers left >>= λ y answers left. or_fault DivisionByZero (apply op x y) answers left >>= tick_gives
value inputs (And a b) answers left =
    value inputs a answers left >>= λ x answers left. chosen x (value inputs b answers left >>= λ y. tick_gives (truth y)) (tick_gives (pos 0) answers left)
value inputs (Or a b) answers left =
    value inputs a answers left >>= λ x answers left. chosen x (tick_gives (pos 1) answers left) (value inputs b answers left >>= λ y. tick_gives (truth y))
value inputs (Value r) answers left = tick answers left >>= λ _. ask (asks.Value r)
value inputs (Input e) answers left = value inputs e answers left >>= λ x answers left. or_fault InputOutside (input_at inputs x) answers left >>= tick_gives
value inputs InputCount answers left = tick_gives (input_count inputs) answers left

-- the values of several expressions, in order
abbrev pub values : List ℤ → List Expression → List ℤ → ℕ → Got (List ℤ)
values inputs [] answers left = Gives [] answers left
values inputs (e ∷ es) answers left = value inputs e answers left >>= λ v answers left. values inputs es answers left >>= λ vs. Gives (v ∷ vs)

-- the index of a target, or 0 for a variable
abbrev pub index_of : List ℤ → Target → List ℤ → ℕ → Got ℤ
index_of inputs (ToVariable x) answers left = Gives (pos 0) answers left
index_of inputs (ToElement a e) answers left = value inputs e answers left

-- how a statement ends: it continues, or it returns a value
abbrev pub Flow : Type 0
Flow = Option ℤ

-- continues, unless a value was returned
abbrev pub unless_returned : Flow → (List ℤ → ℕ → Got Flow) → List ℤ → ℕ → Got Flow
unless_returned None go answers left = go answers left
unless_returned (Some v) go answers left = Gives (Some v) answers left

-- begins a child, and then resumes
abbrev pub invokes : Invocation → Callee → List ℤ → ℕ → Got Flow
invokes how callee answers left = ask (asks.Invoke how callee) answers left >>= λ _ answers left. ask asks.Resume answers left >>= λ _. Gives None

-- evaluates the arguments, and then calls or spawns the function
abbrev pub invokes_function : List ℤ → Invoke → List ℤ → ℕ → Got Flow
invokes_function inputs i answers left =
    values inputs i.arguments answers left >>= λ vs. invokes i.how (callees.Function (record { function = i.function; words = vs; reducers = i.reducers; result = i.result }))

abbrev pub declares : List ℤ → Declaration → List ℤ → ℕ → Got Flow
declares inputs (Zero n) answers left = ask (asks.Write (places.Local 0 n) (pos 0)) answers left >>= λ _. Gives None
declares inputs (Opening n e) answers left =
    value inputs e answers left >>= λ v answers left. ask (asks.Write (places.Local 0 n) v) answers left >>= λ _. Gives None
declares inputs (Invoking i) answers left = invokes_function inputs i answers left

abbrev pub all_declare : List ℤ → List Declaration → List ℤ → ℕ → Got Flow
all_declare inputs [] answers left = Gives None answers left
all_declare inputs (d ∷ ds) answers left = declares inputs d answers left >>= λ _. all_declare inputs ds

-- the value of a condition; an absent one is true
abbrev pub condition : List ℤ → Option Expression → List ℤ → ℕ → Got ℤ
condition inputs None answers left = Gives (pos 1) answers left
condition inputs (Some e) answers left = value inputs e answers left

-- At most n turns of a loop: its condition, its body, its step. Each turn uses at least one tick,
-- in its body.
abbrev pub turns : ℕ → (List ℤ → ℕ → Got ℤ) → (List ℤ → ℕ → Got Flow) → (List ℤ → ℕ → Got Flow) → List ℤ → ℕ → Got Flow
turns zero test body step answers left = Asks (asks_for (asks.Fault TooManyEvents) 0)
turns (suc n) test body step answers left =
    test answers left >>= λ v answers left. chosen v
    (body answers left >>= λ f. unless_returned f (λ answers left. step answers left >>= λ g. unless_returned g (turns n test body step)))
    (Gives None answers left)

-- a parallel loop calls the frame of all its turns, unless it has none
abbrev pub parallel_turns : ℕ → ℤ → ℤ → List ℤ → ℕ → Got Flow
parallel_turns n low high answers left =
    if int_lt low high then invokes Call (callees.Loop (record { number = n; up = 0; low = low; high = high })) answers left else Gives None answers left

abbrev pub return_value : List ℤ → Option Expression → List ℤ → ℕ → Got Flow
return_value inputs None answers left = Gives (Some (pos 0)) answers left
return_value inputs (Some e) answers left = value inputs e answers left >>= λ v. Gives (Some v)

abbrev mutual
  -- the execution of a statement, with one tick when it begins
  pub does : List ℤ → Statement → List ℤ → ℕ → Got Flow
  does inputs Empty answers left = tick answers left >>= λ _. Gives None
  does inputs (Block row) answers left = tick answers left >>= λ _. all_do inputs row
  does inputs (Declare row) answers left = tick answers left >>= λ _. all_declare inputs row
  does inputs (Assign t e) answers left =
      tick answers left >>= λ _ answers left. index_of inputs t answers left >>= λ i answers left. value inputs e answers left >>= λ v answers left.
      or_fault IndexOutside (place_of t i) answers left >>= λ x answers left. ask (asks.Write x v) answers left >>= λ _. Gives None
  does inputs (Change t op e) answers left =
      tick answers left >>= λ _ answers left. index_of inputs t answers left >>= λ i answers left. or_fault IndexOutside (place_of t i) answers left >>= λ x answers left.
      ask (asks.Read x) answers left >>= λ old answers left. value inputs e answers left >>= λ v answers left. ask (asks.Write x (change op old v)) answers left >>= λ _. Gives None
  does inputs (Step t n) answers left =
      tick answers left >>= λ _ answers left. index_of inputs t answers left >>= λ i answers left. or_fault IndexOutside (place_of t i) answers left >>= λ x answers left.
      ask (asks.Read x) answers left >>= λ old answers left. ask (asks.Write x (word_of (old +ℤ n))) answers left >>= λ _. Gives None
  does inputs (Invokes i) answers left = tick answers left >>= λ _. invokes_function inputs i
  does inputs Sync answers left = tick answers left >>= λ _ answers left. ask asks.Sync answers left >>= λ _. Gives None
  does inputs (If e s) answers left =
      tick answers left >>= λ _ answers left. value inputs e answers left >>= λ v answers left. chosen v (does inputs s answers left) (Gives None answers left)
  does inputs (IfElse e s other) answers left =
      tick answers left >>= λ _ answers left. value inputs e answers left >>= λ v answers left. chosen v (does inputs s answers left) (does inputs other answers left)
  does inputs (For row test step s) answers left =
      tick answers left >>= λ _ answers left. all_do inputs row answers left >>= λ f. unless_returned f
      (λ answers left. turns (suc left) (condition inputs test) (does inputs s) (all_do inputs step) answers left)
  does inputs (ParallelFor a b n) answers left =
      tick answers left >>= λ _ answers left. value inputs a answers left >>= λ low answers left. value inputs b answers left >>= λ high. parallel_turns n low high
  does inputs (Print e) answers left =
      tick answers left >>= λ _ answers left. value inputs e answers left >>= λ v answers left. ask (asks.Print v) answers left >>= λ _. Gives None
  does inputs (Update r e) answers left =
      tick answers left >>= λ _ answers left. value inputs e answers left >>= λ v answers left. ask (asks.Update r v) answers left >>= λ _. Gives None
  does inputs (Set r e) answers left =
      tick answers left >>= λ _ answers left. value inputs e answers left >>= λ v answers left. ask (asks.Set r v) answers left >>= λ _. Gives None
  does inputs (Return e) answers left = tick answers left >>= λ _. return_value inputs e

  pub all_do : List ℤ → Statements → List ℤ → ℕ → Got Flow
  all_do inputs Nothing answers left = Gives None answers left
  all_do inputs (Then s row) answers left = does inputs s answers left >>= λ f. unless_returned f (all_do inputs row)

-- the value of a body, 0 without a `return`
abbrev pub returned : Flow → ℤ
returned None = pos 0
returned (Some v) = v

-- writes the result to the caller's variable, if there is one
abbrev pub gives_result : Bool → ℤ → List ℤ → ℕ → Got ℤ
gives_result false v answers left = Gives v answers left
gives_result true v answers left = ask (asks.Result v) answers left >>= λ _. Gives v

-- each frame waits for its children after its body
abbrev pub finishes : Bool → Flow → List ℤ → ℕ → Got ℤ
finishes gives f answers left = ask asks.Sync answers left >>= λ _. gives_result gives (returned f)

-- a function's words are written to its first cells
abbrev pub writes_words : ℕ → List ℤ → List ℤ → ℕ → Got (Unit {0})
writes_words n [] answers left = Gives tt answers left
writes_words n (v ∷ vs) answers left = ask (asks.Write (places.Local 0 n) v) answers left >>= λ _. writes_words (suc n) vs

-- creates reducers with these monoids
abbrev pub creates : (ℕ → ReducerPlace) → ℕ → List MonoidKind → List ℤ → ℕ → Got (Unit {0})
creates place n [] answers left = Gives tt answers left
creates place n (k ∷ ks) answers left = ask (asks.Create (record { place = place n; kind = k })) answers left >>= λ _. creates place (suc n) ks

-- the run of a function, given its words and whether its caller takes the result
abbrev pub function_gives : List ℤ → Function → List ℤ → Bool → List ℤ → ℕ → Got ℤ
function_gives inputs f words gives answers left =
    writes_words 0 words answers left >>= λ _ answers left. creates (reducers.Own 0) 0 f.reducers answers left >>= λ _ answers left.
    all_do inputs f.body answers left >>= finishes gives

-- the bound at which turns are halved
abbrev pub middle : ℤ → ℤ → ℤ
middle low high = low +ℤ int_div (high -ℤ low) (pos 2)

abbrev pub part : LoopPart → ℤ → ℤ → Callee
part l low high = callees.Loop (record { number = l.number; up = 1; low = low; high = high })

-- Turns of a parallel loop. Several are halved: the first half is spawned, the second called. A
-- single turn has the loop's variable as its first cell.
abbrev pub loop_gives : List ℤ → Statements → LoopPart → List ℤ → ℕ → Got ℤ
loop_gives inputs body l answers left =
    if int_eq (l.high -ℤ l.low) (pos 1)
    then (ask (asks.Write (places.Local 0 0) l.low) answers left >>= λ _ answers left. all_do inputs body answers left >>= finishes false)
    else (invokes Spawn (part l l.low (middle l.low l.high)) answers left >>= λ _ answers left. invokes Call (part l (middle l.low l.high) l.high) answers left >>= finishes false)

-- the value with which a frame ends
abbrev pub frame_gives : Source → List ℤ → Callee → List ℤ → ℕ → Got ℤ
frame_gives p inputs callees.Root answers left =
    creates reducers.Global 0 p.reducers answers left >>= λ _. function_gives inputs (main_of p) [] false
frame_gives p inputs (callees.Function c) answers left = function_gives inputs (function_at p c.function) c.words (is_some c.result) answers left
frame_gives p inputs (callees.Loop l) answers left = let body = loop_at p l.number in loop_gives inputs body.body l answers left

abbrev pub ended : Got ℤ → OpenAsk
ended (Gives v answers left) = asks_for (asks.End v) left
ended (Asks k) = k

-- a frame's behaviour: it begins, and then runs its callee
abbrev pub frame_asks : Source → List ℤ → Callee → Behaviour
frame_asks p inputs callee [] left = asks_for asks.Begin left
frame_asks p inputs callee (a ∷ answers) left = ended (frame_gives p inputs callee answers left)
