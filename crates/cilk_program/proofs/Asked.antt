-- The requests of a frame name only things that exist.
use Rattle.std.proofs.Common.{◌≡◌, ℕ, zero, suc, ◌+◌, ◌<◌, inl, inr, ℤ, pos, negsuc, ◌+ℤ◌, ◌-ℤ◌, ◌<ℤ◌, neg_ℤ, int_lt, int_eq, Bool, true, false, nat_lt, nat_eq, ◌&&◌, IsTrue, T, List, [], ◌∷◌, length, slice_get, Option, Some, None, is_some, if◌then◌else◌, refl, sym, ap, ◌∙◌, subst, arith}
use Rattle.std.proofs.lemmas.Bool.{ltb-true, lt-ltb, eqb-true, and_parts, false≢true}
use Rattle.cilk_types.specs.Input.{input_at, input_count}
use Rattle.cilk_types.specs.Word.{word_of}
use Rattle.cilk_types.specs.declared.fault.Fault.{Fault}
use Rattle.cilk_types.specs.declared.fault.Fault.TheVariants.{DivisionByZero, IndexOutside, InputOutside}
use Rattle.cilk_monoid.specs.declared.kind.MonoidKind.{MonoidKind}
use Rattle.cilk_monoid.specs.declared.kind.MonoidKind.TheVariants as kinds
use Rattle.cilk_monoid.proofs.SameKinds.{kind_itself}
use Rattle.cilk_program.specs.declared.ask.Ask.{Ask}
use Rattle.cilk_program.specs.declared.ask.Ask.TheVariants as asks
use Rattle.cilk_program.specs.declared.ask.Callee.{Callee}
use Rattle.cilk_program.specs.declared.ask.Callee.TheVariants as callees
use Rattle.cilk_program.specs.declared.program.Body.{Body}
use Rattle.cilk_program.specs.declared.program.Body.TheVariants as bodies
use Rattle.cilk_program.specs.declared.syntax.Array.{Array}
use Rattle.cilk_types.specs.declared.invocation.Invocation.{Invocation}
use Rattle.cilk_types.specs.declared.invocation.Invocation.TheVariants.{Call, Spawn}
use Rattle.cilk_program.specs.declared.ask.LoopPart.{LoopPart}
use Rattle.cilk_program.specs.declared.syntax.Place.{Place}
use Rattle.cilk_program.specs.declared.syntax.Place.TheVariants as places
use Rattle.cilk_program.specs.declared.syntax.ReducerPlace.{ReducerPlace}
use Rattle.cilk_program.specs.declared.syntax.ReducerPlace.TheVariants as reducers
use Rattle.cilk_program.specs.Operators.{is_zero, truth, truth_of, apply, change}
use Rattle.cilk_program.specs.Syntax.{Expression, Number, Variable, Element, Negate, Not, Binary, And, Or, Value, Input, InputCount, Target, ToVariable, ToElement, Invoke, Declaration, Zero, Opening, Invoking, Statement, Empty, Block, Declare, Assign, Change, Step, Invokes, Sync, If, IfElse, For, ParallelFor, Print, Update, Set, Return, Statements, Nothing, Then, Function, Source, function_at, main_of, loop_at, element, place_of}
use Rattle.cilk_program.specs.Behaviour.{Got, Gives, Asks, ◌>>=◌, tick, ask, tick_gives, or_fault, value, values, index_of, Flow, unless_returned, invokes, invokes_function, declares, all_declare, condition, turns, parallel_turns, return_value, does, all_do, returned, finishes, writes_words, creates, function_gives, middle, part, frame_gives, ended, frame_asks}
use Rattle.cilk_program.specs.WellNamed.{is_well_named, function_level, levels_of, has_cell, has_own, place_is_there, array_is_there, reducer_is_there, is_kind, have_kinds, same_body, expression_is_named, all_are_named, option_is_named, target_is_named, result_is_there, reducers_are_there, invoke_is_named, declaration_is_named, declarations_are_named, loop_is_there, statement_is_named, row_is_named}
use Rattle.cilk_program.specs.Inside.{body_of, is_whole, CalleeIsFit, AskIsThere}
use Rattle.cilk_program.proofs.Naming.{at_most_is, FunctionIsNamed, LoopIsNamed, SourceIsNamed, well_named_parts}
use Rattle.cilk_program.proofs.Halves.{halves}

-- the result of a part of a body: a value of this kind, or a request of this kind
abbrev Comes : {A : Type 0} → (Ask → Type 0) → (A → Type 0) → Got A → Type 0
Comes P Q (Gives v answers left) = Q v
Comes P Q (Asks k) = P k.ask

abbrev Any : {A : Type 0} → A → Type 0
Any v = Unit {0}

then_comes : {A B : Type 0} (P : Ask → Type 0) (Q : A → Type 0) (R : B → Type 0) (x : Got A) (f : A → List ℤ → ℕ → Got B) → Comes P Q x → ((v : A) → Q v → (a : List ℤ) (l : ℕ) → Comes P R (f v a l)) → Comes P R (x >>= f)
then_comes P Q R (Gives v a l) f h next = next v h a l
then_comes P Q R (Asks k) f h next = h

if_comes : {A : Type 0} (P : Ask → Type 0) (Q : A → Type 0) (t : Bool) (x y : Got A) → (t ≡ true → Comes P Q x) → (t ≡ false → Comes P Q y) → Comes P Q (if t then x else y)
if_comes P Q true x y h k = h refl
if_comes P Q false x y h k = k refl

pub same_body_is : (b c : Body) → same_body b c ≡ true → b ≡ c
same_body_is (bodies.Function n) (bodies.Function k) h = ap bodies.Function (eqb-true n k h)
same_body_is (bodies.Function n) (bodies.Loop k) h = absurd (false≢true h)
same_body_is (bodies.Loop n) (bodies.Function k) h = absurd (false≢true h)
same_body_is (bodies.Loop n) (bodies.Loop k) h = ap bodies.Loop (eqb-true n k h)

-- Properties of requests that hold for missing ticks and for faults.
module _ (p : Source) (inputs : List ℤ) (callee : Callee) (whole : IsTrue (is_whole callee)) where
  abbrev Here : Body
  Here = body_of p callee

  abbrev There : {A : Type 0} → Got A → Type 0
  There x = Comes (AskIsThere p callee) Any x

  after : {A B : Type 0} (x : Got A) (f : A → List ℤ → ℕ → Got B) → There x → ((v : A) (a : List ℤ) (l : ℕ) → There (f v a l)) → There (x >>= f)
  after x f h next = then_comes (AskIsThere p callee) Any Any x f h (λ v h a l. next v a l)

  ticks : (a : List ℤ) (l : ℕ) → There (tick a l)
  ticks a zero = tt
  ticks a (suc l) = tt

  gives : (v : ℤ) (a : List ℤ) (l : ℕ) → There (tick_gives v a l)
  gives v a zero = tt
  gives v a (suc l) = tt

  asked : (k : Ask) (a : List ℤ) (l : ℕ) → AskIsThere p callee k → There (ask k a l)
  asked k [] l h = h
  asked k (v ∷ a) l h = tt

  checked : {A : Type 0} (f : Fault) (o : Option A) (a : List ℤ) (l : ℕ) → There (or_fault f o a l)
  checked f None a l = tt
  checked f (Some v) a l = tt

  -- a place that exists, if there is one
  abbrev PlaceThere : Place → Type 0
  PlaceThere x = IsTrue (place_is_there p Here x)

  abbrev PlacesThere : Option Place → Type 0
  PlacesThere None = Unit {0}
  PlacesThere (Some x) = PlaceThere x

  if_places : (t : Bool) (x : Place) → (t ≡ true → PlaceThere x) → PlacesThere (if t then Some x else None)
  if_places true x h = h refl
  if_places false x h = tt

  element_there : (array : Array) (i : ℤ) → IsTrue (array_is_there p Here array) → PlacesThere (element array i)
  element_there array (pos n) h =
      if_places (nat_lt n array.length) (places.Global (array.first + n)) (λ e.
      let below = ltb-true n array.length e in
      let fits = at_most_is (array.first + array.length) (length p.openings) h in
      lt-ltb (array.first + n) (length p.openings) (omega (arith, below, fits)))
  element_there array (negsuc n) h = tt

  place_of_there : (t : Target) (i : ℤ) → IsTrue (target_is_named p Here t) → PlacesThere (place_of t i)
  place_of_there (ToVariable x) i h = h
  place_of_there (ToElement array e) i h = element_there array i (and_parts (array_is_there p Here array) (expression_is_named p Here e) h).0

  place_checked : (o : Option Place) (a : List ℤ) (l : ℕ) → PlacesThere o → Comes (AskIsThere p callee) PlaceThere (or_fault IndexOutside o a l)
  place_checked None a l h = tt
  place_checked (Some x) a l h = h

  -- the continuation after a place
  at_place : {B : Type 0} (o : Option Place) (f : Place → List ℤ → ℕ → Got B) (a : List ℤ) (l : ℕ) → PlacesThere o → ((x : Place) → PlaceThere x → (a : List ℤ) (l : ℕ) → There (f x a l)) → There (or_fault IndexOutside o a l >>= f)
  at_place o f a l h next = then_comes (AskIsThere p callee) PlaceThere Any (or_fault IndexOutside o a l) f (place_checked o a l h) next

  reads : (x : Place) (a : List ℤ) (l : ℕ) → PlaceThere x → There (ask (asks.Read x) a l)
  reads x a l h = asked (asks.Read x) a l (whole, h)

  writes : {B : Type 0} (x : Place) (v : ℤ) (f : ℤ → List ℤ → ℕ → Got B) (a : List ℤ) (l : ℕ) → PlaceThere x → ((v : ℤ) (a : List ℤ) (l : ℕ) → There (f v a l)) → There (ask (asks.Write x v) a l >>= f)
  writes x v f a l h next = after (ask (asks.Write x v) a l) f (asked (asks.Write x v) a l (whole, h)) next

  value_there : (e : Expression) → IsTrue (expression_is_named p Here e) → (a : List ℤ) (l : ℕ) → There (value inputs e a l)
  value_there (Number n) h a l = gives n a l
  value_there (Variable x) h a l = after (tick a l) _ (ticks a l) (λ _ a l. reads x a l h)
  value_there (Element array e) h a l =
      let hs = and_parts (array_is_there p Here array) (expression_is_named p Here e) h in
      after (value inputs e a l) _ (value_there e hs.1 a l) (λ i a l. at_place (element array i) _ a l (element_there array i hs.0) (λ x there a l. after (tick a l) _ (ticks a l) (λ _ a l. reads x a l there)))
  value_there (Negate e) h a l = after (value inputs e a l) _ (value_there e h a l) (λ x a l. gives (word_of (neg_ℤ x)) a l)
  value_there (Not e) h a l = after (value inputs e a l) _ (value_there e h a l) (λ x a l. gives (truth_of (is_zero x)) a l)
  value_there (Binary op d e) h a l =
      let hs = and_parts (expression_is_named p Here d) (expression_is_named p Here e) h in
      after (value inputs d a l) _ (value_there d hs.0 a l) (λ x a l. after (value inputs e a l) _ (value_there e hs.1 a l) (λ y a l. after (or_fault DivisionByZero (apply op x y) a l) _ (checked DivisionByZero (apply op x y) a l) gives))
  value_there (And d e) h a l =
      let hs = and_parts (expression_is_named p Here d) (expression_is_named p Here e) h in
      after (value inputs d a l) _ (value_there d hs.0 a l) (λ x a l. if_comes (AskIsThere p callee) Any (is_zero x) _ _ (λ _. gives (pos 0) a l)
      (λ _. after (value inputs e a l) _ (value_there e hs.1 a l) (λ y a l. gives (truth y) a l)))
  value_there (Or d e) h a l =
      let hs = and_parts (expression_is_named p Here d) (expression_is_named p Here e) h in
      after (value inputs d a l) _ (value_there d hs.0 a l) (λ x a l. if_comes (AskIsThere p callee) Any (is_zero x) _ _
      (λ _. after (value inputs e a l) _ (value_there e hs.1 a l) (λ y a l. gives (truth y) a l)) (λ _. gives (pos 1) a l))
  value_there (Value r) h a l = after (tick a l) _ (ticks a l) (λ _ a l. asked (asks.Value r) a l (whole, h))
  value_there (Input e) h a l = after (value inputs e a l) _ (value_there e h a l) (λ x a l. after (or_fault InputOutside (input_at inputs x) a l) _ (checked InputOutside (input_at inputs x) a l) gives)
  value_there InputCount h a l = gives (input_count inputs) a l

  -- the number of values is the number of expressions
  values_there : (es : List Expression) → IsTrue (all_are_named p Here es) → (a : List ℤ) (l : ℕ) → Comes (AskIsThere p callee) (λ vs. length vs ≡ length es) (values inputs es a l)
  values_there [] h a l = refl
  values_there (e ∷ es) h a l =
      let hs = and_parts (expression_is_named p Here e) (all_are_named p Here es) h in
      then_comes (AskIsThere p callee) Any (λ vs. length vs ≡ suc (length es)) (value inputs e a l) _ (value_there e hs.0 a l) (λ v _ a l.
      then_comes (AskIsThere p callee) (λ vs. length vs ≡ length es) (λ vs. length vs ≡ suc (length es)) (values inputs es a l) (λ vs. Gives (v ∷ vs)) (values_there es hs.1 a l) (λ vs same a l. ap suc same))

  index_there : (t : Target) → IsTrue (target_is_named p Here t) → (a : List ℤ) (l : ℕ) → There (index_of inputs t a l)
  index_there (ToVariable x) h a l = tt
  index_there (ToElement array e) h a l = value_there e (and_parts (array_is_there p Here array) (expression_is_named p Here e) h).1 a l

  unless_there : (f : Flow) (go : List ℤ → ℕ → Got Flow) (a : List ℤ) (l : ℕ) → ((a : List ℤ) (l : ℕ) → There (go a l)) → There (unless_returned f go a l)
  unless_there None go a l h = h a l
  unless_there (Some v) go a l h = tt

  invokes_there : (how : _) (child : Callee) (a : List ℤ) (l : ℕ) → AskIsThere p callee (asks.Invoke how child) → There (invokes how child a l)
  invokes_there how child a l h = after (ask (asks.Invoke how child) a l) _ (asked (asks.Invoke how child) a l h) (λ _ a l. after (ask asks.Resume a l) _ (asked asks.Resume a l tt) (λ _ a l. tt))

  function_there : (i : Invoke) → IsTrue (invoke_is_named p Here i) → (a : List ℤ) (l : ℕ) → There (invokes_function inputs i a l)
  function_there i h a l =
      let f = function_at p i.function in
      let here = nat_lt i.function (length p.functions) in
      let words = nat_eq (length i.arguments) f.words in
      let kinds = have_kinds i.reducers f.given in
      let named = all_are_named p Here i.arguments in
      let given = reducers_are_there p Here i.reducers in
      let result = result_is_there p Here i.result in
      let h5 = and_parts (here && words && kinds && named && given) result h in
      let h4 = and_parts (here && words && kinds && named) given h5.0 in
      let h3 = and_parts (here && words && kinds) named h4.0 in
      let h2 = and_parts (here && words) kinds h3.0 in
      let h1 = and_parts here words h2.0 in
      then_comes (AskIsThere p callee) (λ vs. length vs ≡ length i.arguments) Any (values inputs i.arguments a l) _ (values_there i.arguments h3.1 a l) (λ vs same a l.
      invokes_there i.how (callees.Function (record { function = i.function; words = vs; reducers = i.reducers; result = i.result })) a l
      ((record { here = ltb-true i.function (length p.functions) h1.0; takes = same ∙ eqb-true (length i.arguments) f.words h1.1 }, h2.1), h4.1, h5.1))

  declares_there : (d : Declaration) → IsTrue (declaration_is_named p Here d) → (a : List ℤ) (l : ℕ) → There (declares inputs d a l)
  declares_there (Zero n) h a l = writes (places.Local 0 n) (pos 0) _ a l h (λ _ a l. tt)
  declares_there (Opening n e) h a l =
      let hs = and_parts (place_is_there p Here (places.Local 0 n)) (expression_is_named p Here e) h in
      after (value inputs e a l) _ (value_there e hs.1 a l) (λ v a l. writes (places.Local 0 n) v _ a l hs.0 (λ _ a l. tt))
  declares_there (Invoking i) h a l = function_there i h a l

  all_declare_there : (ds : List Declaration) → IsTrue (declarations_are_named p Here ds) → (a : List ℤ) (l : ℕ) → There (all_declare inputs ds a l)
  all_declare_there [] h a l = tt
  all_declare_there (d ∷ ds) h a l =
      let hs = and_parts (declaration_is_named p Here d) (declarations_are_named p Here ds) h in
      after (declares inputs d a l) _ (declares_there d hs.0 a l) (λ _ a l. all_declare_there ds hs.1 a l)

  condition_there : (o : Option Expression) → IsTrue (option_is_named p Here o) → (a : List ℤ) (l : ℕ) → There (condition inputs o a l)
  condition_there None h a l = tt
  condition_there (Some e) h a l = value_there e h a l

  turns_there : (n : ℕ) (test : List ℤ → ℕ → Got ℤ) (body step : List ℤ → ℕ → Got Flow) → ((a : List ℤ) (l : ℕ) → There (test a l)) → ((a : List ℤ) (l : ℕ) → There (body a l)) → ((a : List ℤ) (l : ℕ) → There (step a l)) → (a : List ℤ) (l : ℕ) → There (turns n test body step a l)
  turns_there zero test body step ht hb hs a l = tt
  turns_there (suc n) test body step ht hb hs a l =
      after (test a l) _ (ht a l) (λ v a l. if_comes (AskIsThere p callee) Any (is_zero v) _ _ (λ _. tt)
      (λ _. after (body a l) _ (hb a l) (λ f a l. unless_there f (λ answers left. step answers left >>= λ g. unless_returned g (turns n test body step)) a l (λ a l.
      after (step a l) _ (hs a l) (λ g a l. unless_there g (turns n test body step) a l (turns_there n test body step ht hb hs))))))

  return_there : (o : Option Expression) → IsTrue (option_is_named p Here o) → (a : List ℤ) (l : ℕ) → There (return_value inputs o a l)
  return_there None h a l = tt
  return_there (Some e) h a l = after (value inputs e a l) _ (value_there e h a l) (λ v a l. tt)

  turns_of_loop_there : (n : ℕ) (low high : ℤ) → IsTrue (loop_is_there p Here n) → (a : List ℤ) (l : ℕ) → There (parallel_turns n low high a l)
  turns_of_loop_there n low high h a l =
      let hs = and_parts (nat_lt n (length p.loops)) (same_body (loop_at p n).within Here) h in
      if_comes (AskIsThere p callee) Any (int_lt low high) _ _ (λ below. invokes_there Call (callees.Loop (record { number = n; up = 0; low = low; high = high })) a l
      ((ltb-true n (length p.loops) hs.0, record { lt = subst T (sym below) tt }), inl (refl, same_body_is (loop_at p n).within Here hs.1))) (λ _. tt)

  -- a tick, then a value, then a continuation
  begun : {B : Type 0} (e : Expression) (f : ℤ → List ℤ → ℕ → Got B) → IsTrue (expression_is_named p Here e) → ((v : ℤ) (a : List ℤ) (l : ℕ) → There (f v a l)) → (a : List ℤ) (l : ℕ) → There (tick a l >>= λ _ a l. value inputs e a l >>= f)
  begun e f h next a l = after (tick a l) _ (ticks a l) (λ _ a l. after (value inputs e a l) f (value_there e h a l) next)

  mutual
    does_there : (s : Statement) → IsTrue (statement_is_named p Here s) → (a : List ℤ) (l : ℕ) → There (does inputs s a l)
    does_there Empty h a l = after (tick a l) _ (ticks a l) (λ _ a l. tt)
    does_there (Block row) h a l = after (tick a l) _ (ticks a l) (λ _ a l. all_there row h a l)
    does_there (Declare ds) h a l = after (tick a l) _ (ticks a l) (λ _ a l. all_declare_there ds h a l)
    does_there (Assign t e) h a l =
        let hs = and_parts (target_is_named p Here t) (expression_is_named p Here e) h in
        after (tick a l) _ (ticks a l) (λ _ a l. after (index_of inputs t a l) _ (index_there t hs.0 a l) (λ i a l. after (value inputs e a l) _ (value_there e hs.1 a l) (λ v a l.
        at_place (place_of t i) _ a l (place_of_there t i hs.0) (λ x there a l. writes x v _ a l there (λ _ a l. tt)))))
    does_there (Change t op e) h a l =
        let hs = and_parts (target_is_named p Here t) (expression_is_named p Here e) h in
        after (tick a l) _ (ticks a l) (λ _ a l. after (index_of inputs t a l) _ (index_there t hs.0 a l) (λ i a l.
        at_place (place_of t i) _ a l (place_of_there t i hs.0) (λ x there a l. after (ask (asks.Read x) a l) _ (reads x a l there) (λ old a l.
        after (value inputs e a l) _ (value_there e hs.1 a l) (λ v a l. writes x (change op old v) _ a l there (λ _ a l. tt))))))
    does_there (Step t n) h a l =
        after (tick a l) _ (ticks a l) (λ _ a l. after (index_of inputs t a l) _ (index_there t h a l) (λ i a l.
        at_place (place_of t i) _ a l (place_of_there t i h) (λ x there a l. after (ask (asks.Read x) a l) _ (reads x a l there) (λ old a l. writes x (word_of (old +ℤ n)) _ a l there (λ _ a l. tt)))))
    does_there (Invokes i) h a l = after (tick a l) _ (ticks a l) (λ _ a l. function_there i h a l)
    does_there Sync h a l = after (tick a l) _ (ticks a l) (λ _ a l. after (ask asks.Sync a l) _ (asked asks.Sync a l tt) (λ _ a l. tt))
    does_there (If e s) h a l =
        let hs = and_parts (expression_is_named p Here e) (statement_is_named p Here s) h in
        begun e _ hs.0 (λ v a l. if_comes (AskIsThere p callee) Any (is_zero v) _ _ (λ _. tt) (λ _. does_there s hs.1 a l)) a l
    does_there (IfElse e s other) h a l =
        let hs = and_parts (expression_is_named p Here e && statement_is_named p Here s) (statement_is_named p Here other) h in
        let front = and_parts (expression_is_named p Here e) (statement_is_named p Here s) hs.0 in
        begun e _ front.0 (λ v a l. if_comes (AskIsThere p callee) Any (is_zero v) _ _ (λ _. does_there other hs.1 a l) (λ _. does_there s front.1 a l)) a l
    does_there (For row test step s) h a l =
        let beginning = row_is_named p Here row in
        let tested = option_is_named p Here test in
        let stepped = row_is_named p Here step in
        let h3 = and_parts (beginning && tested && stepped) (statement_is_named p Here s) h in
        let h2 = and_parts (beginning && tested) stepped h3.0 in
        let h1 = and_parts beginning tested h2.0 in
        after (tick a l) _ (ticks a l) (λ _ a l. after (all_do inputs row a l) _ (all_there row h1.0 a l) (λ f a l. unless_there f (λ answers left. turns (suc left) (condition inputs test) (does inputs s) (all_do inputs step) answers left) a l (λ a l.
        turns_there (suc l) (condition inputs test) (does inputs s) (all_do inputs step) (condition_there test h1.1) (does_there s h3.1) (all_there step h2.1) a l)))
    does_there (ParallelFor d e n) h a l =
        let hs = and_parts (expression_is_named p Here d && expression_is_named p Here e) (loop_is_there p Here n) h in
        let front = and_parts (expression_is_named p Here d) (expression_is_named p Here e) hs.0 in
        begun d _ front.0 (λ low a l. after (value inputs e a l) _ (value_there e front.1 a l) (λ high a l. turns_of_loop_there n low high hs.1 a l)) a l
    does_there (Print e) h a l = begun e _ h (λ v a l. after (ask (asks.Print v) a l) _ (asked (asks.Print v) a l tt) (λ _ a l. tt)) a l
    does_there (Update r e) h a l =
        let hs = and_parts (reducer_is_there p Here r.place r.kind) (expression_is_named p Here e) h in
        begun e _ hs.1 (λ v a l. after (ask (asks.Update r v) a l) _ (asked (asks.Update r v) a l (whole, hs.0)) (λ _ a l. tt)) a l
    does_there (Set r e) h a l =
        let hs = and_parts (reducer_is_there p Here r.place r.kind) (expression_is_named p Here e) h in
        begun e _ hs.1 (λ v a l. after (ask (asks.Set r v) a l) _ (asked (asks.Set r v) a l (whole, hs.0)) (λ _ a l. tt)) a l
    does_there (Return o) h a l = after (tick a l) _ (ticks a l) (λ _ a l. return_there o h a l)

    all_there : (row : Statements) → IsTrue (row_is_named p Here row) → (a : List ℤ) (l : ℕ) → There (all_do inputs row a l)
    all_there Nothing h a l = tt
    all_there (Then s row) h a l =
        let hs = and_parts (statement_is_named p Here s) (row_is_named p Here row) h in
        after (does inputs s a l) _ (does_there s hs.0 a l) (λ f a l. unless_there f (all_do inputs row) a l (all_there row hs.1))

  -- the creation of reducers with these monoids
  creates_there : (place : ℕ → ReducerPlace) (n : ℕ) (ks : List MonoidKind) → ((i : ℕ) (k : MonoidKind) → slice_get ks i ≡ Some k → IsTrue (reducer_is_there p Here (place (n + i)) k)) → (a : List ℤ) (l : ℕ) → There (creates place n ks a l)
  creates_there place n [] h a l = tt
  creates_there place n (k ∷ ks) h a l =
      let first : n + 0 ≡ n = omega arith in
      after (ask (asks.Create (record { place = place n; kind = k })) a l) _ (asked (asks.Create (record { place = place n; kind = k })) a l (whole, subst (λ m. IsTrue (reducer_is_there p Here (place m) k)) first (h 0 k refl))) (λ _ a l.
      creates_there place (suc n) ks (λ i j e. let next : n + suc i ≡ suc n + i = omega arith in subst (λ m. IsTrue (reducer_is_there p Here (place m) j)) next (h (suc i) j e)) a l)

  writes_there : (n : ℕ) (vs : List ℤ) → ((i : ℕ) → i < length vs → PlaceThere (places.Local 0 (n + i))) → (a : List ℤ) (l : ℕ) → There (writes_words n vs a l)
  writes_there n [] h a l = tt
  writes_there n (v ∷ vs) h a l =
      let first : n + 0 ≡ n = omega arith in
      writes (places.Local 0 n) v _ a l (subst (λ m. PlaceThere (places.Local 0 m)) first (h 0 (omega arith))) (λ _ a l.
      writes_there (suc n) vs (λ i lt. let next : n + suc i ≡ suc n + i = omega arith in subst (λ m. PlaceThere (places.Local 0 m)) next (h (suc i) (omega (arith, lt)))) a l)

  finishes_there : (gives : Bool) → (gives ≡ true → (v : ℤ) → AskIsThere p callee (asks.Result v)) → (f : Flow) (a : List ℤ) (l : ℕ) → There (finishes gives f a l)
  finishes_there false taken f a l = after (ask asks.Sync a l) _ (asked asks.Sync a l tt) (λ _ a l. tt)
  finishes_there true taken f a l = after (ask asks.Sync a l) _ (asked asks.Sync a l tt) (λ _ a l. after (ask (asks.Result (returned f)) a l) _ (asked (asks.Result (returned f)) a l (taken refl (returned f))) (λ _ a l. tt))

-- the run of a function
function_gives_there : (p : Source) (inputs : List ℤ) (callee : Callee) (whole : IsTrue (is_whole callee)) (k : ℕ) → body_of p callee ≡ bodies.Function k
    → (f : Function) → f ≡ function_at p k → FunctionIsNamed p k f → (words : List ℤ) → length words ≡ f.words
    → (gives : Bool) → (gives ≡ true → (v : ℤ) → AskIsThere p callee (asks.Result v)) → (a : List ℤ) (l : ℕ) → There p inputs callee whole (function_gives inputs f words gives a l)
function_gives_there p inputs callee whole k here f same named words many gives taken a l =
    let levels : levels_of p (body_of p callee) ≡ function_level f ∷ [] = ap (levels_of p) here ∙ ap (λ f. function_level f ∷ []) (sym same) in
    after p inputs callee whole (writes_words 0 words a l) _ (writes_there p inputs callee whole 0 words (λ i lt.
    subst (λ ls. IsTrue (has_cell (slice_get ls 0) (0 + i))) (sym levels) (lt-ltb (0 + i) f.cells (omega (arith, lt, many, named.words)))) a l) (λ _ a l.
    after p inputs callee whole (creates (reducers.Own 0) 0 f.reducers a l) _ (creates_there p inputs callee whole (reducers.Own 0) 0 f.reducers (λ i k e.
    let same : i ≡ 0 + i = omega arith in
    subst (λ ls. IsTrue (has_own (slice_get ls 0) (0 + i) k)) (sym levels) (subst (λ m. IsTrue (is_kind (slice_get f.reducers m) k)) same (subst (λ o. IsTrue (is_kind o k)) (sym e) (kind_itself k)))) a l) (λ _ a l.
    after p inputs callee whole (all_do inputs f.body a l) _ (all_there p inputs callee whole f.body (subst (λ b. IsTrue (row_is_named p b f.body)) (sym here) named.body) a l) (λ flow a l.
    finishes_there p inputs callee whole gives taken flow a l)))

-- one turn of a loop
turn_there : (p : Source) (inputs : List ℤ) (l : LoopPart) → int_eq (l.high -ℤ l.low) (pos 1) ≡ true → LoopIsNamed p l.number (loop_at p l.number) → (a : List ℤ) (left : ℕ)
    → Comes (AskIsThere p (callees.Loop l)) Any (ask (asks.Write (places.Local 0 0) l.low) a left >>= λ _ answers left. all_do inputs (loop_at p l.number).body answers left >>= finishes false)
turn_there p inputs l one named a left =
    writes p inputs (callees.Loop l) one (places.Local 0 0) l.low _ a left (lt-ltb 0 (loop_at p l.number).cells named.variable) (λ _ a left.
    after p inputs (callees.Loop l) one (all_do inputs (loop_at p l.number).body a left) _ (all_there p inputs (callees.Loop l) one (loop_at p l.number).body named.body a left) (λ flow a left.
    finishes_there p inputs (callees.Loop l) one false (λ e. absurd (false≢true e)) flow a left))

-- a child of a frame that halves turns
half_there : (p : Source) (l : LoopPart) (how : Invocation) (child : Callee) (a : List ℤ) (left : ℕ) → AskIsThere p (callees.Loop l) (asks.Invoke how child) → Comes (AskIsThere p (callees.Loop l)) Any (invokes how child a left)
half_there p l how child [] left h = h
half_there p l how child (v ∷ []) left h = tt
half_there p l how child (v ∷ w ∷ a) left h = tt

halves_there : (p : Source) (l : LoopPart) → l.number < length p.loops → l.low <ℤ l.high → int_eq (l.high -ℤ l.low) (pos 1) ≡ false → (a : List ℤ) (left : ℕ)
    → Comes (AskIsThere p (callees.Loop l)) Any (invokes Spawn (part l l.low (middle l.low l.high)) a left >>= λ _ answers left. invokes Call (part l (middle l.low l.high) l.high) answers left >>= finishes false)
halves_there p l here below several a left =
    let both = halves l.low l.high below several in
    let P = AskIsThere p (callees.Loop l) in
    then_comes P Any Any (invokes Spawn (part l l.low (middle l.low l.high)) a left) _ (half_there p l Spawn (part l l.low (middle l.low l.high)) a left ((here, both.0), inr (refl, refl))) (λ _ _ a left.
    then_comes P Any Any (invokes Call (part l (middle l.low l.high) l.high) a left) _ (half_there p l Call (part l (middle l.low l.high) l.high) a left ((here, both.1), inr (refl, refl))) (λ flow _ a left.
    then_comes P Any Any (ask asks.Sync a left) _ (sync_there p l a left) (λ _ _ a left. tt)))
  where
    sync_there : (p : Source) (l : LoopPart) (a : List ℤ) (left : ℕ) → Comes (AskIsThere p (callees.Loop l)) Any (ask asks.Sync a left)
    sync_there p l [] left = tt
    sync_there p l (v ∷ a) left = tt

pub some_is : {A : Type 0} (o : Option A) → is_some o ≡ true → (x : A) × (o ≡ Some x)
some_is None h = absurd (false≢true h)
some_is (Some x) h = (x, refl)

frame_there : (p : Source) → SourceIsNamed p → (callee : Callee) → CalleeIsFit p callee → (inputs : List ℤ) (a : List ℤ) (l : ℕ) → Comes (AskIsThere p callee) Any (frame_gives p inputs callee a l)
frame_there p named callees.Root fit inputs a l =
    after p inputs callees.Root refl (creates reducers.Global 0 p.reducers a l) _ (creates_there p inputs callees.Root refl reducers.Global 0 p.reducers (λ i k e.
    let same : i ≡ 0 + i = omega arith in
    subst (λ m. IsTrue (is_kind (slice_get p.reducers m) k)) same (subst (λ o. IsTrue (is_kind o k)) (sym e) (kind_itself k))) a l) (λ _ a l.
    function_gives_there p inputs callees.Root refl p.main refl (main_of p) refl (named.functions p.main named.main) [] (sym named.takes_no_words) false (λ e. absurd (false≢true e)) a l)
frame_there p named (callees.Function c) fit inputs a l =
    function_gives_there p inputs (callees.Function c) refl c.function refl (function_at p c.function) refl (named.functions c.function fit.0.here) c.words fit.0.takes (is_some c.result) (λ e v. some_is c.result e) a l
frame_there p named (callees.Loop part) fit inputs a l =
    if_comes (AskIsThere p (callees.Loop part)) Any (int_eq (part.high -ℤ part.low) (pos 1)) _ _ (λ one. turn_there p inputs part one (named.loops part.number fit.0) a l) (λ several. halves_there p part fit.0 fit.1 several a l)

ended_there : (p : Source) (callee : Callee) (x : Got ℤ) → Comes (AskIsThere p callee) Any x → AskIsThere p callee (ended x).ask
ended_there p callee (Gives v a l) h = tt
ended_there p callee (Asks k) h = h

pub asks_there : (p : Source) → IsTrue (is_well_named p) → (callee : Callee) → CalleeIsFit p callee → (inputs answers : List ℤ) (left : ℕ) → AskIsThere p callee (frame_asks p inputs callee answers left).ask
asks_there p well callee fit inputs [] left = tt
asks_there p well callee fit inputs (a ∷ answers) left = ended_there p callee (frame_gives p inputs callee answers left) (frame_there p (well_named_parts p well) callee fit inputs answers left)

-- a frame that halves turns begins only parts of its own loop
abbrev pub IsPart : Ask → Type 0
IsPart (asks.Invoke how (callees.Loop l)) = l.up ≡ 1
IsPart (asks.Invoke how callee) = ⊥
IsPart k = Unit {0}

part_asked : (l : LoopPart) (how : Invocation) (a : List ℤ) (left : ℕ) → l.up ≡ 1 → Comes IsPart Any (invokes how (callees.Loop l) a left)
part_asked l how [] left h = h
part_asked l how (v ∷ []) left h = tt
part_asked l how (v ∷ w ∷ a) left h = tt

sync_asked : (a : List ℤ) (left : ℕ) → Comes IsPart Any (ask asks.Sync a left)
sync_asked [] left = tt
sync_asked (v ∷ a) left = tt

parts_ended : (x : Got ℤ) → Comes IsPart Any x → IsPart (ended x).ask
parts_ended (Gives v a l) h = tt
parts_ended (Asks k) h = h

pub parts_asked : (p : Source) (l : LoopPart) → int_eq (l.high -ℤ l.low) (pos 1) ≡ false → (inputs answers : List ℤ) (left : ℕ) → IsPart (frame_asks p inputs (callees.Loop l) answers left).ask
parts_asked p l several inputs [] left = tt
parts_asked p l several inputs (a ∷ answers) left =
    parts_ended (frame_gives p inputs (callees.Loop l) answers left)
    (if_comes IsPart Any (int_eq (l.high -ℤ l.low) (pos 1)) _ _ (λ one. absurd (false≢true (sym several ∙ one))) (λ _.
    then_comes IsPart Any Any (invokes Spawn (part l l.low (middle l.low l.high)) answers left) _ (part_asked _ Spawn answers left refl) (λ _ _ a left.
    then_comes IsPart Any Any (invokes Call (part l (middle l.low l.high) l.high) a left) _ (part_asked _ Call a left refl) (λ flow _ a left.
    then_comes IsPart Any Any (ask asks.Sync a left) _ (sync_asked a left) (λ _ _ a left. tt)))))
