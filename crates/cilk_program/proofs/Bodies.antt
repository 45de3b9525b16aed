-- A body does the same as its elision.
use Rattle.std.proofs.Common.{◌≡◌, ℕ, zero, suc, ◌<◌, ◌≤◌, ℤ, false, ◌&&◌, IsTrue, List, Option, None, ap, arith}
use Rattle.std.proofs.lemmas.Bool.{and_parts}
use Rattle.cilk_program.specs.Operators.{is_zero}
use Rattle.cilk_program.specs.Syntax.{Expression, Invoke, Declaration, Statement, Empty, Block, Declare, Assign, Change, Step, Invokes, Sync, If, IfElse, For, ParallelFor, Print, Update, Set, Return, Statements, Nothing, Then}
use Rattle.cilk_program.specs.WellNamed.{expression_is_named, option_is_named, invoke_is_named, declarations_are_named, statement_is_named, row_is_named}
use Rattle.cilk_program.specs.Behaviour.{Got, Gives, ◌>>=◌, chosen, Flow, unless_returned, condition, invokes_function, all_declare, does, all_do}
use Rattle.cilk_program.specs.Elision.{Memory, Gives as Worth, evaluate_condition, Came, GoesOn, Elides, Empties, Blocks, Declares, Calls, Fors, ForStops, ElidesAll, NoMore, Follows, Stops, ElidesLoop, Done, TestFails, Turns, BodyLeaves, StepLeaves}
use Rattle.cilk_program.proofs.Moments.{Site, Now, now_as, regroup, Comes, On, Back, Broken', Limited}
use Rattle.cilk_program.proofs.Values.{condition_goes}
use Rattle.cilk_program.proofs.Ticks.{condition_below, does_below, all_below, loops, loops_once}
use Rattle.cilk_program.proofs.Statements.{comes_as, tick_comes, valued, split, assign_goes, change_goes, step_goes, call_goes, each_goes, parallel_goes, if_goes, if_else_goes, return_goes, print_goes, update_goes, set_goes, sync_goes}

module _ (z : Site) where
  -- a statement does the same as its elision, from each moment
  abbrev Agrees : Statement → Type 0
  Agrees s = (m : Memory) (left : ℕ) (g : Flow → List ℤ → ℕ → Got ℤ) → Now z m left (λ a l. does z.inputs s a l >>= g) → Comes z (Elides z.p z.inputs z.sight s m) left g

  abbrev AgreesAll : Statements → Type 0
  AgreesAll row = (m : Memory) (left : ℕ) (g : Flow → List ℤ → ℕ → Got ℤ) → Now z m left (λ a l. all_do z.inputs row a l >>= g) → Comes z (ElidesAll z.p z.inputs z.sight row m) (suc left) g

  -- a statement, and then more unless it returned
  followed : (s : Statement) (row : Statements) (m : Memory) (left : ℕ) (g : Flow → List ℤ → ℕ → Got ℤ) → AgreesAll row
      → Comes z (Elides z.p z.inputs z.sight s m) left (λ f a l. unless_returned f (all_do z.inputs row) a l >>= g) → Comes z (ElidesAll z.p z.inputs z.sight (Then s row) m) (suc left) g
  followed s row m left g more (On m1 e left1 h n) = comes_as (omega arith) (λ r. Follows m1 e) (more m1 left1 g n)
  followed s row m left g more (Back v m1 e left1 h n) = Back v m1 (Stops e tt) left1 (omega arith) n
  followed s row m left g more (Broken' f e q) = Broken' f (Stops e tt) q
  followed s row m left g more (Limited f l q) = Limited f l q

  module _ (test : Option Expression) (step : Statements) (s : Statement) (named : IsTrue (option_is_named z.p z.body test)) (body : Agrees s) (steps : AgreesAll step) where
    abbrev again : List ℤ → ℕ → Got Flow
    again = loops (condition z.inputs test) (does z.inputs s) (all_do z.inputs step) (condition_below z.inputs test) (does_below z.inputs s) (all_below z.inputs step)

    abbrev then_again : Flow → List ℤ → ℕ → Got Flow
    then_again f a l = unless_returned f again a l

    abbrev then_step : List ℤ → ℕ → Got Flow
    then_step a l = all_do z.inputs step a l >>= then_again

    abbrev Loops : Memory → Came → Type 0
    Loops m = ElidesLoop z.p z.inputs z.sight test step s m

    module _ (m : Memory) (v : ℤ) (ev : evaluate_condition z.inputs z.sight m.store test ≡ Worth v) (holds : is_zero v ≡ false) (bound : ℕ) (g : Flow → List ℤ → ℕ → Got ℤ)
        (more : (m2 : Memory) (left : ℕ) → left < bound → Now z m2 left (λ a l. again a l >>= g) → Comes z (Loops m2) (suc left) g) where
      stepped : (m1 : Memory) → Elides z.p z.inputs z.sight s m (GoesOn m1) → (bound1 : ℕ) → bound1 ≤ bound → Comes z (ElidesAll z.p z.inputs z.sight step m1) bound1 (λ f a l. then_again f a l >>= g) → Comes z (Loops m) bound g
      stepped m1 e1 bound1 b (On m2 e left h n) = comes_as (omega arith) (λ r. Turns v m1 m2 ev holds e1 e) (more m2 left (omega arith) n)
      stepped m1 e1 bound1 b (Back w m2 e left h n) = Back w m2 (StepLeaves v m1 ev holds e1 e tt) left (omega arith) n
      stepped m1 e1 bound1 b (Broken' f e q) = Broken' f (StepLeaves v m1 ev holds e1 e tt) q
      stepped m1 e1 bound1 b (Limited f l q) = Limited f l q

      walked : (bound1 : ℕ) → bound1 ≤ bound → Comes z (Elides z.p z.inputs z.sight s m) bound1 (λ f a l. unless_returned f then_step a l >>= g) → Comes z (Loops m) bound g
      walked bound1 b (On m1 e left h n) = stepped m1 e (suc left) (omega arith) (steps m1 left (λ f a l. then_again f a l >>= g) (regroup (all_do z.inputs step) then_again g n))
      walked bound1 b (Back w m1 e left h n) = Back w m1 (BodyLeaves v ev holds e tt) left (omega arith) n
      walked bound1 b (Broken' f e q) = Broken' f (BodyLeaves v ev holds e tt) q
      walked bound1 b (Limited f l q) = Limited f l q

    loop_goes : (fuel : ℕ) (left : ℕ) → left < fuel → (m : Memory) (g : Flow → List ℤ → ℕ → Got ℤ) → Now z m left (λ a l. again a l >>= g) → Comes z (Loops m) (suc left) g
    loop_goes zero left h m g n = absurd (omega arith)
    loop_goes (suc fuel) left h m g n =
        let k : Flow → List ℤ → ℕ → Got Flow = λ f. unless_returned f then_step in
        let f : ℤ → List ℤ → ℕ → Got Flow = λ v a l. chosen v (does z.inputs s a l >>= k) (Gives None a l) in
        let once : Now z m left (λ a l. (condition z.inputs test a l >>= f) >>= g) =
        now_as (λ a l. ap (λ x. x >>= g) (loops_once (condition z.inputs test) (does z.inputs s) (all_do z.inputs step) (condition_below z.inputs test) (does_below z.inputs s) (all_below z.inputs step) a l)) n in
        valued (Loops m) (evaluate_condition z.inputs z.sight m.store test) f g (suc left) (omega arith) (condition_goes z m test named left (λ v a l. f v a l >>= g) (regroup (condition z.inputs test) f g once))
        (λ v ev left1 h1 n. split (is_zero v) (λ a l. does z.inputs s a l >>= k) (λ a l. Gives None a l) g n
        (λ q n. comes_as (omega arith) (λ r x. x) (walked m v ev q left g (λ m2 left' h' n. loop_goes fuel left' (omega arith) m2 g n) left1 (omega arith) (body m left1 (λ f a l. k f a l >>= g) (regroup (does z.inputs s) k g n))))
        (λ q n. On m (Done v ev q) left1 h1 n))
        (λ fault ev. TestFails fault ev)

  for_goes : (row : Statements) (test : Option Expression) (step : Statements) (s : Statement) → IsTrue (option_is_named z.p z.body test) → AgreesAll row → AgreesAll step → Agrees s → Agrees (For row test step s)
  for_goes row test step s ht first steps body m left g n =
      let loop : List ℤ → ℕ → Got Flow = again test step s ht body steps in
      let k : Flow → List ℤ → ℕ → Got Flow = λ f. unless_returned f loop in
      tick_comes (Elides z.p z.inputs z.sight (For row test step s) m) _ left g n (λ left1 h1 n.
      comes_as h1 (λ r x. x) (begun left1 (first m left1 (λ f a l. k f a l >>= g) (regroup (all_do z.inputs row) k g n))))
    where
      begun : (left1 : ℕ) → Comes z (ElidesAll z.p z.inputs z.sight row m) (suc left1) (λ f a l. unless_returned f (again test step s ht body steps) a l >>= g) → Comes z (Elides z.p z.inputs z.sight (For row test step s) m) (suc left1) g
      begun left1 (On m1 e left2 h n) = comes_as (omega arith) (λ r. Fors m1 e) (loop_goes test step s ht body steps (suc left2) left2 (omega arith) m1 g n)
      begun left1 (Back v m1 e left2 h n) = Back v m1 (ForStops e tt) left2 h n
      begun left1 (Broken' f e q) = Broken' f (ForStops e tt) q
      begun left1 (Limited f l q) = Limited f l q

  empty_goes : Agrees Empty
  empty_goes m left g n = tick_comes (Elides z.p z.inputs z.sight Empty m) (Gives None) left g n (λ left1 h1 n. On m Empties left1 h1 n)

  block_goes : (row : Statements) → AgreesAll row → Agrees (Block row)
  block_goes row all m left g n = tick_comes (Elides z.p z.inputs z.sight (Block row) m) (all_do z.inputs row) left g n (λ left1 h1 n. comes_as h1 (λ r. Blocks) (all m left1 g n))

  declare_goes : (ds : List Declaration) → IsTrue (declarations_are_named z.p z.body ds) → Agrees (Declare ds)
  declare_goes ds h m left g n = tick_comes (Elides z.p z.inputs z.sight (Declare ds) m) (all_declare z.inputs ds) left g n (λ left1 h1 n. comes_as h1 (λ r. Declares ds) (each_goes z ds h m left1 g n))

  invoke_goes : (i : Invoke) → IsTrue (invoke_is_named z.p z.body i) → Agrees (Invokes i)
  invoke_goes i h m left g n =
      tick_comes (Elides z.p z.inputs z.sight (Invokes i) m) (invokes_function z.inputs i) left g n (λ left1 h1 n. comes_as h1 (λ r x. Calls i x.1) (call_goes z i h m left1 (suc left1) (omega arith) g n))

  mutual
    pub does_goes : (s : Statement) → IsTrue (statement_is_named z.p z.body s) → Agrees s
    does_goes Empty h = empty_goes
    does_goes (Block row) h = block_goes row (all_goes row h)
    does_goes (Declare ds) h = declare_goes ds h
    does_goes (Assign t e) h = let q = and_parts _ _ h in assign_goes z t e q.0 q.1
    does_goes (Change t op e) h = let q = and_parts _ _ h in change_goes z t op e q.0 q.1
    does_goes (Step t k) h = step_goes z t k h
    does_goes (Invokes i) h = invoke_goes i h
    does_goes Sync h = sync_goes z
    does_goes (If e s) h = let q = and_parts _ _ h in if_goes z e s q.0 (does_goes s q.1)
    does_goes (IfElse e s other) h =
        let q = and_parts (expression_is_named z.p z.body e && statement_is_named z.p z.body s) (statement_is_named z.p z.body other) h in
        let q' = and_parts (expression_is_named z.p z.body e) (statement_is_named z.p z.body s) q.0 in
        if_else_goes z e s other q'.0 (does_goes s q'.1) (does_goes other q.1)
    does_goes (For row test step s) h =
        let q = and_parts (row_is_named z.p z.body row && option_is_named z.p z.body test && row_is_named z.p z.body step) (statement_is_named z.p z.body s) h in
        let q' = and_parts (row_is_named z.p z.body row && option_is_named z.p z.body test) (row_is_named z.p z.body step) q.0 in
        let q'' = and_parts (row_is_named z.p z.body row) (option_is_named z.p z.body test) q'.0 in
        for_goes row test step s q''.1 (all_goes row q''.0) (all_goes step q'.1) (does_goes s q.1)
    does_goes (ParallelFor e e' k) h = parallel_goes z e e' k h
    does_goes (Print e) h = print_goes z e h
    does_goes (Update x e) h = let q = and_parts _ _ h in update_goes z x e q.0 q.1
    does_goes (Set x e) h = let q = and_parts _ _ h in set_goes z x e q.0 q.1
    does_goes (Return e) h = return_goes z e h

    pub all_goes : (row : Statements) → IsTrue (row_is_named z.p z.body row) → AgreesAll row
    all_goes Nothing h m left g n = On m NoMore left (omega arith) n
    all_goes (Then s row) h m left g n =
        let k : Flow → List ℤ → ℕ → Got Flow = λ f. unless_returned f (all_do z.inputs row) in
        let q = and_parts (statement_is_named z.p z.body s) (row_is_named z.p z.body row) h in
        followed s row m left g (all_goes row q.1) (does_goes s q.0 m left (λ f a l. k f a l >>= g) (regroup (does z.inputs s) k g n))
