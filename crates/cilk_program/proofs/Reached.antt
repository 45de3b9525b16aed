-- If the elision ends, each serial run with enough ticks and events ends in the same way, unless it
-- has too many frames or cells.
use Rattle.std.proofs.Common.{◌≡◌, ℕ, zero, suc, ◌+◌, ◌*◌, ◌<◌, ◌≤◌, ℤ, pos, ◌+ℤ◌, Bool, true, false, IsTrue, List, [], ◌∷◌, length, ◌⊎◌, inl, inr, Option, Some, None, refl, sym, ap, ◌∙◌, subst, arith}
use Rattle.cilk_types.specs.declared.fault.Fault.{Fault}
use Rattle.cilk_types.specs.declared.fault.Fault.TheVariants.{DivisionByZero, IndexOutside, InputOutside, TooManyEvents, TooManyFrames, TooManyCells}
use Rattle.cilk_types.specs.declared.event.Event.{Event}
use Rattle.cilk_program.specs.declared.ask.Callee.TheVariants as callees
use Rattle.cilk_program.specs.declared.program.Body.{Body}
use Rattle.cilk_program.specs.declared.syntax.ReducerPlace.TheVariants as reducers
use Rattle.cilk_program.specs.Syntax.{Source, Function, Loop, Expression, Invoke, Declaration, Statement, Block, Declare, Invokes, Statements, Nothing, main_of, loop_at}
use Rattle.cilk_program.specs.WellNamed.{is_well_named, invoke_is_named, declaration_is_named, declarations_are_named, statement_is_named, row_is_named}
use Rattle.cilk_program.specs.Store.{opening}
use Rattle.cilk_program.specs.Behaviour.{Got, ◌>>=◌, Flow, invokes_function, declares, all_declare, creates, function_gives, finishes, frame_gives, does, all_do}
use Rattle.cilk_program.specs.Outcomes.{Conclusion, Leaves, StopsBy}
use Rattle.cilk_program.specs.Elision as elision
use Rattle.cilk_program.specs.Elision.{Sight, itself, Came, GoesOn, Returns, Faults, home_in, entered, turned, begins, Elides, Empties, Blocks, Declares, Assigns, Changes, Steps, Prints, Updates, Sets, Ends, EndsPlainly, Syncs, Calls, Holds, Skips, IfFails, First, Second, IfElseFails, Fors, ForStops, Ascends, LowFails, HighFails, ElidesAll, NoMore, Follows, Stops, ElidesEach, NoneLeft, Next, LastOne, ElidesOne, Zeroes, Opens, OpensByCall, ElidesLoop, Done, TestFails, Turns, BodyLeaves, StepLeaves, ElidesTurns, NoTurns, Turned, TurnFails, ElidesTurn, OneTurn, ElidesCall, ArgumentFails, Called, IsElision}
use Rattle.cilk_program.specs.SerialRun.{Transcript, root_frame, before_root, begun, Ending, Finished, Stopped, Serial, conclusion_of, IsSerialRunWithin}
use Rattle.cilk_program.specs.Agreement.{IsLimit, IsCrowd, IsCutOff, IsCrowded, IsReached}
use Rattle.cilk_program.proofs.Ties.{since_itself}
use Rattle.cilk_program.proofs.Moments.{Site}
use Rattle.cilk_program.proofs.Calls.{function_body_named}
use Rattle.cilk_program.proofs.Roots as roots
use Rattle.cilk_program.proofs.Roots.{all_elided, cleared_opening, root_same, run_ends}
use Rattle.cilk_program.proofs.Elisions.{one_elision}
use Rattle.cilk_program.proofs.Budgets.{Rich, less, NotEvents}
use Rattle.cilk_program.proofs.Costs.{After, FrameAfter, starts_rich, creates_rich, plainly_closes}
use Rattle.cilk_program.proofs.Spending.{Standing, site, Takes, tick_takes, assign_takes, change_takes, step_takes, print_takes, update_takes, set_takes, return_takes, opening_takes, zero_takes, empty_takes, end_takes, sync_takes, holds_takes, skips_takes, if_fails_takes, first_takes, second_takes, if_else_fails_takes, then_takes, stops_takes}
use Rattle.cilk_program.proofs.Repeating.{one_stays, next_takes, last_takes, LoopNamed, again, done_takes, test_fails_takes, turns_takes, body_leaves_takes, step_leaves_takes, for_takes, for_stops_takes}
use Rattle.cilk_program.proofs.Calling.{argument_takes, call_takes}
use Rattle.cilk_program.proofs.Looping.{TurnTakes, Costed, Nothing', More, Fails', low_fails_takes, high_fails_takes, parallel_takes}

module _ (p : Source) (wn : IsTrue (is_well_named p)) (inputs : List ℤ) where
  -- turns with their cost
  record SomeCost (s : Sight) (n : ℕ) (v : ℤ) (k : ℕ) (m : elision.Memory) (r : Came) : Type 0 where
    cost : ℕ
    turns : Costed p wn inputs s n v k m r cost

  none_takes : {s : Sight} {m : elision.Memory} → Takes p inputs s m (GoesOn m) (λ b. IsTrue (row_is_named p b Nothing)) (all_do inputs Nothing)
  none_takes = record { cost = 0; run = λ y h k g n. inl (less k (omega arith) n) }

  no_declaration_takes : {s : Sight} {m : elision.Memory} → Takes p inputs s m (GoesOn m) (λ b. IsTrue (declarations_are_named p b [])) (all_declare inputs [])
  no_declaration_takes = record { cost = 0; run = λ y h k g n. inl (less k (omega arith) n) }

  mutual
    takes : {s : Sight} {a : Statement} {m : elision.Memory} {r : Came} → Elides p inputs s a m r → Takes p inputs s m r (λ b. IsTrue (statement_is_named p b a)) (does inputs a)
    takes Empties = empty_takes p inputs
    takes (Blocks {row = row} all) = tick_takes p inputs (λ b. IsTrue (row_is_named p b row)) (all_do inputs row) (all_takes all)
    takes (Declares ds all) = tick_takes p inputs (λ b. IsTrue (declarations_are_named p b ds)) (all_declare inputs ds) (each_takes all)
    takes (Assigns t e q) = assign_takes p inputs t e q
    takes (Changes t op e q) = change_takes p inputs t op e q
    takes (Steps t c q) = step_takes p inputs t c q
    takes (Prints e q) = print_takes p inputs e q
    takes (Updates x e q) = update_takes p inputs x e q
    takes (Sets x e q) = set_takes p inputs x e q
    takes (Ends e q) = return_takes p inputs e q
    takes EndsPlainly = end_takes p inputs
    takes Syncs = sync_takes p inputs
    takes (Calls i el) = tick_takes p inputs (λ b. IsTrue (invoke_is_named p b i)) (invokes_function inputs i) (called_takes el)
    takes (Holds {e = e} {a = a} v ev z el) = holds_takes p inputs e a v ev z (takes el)
    takes (Skips {e = e} {a = a} v ev z) = skips_takes p inputs e a v ev z
    takes (IfFails {e = e} {a = a} f ev) = if_fails_takes p inputs e a f ev
    takes (First {e = e} {a = a} {b = b} v ev z el) = first_takes p inputs e a b v ev z (takes el)
    takes (Second {e = e} {a = a} {b = b} v ev z el) = second_takes p inputs e a b v ev z (takes el)
    takes (IfElseFails {e = e} {a = a} {b = b} f ev) = if_else_fails_takes p inputs e a b f ev
    takes (Fors {row = row} {step = step} {test = test} {a = a} m' all loop) = for_takes p inputs test step a row m' (all_takes all) (loop_takes loop)
    takes (ForStops {row = row} {step = step} {test = test} {a = a} all last) = for_stops_takes p inputs test step a row last (all_takes all)
    takes (Ascends {a = a} {b = b} {n = n} low high ea eb turns) = let t = turns_costed turns in parallel_takes p wn inputs a b n low high t.cost t.turns ea eb
    takes (LowFails {a = a} {b = b} {n = n} f ea) = low_fails_takes p wn inputs a b n f ea
    takes (HighFails {a = a} {b = b} {n = n} low f ea eb) = high_fails_takes p wn inputs a b n low f ea eb

    all_takes : {s : Sight} {row : Statements} {m : elision.Memory} {r : Came} → ElidesAll p inputs s row m r → Takes p inputs s m r (λ b. IsTrue (row_is_named p b row)) (all_do inputs row)
    all_takes NoMore = none_takes
    all_takes (Follows {a = a} {row = row} m' el all) = then_takes p inputs a row m' (takes el) (all_takes all)
    all_takes (Stops {a = a} {row = row} el last) = stops_takes p inputs a row last (takes el)

    each_takes : {s : Sight} {ds : List Declaration} {m : elision.Memory} {r : Came} → ElidesEach p inputs s ds m r → Takes p inputs s m r (λ b. IsTrue (declarations_are_named p b ds)) (all_declare inputs ds)
    each_takes NoneLeft = no_declaration_takes
    each_takes (Next {d = d} {ds = ds} m' el all) = next_takes p inputs d ds m' (declared_takes el) (each_takes all)
    each_takes (LastOne {d = d} {ds = ds} el last) = last_takes p inputs d ds last (one_stays p inputs el) (declared_takes el)

    declared_takes : {s : Sight} {d : Declaration} {m : elision.Memory} {r : Came} → ElidesOne p inputs s d m r → Takes p inputs s m r (λ b. IsTrue (declaration_is_named p b d)) (declares inputs d)
    declared_takes (Zeroes c) = zero_takes p inputs c
    declared_takes (Opens c e q) = opening_takes p inputs c e q
    declared_takes (OpensByCall i el) = called_takes el

    loop_takes : {s : Sight} {test : Option Expression} {step : Statements} {a : Statement} {m : elision.Memory} {r : Came} → ElidesLoop p inputs s test step a m r → Takes p inputs s m r (LoopNamed p inputs test step a) (again p inputs test step a)
    loop_takes (Done {test = test} {step = step} {a = a} v ev z) = done_takes p inputs test step a v ev z
    loop_takes (TestFails {test = test} {step = step} {a = a} f ev) = test_fails_takes p inputs test step a f ev
    loop_takes (Turns {test = test} {step = step} {a = a} v m' m'' ev z el all more) = turns_takes p inputs test step a v ev z m' m'' (takes el) (all_takes all) (loop_takes more)
    loop_takes (BodyLeaves {test = test} {step = step} {a = a} v ev z el last) = body_leaves_takes p inputs test step a v ev z last (takes el)
    loop_takes (StepLeaves {test = test} {step = step} {a = a} v m' ev z el all last) = step_leaves_takes p inputs test step a v ev z m' last (takes el) (all_takes all)

    turns_costed : {s : Sight} {n : ℕ} {v : ℤ} {k : ℕ} {m : elision.Memory} {r : Came} → ElidesTurns p inputs s n v k m r → SomeCost s n v k m r
    turns_costed NoTurns = record { cost = 0; turns = Nothing' }
    turns_costed (Turned r' w m' turn on rest) = let t = turn_takes turn in let c = turns_costed rest in record { cost = t.body.cost + 11 + c.cost; turns = More w m' t on c.turns }
    turns_costed (TurnFails {k = k} f turn) = let t = turn_takes turn in record { cost = t.body.cost + 11 * suc k; turns = Fails' t }

    turn_takes : {s : Sight} {n : ℕ} {v : ℤ} {m : elision.Memory} {r : Came} → ElidesTurn p inputs s n v m r → TurnTakes p wn inputs s n v m r
    turn_takes (OneTurn {s = s} {n = n} {v = v} {m = m} {r = r} l e all) = record {
      turn = OneTurn l e all;
      body = subst (λ l. Takes p inputs (home_in m [] ∷ s) (turned l v m) r (λ b. IsTrue (row_is_named p b l.body)) (all_do inputs l.body)) e (all_takes all);
    }

    called_takes : {s : Sight} {i : Invoke} {m : elision.Memory} {r : Came} → ElidesCall p inputs s i m r → Takes p inputs s m r (λ b. IsTrue (invoke_is_named p b i)) (invokes_function inputs i)
    called_takes (ArgumentFails {i = i} f ev) = argument_takes p wn inputs i f ev
    called_takes (Called {i = i} words f r' ev e all q) = call_takes p wn inputs i words f r' ev e (Called words f r' ev e all q) (all_takes all)

  -- the root
  module _ (r : Came) (t : Takes p inputs (home_in (begins p inputs) [] ∷ []) (entered (main_of p) [] (begins p inputs)) r (λ b. IsTrue (row_is_named p b (main_of p).body)) (all_do inputs (main_of p).body)) where
    abbrev enough : ℕ
    enough = 4 + (length p.reducers + (length (main_of p).reducers + t.cost))

    root_enough : (ticks room : ℕ) → enough ≤ ticks → enough ≤ room → (u : Transcript) (es : List Event) (end : Ending) → Serial p inputs (root_frame p inputs) ticks [] (begun p callees.Root (before_root p inputs room)) u es end → FrameAfter 0 end
    root_enough ticks room h h' u es end d =
        let z = roots.site p wn inputs end in
        let y : Standing p inputs (home_in (begins p inputs) [] ∷ []) = record { fr = z.fr; end = end; tied = z.tied; count = z.count; body = z.body; sees = z.sees } in
        let f = main_of p in
        let m1 = roots.m1 p wn inputs end in
        let k2 : ℕ = t.cost + 2 in
        let k1 : ℕ = length f.reducers + k2 in
        let n = starts_rich z m1 (begun p callees.Root (before_root p inputs room)) ticks (length p.reducers + k1) u es (omega arith) (omega arith) (all_elided p wn inputs u) d
        (record { store = root_same p wn inputs end; cells = refl }) (since_itself z.tied z.count) in
        let n1 = creates_rich z itself reducers.Global p.reducers 0 (λ j h. (omega arith, refl)) m1 k1 (λ _ a l. function_gives inputs f [] false a l) n in
        let n2 = subst (λ st. Rich z (record m1 { store = st }) k1 (λ a l. function_gives inputs f [] false a l)) (cleared_opening p.openings itself 0 p.reducers) n1 in
        let n3 = creates_rich z (λ n. length p.reducers + n) (reducers.Own 0) f.reducers 0
        (λ j h. (omega arith, let e : suc (length p.reducers) + j ≡ suc (length p.reducers + j) = omega arith in ap (λ x. record { frame = 1; place = x }) e)) m1 k2 (λ _ a l. all_do inputs f.body a l >>= finishes false) n2 in
        plainly_closes z r 0 (t.run y (function_body_named p wn p.main) 2 (finishes false) n3)

  crowd_left : (f : Fault) → NotEvents f → IsLimit f → IsCrowd f
  crowd_left DivisionByZero n l = absurd l
  crowd_left IndexOutside n l = absurd l
  crowd_left InputOutside n l = absurd l
  crowd_left TooManyEvents n l = absurd n
  crowd_left TooManyFrames n l = tt
  crowd_left TooManyCells n l = tt

  cut_crowded : (end : Ending) → FrameAfter 0 end → IsCutOff (conclusion_of p inputs end) → IsCrowded (conclusion_of p inputs end)
  cut_crowded (Finished v left m) h c = absurd c
  cut_crowded (Stopped f) h c = crowd_left f h c

  main_takes : (f : Function) (r : Came) → f ≡ main_of p → ElidesAll p inputs (home_in (begins p inputs) [] ∷ []) f.body (entered f [] (begins p inputs)) r
      → Takes p inputs (home_in (begins p inputs) [] ∷ []) (entered (main_of p) [] (begins p inputs)) r (λ b. IsTrue (row_is_named p b (main_of p).body)) (all_do inputs (main_of p).body)
  main_takes f r e all = subst (λ f. Takes p inputs (home_in (begins p inputs) [] ∷ []) (entered f [] (begins p inputs)) r (λ b. IsTrue (row_is_named p b f.body)) (all_do inputs f.body)) e (all_takes all)

  -- with the cost of the elision
  reached_from : (c : Conclusion) → IsElision p inputs c → (r : Came) (t : Takes p inputs (home_in (begins p inputs) [] ∷ []) (entered (main_of p) [] (begins p inputs)) r (λ b. IsTrue (row_is_named p b (main_of p).body)) (all_do inputs (main_of p).body))
      → (ticks room : ℕ) → enough r t ≤ ticks → enough r t ≤ room → (u : Transcript) (es : List Event) (c' : Conclusion) → IsSerialRunWithin p inputs ticks room u es c' → (c' ≡ c) ⊎ IsCrowded c'
  reached_from c h r t ticks room le le' u es c' run =
      elim (run_ends p wn inputs run.0 ticks room u es run.1) [
        | inl e ↦ inl (run.2 ∙ one_elision p inputs (conclusion_of p inputs run.0) c e h)
        | inr l ↦ inr (subst IsCrowded (sym run.2) (cut_crowded run.0 (root_enough r t ticks room le le' u es run.0 run.1) l))
      ]

pub is_reached : (p : Source) (inputs : List ℤ) → IsReached p inputs
is_reached p inputs wn c h =
    let t = main_takes p wn inputs h.1 h.0 h.2 h.3 in
    (enough p wn inputs h.0 t, λ ticks room le le' u es c' run. reached_from p wn inputs c h h.0 t ticks room le le' u es c' run)
