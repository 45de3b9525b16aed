-- The elision ends in one way.
use Rattle.std.proofs.Common.{◌≡◌, ℕ, zero, suc, ℤ, pos, ◌+ℤ◌, true, false, true≢false, List, [], ◌∷◌, length, refl, sym, ap, ap₂, ◌∙◌, subst, subst₂, nat_eq, ◌+◌}
use Rattle.cilk_types.specs.declared.fault.Fault.{Fault}
use Rattle.cilk_program.specs.Operators.{is_zero}
use Rattle.cilk_program.specs.Syntax.{Source, Invoke, Declaration, Statement, Statements, Expression, Function, Loop}
use Rattle.cilk_program.specs.Store.{clear_all}
use Rattle.cilk_program.specs.Scopes.{instances_in}
use Rattle.cilk_program.specs.Elision.{Memory, Sight, itself, Valued, Gives, Fails, evaluate, evaluate_all, Came, GoesOn, Returns, Faults, IsLast, on_ended, left_with, result_cell, home_in, entered, turned, turns_between, Elides, Empties, Blocks, Declares, Assigns, Changes, Steps, Prints, Updates, Sets, Ends, EndsPlainly, Syncs, Calls, Holds, Skips, IfFails, First, Second, IfElseFails, Fors, ForStops, Ascends, LowFails, HighFails, ElidesAll, NoMore, Follows, Stops, ElidesEach, NoneLeft, Next, LastOne, ElidesOne, Zeroes, Opens, OpensByCall, ElidesLoop, Done, TestFails, Turns, BodyLeaves, StepLeaves, ElidesTurns, NoTurns, Turned, TurnFails, ElidesTurn, OneTurn, ElidesCall, ArgumentFails, Called, begins, conclusion_of}
use Rattle.cilk_program.specs.Agreement.{HasOneElision}

-- a test has only one result
apart : {G : Type 0} (w : Valued ℤ) (v v' : ℤ) → w ≡ Gives v → w ≡ Gives v' → is_zero v ≡ true → is_zero v' ≡ false → G
apart w v v' e e' z z' = let same : v ≡ v' = cc in let wrong : true ≡ false = sym z ∙ ap is_zero same ∙ z' in absurd (true≢false wrong)

gives_fails : {G A : Type 0} (w : Valued A) (v : A) (f : Fault) → w ≡ Gives v → w ≡ Fails f → G
gives_fails w v f e e' = absurd (cc)

same_value : {A : Type 0} (w : Valued A) (v v' : A) → w ≡ Gives v → w ≡ Gives v' → v ≡ v'
same_value w v v' e e' = cc

same_fault : {A : Type 0} (w : Valued A) (f f' : Fault) → w ≡ Fails f → w ≡ Fails f' → Faults f ≡ Faults f'
same_fault w f f' e e' = let same : f ≡ f' = cc in ap Faults same

same_memory : {m m' : Memory} → GoesOn m ≡ GoesOn m' → m ≡ m'
same_memory e = cc

last_moved : {G : Type 0} {m : Memory} {r : Came} → GoesOn m ≡ r → IsLast r → G
last_moved e last = absurd (subst IsLast (sym e) last)

-- a turn's memory
same_end : (r r' : Came) (w w' : ℤ) (m m' : Memory) → r ≡ r' → on_ended r Returns ≡ Returns w m → on_ended r' Returns ≡ Returns w' m' → m ≡ m'
same_end r r' w w' m m' e h h' = let both : Returns w m ≡ Returns w' m' = sym h ∙ ap (λ r. on_ended r Returns) e ∙ h' in cc

faulty_end : {G : Type 0} (r : Came) (f : Fault) (w : ℤ) (m : Memory) → r ≡ Faults f → on_ended r Returns ≡ Returns w m → G
faulty_end r f w m e h = let both : Faults f ≡ Returns w m = sym (ap (λ r. on_ended r Returns) e) ∙ h in absurd (cc)

module _ (p : Source) (inputs : List ℤ) where
  -- the second of two rows continues from the end of the first
  all_from : {s : Sight} {row : Statements} {m m' : Memory} {r : Came} → m ≡ m' → ElidesAll p inputs s row m' r → ElidesAll p inputs s row m r
  all_from {s} {row} {r = r} e el = subst (λ m. ElidesAll p inputs s row m r) (sym e) el

  mutual
    one_way : {s : Sight} {a : Statement} {m : Memory} {r r' : Came} → Elides p inputs s a m r → Elides p inputs s a m r' → r ≡ r'
    one_way Empties Empties = refl
    one_way (Blocks all) (Blocks all') = one_all all all'
    one_way (Declares row all) (Declares row' all') = one_each all all'
    one_way (Assigns t e q) (Assigns t' e' q') = q ∙ sym q'
    one_way (Changes t op e q) (Changes t' op' e' q') = q ∙ sym q'
    one_way (Steps t n q) (Steps t' n' q') = q ∙ sym q'
    one_way (Prints e q) (Prints e' q') = q ∙ sym q'
    one_way (Updates x e q) (Updates x' e' q') = q ∙ sym q'
    one_way (Sets x e q) (Sets x' e' q') = q ∙ sym q'
    one_way (Ends e q) (Ends e' q') = q ∙ sym q'
    one_way EndsPlainly EndsPlainly = refl
    one_way Syncs Syncs = refl
    one_way (Calls i el) (Calls i' el') = one_call el el'
    one_way (Holds v ev z el) (Holds v' ev' z' el') = one_way el el'
    one_way (Holds v ev z el) (Skips v' ev' z') = apart _ v' v ev' ev z' z
    one_way (Holds v ev z el) (IfFails f ev') = gives_fails _ v f ev ev'
    one_way (Skips v ev z) (Holds v' ev' z' el') = apart _ v v' ev ev' z z'
    one_way (Skips v ev z) (Skips v' ev' z') = refl
    one_way (Skips v ev z) (IfFails f ev') = gives_fails _ v f ev ev'
    one_way (IfFails f ev) (Holds v' ev' z' el') = gives_fails _ v' f ev' ev
    one_way (IfFails f ev) (Skips v' ev' z') = gives_fails _ v' f ev' ev
    one_way (IfFails f ev) (IfFails f' ev') = same_fault _ f f' ev ev'
    one_way (First v ev z el) (First v' ev' z' el') = one_way el el'
    one_way (First v ev z el) (Second v' ev' z' el') = apart _ v' v ev' ev z' z
    one_way (First v ev z el) (IfElseFails f ev') = gives_fails _ v f ev ev'
    one_way (Second v ev z el) (First v' ev' z' el') = apart _ v v' ev ev' z z'
    one_way (Second v ev z el) (Second v' ev' z' el') = one_way el el'
    one_way (Second v ev z el) (IfElseFails f ev') = gives_fails _ v f ev ev'
    one_way (IfElseFails f ev) (First v' ev' z' el') = gives_fails _ v' f ev' ev
    one_way (IfElseFails f ev) (Second v' ev' z' el') = gives_fails _ v' f ev' ev
    one_way (IfElseFails f ev) (IfElseFails f' ev') = same_fault _ f f' ev ev'
    one_way {r' = r'} (Fors {s = s} {step = step} {test = test} {a = a} m1 all el) (Fors m2 all' el') =
        one_loop el (subst (λ m. ElidesLoop p inputs s test step a m r') (sym (same_memory (one_all all all'))) el')
    one_way (Fors m1 all el) (ForStops all' last') = last_moved (one_all all all') last'
    one_way (ForStops all last) (Fors m2 all' el') = last_moved (sym (one_all all all')) last
    one_way (ForStops all last) (ForStops all' last') = one_all all all'
    one_way {r' = r'} (Ascends {s = s} {n = n} {m = m} low high el eh turns) (Ascends low' high' el' eh' turns') =
        one_turns turns (subst₂ (λ a b. ElidesTurns p inputs s n a (turns_between a b) m r') (same_value _ low' low el' el) (same_value _ high' high eh' eh) turns')
    one_way (Ascends low high el eh turns) (LowFails f el') = gives_fails _ low f el el'
    one_way (Ascends low high el eh turns) (HighFails low' f el' eh') = gives_fails _ high f eh eh'
    one_way (LowFails f el) (Ascends low' high' el' eh' turns') = gives_fails _ low' f el' el
    one_way (LowFails f el) (LowFails f' el') = same_fault _ f f' el el'
    one_way (LowFails f el) (HighFails low' f' el' eh') = gives_fails _ low' f el' el
    one_way (HighFails low f el eh) (Ascends low' high' el' eh' turns') = gives_fails _ high' f eh' eh
    one_way (HighFails low f el eh) (LowFails f' el') = gives_fails _ low f' el el'
    one_way (HighFails low f el eh) (HighFails low' f' el' eh') = same_fault _ f f' eh eh'

    one_all : {s : Sight} {row : Statements} {m : Memory} {r r' : Came} → ElidesAll p inputs s row m r → ElidesAll p inputs s row m r' → r ≡ r'
    one_all NoMore NoMore = refl
    one_all (Follows m1 el all) (Follows m2 el' all') = one_all all (all_from (same_memory (one_way el el')) all')
    one_all (Follows m1 el all) (Stops el' last') = last_moved (one_way el el') last'
    one_all (Stops el last) (Follows m2 el' all') = last_moved (sym (one_way el el')) last
    one_all (Stops el last) (Stops el' last') = one_way el el'

    one_each : {s : Sight} {ds : List Declaration} {m : Memory} {r r' : Came} → ElidesEach p inputs s ds m r → ElidesEach p inputs s ds m r' → r ≡ r'
    one_each NoneLeft NoneLeft = refl
    one_each {r' = r'} (Next {s = s} {ds = ds} m1 el all) (Next m2 el' all') = one_each all (subst (λ m. ElidesEach p inputs s ds m r') (sym (same_memory (one_declared el el'))) all')
    one_each (Next m1 el all) (LastOne el' last') = last_moved (one_declared el el') last'
    one_each (LastOne el last) (Next m2 el' all') = last_moved (sym (one_declared el el')) last
    one_each (LastOne el last) (LastOne el' last') = one_declared el el'

    one_declared : {s : Sight} {d : Declaration} {m : Memory} {r r' : Came} → ElidesOne p inputs s d m r → ElidesOne p inputs s d m r' → r ≡ r'
    one_declared (Zeroes n) (Zeroes n') = refl
    one_declared (Opens n e q) (Opens n' e' q') = q ∙ sym q'
    one_declared (OpensByCall i el) (OpensByCall i' el') = one_call el el'

    one_loop : {s : Sight} {test : _} {step : Statements} {a : Statement} {m : Memory} {r r' : Came} → ElidesLoop p inputs s test step a m r → ElidesLoop p inputs s test step a m r' → r ≡ r'
    one_loop (Done v ev z) (Done v' ev' z') = refl
    one_loop (Done v ev z) (TestFails f ev') = gives_fails _ v f ev ev'
    one_loop (Done v ev z) (Turns v' m1 m2 ev' z' el' all' more') = apart _ v v' ev ev' z z'
    one_loop (Done v ev z) (BodyLeaves v' ev' z' el' last') = apart _ v v' ev ev' z z'
    one_loop (Done v ev z) (StepLeaves v' m1 ev' z' el' all' last') = apart _ v v' ev ev' z z'
    one_loop (TestFails f ev) (Done v' ev' z') = gives_fails _ v' f ev' ev
    one_loop (TestFails f ev) (TestFails f' ev') = same_fault _ f f' ev ev'
    one_loop (TestFails f ev) (Turns v' m1 m2 ev' z' el' all' more') = gives_fails _ v' f ev' ev
    one_loop (TestFails f ev) (BodyLeaves v' ev' z' el' last') = gives_fails _ v' f ev' ev
    one_loop (TestFails f ev) (StepLeaves v' m1 ev' z' el' all' last') = gives_fails _ v' f ev' ev
    one_loop (Turns v m1 m2 ev z el all more) (Done v' ev' z') = apart _ v' v ev' ev z' z
    one_loop (Turns v m1 m2 ev z el all more) (TestFails f ev') = gives_fails _ v f ev ev'
    one_loop {r' = r'} (Turns {s = s} {test = test} {step = step} {a = a} v m1 m2 ev z el all more) (Turns v' m3 m4 ev' z' el' all' more') =
        let first = same_memory (one_way el el') in
        let second = same_memory (one_all all (all_from first all')) in
        one_loop more (subst (λ m. ElidesLoop p inputs s test step a m r') (sym second) more')
    one_loop (Turns v m1 m2 ev z el all more) (BodyLeaves v' ev' z' el' last') = last_moved (one_way el el') last'
    one_loop (Turns v m1 m2 ev z el all more) (StepLeaves v' m3 ev' z' el' all' last') = last_moved (one_all all (all_from (same_memory (one_way el el')) all')) last'
    one_loop (BodyLeaves v ev z el last) (Done v' ev' z') = apart _ v' v ev' ev z' z
    one_loop (BodyLeaves v ev z el last) (TestFails f ev') = gives_fails _ v f ev ev'
    one_loop (BodyLeaves v ev z el last) (Turns v' m3 m4 ev' z' el' all' more') = last_moved (sym (one_way el el')) last
    one_loop (BodyLeaves v ev z el last) (BodyLeaves v' ev' z' el' last') = one_way el el'
    one_loop (BodyLeaves v ev z el last) (StepLeaves v' m3 ev' z' el' all' last') = last_moved (sym (one_way el el')) last
    one_loop (StepLeaves v m1 ev z el all last) (Done v' ev' z') = apart _ v' v ev' ev z' z
    one_loop (StepLeaves v m1 ev z el all last) (TestFails f ev') = gives_fails _ v f ev ev'
    one_loop (StepLeaves v m1 ev z el all last) (Turns v' m3 m4 ev' z' el' all' more') = last_moved (sym (one_all all (all_from (same_memory (one_way el el')) all'))) last
    one_loop (StepLeaves v m1 ev z el all last) (BodyLeaves v' ev' z' el' last') = last_moved (one_way el el') last'
    one_loop (StepLeaves v m1 ev z el all last) (StepLeaves v' m3 ev' z' el' all' last') = one_all all (all_from (same_memory (one_way el el')) all')

    pub one_turns : {s : Sight} {n : ℕ} {v : ℤ} {k : ℕ} {m : Memory} {r r' : Came} → ElidesTurns p inputs s n v k m r → ElidesTurns p inputs s n v k m r' → r ≡ r'
    one_turns NoTurns NoTurns = refl
    one_turns {r' = r'} (Turned {s = s} {n = n} {v = v} {k = k} r1 w m1 turn on rest) (Turned r2 w' m2 turn' on' rest') =
        one_turns rest (subst (λ m. ElidesTurns p inputs s n (v +ℤ pos 1) k m r') (sym (same_end r1 r2 w w' m1 m2 (one_turn turn turn') on on')) rest')
    one_turns (Turned r1 w m1 turn on rest) (TurnFails f turn') = faulty_end r1 f w m1 (one_turn turn turn') on
    one_turns (TurnFails f turn) (Turned r2 w' m2 turn' on' rest') = faulty_end r2 f w' m2 (sym (one_turn turn turn')) on'
    one_turns (TurnFails f turn) (TurnFails f' turn') = one_turn turn turn'

    one_turn : {s : Sight} {n : ℕ} {v : ℤ} {m : Memory} {r r' : Came} → ElidesTurn p inputs s n v m r → ElidesTurn p inputs s n v m r' → r ≡ r'
    one_turn {r' = r'} (OneTurn {s = s} {n = n} {v = v} {m = m} l e all) (OneTurn l' e' all') =
        one_all all (subst (λ l. ElidesAll p inputs (home_in m [] ∷ s) l.body (turned l v m) r') (e' ∙ sym e) all')

    pub one_call : {s : Sight} {i : Invoke} {m : Memory} {r r' : Came} → ElidesCall p inputs s i m r → ElidesCall p inputs s i m r' → r ≡ r'
    one_call (ArgumentFails f ev) (ArgumentFails f' ev') = same_fault _ f f' ev ev'
    one_call (ArgumentFails f ev) (Called words' g' r2 ev' e' all' q') = gives_fails _ words' f ev' ev
    one_call (Called words g r1 ev e all q) (ArgumentFails f ev') = gives_fails _ words f ev ev'
    one_call (Called {s = s} {i = i} {m = m} words g r1 ev e all q) (Called words' g' r2 ev' e' all' q') =
        let same = one_all all (subst₂ (λ w g. ElidesAll p inputs (home_in m (instances_in itself s i.reducers) ∷ []) g.body (entered g w m) r2) (same_value _ words' words ev' ev) (e' ∙ sym e) all') in
        q ∙ ap₂ (λ r g. on_ended r (λ v. left_with (result_cell s i.result) v (clear_all nat_eq (λ n. m.reducers + n) 0 g.reducers))) same (e ∙ sym e') ∙ sym q'

  pub one_elision : HasOneElision p inputs
  one_elision c c' h h' =
      h.4 ∙ ap (conclusion_of p inputs) (one_all h.3 (subst (λ f. ElidesAll p inputs (home_in (begins p inputs) [] ∷ []) f.body (entered f [] (begins p inputs)) h'.0) (h'.2 ∙ sym h.2) h'.3)) ∙ sym h'.4
