-- The maximum cost of declarations and loops in ticks and events.
use Rattle.std.proofs.Common.{◌≡◌, ℕ, zero, suc, ◌+◌, ◌≤◌, ℤ, Bool, true, false, ◌&&◌, IsTrue, if◌then◌else◌, List, [], ◌∷◌, inl, inr, Option, Some, None, refl, sym, ap, ◌∙◌, subst, arith, le_refl}
use Rattle.std.proofs.lemmas.Bool.{and_parts}
use Rattle.cilk_types.specs.declared.fault.Fault.{Fault}
use Rattle.cilk_program.specs.declared.program.Body.{Body}
use Rattle.cilk_program.specs.Operators.{is_zero}
use Rattle.cilk_program.specs.Syntax.{Source, Expression, Invoke, Declaration, Statement, Block, Declare, For, Statements}
use Rattle.cilk_program.specs.WellNamed.{option_is_named, declaration_is_named, declarations_are_named, statement_is_named, row_is_named}
use Rattle.cilk_program.specs.Store.{Store, put}
use Rattle.cilk_program.specs.Behaviour.{Got, Gives, ◌>>=◌, chosen, Flow, unless_returned, condition, declares, all_declare, does, all_do}
use Rattle.cilk_program.specs.Elision.{Memory, Sight, Valued, Gives as Worth, Fails, evaluate, evaluate_condition, goes_on, cell_at, own_cell, Came, GoesOn, Returns, Faults, on_value, left_with, on_ended, IsLast, ElidesOne, Zeroes, Opens, OpensByCall, ElidesCall, ArgumentFails, Called}
use Rattle.cilk_program.proofs.Statements.{Stays}
use Rattle.cilk_program.proofs.Ticks.{condition_below, does_below, all_below, loops, loops_once}
use Rattle.cilk_program.proofs.Moments.{Site}
use Rattle.cilk_program.proofs.Budgets.{Rich, less, rich_as, rich_turn, ValueAfter, condition_nodes, condition_rich}
use Rattle.cilk_program.proofs.Costs.{After, value_at, fails_at, after_on, after_last}
use Rattle.cilk_program.proofs.Spending.{Standing, site, Takes, rich_begun}

stays_value : {A : Type 0} (w : Valued A) (h : A → Came) → ((v : A) → Stays (h v)) → Stays (on_value w h)
stays_value (Worth v) h go = go v
stays_value (Fails f) h go = tt

stays_left : (o : Option ℕ) (v : ℤ) (gone : Store ℕ → Store ℕ) (m : Memory) → Stays (left_with o v gone m)
stays_left None v gone m = tt
stays_left (Some c) v gone m = tt

stays_ended : (r : Came) (h : ℤ → Memory → Came) → ((v : ℤ) (m : Memory) → Stays (h v m)) → Stays (on_ended r h)
stays_ended (GoesOn m) h go = go _ m
stays_ended (Returns v m) h go = go v m
stays_ended (Faults f) h go = tt

-- a fault, if a part doesn't continue and doesn't return
stopped_after : (z : Site) (r : Came) (k k' : ℕ) (g g' : Flow → List ℤ → ℕ → Got ℤ) → IsLast r → Stays r → After z r k g → After z r k' g'
stopped_after z (GoesOn m) k k' g g' last stays n = absurd last
stopped_after z (Returns v m) k k' g g' last stays n = absurd stays
stopped_after z (Faults f) k k' g g' last stays n = n

module _ (p : Source) (inputs : List ℤ) where
  call_stays : {s : Sight} {i : Invoke} {m : Memory} {r : Came} → ElidesCall p inputs s i m r → Stays r
  call_stays (ArgumentFails f e) = tt
  call_stays (Called words f r1 e e' all q) = subst Stays (sym q) (stays_ended r1 _ (λ v m. stays_left _ v _ m))

  pub one_stays : {s : Sight} {d : Declaration} {m : Memory} {r : Came} → ElidesOne p inputs s d m r → Stays r
  one_stays (Zeroes n) = tt
  one_stays (Opens {s = s} {m = m} n e q) =
      subst Stays (sym q) (stays_value (evaluate inputs s m.store e) (λ v. goes_on m (put (cell_at s (own_cell n)) v m.store)) (λ v. tt))
  one_stays (OpensByCall i el) = call_stays el

  module _ {s : Sight} {m : Memory} {r : Came} (d : Declaration) (ds : List Declaration) where
    pub next_takes : (m' : Memory) → Takes p inputs s m (GoesOn m') (λ b. IsTrue (declaration_is_named p b d)) (declares inputs d) → Takes p inputs s m' r (λ b. IsTrue (declarations_are_named p b ds)) (all_declare inputs ds)
        → Takes p inputs s m r (λ b. IsTrue (declarations_are_named p b (d ∷ ds))) (all_declare inputs (d ∷ ds))
    next_takes m' t ts = record {
      cost = t.cost + ts.cost;
      run = λ y h k g n.
          let hs = and_parts (declaration_is_named p y.body d) (declarations_are_named p y.body ds) h in
          let f : Flow → List ℤ → ℕ → Got Flow = λ f. all_declare inputs ds in
          after_on (λ v a l. f v a l >>= g) r k g (t.run y hs.0 (ts.cost + k) (λ v a l. f v a l >>= g) (less (t.cost + (ts.cost + k)) (omega arith) (rich_turn (declares inputs d) f g n))) (λ n. ts.run y hs.1 k g n);
    }

    pub last_takes : IsLast r → Stays r → Takes p inputs s m r (λ b. IsTrue (declaration_is_named p b d)) (declares inputs d) → Takes p inputs s m r (λ b. IsTrue (declarations_are_named p b (d ∷ ds))) (all_declare inputs (d ∷ ds))
    last_takes last stays t = record {
      cost = t.cost;
      run = λ y h k g n.
          let hs = and_parts (declaration_is_named p y.body d) (declarations_are_named p y.body ds) h in
          let f : Flow → List ℤ → ℕ → Got Flow = λ f. all_declare inputs ds in
          stopped_after (site p inputs y) r k k (λ v a l. f v a l >>= g) g last stays (t.run y hs.0 k (λ v a l. f v a l >>= g) (rich_turn (declares inputs d) f g n));
    }

  -- a loop
  module _ (test : Option Expression) (step : Statements) (a : Statement) where
    abbrev pub again : List ℤ → ℕ → Got Flow
    again = loops (condition inputs test) (does inputs a) (all_do inputs step) (condition_below inputs test) (does_below inputs a) (all_below inputs step)

    abbrev then_again : Flow → List ℤ → ℕ → Got Flow
    then_again f = unless_returned f again

    abbrev then_step : Flow → List ℤ → ℕ → Got Flow
    then_step f = unless_returned f (λ a l. all_do inputs step a l >>= then_again)

    abbrev tested : ℤ → List ℤ → ℕ → Got Flow
    tested v answers left = chosen v (does inputs a answers left >>= then_step) (Gives None answers left)

    abbrev pub LoopNamed : Body → Type 0
    LoopNamed b = IsTrue (option_is_named p b test) × IsTrue (statement_is_named p b a) × IsTrue (row_is_named p b step)

    for_named : (row : Statements) (b : Body) → IsTrue (statement_is_named p b (For row test step a)) → IsTrue (row_is_named p b row) × LoopNamed b
    for_named row b h =
        let q = and_parts (row_is_named p b row && option_is_named p b test && row_is_named p b step) (statement_is_named p b a) h in
        let q' = and_parts (row_is_named p b row && option_is_named p b test) (row_is_named p b step) q.0 in
        let q'' = and_parts (row_is_named p b row) (option_is_named p b test) q'.0 in
        let rest : LoopNamed b = (q''.1, q.1, q'.1) in
        (q''.0, rest)

    module _ {s : Sight} {m : Memory} where
      tested_rich : (y : Standing p inputs s) → LoopNamed y.body → (k : ℕ) (g : Flow → List ℤ → ℕ → Got ℤ) → Rich (site p inputs y) m (condition_nodes test + k) (λ a l. again a l >>= g)
          → ValueAfter (site p inputs y) (evaluate_condition inputs s m.store test) m k (λ v a l. tested v a l >>= g)
      tested_rich y h k g n =
          condition_rich (site p inputs y) m test h.0 k (λ v a l. tested v a l >>= g) (rich_turn (condition inputs test) tested g
          (rich_as (λ b l. ap (λ x. x >>= g) (loops_once (condition inputs test) (does inputs a) (all_do inputs step) (condition_below inputs test) (does_below inputs a) (all_below inputs step) b l)) n))

      chosen_test : (y : Standing p inputs s) {k : ℕ} (v : ℤ) (t : Bool) (g : Flow → List ℤ → ℕ → Got ℤ) → is_zero v ≡ t → Rich (site p inputs y) m k (λ a l. tested v a l >>= g)
          → Rich (site p inputs y) m k (λ b l. (if t then Gives None b l else does inputs a b l >>= then_step) >>= g)
      chosen_test y v t g z n = rich_as (λ b l. ap (λ t. (if t then Gives None b l else does inputs a b l >>= then_step) >>= g) z) n

      pub done_takes : (v : ℤ) → evaluate_condition inputs s m.store test ≡ Worth v → is_zero v ≡ true → Takes p inputs s m (GoesOn m) LoopNamed again
      done_takes v ev z = record {
        cost = condition_nodes test;
        run = λ y h k g n. inl (chosen_test y v true g z (value_at (λ v a l. tested v a l >>= g) ev (tested_rich y h k g n)));
      }

      pub test_fails_takes : (f : Fault) → evaluate_condition inputs s m.store test ≡ Fails f → Takes p inputs s m (Faults f) LoopNamed again
      test_fails_takes f ev = record {
        cost = condition_nodes test;
        run = λ y h k g n. fails_at (site p inputs y) m k (λ v a l. tested v a l >>= g) ev (tested_rich y h k g n);
      }

      module _ (v : ℤ) (ev : evaluate_condition inputs s m.store test ≡ Worth v) (z : is_zero v ≡ false) where
        body_rich : (y : Standing p inputs s) → LoopNamed y.body → (k : ℕ) (g : Flow → List ℤ → ℕ → Got ℤ) → Rich (site p inputs y) m (condition_nodes test + k) (λ a l. again a l >>= g)
            → Rich (site p inputs y) m k (λ b l. does inputs a b l >>= λ f b l. then_step f b l >>= g)
        body_rich y h k g n = rich_turn (does inputs a) then_step g (chosen_test y v false g z (value_at (λ v a l. tested v a l >>= g) ev (tested_rich y h k g n)))

        pub turns_takes : {r : Came} (m' m'' : Memory) → Takes p inputs s m (GoesOn m') (λ b. IsTrue (statement_is_named p b a)) (does inputs a) → Takes p inputs s m' (GoesOn m'') (λ b. IsTrue (row_is_named p b step)) (all_do inputs step)
            → Takes p inputs s m'' r LoopNamed again → Takes p inputs s m r LoopNamed again
        turns_takes {r} m' m'' t ts tl = record {
          cost = condition_nodes test + (t.cost + (ts.cost + tl.cost));
          run = λ y h k g n.
              after_on (λ f b l. then_step f b l >>= g) r k g
              (t.run y h.1 (ts.cost + (tl.cost + k)) (λ f b l. then_step f b l >>= g) (body_rich y h (t.cost + (ts.cost + (tl.cost + k))) g (less (condition_nodes test + (t.cost + (ts.cost + (tl.cost + k)))) (omega arith) n)))
              (λ n. after_on (λ f b l. then_again f b l >>= g) r k g (ts.run y h.2 (tl.cost + k) (λ f b l. then_again f b l >>= g) (rich_turn (all_do inputs step) then_again g n)) (λ n. tl.run y h k g n));
        }

        pub body_leaves_takes : {r : Came} → IsLast r → Takes p inputs s m r (λ b. IsTrue (statement_is_named p b a)) (does inputs a) → Takes p inputs s m r LoopNamed again
        body_leaves_takes {r} last t = record {
          cost = condition_nodes test + t.cost;
          run = λ y h k g n.
              after_last (site p inputs y) r (λ a l. all_do inputs step a l >>= then_again) g k (le_refl k) last
              (t.run y h.1 k (λ f b l. then_step f b l >>= g) (body_rich y h (t.cost + k) g (less (condition_nodes test + (t.cost + k)) (omega arith) n)));
        }

        pub step_leaves_takes : {r : Came} (m' : Memory) → IsLast r → Takes p inputs s m (GoesOn m') (λ b. IsTrue (statement_is_named p b a)) (does inputs a) → Takes p inputs s m' r (λ b. IsTrue (row_is_named p b step)) (all_do inputs step)
            → Takes p inputs s m r LoopNamed again
        step_leaves_takes {r} m' last t ts = record {
          cost = condition_nodes test + (t.cost + ts.cost);
          run = λ y h k g n.
              after_on (λ f b l. then_step f b l >>= g) r k g
              (t.run y h.1 (ts.cost + k) (λ f b l. then_step f b l >>= g) (body_rich y h (t.cost + (ts.cost + k)) g (less (condition_nodes test + (t.cost + (ts.cost + k))) (omega arith) n)))
              (λ n. after_last (site p inputs y) r again g k (le_refl k) last (ts.run y h.2 k (λ f b l. then_again f b l >>= g) (rich_turn (all_do inputs step) then_again g n)));
        }

      module _ (row : Statements) where
        pub for_takes : {r : Came} (m' : Memory) → Takes p inputs s m (GoesOn m') (λ b. IsTrue (row_is_named p b row)) (all_do inputs row) → Takes p inputs s m' r LoopNamed again
            → Takes p inputs s m r (λ b. IsTrue (statement_is_named p b (For row test step a))) (does inputs (For row test step a))
        for_takes {r} m' t tl = record {
          cost = suc (t.cost + tl.cost);
          run = λ y h k g n.
              let hs = for_named row y.body h in
              let n' = rich_begun p inputs y (t.cost + (tl.cost + k)) (λ a l. all_do inputs row a l >>= then_again) g (less (suc (t.cost + (tl.cost + k))) (omega arith) n) in
              after_on (λ f b l. then_again f b l >>= g) r k g (t.run y hs.0 (tl.cost + k) (λ f b l. then_again f b l >>= g) (rich_turn (all_do inputs row) then_again g n')) (λ n. tl.run y hs.1 k g n);
        }

        pub for_stops_takes : {r : Came} → IsLast r → Takes p inputs s m r (λ b. IsTrue (row_is_named p b row)) (all_do inputs row) → Takes p inputs s m r (λ b. IsTrue (statement_is_named p b (For row test step a))) (does inputs (For row test step a))
        for_stops_takes {r} last t = record {
          cost = suc t.cost;
          run = λ y h k g n.
              let n' = rich_begun p inputs y (t.cost + k) (λ a l. all_do inputs row a l >>= then_again) g (less (suc (t.cost + k)) (omega arith) n) in
              after_last (site p inputs y) r again g k (le_refl k) last (t.run y (for_named row y.body h).0 k (λ f b l. then_again f b l >>= g) (rich_turn (all_do inputs row) then_again g n'));
        }
