-- The maximum cost in ticks and events of a statement that ends in its elision.
use Rattle.std.proofs.Common.{◌≡◌, ℕ, zero, suc, ◌+◌, ◌<◌, ◌≤◌, ℤ, pos, ◌+ℤ◌, Bool, true, false, ◌&&◌, IsTrue, if◌then◌else◌, List, [], ◌∷◌, length, ◌⊎◌, inl, inr, Option, Some, None, nat_eq, refl, sym, ap, ◌∙◌, subst, arith, le_refl}
use Rattle.std.proofs.lemmas.Bool.{and_parts}
use Rattle.cilk_types.specs.Word.{word_of}
use Rattle.cilk_types.specs.declared.fault.Fault.{Fault}
use Rattle.cilk_types.specs.declared.fault.Fault.TheVariants.{IndexOutside}
use Rattle.cilk_types.specs.declared.event.Instance.{Instance}
use Rattle.cilk_program.specs.declared.ask.Ask.{Ask}
use Rattle.cilk_program.specs.declared.ask.Ask.TheVariants as asks
use Rattle.cilk_program.specs.declared.program.Body.{Body}
use Rattle.cilk_types.specs.declared.compound.Compound.{Compound}
use Rattle.cilk_program.specs.declared.syntax.Place.{Place}
use Rattle.cilk_program.specs.declared.syntax.Place.TheVariants as places
use Rattle.cilk_program.specs.declared.syntax.Reducer.{Reducer}
use Rattle.cilk_program.specs.Operators.{is_zero, change}
use Rattle.cilk_program.specs.Syntax.{Source, Expression, Target, Invoke, Declaration, Zero, Opening, Invoking, Statement, Empty, Block, Declare, Assign, Change, Step, Invokes, Sync, If, IfElse, For, ParallelFor, Print, Update, Set, Return, Statements, Nothing, Then, place_of}
use Rattle.cilk_program.specs.WellNamed.{reducer_is_there, expression_is_named, target_is_named, declaration_is_named, declarations_are_named, statement_is_named, row_is_named}
use Rattle.cilk_program.specs.Store.{Store, put, print, update, set}
use Rattle.cilk_program.specs.Behaviour.{Got, Gives, ◌>>=◌, tick, ask, or_fault, chosen, value, index_of, Flow, unless_returned, declares, all_declare, does, all_do}
use Rattle.cilk_program.specs.Elision.{Memory, Sight, cell_at, reducer_at, Valued, Gives as Worth, Fails, then_value, or_fails, evaluate, evaluate_index, Came, GoesOn, Returns, Faults, on_value, goes_on, IsLast, assigned, changed}
use Rattle.cilk_program.specs.SerialRun.{Frame, Ending}
use Rattle.cilk_program.proofs.Sights.{SeesAlike}
use Rattle.cilk_program.proofs.Moments.{Site, Fits, read_fits, write_fits, print_fits, sync_fits, update_fits, set_fits}
use Rattle.cilk_program.proofs.Budgets.{Rich, less, rich_as, rich_turn, Quiet, tick_rich, asked_rich, ValueAfter, value_after, nodes, index_nodes, or_fault_rich, value_rich, index_rich}
use Rattle.cilk_program.proofs.Costs.{After, quiet, on_value_after, value_at, fails_at, after_on, after_last}

module _ (p : Source) (inputs : List ℤ) where
  -- a frame with this scope
  pub record Standing (s : Sight) : Type 0 where
    pub fr : Frame
    pub end : Ending
    pub tied : ℕ → Instance
    pub count : ℕ
    pub body : Body
    pub sees : SeesAlike p tied count body s fr.scope

  abbrev pub site : {s : Sight} → Standing s → Site
  site {s} y = record { p = p; inputs = inputs; fr = y.fr; end = y.end; tied = y.tied; count = y.count; sight = s; body = y.body; sees = y.sees }

  -- A part of a frame with this result uses no more ticks and events than its cost, in each frame
  -- whose body contains it.
  pub record Takes (s : Sight) (m : Memory) (r : Came) (named : Body → Type 0) (x : List ℤ → ℕ → Got Flow) : Type 0 where
    pub cost : ℕ
    pub run : (y : Standing s) → named y.body → (k : ℕ) (g : Flow → List ℤ → ℕ → Got ℤ) → Rich (site y) m (cost + k) (λ a l. x a l >>= g) → After (site y) r k g

  abbrev none : ℤ → List ℤ → ℕ → Got Flow
  none v = Gives None

  pub rich_begun : {s : Sight} (y : Standing s) {m : Memory} (k : ℕ) (f : List ℤ → ℕ → Got Flow) (g : Flow → List ℤ → ℕ → Got ℤ) → Rich (site y) m (suc k) (λ a l. (tick a l >>= λ _. f) >>= g) → Rich (site y) m k (λ a l. f a l >>= g)
  rich_begun y k f g n = tick_rich (λ u a l. f a l >>= g) (rich_turn tick (λ u. f) g n)

  pub tick_takes : {s : Sight} {m : Memory} {r : Came} (named : Body → Type 0) (x : List ℤ → ℕ → Got Flow) → Takes s m r named x → Takes s m r named (λ a l. tick a l >>= λ _. x)
  tick_takes named x t = record { cost = suc t.cost; run = λ y h k g n. t.run y h k g (rich_begun y (t.cost + k) x g (less (suc (t.cost + k)) (omega arith) n)) }

  module _ {s : Sight} (y : Standing s) {m : Memory} where
    pub valued_rich : (e : Expression) → IsTrue (expression_is_named p y.body e) → (f : ℤ → List ℤ → ℕ → Got Flow) (k : ℕ) (g : Flow → List ℤ → ℕ → Got ℤ) → Rich (site y) m (nodes e + k) (λ a l. (value inputs e a l >>= f) >>= g)
        → ValueAfter (site y) (evaluate inputs s m.store e) m k (λ v a l. f v a l >>= g)
    valued_rich e h f k g n = value_rich (site y) m e h k (λ v a l. f v a l >>= g) (rich_turn (value inputs e) f g n)

    indexed_rich : (t : Target) → IsTrue (target_is_named p y.body t) → (f : ℤ → List ℤ → ℕ → Got Flow) (k : ℕ) (g : Flow → List ℤ → ℕ → Got ℤ) → Rich (site y) m (index_nodes t + k) (λ a l. (index_of inputs t a l >>= f) >>= g)
        → ValueAfter (site y) (evaluate_index inputs s m.store t) m k (λ v a l. f v a l >>= g)
    indexed_rich t h f k g n = index_rich (site y) m t h k (λ v a l. f v a l >>= g) (rich_turn (index_of inputs t) f g n)

    placed_rich : (o : Option Place) (f : Place → List ℤ → ℕ → Got Flow) (k : ℕ) (g : Flow → List ℤ → ℕ → Got ℤ) → Rich (site y) m k (λ a l. (or_fault IndexOutside o a l >>= f) >>= g)
        → ValueAfter (site y) (or_fails IndexOutside o) m k (λ v a l. f v a l >>= g)
    placed_rich o f k g n = or_fault_rich IndexOutside tt o k (λ v a l. f v a l >>= g) (rich_turn (or_fault IndexOutside o) f g n)

    read_rich : (x : Place) (f : ℤ → List ℤ → ℕ → Got Flow) (k : ℕ) (g : Flow → List ℤ → ℕ → Got ℤ) → Rich (site y) m (suc k) (λ a l. (ask (asks.Read x) a l >>= f) >>= g) → Rich (site y) m k (λ a l. f (m.store.cells (cell_at s x)) a l >>= g)
    read_rich x f k g n =
        let n' = rich_turn (ask (asks.Read x)) f g n in
        asked_rich (asks.Read x) m.store (m.store.cells (cell_at s x)) (λ v a l. f v a l >>= g) n' (read_fits n'.now x)

    write_rich : (x : Place) (v : ℤ) (k : ℕ) (g : Flow → List ℤ → ℕ → Got ℤ) → Rich (site y) m (suc k) (λ a l. (ask (asks.Write x v) a l >>= none) >>= g) → After (site y) (goes_on m (put (cell_at s x) v m.store)) k g
    write_rich x v k g n =
        let n' = rich_turn (ask (asks.Write x v)) none g n in
        inl (asked_rich (asks.Write x v) (put (cell_at s x) v m.store) (pos 0) (λ v a l. g None a l) n' (write_fits n'.now x v))

  module _ {s : Sight} {m : Memory} {r : Came} where
    pub assign_takes : (t : Target) (e : Expression) → r ≡ assigned inputs s t e m → Takes s m r (λ b. IsTrue (statement_is_named p b (Assign t e))) (does inputs (Assign t e))
    assign_takes t e q = record {
      cost = suc (index_nodes t + (nodes e + 1));
      run = λ y h k g n.
          let hs = and_parts (target_is_named p y.body t) (expression_is_named p y.body e) h in
          subst (λ r. After (site y) r k g) (sym q)
          (on_value_after (evaluate_index inputs s m.store t) _ _ k g (indexed_rich y t hs.0 _ (nodes e + suc k) g (rich_begun y (index_nodes t + (nodes e + suc k)) _ g (less (suc (index_nodes t + (nodes e + suc k))) (omega arith) n)))
          (λ i n. on_value_after (evaluate inputs s m.store e) _ _ k g (valued_rich y e hs.1 _ (suc k) g n)
          (λ v n. on_value_after (or_fails IndexOutside (place_of t i)) _ _ k g (placed_rich y (place_of t i) _ (suc k) g n)
          (λ x n. write_rich y x v k g n))));
    }

    pub change_takes : (t : Target) (op : Compound) (e : Expression) → r ≡ changed inputs s t (λ x. then_value (evaluate inputs s m.store e) (λ v. Worth (change op x v))) m
        → Takes s m r (λ b. IsTrue (statement_is_named p b (Change t op e))) (does inputs (Change t op e))
    change_takes t op e q = record {
      cost = suc (index_nodes t + suc (nodes e + 1));
      run = λ y h k g n.
          let hs = and_parts (target_is_named p y.body t) (expression_is_named p y.body e) h in
          subst (λ r. After (site y) r k g) (sym q)
          (on_value_after (evaluate_index inputs s m.store t) _ _ k g (indexed_rich y t hs.0 _ (suc (nodes e + suc k)) g (rich_begun y (index_nodes t + suc (nodes e + suc k)) _ g (less (suc (index_nodes t + suc (nodes e + suc k))) (omega arith) n)))
          (λ i n. on_value_after (or_fails IndexOutside (place_of t i)) _ _ k g (placed_rich y (place_of t i) _ (suc (nodes e + suc k)) g n)
          (λ x n. changed_after y op e hs.1 x k g (read_rich y x _ (nodes e + suc k) g n))));
    }
      where
        changed_after : (y : Standing s) (op : Compound) (e : Expression) → IsTrue (expression_is_named p y.body e) → (x : Place) (k : ℕ) (g : Flow → List ℤ → ℕ → Got ℤ)
            → Rich (site y) m (nodes e + suc k) (λ a l. (value inputs e a l >>= λ v a l. ask (asks.Write x (change op (m.store.cells (cell_at s x)) v)) a l >>= none) >>= g)
            → After (site y) (on_value (then_value (evaluate inputs s m.store e) (λ v. Worth (change op (m.store.cells (cell_at s x)) v))) (λ v. goes_on m (put (cell_at s x) v m.store))) k g
        changed_after y op e h x k g n =
            on_value_after (then_value (evaluate inputs s m.store e) (λ v. Worth (change op (m.store.cells (cell_at s x)) v))) (λ v. goes_on m (put (cell_at s x) v m.store)) (λ w a l. (ask (asks.Write x w) a l >>= none) >>= g) k g
            (value_after (evaluate inputs s m.store e) (λ v. Gives (change op (m.store.cells (cell_at s x)) v)) (λ v. Worth (change op (m.store.cells (cell_at s x)) v)) (suc k) (λ w a l. (ask (asks.Write x w) a l >>= none) >>= g)
            (valued_rich y e h (λ v a l. ask (asks.Write x (change op (m.store.cells (cell_at s x)) v)) a l >>= none) (suc k) g n) (λ v n. n))
            (λ w n. write_rich y x w k g n)

    pub step_takes : (t : Target) (c : ℤ) → r ≡ changed inputs s t (λ x. Worth (word_of (x +ℤ c))) m → Takes s m r (λ b. IsTrue (statement_is_named p b (Step t c))) (does inputs (Step t c))
    step_takes t c q = record {
      cost = suc (index_nodes t + 2);
      run = λ y h k g n.
          subst (λ r. After (site y) r k g) (sym q)
          (on_value_after (evaluate_index inputs s m.store t) _ _ k g (indexed_rich y t h _ (suc (suc k)) g (rich_begun y (index_nodes t + suc (suc k)) _ g (less (suc (index_nodes t + suc (suc k))) (omega arith) n)))
          (λ i n. on_value_after (or_fails IndexOutside (place_of t i)) _ _ k g (placed_rich y (place_of t i) _ (suc (suc k)) g n)
          (λ x n. write_rich y x (word_of (m.store.cells (cell_at s x) +ℤ c)) k g (read_rich y x _ (suc k) g n))));
    }

    pub print_takes : (e : Expression) → r ≡ on_value (evaluate inputs s m.store e) (λ v. goes_on m (print v m.store)) → Takes s m r (λ b. IsTrue (statement_is_named p b (Print e))) (does inputs (Print e))
    print_takes e q = record {
      cost = suc (nodes e + 1);
      run = λ y h k g n.
          subst (λ r. After (site y) r k g) (sym q)
          (on_value_after (evaluate inputs s m.store e) _ _ k g (valued_rich y e h _ (suc k) g (rich_begun y (nodes e + suc k) _ g (less (suc (nodes e + suc k)) (omega arith) n)))
          (λ v n. let n' = rich_turn (ask (asks.Print v)) none g n in inl (asked_rich (asks.Print v) (print v m.store) (pos 0) (λ v a l. g None a l) n' (print_fits n'.now v))));
    }

    pub update_takes : (x : Reducer) (e : Expression) → r ≡ on_value (evaluate inputs s m.store e) (λ v. goes_on m (update nat_eq x.kind (reducer_at s x) v m.store)) → Takes s m r (λ b. IsTrue (statement_is_named p b (Update x e))) (does inputs (Update x e))
    update_takes x e q = record {
      cost = suc (nodes e + 1);
      run = λ y h k g n.
          let hs = and_parts (reducer_is_there p y.body x.place x.kind) (expression_is_named p y.body e) h in
          subst (λ r. After (site y) r k g) (sym q)
          (on_value_after (evaluate inputs s m.store e) _ _ k g (valued_rich y e hs.1 _ (suc k) g (rich_begun y (nodes e + suc k) _ g (less (suc (nodes e + suc k)) (omega arith) n)))
          (λ v n. let n' = rich_turn (ask (asks.Update x v)) none g n in inl (asked_rich (asks.Update x v) (update nat_eq x.kind (reducer_at s x) v m.store) (pos 0) (λ v a l. g None a l) n' (update_fits n'.now x hs.0 v))));
    }

    pub set_takes : (x : Reducer) (e : Expression) → r ≡ on_value (evaluate inputs s m.store e) (λ v. goes_on m (set nat_eq x.kind (reducer_at s x) v m.store)) → Takes s m r (λ b. IsTrue (statement_is_named p b (Set x e))) (does inputs (Set x e))
    set_takes x e q = record {
      cost = suc (nodes e + 1);
      run = λ y h k g n.
          let hs = and_parts (reducer_is_there p y.body x.place x.kind) (expression_is_named p y.body e) h in
          subst (λ r. After (site y) r k g) (sym q)
          (on_value_after (evaluate inputs s m.store e) _ _ k g (valued_rich y e hs.1 _ (suc k) g (rich_begun y (nodes e + suc k) _ g (less (suc (nodes e + suc k)) (omega arith) n)))
          (λ v n. let n' = rich_turn (ask (asks.Set x v)) none g n in inl (asked_rich (asks.Set x v) (set nat_eq x.kind (reducer_at s x) v m.store) (pos 0) (λ v a l. g None a l) n' (set_fits n'.now x hs.0 v))));
    }

    pub return_takes : (e : Expression) → r ≡ on_value (evaluate inputs s m.store e) (λ v. Returns v m) → Takes s m r (λ b. IsTrue (statement_is_named p b (Return (Some e)))) (does inputs (Return (Some e)))
    return_takes e q = record {
      cost = suc (nodes e);
      run = λ y h k g n.
          subst (λ r. After (site y) r k g) (sym q)
          (on_value_after (evaluate inputs s m.store e) _ _ k g (valued_rich y e h _ k g (rich_begun y (nodes e + k) _ g (less (suc (nodes e + k)) (omega arith) n))) (λ v n. inl n));
    }

    pub opening_takes : (c : ℕ) (e : Expression) → r ≡ on_value (evaluate inputs s m.store e) (λ v. goes_on m (put (cell_at s (places.Local 0 c)) v m.store)) → Takes s m r (λ b. IsTrue (declaration_is_named p b (Opening c e))) (declares inputs (Opening c e))
    opening_takes c e q = record {
      cost = nodes e + 1;
      run = λ y h k g n.
          subst (λ r. After (site y) r k g) (sym q)
          (on_value_after (evaluate inputs s m.store e) _ _ k g (valued_rich y e (and_parts _ _ h).1 _ (suc k) g (less (nodes e + suc k) (omega arith) n)) (λ v n. write_rich y (places.Local 0 c) v k g n));
    }

  if_else_named : (b : Body) (e : Expression) (a a' : Statement) → IsTrue (statement_is_named p b (IfElse e a a')) → IsTrue (expression_is_named p b e) × IsTrue (statement_is_named p b a) × IsTrue (statement_is_named p b a')
  if_else_named b e a a' h =
      let q = and_parts (expression_is_named p b e && statement_is_named p b a) (statement_is_named p b a') h in
      let q' = and_parts (expression_is_named p b e) (statement_is_named p b a) q.0 in
      (q'.0, q'.1, q.1)

  module _ {s : Sight} {m : Memory} where
    pub zero_takes : (c : ℕ) → Takes s m (goes_on m (put (cell_at s (places.Local 0 c)) (pos 0) m.store)) (λ b. IsTrue (declaration_is_named p b (Zero c))) (declares inputs (Zero c))
    zero_takes c = record { cost = 1; run = λ y h k g n. write_rich y (places.Local 0 c) (pos 0) k g (less (suc k) (omega arith) n) }

    pub empty_takes : Takes s m (GoesOn m) (λ b. IsTrue (statement_is_named p b Empty)) (does inputs Empty)
    empty_takes = record { cost = 1; run = λ y h k g n. inl (rich_begun y k (Gives None) g (less (suc k) (omega arith) n)) }

    pub end_takes : Takes s m (Returns (pos 0) m) (λ b. IsTrue (statement_is_named p b (Return None))) (does inputs (Return None))
    end_takes = record { cost = 1; run = λ y h k g n. inl (rich_begun y k (Gives (Some (pos 0))) g (less (suc k) (omega arith) n)) }

    pub sync_takes : Takes s m (GoesOn m) (λ b. IsTrue (statement_is_named p b Sync)) (does inputs Sync)
    sync_takes = record {
      cost = 2;
      run = λ y h k g n.
          let n' = rich_turn (ask asks.Sync) none g (rich_begun y (suc k) _ g (less (suc (suc k)) (omega arith) n)) in
          inl (asked_rich asks.Sync m.store (pos 0) (λ v a l. g None a l) n' (sync_fits n'.now));
    }

    -- a test, and then the chosen branch
    chosen_rich : {A : Type 0} (y : Standing s) {k : ℕ} (v : ℤ) (b : Bool) (x x' : List ℤ → ℕ → Got A) (g : A → List ℤ → ℕ → Got ℤ) → is_zero v ≡ b → Rich (site y) m k (λ a l. chosen v (x a l) (x' a l) >>= g) → Rich (site y) m k (λ a l. (if b then x' a l else x a l) >>= g)
    chosen_rich y v b x x' g z n = rich_as (λ a l. ap (λ b. (if b then x' a l else x a l) >>= g) z) n

    pub holds_takes : {r : Came} (e : Expression) (a : Statement) (v : ℤ) → evaluate inputs s m.store e ≡ Worth v → is_zero v ≡ false → Takes s m r (λ b. IsTrue (statement_is_named p b a)) (does inputs a)
        → Takes s m r (λ b. IsTrue (statement_is_named p b (If e a))) (does inputs (If e a))
    holds_takes e a v ev z t = record {
      cost = suc (nodes e + t.cost);
      run = λ y h k g n.
          let hs = and_parts (expression_is_named p y.body e) (statement_is_named p y.body a) h in
          t.run y hs.1 k g (chosen_rich y v false (does inputs a) (Gives None) g z
          (value_at _ ev (valued_rich y e hs.0 _ (t.cost + k) g (rich_begun y (nodes e + (t.cost + k)) _ g (less (suc (nodes e + (t.cost + k))) (omega arith) n)))));
    }

    pub skips_takes : (e : Expression) (a : Statement) (v : ℤ) → evaluate inputs s m.store e ≡ Worth v → is_zero v ≡ true → Takes s m (GoesOn m) (λ b. IsTrue (statement_is_named p b (If e a))) (does inputs (If e a))
    skips_takes e a v ev z = record {
      cost = suc (nodes e);
      run = λ y h k g n.
          let hs = and_parts (expression_is_named p y.body e) (statement_is_named p y.body a) h in
          inl (chosen_rich y v true (does inputs a) (Gives None) g z (value_at _ ev (valued_rich y e hs.0 _ k g (rich_begun y (nodes e + k) _ g (less (suc (nodes e + k)) (omega arith) n)))));
    }

    pub if_fails_takes : (e : Expression) (a : Statement) (f : Fault) → evaluate inputs s m.store e ≡ Fails f → Takes s m (Faults f) (λ b. IsTrue (statement_is_named p b (If e a))) (does inputs (If e a))
    if_fails_takes e a f ev = record {
      cost = suc (nodes e);
      run = λ y h k g n.
          let hs = and_parts (expression_is_named p y.body e) (statement_is_named p y.body a) h in
          fails_at (site y) m k _ ev (valued_rich y e hs.0 _ k g (rich_begun y (nodes e + k) _ g (less (suc (nodes e + k)) (omega arith) n)));
    }

    pub first_takes : {r : Came} (e : Expression) (a a' : Statement) (v : ℤ) → evaluate inputs s m.store e ≡ Worth v → is_zero v ≡ false → Takes s m r (λ b. IsTrue (statement_is_named p b a)) (does inputs a)
        → Takes s m r (λ b. IsTrue (statement_is_named p b (IfElse e a a'))) (does inputs (IfElse e a a'))
    first_takes e a a' v ev z t = record {
      cost = suc (nodes e + t.cost);
      run = λ y h k g n.
          let hs = if_else_named y.body e a a' h in
          t.run y hs.1 k g (chosen_rich y v false (does inputs a) (does inputs a') g z
          (value_at _ ev (valued_rich y e hs.0 _ (t.cost + k) g (rich_begun y (nodes e + (t.cost + k)) _ g (less (suc (nodes e + (t.cost + k))) (omega arith) n)))));
    }

    pub second_takes : {r : Came} (e : Expression) (a a' : Statement) (v : ℤ) → evaluate inputs s m.store e ≡ Worth v → is_zero v ≡ true → Takes s m r (λ b. IsTrue (statement_is_named p b a')) (does inputs a')
        → Takes s m r (λ b. IsTrue (statement_is_named p b (IfElse e a a'))) (does inputs (IfElse e a a'))
    second_takes e a a' v ev z t = record {
      cost = suc (nodes e + t.cost);
      run = λ y h k g n.
          let hs = if_else_named y.body e a a' h in
          t.run y hs.2 k g (chosen_rich y v true (does inputs a) (does inputs a') g z
          (value_at _ ev (valued_rich y e hs.0 _ (t.cost + k) g (rich_begun y (nodes e + (t.cost + k)) _ g (less (suc (nodes e + (t.cost + k))) (omega arith) n)))));
    }

    pub if_else_fails_takes : (e : Expression) (a a' : Statement) (f : Fault) → evaluate inputs s m.store e ≡ Fails f → Takes s m (Faults f) (λ b. IsTrue (statement_is_named p b (IfElse e a a'))) (does inputs (IfElse e a a'))
    if_else_fails_takes e a a' f ev = record {
      cost = suc (nodes e);
      run = λ y h k g n. fails_at (site y) m k _ ev (valued_rich y e (if_else_named y.body e a a' h).0 _ k g (rich_begun y (nodes e + k) _ g (less (suc (nodes e + k)) (omega arith) n)));
    }

    -- a statement, and then more
    pub then_takes : {r : Came} (a : Statement) (row : Statements) (m' : Memory) → Takes s m (GoesOn m') (λ b. IsTrue (statement_is_named p b a)) (does inputs a) → Takes s m' r (λ b. IsTrue (row_is_named p b row)) (all_do inputs row)
        → Takes s m r (λ b. IsTrue (row_is_named p b (Then a row))) (all_do inputs (Then a row))
    then_takes {r} a row m' t ts = record {
      cost = t.cost + ts.cost;
      run = λ y h k g n.
          let hs = and_parts (statement_is_named p y.body a) (row_is_named p y.body row) h in
          let f : Flow → List ℤ → ℕ → Got Flow = λ f. unless_returned f (all_do inputs row) in
          after_on (λ v a l. f v a l >>= g) r k g (t.run y hs.0 (ts.cost + k) (λ v a l. f v a l >>= g) (less (t.cost + (ts.cost + k)) (omega arith) (rich_turn (does inputs a) f g n))) (λ n. ts.run y hs.1 k g n);
    }

    pub stops_takes : {r : Came} (a : Statement) (row : Statements) → IsLast r → Takes s m r (λ b. IsTrue (statement_is_named p b a)) (does inputs a) → Takes s m r (λ b. IsTrue (row_is_named p b (Then a row))) (all_do inputs (Then a row))
    stops_takes {r} a row last t = record {
      cost = t.cost;
      run = λ y h k g n.
          let hs = and_parts (statement_is_named p y.body a) (row_is_named p y.body row) h in
          let f : Flow → List ℤ → ℕ → Got Flow = λ f. unless_returned f (all_do inputs row) in
          after_last (site y) r (all_do inputs row) g k (le_refl k) last (t.run y hs.0 k (λ v a l. f v a l >>= g) (rich_turn (does inputs a) f g n));
    }
