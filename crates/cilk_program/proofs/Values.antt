-- The value of an expression is its elision's.
use Rattle.std.proofs.Common.{◌≡◌, ℕ, ◌<◌, ◌≤◌, ℤ, pos, neg_ℤ, Bool, true, false, IsTrue, if◌then◌else◌, List, [], ◌∷◌, Option, Some, None, refl, ap, ◌∙◌, arith, le_refl}
use Rattle.std.proofs.lemmas.Bool.{and_parts}
use Rattle.cilk_types.specs.Input.{input_at, input_count}
use Rattle.cilk_types.specs.Word.{word_of}
use Rattle.cilk_types.specs.declared.fault.Fault.{Fault}
use Rattle.cilk_types.specs.declared.fault.Fault.TheVariants.{DivisionByZero, IndexOutside, InputOutside, TooManyEvents}
use Rattle.cilk_program.specs.declared.ask.Ask.TheVariants as asks
use Rattle.cilk_program.specs.declared.syntax.Place.{Place}
use Rattle.cilk_program.specs.Operators.{is_zero, truth, truth_of, apply}
use Rattle.cilk_program.specs.Syntax.{Expression, Number, Variable, Element, Negate, Not, Binary, And, Or, Value, Input, InputCount, Target, ToVariable, ToElement, element}
use Rattle.cilk_program.specs.declared.syntax.Reducer.{Reducer}
use Rattle.cilk_program.specs.WellNamed.{reducer_is_there, expression_is_named, all_are_named, option_is_named, target_is_named}
use Rattle.cilk_program.specs.Store.{number_at}
use Rattle.cilk_program.specs.Behaviour.{Got, Gives, ◌>>=◌, tick, ask, tick_gives, or_fault, chosen, value, values, index_of, condition}
use Rattle.cilk_program.specs.Elision.{Memory, cell_at, reducer_at, Valued, Gives as Worth, Fails, then_value, or_fails, evaluate, evaluate_all, evaluate_index, evaluate_condition}
use Rattle.cilk_program.specs.SerialRun.{Stopped}
use Rattle.cilk_program.specs.Agreement.{IsLimit}
use Rattle.cilk_program.proofs.Steps.{faulted}
use Rattle.cilk_program.proofs.Moments.{Site, Now, regroup, asks_now, IsElided, Ticked, Tick, NoTick, ticked, AskGoes, Answer, NoRoom, read, reads_view}

-- An expression's value is the elision's, and the frame continues with it. Or both meet the same
-- fault. Or a limit is met.
pub data ValueGoes (z : Site) (A : Type 0) (w : Valued A) (m : Memory) (left : ℕ) (g : A → List ℤ → ℕ → Got ℤ) : Type 0 where
  Has : (v : A) → w ≡ Worth v → (left' : ℕ) → left' ≤ left → Now z m left' (g v) → ValueGoes z A w m left g
  Lacks : (f : Fault) → w ≡ Fails f → z.end ≡ Stopped f → ValueGoes z A w m left g
  Late : (f : Fault) → IsLimit f → z.end ≡ Stopped f → ValueGoes z A w m left g

moved : {z : Site} {A : Type 0} {w w' : Valued A} {m : Memory} {left left' : ℕ} {g : A → List ℤ → ℕ → Got ℤ} → w ≡ w' → left' ≤ left → ValueGoes z A w' m left' g → ValueGoes z A w m left g
moved p h (Has v e left' h' n) = Has v (p ∙ e) left' (omega arith) n
moved p h (Lacks f e q) = Lacks f (p ∙ e) q
moved p h (Late f l q) = Late f l q

-- a value, and then its use
pub value_then : {z : Site} {A B : Type 0} {w : Valued A} {m : Memory} {left : ℕ} (f : A → List ℤ → ℕ → Got B) (k : A → Valued B) (g : B → List ℤ → ℕ → Got ℤ)
    → ValueGoes z A w m left (λ v a l. f v a l >>= g)
    → ((v : A) (left : ℕ) → Now z m left (λ a l. f v a l >>= g) → ValueGoes z B (k v) m left g) → ValueGoes z B (then_value w k) m left g
value_then f k g (Has v e left' h n) go = moved (ap (λ w. then_value w k) e) h (go v left' n)
value_then f k g (Lacks fault e q) go = Lacks fault (ap (λ w. then_value w k) e) q
value_then f k g (Late fault l q) go = Late fault l q

module _ {z : Site} {m : Memory} where
  ticks_value : (v : ℤ) (left : ℕ) (g : ℤ → List ℤ → ℕ → Got ℤ) → Now z m left (λ a l. tick_gives v a l >>= g) → ValueGoes z ℤ (Worth v) m left g
  ticks_value v left g n = go (ticked left (λ u a l. g v a l) (regroup tick (λ u. Gives v) g n))
    where
      go : Ticked z m left (λ a l. g v a l) → ValueGoes z ℤ (Worth v) m left g
      go (Tick left' h n) = Has v refl left' (omega arith) n
      go (NoTick q) = Late TooManyEvents tt q

  pub or_fault_value : {A : Type 0} (f : Fault) (o : Option A) (left : ℕ) (g : A → List ℤ → ℕ → Got ℤ) → Now z m left (λ a l. or_fault f o a l >>= g) → ValueGoes z A (or_fails f o) m left g
  or_fault_value f None left g n = Lacks f refl (faulted z.p z.inputs (IsElided z.p z.inputs) f left (asks_now n) n.run)
  or_fault_value f (Some v) left g n = Has v refl left (le_refl left) n

  -- a check, and then its tick
  checked_value : (f : Fault) (o : Option ℤ) (left : ℕ) (g : ℤ → List ℤ → ℕ → Got ℤ) → Now z m left (λ a l. (or_fault f o a l >>= tick_gives) >>= g) → ValueGoes z ℤ (or_fails f o) m left g
  checked_value f None left g n = Lacks f refl (faulted z.p z.inputs (IsElided z.p z.inputs) f left (asks_now n) n.run)
  checked_value f (Some v) left g n = ticks_value v left g n

  reads_value : (x : Place) (left : ℕ) (g : ℤ → List ℤ → ℕ → Got ℤ) → Now z m left (λ a l. (tick a l >>= λ _. ask (asks.Read x)) >>= g) → ValueGoes z ℤ (Worth (m.store.cells (cell_at z.sight x))) m left g
  reads_value x left g n = go (ticked left (λ u a l. ask (asks.Read x) a l >>= g) (regroup tick (λ u. ask (asks.Read x)) g n))
    where
      done : (left' : ℕ) → left' < left → AskGoes z m left' (g (m.store.cells (cell_at z.sight x))) → ValueGoes z ℤ (Worth (m.store.cells (cell_at z.sight x))) m left g
      done left' h (Answer n) = Has (m.store.cells (cell_at z.sight x)) refl left' (omega arith) n
      done left' h (NoRoom q) = Late TooManyEvents tt q

      go : Ticked z m left (λ a l. ask (asks.Read x) a l >>= g) → ValueGoes z ℤ (Worth (m.store.cells (cell_at z.sight x))) m left g
      go (Tick left' h n) = done left' h (read g x n)
      go (NoTick q) = Late TooManyEvents tt q

  views_value : (r : Reducer) → IsTrue (reducer_is_there z.p z.body r.place r.kind) → (left : ℕ) (g : ℤ → List ℤ → ℕ → Got ℤ) → Now z m left (λ a l. (tick a l >>= λ _. ask (asks.Value r)) >>= g)
      → ValueGoes z ℤ (Worth (number_at r.kind (reducer_at z.sight r) m.store)) m left g
  views_value r there left g n = go (ticked left (λ u a l. ask (asks.Value r) a l >>= g) (regroup tick (λ u. ask (asks.Value r)) g n))
    where
      done : (left' : ℕ) → left' < left → AskGoes z m left' (g (number_at r.kind (reducer_at z.sight r) m.store)) → ValueGoes z ℤ (Worth (number_at r.kind (reducer_at z.sight r) m.store)) m left g
      done left' h (Answer n) = Has (number_at r.kind (reducer_at z.sight r) m.store) refl left' (omega arith) n
      done left' h (NoRoom q) = Late TooManyEvents tt q

      go : Ticked z m left (λ a l. ask (asks.Value r) a l >>= g) → ValueGoes z ℤ (Worth (number_at r.kind (reducer_at z.sight r) m.store)) m left g
      go (Tick left' h n) = done left' h (reads_view g r there n)
      go (NoTick q) = Late TooManyEvents tt q

  value_if : {A : Type 0} (t : Bool) (left : ℕ) (x y : List ℤ → ℕ → Got A) (v w : Valued A) (g : A → List ℤ → ℕ → Got ℤ) → Now z m left (λ a l. (if t then x a l else y a l) >>= g)
      → (Now z m left (λ a l. x a l >>= g) → ValueGoes z A v m left g) → (Now z m left (λ a l. y a l >>= g) → ValueGoes z A w m left g) → ValueGoes z A (if t then v else w) m left g
  value_if true left x y v w g n one two = one n
  value_if false left x y v w g n one two = two n

module _ (z : Site) (m : Memory) where
  abbrev worth : Expression → Valued ℤ
  worth e = evaluate z.inputs z.sight m.store e

  abbrev named : Expression → Type 0
  named e = IsTrue (expression_is_named z.p z.body e)

  pub value_goes : (e : Expression) → named e → (left : ℕ) (g : ℤ → List ℤ → ℕ → Got ℤ) → Now z m left (λ a l. value z.inputs e a l >>= g) → ValueGoes z ℤ (worth e) m left g
  value_goes (Number k) t left g n = ticks_value k left g n
  value_goes (Variable x) t left g n = reads_value x left g n
  value_goes (Element a e) t left g n =
      let k : Place → List ℤ → ℕ → Got ℤ = λ x a l. tick a l >>= λ _. ask (asks.Read x) in
      let f : ℤ → List ℤ → ℕ → Got ℤ = λ i a' l. or_fault IndexOutside (element a i) a' l >>= k in
      value_then f _ g (value_goes e (and_parts _ _ t).1 left (λ v a l. f v a l >>= g) (regroup (value z.inputs e) f g n))
      (λ i left n. value_then k _ g (or_fault_value IndexOutside (element a i) left (λ v a l. k v a l >>= g) (regroup (or_fault IndexOutside (element a i)) k g n))
      (λ x left n. reads_value x left g n))
  value_goes (Negate e) t left g n =
      let f : ℤ → List ℤ → ℕ → Got ℤ = λ x. tick_gives (word_of (neg_ℤ x)) in
      value_then f _ g (value_goes e t left (λ v a l. f v a l >>= g) (regroup (value z.inputs e) f g n)) (λ x left n. ticks_value (word_of (neg_ℤ x)) left g n)
  value_goes (Not e) t left g n =
      let f : ℤ → List ℤ → ℕ → Got ℤ = λ x. tick_gives (truth_of (is_zero x)) in
      value_then f _ g (value_goes e t left (λ v a l. f v a l >>= g) (regroup (value z.inputs e) f g n)) (λ x left n. ticks_value (truth_of (is_zero x)) left g n)
  value_goes (Binary op d e) t left g n =
      let f : ℤ → List ℤ → ℕ → Got ℤ = λ x a l. value z.inputs e a l >>= λ y a l. or_fault DivisionByZero (apply op x y) a l >>= tick_gives in
      let ts = and_parts _ _ t in
      value_then f _ g (value_goes d ts.0 left (λ v a l. f v a l >>= g) (regroup (value z.inputs d) f g n))
      (λ x left n.
      let k : ℤ → List ℤ → ℕ → Got ℤ = λ y a l. or_fault DivisionByZero (apply op x y) a l >>= tick_gives in
      value_then k _ g (value_goes e ts.1 left (λ v a l. k v a l >>= g) (regroup (value z.inputs e) k g n))
      (λ y left n. checked_value DivisionByZero (apply op x y) left g n))
  value_goes (And d e) t left g n =
      let k : ℤ → List ℤ → ℕ → Got ℤ = λ y. tick_gives (truth y) in
      let f : ℤ → List ℤ → ℕ → Got ℤ = λ x a l. chosen x (value z.inputs e a l >>= k) (tick_gives (pos 0) a l) in
      let ts = and_parts _ _ t in
      value_then f _ g (value_goes d ts.0 left (λ v a l. f v a l >>= g) (regroup (value z.inputs d) f g n))
      (λ x left n. value_if (is_zero x) left (tick_gives (pos 0)) (λ a l. value z.inputs e a l >>= k) _ _ g n
      (λ n. ticks_value (pos 0) left g n)
      (λ n. value_then k _ g (value_goes e ts.1 left (λ v a l. k v a l >>= g) (regroup (value z.inputs e) k g n)) (λ y left n. ticks_value (truth y) left g n)))
  value_goes (Or d e) t left g n =
      let k : ℤ → List ℤ → ℕ → Got ℤ = λ y. tick_gives (truth y) in
      let f : ℤ → List ℤ → ℕ → Got ℤ = λ x a l. chosen x (tick_gives (pos 1) a l) (value z.inputs e a l >>= k) in
      let ts = and_parts _ _ t in
      value_then f _ g (value_goes d ts.0 left (λ v a l. f v a l >>= g) (regroup (value z.inputs d) f g n))
      (λ x left n. value_if (is_zero x) left (λ a l. value z.inputs e a l >>= k) (tick_gives (pos 1)) _ _ g n
      (λ n. value_then k _ g (value_goes e ts.1 left (λ v a l. k v a l >>= g) (regroup (value z.inputs e) k g n)) (λ y left n. ticks_value (truth y) left g n))
      (λ n. ticks_value (pos 1) left g n))
  value_goes (Value r) t left g n = views_value r t left g n
  value_goes (Input e) t left g n =
      let f : ℤ → List ℤ → ℕ → Got ℤ = λ x a l. or_fault InputOutside (input_at z.inputs x) a l >>= tick_gives in
      value_then f _ g (value_goes e t left (λ v a l. f v a l >>= g) (regroup (value z.inputs e) f g n)) (λ x left n. checked_value InputOutside (input_at z.inputs x) left g n)
  value_goes InputCount t left g n = ticks_value (input_count z.inputs) left g n

  pub values_go : (es : List Expression) → IsTrue (all_are_named z.p z.body es) → (left : ℕ) (g : List ℤ → List ℤ → ℕ → Got ℤ) → Now z m left (λ a l. values z.inputs es a l >>= g)
      → ValueGoes z (List ℤ) (evaluate_all z.inputs z.sight m.store es) m left g
  values_go [] t left g n = Has [] refl left (le_refl left) n
  values_go (e ∷ es) t left g n =
      let f : ℤ → List ℤ → ℕ → Got (List ℤ) = λ v a l. values z.inputs es a l >>= λ vs. Gives (v ∷ vs) in
      let ts = and_parts _ _ t in
      value_then f _ g (value_goes e ts.0 left (λ v a l. f v a l >>= g) (regroup (value z.inputs e) f g n))
      (λ v left n.
      let k : List ℤ → List ℤ → ℕ → Got (List ℤ) = λ vs. Gives (v ∷ vs) in
      value_then k (λ vs. Worth (v ∷ vs)) g (values_go es ts.1 left (λ vs a l. k vs a l >>= g) (regroup (values z.inputs es) k g n))
      (λ vs left n. Has (v ∷ vs) refl left (le_refl left) n))

  pub index_goes : (t : Target) → IsTrue (target_is_named z.p z.body t) → (left : ℕ) (g : ℤ → List ℤ → ℕ → Got ℤ) → Now z m left (λ a l. index_of z.inputs t a l >>= g)
      → ValueGoes z ℤ (evaluate_index z.inputs z.sight m.store t) m left g
  index_goes (ToVariable x) h left g n = Has (pos 0) refl left (le_refl left) n
  index_goes (ToElement a e) h left g n = value_goes e (and_parts _ _ h).1 left g n

  pub condition_goes : (test : Option Expression) → IsTrue (option_is_named z.p z.body test) → (left : ℕ) (g : ℤ → List ℤ → ℕ → Got ℤ) → Now z m left (λ a l. condition z.inputs test a l >>= g)
      → ValueGoes z ℤ (evaluate_condition z.inputs z.sight m.store test) m left g
  condition_goes None h left g n = Has (pos 1) refl left (le_refl left) n
  condition_goes (Some e) h left g n = value_goes e h left g n
