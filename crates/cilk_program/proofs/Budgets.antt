-- Moments with enough ticks and events, and the cost of an expression.
use Rattle.std.proofs.Common.{◌≡◌, ℕ, zero, suc, ◌+◌, ◌-◌, ◌<◌, ◌≤◌, ℤ, pos, neg_ℤ, Bool, true, false, ◌&&◌, IsTrue, if◌then◌else◌, List, [], ◌∷◌, length, ◌⊎◌, inl, inr, Option, Some, None, nat_eq, refl, sym, ap, ◌∙◌, subst, arith}
use Rattle.std.proofs.lemmas.Bool.{and_parts}
use Rattle.cilk_types.specs.Input.{input_at, input_count}
use Rattle.cilk_types.specs.Word.{word_of}
use Rattle.cilk_types.specs.declared.fault.Fault.{Fault}
use Rattle.cilk_types.specs.declared.fault.Fault.TheVariants.{DivisionByZero, IndexOutside, InputOutside, TooManyEvents, TooManyFrames, TooManyCells}
use Rattle.cilk_program.specs.declared.ask.Ask.{Ask}
use Rattle.cilk_program.specs.declared.ask.Ask.TheVariants as asks
use Rattle.cilk_program.specs.declared.syntax.Place.{Place}
use Rattle.cilk_program.specs.declared.syntax.Reducer.{Reducer}
use Rattle.cilk_program.specs.Operators.{is_zero, truth, truth_of, apply}
use Rattle.cilk_program.specs.Syntax.{Expression, Number, Variable, Element, Negate, Not, Binary, And, Or, Value, Input, InputCount, Target, ToVariable, ToElement, element}
use Rattle.cilk_program.specs.WellNamed.{reducer_is_there, expression_is_named, all_are_named, option_is_named, target_is_named}
use Rattle.cilk_program.specs.Store.{Store, number_at}
use Rattle.cilk_program.specs.Behaviour.{Got, Gives, ◌>>=◌, tick, ask, tick_gives, or_fault, chosen, value, values, index_of, condition}
use Rattle.cilk_program.specs.Elision.{Memory, cell_at, reducer_at, Valued, Gives as Worth, Fails, then_value, or_fails, evaluate, evaluate_all, evaluate_index, evaluate_condition}
use Rattle.cilk_program.specs.SerialRun.{Ending, Stopped}
use Rattle.cilk_program.proofs.Steps.{Answered, Goes, Full, answered, faulted}
use Rattle.cilk_program.proofs.Moments.{Site, Now, now_as, in_turn, regroup, asks_now, IsElided, tick_now, Fits, after_answer, read_fits, value_fits}

-- A moment with at least k ticks and k events left.
pub record Rich (z : Site) (m : Memory) (k : ℕ) (y : List ℤ → ℕ → Got ℤ) : Type 0 where
  pub left : ℕ
  pub now : Now z m left y
  pub ticks : k ≤ left
  pub room : k ≤ now.m'.room

pub less : {z : Site} {m : Memory} {k' : ℕ} {y : List ℤ → ℕ → Got ℤ} (k : ℕ) → k ≤ k' → Rich z m k' y → Rich z m k y
less k h n = let t = n.ticks in let r = n.room in record { left = n.left; now = n.now; ticks = omega arith; room = omega arith }

pub rich_as : {z : Site} {m : Memory} {k : ℕ} {x y : List ℤ → ℕ → Got ℤ} → ((a : List ℤ) (t : ℕ) → x a t ≡ y a t) → Rich z m k x → Rich z m k y
rich_as e n = record { left = n.left; now = now_as e n.now; ticks = n.ticks; room = n.room }

pub rich_turn : {A B : Type 0} {z : Site} {m : Memory} {k : ℕ} (y : List ℤ → ℕ → Got A) (f : A → List ℤ → ℕ → Got B) (g : B → List ℤ → ℕ → Got ℤ)
    → Rich z m k (λ a t. (y a t >>= f) >>= g) → Rich z m k (λ a t. y a t >>= (λ v a l. f v a l >>= g))
rich_turn y f g n = rich_as (λ a t. in_turn (y a t) f g) n

-- the frame has stopped, but not by a lack of ticks or events
abbrev pub NotEvents : Fault → Type 0
NotEvents DivisionByZero = Unit {0}
NotEvents IndexOutside = Unit {0}
NotEvents InputOutside = Unit {0}
NotEvents TooManyEvents = ⊥
NotEvents TooManyFrames = Unit {0}
NotEvents TooManyCells = Unit {0}

abbrev pub Quiet : Ending → Type 0
Quiet end = (f : Fault) × NotEvents f × (end ≡ Stopped f)

tick_from : {z : Site} {m : Memory} (k left : ℕ) (y : Unit {0} → List ℤ → ℕ → Got ℤ) (n : Now z m left (λ a t. tick a t >>= y)) → suc k ≤ left → suc k ≤ n.m'.room → Rich z m k (y tt)
tick_from k zero y n h h' = absurd (omega arith)
tick_from k (suc left) y n h h' = record { left = left; now = tick_now y n; ticks = omega arith; room = omega arith }

pub tick_rich : {z : Site} {m : Memory} {k : ℕ} (y : Unit {0} → List ℤ → ℕ → Got ℤ) → Rich z m (suc k) (λ a t. tick a t >>= y) → Rich z m k (y tt)
tick_rich {k = k} y n = tick_from k n.left y n.now n.ticks n.room

pub asked_rich : {z : Site} {m : Memory} {k : ℕ} (q : Ask) (store : Store ℕ) (v : ℤ) (g : ℤ → List ℤ → ℕ → Got ℤ) (n : Rich z m (suc k) (λ a t. ask q a t >>= g)) → Fits n.now q store v → Rich z (record m { store = store }) k (g v)
asked_rich {z} {m} {k} q store v g n fits = go (answered z.p z.inputs (IsElided z.p z.inputs) q n.left fits.is_inner (asks_now n.now) n.now.inner n.now.run)
  where
    go : Answered z.p z.inputs (IsElided z.p z.inputs) z.fr (n.now.took + n.left) n.now.history n.now.m' q z.end → Rich z (record m { store = store }) k (g v)
    go (Goes r es d inner) = let t = n.ticks in let s = n.room in record { left = n.left; now = after_answer q store v g n.now fits r es d inner; ticks = omega arith; room = omega arith }
    go (Full e q) = let s = n.room in absurd (omega arith)

-- an expression has its value, or meets its fault
abbrev pub ValueAfter : (z : Site) {A : Type 0} → Valued A → Memory → ℕ → (A → List ℤ → ℕ → Got ℤ) → Type 0
ValueAfter z (Worth v) m k g = Rich z m k (g v)
ValueAfter z (Fails f) m k g = Quiet z.end

pub value_after : {z : Site} {A B : Type 0} (w : Valued A) {m : Memory} {k : ℕ} (f : A → List ℤ → ℕ → Got B) (h : A → Valued B) (k' : ℕ) (g : B → List ℤ → ℕ → Got ℤ)
    → ValueAfter z w m k (λ v a l. f v a l >>= g) → ((v : A) → Rich z m k (λ a l. f v a l >>= g) → ValueAfter z (h v) m k' g) → ValueAfter z (then_value w h) m k' g
value_after (Worth v) f h k' g n go = go v n
value_after (Fails fault) f h k' g n go = n

-- the maximum cost of an expression
abbrev pub nodes : Expression → ℕ
nodes (Number n) = 1
nodes (Variable x) = 2
nodes (Element a e) = nodes e + 2
nodes (Negate e) = nodes e + 1
nodes (Not e) = nodes e + 1
nodes (Binary op d e) = nodes d + (nodes e + 1)
nodes (And d e) = nodes d + (nodes e + 1)
nodes (Or d e) = nodes d + (nodes e + 1)
nodes (Value r) = 2
nodes (Input e) = nodes e + 1
nodes InputCount = 1

module _ {z : Site} {m : Memory} where
  ticks_rich : (k : ℕ) (v : ℤ) (g : ℤ → List ℤ → ℕ → Got ℤ) → Rich z m (suc k) (λ a l. tick_gives v a l >>= g) → Rich z m k (g v)
  ticks_rich k v g n = tick_rich (λ u a l. g v a l) (rich_turn tick (λ u. Gives v) g n)

  reads_rich : (k : ℕ) (x : Place) (g : ℤ → List ℤ → ℕ → Got ℤ) → Rich z m (suc (suc k)) (λ a l. (tick a l >>= λ _. ask (asks.Read x)) >>= g) → Rich z m k (g (m.store.cells (cell_at z.sight x)))
  reads_rich k x g n =
      let n' = tick_rich (λ u a l. ask (asks.Read x) a l >>= g) (rich_turn tick (λ u. ask (asks.Read x)) g n) in
      asked_rich (asks.Read x) m.store (m.store.cells (cell_at z.sight x)) g n' (read_fits n'.now x)

  views_rich : (k : ℕ) (r : Reducer) → IsTrue (reducer_is_there z.p z.body r.place r.kind) → (g : ℤ → List ℤ → ℕ → Got ℤ) → Rich z m (suc (suc k)) (λ a l. (tick a l >>= λ _. ask (asks.Value r)) >>= g)
      → Rich z m k (g (number_at r.kind (reducer_at z.sight r) m.store))
  views_rich k r there g n =
      let n' = tick_rich (λ u a l. ask (asks.Value r) a l >>= g) (rich_turn tick (λ u. ask (asks.Value r)) g n) in
      asked_rich (asks.Value r) m.store (number_at r.kind (reducer_at z.sight r) m.store) g n' (value_fits n'.now r there)

  pub or_fault_rich : {A : Type 0} (f : Fault) → NotEvents f → (o : Option A) (k : ℕ) (g : A → List ℤ → ℕ → Got ℤ) → Rich z m k (λ a l. or_fault f o a l >>= g) → ValueAfter z (or_fails f o) m k g
  or_fault_rich f q None k g n = (f, q, faulted z.p z.inputs (IsElided z.p z.inputs) f n.left (asks_now n.now) n.now.run)
  or_fault_rich f q (Some v) k g n = n

  checked_rich : (f : Fault) → NotEvents f → (o : Option ℤ) (k : ℕ) (g : ℤ → List ℤ → ℕ → Got ℤ) → Rich z m (suc k) (λ a l. (or_fault f o a l >>= tick_gives) >>= g) → ValueAfter z (or_fails f o) m k g
  checked_rich f q None k g n = (f, q, faulted z.p z.inputs (IsElided z.p z.inputs) f n.left (asks_now n.now) n.now.run)
  checked_rich f q (Some v) k g n = ticks_rich k v g n

  value_if : {A : Type 0} (t : Bool) {k : ℕ} (x y : List ℤ → ℕ → Got A) (v w : Valued A) (k' : ℕ) (g : A → List ℤ → ℕ → Got ℤ) → Rich z m k (λ a l. (if t then x a l else y a l) >>= g)
      → (Rich z m k (λ a l. x a l >>= g) → ValueAfter z v m k' g) → (Rich z m k (λ a l. y a l >>= g) → ValueAfter z w m k' g) → ValueAfter z (if t then v else w) m k' g
  value_if true x y v w k' g n one two = one n
  value_if false x y v w k' g n one two = two n

module _ (z : Site) (m : Memory) where
  pub value_rich : (e : Expression) → IsTrue (expression_is_named z.p z.body e) → (k : ℕ) (g : ℤ → List ℤ → ℕ → Got ℤ) → Rich z m (nodes e + k) (λ a l. value z.inputs e a l >>= g) → ValueAfter z (evaluate z.inputs z.sight m.store e) m k g
  value_rich (Number c) t k g n = ticks_rich k c g (less (suc k) (omega arith) n)
  value_rich (Variable x) t k g n = reads_rich k x g (less (suc (suc k)) (omega arith) n)
  value_rich (Element a e) t k g n =
      let h : Place → List ℤ → ℕ → Got ℤ = λ x a l. tick a l >>= λ _. ask (asks.Read x) in
      let f : ℤ → List ℤ → ℕ → Got ℤ = λ i a' l. or_fault IndexOutside (element a i) a' l >>= h in
      value_after (evaluate z.inputs z.sight m.store e) f _ k g (value_rich e (and_parts _ _ t).1 (2 + k) (λ v a l. f v a l >>= g) (less (nodes e + (2 + k)) (omega arith) (rich_turn (value z.inputs e) f g n)))
      (λ i n. value_after (or_fails IndexOutside (element a i)) h _ k g (or_fault_rich IndexOutside tt (element a i) (2 + k) (λ v a l. h v a l >>= g) (rich_turn (or_fault IndexOutside (element a i)) h g n))
      (λ x n. reads_rich k x g (less (suc (suc k)) (omega arith) n)))
  value_rich (Negate e) t k g n =
      let f : ℤ → List ℤ → ℕ → Got ℤ = λ x. tick_gives (word_of (neg_ℤ x)) in
      value_after (evaluate z.inputs z.sight m.store e) f _ k g (value_rich e t (suc k) (λ v a l. f v a l >>= g) (less (nodes e + suc k) (omega arith) (rich_turn (value z.inputs e) f g n))) (λ x n. ticks_rich k (word_of (neg_ℤ x)) g n)
  value_rich (Not e) t k g n =
      let f : ℤ → List ℤ → ℕ → Got ℤ = λ x. tick_gives (truth_of (is_zero x)) in
      value_after (evaluate z.inputs z.sight m.store e) f _ k g (value_rich e t (suc k) (λ v a l. f v a l >>= g) (less (nodes e + suc k) (omega arith) (rich_turn (value z.inputs e) f g n))) (λ x n. ticks_rich k (truth_of (is_zero x)) g n)
  value_rich (Binary op d e) t k g n =
      let f : ℤ → List ℤ → ℕ → Got ℤ = λ x a l. value z.inputs e a l >>= λ y a l. or_fault DivisionByZero (apply op x y) a l >>= tick_gives in
      let ts = and_parts (expression_is_named z.p z.body d) (expression_is_named z.p z.body e) t in
      value_after (evaluate z.inputs z.sight m.store d) f _ k g (value_rich d ts.0 (nodes e + suc k) (λ v a l. f v a l >>= g) (less (nodes d + (nodes e + suc k)) (omega arith) (rich_turn (value z.inputs d) f g n)))
      (λ x n.
      let h : ℤ → List ℤ → ℕ → Got ℤ = λ y a l. or_fault DivisionByZero (apply op x y) a l >>= tick_gives in
      value_after (evaluate z.inputs z.sight m.store e) h _ k g (value_rich e ts.1 (suc k) (λ v a l. h v a l >>= g) (rich_turn (value z.inputs e) h g n))
      (λ y n. checked_rich DivisionByZero tt (apply op x y) k g n))
  value_rich (And d e) t k g n =
      let h : ℤ → List ℤ → ℕ → Got ℤ = λ y. tick_gives (truth y) in
      let f : ℤ → List ℤ → ℕ → Got ℤ = λ x a l. chosen x (value z.inputs e a l >>= h) (tick_gives (pos 0) a l) in
      let ts = and_parts (expression_is_named z.p z.body d) (expression_is_named z.p z.body e) t in
      value_after (evaluate z.inputs z.sight m.store d) f _ k g (value_rich d ts.0 (nodes e + suc k) (λ v a l. f v a l >>= g) (less (nodes d + (nodes e + suc k)) (omega arith) (rich_turn (value z.inputs d) f g n)))
      (λ x n. value_if (is_zero x) (tick_gives (pos 0)) (λ a l. value z.inputs e a l >>= h) _ _ k g n
      (λ n. ticks_rich k (pos 0) g (less (suc k) (omega arith) n))
      (λ n. value_after (evaluate z.inputs z.sight m.store e) h _ k g (value_rich e ts.1 (suc k) (λ v a l. h v a l >>= g) (rich_turn (value z.inputs e) h g n)) (λ y n. ticks_rich k (truth y) g n)))
  value_rich (Or d e) t k g n =
      let h : ℤ → List ℤ → ℕ → Got ℤ = λ y. tick_gives (truth y) in
      let f : ℤ → List ℤ → ℕ → Got ℤ = λ x a l. chosen x (tick_gives (pos 1) a l) (value z.inputs e a l >>= h) in
      let ts = and_parts (expression_is_named z.p z.body d) (expression_is_named z.p z.body e) t in
      value_after (evaluate z.inputs z.sight m.store d) f _ k g (value_rich d ts.0 (nodes e + suc k) (λ v a l. f v a l >>= g) (less (nodes d + (nodes e + suc k)) (omega arith) (rich_turn (value z.inputs d) f g n)))
      (λ x n. value_if (is_zero x) (λ a l. value z.inputs e a l >>= h) (tick_gives (pos 1)) _ _ k g n
      (λ n. value_after (evaluate z.inputs z.sight m.store e) h _ k g (value_rich e ts.1 (suc k) (λ v a l. h v a l >>= g) (rich_turn (value z.inputs e) h g n)) (λ y n. ticks_rich k (truth y) g n))
      (λ n. ticks_rich k (pos 1) g (less (suc k) (omega arith) n)))
  value_rich (Value r) t k g n = views_rich k r t g (less (suc (suc k)) (omega arith) n)
  value_rich (Input e) t k g n =
      let f : ℤ → List ℤ → ℕ → Got ℤ = λ x a l. or_fault InputOutside (input_at z.inputs x) a l >>= tick_gives in
      value_after (evaluate z.inputs z.sight m.store e) f _ k g (value_rich e t (suc k) (λ v a l. f v a l >>= g) (less (nodes e + suc k) (omega arith) (rich_turn (value z.inputs e) f g n)))
      (λ x n. checked_rich InputOutside tt (input_at z.inputs x) k g n)
  value_rich InputCount t k g n = ticks_rich k (input_count z.inputs) g (less (suc k) (omega arith) n)

abbrev pub all_nodes : List Expression → ℕ
all_nodes [] = 0
all_nodes (e ∷ es) = nodes e + all_nodes es

abbrev pub index_nodes : Target → ℕ
index_nodes (ToVariable x) = 0
index_nodes (ToElement a e) = nodes e

abbrev pub condition_nodes : Option Expression → ℕ
condition_nodes None = 0
condition_nodes (Some e) = nodes e

module _ (z : Site) (m : Memory) where
  pub values_rich : (es : List Expression) → IsTrue (all_are_named z.p z.body es) → (k : ℕ) (g : List ℤ → List ℤ → ℕ → Got ℤ) → Rich z m (all_nodes es + k) (λ a l. values z.inputs es a l >>= g)
      → ValueAfter z (evaluate_all z.inputs z.sight m.store es) m k g
  values_rich [] t k g n = less k (omega arith) n
  values_rich (e ∷ es) t k g n =
      let f : ℤ → List ℤ → ℕ → Got (List ℤ) = λ v a l. values z.inputs es a l >>= λ vs. Gives (v ∷ vs) in
      let ts = and_parts (expression_is_named z.p z.body e) (all_are_named z.p z.body es) t in
      value_after (evaluate z.inputs z.sight m.store e) f _ k g (value_rich z m e ts.0 (all_nodes es + k) (λ v a l. f v a l >>= g) (less (nodes e + (all_nodes es + k)) (omega arith) (rich_turn (value z.inputs e) f g n)))
      (λ v n.
      let h : List ℤ → List ℤ → ℕ → Got (List ℤ) = λ vs. Gives (v ∷ vs) in
      value_after (evaluate_all z.inputs z.sight m.store es) h (λ vs. Worth (v ∷ vs)) k g (values_rich es ts.1 k (λ vs a l. h vs a l >>= g) (rich_turn (values z.inputs es) h g n)) (λ vs n. n))

  pub index_rich : (t : Target) → IsTrue (target_is_named z.p z.body t) → (k : ℕ) (g : ℤ → List ℤ → ℕ → Got ℤ) → Rich z m (index_nodes t + k) (λ a l. index_of z.inputs t a l >>= g)
      → ValueAfter z (evaluate_index z.inputs z.sight m.store t) m k g
  index_rich (ToVariable x) h k g n = less k (omega arith) n
  index_rich (ToElement a e) h k g n = value_rich z m e (and_parts _ _ h).1 k g n

  pub condition_rich : (test : Option Expression) → IsTrue (option_is_named z.p z.body test) → (k : ℕ) (g : ℤ → List ℤ → ℕ → Got ℤ) → Rich z m (condition_nodes test + k) (λ a l. condition z.inputs test a l >>= g)
      → ValueAfter z (evaluate_condition z.inputs z.sight m.store test) m k g
  condition_rich None h k g n = less k (omega arith) n
  condition_rich (Some e) h k g n = value_rich z m e h k g n
