-- A part of a frame's behaviour does the same with more ticks, continues after one more answer, and
-- gives no ticks back. If it ran out of ticks, then with d more ticks it has fewer than d left.
use Rattle.std.proofs.Common.{◌≡◌, ℕ, zero, suc, ◌+◌, ◌<◌, ◌≤◌, ℤ, pos, ◌+ℤ◌, ◌-ℤ◌, neg_ℤ, Bool, true, false, true≢false, if◌then◌else◌, int_lt, int_eq, List, [], ◌∷◌, ◌++◌, Option, Some, None, is_some, refl, sym, ap, ◌∙◌, subst, arith}
use Rattle.cilk_types.specs.Input.{input_at, input_count}
use Rattle.cilk_types.specs.Word.{word_of}
use Rattle.cilk_types.specs.declared.fault.Fault.{Fault}
use Rattle.cilk_types.specs.declared.fault.Fault.TheVariants.{DivisionByZero, IndexOutside, InputOutside, TooManyEvents}
use Rattle.cilk_monoid.specs.declared.kind.MonoidKind.{MonoidKind}
use Rattle.cilk_program.specs.declared.ask.Ask.{Ask}
use Rattle.cilk_program.specs.declared.ask.Ask.TheVariants as asks
use Rattle.cilk_program.specs.declared.ask.Callee.{Callee}
use Rattle.cilk_program.specs.declared.ask.Callee.TheVariants as callees
use Rattle.cilk_program.specs.declared.ask.LoopPart.{LoopPart}
use Rattle.cilk_types.specs.declared.invocation.Invocation.{Invocation}
use Rattle.cilk_types.specs.declared.invocation.Invocation.TheVariants.{Call, Spawn}
use Rattle.cilk_program.specs.declared.syntax.Place.TheVariants as places
use Rattle.cilk_program.specs.declared.syntax.ReducerPlace.{ReducerPlace}
use Rattle.cilk_program.specs.declared.syntax.ReducerPlace.TheVariants as reducers
use Rattle.cilk_program.specs.Operators.{is_zero, truth, truth_of, apply, change}
use Rattle.cilk_program.specs.Syntax.{Expression, Number, Variable, Element, Negate, Not, Binary, And, Or, Value, Input, InputCount, Target, ToVariable, ToElement, Invoke, Declaration, Zero, Opening, Invoking, Statement, Empty, Block, Declare, Assign, Change, Step, Invokes, Sync, If, IfElse, For, ParallelFor, Print, Update, Set, Return, Statements, Nothing, Then, Function, Source, function_at, main_of, loop_at, element, place_of}
use Rattle.cilk_program.specs.Behaviour.{asks_for, Got, Gives, Asks, ◌>>=◌, tick, ask, tick_gives, or_fault, value, values, index_of, Flow, unless_returned, invokes, invokes_function, declares, all_declare, condition, turns, parallel_turns, return_value, does, all_do, returned, gives_result, finishes, writes_words, creates, function_gives, middle, part, loop_gives, frame_gives}
use Rattle.cilk_program.proofs.Ticks.{turns_enough, condition_below, does_below, all_below}

-- the ticks have run out
abbrev pub is_out : Ask → Bool
is_out (asks.Fault TooManyEvents) = true
is_out k = false

-- with d more ticks
abbrev pub More : {A : Type 0} → ℕ → Got A → Got A → Type 0
More d (Gives v a l) y = y ≡ Gives v a (l + d)
More d (Asks k) y = is_out k.ask ≡ false → y ≡ Asks (asks_for k.ask (k.left + d))

-- at most n ticks are left
abbrev pub Low : {A : Type 0} → ℕ → Got A → Type 0
Low n (Gives v a l) = l ≤ n
Low n (Asks k) = k.left ≤ n

-- fewer ticks than these are left, unless they have run out
abbrev pub Fewer : {A : Type 0} → ℕ → Got A → Type 0
Fewer n (Gives v a l) = l < n
Fewer n (Asks k) = is_out k.ask ≡ false → k.left < n

-- with d more ticks, if they had run out
abbrev pub Short : {A : Type 0} → ℕ → Got A → Got A → Type 0
Short d (Gives v a l) y = Unit {0}
Short d (Asks k) y = is_out k.ask ≡ true → Fewer d y

-- with one more answer
abbrev pub Further : {A : Type 0} → ℤ → Got A → Got A → Type 0
Further z (Gives v a l) y = y ≡ Gives v (a ++ z ∷ []) l
Further z (Asks k) y = Low k.left y

pub record Steady {A : Type 0} (x : List ℤ → ℕ → Got A) : Type 0 where
  pub more : (d : ℕ) (a : List ℤ) (l : ℕ) → More d (x a l) (x a (l + d))
  pub further : (z : ℤ) (a : List ℤ) (l : ℕ) → Further z (x a l) (x (a ++ z ∷ []) l)
  pub low : (a : List ℤ) (l : ℕ) → Low l (x a l)
  pub short : (d : ℕ) (a : List ℤ) (l : ℕ) → Short d (x a l) (x a (l + d))

lower : {A : Type 0} (n k : ℕ) (x : Got A) → n ≤ k → Low n x → Low k x
lower n k (Gives v a l) h b = omega (arith, h, b)
lower n k (Asks q) h b = omega (arith, h, b)

bind_low : {A B : Type 0} (n : ℕ) (x : Got A) (f : A → List ℤ → ℕ → Got B) → Low n x → ((v : A) (a : List ℤ) (l : ℕ) → Low l (f v a l)) → Low n (x >>= f)
bind_low n (Gives v a l) f h g = lower l n (f v a l) h (g v a l)
bind_low n (Asks k) f h g = h

bind_more : {A B : Type 0} (d : ℕ) (x y : Got A) (f : A → List ℤ → ℕ → Got B) → More d x y → ((v : A) (a : List ℤ) (l : ℕ) → More d (f v a l) (f v a (l + d))) → More d (x >>= f) (y >>= f)
bind_more d (Gives v a l) y f h g = subst (λ y. More d (f v a l) (y >>= f)) (sym h) (g v a l)
bind_more d (Asks k) y f h g = λ out. ap (λ y. y >>= f) (h out)

bind_further : {A B : Type 0} (z : ℤ) (x y : Got A) (f : A → List ℤ → ℕ → Got B) → Further z x y → ((v : A) (a : List ℤ) (l : ℕ) → Further z (f v a l) (f v (a ++ z ∷ []) l)) → ((v : A) (a : List ℤ) (l : ℕ) → Low l (f v a l))
    → Further z (x >>= f) (y >>= f)
bind_further z (Gives v a l) y f h g low = subst (λ y. Further z (f v a l) (y >>= f)) (sym h) (g v a l)
bind_further z (Asks k) y f h g low = bind_low k.left y f h low

low_fewer : {A : Type 0} (n l : ℕ) (x : Got A) → l < n → Low l x → Fewer n x
low_fewer n l (Gives v a k) h b = omega (arith, h, b)
low_fewer n l (Asks q) h b = λ within. omega (arith, h, b)

bind_fewer : {A B : Type 0} (n : ℕ) (x : Got A) (f : A → List ℤ → ℕ → Got B) → Fewer n x → ((v : A) (a : List ℤ) (l : ℕ) → Low l (f v a l)) → Fewer n (x >>= f)
bind_fewer n (Gives v a l) f h low = low_fewer n l (f v a l) h (low v a l)
bind_fewer n (Asks k) f h low = h

bind_short : {A B : Type 0} (d : ℕ) (x y : Got A) (f : A → List ℤ → ℕ → Got B) → More d x y → Short d x y → ((v : A) (a : List ℤ) (l : ℕ) → Short d (f v a l) (f v a (l + d))) → ((v : A) (a : List ℤ) (l : ℕ) → Low l (f v a l)) → Short d (x >>= f) (y >>= f)
bind_short d (Gives v a l) y f h s g low = subst (λ y. Short d (f v a l) (y >>= f)) (sym h) (g v a l)
bind_short d (Asks k) y f h s g low = λ out. bind_fewer d y f (s out) low

pub followed : {A B : Type 0} (x : List ℤ → ℕ → Got A) (f : A → List ℤ → ℕ → Got B) → Steady x → ((v : A) → Steady (f v)) → Steady (λ a l. x a l >>= f)
followed x f h g = record {
  more = λ d a l. bind_more d (x a l) (x a (l + d)) f (h.more d a l) (λ v. (g v).more d);
  further = λ z a l. bind_further z (x a l) (x (a ++ z ∷ []) l) f (h.further z a l) (λ v. (g v).further z) (λ v. (g v).low);
  low = λ a l. bind_low l (x a l) f (h.low a l) (λ v. (g v).low);
  short = λ d a l. bind_short d (x a l) (x a (l + d)) f (h.more d a l) (h.short d a l) (λ v. (g v).short d) (λ v. (g v).low);
}

pub gives : {A : Type 0} (v : A) → Steady (Gives v)
gives v = record { more = λ d a l. refl; further = λ z a l. refl; low = λ a l. omega arith; short = λ d a l. tt }

tick_more : (d : ℕ) (a : List ℤ) (l : ℕ) → More d (tick a l) (tick a (l + d))
tick_more d a zero = λ out. absurd (true≢false out)
tick_more d a (suc l) = let e : suc l + d ≡ suc (l + d) = omega arith in ap (tick a) e

tick_further : (z : ℤ) (a : List ℤ) (l : ℕ) → Further z (tick a l) (tick (a ++ z ∷ []) l)
tick_further z a zero = omega arith
tick_further z a (suc l) = refl

tick_low : (a : List ℤ) (l : ℕ) → Low l (tick a l)
tick_low a zero = omega arith
tick_low a (suc l) = omega arith

tick_fewer : (d : ℕ) (a : List ℤ) → Fewer d (tick a d)
tick_fewer zero a = λ within. absurd (true≢false within)
tick_fewer (suc d) a = omega arith

tick_short : (d : ℕ) (a : List ℤ) (l : ℕ) → Short d (tick a l) (tick a (l + d))
tick_short d a zero = λ out. let e : 0 + d ≡ d = omega arith in subst (λ n. Fewer d (tick a n)) (sym e) (tick_fewer d a)
tick_short d a (suc l) = tt

pub ticks : Steady tick
ticks = record { more = tick_more; further = tick_further; low = tick_low; short = tick_short }

-- whether a request is out of ticks doesn't depend on the ticks left
in_and_out : {X : Type 0} (b : Bool) → b ≡ true → b ≡ false → X
in_and_out b out within = absurd (true≢false (sym out ∙ within))

ask_more : (k : Ask) (d : ℕ) (a : List ℤ) (l : ℕ) → More d (ask k a l) (ask k a (l + d))
ask_more k d [] l = λ out. refl
ask_more k d (v ∷ a) l = refl

ask_further : (k : Ask) (z : ℤ) (a : List ℤ) (l : ℕ) → Further z (ask k a l) (ask k (a ++ z ∷ []) l)
ask_further k z [] l = omega arith
ask_further k z (v ∷ a) l = refl

ask_low : (k : Ask) (a : List ℤ) (l : ℕ) → Low l (ask k a l)
ask_low k [] l = omega arith
ask_low k (v ∷ a) l = omega arith

ask_short : (k : Ask) (d : ℕ) (a : List ℤ) (l : ℕ) → Short d (ask k a l) (ask k a (l + d))
ask_short k d [] l = λ out within. in_and_out (is_out k) out within
ask_short k d (v ∷ a) l = tt

pub asked : (k : Ask) → Steady (ask k)
asked k = record { more = ask_more k; further = ask_further k; low = ask_low k; short = ask_short k }

pub checked : {A : Type 0} (f : Fault) (o : Option A) → Steady (or_fault f o)
checked f None = record { more = λ d a l out. refl; further = λ z a l. omega arith; low = λ a l. omega arith; short = λ d a l out within. in_and_out (is_out (asks.Fault f)) out within }
checked f (Some v) = gives v

pub either : {A : Type 0} (t : Bool) (x y : List ℤ → ℕ → Got A) → Steady x → Steady y → Steady (λ a l. if t then x a l else y a l)
either true x y h g = h
either false x y h g = g

pub unless : (f : Flow) (go : List ℤ → ℕ → Got Flow) → Steady go → Steady (unless_returned f go)
unless None go h = h
unless (Some v) go h = gives (Some v)

ticked : {A : Type 0} (f : List ℤ → ℕ → Got A) → Steady f → Steady (λ a l. tick a l >>= λ _. f)
ticked f h = followed tick (λ _. f) ticks (λ _. h)

tick_given : (v : ℤ) → Steady (tick_gives v)
tick_given v = ticked (Gives v) (gives v)

asked_on : {A : Type 0} (k : Ask) (f : ℤ → List ℤ → ℕ → Got A) → ((v : ℤ) → Steady (f v)) → Steady (λ a l. ask k a l >>= f)
asked_on k f h = followed (ask k) f (asked k) h

abbrev goes_on : ℤ → List ℤ → ℕ → Got Flow
goes_on v = Gives None

asked_last : (k : Ask) → Steady (λ a l. ask k a l >>= goes_on)
asked_last k = asked_on k goes_on (λ v. gives None)

module _ (inputs : List ℤ) where
  pub valued : (e : Expression) → Steady (value inputs e)
  valued (Number n) = tick_given n
  valued (Variable x) = ticked _ (asked (asks.Read x))
  valued (Element y e) = followed _ _ (valued e) (λ i. followed _ _ (checked IndexOutside (element y i)) (λ x. ticked _ (asked (asks.Read x))))
  valued (Negate e) = followed _ _ (valued e) (λ x. tick_given (word_of (neg_ℤ x)))
  valued (Not e) = followed _ _ (valued e) (λ x. tick_given (truth_of (is_zero x)))
  valued (Binary op d e) = followed _ _ (valued d) (λ x. followed _ _ (valued e) (λ y. followed _ _ (checked DivisionByZero (apply op x y)) tick_given))
  valued (And d e) = followed _ _ (valued d) (λ x. either (is_zero x) _ _ (tick_given (pos 0)) (followed _ _ (valued e) (λ y. tick_given (truth y))))
  valued (Or d e) = followed _ _ (valued d) (λ x. either (is_zero x) _ _ (followed _ _ (valued e) (λ y. tick_given (truth y))) (tick_given (pos 1)))
  valued (Value r) = ticked _ (asked (asks.Value r))
  valued (Input e) = followed _ _ (valued e) (λ x. followed _ _ (checked InputOutside (input_at inputs x)) tick_given)
  valued InputCount = tick_given (input_count inputs)

  with_value : {A : Type 0} (e : Expression) (f : ℤ → List ℤ → ℕ → Got A) → ((v : ℤ) → Steady (f v)) → Steady (λ a l. value inputs e a l >>= f)
  with_value e f h = followed (value inputs e) f (valued e) h

  several : (es : List Expression) → Steady (values inputs es)
  several [] = gives []
  several (e ∷ es) = with_value e _ (λ v. followed _ _ (several es) (λ vs. gives (v ∷ vs)))

  index_steady : (t : Target) → Steady (index_of inputs t)
  index_steady (ToVariable x) = gives (pos 0)
  index_steady (ToElement y e) = valued e

  condition_steady : (test : Option Expression) → Steady (condition inputs test)
  condition_steady None = gives (pos 1)
  condition_steady (Some e) = valued e

  return_steady : (e : Option Expression) → Steady (return_value inputs e)
  return_steady None = gives (Some (pos 0))
  return_steady (Some e) = with_value e _ (λ v. gives (Some v))

  invoking : (how : Invocation) (c : Callee) → Steady (invokes how c)
  invoking how c = asked_on (asks.Invoke how c) _ (λ _. asked_last asks.Resume)

  function_steady : (i : Invoke) → Steady (invokes_function inputs i)
  function_steady i = followed _ _ (several i.arguments) (λ vs. invoking i.how (callees.Function (record { function = i.function; words = vs; reducers = i.reducers; result = i.result })))

  declares_steady : (d : Declaration) → Steady (declares inputs d)
  declares_steady (Zero n) = asked_last (asks.Write (places.Local 0 n) (pos 0))
  declares_steady (Opening n e) = with_value e _ (λ v. asked_last (asks.Write (places.Local 0 n) v))
  declares_steady (Invoking i) = function_steady i

  all_declare_steady : (ds : List Declaration) → Steady (all_declare inputs ds)
  all_declare_steady [] = gives None
  all_declare_steady (d ∷ ds) = followed _ _ (declares_steady d) (λ _. all_declare_steady ds)

  parallel_steady : (n : ℕ) (low high : ℤ) → Steady (parallel_turns n low high)
  parallel_steady n low high = either (int_lt low high) _ _ (invoking Call (callees.Loop (record { number = n; up = 0; low = low; high = high }))) (gives None)

module _ (test : List ℤ → ℕ → Got ℤ) (body step : List ℤ → ℕ → Got Flow) (tested : Steady test) (walked : Steady body) (stepped : Steady step) where
  turns_steady : (n : ℕ) → Steady (turns n test body step)
  turns_steady zero = record {
    more = λ d a l out. absurd (true≢false out);
    further = λ z a l. omega arith;
    low = λ a l. omega arith;
    short = λ d a l out within. absurd (true≢false within);
  }
  turns_steady (suc n) =
      followed _ _ tested (λ v. either (is_zero v) _ _ (gives None) (followed _ _ walked (λ f. unless f _ (followed _ _ stepped (λ g. unless g _ (turns_steady n))))))

  -- as many turns as ticks
  loops_steady : ((n k : ℕ) (a : List ℤ) (l : ℕ) → l < n → l < k → turns n test body step a l ≡ turns k test body step a l) → Steady (λ a l. turns (suc l) test body step a l)
  loops_steady enough = record {
    more = λ d a l. subst (λ x. More d x (turns (suc (l + d)) test body step a (l + d))) (enough (suc (l + d)) (suc l) a l (omega arith) (omega arith)) ((turns_steady (suc (l + d))).more d a l);
    further = λ z a l. (turns_steady (suc l)).further z a l;
    low = λ a l. (turns_steady (suc l)).low a l;
    short = λ d a l. subst (λ x. Short d x (turns (suc (l + d)) test body step a (l + d))) (enough (suc (l + d)) (suc l) a l (omega arith) (omega arith)) ((turns_steady (suc (l + d))).short d a l);
  }

module _ (inputs : List ℤ) where
  mutual
    pub does_steady : (s : Statement) → Steady (does inputs s)
    does_steady Empty = ticked _ (gives None)
    does_steady (Block row) = ticked _ (all_steady row)
    does_steady (Declare ds) = ticked _ (all_declare_steady inputs ds)
    does_steady (Assign t e) =
        ticked _ (followed _ _ (index_steady inputs t) (λ i. with_value inputs e _ (λ v. followed _ _ (checked IndexOutside (place_of t i)) (λ x. asked_last (asks.Write x v)))))
    does_steady (Change t op e) =
        ticked _ (followed _ _ (index_steady inputs t) (λ i. followed _ _ (checked IndexOutside (place_of t i)) (λ x. asked_on (asks.Read x) _ (λ old. with_value inputs e _ (λ v. asked_last (asks.Write x (change op old v)))))))
    does_steady (Step t n) =
        ticked _ (followed _ _ (index_steady inputs t) (λ i. followed _ _ (checked IndexOutside (place_of t i)) (λ x. asked_on (asks.Read x) _ (λ old. asked_last (asks.Write x (word_of (old +ℤ n)))))))
    does_steady (Invokes i) = ticked _ (function_steady inputs i)
    does_steady Sync = ticked _ (asked_last asks.Sync)
    does_steady (If e s) = ticked _ (with_value inputs e _ (λ v. either (is_zero v) _ _ (gives None) (does_steady s)))
    does_steady (IfElse e s other) = ticked _ (with_value inputs e _ (λ v. either (is_zero v) _ _ (does_steady other) (does_steady s)))
    does_steady (For row test step s) =
        ticked _ (followed _ _ (all_steady row) (λ f. unless f _
        (loops_steady (condition inputs test) (does inputs s) (all_do inputs step) (condition_steady inputs test) (does_steady s) (all_steady step)
        (turns_enough (condition inputs test) (does inputs s) (all_do inputs step) (condition_below inputs test) (does_below inputs s) (all_below inputs step)))))
    does_steady (ParallelFor e e' n) = ticked _ (with_value inputs e _ (λ low. with_value inputs e' _ (λ high. parallel_steady inputs n low high)))
    does_steady (Print e) = ticked _ (with_value inputs e _ (λ v. asked_last (asks.Print v)))
    does_steady (Update r e) = ticked _ (with_value inputs e _ (λ v. asked_last (asks.Update r v)))
    does_steady (Set r e) = ticked _ (with_value inputs e _ (λ v. asked_last (asks.Set r v)))
    does_steady (Return e) = ticked _ (return_steady inputs e)

    pub all_steady : (row : Statements) → Steady (all_do inputs row)
    all_steady Nothing = gives None
    all_steady (Then s row) = followed _ _ (does_steady s) (λ f. unless f _ (all_steady row))

  gives_steady : (gives_it : Bool) (v : ℤ) → Steady (gives_result gives_it v)
  gives_steady false v = gives v
  gives_steady true v = asked_on (asks.Result v) _ (λ _. gives v)

  finishes_steady : (gives_it : Bool) (f : Flow) → Steady (finishes gives_it f)
  finishes_steady gives_it f = asked_on asks.Sync _ (λ _. gives_steady gives_it (returned f))

  words_steady : (n : ℕ) (vs : List ℤ) → Steady (writes_words n vs)
  words_steady n [] = gives tt
  words_steady n (v ∷ vs) = asked_on (asks.Write (places.Local 0 n) v) _ (λ _. words_steady (suc n) vs)

  creates_steady : (place : ℕ → ReducerPlace) (n : ℕ) (ks : List MonoidKind) → Steady (creates place n ks)
  creates_steady place n [] = gives tt
  creates_steady place n (k ∷ ks) = asked_on (asks.Create (record { place = place n; kind = k })) _ (λ _. creates_steady place (suc n) ks)

  function_gives_steady : (f : Function) (words : List ℤ) (gives_it : Bool) → Steady (function_gives inputs f words gives_it)
  function_gives_steady f words gives_it =
      followed _ _ (words_steady 0 words) (λ _. followed _ _ (creates_steady (reducers.Own 0) 0 f.reducers) (λ _. followed _ _ (all_steady f.body) (finishes_steady gives_it)))

  loop_gives_steady : (body : Statements) (l : LoopPart) → Steady (loop_gives inputs body l)
  loop_gives_steady body l =
      either (int_eq (l.high -ℤ l.low) (pos 1)) _ _ (asked_on (asks.Write (places.Local 0 0) l.low) _ (λ _. followed _ _ (all_steady body) (finishes_steady false)))
      (followed _ _ (invoking inputs Spawn (part l l.low (middle l.low l.high))) (λ _. followed _ _ (invoking inputs Call (part l (middle l.low l.high) l.high)) (finishes_steady false)))

  pub frame_steady : (p : Source) (callee : Callee) → Steady (frame_gives p inputs callee)
  frame_steady p callees.Root = followed _ _ (creates_steady reducers.Global 0 p.reducers) (λ _. function_gives_steady (main_of p) [] false)
  frame_steady p (callees.Function c) = function_gives_steady (function_at p c.function) c.words (is_some c.result)
  frame_steady p (callees.Loop l) = let body = loop_at p l.number in loop_gives_steady body.body l
