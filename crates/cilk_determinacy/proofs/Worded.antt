-- If a program, its inputs and a frame's answers are words, the values in the frame's asks are
-- words.
use Rattle.std.proofs.Common.{◌≡◌, ℕ, zero, suc, ◌<◌, ◌^◌, ℤ, pos, negsuc, ◌+ℤ◌, ◌-ℤ◌, ◌<ℤ◌, neg_ℤ, int_lt, int_eq, int_rem, Bool, true, false, if◌then◌else◌, List, [], ◌∷◌, slice_get, Option, Some, None, is_some, unwrap_or, refl, arith, lit<}
use Rattle.std.specs.Int.{w64}
use Rattle.std.proofs.lemmas.Int.{ints, SFits-int_wrap}
use Rattle.cilk_program.proofs.Intervals.{below_from}
use Rattle.std.specs.Int.Signed.{mag, mag_rem}
use Rattle.cilk_program.proofs.Halves.{halves}
use Rattle.cilk_types.specs.Input.{input_at, input_count}
use Rattle.cilk_types.specs.Word.{word_of, IsWord}
use Rattle.cilk_types.specs.declared.fault.Fault.{Fault}
use Rattle.cilk_types.specs.declared.fault.Fault.TheVariants.{DivisionByZero, IndexOutside, InputOutside}
use Rattle.cilk_monoid.specs.declared.kind.MonoidKind.{MonoidKind}
use Rattle.cilk_program.specs.declared.ask.Ask.{Ask}
use Rattle.cilk_program.specs.declared.ask.Ask.TheVariants as asks
use Rattle.cilk_program.specs.declared.ask.Callee.{Callee}
use Rattle.cilk_program.specs.declared.ask.Callee.TheVariants as callees
use Rattle.cilk_program.specs.declared.ask.LoopPart.{LoopPart}
use Rattle.cilk_types.specs.declared.invocation.Invocation.{Invocation}
use Rattle.cilk_types.specs.declared.invocation.Invocation.TheVariants.{Call, Spawn}
use Rattle.cilk_program.specs.declared.syntax.Operator.{Operator}
use Rattle.cilk_program.specs.declared.syntax.Operator.TheVariants.{Add, Subtract, Multiply, Divide, Remainder, Less, LessEqual, Greater, GreaterEqual, Equal, NotEqual}
use Rattle.cilk_types.specs.declared.compound.Compound.{Compound}
use Rattle.cilk_types.specs.declared.compound.Compound.TheVariants as compounds
use Rattle.cilk_program.specs.declared.syntax.Place.TheVariants as places
use Rattle.cilk_program.specs.declared.syntax.ReducerPlace.{ReducerPlace}
use Rattle.cilk_program.specs.declared.syntax.ReducerPlace.TheVariants as reducers
use Rattle.cilk_program.specs.Operators.{is_zero, truth, truth_of, apply, change}
use Rattle.cilk_program.specs.Syntax.{Expression, Number, Variable, Element, Negate, Not, Binary, And, Or, Value, Input, InputCount, Target, ToVariable, ToElement, Invoke, Declaration, Zero, Opening, Invoking, Statement, Empty, Block, Declare, Assign, Change, Step, Invokes, Sync, If, IfElse, For, ParallelFor, Print, Update, Set, Return, Statements, Nothing, Then, Function, Loop, Source, idle, idle_loop, function_at, main_of, loop_at, element, place_of}
use Rattle.cilk_program.specs.Behaviour.{Got, Gives, Asks, ◌>>=◌, tick, ask, tick_gives, or_fault, value, values, index_of, Flow, unless_returned, invokes, invokes_function, declares, all_declare, condition, turns, parallel_turns, return_value, does, all_do, returned, gives_result, finishes, writes_words, creates, function_gives, middle, part, loop_gives, frame_gives, ended, frame_asks}
use Rattle.cilk_determinacy.specs.Words.{AreWords, ExpressionWords, ExpressionsWords, OptionWords, TargetWords, DeclarationWords, DeclarationsWords, StatementWords, RowWords, FunctionsWords, LoopsWords, HasWords, InputsAreWords}

-- ---- words

pub word_is : (z : ℤ) → IsWord (word_of z)
word_is z = SFits-int_wrap w64 z

pub zero_word : IsWord (pos 0)
zero_word = record { sfits = lit< tt }

one_word : IsWord (pos 1)
one_word = record { sfits = lit< tt }

truth_word : (b : Bool) → IsWord (truth_of b)
truth_word true = one_word
truth_word false = zero_word

truth_is : (v : ℤ) → IsWord (truth v)
truth_is v = by (is_zero v)
  where
    by : (b : Bool) → IsWord (if b then pos 0 else pos 1)
    by true = zero_word
    by false = one_word

abbrev pub OptionWord : Option ℤ → Type 0
OptionWord None = Unit {0}
OptionWord (Some v) = IsWord v

change_word : (op : Compound) (x y : ℤ) → IsWord (change op x y)
change_word compounds.Add x y = word_is _
change_word compounds.Subtract x y = word_is _
change_word compounds.Multiply x y = word_is _

input_word : (xs : List ℤ) → AreWords xs → (n : ℕ) → OptionWord (slice_get xs n)
input_word [] h n = tt
input_word (x ∷ xs) h zero = h.0
input_word (x ∷ xs) h (suc n) = input_word xs h.1 n

input_at_word : (xs : List ℤ) → AreWords xs → (i : ℤ) → OptionWord (input_at xs i)
input_at_word xs h (pos n) = input_word xs h n
input_at_word xs h (negsuc n) = tt

-- ---- parts of a behaviour

abbrev pub CalleeWords : Callee → Type 0
CalleeWords callees.Root = Unit {0}
CalleeWords (callees.Function c) = AreWords c.words
CalleeWords (callees.Loop l) = IsWord l.low × IsWord l.high × (l.low <ℤ l.high)

abbrev pub AskWords : Ask → Type 0
AskWords (asks.Write x v) = IsWord v
AskWords (asks.Update r v) = IsWord v
AskWords (asks.Set r v) = IsWord v
AskWords (asks.Print v) = IsWord v
AskWords (asks.Invoke how callee) = CalleeWords callee
AskWords (asks.Result v) = IsWord v
AskWords k = Unit {0}

abbrev Comes : {A : Type 0} → (A → Type 0) → Got A → Type 0
Comes Q (Gives v a l) = Q v × AreWords a
Comes Q (Asks k) = AskWords k.ask

abbrev Worded : {A : Type 0} → (A → Type 0) → (List ℤ → ℕ → Got A) → Type 0
Worded Q x = (a : List ℤ) (l : ℕ) → AreWords a → Comes Q (x a l)

comes_then : {A B : Type 0} (Q : A → Type 0) (R : B → Type 0) (x : Got A) (f : A → List ℤ → ℕ → Got B) → Comes Q x → ((v : A) → Q v → Worded R (f v)) → Comes R (x >>= f)
comes_then Q R (Gives v a l) f h g = g v h.0 a l h.1
comes_then Q R (Asks k) f h g = h

followed : {A B : Type 0} (Q : A → Type 0) (R : B → Type 0) (x : List ℤ → ℕ → Got A) (f : A → List ℤ → ℕ → Got B) → Worded Q x → ((v : A) → Q v → Worded R (f v)) → Worded R (λ a l. x a l >>= f)
followed Q R x f h g a l w = comes_then Q R (x a l) f (h a l w) g

abbrev Any : {A : Type 0} → A → Type 0
Any v = Unit {0}

gives : {A : Type 0} (Q : A → Type 0) (v : A) → Q v → Worded Q (Gives v)
gives Q v h a l w = (h, w)

tick_worded : Worded Any tick
tick_worded a zero w = tt
tick_worded a (suc l) w = (tt, w)

asked : (k : Ask) → AskWords k → Worded IsWord (ask k)
asked k h [] l w = h
asked k h (v ∷ a) l w = w

ticked : {A : Type 0} (R : A → Type 0) (f : List ℤ → ℕ → Got A) → Worded R f → Worded R (λ a l. tick a l >>= λ _. f)
ticked R f h = followed Any R tick (λ _. f) tick_worded (λ _ _. h)

given : (v : ℤ) → IsWord v → Worded IsWord (tick_gives v)
given v h = ticked IsWord (Gives v) (gives IsWord v h)

any_checked : {A : Type 0} (f : Fault) (o : Option A) → Worded Any (or_fault f o)
any_checked f None a l w = tt
any_checked f (Some v) a l w = (tt, w)

either : {A : Type 0} (R : A → Type 0) (t : Bool) (x y : List ℤ → ℕ → Got A) → Worded R x → Worded R y → Worded R (λ a l. if t then x a l else y a l)
either R true x y h g = h
either R false x y h g = g

asked_on : {A : Type 0} (R : A → Type 0) (k : Ask) (f : ℤ → List ℤ → ℕ → Got A) → AskWords k → ((v : ℤ) → IsWord v → Worded R (f v)) → Worded R (λ a l. ask k a l >>= f)
asked_on R k f h g = followed IsWord R (ask k) f (asked k h) g

-- how a statement ends: with a word, if it returns one
abbrev FlowWord : Flow → Type 0
FlowWord None = Unit {0}
FlowWord (Some v) = IsWord v

abbrev goes_on : ℤ → List ℤ → ℕ → Got Flow
goes_on v = Gives None

asked_last : (k : Ask) → AskWords k → Worded FlowWord (λ a l. ask k a l >>= goes_on)
asked_last k h = asked_on FlowWord k goes_on h (λ v g. gives FlowWord None tt)

-- what division leaves is no larger
rest_word : (x y : ℤ) → IsWord x → IsWord (int_rem x y)
rest_word x y h = let less = mag_rem x y in let few = h.sfits in record { sfits = omega (arith, less, few) }

fits : (z : ℤ) → mag z < 2 ^ 63 → IsWord z
fits z h = record { sfits = h }

size_is : (z : ℤ) → IsWord z → mag z < 2 ^ 63
size_is z h = h.sfits

-- a number between two words
between : (low mid high : ℤ) → IsWord low → IsWord high → low <ℤ mid → mid <ℤ high → IsWord mid
between low (pos n) (pos k) wl wh a b = let s = size_is (pos k) wh in fits (pos n) (omega (arith, ints, s, b))
between low (pos n) (negsuc k) wl wh a b = absurd (omega (arith, ints, b))
between (pos k) (negsuc n) high wl wh a b = absurd (omega (arith, ints, a))
between (negsuc k) (negsuc n) high wl wh a b = let s = size_is (negsuc k) wl in fits (negsuc n) (omega (arith, ints, s, a))

word_checked : (f : Fault) (o : Option ℤ) → OptionWord o → Worded IsWord (or_fault f o)
word_checked f None h a l w = tt
word_checked f (Some v) h a l w = (h, w)

when : {A : Type 0} (R : A → Type 0) (t : Bool) (x y : List ℤ → ℕ → Got A) → (t ≡ true → Worded R x) → (t ≡ false → Worded R y) → Worded R (λ a l. if t then x a l else y a l)
when R true x y h g = h refl
when R false x y h g = g refl

quotient_word : (op : Operator) (x y : ℤ) → IsWord x → OptionWord (apply op x y)
quotient_word Add x y h = word_is _
quotient_word Subtract x y h = word_is _
quotient_word Multiply x y h = word_is _
quotient_word Divide x (pos zero) h = tt
quotient_word Divide x (pos (suc n)) h = word_is _
quotient_word Divide x (negsuc n) h = word_is _
quotient_word Remainder x (pos zero) h = tt
quotient_word Remainder x (pos (suc n)) h = rest_word x (pos (suc n)) h
quotient_word Remainder x (negsuc n) h = rest_word x (negsuc n) h
quotient_word Less x y h = truth_word _
quotient_word LessEqual x y h = truth_word _
quotient_word Greater x y h = truth_word _
quotient_word GreaterEqual x y h = truth_word _
quotient_word Equal x y h = truth_word _
quotient_word NotEqual x y h = truth_word _

-- a word that isn't looked at
forget : (x : Got ℤ) → Comes IsWord x → Comes Any x
forget (Gives v a l) h = (tt, h.1)
forget (Asks k) h = h

module _ (inputs : List ℤ) (inputs_words : InputsAreWords inputs) where
  valued : (e : Expression) → ExpressionWords e → Worded IsWord (value inputs e)
  valued (Number n) h = given n h
  valued (Variable x) h = ticked IsWord _ (asked (asks.Read x) tt)
  valued (Element y e) h = followed IsWord IsWord _ _ (valued e h) (λ i _. followed Any IsWord _ _ (any_checked IndexOutside (element y i)) (λ x _. ticked IsWord _ (asked (asks.Read x) tt)))
  valued (Negate e) h = followed IsWord IsWord _ _ (valued e h) (λ x _. given (word_of (neg_ℤ x)) (word_is _))
  valued (Not e) h = followed IsWord IsWord _ _ (valued e h) (λ x _. given (truth_of (is_zero x)) (truth_word (is_zero x)))
  valued (Binary op d e) h =
      followed IsWord IsWord _ _ (valued d h.0) (λ x wx. followed IsWord IsWord _ _ (valued e h.1) (λ y _. followed IsWord IsWord _ _ (word_checked DivisionByZero (apply op x y) (quotient_word op x y wx)) given))
  valued (And d e) h =
      followed IsWord IsWord _ _ (valued d h.0) (λ x _. either IsWord (is_zero x) _ _ (given (pos 0) zero_word) (followed IsWord IsWord _ _ (valued e h.1) (λ y _. given (truth y) (truth_is y))))
  valued (Or d e) h =
      followed IsWord IsWord _ _ (valued d h.0) (λ x _. either IsWord (is_zero x) _ _ (followed IsWord IsWord _ _ (valued e h.1) (λ y _. given (truth y) (truth_is y))) (given (pos 1) one_word))
  valued (Value r) h = ticked IsWord _ (asked (asks.Value r) tt)
  valued (Input e) h = followed IsWord IsWord _ _ (valued e h) (λ x _. followed IsWord IsWord _ _ (word_checked InputOutside (input_at inputs x) (input_at_word inputs inputs_words.inputs_are x)) given)
  valued InputCount h = given (input_count inputs) inputs_words.count

  with_value : {A : Type 0} (R : A → Type 0) (e : Expression) → ExpressionWords e → (f : ℤ → List ℤ → ℕ → Got A) → ((v : ℤ) → IsWord v → Worded R (f v)) → Worded R (λ a l. value inputs e a l >>= f)
  with_value R e h f g = followed IsWord R (value inputs e) f (valued e h) g

  several : (es : List Expression) → ExpressionsWords es → Worded AreWords (values inputs es)
  several [] h = gives AreWords [] tt
  several (e ∷ es) h = with_value AreWords e h.0 _ (λ v w. followed AreWords AreWords _ _ (several es h.1) (λ vs ws. gives AreWords (v ∷ vs) (w, ws)))

  index_worded : (t : Target) → TargetWords t → Worded Any (index_of inputs t)
  index_worded (ToVariable x) h = gives Any (pos 0) tt
  index_worded (ToElement y e) h = λ a l w. forget (value inputs e a l) (valued e h a l w)

  condition_worded : (test : Option Expression) → OptionWords test → Worded IsWord (condition inputs test)
  condition_worded None h = gives IsWord (pos 1) one_word
  condition_worded (Some e) h = valued e h

  return_worded : (e : Option Expression) → OptionWords e → Worded FlowWord (return_value inputs e)
  return_worded None h = gives FlowWord (Some (pos 0)) zero_word
  return_worded (Some e) h = with_value FlowWord e h _ (λ v w. gives FlowWord (Some v) w)

  invoking : (how : Invocation) (c : Callee) → CalleeWords c → Worded FlowWord (invokes how c)
  invoking how c h = asked_on FlowWord (asks.Invoke how c) _ h (λ _ _. asked_last asks.Resume tt)

  function_worded : (i : Invoke) → ExpressionsWords i.arguments → Worded FlowWord (invokes_function inputs i)
  function_worded i h = followed AreWords FlowWord _ _ (several i.arguments h) (λ vs ws. invoking i.how (callees.Function (record { function = i.function; words = vs; reducers = i.reducers; result = i.result })) ws)

  declares_worded : (d : Declaration) → DeclarationWords d → Worded FlowWord (declares inputs d)
  declares_worded (Zero n) h = asked_last (asks.Write (places.Local 0 n) (pos 0)) zero_word
  declares_worded (Opening n e) h = with_value FlowWord e h _ (λ v w. asked_last (asks.Write (places.Local 0 n) v) w)
  declares_worded (Invoking i) h = function_worded i h

  all_declare_worded : (ds : List Declaration) → DeclarationsWords ds → Worded FlowWord (all_declare inputs ds)
  all_declare_worded [] h = gives FlowWord None tt
  all_declare_worded (d ∷ ds) h = followed FlowWord FlowWord _ _ (declares_worded d h.0) (λ _ _. all_declare_worded ds h.1)

  parallel_worded : (n : ℕ) (low high : ℤ) → IsWord low → IsWord high → Worded FlowWord (parallel_turns n low high)
  parallel_worded n low high h g =
      when FlowWord (int_lt low high) _ _ (λ less. invoking Call (callees.Loop (record { number = n; up = 0; low = low; high = high })) (h, g, below_from low high less)) (λ _. gives FlowWord None tt)

unless : (f : Flow) (go : List ℤ → ℕ → Got Flow) → FlowWord f → Worded FlowWord go → Worded FlowWord (unless_returned f go)
unless None go w h = h
unless (Some v) go w h = gives FlowWord (Some v) w

module _ (test : List ℤ → ℕ → Got ℤ) (body step : List ℤ → ℕ → Got Flow) (tested : Worded IsWord test) (walked : Worded FlowWord body) (stepped : Worded FlowWord step) where
  turns_worded : (n : ℕ) → Worded FlowWord (turns n test body step)
  turns_worded zero = λ a l w. tt
  turns_worded (suc n) =
      followed IsWord FlowWord _ _ tested (λ v _. either FlowWord (is_zero v) _ _ (gives FlowWord None tt) (followed FlowWord FlowWord _ _ walked (λ f wf. unless f _ wf (followed FlowWord FlowWord _ _ stepped (λ g wg. unless g _ wg (turns_worded n))))))

module _ (inputs : List ℤ) (inputs_words : InputsAreWords inputs) where
  mutual
    does_worded : (s : Statement) → StatementWords s → Worded FlowWord (does inputs s)
    does_worded Empty h = ticked FlowWord _ (gives FlowWord None tt)
    does_worded (Block row) h = ticked FlowWord _ (all_worded row h)
    does_worded (Declare ds) h = ticked FlowWord _ (all_declare_worded inputs inputs_words ds h)
    does_worded (Assign t e) h =
        ticked FlowWord _ (followed Any FlowWord _ _ (index_worded inputs inputs_words t h.0) (λ i _. with_value inputs inputs_words FlowWord e h.1 _ (λ v w. followed Any FlowWord _ _ (any_checked IndexOutside (place_of t i)) (λ x _. asked_last (asks.Write x v) w))))
    does_worded (Change t op e) h =
        ticked FlowWord _ (followed Any FlowWord _ _ (index_worded inputs inputs_words t h.0) (λ i _. followed Any FlowWord _ _ (any_checked IndexOutside (place_of t i)) (λ x _. asked_on FlowWord (asks.Read x) _ tt (λ old _.
        with_value inputs inputs_words FlowWord e h.1 _ (λ v _. asked_last (asks.Write x (change op old v)) (change_word op old v))))))
    does_worded (Step t n) h =
        ticked FlowWord _ (followed Any FlowWord _ _ (index_worded inputs inputs_words t h) (λ i _. followed Any FlowWord _ _ (any_checked IndexOutside (place_of t i)) (λ x _. asked_on FlowWord (asks.Read x) _ tt (λ old _. asked_last (asks.Write x (word_of (old +ℤ n))) (word_is _)))))
    does_worded (Invokes i) h = ticked FlowWord _ (function_worded inputs inputs_words i h)
    does_worded Sync h = ticked FlowWord _ (asked_last asks.Sync tt)
    does_worded (If e s) h = ticked FlowWord _ (with_value inputs inputs_words FlowWord e h.0 _ (λ v _. either FlowWord (is_zero v) _ _ (gives FlowWord None tt) (does_worded s h.1)))
    does_worded (IfElse e s other) h = ticked FlowWord _ (with_value inputs inputs_words FlowWord e h.0 _ (λ v _. either FlowWord (is_zero v) _ _ (does_worded other h.2) (does_worded s h.1)))
    does_worded (For row test step s) h =
        ticked FlowWord _ (followed FlowWord FlowWord _ _ (all_worded row h.0) (λ f wf. unless f _ wf
        (λ a l. turns_worded (condition inputs test) (does inputs s) (all_do inputs step) (condition_worded inputs inputs_words test h.1) (does_worded s h.3) (all_worded step h.2) (suc l) a l)))
    does_worded (ParallelFor e e' n) h = ticked FlowWord _ (with_value inputs inputs_words FlowWord e h.0 _ (λ low wl. with_value inputs inputs_words FlowWord e' h.1 _ (λ high wh. parallel_worded inputs inputs_words n low high wl wh)))
    does_worded (Print e) h = ticked FlowWord _ (with_value inputs inputs_words FlowWord e h _ (λ v w. asked_last (asks.Print v) w))
    does_worded (Update r e) h = ticked FlowWord _ (with_value inputs inputs_words FlowWord e h _ (λ v w. asked_last (asks.Update r v) w))
    does_worded (Set r e) h = ticked FlowWord _ (with_value inputs inputs_words FlowWord e h _ (λ v w. asked_last (asks.Set r v) w))
    does_worded (Return e) h = ticked FlowWord _ (return_worded inputs inputs_words e h)

    all_worded : (row : Statements) → RowWords row → Worded FlowWord (all_do inputs row)
    all_worded Nothing h = gives FlowWord None tt
    all_worded (Then s row) h = followed FlowWord FlowWord _ _ (does_worded s h.0) (λ f wf. unless f _ wf (all_worded row h.1))

  returned_word : (f : Flow) → FlowWord f → IsWord (returned f)
  returned_word None h = zero_word
  returned_word (Some v) h = h

  gives_worded : (gives_it : Bool) (v : ℤ) → IsWord v → Worded IsWord (gives_result gives_it v)
  gives_worded false v h = gives IsWord v h
  gives_worded true v h = asked_on IsWord (asks.Result v) _ h (λ _ _. gives IsWord v h)

  finishes_worded : (gives_it : Bool) (f : Flow) → FlowWord f → Worded IsWord (finishes gives_it f)
  finishes_worded gives_it f h = asked_on IsWord asks.Sync _ tt (λ _ _. gives_worded gives_it (returned f) (returned_word f h))

  words_worded : (n : ℕ) (vs : List ℤ) → AreWords vs → Worded Any (writes_words n vs)
  words_worded n [] h = λ a l w. (tt, w)
  words_worded n (v ∷ vs) h = asked_on Any (asks.Write (places.Local 0 n) v) _ h.0 (λ _ _. words_worded (suc n) vs h.1)

  creates_worded : (place : ℕ → ReducerPlace) (n : ℕ) (ks : List MonoidKind) → Worded Any (creates place n ks)
  creates_worded place n [] = λ a l w. (tt, w)
  creates_worded place n (k ∷ ks) = asked_on Any (asks.Create (record { place = place n; kind = k })) _ tt (λ _ _. creates_worded place (suc n) ks)

  function_gives_worded : (f : Function) → RowWords f.body → (words : List ℤ) → AreWords words → (gives_it : Bool) → Worded IsWord (function_gives inputs f words gives_it)
  function_gives_worded f h words w gives_it =
      followed Any IsWord _ _ (words_worded 0 words w) (λ _ _. followed Any IsWord _ _ (creates_worded (reducers.Own 0) 0 f.reducers) (λ _ _. followed FlowWord IsWord _ _ (all_worded f.body h) (finishes_worded gives_it)))

  loop_gives_worded : (body : Statements) → RowWords body → (l : LoopPart) → IsWord l.low → IsWord l.high → l.low <ℤ l.high → Worded IsWord (loop_gives inputs body l)
  loop_gives_worded body h l low high less =
      when IsWord (int_eq (l.high -ℤ l.low) (pos 1)) _ _ (λ _. asked_on IsWord (asks.Write (places.Local 0 0) l.low) _ low (λ _ _. followed FlowWord IsWord _ _ (all_worded body h) (finishes_worded false))) (λ more.
      let half = halves l.low l.high less more in
      let mid = between l.low (middle l.low l.high) l.high low high half.0 half.1 in
      followed FlowWord IsWord _ _ (invoking inputs inputs_words Spawn (part l l.low (middle l.low l.high)) (low, mid, half.0)) (λ _ _.
      followed FlowWord IsWord _ _ (invoking inputs inputs_words Call (part l (middle l.low l.high) l.high) (mid, high, half.1)) (finishes_worded false)))

functions_at : (fs : List Function) → FunctionsWords fs → (k : ℕ) → let f = unwrap_or (slice_get fs k) idle in RowWords f.body
functions_at [] h k = tt
functions_at (f ∷ fs) h zero = h.0
functions_at (f ∷ fs) h (suc k) = functions_at fs h.1 k

loops_at : (ls : List Loop) → LoopsWords ls → (k : ℕ) → let l = unwrap_or (slice_get ls k) idle_loop in RowWords l.body
loops_at [] h k = tt
loops_at (l ∷ ls) h zero = h.0
loops_at (l ∷ ls) h (suc k) = loops_at ls h.1 k

module _ (p : Source) (has : HasWords p) (inputs : List ℤ) (inputs_words : InputsAreWords inputs) where
  frame_worded : (callee : Callee) → CalleeWords callee → Worded IsWord (frame_gives p inputs callee)
  frame_worded callees.Root h =
      followed Any IsWord _ _ (creates_worded inputs inputs_words reducers.Global 0 p.reducers) (λ _ _. function_gives_worded inputs inputs_words (main_of p) (functions_at p.functions has.functions p.main) [] tt false)
  frame_worded (callees.Function c) h = function_gives_worded inputs inputs_words (function_at p c.function) (functions_at p.functions has.functions c.function) c.words h (is_some c.result)
  frame_worded (callees.Loop l) h = let body = loop_at p l.number in loop_gives_worded inputs inputs_words body.body (loops_at p.loops has.loops l.number) l h.0 h.1 h.2

  ended_worded : (x : Got ℤ) → Comes IsWord x → AskWords (ended x).ask
  ended_worded (Gives v a l) h = tt
  ended_worded (Asks k) h = h

  pub asks_words : (callee : Callee) → CalleeWords callee → (history : List ℤ) → AreWords history → (start : ℕ) → AskWords (frame_asks p inputs callee history start).ask
  asks_words callee h [] w start = tt
  asks_words callee h (a ∷ history) w start = ended_worded (frame_gives p inputs callee history start) (frame_worded callee h history start w.1)
