-- After a child its caller requests the `resume`.
--
-- - `Resumes`: in a part of a frame's behaviour, whatever follows; so in each statement (`done`)
--   and frame (`framed`);
-- - `resume_asked`: by answers; `resume_next`: by names.
use Rattle.std.proofs.Common.{◌≡◌, ℕ, zero, suc, ℤ, pos, ◌+ℤ◌, ◌-ℤ◌, neg_ℤ, Bool, true, false, cond, if◌then◌else◌, int_lt, int_eq, List, [], ◌∷◌, ◌++◌, Option, Some, None, is_some, refl, sym, ap, ◌∙◌, subst}
use Rattle.cilk_types.specs.Input.{input_at, input_count}
use Rattle.cilk_types.specs.Word.{word_of}
use Rattle.cilk_types.specs.declared.fault.Fault.{Fault}
use Rattle.cilk_types.specs.declared.fault.Fault.TheVariants.{DivisionByZero, IndexOutside, InputOutside}
use Rattle.cilk_types.specs.declared.invocation.Invocation.{Invocation}
use Rattle.cilk_types.specs.declared.invocation.Invocation.TheVariants.{Call, Spawn}
use Rattle.cilk_types.specs.declared.limits.TheConstants.{MAX_TICKS}
use Rattle.cilk_monoid.specs.declared.kind.MonoidKind.{MonoidKind}
use Rattle.cilk_program.specs.declared.ask.Ask.{Ask}
use Rattle.cilk_program.specs.declared.ask.Ask.TheVariants as asks
use Rattle.cilk_program.specs.declared.ask.Callee.{Callee}
use Rattle.cilk_program.specs.declared.ask.Callee.TheVariants as callees
use Rattle.cilk_program.specs.declared.ask.LoopPart.{LoopPart}
use Rattle.cilk_program.specs.declared.syntax.Place.TheVariants as places
use Rattle.cilk_program.specs.declared.syntax.ReducerPlace.{ReducerPlace}
use Rattle.cilk_program.specs.declared.syntax.ReducerPlace.TheVariants as reducers
use Rattle.cilk_program.specs.Operators.{is_zero, truth, truth_of, apply, change}
use Rattle.cilk_program.specs.Syntax.{Expression, Number, Variable, Element, Negate, Not, Binary, And, Or, Value, Input, InputCount, Target, ToVariable, ToElement, Invoke, Declaration, Zero, Opening, Invoking, Statement, Empty, Block, Declare, Assign, Change, Step, Invokes, Sync, If, IfElse, For, ParallelFor, Print, Update, Set, Return, Statements, Nothing, Then, Function, Source, function_at, main_of, loop_at, element, place_of}
use Rattle.cilk_program.specs.Behaviour.{asks_for, Got, Gives, Asks, ◌>>=◌, tick, ask, tick_gives, or_fault, value, values, index_of, Flow, unless_returned, invokes, invokes_function, declares, all_declare, condition, turns, return_value, does, all_do, returned, gives_result, finishes, writes_words, creates, function_gives, middle, part, loop_gives, frame_gives, ended, frame_asks}
use Rattle.cilk_determinacy.specs.Machine.{started}
use Rattle.cilk_determinacy.specs.Runs as runs
use Rattle.cilk_determinacy.specs.FrameEnvMachine.{answers_of, asked_after, has_ended, named_ask, next}
use Rattle.cilk_determinacy.specs.FrameEnvs.{FrameEnv}
use Rattle.cilk_determinacy.proofs.Histories.{answers_more, ended_more}
use Rattle.cilk_replay.specs.InputResumes.{FramesResume}

abbrev IsStart : Ask → Type 0
IsStart (asks.Invoke how child) = Unit {0}
IsStart k = ⊥

-- a part of a body with one more answer: the same value, if it had one, and after the request of a
-- child, the `resume`
abbrev Next : {A : Type 0} → ℤ → Got A → Got A → Type 0
Next z (Gives v a l) y = y ≡ Gives v (a ++ z ∷ []) l
Next z (Asks k) y = IsStart k.ask → y ≡ Asks (asks_for asks.Resume k.left)

record Resumes {A : Type 0} (x : List ℤ → ℕ → Got A) : Type 0 where
  next : (z : ℤ) (a : List ℤ) (l : ℕ) → Next z (x a l) (x (a ++ z ∷ []) l)

bind_next : {A B : Type 0} (z : ℤ) (x y : Got A) (f : A → List ℤ → ℕ → Got B) → Next z x y → ((v : A) (a : List ℤ) (l : ℕ) → Next z (f v a l) (f v (a ++ z ∷ []) l)) → Next z (x >>= f) (y >>= f)
bind_next z (Gives v a l) y f h g = subst (λ y. Next z (f v a l) (y >>= f)) (sym h) (g v a l)
bind_next z (Asks k) y f h g = λ start. ap (λ y. y >>= f) (h start)

followed : {A B : Type 0} (x : List ℤ → ℕ → Got A) (f : A → List ℤ → ℕ → Got B) → Resumes x → ((v : A) → Resumes (f v)) → Resumes (λ a l. x a l >>= f)
followed x f h g = record { next = λ z a l. bind_next z (x a l) (x (a ++ z ∷ []) l) f (h.next z a l) (λ v. (g v).next z) }

gives : {A : Type 0} (v : A) → Resumes (Gives v)
gives v = record { next = λ z a l. refl }

tick_next : (z : ℤ) (a : List ℤ) (l : ℕ) → Next z (tick a l) (tick (a ++ z ∷ []) l)
tick_next z a zero = λ start. absurd start
tick_next z a (suc l) = refl

ask_next : (k : Ask) → (IsStart k → ⊥) → (z : ℤ) (a : List ℤ) (l : ℕ) → Next z (ask k a l) (ask k (a ++ z ∷ []) l)
ask_next k none z [] l = λ start. absurd (none start)
ask_next k none z (v ∷ a) l = refl

asked : (k : Ask) → (IsStart k → ⊥) → Resumes (ask k)
asked k none = record { next = ask_next k none }

checked : {A : Type 0} (f : Fault) (o : Option A) → Resumes (or_fault f o)
checked f None = record { next = λ z a l start. absurd start }
checked f (Some v) = gives v

either : {A : Type 0} (t : Bool) (x y : List ℤ → ℕ → Got A) → Resumes x → Resumes y → Resumes (λ a l. if t then x a l else y a l)
either true x y h g = h
either false x y h g = g

unless : (f : Flow) (go : List ℤ → ℕ → Got Flow) → Resumes go → Resumes (unless_returned f go)
unless None go h = h
unless (Some v) go h = gives (Some v)

ticked : {A : Type 0} (f : List ℤ → ℕ → Got A) → Resumes f → Resumes (λ a l. tick a l >>= λ _. f)
ticked f h = followed tick (λ _. f) (record { next = tick_next }) (λ _. h)

tick_given : (v : ℤ) → Resumes (tick_gives v)
tick_given v = ticked (Gives v) (gives v)

asked_on : {A : Type 0} (k : Ask) (f : ℤ → List ℤ → ℕ → Got A) → (IsStart k → ⊥) → ((v : ℤ) → Resumes (f v)) → Resumes (λ a l. ask k a l >>= f)
asked_on k f none h = followed (ask k) f (asked k none) h

abbrev goes_on : ℤ → List ℤ → ℕ → Got Flow
goes_on v = Gives None

asked_last : (k : Ask) → (IsStart k → ⊥) → Resumes (λ a l. ask k a l >>= goes_on)
asked_last k none = asked_on k goes_on none (λ v. gives None)

invoked : (how : Invocation) (child : Callee) (z : ℤ) (a : List ℤ) (l : ℕ) → Next z (invokes how child a l) (invokes how child (a ++ z ∷ []) l)
invoked how child z [] l = λ start. refl
invoked how child z (v ∷ []) l = λ start. absurd start
invoked how child z (v ∷ w ∷ a) l = refl

invoking : (how : Invocation) (child : Callee) → Resumes (invokes how child)
invoking how child = record { next = invoked how child }

module _ (inputs : List ℤ) where
  valued : (e : Expression) → Resumes (value inputs e)
  valued (Number n) = tick_given n
  valued (Variable x) = ticked _ (asked (asks.Read x) (λ b. b))
  valued (Element y e) = followed _ _ (valued e) (λ i. followed _ _ (checked IndexOutside (element y i)) (λ x. ticked _ (asked (asks.Read x) (λ b. b))))
  valued (Negate e) = followed _ _ (valued e) (λ x. tick_given (word_of (neg_ℤ x)))
  valued (Not e) = followed _ _ (valued e) (λ x. tick_given (truth_of (is_zero x)))
  valued (Binary op d e) = followed _ _ (valued d) (λ x. followed _ _ (valued e) (λ y. followed _ _ (checked DivisionByZero (apply op x y)) tick_given))
  valued (And d e) = followed _ _ (valued d) (λ x. either (is_zero x) _ _ (tick_given (pos 0)) (followed _ _ (valued e) (λ y. tick_given (truth y))))
  valued (Or d e) = followed _ _ (valued d) (λ x. either (is_zero x) _ _ (followed _ _ (valued e) (λ y. tick_given (truth y))) (tick_given (pos 1)))
  valued (Value r) = ticked _ (asked (asks.Value r) (λ b. b))
  valued (Input e) = followed _ _ (valued e) (λ x. followed _ _ (checked InputOutside (input_at inputs x)) tick_given)
  valued InputCount = tick_given (input_count inputs)

  with_value : {A : Type 0} (e : Expression) (f : ℤ → List ℤ → ℕ → Got A) → ((v : ℤ) → Resumes (f v)) → Resumes (λ a l. value inputs e a l >>= f)
  with_value e f h = followed (value inputs e) f (valued e) h

  several : (es : List Expression) → Resumes (values inputs es)
  several [] = gives []
  several (e ∷ es) = with_value e _ (λ v. followed _ _ (several es) (λ vs. gives (v ∷ vs)))

  indexed : (t : Target) → Resumes (index_of inputs t)
  indexed (ToVariable x) = gives (pos 0)
  indexed (ToElement y e) = valued e

  tested : (test : Option Expression) → Resumes (condition inputs test)
  tested None = gives (pos 1)
  tested (Some e) = valued e

  returning : (e : Option Expression) → Resumes (return_value inputs e)
  returning None = gives (Some (pos 0))
  returning (Some e) = with_value e _ (λ v. gives (Some v))

  calling : (i : Invoke) → Resumes (invokes_function inputs i)
  calling i = followed _ _ (several i.arguments) (λ vs. invoking i.how (callees.Function (record { function = i.function; words = vs; reducers = i.reducers; result = i.result })))

  declared : (d : Declaration) → Resumes (declares inputs d)
  declared (Zero n) = asked_last (asks.Write (places.Local 0 n) (pos 0)) (λ b. b)
  declared (Opening n e) = with_value e _ (λ v. asked_last (asks.Write (places.Local 0 n) v) (λ b. b))
  declared (Invoking i) = calling i

  all_declared : (ds : List Declaration) → Resumes (all_declare inputs ds)
  all_declared [] = gives None
  all_declared (d ∷ ds) = followed _ _ (declared d) (λ _. all_declared ds)

module _ (test : List ℤ → ℕ → Got ℤ) (body step : List ℤ → ℕ → Got Flow) (tests : Resumes test) (walks : Resumes body) (steps : Resumes step) where
  turned : (n : ℕ) → Resumes (turns n test body step)
  turned zero = record { next = λ z a l start. absurd start }
  turned (suc n) = followed _ _ tests (λ v. either (is_zero v) _ _ (gives None) (followed _ _ walks (λ f. unless f _ (followed _ _ steps (λ g. unless g _ (turned n))))))

  -- as many turns as ticks
  looped : Resumes (λ a l. turns (suc l) test body step a l)
  looped = record { next = λ z a l. (turned (suc l)).next z a l }

module _ (inputs : List ℤ) where
  mutual
    done : (s : Statement) → Resumes (does inputs s)
    done Empty = ticked _ (gives None)
    done (Block row) = ticked _ (all_done row)
    done (Declare ds) = ticked _ (all_declared inputs ds)
    done (Assign t e) =
        ticked _ (followed _ _ (indexed inputs t) (λ i. with_value inputs e _ (λ v. followed _ _ (checked IndexOutside (place_of t i)) (λ x. asked_last (asks.Write x v) (λ b. b)))))
    done (Change t op e) =
        ticked _ (followed _ _ (indexed inputs t) (λ i. followed _ _ (checked IndexOutside (place_of t i)) (λ x. asked_on (asks.Read x) _ (λ b. b) (λ old. with_value inputs e _ (λ v. asked_last (asks.Write x (change op old v)) (λ b. b))))))
    done (Step t n) =
        ticked _ (followed _ _ (indexed inputs t) (λ i. followed _ _ (checked IndexOutside (place_of t i)) (λ x. asked_on (asks.Read x) _ (λ b. b) (λ old. asked_last (asks.Write x (word_of (old +ℤ n))) (λ b. b)))))
    done (Invokes i) = ticked _ (calling inputs i)
    done Sync = ticked _ (asked_last asks.Sync (λ b. b))
    done (If e s) = ticked _ (with_value inputs e _ (λ v. either (is_zero v) _ _ (gives None) (done s)))
    done (IfElse e s other) = ticked _ (with_value inputs e _ (λ v. either (is_zero v) _ _ (done other) (done s)))
    done (For row test step s) =
        ticked _ (followed _ _ (all_done row) (λ f. unless f _ (looped (condition inputs test) (does inputs s) (all_do inputs step) (tested inputs test) (done s) (all_done step))))
    done (ParallelFor e e' n) =
        ticked _ (with_value inputs e _ (λ low. with_value inputs e' _ (λ high. either (int_lt low high) _ _ (invoking Call (callees.Loop (record { number = n; up = 0; low = low; high = high }))) (gives None))))
    done (Print e) = ticked _ (with_value inputs e _ (λ v. asked_last (asks.Print v) (λ b. b)))
    done (Update r e) = ticked _ (with_value inputs e _ (λ v. asked_last (asks.Update r v) (λ b. b)))
    done (Set r e) = ticked _ (with_value inputs e _ (λ v. asked_last (asks.Set r v) (λ b. b)))
    done (Return e) = ticked _ (returning inputs e)

    all_done : (row : Statements) → Resumes (all_do inputs row)
    all_done Nothing = gives None
    all_done (Then s row) = followed _ _ (done s) (λ f. unless f _ (all_done row))

  given : (gives_it : Bool) (v : ℤ) → Resumes (gives_result gives_it v)
  given false v = gives v
  given true v = asked_on (asks.Result v) _ (λ b. b) (λ _. gives v)

  finished : (gives_it : Bool) (f : Flow) → Resumes (finishes gives_it f)
  finished gives_it f = asked_on asks.Sync _ (λ b. b) (λ _. given gives_it (returned f))

  written : (n : ℕ) (vs : List ℤ) → Resumes (writes_words n vs)
  written n [] = gives tt
  written n (v ∷ vs) = asked_on (asks.Write (places.Local 0 n) v) _ (λ b. b) (λ _. written (suc n) vs)

  created : (place : ℕ → ReducerPlace) (n : ℕ) (ks : List MonoidKind) → Resumes (creates place n ks)
  created place n [] = gives tt
  created place n (k ∷ ks) = asked_on (asks.Create (record { place = place n; kind = k })) _ (λ b. b) (λ _. created place (suc n) ks)

  called : (f : Function) (words : List ℤ) (gives_it : Bool) → Resumes (function_gives inputs f words gives_it)
  called f words gives_it = followed _ _ (written 0 words) (λ _. followed _ _ (created (reducers.Own 0) 0 f.reducers) (λ _. followed _ _ (all_done f.body) (finished gives_it)))

  halved : (body : Statements) (l : LoopPart) → Resumes (loop_gives inputs body l)
  halved body l =
      either (int_eq (l.high -ℤ l.low) (pos 1)) _ _ (asked_on (asks.Write (places.Local 0 0) l.low) _ (λ b. b) (λ _. followed _ _ (all_done body) (finished false)))
      (followed _ _ (invoking Spawn (part l l.low (middle l.low l.high))) (λ _. followed _ _ (invoking Call (part l (middle l.low l.high) l.high)) (finished false)))

  framed : (p : Source) (callee : Callee) → Resumes (frame_gives p inputs callee)
  framed p callees.Root = followed _ _ (created reducers.Global 0 p.reducers) (λ _. called (main_of p) [] false)
  framed p (callees.Function c) = called (function_at p c.function) c.words (is_some c.result)
  framed p (callees.Loop l) = let body = loop_at p l.number in halved body.body l

start_of : (k : Ask) (how : Invocation) (child : Callee) → k ≡ asks.Invoke how child → IsStart k
start_of k how child is = subst IsStart (sym is) tt

at_end : (z : ℤ) (x y : Got ℤ) (how : Invocation) (child : Callee) → Next z x y → (ended x).ask ≡ asks.Invoke how child → (ended y).ask ≡ asks.Resume
at_end z (Gives v a l) y how child h is = absurd (let no : asks.End v ≡ asks.Invoke how child = is in cc no)
at_end z (Asks k) y how child h is = ap (λ y. (ended y).ask) (h (start_of k.ask how child is))

resume_asked : (p : Source) (inputs : List ℤ) (callee : Callee) (answers : List ℤ) (answer : ℤ) (ticks : ℕ) (how : Invocation) (child : Callee)
    → (frame_asks p inputs callee answers ticks).ask ≡ asks.Invoke how child → (frame_asks p inputs callee (answers ++ answer ∷ []) ticks).ask ≡ asks.Resume
resume_asked p inputs callee [] answer ticks how child is = absurd (let no : asks.Begin ≡ asks.Invoke how child = is in cc no)
resume_asked p inputs callee (a ∷ answers) answer ticks how child is =
    at_end answer (frame_gives p inputs callee answers ticks) (frame_gives p inputs callee (answers ++ answer ∷ []) ticks) how child ((framed inputs p callee).next answer answers ticks) is

-- ---- by names

goes_on_with : (b : Bool) (a a' : runs.Ask FrameEnv) → cond b None (Some a) ≡ Some a' → (b ≡ false) × (a ≡ a')
goes_on_with true a a' is = absurd (cc is)
goes_on_with false a a' is = (refl, cc is)

starts_named : (p : Source) (w : FrameEnv) (n : ℕ) (k : Ask) (how : Invocation) (child : FrameEnv) → named_ask p w n k ≡ runs.Invoke how child → (i : Invocation) × (c : Callee) × (k ≡ asks.Invoke i c)
starts_named p w n (asks.Invoke i c) how child is = (i, c, refl)
starts_named p w n k how child is = absurd (cc is)

resumes_named : (p : Source) (w : FrameEnv) (n : ℕ) (b : Bool) (k : Ask) → b ≡ false → k ≡ asks.Resume → cond b None (Some (named_ask p w n k)) ≡ Some (runs.Pass runs.Resume)
resumes_named p w n true k going is = absurd (cc going)
resumes_named p w n false k going is = ap (λ (j : Ask). Some (named_ask p w n j)) is

resume_next : (p : Source) (inputs : List ℤ) (w : FrameEnv) (past : List (runs.Deed FrameEnv)) (how : Invocation) (child : FrameEnv)
    → next p inputs w past ≡ Some (runs.Invoke how child) → next p inputs w (past ++ runs.Invokes how child ∷ []) ≡ Some (runs.Pass runs.Resume)
resume_next p inputs w past how child is =
    let asks_now : Ask = (asked_after p inputs w past).ask in
    let now = goes_on_with (has_ended past) (named_ask p w (suc (started past)) asks_now) (runs.Invoke how child) is in
    let start = starts_named p w (suc (started past)) asks_now how child now.1 in
    let more : List (runs.Deed FrameEnv) = past ++ runs.Invokes how child ∷ [] in
    let resumes : (asked_after p inputs w more).ask ≡ asks.Resume =
    ap (λ l. (frame_asks p inputs w.callee l MAX_TICKS).ask) (answers_more past (runs.Invokes how child)) ∙ resume_asked p inputs w.callee (answers_of past) (pos 0) MAX_TICKS start.0 start.1 start.2 in
    resumes_named p w (suc (started more)) (has_ended more) (asked_after p inputs w more).ask (ended_more past (runs.Invokes how child) now.0) resumes

pub frames_resume : FramesResume
frames_resume = record { asked = resume_asked; next_is = resume_next }
