-- The requests of a frame's behaviour come in order.
use Rattle.std.proofs.Common.{◌≡◌, ℕ, zero, suc, ◌+◌, ◌-◌, ◌<◌, ◌≤◌, ◌⊎◌, ⊎_elim, inl, inr, ℤ, pos, ◌+ℤ◌, ◌-ℤ◌, neg_ℤ, int_lt, int_eq, Bool, true, false, List, [], ◌∷◌, ◌++◌, Option, Some, None, is_some, if◌then◌else◌, refl, sym, ap, ◌∙◌, subst, append-nil, arith}
use Rattle.std.proofs.lemmas.Bool.{cases_lt}
use Rattle.cilk_types.specs.Input.{input_at, input_count}
use Rattle.cilk_types.specs.Word.{word_of}
use Rattle.cilk_types.specs.declared.fault.Fault.{Fault}
use Rattle.cilk_types.specs.declared.fault.Fault.TheVariants.{DivisionByZero, IndexOutside, InputOutside, TooManyEvents}
use Rattle.cilk_monoid.specs.declared.kind.MonoidKind.{MonoidKind}
use Rattle.cilk_program.specs.declared.ask.Ask.{Ask}
use Rattle.cilk_program.specs.declared.ask.Ask.TheVariants as asks
use Rattle.cilk_program.specs.declared.ask.Callee.{Callee}
use Rattle.cilk_program.specs.declared.ask.Callee.TheVariants as callees
use Rattle.cilk_types.specs.declared.invocation.Invocation.{Invocation}
use Rattle.cilk_types.specs.declared.invocation.Invocation.TheVariants.{Call, Spawn}
use Rattle.cilk_program.specs.declared.syntax.Place.TheVariants as places
use Rattle.cilk_program.specs.declared.syntax.ReducerPlace.{ReducerPlace}
use Rattle.cilk_program.specs.declared.syntax.ReducerPlace.TheVariants as reducers
use Rattle.cilk_program.specs.Operators.{is_zero, truth, truth_of, apply, change}
use Rattle.cilk_program.specs.Syntax.{Expression, Number, Variable, Element, Negate, Not, Binary, And, Or, Value, Input, InputCount, Target, ToVariable, ToElement, Invoke, Declaration, Zero, Opening, Invoking, Statement, Empty, Block, Declare, Assign, Change, Step, Invokes, Sync, If, IfElse, For, ParallelFor, Print, Update, Set, Return, Statements, Nothing, Then, Function, Source, function_at, main_of, loop_at, element, place_of}
use Rattle.cilk_program.specs.Behaviour.{OpenAsk, asks_for, Got, Gives, Asks, ◌>>=◌, tick, ask, tick_gives, or_fault, chosen, value, values, index_of, Flow, unless_returned, invokes, invokes_function, declares, all_declare, condition, turns, parallel_turns, return_value, does, all_do, returned, gives_result, finishes, writes_words, creates, function_gives, middle, part, frame_gives, ended, frame_asks}
use Rattle.cilk_program.specs.Order.{writings, creations, opening_asks, Stage, Fresh, Due, Going, Resuming, Synced, Closing, opened, goes_on, closes, follows}

-- the rest of a frame: its requests after these answers, with n ticks from its beginning on
abbrev pub Rest : Type 0
Rest = List ℤ → ℕ → OpenAsk

-- the rest after one more answer
abbrev pub after : ℤ → Rest → Rest
after a c answers start = c (a ∷ answers) start

-- a fault may come at any time
abbrev pub unless_fault : Ask → Type 0 → Type 0
unless_fault asks.Begin P = P
unless_fault (asks.Read x) P = P
unless_fault (asks.Write x v) P = P
unless_fault (asks.Create r) P = P
unless_fault (asks.Update r v) P = P
unless_fault (asks.Set r v) P = P
unless_fault (asks.Value r) P = P
unless_fault (asks.Print v) P = P
unless_fault (asks.Invoke how callee) P = P
unless_fault asks.Resume P = P
unless_fault asks.Sync P = P
unless_fault (asks.Result v) P = P
unless_fault (asks.End v) P = P
unless_fault (asks.Fault f) P = Unit {0}

may_fault : (k : Ask) (P : Type 0) → P → unless_fault k P
may_fault asks.Begin P h = h
may_fault (asks.Read x) P h = h
may_fault (asks.Write x v) P h = h
may_fault (asks.Create r) P h = h
may_fault (asks.Update r v) P h = h
may_fault (asks.Set r v) P h = h
may_fault (asks.Value r) P h = h
may_fault (asks.Print v) P h = h
may_fault (asks.Invoke how callee) P h = h
may_fault asks.Resume P h = h
may_fault asks.Sync P h = h
may_fault (asks.Result v) P h = h
may_fault (asks.End v) P h = h
may_fault (asks.Fault f) P h = tt

-- a request that may come among statements may come right after a sync
among_closes : (k : Ask) (go : Stage → Type 0) → goes_on false k go → closes k go
among_closes asks.Begin go h = h
among_closes (asks.Read x) go h = h
among_closes (asks.Write x v) go h = h
among_closes (asks.Create r) go h = h
among_closes (asks.Update r v) go h = h
among_closes (asks.Set r v) go h = h
among_closes (asks.Value r) go h = h
among_closes (asks.Print v) go h = h
among_closes (asks.Invoke Call callee) go h = h
among_closes (asks.Invoke Spawn callee) go h = h
among_closes asks.Resume go h = h
among_closes asks.Sync go h = h
among_closes (asks.Result v) go h = absurd h
among_closes (asks.End v) go h = absurd h
among_closes (asks.Fault f) go h = h

unless_map : (k : Ask) (P Q : Type 0) → (P → Q) → unless_fault k P → unless_fault k Q
unless_map asks.Begin P Q f h = f h
unless_map (asks.Read x) P Q f h = f h
unless_map (asks.Write x v) P Q f h = f h
unless_map (asks.Create r) P Q f h = f h
unless_map (asks.Update r v) P Q f h = f h
unless_map (asks.Set r v) P Q f h = f h
unless_map (asks.Value r) P Q f h = f h
unless_map (asks.Print v) P Q f h = f h
unless_map (asks.Invoke how callee) P Q f h = f h
unless_map asks.Resume P Q f h = f h
unless_map asks.Sync P Q f h = f h
unless_map (asks.Result v) P Q f h = f h
unless_map (asks.End v) P Q f h = f h
unless_map (asks.Fault g) P Q f h = tt

-- one part after the other
in_turn : {A B : Type 0} (x : Got A) (f : A → List ℤ → ℕ → Got B) (g : B → List ℤ → ℕ → Got ℤ) → ((x >>= f) >>= g) ≡ (x >>= λ v a l. f v a l >>= g)
in_turn (Gives v a l) f g = refl
in_turn (Asks k) f g = refl

-- its result, or a fault
abbrev IsFault : OpenAsk → Type 0
IsFault q = (f : Fault) × (q.ask ≡ asks.Fault f)

abbrev Faults : {A : Type 0} → Got A → Type 0
Faults (Gives v answers left) = ⊥
Faults (Asks k) = IsFault k

abbrev Nearly : {A : Type 0} → Got A → Got A → Type 0
Nearly x y = (x ≡ y) ⊎ Faults x

then_or : {A B : Type 0} (x : Got A) (f g : A → List ℤ → ℕ → Got B) → ((v : A) (a : List ℤ) (l : ℕ) → Nearly (f v a l) (g v a l)) → Nearly (x >>= f) (x >>= g)
then_or (Gives v a l) f g h = h v a l
then_or (Asks k) f g h = inl refl

if_or : {A : Type 0} (t : Bool) (x y y' : Got A) → Nearly y y' → Nearly (if t then x else y) (if t then x else y')
if_or true x y y' h = inl refl
if_or false x y y' h = h

unless_or : (f : Flow) (x y : List ℤ → ℕ → Got Flow) (a : List ℤ) (l : ℕ) → Nearly (x a l) (y a l) → Nearly (unless_returned f x a l) (unless_returned f y a l)
unless_or None x y a l h = h
unless_or (Some v) x y a l h = inl refl

-- a loop with fewer turns does the same, or meets a fault
turns_or : (n m : ℕ) (test : List ℤ → ℕ → Got ℤ) (body step : List ℤ → ℕ → Got Flow) → n ≤ m → (a : List ℤ) (l : ℕ) → Nearly (turns n test body step a l) (turns m test body step a l)
turns_or zero m test body step less a l = inr (TooManyEvents, refl)
turns_or (suc n) zero test body step less a l = absurd (omega (arith, less))
turns_or (suc n) (suc m) test body step less a l =
    let stepped : ℕ → List ℤ → ℕ → Got Flow = λ n answers left. step answers left >>= λ g. unless_returned g (turns n test body step) in
    let turned : ℕ → ℤ → List ℤ → ℕ → Got Flow = λ n v answers left. chosen v (body answers left >>= λ f. unless_returned f (stepped n)) (Gives None answers left) in
    then_or (test a l) (turned n) (turned m) (λ v a l. if_or (is_zero v) (Gives None a l) (body a l >>= λ f. unless_returned f (stepped n)) (body a l >>= λ f. unless_returned f (stepped m))
    (then_or (body a l) (λ f. unless_returned f (stepped n)) (λ f. unless_returned f (stepped m)) (λ f a l. unless_or f (stepped n) (stepped m) a l
    (then_or (step a l) (λ g. unless_returned g (turns n test body step)) (λ g. unless_returned g (turns m test body step)) (λ g a l.
    unless_or g (turns n test body step) (turns m test body step) a l (turns_or n m test body step (omega (arith, less)) a l))))))

ended_or : {A : Type 0} (x y : Got A) (g : A → List ℤ → ℕ → Got ℤ) → Nearly x y → (ended (x >>= g) ≡ ended (y >>= g)) ⊎ IsFault (ended (x >>= g))
ended_or x y g (inl e) = inl (ap (λ z. ended (z >>= g)) e)
ended_or (Gives v a l) y g (inr h) = absurd h
ended_or (Asks k) y g (inr h) = inr h

-- a request after which the frame continues among its statements
abbrev pub IsPlain : Ask → Type 0
IsPlain (asks.Read x) = Unit {0}
IsPlain (asks.Write x v) = Unit {0}
IsPlain (asks.Update r v) = Unit {0}
IsPlain (asks.Set r v) = Unit {0}
IsPlain (asks.Value r) = Unit {0}
IsPlain (asks.Print v) = Unit {0}
IsPlain k = ⊥

plain_goes : (k : Ask) → IsPlain k → (w : Bool) (go : Stage → Type 0) → go (Going w) → goes_on w k go
plain_goes (asks.Read x) plain w go h = h
plain_goes (asks.Write x v) plain w go h = h
plain_goes (asks.Update r v) plain w go h = h
plain_goes (asks.Set r v) plain w go h = h
plain_goes (asks.Value r) plain w go h = h
plain_goes (asks.Print v) plain w go h = h
plain_goes asks.Begin plain w go h = absurd plain
plain_goes (asks.Create r) plain w go h = absurd plain
plain_goes (asks.Invoke how callee) plain w go h = absurd plain
plain_goes asks.Resume plain w go h = absurd plain
plain_goes asks.Sync plain w go h = absurd plain
plain_goes (asks.Result v) plain w go h = absurd plain
plain_goes (asks.End v) plain w go h = absurd plain
plain_goes (asks.Fault f) plain w go h = absurd plain

-- Frames that never had more than `top` ticks.
module _ (top : ℕ) where
  -- the next n requests come in order
  abbrev pub IsLegal : Stage → Rest → ℕ → Type 0
  IsLegal s c zero = Unit {0}
  IsLegal s c (suc n) = (start : ℕ) → start ≤ top → unless_fault (c [] start).ask (follows s (c [] start).ask (λ s'. (a : ℤ) → IsLegal s' (after a c) n))

  -- all requests do
  abbrev pub Fine : Stage → Rest → Type 0
  Fine s c = (n : ℕ) → IsLegal s c n

  -- After `took` ticks of its own, a frame has this rest, unless it has met a fault. With fewer
  -- ticks it has met one.
  record Stands (c : Rest) (took : ℕ) (x : List ℤ → ℕ → Got ℤ) : Type 0 where
    on : (answers : List ℤ) (start left : ℕ) → start ≤ top → start ≡ took + left → (c answers start ≡ ended (x answers left)) ⊎ IsFault (c answers start)
    short : (answers : List ℤ) (start : ℕ) → start ≤ top → start < took → IsFault (c answers start)

  -- the same in another form
  retold : (c : Rest) (took : ℕ) (x y : List ℤ → ℕ → Got ℤ) → ((answers : List ℤ) (left : ℕ) → ended (x answers left) ≡ ended (y answers left)) → Stands c took x → Stands c took y
  retold c took x y same h = record { on = λ answers start left low e. ⊎_elim (λ q. inl (q ∙ same answers left)) inr (h.on answers start left low e); short = h.short }

  -- the same up to faults
  nearly : (c : Rest) (took : ℕ) (x y : List ℤ → ℕ → Got ℤ) → ((answers : List ℤ) (left : ℕ) → left ≤ top → (ended (x answers left) ≡ ended (y answers left)) ⊎ IsFault (ended (x answers left))) → Stands c took x → Stands c took y
  nearly c took x y same h = record {
    on = λ answers start left low e.
        ⊎_elim (λ q. ⊎_elim (λ r. inl (q ∙ r)) (λ bad. inr (subst IsFault (sym q) bad)) (same answers left (omega (arith, low, e)))) inr (h.on answers start left low e);
    short = h.short;
  }

  -- one more tick was used
  ticked : (c : Rest) (took : ℕ) (x : List ℤ → ℕ → Got ℤ) → Stands c took (λ a l. tick a l >>= λ _. x) → Stands c (suc took) x
  ticked c took x h = record {
    on = λ answers start left low e. let f : start ≡ took + suc left = omega (arith, e) in h.on answers start (suc left) low f;
    short = λ answers start low less.
        ⊎_elim (λ below. h.short answers start low below)
        (λ above. let e : start ≡ took + 0 = omega (arith, less, above) in ⊎_elim (λ q. subst IsFault (sym q) (TooManyEvents, refl)) (λ bad. bad) (h.on answers start 0 low e)) (cases_lt start took);
  }

  -- a request was answered
  answered : (c : Rest) (took : ℕ) (k : Ask) (f : ℤ → List ℤ → ℕ → Got ℤ) (a : ℤ) → Stands c took (λ a l. ask k a l >>= f) → Stands (after a c) took (f a)
  answered c took k f a h = record { on = λ answers start left low e. h.on (a ∷ answers) start left low e; short = λ answers start low less. h.short (a ∷ answers) start low less }

  -- the next request is this one, or a fault
  now : (c : Rest) (took : ℕ) (x : List ℤ → ℕ → Got ℤ) → Stands c took x → (start : ℕ) → start ≤ top → ((left : ℕ) × (c [] start ≡ ended (x [] left))) ⊎ IsFault (c [] start)
  now c took x h start low =
      ⊎_elim (λ below. inr (h.short [] start low below))
      (λ above. let e : start ≡ took + (start - took) = omega (arith, above) in ⊎_elim (λ q. inl (start - took, q)) inr (h.on [] start (start - took) low e)) (cases_lt start took)

  at_fault : (q : OpenAsk) (P : Ask → Type 0) → IsFault q → unless_fault q.ask (P q.ask)
  at_fault q P (f, e) = subst (λ k. unless_fault k (P k)) (sym e) tt

  -- a fault comes, whatever the ticks
  faulty : (c : Rest) (took : ℕ) (f : Fault) (rest : ℕ → ℕ) (s : Stage) → Stands c took (λ a l. Asks (asks_for (asks.Fault f) (rest l))) → Fine s c
  faulty c took f rest s h zero = tt
  faulty c took f rest s h (suc n) = λ start low.
      at_fault (c [] start) (λ k. follows s k (λ s'. (a : ℤ) → IsLegal s' (after a c) n))
      (⊎_elim (λ there. subst IsFault (sym there.1) (f, refl)) (λ bad. bad) (now c took (λ a l. Asks (asks_for (asks.Fault f) (rest l))) h start low))

  -- a request that may come next
  asks_next : (c : Rest) (took : ℕ) (k : Ask) (f : ℤ → List ℤ → ℕ → Got ℤ) (s : Stage) → Stands c took (λ a l. ask k a l >>= f) → ((n : ℕ) → follows s k (λ s'. (a : ℤ) → IsLegal s' (after a c) n)) → Fine s c
  asks_next c took k f s h next zero = tt
  asks_next c took k f s h next (suc n) = λ start low.
      ⊎_elim (λ there. subst (λ (q : OpenAsk). unless_fault q.ask (follows s q.ask (λ s'. (a : ℤ) → IsLegal s' (after a c) n))) (sym there.1) (may_fault k (follows s k (λ s'. (a : ℤ) → IsLegal s' (after a c) n)) (next n)))
      (λ bad. at_fault (c [] start) (λ k. follows s k (λ s'. (a : ℤ) → IsLegal s' (after a c) n)) bad) (now c took (λ a l. ask k a l >>= f) h start low)

  synced : (c : Rest) (n : ℕ) → IsLegal (Going false) c n → IsLegal Synced c n
  synced c zero h = tt
  synced c (suc n) h = λ start low. unless_map (c [] start).ask (goes_on false (c [] start).ask (λ s'. (a : ℤ) → IsLegal s' (after a c) n)) _ (among_closes (c [] start).ask (λ s'. (a : ℤ) → IsLegal s' (after a c) n)) (h start low)

  -- its requests among statements are in order, if the following ones are
  abbrev Part : {A : Type 0} → (List ℤ → ℕ → Got A) → Type 0
  Part {A} x =
      (g : A → List ℤ → ℕ → Got ℤ) → ((v : A) (w : Bool) (c : Rest) (took : ℕ) → Stands c took (g v) → Fine (Going w) c)
      → (w : Bool) (c : Rest) (took : ℕ) → Stands c took (λ a l. x a l >>= g) → Fine (Going w) c

  then_part : {A B : Type 0} (x : List ℤ → ℕ → Got A) (f : A → List ℤ → ℕ → Got B) → Part x → ((v : A) → Part (f v)) → Part (λ a l. x a l >>= f)
  then_part x f px pf g next w c took h =
      px (λ v a l. f v a l >>= g) (λ v w c took h. pf v g next w c took h) w c took
      (retold c took (λ a l. (x a l >>= f) >>= g) (λ a l. x a l >>= λ v a l. f v a l >>= g) (λ answers left. ap ended (in_turn (x answers left) f g)) h)

  gives_part : {A : Type 0} (v : A) → Part (Gives v)
  gives_part v g next w c took h = next v w c took h

  tick_part : Part tick
  tick_part g next w c took h = next tt w c (suc took) (ticked c took (g tt) h)

  fault_part : {A : Type 0} (f : Fault) → Part {A = A} (λ a l. Asks (asks_for (asks.Fault f) l))
  fault_part f g next w c took h = faulty c took f (λ l. l) (Going w) h

  checked_part : {A : Type 0} (f : Fault) (o : Option A) → Part (or_fault f o)
  checked_part f None = fault_part f
  checked_part f (Some v) = gives_part v

  ticks_part : (v : ℤ) → Part (tick_gives v)
  ticks_part v = then_part tick (λ _. Gives v) tick_part (λ _. gives_part v)

  plain_part : (k : Ask) → IsPlain k → Part (ask k)
  plain_part k plain g next w c took h = asks_next c took k g (Going w) h (λ n. plain_goes k plain w (λ s. (a : ℤ) → IsLegal s (after a c) n) (λ a. next a w (after a c) took (answered c took k g a h) n))

  sync_part : Part (ask asks.Sync)
  sync_part g next w c took h = asks_next c took asks.Sync g (Going w) h (λ n a. synced (after a c) n (next a false (after a c) took (answered c took asks.Sync g a h) n))

  invoke_next : (how : Invocation) (callee : Callee) (w : Bool) (go : Stage → Type 0) → ((w : Bool) → go (Resuming w)) → goes_on w (asks.Invoke how callee) go
  invoke_next Call callee w go h = h w
  invoke_next Spawn callee w go h = h true

  invokes_part : (how : Invocation) (callee : Callee) → Part (invokes how callee)
  invokes_part how callee g next w c took h =
      let later : ℤ → List ℤ → ℕ → Got ℤ = λ _ a l. ask asks.Resume a l >>= λ _. g None in
      let start : Stands c took (λ a l. ask (asks.Invoke how callee) a l >>= later) =
      retold c took (λ a l. invokes how callee a l >>= g) (λ a l. ask (asks.Invoke how callee) a l >>= later) (λ answers left. ap ended (two (ask (asks.Invoke how callee) answers left) g)) h in
      asks_next c took (asks.Invoke how callee) later (Going w) start (λ n. invoke_next how callee w (λ s. (a : ℤ) → IsLegal s (after a c) n) (λ w a.
      asks_next (after a c) took asks.Resume (λ _. g None) (Resuming w) (answered c took (asks.Invoke how callee) later a start) (λ n. (
        refl,
        λ b.
            next None w (after b (after a c)) took (answered (after a c) took asks.Resume (λ _. g None) b (answered c took (asks.Invoke how callee) later a start)) n,
      )) n))
    where
      resumed : (x : Got ℤ) (g : Flow → List ℤ → ℕ → Got ℤ) → ((x >>= λ _. Gives None) >>= g) ≡ (x >>= λ _. g None)
      resumed (Gives v a l) g = refl
      resumed (Asks k) g = refl

      two : (x : Got ℤ) (g : Flow → List ℤ → ℕ → Got ℤ) → ((x >>= λ _ answers left. ask asks.Resume answers left >>= λ _. Gives None) >>= g) ≡ (x >>= λ _ a l. ask asks.Resume a l >>= λ _. g None)
      two (Gives v a l) g = resumed (ask asks.Resume a l) g
      two (Asks k) g = refl

  if_part : {A : Type 0} (t : Bool) (x y : List ℤ → ℕ → Got A) → Part x → Part y → Part (λ a l. if t then x a l else y a l)
  if_part true x y px py = px
  if_part false x y px py = py

  module _ (inputs : List ℤ) where
    value_part : (e : Expression) → Part (value inputs e)
    value_part (Number n) = ticks_part n
    value_part (Variable x) = then_part tick (λ _. ask (asks.Read x)) tick_part (λ _. plain_part (asks.Read x) tt)
    value_part (Element array e) =
        then_part (value inputs e) (λ i answers left. or_fault IndexOutside (element array i) answers left >>= λ x answers left. tick answers left >>= λ _. ask (asks.Read x)) (value_part e) (λ i.
        then_part (or_fault IndexOutside (element array i)) (λ x answers left. tick answers left >>= λ _. ask (asks.Read x)) (checked_part IndexOutside (element array i)) (λ x.
        then_part tick (λ _. ask (asks.Read x)) tick_part (λ _. plain_part (asks.Read x) tt)))
    value_part (Negate e) = then_part (value inputs e) (λ x. tick_gives (word_of (neg_ℤ x))) (value_part e) (λ x. ticks_part (word_of (neg_ℤ x)))
    value_part (Not e) = then_part (value inputs e) (λ x. tick_gives (truth_of (is_zero x))) (value_part e) (λ x. ticks_part (truth_of (is_zero x)))
    value_part (Binary op d e) =
        then_part (value inputs d) (λ x answers left. value inputs e answers left >>= λ y answers left. or_fault DivisionByZero (apply op x y) answers left >>= tick_gives) (value_part d) (λ x.
        then_part (value inputs e) (λ y answers left. or_fault DivisionByZero (apply op x y) answers left >>= tick_gives) (value_part e) (λ y.
        then_part (or_fault DivisionByZero (apply op x y)) tick_gives (checked_part DivisionByZero (apply op x y)) ticks_part))
    value_part (And d e) =
        then_part (value inputs d) (λ x answers left. chosen x (value inputs e answers left >>= λ y. tick_gives (truth y)) (tick_gives (pos 0) answers left)) (value_part d) (λ x.
        if_part (is_zero x) (tick_gives (pos 0)) (λ answers left. value inputs e answers left >>= λ y. tick_gives (truth y)) (ticks_part (pos 0))
        (then_part (value inputs e) (λ y. tick_gives (truth y)) (value_part e) (λ y. ticks_part (truth y))))
    value_part (Or d e) =
        then_part (value inputs d) (λ x answers left. chosen x (tick_gives (pos 1) answers left) (value inputs e answers left >>= λ y. tick_gives (truth y))) (value_part d) (λ x.
        if_part (is_zero x) (λ answers left. value inputs e answers left >>= λ y. tick_gives (truth y)) (tick_gives (pos 1))
        (then_part (value inputs e) (λ y. tick_gives (truth y)) (value_part e) (λ y. ticks_part (truth y))) (ticks_part (pos 1)))
    value_part (Value r) = then_part tick (λ _. ask (asks.Value r)) tick_part (λ _. plain_part (asks.Value r) tt)
    value_part (Input e) =
        then_part (value inputs e) (λ x answers left. or_fault InputOutside (input_at inputs x) answers left >>= tick_gives) (value_part e) (λ x.
        then_part (or_fault InputOutside (input_at inputs x)) tick_gives (checked_part InputOutside (input_at inputs x)) ticks_part)
    value_part InputCount = ticks_part (input_count inputs)

    values_part : (es : List Expression) → Part (values inputs es)
    values_part [] = gives_part []
    values_part (e ∷ es) =
        then_part (value inputs e) (λ v answers left. values inputs es answers left >>= λ vs. Gives (v ∷ vs)) (value_part e) (λ v.
        then_part (values inputs es) (λ vs. Gives (v ∷ vs)) (values_part es) (λ vs. gives_part (v ∷ vs)))

    index_part : (t : Target) → Part (index_of inputs t)
    index_part (ToVariable x) = gives_part (pos 0)
    index_part (ToElement array e) = value_part e

    unless_part : (f : Flow) (go : List ℤ → ℕ → Got Flow) → Part go → Part (unless_returned f go)
    unless_part None go h = h
    unless_part (Some v) go h = gives_part (Some v)

    function_part : (i : Invoke) → Part (invokes_function inputs i)
    function_part i =
        then_part (values inputs i.arguments) (λ vs. invokes i.how (callees.Function (record { function = i.function; words = vs; reducers = i.reducers; result = i.result }))) (values_part i.arguments) (λ vs.
        invokes_part i.how (callees.Function (record { function = i.function; words = vs; reducers = i.reducers; result = i.result })))

    write_part : (x : _) (v : ℤ) → Part {A = Flow} (λ a l. ask (asks.Write x v) a l >>= λ _. Gives None)
    write_part x v = then_part (ask (asks.Write x v)) (λ _. Gives None) (plain_part (asks.Write x v) tt) (λ _. gives_part None)

    declares_part : (d : Declaration) → Part (declares inputs d)
    declares_part (Zero n) = write_part (places.Local 0 n) (pos 0)
    declares_part (Opening n e) = then_part (value inputs e) (λ v answers left. ask (asks.Write (places.Local 0 n) v) answers left >>= λ _. Gives None) (value_part e) (λ v. write_part (places.Local 0 n) v)
    declares_part (Invoking i) = function_part i

    all_declare_part : (ds : List Declaration) → Part (all_declare inputs ds)
    all_declare_part [] = gives_part None
    all_declare_part (d ∷ ds) = then_part (declares inputs d) (λ _. all_declare inputs ds) (declares_part d) (λ _. all_declare_part ds)

    condition_part : (o : Option Expression) → Part (condition inputs o)
    condition_part None = gives_part (pos 1)
    condition_part (Some e) = value_part e

    turns_part : (n : ℕ) (test : List ℤ → ℕ → Got ℤ) (body step : List ℤ → ℕ → Got Flow) → Part test → Part body → Part step → Part (turns n test body step)
    turns_part zero test body step pt pb ps = λ g next w c took h. faulty c took TooManyEvents (λ l. 0) (Going w) h
    turns_part (suc n) test body step pt pb ps =
        let again : Flow → List ℤ → ℕ → Got Flow = λ g. unless_returned g (turns n test body step) in
        let stepped : List ℤ → ℕ → Got Flow = λ answers left. step answers left >>= again in
        then_part test (λ v answers left. chosen v (body answers left >>= λ f. unless_returned f stepped) (Gives None answers left)) pt (λ v.
        if_part (is_zero v) (Gives None) (λ answers left. body answers left >>= λ f. unless_returned f stepped) (gives_part None)
        (then_part body (λ f. unless_returned f stepped) pb (λ f. unless_part f stepped (then_part step again ps (λ g. unless_part g (turns n test body step) (turns_part n test body step pt pb ps))))))

    -- as many turns as there are ticks left
    for_part : (test : List ℤ → ℕ → Got ℤ) (body step : List ℤ → ℕ → Got Flow) → Part test → Part body → Part step → Part (λ a l. turns (suc l) test body step a l)
    for_part test body step pt pb ps g next w c took h =
        turns_part (suc top) test body step pt pb ps g next w c took
        (nearly c took (λ a l. turns (suc l) test body step a l >>= g) (λ a l. turns (suc top) test body step a l >>= g) (λ answers left low.
        ended_or (turns (suc left) test body step answers left) (turns (suc top) test body step answers left) g (turns_or (suc left) (suc top) test body step (omega (arith, low)) answers left)) h)

    parallel_part : (n : ℕ) (low high : ℤ) → Part (parallel_turns n low high)
    parallel_part n low high =
        if_part (int_lt low high) (invokes Call (callees.Loop (record { number = n; up = 0; low = low; high = high }))) (Gives None)
        (invokes_part Call (callees.Loop (record { number = n; up = 0; low = low; high = high }))) (gives_part None)

    return_part : (o : Option Expression) → Part (return_value inputs o)
    return_part None = gives_part (Some (pos 0))
    return_part (Some e) = then_part (value inputs e) (λ v. Gives (Some v)) (value_part e) (λ v. gives_part (Some v))

    mutual
      does_part : (s : Statement) → Part (does inputs s)
      does_part Empty = then_part tick _ tick_part (λ _. gives_part None)
      does_part (Block row) = then_part tick _ tick_part (λ _. all_part row)
      does_part (Declare ds) = then_part tick _ tick_part (λ _. all_declare_part ds)
      does_part (Assign t e) =
          then_part tick _ tick_part (λ _. then_part (index_of inputs t) _ (index_part t) (λ i. then_part (value inputs e) _ (value_part e) (λ v.
          then_part (or_fault IndexOutside (place_of t i)) _ (checked_part IndexOutside (place_of t i)) (λ x. write_part x v))))
      does_part (Change t op e) =
          then_part tick _ tick_part (λ _. then_part (index_of inputs t) _ (index_part t) (λ i. then_part (or_fault IndexOutside (place_of t i)) _ (checked_part IndexOutside (place_of t i)) (λ x.
          then_part (ask (asks.Read x)) _ (plain_part (asks.Read x) tt) (λ old. then_part (value inputs e) _ (value_part e) (λ v. write_part x (change op old v))))))
      does_part (Step t n) =
          then_part tick _ tick_part (λ _. then_part (index_of inputs t) _ (index_part t) (λ i. then_part (or_fault IndexOutside (place_of t i)) _ (checked_part IndexOutside (place_of t i)) (λ x.
          then_part (ask (asks.Read x)) _ (plain_part (asks.Read x) tt) (λ old. write_part x (word_of (old +ℤ n))))))
      does_part (Invokes i) = then_part tick _ tick_part (λ _. function_part i)
      does_part Sync = then_part tick _ tick_part (λ _. then_part (ask asks.Sync) _ sync_part (λ _. gives_part None))
      does_part (If e s) = then_part tick _ tick_part (λ _. then_part (value inputs e) _ (value_part e) (λ v. if_part (is_zero v) (Gives None) (does inputs s) (gives_part None) (does_part s)))
      does_part (IfElse e s other) =
          then_part tick _ tick_part (λ _. then_part (value inputs e) _ (value_part e) (λ v. if_part (is_zero v) (does inputs other) (does inputs s) (does_part other) (does_part s)))
      does_part (For row test step s) =
          then_part tick _ tick_part (λ _. then_part (all_do inputs row) _ (all_part row) (λ f.
          unless_part f (λ answers left. turns (suc left) (condition inputs test) (does inputs s) (all_do inputs step) answers left) (for_part (condition inputs test) (does inputs s) (all_do inputs step) (condition_part test) (does_part s) (all_part step))))
      does_part (ParallelFor d e n) =
          then_part tick _ tick_part (λ _. then_part (value inputs d) _ (value_part d) (λ low. then_part (value inputs e) _ (value_part e) (λ high. parallel_part n low high)))
      does_part (Print e) =
          then_part tick _ tick_part (λ _. then_part (value inputs e) _ (value_part e) (λ v. then_part (ask (asks.Print v)) _ (plain_part (asks.Print v) tt) (λ _. gives_part None)))
      does_part (Update r e) =
          then_part tick _ tick_part (λ _. then_part (value inputs e) _ (value_part e) (λ v. then_part (ask (asks.Update r v)) _ (plain_part (asks.Update r v) tt) (λ _. gives_part None)))
      does_part (Set r e) =
          then_part tick _ tick_part (λ _. then_part (value inputs e) _ (value_part e) (λ v. then_part (ask (asks.Set r v)) _ (plain_part (asks.Set r v) tt) (λ _. gives_part None)))
      does_part (Return o) = then_part tick _ tick_part (λ _. return_part o)

      all_part : (row : Statements) → Part (all_do inputs row)
      all_part Nothing = gives_part None
      all_part (Then s row) = then_part (does inputs s) _ (does_part s) (λ f. unless_part f (all_do inputs row) (all_part row))

  -- it ends now
  ends_synced : (v : ℤ) (c : Rest) (took : ℕ) → Stands c took (Gives v) → Fine Synced c
  ends_synced v c took h zero = tt
  ends_synced v c took h (suc n) = λ start low.
      ⊎_elim (λ there. subst (λ (q : OpenAsk). unless_fault q.ask (follows Synced q.ask (λ s'. (a : ℤ) → IsLegal s' (after a c) n))) (sym there.1) tt)
      (λ bad. at_fault (c [] start) (λ k. follows Synced k (λ s'. (a : ℤ) → IsLegal s' (after a c) n)) bad) (now c took (Gives v) h start low)

  ends_closing : (v : ℤ) (c : Rest) (took : ℕ) → Stands c took (Gives v) → Fine Closing c
  ends_closing v c took h zero = tt
  ends_closing v c took h (suc n) = λ start low.
      ⊎_elim (λ there. subst (λ (q : OpenAsk). unless_fault q.ask (follows Closing q.ask (λ s'. (a : ℤ) → IsLegal s' (after a c) n))) (sym there.1) (v, refl))
      (λ bad. at_fault (c [] start) (λ k. follows Closing k (λ s'. (a : ℤ) → IsLegal s' (after a c) n)) bad) (now c took (Gives v) h start low)

  gives_fine : (gives : Bool) (v : ℤ) (c : Rest) (took : ℕ) → Stands c took (gives_result gives v) → Fine Synced c
  gives_fine false v c took h = ends_synced v c took h
  gives_fine true v c took h = asks_next c took (asks.Result v) (λ _. Gives v) Synced h (λ n a. ends_closing v (after a c) took (answered c took (asks.Result v) (λ _. Gives v) a h) n)

  finishes_fine : (gives : Bool) (f : Flow) (w : Bool) (c : Rest) (took : ℕ) → Stands c took (finishes gives f) → Fine (Going w) c
  finishes_fine gives f w c took h =
      asks_next c took asks.Sync (λ _. gives_result gives (returned f)) (Going w) h (λ n a. gives_fine gives (returned f) (after a c) took (answered c took asks.Sync (λ _. gives_result gives (returned f)) a h) n)

  body_fine : (inputs : List ℤ) (row : Statements) (gives : Bool) (c : Rest) (took : ℕ) → Stands c took (λ a l. all_do inputs row a l >>= finishes gives) → Fine (Going false) c
  body_fine inputs row gives c took h = all_part inputs row (finishes gives) (finishes_fine gives) false c took h

  -- words are written, and then the due requests follow
  writes_fine : (n : ℕ) (vs : List ℤ) (due : List Ask) (g : List ℤ → ℕ → Got ℤ) → ((c : Rest) (took : ℕ) → Stands c took g → Fine (opened due) c) → (c : Rest) (took : ℕ) → Stands c took (λ a l. writes_words n vs a l >>= λ _. g)
      → Fine (opened (writings n vs ++ due)) c
  writes_fine n [] due g next c took h = next c took h
  writes_fine n (v ∷ vs) due g next c took h =
      let k = asks.Write (places.Local 0 n) v in
      let later : ℤ → List ℤ → ℕ → Got ℤ = λ _ a l. writes_words (suc n) vs a l >>= λ _. g in
      let start : Stands c took (λ a l. ask k a l >>= later) =
      retold c took (λ a l. writes_words n (v ∷ vs) a l >>= λ _. g) (λ a l. ask k a l >>= later) (λ answers left. ap ended (in_turn (ask k answers left) (λ _. writes_words (suc n) vs) (λ _. g))) h in
      asks_next c took k later (Due k (writings (suc n) vs ++ due)) start (λ m. (refl, λ a. writes_fine (suc n) vs due g next (after a c) took (answered c took k later a start) m))

  creates_fine : (place : ℕ → ReducerPlace) (n : ℕ) (ks : List MonoidKind) (due : List Ask) (g : List ℤ → ℕ → Got ℤ) → ((c : Rest) (took : ℕ) → Stands c took g → Fine (opened due) c) → (c : Rest) (took : ℕ)
      → Stands c took (λ a l. creates place n ks a l >>= λ _. g) → Fine (opened (creations place n ks ++ due)) c
  creates_fine place n [] due g next c took h = next c took h
  creates_fine place n (kind ∷ ks) due g next c took h =
      let k = asks.Create (record { place = place n; kind = kind }) in
      let later : ℤ → List ℤ → ℕ → Got ℤ = λ _ a l. creates place (suc n) ks a l >>= λ _. g in
      let start : Stands c took (λ a l. ask k a l >>= later) =
      retold c took (λ a l. creates place n (kind ∷ ks) a l >>= λ _. g) (λ a l. ask k a l >>= later) (λ answers left. ap ended (in_turn (ask k answers left) (λ _. creates place (suc n) ks) (λ _. g))) h in
      asks_next c took k later (Due k (creations place (suc n) ks ++ due)) start (λ m. (refl, λ a. creates_fine place (suc n) ks due g next (after a c) took (answered c took k later a start) m))

  function_fine : (inputs : List ℤ) (f : Function) (words : List ℤ) (gives : Bool) (c : Rest) (took : ℕ) → Stands c took (function_gives inputs f words gives) → Fine (opened (writings 0 words ++ creations (reducers.Own 0) 0 f.reducers)) c
  function_fine inputs f words gives c took h =
      let body : List ℤ → ℕ → Got ℤ = λ answers left. all_do inputs f.body answers left >>= finishes gives in
      writes_fine 0 words (creations (reducers.Own 0) 0 f.reducers) (λ answers left. creates (reducers.Own 0) 0 f.reducers answers left >>= λ _. body) (λ c took h.
      subst (λ due. Fine (opened due) c) (append-nil (creations (reducers.Own 0) 0 f.reducers)) (creates_fine (reducers.Own 0) 0 f.reducers [] body (λ c took h. body_fine inputs f.body gives c took h) c took h)) c took h

  -- one turn of a loop, or several
  turn_fine : (one : Bool) (inputs : List ℤ) (body : Statements) (x : _) (v : ℤ) (first second : Callee) (c : Rest) (took : ℕ)
      → Stands c took (λ answers left. if one
      then (ask (asks.Write x v) answers left >>= λ _ answers left. all_do inputs body answers left >>= finishes false)
      else (invokes Spawn first answers left >>= λ _ answers left. invokes Call second answers left >>= finishes false))
      → Fine (opened (if one then asks.Write x v ∷ [] else [])) c
  turn_fine true inputs body x v first second c took h =
      let later : ℤ → List ℤ → ℕ → Got ℤ = λ _ answers left. all_do inputs body answers left >>= finishes false in
      asks_next c took (asks.Write x v) later (Due (asks.Write x v) []) h (λ n. (refl, λ a. body_fine inputs body false (after a c) took (answered c took (asks.Write x v) later a h) n))
  turn_fine false inputs body x v first second c took h =
      invokes_part Spawn first (λ _ answers left. invokes Call second answers left >>= finishes false) (λ _ w c took h. invokes_part Call second (finishes false) (finishes_fine false) w c took h) false c took h

  frame_fine : (p : Source) (inputs : List ℤ) (callee : Callee) (c : Rest) (took : ℕ) → Stands c took (frame_gives p inputs callee) → Fine (opened (opening_asks p callee)) c
  frame_fine p inputs callees.Root c took h =
      let f = main_of p in
      creates_fine reducers.Global 0 p.reducers (creations (reducers.Own 0) 0 f.reducers) (function_gives inputs (main_of p) [] false) (λ c took h. function_fine inputs (main_of p) [] false c took h) c took h
  frame_fine p inputs (callees.Function call) c took h = function_fine inputs (function_at p call.function) call.words (is_some call.result) c took h
  frame_fine p inputs (callees.Loop l) c took h =
      turn_fine (int_eq (l.high -ℤ l.low) (pos 1)) inputs (loop_at p l.number).body (places.Local 0 0) l.low (part l l.low (middle l.low l.high)) (part l (middle l.low l.high) l.high) c took h

  -- the requests of a frame come in order, from its beginning on
  pub fresh_fine : (p : Source) (inputs : List ℤ) (callee : Callee) → Fine (Fresh (opening_asks p callee)) (frame_asks p inputs callee)
  fresh_fine p inputs callee zero = tt
  fresh_fine p inputs callee (suc n) = λ start low. (
    refl,
    λ a.
        frame_fine p inputs callee (after a (frame_asks p inputs callee)) 0 (record {
          on = λ answers start left low e. let same : start ≡ left = omega (arith, e) in inl (ap (λ l. ended (frame_gives p inputs callee answers l)) same);
          short = λ answers start low less. absurd (omega (arith, less));
        }) n,
  )
