-- The machine makes the requests of the statements that its instructions were made from.
use Rattle.std.proofs.Common.{◌≡◌, ℕ, suc, ◌+◌, ◌-◌, ◌<◌, ◌≤◌, ℤ, pos, ◌+ℤ◌, Bool, true, false, List, [], ◌∷◌, ◌++◌, length, Option, Some, None, refl, ap, subst, arith, length-append, if◌then◌else◌}
use Rattle.std.specs.Prelude.{int_lt}
use Rattle.cilk_types.specs.Word.{word_of}
use Rattle.cilk_types.specs.declared.fault.Fault.TheVariants.{IndexOutside}
use Rattle.cilk_program.specs.declared.ask.Ask.TheVariants as asks
use Rattle.cilk_program.specs.declared.ask.Callee.TheVariants as callees
use Rattle.cilk_program.specs.declared.syntax.Array.{Array}
use Rattle.cilk_types.specs.declared.invocation.Invocation.TheVariants.{Call}
use Rattle.cilk_program.specs.declared.syntax.Place.{Place}
use Rattle.cilk_program.specs.Syntax.{Expression, ToVariable, ToElement, Statement, Empty, Block, Declare, Assign, Change, Step, Invokes, Sync, If, IfElse, For, ParallelFor, Print, Update, Set, Return, Statements, Nothing, Then, element}
use Rattle.cilk_program.specs.Operators.{is_zero, change}
use Rattle.cilk_program.specs.Behaviour.{Got, Gives, ◌>>=◌, tick, ask, or_fault, chosen, value, Flow, invokes, invokes_function, all_declare, condition, turns, does, all_do}
use Rattle.cilk_lower.specs.declared.code.Instr.{Instr}
use Rattle.cilk_lower.specs.declared.code.Instr.TheVariants as instrs
use Rattle.cilk_lower.specs.declared.code.Owed.TheVariants.{Nothing as Free, Word}
use Rattle.cilk_lower.specs.Code.{expr_code, invoke_code, declarations_code, turns_code, stmt_code, stmt_sites, all_code, all_sites}
use Rattle.cilk_lower.specs.Machine.{Setting, Goes, Waits, or_stops, loop_called}
use Rattle.cilk_lower.specs.Rooms.{depth, optional_depth, deepest, deepest_of_all}
use Rattle.cilk_lower.proofs.Calls.{invoke_acts, all_declare_acts}
use Rattle.cilk_lower.proofs.Flows.{follow_acts, checked_acts, last_asks, invokes_acts, valued_acts, ends_comes, hold_comes}
use Rattle.cilk_lower.proofs.Leads.{Stands, Leads, Acts, leads_one, stays, value_acts, jump_acts, choose_acts, tick_acts, word_acts, quiet_acts}
use Rattle.cilk_lower.specs.Bodies.{HasAt}
use Rattle.cilk_lower.proofs.Places.{has_front, has_back}
use Rattle.cilk_lower.proofs.Ticks.{Takes, Keeps, value_takes, takes_keeps, does_takes, all_keeps}
use Rattle.cilk_lower.proofs.Turns.{turns_act, forever_act}
use Rattle.cilk_lower.proofs.Values.{expr_does}

module _ (m : Setting) where
  -- a tick, then the value of an expression, then one more instruction
  last_acts : (e : Expression) (i : Instr) (pc : ℕ) (answers : List ℤ) (left : ℕ) (h : ℤ → List ℤ → ℕ → Got Flow) → depth e ≤ m.room → HasAt m.code.instrs pc (instrs.Tick ∷ (expr_code e ++ i ∷ [])) →
      ((pc1 : ℕ) (v : ℤ) (a : List ℤ) (l : ℕ) → Stands m pc1 i → Acts m pc1 (v ∷ []) [] a l (pc1 + 1) (h v a l)) →
      Acts m pc [] [] answers left (pc + length (instrs.Tick ∷ (expr_code e ++ i ∷ []))) (tick answers left >>= λ _ answers left. value m.inputs e answers left >>= h)
  last_acts e i pc answers left h fits has r =
      let code = expr_code e ++ i ∷ [] in
      let len : pc + 1 + length code ≡ pc + length (instrs.Tick ∷ code) = omega arith in
      subst (λ n. Acts m pc [] [] answers left n (tick answers left >>= λ _ answers left. value m.inputs e answers left >>= h)) len
      (tick_acts m pc (pc + 1 + length code) [] answers left (λ a l. value m.inputs e a l >>= h) has.0 (λ a l. valued_acts m e i (pc + 1) a l h fits has.1 r))

  -- the value of an expression above an index, and a stretch
  above_acts : (e : Expression) (pc pc' : ℕ) (stack answers : List ℤ) (left : ℕ) (h : ℤ → List ℤ → ℕ → Got Flow) → length stack + depth e ≤ m.room → HasAt m.code.instrs pc (expr_code e) →
      ((v : ℤ) (a : List ℤ) (l : ℕ) → Acts m (pc + length (expr_code e)) (v ∷ stack) [] a l pc' (h v a l)) → Acts m pc stack [] answers left pc' (value m.inputs e answers left >>= h)
  above_acts e pc pc' stack answers left h fits has r = value_acts m pc (pc + length (expr_code e)) pc' stack [] answers left (value m.inputs e answers left) h (expr_does m e pc stack answers left fits has) r

  -- a checked element gets a value
  store_acts : (arr : Array) (i v : ℤ) (pc : ℕ) (answers : List ℤ) (left : ℕ) → Stands m pc (instrs.StoreElement arr) → Acts m pc (v ∷ i ∷ []) [] answers left (pc + 1) (or_fault IndexOutside (element arr i) answers left >>= λ x answers left. ask (asks.Write x v) answers left >>= λ _. Gives None)
  store_acts arr i v pc answers left at =
      checked_acts m pc (pc + 1) (v ∷ i ∷ []) [] answers left (instrs.StoreElement arr) IndexOutside (element arr i) (λ x. Waits (asks.Write x v) Free (pc + 1) [] (pos 0) left) _ at refl
      (λ x e. last_asks m pc (v ∷ i ∷ []) [] answers left (instrs.StoreElement arr) (asks.Write x v) at (ap (λ o. or_stops IndexOutside o left (λ x. Waits (asks.Write x v) Free (pc + 1) [] (pos 0) left)) e))

  -- an element's old value is pushed above its index
  fetch_acts : (arr : Array) (i : ℤ) (pc pc' : ℕ) (answers : List ℤ) (left : ℕ) (h : Place → ℤ → List ℤ → ℕ → Got Flow) → 1 < m.room → Stands m pc (instrs.FetchElement arr) →
      ((x : Place) (old : ℤ) (a : List ℤ) (l : ℕ) → element arr i ≡ Some x → Acts m (pc + 1) (old ∷ i ∷ []) [] a l pc' (h x old a l)) →
      Acts m pc (i ∷ []) [] answers left pc' (or_fault IndexOutside (element arr i) answers left >>= λ x answers left. ask (asks.Read x) answers left >>= h x)
  fetch_acts arr i pc pc' answers left h fits at r =
      checked_acts m pc pc' (i ∷ []) [] answers left (instrs.FetchElement arr) IndexOutside (element arr i) (λ x. Waits (asks.Read x) Word (pc + 1) (i ∷ []) (pos 0) left) _ at refl
      (λ x e. word_acts m pc pc' (i ∷ []) (i ∷ []) [] answers left (instrs.FetchElement arr) (asks.Read x) (h x) at (ap (λ o. or_stops IndexOutside o left (λ x. Waits (asks.Read x) Word (pc + 1) (i ∷ []) (pos 0) left)) e) fits
      (λ old a l. r x old a l e))

  -- a checked element gets its new value
  put_acts : (arr : Array) (i v : ℤ) (x : Place) (pc : ℕ) (answers : List ℤ) (left : ℕ) → element arr i ≡ Some x → Stands m pc (instrs.StoreElement arr) → Acts m pc (v ∷ i ∷ []) [] answers left (pc + 1) (ask (asks.Write x v) answers left >>= λ _. Gives None)
  put_acts arr i v x pc answers left e at =
      last_asks m pc (v ∷ i ∷ []) [] answers left (instrs.StoreElement arr) (asks.Write x v) at (ap (λ o. or_stops IndexOutside o left (λ x. Waits (asks.Write x v) Free (pc + 1) [] (pos 0) left)) e)

  -- a parallel loop, with its bounds on the stack
  parallel_acts : (t : Bool) (n pc : ℕ) (low high : ℤ) (answers : List ℤ) (left : ℕ) → int_lt low high ≡ t → Stands m pc (instrs.CallLoop n) → Stands m (pc + 1) instrs.Resume →
      Acts m pc (high ∷ low ∷ []) [] answers left (pc + 2) (if t then invokes Call (callees.Loop (record { number = n; up = 0; low = low; high = high })) answers left else Gives None answers left)
  parallel_acts true n pc low high answers left e at next =
      let len : pc + 1 + 1 ≡ pc + 2 = omega arith in
      subst (λ p. Acts m pc (high ∷ low ∷ []) [] answers left p (invokes Call (callees.Loop (record { number = n; up = 0; low = low; high = high })) answers left)) len
      (invokes_acts m pc (high ∷ low ∷ []) answers left (instrs.CallLoop n) Call (callees.Loop (record { number = n; up = 0; low = low; high = high })) at next
      (ap (λ t. if t then Waits (loop_called n low high) Free (pc + 1) [] (pos 0) left else Goes (pc + 2) [] (pos 0) left) e))
  parallel_acts false n pc low high answers left e at next =
      leads_one m pc (high ∷ low ∷ []) answers left (instrs.CallLoop n) (pc + 2) [] left at
      (ap (λ t. if t then Waits (loop_called n low high) Free (pc + 1) [] (pos 0) left else Goes (pc + 2) [] (pos 0) left) e)

  -- the turns of a `for`, whose body and step have these instructions
  module _ (cs cp : List Instr) (body step : List ℤ → ℕ → Got Flow)
      (bodies : (pc : ℕ) → HasAt m.code.instrs pc cs → (a : List ℤ) (l : ℕ) → Acts m pc [] [] a l (pc + length cs) (body a l)) (takes : (a : List ℤ) (l : ℕ) → Takes l (body a l))
      (steps : (pc : ℕ) → HasAt m.code.instrs pc cp → (a : List ℤ) (l : ℕ) → Acts m pc [] [] a l (pc + length cp) (step a l)) (keeps : (a : List ℤ) (l : ℕ) → Keeps l (step a l)) where
    for_acts : (test : Option Expression) (pc : ℕ) (answers : List ℤ) (left : ℕ) → optional_depth test ≤ m.room → HasAt m.code.instrs pc (turns_code test (cs ++ cp)) →
        Acts m pc [] [] answers left (pc + length (turns_code test (cs ++ cp))) (turns (suc left) (condition m.inputs test) body step answers left)
    for_acts None pc answers left fits has =
        let p2 = pc + length cs in
        let p3 = p2 + length cp in
        let jump = instrs.JumpBack (length (cs ++ cp)) in
        let turn = has_front m.code.instrs pc (cs ++ cp) _ has in
        let l1 = length-append cs cp in
        let same : pc + length (cs ++ cp) ≡ p3 = omega arith in
        let behind = subst (λ n. HasAt m.code.instrs n (jump ∷ [])) same (has_back m.code.instrs pc (cs ++ cp) _ has) in
        let there : p3 - length (cs ++ cp) ≡ pc = omega arith in
        forever_act m pc p2 p3 _ (condition m.inputs None) body step
        (bodies pc (has_front m.code.instrs pc cs cp turn)) takes (steps p2 (has_back m.code.instrs pc cs cp turn)) keeps
        (length (cs ++ cp)) behind.0 there (λ a l. refl) (suc left) answers left (omega arith)
    for_acts (Some e) pc answers left fits has =
        let ce = expr_code e in
        let p1 = pc + length ce in
        let p2 = p1 + 1 + length cs in
        let p3 = p2 + length cp in
        let p4 = p3 + length ce in
        let n = length (cs ++ cp) + length ce in
        let last = instrs.JumpBackUnlessZero n ∷ [] in
        let rest = instrs.JumpIfZero (n + 1) ∷ ((cs ++ cp) ++ (ce ++ last)) in
        let first = has_back m.code.instrs pc ce rest has in
        let turn = has_front m.code.instrs (p1 + 1) (cs ++ cp) (ce ++ last) first.1 in
        let l1 = length-append cs cp in
        let same : p1 + 1 + length (cs ++ cp) ≡ p3 = omega arith in
        let again = subst (λ n. HasAt m.code.instrs n (ce ++ last)) same (has_back m.code.instrs (p1 + 1) (cs ++ cp) (ce ++ last) first.1) in
        let behind = has_back m.code.instrs p3 ce last again in
        let there : p1 + 1 ≡ p4 - n = omega arith in
        let leaves : p4 + 1 ≡ p1 + 1 + (n + 1) = omega arith in
        let room_e : 0 + depth e ≤ m.room = omega arith in
        let len : p4 + 1 ≡ pc + length (ce ++ rest) = omega (arith, length-append ce rest, length-append (cs ++ cp) (ce ++ last), length-append ce last) in
        subst (λ n. Acts m pc [] [] answers left n (turns (suc left) (value m.inputs e) body step answers left)) len
        (turns_act m (p1 + 1) p2 p3 (p4 + 1) (value m.inputs e) body step
        (bodies (p1 + 1) (has_front m.code.instrs (p1 + 1) cs cp turn)) takes (steps p2 (has_back m.code.instrs (p1 + 1) cs cp turn)) keeps
        pc p1 p4 (n + 1) n (λ a l. takes_keeps l _ (value_takes m.inputs e a l))
        (λ a l. expr_does m e pc [] a l room_e (has_front m.code.instrs pc ce _ has)) first.0 refl leaves
        (λ a l. expr_does m e p3 [] a l room_e (has_front m.code.instrs p3 ce _ again)) behind.0 there refl
        left answers left (omega arith))

  mutual
    pub acts : (s : Statement) (k pc : ℕ) (answers : List ℤ) (left : ℕ) → deepest s ≤ m.room → HasAt m.code.instrs pc (stmt_code k s) → HasAt m.code.sites k (stmt_sites s) → Acts m pc [] [] answers left (pc + length (stmt_code k s)) (does m.inputs s answers left)
    acts Empty k pc answers left fits has called = tick_acts m pc (pc + 1) [] answers left (Gives None) has.0 (λ a l. stays m (pc + 1) [] a l)
    acts (Block row) k pc answers left fits has called =
        let len : pc + 1 + length (all_code k row) ≡ pc + length (stmt_code k (Block row)) = omega arith in
        subst (λ n. Acts m pc [] [] answers left n (does m.inputs (Block row) answers left)) len
        (tick_acts m pc (pc + 1 + length (all_code k row)) [] answers left (all_do m.inputs row) has.0 (λ a l. all_act row k (pc + 1) a l fits has.1 called))
    acts (Declare ds) k pc answers left fits has called =
        let len : pc + 1 + length (declarations_code k ds) ≡ pc + length (stmt_code k (Declare ds)) = omega arith in
        subst (λ n. Acts m pc [] [] answers left n (does m.inputs (Declare ds) answers left)) len
        (tick_acts m pc (pc + 1 + length (declarations_code k ds)) [] answers left (all_declare m.inputs ds) has.0 (λ a l. all_declare_acts m ds k (pc + 1) a l fits has.1 called))
    acts (Assign (ToVariable x) e) k pc answers left fits has called =
        let room_e : depth e ≤ m.room = omega arith in
        last_acts e (instrs.Store x) pc answers left (λ v a l. ask (asks.Write x v) a l >>= λ _. Gives None) room_e has (λ pc1 v a l at. last_asks m pc1 (v ∷ []) [] a l (instrs.Store x) (asks.Write x v) at refl)
    acts (Assign (ToElement arr f) e) k pc answers left fits has called =
        let cf = expr_code f in let ce = expr_code e in
        let p1 = pc + 1 + length cf in
        let p2 = p1 + length ce in
        let behind = has_back m.code.instrs (pc + 1) cf (ce ++ instrs.StoreElement arr ∷ []) has.1 in
        let after = has_back m.code.instrs p1 ce (instrs.StoreElement arr ∷ []) behind in
        let room_f : 0 + depth f ≤ m.room = omega arith in
        let room_e : 1 + depth e ≤ m.room = omega arith in
        let len : p2 + 1 ≡ pc + length (stmt_code k (Assign (ToElement arr f) e)) = omega (arith, length-append cf (ce ++ instrs.StoreElement arr ∷ []), length-append ce (instrs.StoreElement arr ∷ [])) in
        subst (λ n. Acts m pc [] [] answers left n (does m.inputs (Assign (ToElement arr f) e) answers left)) len
        (tick_acts m pc (p2 + 1) [] answers left _ has.0 (λ a l. above_acts f (pc + 1) (p2 + 1) [] a l _ room_f (has_front m.code.instrs (pc + 1) cf _ has.1)
        (λ i a l. above_acts e p1 (p2 + 1) (i ∷ []) a l _ room_e (has_front m.code.instrs p1 ce _ behind)
        (λ v a l. store_acts arr i v p2 a l after.0))))
    acts (Change (ToVariable x) op e) k pc answers left fits has called =
        let ce = expr_code e in
        let p1 = pc + 1 + 1 + length ce in
        let behind = has_back m.code.instrs (pc + 1 + 1) ce (instrs.Combine op ∷ (instrs.Store x ∷ [])) has.1.1 in
        let low : 0 < m.room = omega arith in
        let room_e : 1 + depth e ≤ m.room = omega arith in
        let len : p1 + 1 + 1 ≡ pc + length (stmt_code k (Change (ToVariable x) op e)) = omega (arith, length-append ce (instrs.Combine op ∷ (instrs.Store x ∷ []))) in
        subst (λ n. Acts m pc [] [] answers left n (does m.inputs (Change (ToVariable x) op e) answers left)) len
        (tick_acts m pc (p1 + 1 + 1) [] answers left _ has.0 (λ a l. word_acts m (pc + 1) (p1 + 1 + 1) [] [] [] a l (instrs.LoadUncounted x) (asks.Read x) _ has.1.0 refl low
        (λ old a l. above_acts e (pc + 1 + 1) (p1 + 1 + 1) (old ∷ []) a l _ room_e (has_front m.code.instrs (pc + 1 + 1) ce _ has.1.1)
        (λ v a l. quiet_acts m p1 (p1 + 1) (p1 + 1 + 1) (v ∷ old ∷ []) (change op old v ∷ []) [] a l (instrs.Combine op) _ behind.0 refl
        (last_asks m (p1 + 1) (change op old v ∷ []) [] a l (instrs.Store x) (asks.Write x (change op old v)) behind.1.0 refl)))))
    acts (Change (ToElement arr f) op e) k pc answers left fits has called =
        let cf = expr_code f in let ce = expr_code e in
        let tail = instrs.Combine op ∷ (instrs.StoreElement arr ∷ []) in
        let p1 = pc + 1 + length cf in
        let p2 = p1 + 1 + length ce in
        let behind = has_back m.code.instrs (pc + 1) cf (instrs.FetchElement arr ∷ (ce ++ tail)) has.1 in
        let after = has_back m.code.instrs (p1 + 1) ce tail behind.1 in
        let low : 1 < m.room = omega arith in
        let room_f : 0 + depth f ≤ m.room = omega arith in
        let room_e : 2 + depth e ≤ m.room = omega arith in
        let len : p2 + 1 + 1 ≡ pc + length (stmt_code k (Change (ToElement arr f) op e)) = omega (arith, length-append cf (instrs.FetchElement arr ∷ (ce ++ tail)), length-append ce tail) in
        subst (λ n. Acts m pc [] [] answers left n (does m.inputs (Change (ToElement arr f) op e) answers left)) len
        (tick_acts m pc (p2 + 1 + 1) [] answers left _ has.0 (λ a l. above_acts f (pc + 1) (p2 + 1 + 1) [] a l _ room_f (has_front m.code.instrs (pc + 1) cf _ has.1)
        (λ i a l. fetch_acts arr i p1 (p2 + 1 + 1) a l _ low behind.0
        (λ x old a l same. above_acts e (p1 + 1) (p2 + 1 + 1) (old ∷ i ∷ []) a l _ room_e (has_front m.code.instrs (p1 + 1) ce _ behind.1)
        (λ v a l. quiet_acts m p2 (p2 + 1) (p2 + 1 + 1) (v ∷ old ∷ i ∷ []) (change op old v ∷ i ∷ []) [] a l (instrs.Combine op) _ after.0 refl
        (put_acts arr i (change op old v) x (p2 + 1) a l same after.1.0))))))
    acts (Step (ToVariable x) n) k pc answers left fits has called =
        let p = pc + 1 + 1 + 1 + 1 in
        let low : 0 < m.room = omega arith in
        let len : p ≡ pc + length (stmt_code k (Step (ToVariable x) n)) = omega arith in
        subst (λ q. Acts m pc [] [] answers left q (does m.inputs (Step (ToVariable x) n) answers left)) len
        (tick_acts m pc p [] answers left _ has.0 (λ a l. word_acts m (pc + 1) p [] [] [] a l (instrs.LoadUncounted x) (asks.Read x) _ has.1.0 refl low
        (λ old a l. quiet_acts m (pc + 1 + 1) (pc + 1 + 1 + 1) p (old ∷ []) (word_of (old +ℤ n) ∷ []) [] a l (instrs.AddNumber n) _ has.1.1.0 refl
        (last_asks m (pc + 1 + 1 + 1) (word_of (old +ℤ n) ∷ []) [] a l (instrs.Store x) (asks.Write x (word_of (old +ℤ n))) has.1.1.1.0 refl))))
    acts (Step (ToElement arr f) n) k pc answers left fits has called =
        let cf = expr_code f in
        let tail = instrs.FetchElement arr ∷ (instrs.AddNumber n ∷ (instrs.StoreElement arr ∷ [])) in
        let p1 = pc + 1 + length cf in
        let p = p1 + 1 + 1 + 1 in
        let behind = has_back m.code.instrs (pc + 1) cf tail has.1 in
        let low : 1 < m.room = omega arith in
        let room_f : 0 + depth f ≤ m.room = omega arith in
        let len : p ≡ pc + length (stmt_code k (Step (ToElement arr f) n)) = omega (arith, length-append cf tail) in
        subst (λ q. Acts m pc [] [] answers left q (does m.inputs (Step (ToElement arr f) n) answers left)) len
        (tick_acts m pc p [] answers left _ has.0 (λ a l. above_acts f (pc + 1) p [] a l _ room_f (has_front m.code.instrs (pc + 1) cf _ has.1)
        (λ i a l. fetch_acts arr i p1 p a l _ low behind.0
        (λ x old a l same. quiet_acts m (p1 + 1) (p1 + 1 + 1) p (old ∷ i ∷ []) (word_of (old +ℤ n) ∷ i ∷ []) [] a l (instrs.AddNumber n) _ behind.1.0 refl
        (put_acts arr i (word_of (old +ℤ n)) x (p1 + 1 + 1) a l same behind.1.1.0)))))
    acts (Invokes i) k pc answers left fits has called =
        let len : pc + 1 + length (invoke_code k i) ≡ pc + length (stmt_code k (Invokes i)) = omega arith in
        subst (λ n. Acts m pc [] [] answers left n (does m.inputs (Invokes i) answers left)) len
        (tick_acts m pc (pc + 1 + length (invoke_code k i)) [] answers left (invokes_function m.inputs i) has.0 (λ a l. invoke_acts m i k (pc + 1) a l fits has.1 called))
    acts Sync k pc answers left fits has called =
        let len : pc + 1 + 1 ≡ pc + length (stmt_code k Sync) = omega arith in
        subst (λ n. Acts m pc [] [] answers left n (does m.inputs Sync answers left)) len
        (tick_acts m pc (pc + 1 + 1) [] answers left _ has.0 (λ a l. last_asks m (pc + 1) [] [] a l instrs.Sync asks.Sync has.1.0 refl))
    acts (Print e) k pc answers left fits has called =
        last_acts e instrs.Print pc answers left (λ v a l. ask (asks.Print v) a l >>= λ _. Gives None) fits has (λ pc1 v a l at. last_asks m pc1 (v ∷ []) [] a l instrs.Print (asks.Print v) at refl)
    acts (Update r e) k pc answers left fits has called =
        last_acts e (instrs.Update r) pc answers left (λ v a l. ask (asks.Update r v) a l >>= λ _. Gives None) fits has (λ pc1 v a l at. last_asks m pc1 (v ∷ []) [] a l (instrs.Update r) (asks.Update r v) at refl)
    acts (Set r e) k pc answers left fits has called =
        last_acts e (instrs.Set r) pc answers left (λ v a l. ask (asks.Set r v) a l >>= λ _. Gives None) fits has (λ pc1 v a l at. last_asks m pc1 (v ∷ []) [] a l (instrs.Set r) (asks.Set r v) at refl)
    acts (Return None) k pc answers left fits has called =
        tick_acts m pc _ [] answers left (Gives (Some (pos 0))) has.0 (λ a l. ends_comes m (pos 0) (pc + 1) a l has.1)
    acts (Return (Some e)) k pc answers left fits has called =
        let ce = expr_code e in
        let room_e : 0 + depth e ≤ m.room = omega arith in
        let behind = has_back m.code.instrs (pc + 1) ce _ has.1 in
        tick_acts m pc _ [] answers left (λ a l. value m.inputs e a l >>= λ v. Gives (Some v)) has.0
        (λ a l. above_acts e (pc + 1) _ [] a l (λ v. Gives (Some v)) room_e (has_front m.code.instrs (pc + 1) ce _ has.1)
        (λ v a l. hold_comes m (pc + 1 + length ce) v a l behind.0 behind.1))
    acts (ParallelFor e f n) k pc answers left fits has called =
        let ce = expr_code e in let cf = expr_code f in
        let tail = instrs.CallLoop n ∷ (instrs.Resume ∷ []) in
        let p1 = pc + 1 + length ce in
        let p2 = p1 + length cf in
        let behind = has_back m.code.instrs (pc + 1) ce (cf ++ tail) has.1 in
        let after = has_back m.code.instrs p1 cf tail behind in
        let room_e : 0 + depth e ≤ m.room = omega arith in
        let room_f : 1 + depth f ≤ m.room = omega arith in
        let len : p2 + 2 ≡ pc + length (stmt_code k (ParallelFor e f n)) = omega (arith, length-append ce (cf ++ tail), length-append cf tail) in
        subst (λ q. Acts m pc [] [] answers left q (does m.inputs (ParallelFor e f n) answers left)) len
        (tick_acts m pc (p2 + 2) [] answers left _ has.0 (λ a l. above_acts e (pc + 1) (p2 + 2) [] a l _ room_e (has_front m.code.instrs (pc + 1) ce _ has.1)
        (λ low a l. above_acts f p1 (p2 + 2) (low ∷ []) a l _ room_f (has_front m.code.instrs p1 cf _ behind)
        (λ high a l. parallel_acts (int_lt low high) n p2 low high a l refl after.0 after.1.0))))
    acts (If e s) k pc answers left fits has called =
        let ce = expr_code e in let cs = stmt_code k s in
        let p1 = pc + 1 + length ce in
        let behind = has_back m.code.instrs (pc + 1) ce (instrs.JumpIfZero (length cs) ∷ cs) has.1 in
        let room_e : 0 + depth e ≤ m.room = omega arith in
        let room_s : deepest s ≤ m.room = omega arith in
        let len : p1 + 1 + length cs ≡ pc + length (stmt_code k (If e s)) = omega (arith, length-append ce (instrs.JumpIfZero (length cs) ∷ cs)) in
        subst (λ n. Acts m pc [] [] answers left n (does m.inputs (If e s) answers left)) len
        (tick_acts m pc (p1 + 1 + length cs) [] answers left _ has.0 (λ a l. above_acts e (pc + 1) (p1 + 1 + length cs) [] a l (λ v a l. chosen v (does m.inputs s a l) (Gives None a l)) room_e (has_front m.code.instrs (pc + 1) ce _ has.1)
        (λ v a l. choose_acts m (is_zero v) p1 (length cs) (p1 + 1 + length cs) v [] a l (does m.inputs s a l) (Gives None a l) refl behind.0
        (acts s k (p1 + 1) a l room_s behind.1 called)
        (stays m (p1 + 1 + length cs) [] a l))))
    acts (IfElse e s t) k pc answers left fits has called =
        let k1 = k + length (stmt_sites s) in
        let ce = expr_code e in let cs = stmt_code k s in let ct = stmt_code k1 t in
        let p1 = pc + 1 + length ce in
        let p2 = p1 + 1 + length cs in
        let tail = cs ++ (instrs.Jump (length ct) ∷ ct) in
        let behind = has_back m.code.instrs (pc + 1) ce (instrs.JumpIfZero (length cs + 1) ∷ tail) has.1 in
        let after = has_back m.code.instrs (p1 + 1) cs (instrs.Jump (length ct) ∷ ct) behind.1 in
        let room_e : 0 + depth e ≤ m.room = omega arith in
        let room_s : deepest s ≤ m.room = omega arith in
        let room_t : deepest t ≤ m.room = omega arith in
        let second : p2 + 1 ≡ p1 + 1 + (length cs + 1) = omega arith in
        let len : p2 + 1 + length ct ≡ pc + length (stmt_code k (IfElse e s t)) = omega (arith, length-append ce (instrs.JumpIfZero (length cs + 1) ∷ tail), length-append cs (instrs.Jump (length ct) ∷ ct)) in
        subst (λ n. Acts m pc [] [] answers left n (does m.inputs (IfElse e s t) answers left)) len
        (tick_acts m pc (p2 + 1 + length ct) [] answers left _ has.0 (λ a l. above_acts e (pc + 1) (p2 + 1 + length ct) [] a l (λ v a l. chosen v (does m.inputs s a l) (does m.inputs t a l)) room_e (has_front m.code.instrs (pc + 1) ce _ has.1)
        (λ v a l. choose_acts m (is_zero v) p1 (length cs + 1) (p2 + 1 + length ct) v [] a l (does m.inputs s a l) (does m.inputs t a l) refl behind.0
        (jump_acts m (p1 + 1) p2 (length ct) [] [] a l (does m.inputs s a l) after.0 (acts s k (p1 + 1) a l room_s (has_front m.code.instrs (p1 + 1) cs _ behind.1) (has_front m.code.sites k (stmt_sites s) _ called)))
        (subst (λ n. Acts m n [] [] a l (p2 + 1 + length ct) (does m.inputs t a l)) second (acts t k1 (p2 + 1) a l room_t after.1 (has_back m.code.sites k (stmt_sites s) _ called))))))
    acts (For row test step s) k pc answers left fits has called =
        let k1 = k + length (all_sites row) in
        let k2 = k1 + length (stmt_sites s) in
        let cr = all_code k row in
        let turn = stmt_code k1 s ++ all_code k2 step in
        let p1 = pc + 1 + length cr in
        let out = p1 + length (turns_code test turn) in
        let room_r : deepest_of_all row ≤ m.room = omega arith in
        let room_t : optional_depth test ≤ m.room = omega arith in
        let room_s : deepest s ≤ m.room = omega arith in
        let room_p : deepest_of_all step ≤ m.room = omega arith in
        let more = has_back m.code.sites k (all_sites row) _ called in
        let len : out ≡ pc + length (stmt_code k (For row test step s)) = omega (arith, length-append cr (turns_code test turn)) in
        subst (λ n. Acts m pc [] [] answers left n (does m.inputs (For row test step s) answers left)) len
        (tick_acts m pc out [] answers left _ has.0 (λ a l. follow_acts m (pc + 1) p1 out [] a l (all_do m.inputs row a l) (λ a l. turns (suc l) (condition m.inputs test) (does m.inputs s) (all_do m.inputs step) a l)
        (all_act row k (pc + 1) a l room_r (has_front m.code.instrs (pc + 1) cr _ has.1) (has_front m.code.sites k (all_sites row) _ called))
        (λ a l. for_acts (stmt_code k1 s) (all_code k2 step) (does m.inputs s) (all_do m.inputs step)
        (λ pc has a l. acts s k1 pc a l room_s has (has_front m.code.sites k1 (stmt_sites s) _ more)) (does_takes m.inputs s)
        (λ pc has a l. all_act step k2 pc a l room_p has (has_back m.code.sites k1 (stmt_sites s) _ more)) (all_keeps m.inputs step)
        test p1 a l room_t (has_back m.code.instrs (pc + 1) cr _ has.1))))

    pub all_act : (row : Statements) (k pc : ℕ) (answers : List ℤ) (left : ℕ) → deepest_of_all row ≤ m.room → HasAt m.code.instrs pc (all_code k row) → HasAt m.code.sites k (all_sites row) → Acts m pc [] [] answers left (pc + length (all_code k row)) (all_do m.inputs row answers left)
    all_act Nothing k pc answers left fits has called = let e : pc ≡ pc + 0 = omega arith in subst (λ n. Leads m pc [] answers left n [] answers left) e (stays m pc [] answers left)
    all_act (Then s row) k pc answers left fits has called =
        let k1 = k + length (stmt_sites s) in
        let cs = stmt_code k s in let cr = all_code k1 row in
        let room_s : deepest s ≤ m.room = omega arith in
        let room_r : deepest_of_all row ≤ m.room = omega arith in
        let len : pc + length cs + length cr ≡ pc + length (cs ++ cr) = omega (arith, length-append cs cr) in
        subst (λ n. Acts m pc [] [] answers left n (all_do m.inputs (Then s row) answers left)) len
        (follow_acts m pc (pc + length cs) (pc + length cs + length cr) [] answers left (does m.inputs s answers left) (all_do m.inputs row)
        (acts s k pc answers left room_s (has_front m.code.instrs pc cs cr has) (has_front m.code.sites k (stmt_sites s) _ called)) (λ a l. all_act row k1 (pc + length cs) a l room_r (has_back m.code.instrs pc cs cr has) (has_back m.code.sites k (stmt_sites s) _ called)))
