-- How statements end, and their continuations.
use Rattle.std.proofs.Common.{◌≡◌, ℕ, suc, ◌+◌, ◌≤◌, ℤ, pos, Bool, true, false, List, [], ◌∷◌, ◌++◌, length, Option, Some, None, refl, ap, ◌∙◌, subst, arith, length-append, if◌then◌else◌}
use Rattle.cilk_types.specs.declared.fault.Fault.{Fault}
use Rattle.cilk_program.specs.declared.ask.Ask.{Ask}
use Rattle.cilk_program.specs.declared.ask.Ask.TheVariants as asks
use Rattle.cilk_program.specs.declared.ask.Callee.{Callee}
use Rattle.cilk_types.specs.declared.invocation.Invocation.{Invocation}
use Rattle.cilk_program.specs.Syntax.{Expression}
use Rattle.cilk_program.specs.Behaviour.{OpenAsk, Got, Gives, Asks, ◌>>=◌, ask, or_fault, value, Flow, unless_returned, invokes, finishes, gives_result, ended}
use Rattle.cilk_lower.specs.declared.code.Instr.{Instr}
use Rattle.cilk_lower.specs.declared.code.Instr.TheVariants as instrs
use Rattle.cilk_lower.specs.declared.code.Owed.TheVariants.{Nothing}
use Rattle.cilk_lower.specs.Bodies.{HasAt}
use Rattle.cilk_lower.specs.Code.{expr_code, ends}
use Rattle.cilk_lower.specs.Machine.{Setting, Move, Goes, Waits, Reaches, going, move, exec, or_stops}
use Rattle.cilk_lower.specs.Rooms.{depth}
use Rattle.cilk_lower.proofs.Leads.{moves, Stands, Comes, Acts, comes_one, comes_ask, leads_done, comes_on, then_acts, value_acts}
use Rattle.cilk_lower.proofs.Places.{has_front, has_back}
use Rattle.cilk_lower.proofs.Values.{expr_does}

-- it continues or makes the last request, but doesn't return
abbrev pub Plain : Got Flow → Type 0
Plain (Gives None a l) = Unit {0}
Plain (Gives (Some v) a l) = ⊥
Plain (Asks k) = Unit {0}

pub plain_then : {A : Type 0} (g : Got A) (h : A → List ℤ → ℕ → Got Flow) → ((v : A) (a : List ℤ) (l : ℕ) → Plain (h v a l)) → Plain (g >>= h)
plain_then (Gives v a l) h r = r v a l
plain_then (Asks k) h r = tt

pub invokes_plain : (how : Invocation) (callee : Callee) (a : List ℤ) (l : ℕ) → Plain (invokes how callee a l)
invokes_plain how callee a l = plain_then (ask (asks.Invoke how callee) a l) _ (λ _ a l. plain_then (ask asks.Resume a l) _ (λ _ a l. tt))

module _ (m : Setting) where
  -- one statement after another
  pub follow_acts : (pc pc1 pc' : ℕ) (stack answers : List ℤ) (left : ℕ) (g : Got Flow) (h : List ℤ → ℕ → Got Flow) → Acts m pc stack stack answers left pc1 g → ((a : List ℤ) (l : ℕ) → Acts m pc1 stack stack a l pc' (h a l)) → Acts m pc stack stack answers left pc' (g >>= λ f. unless_returned f h)
  follow_acts pc pc1 pc' stack answers left (Asks k) h r s = r
  follow_acts pc pc1 pc' stack answers left (Gives (Some v) a l) h r s = r
  follow_acts pc pc1 pc' stack answers left (Gives None a l) h r s = then_acts m pc pc1 pc' stack stack stack answers a left l (h a l) r (s a l)

  -- a part that doesn't return, and then another
  pub plain_acts : (pc pc1 pc' : ℕ) (answers : List ℤ) (left : ℕ) (g : Got Flow) (h : List ℤ → ℕ → Got Flow) → Acts m pc [] [] answers left pc1 g → Plain g → ((a : List ℤ) (l : ℕ) → Acts m pc1 [] [] a l pc' (h a l)) → Acts m pc [] [] answers left pc' (g >>= λ _. h)
  plain_acts pc pc1 pc' answers left (Asks k) h r plain s = r
  plain_acts pc pc1 pc' answers left (Gives (Some v) a l) h r plain s = absurd plain
  plain_acts pc pc1 pc' answers left (Gives None a l) h r plain s = then_acts m pc pc1 pc' [] [] [] answers a left l (h a l) r (s a l)

  pub plain_comes : (pc pc1 : ℕ) (answers : List ℤ) (left : ℕ) (g : Got Flow) (h : List ℤ → ℕ → Got ℤ) → Acts m pc [] [] answers left pc1 g → Plain g → ((a : List ℤ) (l : ℕ) → Comes m pc1 [] a l (ended (h a l))) → Comes m pc [] answers left (ended (g >>= λ _. h))
  plain_comes pc pc1 answers left (Asks k) h r plain s = r
  plain_comes pc pc1 answers left (Gives (Some v) a l) h r plain s = absurd plain
  plain_comes pc pc1 answers left (Gives None a l) h r plain s = comes_on m pc pc1 [] [] answers a left l _ r (s a l)

  -- a check, and then another part
  pub checked_acts : {A : Type 0} (pc pc' : ℕ) (from stack answers : List ℤ) (left : ℕ) (i : Instr) (f : Fault) (o : Option A) (go : A → Move) (h : A → List ℤ → ℕ → Got Flow) → Stands m pc i → moves m i pc from left ≡ or_stops f o left go →
      ((x : A) → o ≡ Some x → Acts m pc from stack answers left pc' (h x answers left)) → Acts m pc from stack answers left pc' (or_fault f o answers left >>= h)
  checked_acts pc pc' from stack answers left i f None go h at e r = comes_one m pc from answers left i _ _ at e
  checked_acts pc pc' from stack answers left i f (Some x) go h at e r = r x refl

  -- a request whose answer pushes nothing ends a statement
  pub last_asks : (pc : ℕ) (from stack answers : List ℤ) (left : ℕ) (i : Instr) (k : Ask) → Stands m pc i → moves m i pc from left ≡ Waits k Nothing (pc + 1) stack (pos 0) left → Acts m pc from stack answers left (pc + 1) (ask k answers left >>= λ _. Gives None)
  last_asks pc from stack [] left i k at e = comes_ask m pc from left i k Nothing (pc + 1) stack left at e
  last_asks pc from stack (a ∷ answers) left i k at e = leads_done m pc from a answers left i k (pc + 1) stack left at e

  -- a child, and then the frame continues
  pub invokes_acts : (pc : ℕ) (from answers : List ℤ) (left : ℕ) (i : Instr) (how : Invocation) (callee : Callee) → Stands m pc i → Stands m (pc + 1) instrs.Resume → moves m i pc from left ≡ Waits (asks.Invoke how callee) Nothing (pc + 1) [] (pos 0) left → Acts m pc from [] answers left (pc + 1 + 1) (invokes how callee answers left)
  invokes_acts pc from [] left i how callee at next e = comes_ask m pc from left i (asks.Invoke how callee) Nothing (pc + 1) [] left at e
  invokes_acts pc from (a ∷ answers) left i how callee at next e =
      then_acts m pc (pc + 1) (pc + 1 + 1) [] from [] (a ∷ answers) answers left left (ask asks.Resume answers left >>= λ _. Gives None) (leads_done m pc from a answers left i (asks.Invoke how callee) (pc + 1) [] left at e)
      (last_asks (pc + 1) [] [] answers left instrs.Resume asks.Resume next refl)

  -- the value of an expression, and one more instruction
  pub valued_acts : (e : Expression) (i : Instr) (pc : ℕ) (answers : List ℤ) (left : ℕ) (h : ℤ → List ℤ → ℕ → Got Flow) → depth e ≤ m.room → HasAt m.code.instrs pc (expr_code e ++ i ∷ []) →
      ((pc1 : ℕ) (v : ℤ) (a : List ℤ) (l : ℕ) → Stands m pc1 i → Acts m pc1 (v ∷ []) [] a l (pc1 + 1) (h v a l)) → Acts m pc [] [] answers left (pc + length (expr_code e ++ i ∷ [])) (value m.inputs e answers left >>= h)
  valued_acts e i pc answers left h fits has r =
      let ce = expr_code e in
      let p1 = pc + length ce in
      let at = (has_back m.code.instrs pc ce (i ∷ []) has).0 in
      let room : length {A = ℤ} [] + depth e ≤ m.room = omega arith in
      let len : p1 + 1 ≡ pc + length (ce ++ i ∷ []) = omega (arith, length-append ce (i ∷ [])) in
      subst (λ n. Acts m pc [] [] answers left n (value m.inputs e answers left >>= h)) len
      (value_acts m pc p1 (p1 + 1) [] [] answers left (value m.inputs e answers left) h (expr_does m e pc [] answers left room (has_front m.code.instrs pc ce (i ∷ []) has)) (λ v a l. r p1 v a l at))

  -- The end of a frame. The frame has its result by then, so these runs begin with any result.
  abbrev ComesHolding : ℕ → ℤ → List ℤ → ℕ → OpenAsk → Type 0
  ComesHolding pc held answers left k = (j : ℕ) × (exec m j pc [] held answers left ≡ Reaches k)

  step_on : (pc : ℕ) (held : ℤ) (answers : List ℤ) (left : ℕ) (i : Instr) → Stands m pc i → (k : ℕ) → exec m (suc k) pc [] held answers left ≡ going m.room (move m (Some i) pc [] held left) answers (exec m k)
  step_on pc held answers left i h k = ap (λ o. going m.room (move m o pc [] held left) answers (exec m k)) h

  end_comes : (pc : ℕ) (held : ℤ) (answers : List ℤ) (left : ℕ) → Stands m pc instrs.End → ComesHolding pc held answers left (ended (Gives held answers left))
  end_comes pc held answers left at = (1, step_on pc held answers left instrs.End at 0)

  given_comes : (t : Bool) (pc : ℕ) (held : ℤ) (answers : List ℤ) (left : ℕ) → m.given.takes ≡ t → Stands m pc instrs.GiveResult → Stands m (pc + 1) instrs.End → ComesHolding pc held answers left (ended (gives_result t held answers left))
  given_comes false pc held answers left e at next =
      let r = end_comes (pc + 1) held answers left next in
      (suc r.0, step_on pc held answers left instrs.GiveResult at r.0 ∙ ap (λ t. going m.room (if t then Waits (asks.Result held) Nothing (pc + 1) [] held left else Goes (pc + 1) [] held left) answers (exec m r.0)) e ∙ r.1)
  given_comes true pc held [] left e at next =
      (1, step_on pc held [] left instrs.GiveResult at 0 ∙ ap (λ t. going m.room (if t then Waits (asks.Result held) Nothing (pc + 1) [] held left else Goes (pc + 1) [] held left) [] (exec m 0)) e)
  given_comes true pc held (a ∷ answers) left e at next =
      let r = end_comes (pc + 1) held answers left next in
      (suc r.0, step_on pc held (a ∷ answers) left instrs.GiveResult at r.0 ∙ ap (λ t. going m.room (if t then Waits (asks.Result held) Nothing (pc + 1) [] held left else Goes (pc + 1) [] held left) (a ∷ answers) (exec m r.0)) e ∙ r.1)

  pub ends_comes : (held : ℤ) (pc : ℕ) (answers : List ℤ) (left : ℕ) → HasAt m.code.instrs pc ends → ComesHolding pc held answers left (ended (finishes m.given.takes (Some held) answers left))
  ends_comes held pc [] left has = (1, step_on pc held [] left instrs.Sync has.0 0)
  ends_comes held pc (a ∷ answers) left has =
      let r = given_comes m.given.takes (pc + 1) held answers left refl has.1.0 has.1.1.0 in
      (suc r.0, step_on pc held (a ∷ answers) left instrs.Sync has.0 r.0 ∙ r.1)

  -- a result is kept, and then the frame ends
  pub hold_comes : (pc : ℕ) (v : ℤ) (answers : List ℤ) (left : ℕ) → Stands m pc instrs.SetResult → HasAt m.code.instrs (pc + 1) ends → Comes m pc (v ∷ []) answers left (ended (finishes m.given.takes (Some v) answers left))
  hold_comes pc v answers left at has =
      let r = ends_comes v (pc + 1) answers left has in
      (suc r.0, ap (λ o. going m.room (move m o pc (v ∷ []) (pos 0) left) answers (exec m r.0)) at ∙ r.1)

  -- a body, and then the frame ends
  pub body_comes : (pc pc' : ℕ) (answers : List ℤ) (left : ℕ) (g : Got Flow) → HasAt m.code.instrs pc' ends → Acts m pc [] [] answers left pc' g → Comes m pc [] answers left (ended (g >>= finishes m.given.takes))
  body_comes pc pc' answers left (Asks k) has r = r
  body_comes pc pc' answers left (Gives (Some v) a l) has r = r
  body_comes pc pc' answers left (Gives None a l) has r = comes_on m pc pc' [] [] answers a left l _ r (ends_comes (pos 0) pc' a l has)
