-- Stretches of code, one after another. A frame has 0 as its result until a `return`.
use Rattle.std.proofs.Common.{◌≡◌, ℕ, zero, suc, ◌+◌, ◌-◌, ◌<◌, ◌≤◌, ℤ, pos, Bool, true, false, List, [], ◌∷◌, length, Option, Some, None, refl, ap, ◌∙◌, arith, if◌then◌else◌}
use Rattle.std.specs.Prelude.{slice_get, nat_lt}
use Rattle.std.proofs.lemmas.Bool.{lt-ltb}
use Rattle.cilk_types.specs.declared.fault.Fault.{Fault}
use Rattle.cilk_program.specs.declared.ask.Ask.{Ask}
use Rattle.cilk_program.specs.Operators.{is_zero}
use Rattle.cilk_program.specs.Behaviour.{OpenAsk, asks_for, Got, Gives, Asks, ◌>>=◌, tick, ask, tick_gives, or_fault, Flow, ended, finishes}
use Rattle.cilk_lower.specs.declared.code.Instr.{Instr}
use Rattle.cilk_lower.specs.declared.code.Instr.TheVariants as instrs
use Rattle.cilk_lower.specs.declared.code.Owed.{Owed}
use Rattle.cilk_lower.specs.declared.code.Owed.TheVariants.{Nothing, Word}
use Rattle.cilk_lower.specs.Machine.{Setting, Move, Goes, Waits, Stops, MachineRun, Reaches, going, move, exec, ticked, or_stops}

abbrev pub runs : Setting → ℕ → ℕ → List ℤ → List ℤ → ℕ → MachineRun
runs m k pc stack answers left = exec m k pc stack (pos 0) answers left

abbrev pub moves : Setting → Instr → ℕ → List ℤ → ℕ → Move
moves m i pc stack left = move m (Some i) pc stack (pos 0) left

abbrev pub Stands : Setting → ℕ → Instr → Type 0
Stands m pc i = slice_get m.code.instrs pc ≡ Some i

-- the machine goes from one state to another
pub record Leads (m : Setting) (pc : ℕ) (stack answers : List ℤ) (left : ℕ) (pc' : ℕ) (stack' answers' : List ℤ) (left' : ℕ) : Type 0 where
  pub by : (k : ℕ) → (j : ℕ) × (k ≤ j) × (runs m j pc stack answers left ≡ runs m k pc' stack' answers' left')

-- the machine reaches a request that has no answer yet
abbrev pub Comes : Setting → ℕ → List ℤ → List ℤ → ℕ → OpenAsk → Type 0
Comes m pc stack answers left k = (j : ℕ) × (runs m j pc stack answers left ≡ Reaches k)

-- The effect of a stretch of code on a stack: it pushes the value, or makes the same request.
abbrev pub Does : Setting → ℕ → List ℤ → List ℤ → List ℤ → ℕ → ℕ → Got ℤ → Type 0
Does m pc from stack answers left pc' (Gives v answers' left') = Leads m pc from answers left pc' (v ∷ stack) answers' left'
Does m pc from stack answers left pc' (Asks k) = Comes m pc from answers left k

-- the same of a statement: it continues, or ends the frame with a value
abbrev pub Acts : Setting → ℕ → List ℤ → List ℤ → List ℤ → ℕ → ℕ → Got Flow → Type 0
Acts m pc from stack answers left pc' (Gives None answers' left') = Leads m pc from answers left pc' stack answers' left'
Acts m pc from stack answers left pc' (Gives (Some v) answers' left') = Comes m pc from answers left (ended (finishes m.given.takes (Some v) answers' left'))
Acts m pc from stack answers left pc' (Asks k) = Comes m pc from answers left k

pub within : {A : Type 0} (n room : ℕ) (x y : A) → n < room → (if nat_lt n room then x else y) ≡ x
within n room x y h = ap (λ b. if b then x else y) (lt-ltb n room h)

module _ (m : Setting) where
  pub one : (pc : ℕ) (stack answers : List ℤ) (left : ℕ) (i : Instr) → Stands m pc i → (k : ℕ) → runs m (suc k) pc stack answers left ≡ going m.room (moves m i pc stack left) answers (exec m k)
  one pc stack answers left i h k = ap (λ o. going m.room (move m o pc stack (pos 0) left) answers (exec m k)) h

  -- an instruction that continues for any answers
  pub leads_one : (pc : ℕ) (stack answers : List ℤ) (left : ℕ) (i : Instr) (pc' : ℕ) (stack' : List ℤ) (left' : ℕ) → Stands m pc i → moves m i pc stack left ≡ Goes pc' stack' (pos 0) left' → Leads m pc stack answers left pc' stack' answers left'
  leads_one pc stack answers left i pc' stack' left' h e = record { by = λ k. (suc k, omega arith, one pc stack answers left i h k ∙ ap (λ x. going m.room x answers (exec m k)) e) }

  pub stays : (pc : ℕ) (stack answers : List ℤ) (left : ℕ) → Leads m pc stack answers left pc stack answers left
  stays pc stack answers left = record { by = λ k. (k, omega arith, refl) }

  pub comes_one : (pc : ℕ) (stack answers : List ℤ) (left : ℕ) (i : Instr) (k : Ask) (left' : ℕ) → Stands m pc i → moves m i pc stack left ≡ Stops k left' → Comes m pc stack answers left (asks_for k left')
  comes_one pc stack answers left i k left' h e = (1, one pc stack answers left i h 0 ∙ ap (λ x. going m.room x answers (exec m 0)) e)

  -- an instruction with a request: without an answer, with one that pushes nothing, and with one
  -- that pushes a word
  pub comes_ask : (pc : ℕ) (from : List ℤ) (left : ℕ) (i : Instr) (k : Ask) (owed : Owed) (pc' : ℕ) (stack : List ℤ) (left' : ℕ) → Stands m pc i → moves m i pc from left ≡ Waits k owed pc' stack (pos 0) left' → Comes m pc from [] left (asks_for k left')
  comes_ask pc from left i k owed pc' stack left' h e = (1, one pc from [] left i h 0 ∙ ap (λ x. going m.room x [] (exec m 0)) e)

  pub leads_done : (pc : ℕ) (from : List ℤ) (a : ℤ) (answers : List ℤ) (left : ℕ) (i : Instr) (k : Ask) (pc' : ℕ) (stack : List ℤ) (left' : ℕ) → Stands m pc i → moves m i pc from left ≡ Waits k Nothing pc' stack (pos 0) left' → Leads m pc from (a ∷ answers) left pc' stack answers left'
  leads_done pc from a answers left i k pc' stack left' h e = record { by = λ n. (suc n, omega arith, one pc from (a ∷ answers) left i h n ∙ ap (λ x. going m.room x (a ∷ answers) (exec m n)) e) }

  pub leads_word : (pc : ℕ) (from : List ℤ) (a : ℤ) (answers : List ℤ) (left : ℕ) (i : Instr) (k : Ask) (pc' : ℕ) (stack : List ℤ) (left' : ℕ) → Stands m pc i → moves m i pc from left ≡ Waits k Word pc' stack (pos 0) left' → length stack < m.room → Leads m pc from (a ∷ answers) left pc' (a ∷ stack) answers left'
  leads_word pc from a answers left i k pc' stack left' h e fits =
      record { by = λ n. (suc n, omega arith, one pc from (a ∷ answers) left i h n ∙ ap (λ x. going m.room x (a ∷ answers) (exec m n)) e ∙ within (length stack) m.room _ _ fits) }

  -- one stretch after another
  pub leads_on : (pc pc1 pc2 : ℕ) (s s1 s2 a a1 a2 : List ℤ) (l l1 l2 : ℕ) → Leads m pc s a l pc1 s1 a1 l1 → Leads m pc1 s1 a1 l1 pc2 s2 a2 l2 → Leads m pc s a l pc2 s2 a2 l2
  leads_on pc pc1 pc2 s s1 s2 a a1 a2 l l1 l2 f r = record { by = λ k. let b = r.by k in let c = f.by b.0 in (c.0, omega (arith, c.1, b.1), c.2 ∙ b.2) }

  pub comes_on : (pc pc1 : ℕ) (s s1 a a1 : List ℤ) (l l1 : ℕ) (k : OpenAsk) → Leads m pc s a l pc1 s1 a1 l1 → Comes m pc1 s1 a1 l1 k → Comes m pc s a l k
  comes_on pc pc1 s s1 a a1 l l1 k f r = let c = f.by r.0 in (c.0, c.2 ∙ r.1)

  pub then_does : (pc pc1 pc' : ℕ) (stack s s1 a a1 : List ℤ) (l l1 : ℕ) (g : Got ℤ) → Leads m pc s a l pc1 s1 a1 l1 → Does m pc1 s1 stack a1 l1 pc' g → Does m pc s stack a l pc' g
  then_does pc pc1 pc' stack s s1 a a1 l l1 (Gives v a2 l2) f r = leads_on pc pc1 pc' s s1 (v ∷ stack) a a1 a2 l l1 l2 f r
  then_does pc pc1 pc' stack s s1 a a1 l l1 (Asks k) f r = comes_on pc pc1 s s1 a a1 l l1 k f r

  pub then_acts : (pc pc1 pc' : ℕ) (stack s s1 a a1 : List ℤ) (l l1 : ℕ) (g : Got Flow) → Leads m pc s a l pc1 s1 a1 l1 → Acts m pc1 s1 stack a1 l1 pc' g → Acts m pc s stack a l pc' g
  then_acts pc pc1 pc' stack s s1 a a1 l l1 (Gives None a2 l2) f r = leads_on pc pc1 pc' s s1 stack a a1 a2 l l1 l2 f r
  then_acts pc pc1 pc' stack s s1 a a1 l l1 (Gives (Some v) a2 l2) f r = comes_on pc pc1 s s1 a a1 l l1 _ f r
  then_acts pc pc1 pc' stack s s1 a a1 l l1 (Asks k) f r = comes_on pc pc1 s s1 a a1 l l1 k f r

  -- an instruction that uses a tick and pushes a value
  pub ticked_does : (pc : ℕ) (from stack answers : List ℤ) (left : ℕ) (i : Instr) (v : ℤ) → Stands m pc i → moves m i pc from left ≡ ticked left (Goes (pc + 1) (v ∷ stack) (pos 0)) → Does m pc from stack answers left (pc + 1) (tick_gives v answers left)
  ticked_does pc from stack answers zero i v h e = comes_one pc from answers zero i _ _ h e
  ticked_does pc from stack answers (suc left) i v h e = leads_one pc from answers (suc left) i _ _ _ h e

  -- one that checks its operands before its tick
  pub checked_does : (pc : ℕ) (from stack answers : List ℤ) (left : ℕ) (i : Instr) (f : Fault) (o : Option ℤ) → Stands m pc i → moves m i pc from left ≡ or_stops f o left (λ v. ticked left (Goes (pc + 1) (v ∷ stack) (pos 0))) → Does m pc from stack answers left (pc + 1) (or_fault f o answers left >>= tick_gives)
  checked_does pc from stack answers left i f None h e = comes_one pc from answers left i _ _ h e
  checked_does pc from stack answers left i f (Some v) h e = ticked_does pc from stack answers left i v h e

  -- one that also pushes a number, for another tick, and then checks its operands
  pub pushed_does : (pc pc' : ℕ) (from stack answers : List ℤ) (left : ℕ) (i : Instr) (n : ℤ) (f : Fault) (o : ℤ → Option ℤ) → Stands m pc i → moves m i pc from left ≡ ticked left (λ left. or_stops f (o n) left (λ v. ticked left (Goes pc' (v ∷ stack) (pos 0)))) →
      Does m pc from stack answers left pc' (tick_gives n answers left >>= λ n answers left. or_fault f (o n) answers left >>= tick_gives)
  pushed_does pc pc' from stack answers zero i n f o h e = comes_one pc from answers zero i _ _ h e
  pushed_does pc pc' from stack answers (suc left) i n f o h e = applied (o n) left e
    where
      applied : (r : Option ℤ) (l : ℕ) → moves m i pc from (suc left) ≡ or_stops f r l (λ v. ticked l (Goes pc' (v ∷ stack) (pos 0))) → Does m pc from stack answers (suc left) pc' (or_fault f r answers l >>= tick_gives)
      applied None l e = comes_one pc from answers (suc left) i _ _ h e
      applied (Some v) zero e = comes_one pc from answers (suc left) i _ _ h e
      applied (Some v) (suc l) e = leads_one pc from answers (suc left) i _ _ _ h e

  -- one that requests a value after its tick
  pub asked_does : (pc : ℕ) (from stack answers : List ℤ) (left : ℕ) (i : Instr) (k : Ask) → Stands m pc i → moves m i pc from left ≡ ticked left (Waits k Word (pc + 1) stack (pos 0)) → length stack < m.room → Does m pc from stack answers left (pc + 1) (tick answers left >>= λ _. ask k)
  asked_does pc from stack answers zero i k h e fits = comes_one pc from answers zero i _ _ h e
  asked_does pc from stack [] (suc left) i k h e fits = comes_ask pc from (suc left) i k Word (pc + 1) stack left h e
  asked_does pc from stack (a ∷ answers) (suc left) i k h e fits = leads_word pc from a answers (suc left) i k (pc + 1) stack left h e fits

  -- a value above the operands there, and then a stretch that begins with it on top
  pub value_does : (pc pc1 pc' : ℕ) (from stack answers : List ℤ) (left : ℕ) (g : Got ℤ) (h : ℤ → List ℤ → ℕ → Got ℤ) → Does m pc from from answers left pc1 g → ((v : ℤ) (a : List ℤ) (l : ℕ) → Does m pc1 (v ∷ from) stack a l pc' (h v a l)) → Does m pc from stack answers left pc' (g >>= h)
  value_does pc pc1 pc' from stack answers left (Asks k) h r s = r
  value_does pc pc1 pc' from stack answers left (Gives v a l) h r s = then_does pc pc1 pc' stack from (v ∷ from) answers a left l (h v a l) r (s v a l)

  pub value_acts : (pc pc1 pc' : ℕ) (from stack answers : List ℤ) (left : ℕ) (g : Got ℤ) (h : ℤ → List ℤ → ℕ → Got Flow) → Does m pc from from answers left pc1 g → ((v : ℤ) (a : List ℤ) (l : ℕ) → Acts m pc1 (v ∷ from) stack a l pc' (h v a l)) → Acts m pc from stack answers left pc' (g >>= h)
  value_acts pc pc1 pc' from stack answers left (Asks k) h r s = r
  value_acts pc pc1 pc' from stack answers left (Gives v a l) h r s = then_acts pc pc1 pc' stack from (v ∷ from) answers a left l (h v a l) r (s v a l)

  -- a statement's tick
  pub tick_acts : (pc pc' : ℕ) (stack answers : List ℤ) (left : ℕ) (h : List ℤ → ℕ → Got Flow) → Stands m pc instrs.Tick → ((a : List ℤ) (l : ℕ) → Acts m (pc + 1) stack stack a l pc' (h a l)) → Acts m pc stack stack answers left pc' (tick answers left >>= λ _. h)
  tick_acts pc pc' stack answers zero h at r = comes_one pc stack answers zero instrs.Tick _ _ at refl
  tick_acts pc pc' stack answers (suc left) h at r = then_acts pc (pc + 1) pc' stack stack stack answers answers (suc left) left (h answers left) (leads_one pc stack answers (suc left) instrs.Tick _ _ _ at refl) (r answers left)

  -- an instruction that requests a word without a tick
  pub word_acts : (pc pc' : ℕ) (from rest stack answers : List ℤ) (left : ℕ) (i : Instr) (k : Ask) (h : ℤ → List ℤ → ℕ → Got Flow) → Stands m pc i → moves m i pc from left ≡ Waits k Word (pc + 1) rest (pos 0) left → length rest < m.room →
      ((v : ℤ) (a : List ℤ) (l : ℕ) → Acts m (pc + 1) (v ∷ rest) stack a l pc' (h v a l)) → Acts m pc from stack answers left pc' (ask k answers left >>= h)
  word_acts pc pc' from rest stack [] left i k h at e fits r = comes_ask pc from left i k Word (pc + 1) rest left at e
  word_acts pc pc' from rest stack (a ∷ answers) left i k h at e fits r =
      then_acts pc (pc + 1) pc' stack from (a ∷ rest) (a ∷ answers) answers left left (h a answers left) (leads_word pc from a answers left i k (pc + 1) rest left at e fits) (r a answers left)

  -- one without request and tick
  pub quiet_acts : (pc pc1 pc' : ℕ) (from s1 stack answers : List ℤ) (left : ℕ) (i : Instr) (g : Got Flow) → Stands m pc i → moves m i pc from left ≡ Goes pc1 s1 (pos 0) left → Acts m pc1 s1 stack answers left pc' g → Acts m pc from stack answers left pc' g
  quiet_acts pc pc1 pc' from s1 stack answers left i g at e r = then_acts pc pc1 pc' stack from s1 answers answers left left g (leads_one pc from answers left i pc1 s1 left at e) r

  -- a jump over a stretch
  pub jump_does : (pc pc1 n : ℕ) (from stack answers : List ℤ) (left : ℕ) (g : Got ℤ) → Stands m pc1 (instrs.Jump n) → Does m pc from stack answers left pc1 g → Does m pc from stack answers left (pc1 + 1 + n) g
  jump_does pc pc1 n from stack answers left (Asks k) at r = r
  jump_does pc pc1 n from stack answers left (Gives v a l) at r = leads_on pc pc1 (pc1 + 1 + n) from (v ∷ stack) (v ∷ stack) answers a a left l l r (leads_one pc1 (v ∷ stack) a l (instrs.Jump n) _ _ _ at refl)

  pub jump_acts : (pc pc1 n : ℕ) (from stack answers : List ℤ) (left : ℕ) (g : Got Flow) → Stands m pc1 (instrs.Jump n) → Acts m pc from stack answers left pc1 g → Acts m pc from stack answers left (pc1 + 1 + n) g
  jump_acts pc pc1 n from stack answers left (Asks k) at r = r
  jump_acts pc pc1 n from stack answers left (Gives (Some v) a l) at r = r
  jump_acts pc pc1 n from stack answers left (Gives None a l) at r = leads_on pc pc1 (pc1 + 1 + n) from stack stack answers a a left l l r (leads_one pc1 stack a l (instrs.Jump n) _ _ _ at refl)

  skips : (t : Bool) (pc n : ℕ) (v : ℤ) (stack answers : List ℤ) (left : ℕ) → is_zero v ≡ t → Stands m pc (instrs.JumpIfZero n) → Leads m pc (v ∷ stack) answers left (if t then pc + 1 + n else pc + 1) stack answers left
  skips true pc n v stack answers left e at = leads_one pc (v ∷ stack) answers left (instrs.JumpIfZero n) _ _ _ at (ap (λ t. if t then Goes (pc + 1 + n) stack (pos 0) left else Goes (pc + 1) stack (pos 0) left) e)
  skips false pc n v stack answers left e at = leads_one pc (v ∷ stack) answers left (instrs.JumpIfZero n) _ _ _ at (ap (λ t. if t then Goes (pc + 1 + n) stack (pos 0) left else Goes (pc + 1) stack (pos 0) left) e)

  -- a choice, with the value of its test on the stack
  pub choose_does : (t : Bool) (pc n pc' : ℕ) (v : ℤ) (stack answers : List ℤ) (left : ℕ) (x y : Got ℤ) → is_zero v ≡ t → Stands m pc (instrs.JumpIfZero n) → Does m (pc + 1) stack stack answers left pc' x → Does m (pc + 1 + n) stack stack answers left pc' y → Does m pc (v ∷ stack) stack answers left pc' (if t then y else x)
  choose_does true pc n pc' v stack answers left x y e at rx ry = then_does pc (pc + 1 + n) pc' stack (v ∷ stack) stack answers answers left left y (skips true pc n v stack answers left e at) ry
  choose_does false pc n pc' v stack answers left x y e at rx ry = then_does pc (pc + 1) pc' stack (v ∷ stack) stack answers answers left left x (skips false pc n v stack answers left e at) rx

  backs : (t : Bool) (pc n : ℕ) (v : ℤ) (stack answers : List ℤ) (left : ℕ) → is_zero v ≡ t → Stands m pc (instrs.JumpBackUnlessZero n) → Leads m pc (v ∷ stack) answers left (if t then pc + 1 else pc - n) stack answers left
  backs true pc n v stack answers left e at = leads_one pc (v ∷ stack) answers left (instrs.JumpBackUnlessZero n) _ _ _ at (ap (λ t. if t then Goes (pc + 1) stack (pos 0) left else Goes (pc - n) stack (pos 0) left) e)
  backs false pc n v stack answers left e at = leads_one pc (v ∷ stack) answers left (instrs.JumpBackUnlessZero n) _ _ _ at (ap (λ t. if t then Goes (pc + 1) stack (pos 0) left else Goes (pc - n) stack (pos 0) left) e)

  pub choose_acts : (t : Bool) (pc n pc' : ℕ) (v : ℤ) (stack answers : List ℤ) (left : ℕ) (x y : Got Flow) → is_zero v ≡ t → Stands m pc (instrs.JumpIfZero n) → Acts m (pc + 1) stack stack answers left pc' x → Acts m (pc + 1 + n) stack stack answers left pc' y → Acts m pc (v ∷ stack) stack answers left pc' (if t then y else x)
  choose_acts true pc n pc' v stack answers left x y e at rx ry = then_acts pc (pc + 1 + n) pc' stack (v ∷ stack) stack answers answers left left y (skips true pc n v stack answers left e at) ry
  choose_acts false pc n pc' v stack answers left x y e at rx ry = then_acts pc (pc + 1) pc' stack (v ∷ stack) stack answers answers left left x (skips false pc n v stack answers left e at) rx

  pub back_acts : (t : Bool) (pc n pc' : ℕ) (v : ℤ) (stack answers : List ℤ) (left : ℕ) (x y : Got Flow) → is_zero v ≡ t → Stands m pc (instrs.JumpBackUnlessZero n) → Acts m (pc - n) stack stack answers left pc' x → Acts m (pc + 1) stack stack answers left pc' y → Acts m pc (v ∷ stack) stack answers left pc' (if t then y else x)
  back_acts true pc n pc' v stack answers left x y e at rx ry = then_acts pc (pc + 1) pc' stack (v ∷ stack) stack answers answers left left y (backs true pc n v stack answers left e at) ry
  back_acts false pc n pc' v stack answers left x y e at rx ry = then_acts pc (pc - n) pc' stack (v ∷ stack) stack answers answers left left x (backs false pc n v stack answers left e at) rx
