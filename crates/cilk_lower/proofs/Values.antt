-- The machine makes the requests of the expression that its instructions were made from, and pushes
-- its value.
use Rattle.std.proofs.Common.{◌≡◌, ℕ, suc, ◌+◌, ◌<◌, ◌≤◌, ℤ, pos, neg_ℤ, List, [], ◌∷◌, ◌++◌, length, Option, Some, None, refl, sym, ap, subst, arith, length-append}
use Rattle.cilk_types.specs.Input.{input_at, input_count}
use Rattle.cilk_types.specs.Word.{word_of}
use Rattle.cilk_types.specs.declared.fault.Fault.TheVariants.{DivisionByZero, IndexOutside, InputOutside}
use Rattle.cilk_program.specs.declared.syntax.Array.{Array}
use Rattle.cilk_program.specs.declared.syntax.Operator.{Operator}
use Rattle.cilk_program.specs.declared.syntax.Place.{Place}
use Rattle.cilk_program.specs.declared.ask.Ask.TheVariants as asks
use Rattle.cilk_program.specs.Syntax.{Expression, Number, Variable, Element, Negate, Not, Binary, And, Or, Value, Input, InputCount, element}
use Rattle.cilk_program.specs.Operators.{is_zero, truth, truth_of, apply}
use Rattle.cilk_program.specs.Behaviour.{Got, ◌>>=◌, tick, ask, tick_gives, or_fault, chosen, value}
use Rattle.cilk_lower.specs.declared.code.Instr.{Instr}
use Rattle.cilk_lower.specs.declared.code.Instr.TheVariants as instrs
use Rattle.cilk_lower.specs.Code.{literal, right_code, expr_code, and_code, or_code}
use Rattle.cilk_lower.specs.declared.code.Owed.TheVariants.{Word}
use Rattle.cilk_lower.specs.Machine.{Setting, Waits, ticked, or_stops}
use Rattle.cilk_lower.specs.Rooms.{depth}
use Rattle.cilk_lower.proofs.Leads.{Stands, Does, within, comes_one, asked_does, ticked_does, checked_does, pushed_does, value_does, jump_does, choose_does}
use Rattle.cilk_lower.specs.Bodies.{HasAt}
use Rattle.cilk_lower.proofs.Places.{has_front, has_back}

pub depth_some : (e : Expression) → 0 < depth e
depth_some (Number n) = omega arith
depth_some (Variable x) = omega arith
depth_some (Element a e) = depth_some e
depth_some (Negate e) = depth_some e
depth_some (Not e) = depth_some e
depth_some (Binary op a b) = omega arith
depth_some (And a b) = omega (arith, depth_some a)
depth_some (Or a b) = omega (arith, depth_some a)
depth_some (Value r) = omega arith
depth_some (Input e) = depth_some e
depth_some InputCount = omega arith

-- a number takes the place of its `Push`
pub right_long : (op : Operator) (e : Expression) → length (right_code op (literal e) (expr_code e)) ≡ length (expr_code e)
right_long op (Number n) = refl
right_long op (Variable x) = refl
right_long op (Element a e) = refl
right_long op (Negate e) = refl
right_long op (Not e) = refl
right_long op (Binary o a b) = refl
right_long op (And a b) = refl
right_long op (Or a b) = refl
right_long op (Value r) = refl
right_long op (Input e) = refl
right_long op InputCount = refl

is_number : (e : Expression) (n : ℤ) → literal e ≡ Some n → e ≡ Number n
is_number (Number k) n h = cc
is_number (Variable x) n h = cc
is_number (Element a e) n h = cc
is_number (Negate e) n h = cc
is_number (Not e) n h = cc
is_number (Binary op a b) n h = cc
is_number (And a b) n h = cc
is_number (Or a b) n h = cc
is_number (Value r) n h = cc
is_number (Input e) n h = cc
is_number InputCount n h = cc

-- an operand needs at least one instruction
pub depth_short : (e : Expression) → depth e ≤ length (expr_code e)
depth_short (Number n) = omega arith
depth_short (Variable x) = omega arith
depth_short (Element a e) = omega (arith, depth_short e, length-append (expr_code e) (instrs.LoadElement a ∷ []))
depth_short (Negate e) = omega (arith, depth_short e, length-append (expr_code e) (instrs.Negate ∷ []))
depth_short (Not e) = omega (arith, depth_short e, length-append (expr_code e) (instrs.Not ∷ []))
depth_short (Binary op a b) =
    let cb = right_code op (literal b) (expr_code b) in
    let l = length-append (expr_code a) (cb ++ instrs.Apply op ∷ []) in
    omega (arith, depth_short a, depth_short b, right_long op b, length-append cb (instrs.Apply op ∷ []))
depth_short (And a b) =
    let post = instrs.Truth ∷ (instrs.Jump 1 ∷ (instrs.Push (pos 0) ∷ [])) in
    let l = length-append (expr_code a) (instrs.JumpIfZero (length (expr_code b) + 2) ∷ (expr_code b ++ post)) in
    omega (arith, depth_short a, depth_short b, length-append (expr_code b) post)
depth_short (Or a b) =
    let l = length-append (expr_code a) (instrs.JumpIfZero 2 ∷ (instrs.Push (pos 1) ∷ (instrs.Jump (length (expr_code b) + 1) ∷ (expr_code b ++ instrs.Truth ∷ [])))) in
    omega (arith, depth_short a, depth_short b, length-append (expr_code b) (instrs.Truth ∷ []))
depth_short (Value r) = omega arith
depth_short (Input e) = omega (arith, depth_short e, length-append (expr_code e) (instrs.Input ∷ []))
depth_short InputCount = omega arith

-- the value of an operator's operands
abbrev applied : Operator → ℤ → ℤ → List ℤ → ℕ → Got ℤ
applied op x y answers left = or_fault DivisionByZero (apply op x y) answers left >>= tick_gives

module _ (m : Setting) where
  push_does : (n : ℤ) (pc : ℕ) (stack answers : List ℤ) (left : ℕ) → length stack < m.room → Stands m pc (instrs.Push n) → Does m pc stack stack answers left (pc + 1) (tick_gives n answers left)
  push_does n pc stack answers left fits at = ticked_does m pc stack stack answers left (instrs.Push n) n at (within (length stack) m.room _ _ fits)

  element_does : (arr : Array) (i : ℤ) (o : Option Place) (pc : ℕ) (stack answers : List ℤ) (left : ℕ) → length stack < m.room → element arr i ≡ o → Stands m pc (instrs.LoadElement arr) → Does m pc (i ∷ stack) stack answers left (pc + 1) (or_fault IndexOutside o answers left >>= λ x answers left. tick answers left >>= λ _. ask (asks.Read x))
  element_does arr i None pc stack answers left fits e at =
      comes_one m pc (i ∷ stack) answers left (instrs.LoadElement arr) _ _ at (ap (λ o. or_stops IndexOutside o left (λ x. ticked left (Waits (asks.Read x) Word (pc + 1) stack (pos 0)))) e)
  element_does arr i (Some x) pc stack answers left fits e at =
      asked_does m pc (i ∷ stack) stack answers left (instrs.LoadElement arr) (asks.Read x) at (ap (λ o. or_stops IndexOutside o left (λ x. ticked left (Waits (asks.Read x) Word (pc + 1) stack (pos 0)))) e) fits

  -- an operand, and an instruction that begins with it on top
  last_does : (e : Expression) (i : Instr) (h : ℤ → List ℤ → ℕ → Got ℤ) (pc : ℕ) (stack answers : List ℤ) (left : ℕ) → HasAt m.code.instrs pc (expr_code e ++ i ∷ []) →
      Does m pc stack stack answers left (pc + length (expr_code e)) (value m.inputs e answers left) →
      ((v : ℤ) (a : List ℤ) (l : ℕ) → Stands m (pc + length (expr_code e)) i → Does m (pc + length (expr_code e)) (v ∷ stack) stack a l (pc + length (expr_code e) + 1) (h v a l)) →
      Does m pc stack stack answers left (pc + length (expr_code e ++ i ∷ [])) (value m.inputs e answers left >>= h)
  last_does e i h pc stack answers left has r s =
      let ce = expr_code e in
      let at = (has_back m.code.instrs pc ce (i ∷ []) has).0 in
      let len : pc + length ce + 1 ≡ pc + length (ce ++ i ∷ []) = omega (arith, length-append ce (i ∷ [])) in
      subst (λ n. Does m pc stack stack answers left n (value m.inputs e answers left >>= h)) len
      (value_does m pc (pc + length ce) (pc + length ce + 1) stack stack answers left (value m.inputs e answers left) h r (λ v a l. s v a l at))

  -- an operator with its right operand, above the left one
  right_does : (op : Operator) (f : Expression) (o : Option ℤ) (x : ℤ) (pc : ℕ) (stack answers : List ℤ) (left : ℕ) → literal f ≡ o →
      (HasAt m.code.instrs pc (expr_code f) → Does m pc (x ∷ stack) (x ∷ stack) answers left (pc + length (expr_code f)) (value m.inputs f answers left)) →
      HasAt m.code.instrs pc (right_code op o (expr_code f) ++ instrs.Apply op ∷ []) →
      Does m pc (x ∷ stack) stack answers left (pc + length (right_code op o (expr_code f) ++ instrs.Apply op ∷ [])) (value m.inputs f answers left >>= applied op x)
  right_does op f (Some n) x pc stack answers left e r has =
      subst (λ f. Does m pc (x ∷ stack) stack answers left (pc + 2) (value m.inputs f answers left >>= applied op x)) (sym (is_number f n e))
      (pushed_does m pc (pc + 2) (x ∷ stack) stack answers left (instrs.ApplyNumber op n) n DivisionByZero (apply op x) has.0 refl)
  right_does op f None x pc stack answers left e r has =
      let cf = expr_code f in
      let p = pc + length cf in
      let at = (has_back m.code.instrs pc cf (instrs.Apply op ∷ []) has).0 in
      let len : p + 1 ≡ pc + length (cf ++ instrs.Apply op ∷ []) = omega (arith, length-append cf (instrs.Apply op ∷ [])) in
      subst (λ n. Does m pc (x ∷ stack) stack answers left n (value m.inputs f answers left >>= applied op x)) len
      (value_does m pc p (p + 1) (x ∷ stack) stack answers left (value m.inputs f answers left) (applied op x) (r (has_front m.code.instrs pc cf _ has))
      (λ y a l. checked_does m p (y ∷ x ∷ stack) stack a l (instrs.Apply op) DivisionByZero (apply op x y) at refl))

  pub expr_does : (e : Expression) (pc : ℕ) (stack answers : List ℤ) (left : ℕ) → length stack + depth e ≤ m.room → HasAt m.code.instrs pc (expr_code e) → Does m pc stack stack answers left (pc + length (expr_code e)) (value m.inputs e answers left)
  expr_does (Number n) pc stack answers left fits has = push_does n pc stack answers left (omega arith) has.0
  expr_does (Variable x) pc stack answers left fits has = asked_does m pc stack stack answers left (instrs.Load x) (asks.Read x) has.0 refl (omega arith)
  expr_does (Value r) pc stack answers left fits has = asked_does m pc stack stack answers left (instrs.Value r) (asks.Value r) has.0 refl (omega arith)
  expr_does (Element arr e) pc stack answers left fits has =
      let some = depth_some e in
      let low : length stack < m.room = omega arith in
      last_does e (instrs.LoadElement arr) (λ i a l. or_fault IndexOutside (element arr i) a l >>= λ x a l. tick a l >>= λ _. ask (asks.Read x)) pc stack answers left has
      (expr_does e pc stack answers left fits (has_front m.code.instrs pc (expr_code e) _ has))
      (λ i a l at. element_does arr i (element arr i) _ stack a l low refl at)
  expr_does (Negate e) pc stack answers left fits has =
      last_does e instrs.Negate (λ x. tick_gives (word_of (neg_ℤ x))) pc stack answers left has (expr_does e pc stack answers left fits (has_front m.code.instrs pc (expr_code e) _ has))
      (λ v a l at. ticked_does m _ (v ∷ stack) stack a l instrs.Negate (word_of (neg_ℤ v)) at refl)
  expr_does (Not e) pc stack answers left fits has =
      last_does e instrs.Not (λ x. tick_gives (truth_of (is_zero x))) pc stack answers left has (expr_does e pc stack answers left fits (has_front m.code.instrs pc (expr_code e) _ has))
      (λ v a l at. ticked_does m _ (v ∷ stack) stack a l instrs.Not (truth_of (is_zero v)) at refl)
  expr_does (Input e) pc stack answers left fits has =
      last_does e instrs.Input (λ x a l. or_fault InputOutside (input_at m.inputs x) a l >>= tick_gives) pc stack answers left has (expr_does e pc stack answers left fits (has_front m.code.instrs pc (expr_code e) _ has))
      (λ v a l at. checked_does m _ (v ∷ stack) stack a l instrs.Input InputOutside (input_at m.inputs v) at refl)
  expr_does InputCount pc stack answers left fits has =
      ticked_does m pc stack stack answers left instrs.InputCount (input_count m.inputs) has.0 (within (length stack) m.room _ _ (omega arith))
  expr_does (Binary op e f) pc stack answers left fits has =
      let ca = expr_code e in let cb = expr_code f in
      let right = right_code op (literal f) cb ++ instrs.Apply op ∷ [] in
      let p1 = pc + length ca in
      let p3 = p1 + length right in
      let behind = has_back m.code.instrs pc ca right has in
      let room_a : length stack + depth e ≤ m.room = omega arith in
      let room_b : suc (length stack) + depth f ≤ m.room = omega arith in
      let len : p3 ≡ pc + length (ca ++ right) = omega (arith, length-append ca right) in
      subst (λ n. Does m pc stack stack answers left n (value m.inputs (Binary op e f) answers left)) len
      (value_does m pc p1 p3 stack stack answers left (value m.inputs e answers left) (λ x a l. value m.inputs f a l >>= applied op x) (expr_does e pc stack answers left room_a (has_front m.code.instrs pc ca _ has))
      (λ x a l. right_does op f (literal f) x p1 stack a l refl (λ at. expr_does f p1 (x ∷ stack) a l room_b at) behind))
  expr_does (And e f) pc stack answers left fits has =
      let ca = expr_code e in let cb = expr_code f in
      let post = instrs.Truth ∷ (instrs.Jump 1 ∷ (instrs.Push (pos 0) ∷ [])) in
      let rest = instrs.JumpIfZero (length cb + 2) ∷ (cb ++ post) in
      let p1 = pc + length ca in
      let p2 = p1 + 1 + length cb in
      let behind = has_back m.code.instrs pc ca rest has in
      let after = has_back m.code.instrs (p1 + 1) cb post behind.1 in
      let some = depth_some e in
      let low : length stack < m.room = omega arith in
      let room_a : length stack + depth e ≤ m.room = omega arith in
      let room_b : length stack + depth f ≤ m.room = omega arith in
      let len : p2 + 1 + 1 + 1 ≡ pc + length (and_code ca cb) = omega (arith, length-append ca rest, length-append cb post) in
      let zero_at : p2 + 1 + 1 ≡ p1 + 1 + (length cb + 2) = omega arith in
      let right : ℤ → List ℤ → ℕ → Got ℤ = λ y. tick_gives (truth y) in
      subst (λ n. Does m pc stack stack answers left n (value m.inputs (And e f) answers left)) len
      (value_does m pc p1 (p2 + 1 + 1 + 1) stack stack answers left (value m.inputs e answers left) (λ x a l. chosen x (value m.inputs f a l >>= right) (tick_gives (pos 0) a l)) (expr_does e pc stack answers left room_a (has_front m.code.instrs pc ca _ has))
      (λ x a l. choose_does m (is_zero x) p1 (length cb + 2) (p2 + 1 + 1 + 1) x stack a l (value m.inputs f a l >>= right) (tick_gives (pos 0) a l) refl behind.0
      (jump_does m (p1 + 1) (p2 + 1) 1 stack stack a l (value m.inputs f a l >>= right) after.1.0
      (value_does m (p1 + 1) p2 (p2 + 1) stack stack a l (value m.inputs f a l) right (expr_does f (p1 + 1) stack a l room_b (has_front m.code.instrs (p1 + 1) cb _ behind.1))
      (λ y a l. ticked_does m p2 (y ∷ stack) stack a l instrs.Truth (truth y) after.0 refl)))
      (subst (λ n. Does m n stack stack a l (p2 + 1 + 1 + 1) (tick_gives (pos 0) a l)) zero_at (push_does (pos 0) (p2 + 1 + 1) stack a l low after.1.1.0))))
  expr_does (Or e f) pc stack answers left fits has =
      let ca = expr_code e in let cb = expr_code f in
      let tail = cb ++ instrs.Truth ∷ [] in
      let rest = instrs.JumpIfZero 2 ∷ (instrs.Push (pos 1) ∷ (instrs.Jump (length cb + 1) ∷ tail)) in
      let p1 = pc + length ca in
      let p3 = p1 + 1 + 1 + 1 in
      let p4 = p3 + length cb in
      let behind = has_back m.code.instrs pc ca rest has in
      let after = has_back m.code.instrs p3 cb (instrs.Truth ∷ []) behind.1.1.1 in
      let some = depth_some e in
      let low : length stack < m.room = omega arith in
      let room_a : length stack + depth e ≤ m.room = omega arith in
      let room_b : length stack + depth f ≤ m.room = omega arith in
      let len : p4 + 1 ≡ pc + length (or_code ca cb) = omega (arith, length-append ca rest, length-append cb (instrs.Truth ∷ [])) in
      let jump_to : p1 + 1 + 1 + 1 + (length cb + 1) ≡ p4 + 1 = omega arith in
      let zero_at : p3 ≡ p1 + 1 + 2 = omega arith in
      let right : ℤ → List ℤ → ℕ → Got ℤ = λ y. tick_gives (truth y) in
      subst (λ n. Does m pc stack stack answers left n (value m.inputs (Or e f) answers left)) len
      (value_does m pc p1 (p4 + 1) stack stack answers left (value m.inputs e answers left) (λ x a l. chosen x (tick_gives (pos 1) a l) (value m.inputs f a l >>= right)) (expr_does e pc stack answers left room_a (has_front m.code.instrs pc ca _ has))
      (λ x a l. choose_does m (is_zero x) p1 2 (p4 + 1) x stack a l (tick_gives (pos 1) a l) (value m.inputs f a l >>= right) refl behind.0
      (subst (λ n. Does m (p1 + 1) stack stack a l n (tick_gives (pos 1) a l)) jump_to
      (jump_does m (p1 + 1) (p1 + 1 + 1) (length cb + 1) stack stack a l (tick_gives (pos 1) a l) behind.1.1.0 (push_does (pos 1) (p1 + 1) stack a l low behind.1.0)))
      (subst (λ n. Does m n stack stack a l (p4 + 1) (value m.inputs f a l >>= right)) zero_at
      (value_does m p3 p4 (p4 + 1) stack stack a l (value m.inputs f a l) right (expr_does f p3 stack a l room_b (has_front m.code.instrs p3 cb _ behind.1.1.1))
      (λ y a l. ticked_does m p4 (y ∷ stack) stack a l instrs.Truth (truth y) after.0 refl)))))
