-- The jumps of a body land within its code, and jumps back land at an instruction that uses a tick.
use Rattle.std.proofs.Common.{◌≡◌, inl, inr, ℕ, ℤ, zero, suc, ◌+◌, ◌-◌, ◌≤◌, true, pos, List, [], ◌∷◌, ◌++◌, length, Option, Some, None, refl, sym, ap, ◌∙◌, subst, arith, length-append}
use Rattle.std.specs.Prelude.{slice_get}
use Rattle.cilk_monoid.specs.declared.kind.MonoidKind.{MonoidKind}
use Rattle.cilk_program.specs.declared.syntax.Operator.{Operator}
use Rattle.cilk_program.specs.declared.syntax.ReducerPlace.{ReducerPlace}
use Rattle.cilk_program.specs.declared.syntax.ReducerPlace.TheVariants as reducers
use Rattle.cilk_program.specs.declared.syntax.Place.TheVariants as places
use Rattle.cilk_program.specs.Syntax.{Expression, Number, Variable, Element, Negate, Not, Binary, And, Or, Value, Input, InputCount, Target, ToVariable, ToElement, Invoke, Declaration, Zero, Opening, Invoking, Statement, Empty, Block, Declare, Assign, Change, Step, Invokes, Sync, If, IfElse, For, ParallelFor, Print, Update, Set, Return, Statements, Nothing, Then, Function, Loop}
use Rattle.cilk_lower.specs.declared.code.Instr.{Instr}
use Rattle.cilk_lower.specs.declared.code.Instr.TheVariants as instrs
use Rattle.cilk_lower.specs.Code.{literal, right_code, expr_code, exprs_code, index_code, fetch, store, invoke_code, declaration_code, declarations_code, declaration_sites, turns_code, ends, stmt_code, stmt_sites, all_code, all_sites, words_code, creates_code, function_code, halves_code, loop_code, ticks, Lands, JumpsLand}
use Rattle.cilk_lower.specs.Bodies.{HasAt}
use Rattle.cilk_lower.proofs.Places.{has_front, has_back, has_rest, get_more, get_split}
use Rattle.cilk_lower.proofs.Values.{right_long}

-- these instructions land, from this place on
abbrev AllLand : List Instr → ℕ → List Instr → Type 0
AllLand code pc [] = Unit {0}
AllLand code pc (i ∷ is) = Lands code pc i × AllLand code (pc + 1) is

lands_at : (code : List Instr) (pc : ℕ) (is : List Instr) (k : ℕ) (i : Instr) → AllLand code pc is → slice_get is k ≡ Some i → Lands code (pc + k) i
lands_at code pc [] k i h at = cc
lands_at code pc (x ∷ is) zero i h at =
    let same : x ≡ i = cc in
    let e : pc ≡ pc + 0 = omega arith in
    subst (λ n. Lands code n i) e (subst (Lands code pc) same h.0)
lands_at code pc (x ∷ is) (suc k) i h at =
    let e : pc + 1 + k ≡ pc + suc k = omega arith in
    subst (λ n. Lands code n i) e (lands_at code (pc + 1) is k i h.1 at)

-- a statement begins with an instruction that uses a tick
begins : (code : List Instr) (k : ℕ) (s : Statement) (pc : ℕ) → HasAt code pc (stmt_code k s) → ticks (slice_get code pc) ≡ true
begins code k Empty pc has = ap ticks has.0
begins code k (Block row) pc has = ap ticks has.0
begins code k (Declare ds) pc has = ap ticks has.0
begins code k (Assign t e) pc has = ap ticks has.0
begins code k (Change t op e) pc has = ap ticks has.0
begins code k (Step t n) pc has = ap ticks has.0
begins code k (Invokes i) pc has = ap ticks has.0
begins code k Sync pc has = ap ticks has.0
begins code k (If e s) pc has = ap ticks has.0
begins code k (IfElse e s t) pc has = ap ticks has.0
begins code k (For row test step s) pc has = ap ticks has.0
begins code k (ParallelFor a b n) pc has = ap ticks has.0
begins code k (Print e) pc has = ap ticks has.0
begins code k (Update r e) pc has = ap ticks has.0
begins code k (Set r e) pc has = ap ticks has.0
begins code k (Return e) pc has = ap ticks has.0

module _ (code : List Instr) where
  both_land : (pc : ℕ) (a b : List Instr) → AllLand code pc a → AllLand code (pc + length a) b → AllLand code pc (a ++ b)
  both_land pc [] b h k = let e : pc + 0 ≡ pc = omega arith in subst (λ n. AllLand code n b) e k
  both_land pc (x ∷ a) b h k = let e : pc + length (x ∷ a) ≡ pc + 1 + length a = omega arith in (h.0, both_land (pc + 1) a b h.1 (subst (λ n. AllLand code n b) e k))

  -- an operator's right operand, before its `Apply`
  right_lands : (op : Operator) (o : Option ℤ) (pc : ℕ) (is : List Instr) → pc + length (right_code op o is) + 1 ≤ length code → AllLand code pc is → AllLand code pc (right_code op o is)
  right_lands op (Some n) pc is fits h = (omega arith, tt)
  right_lands op None pc is fits h = h

  expr_lands : (e : Expression) (pc : ℕ) → pc + length (expr_code e) ≤ length code → AllLand code pc (expr_code e)
  expr_lands (Number n) pc fits = (tt, tt)
  expr_lands (Variable x) pc fits = (tt, tt)
  expr_lands (Value r) pc fits = (tt, tt)
  expr_lands (Element x a) pc fits = let l = length-append (expr_code a) (instrs.LoadElement x ∷ []) in both_land pc (expr_code a) _ (expr_lands a pc (omega arith)) (tt, tt)
  expr_lands (Negate a) pc fits = let l = length-append (expr_code a) (instrs.Negate ∷ []) in both_land pc (expr_code a) _ (expr_lands a pc (omega arith)) (tt, tt)
  expr_lands (Not a) pc fits = let l = length-append (expr_code a) (instrs.Not ∷ []) in both_land pc (expr_code a) _ (expr_lands a pc (omega arith)) (tt, tt)
  expr_lands (Input a) pc fits = let l = length-append (expr_code a) (instrs.Input ∷ []) in both_land pc (expr_code a) _ (expr_lands a pc (omega arith)) (tt, tt)
  expr_lands InputCount pc fits = (tt, tt)
  expr_lands (Binary op a b) pc fits =
      let cb = right_code op (literal b) (expr_code b) in
      let p1 = pc + length (expr_code a) in
      let l1 = length-append (expr_code a) (cb ++ instrs.Apply op ∷ []) in
      let l2 = length-append cb (instrs.Apply op ∷ []) in
      let l3 = right_long op b in
      both_land pc (expr_code a) _ (expr_lands a pc (omega arith)) (both_land p1 cb _ (right_lands op (literal b) p1 (expr_code b) (omega arith) (expr_lands b p1 (omega arith))) (tt, tt))
  expr_lands (And a b) pc fits =
      let ca = expr_code a in let cb = expr_code b in
      let post = instrs.Truth ∷ (instrs.Jump 1 ∷ (instrs.Push (pos 0) ∷ [])) in
      let l1 = length-append ca (instrs.JumpIfZero (length cb + 2) ∷ (cb ++ post)) in
      let l2 = length-append cb post in
      both_land pc ca _ (expr_lands a pc (omega arith)) (
        omega arith,
        both_land (pc + length ca + 1) cb _ (expr_lands b (pc + length ca + 1) (omega arith)) (tt, (omega arith, (tt, tt))),
      )
  expr_lands (Or a b) pc fits =
      let ca = expr_code a in let cb = expr_code b in
      let p3 = pc + length ca + 1 + 1 + 1 in
      let l1 = length-append ca (instrs.JumpIfZero 2 ∷ (instrs.Push (pos 1) ∷ (instrs.Jump (length cb + 1) ∷ (cb ++ instrs.Truth ∷ [])))) in
      let l2 = length-append cb (instrs.Truth ∷ []) in
      both_land pc ca _ (expr_lands a pc (omega arith)) (omega arith, (tt, (omega arith, both_land p3 cb _ (expr_lands b p3 (omega arith)) (tt, tt))))

  -- an expression, and the following code
  value_lands : (e : Expression) (pc : ℕ) (rest : List Instr) → pc + length (expr_code e ++ rest) ≤ length code → AllLand code (pc + length (expr_code e)) rest → AllLand code pc (expr_code e ++ rest)
  value_lands e pc rest fits h = let l = length-append (expr_code e) rest in both_land pc (expr_code e) rest (expr_lands e pc (omega arith)) h

  exprs_land : (es : List Expression) (pc : ℕ) → pc + length (exprs_code es) ≤ length code → AllLand code pc (exprs_code es)
  exprs_land [] pc fits = tt
  exprs_land (e ∷ es) pc fits = let l = length-append (expr_code e) (exprs_code es) in value_lands e pc (exprs_code es) fits (exprs_land es (pc + length (expr_code e)) (omega arith))

  -- a target's index, and the following code
  index_lands : (t : Target) (pc : ℕ) (rest : List Instr) → pc + length (index_code t ++ rest) ≤ length code → AllLand code (pc + length (index_code t)) rest → AllLand code pc (index_code t ++ rest)
  index_lands (ToVariable x) pc rest fits h = let e : pc + 0 ≡ pc = omega arith in subst (λ n. AllLand code n rest) e h
  index_lands (ToElement a e) pc rest fits h = value_lands e pc rest fits h

  fetch_lands : (t : Target) (pc : ℕ) → Lands code pc (fetch t)
  fetch_lands (ToVariable x) pc = tt
  fetch_lands (ToElement a e) pc = tt

  store_lands : (t : Target) (pc : ℕ) → Lands code pc (store t)
  store_lands (ToVariable x) pc = tt
  store_lands (ToElement a e) pc = tt

  invoke_lands : (k : ℕ) (i : Invoke) (pc : ℕ) → pc + length (invoke_code k i) ≤ length code → AllLand code pc (invoke_code k i)
  invoke_lands k i pc fits =
      let l = length-append (exprs_code i.arguments) (instrs.Invoke k ∷ (instrs.Resume ∷ [])) in
      both_land pc (exprs_code i.arguments) _ (exprs_land i.arguments pc (omega arith)) (tt, (tt, tt))

  declares_lands : (k : ℕ) (d : Declaration) (pc : ℕ) → pc + length (declaration_code k d) ≤ length code → AllLand code pc (declaration_code k d)
  declares_lands k (Zero n) pc fits = (tt, tt)
  declares_lands k (Opening n e) pc fits = value_lands e pc (instrs.Store (places.Local 0 n) ∷ []) fits (tt, tt)
  declares_lands k (Invoking i) pc fits = invoke_lands k i pc fits

  all_declare_lands : (k : ℕ) (ds : List Declaration) (pc : ℕ) → pc + length (declarations_code k ds) ≤ length code → AllLand code pc (declarations_code k ds)
  all_declare_lands k [] pc fits = tt
  all_declare_lands k (d ∷ ds) pc fits =
      let k1 = k + length (declaration_sites d) in
      let cd = declaration_code k d in
      let l = length-append cd (declarations_code k1 ds) in
      both_land pc cd _ (declares_lands k d pc (omega arith)) (all_declare_lands k1 ds (pc + length cd) (omega arith))

  -- turns, whose body begins with an instruction that uses a tick
  turns_land : (test : Option Expression) (turn : List Instr) (pc : ℕ) → HasAt code pc (turns_code test turn) → pc + length (turns_code test turn) ≤ length code →
      ((p : ℕ) → HasAt code p turn → ticks (slice_get code p) ≡ true) → ((p : ℕ) → HasAt code p turn → p + length turn ≤ length code → AllLand code p turn) → AllLand code pc (turns_code test turn)
  turns_land None turn pc has fits first lands =
      let l = length-append turn (instrs.JumpBack (length turn) ∷ []) in
      let front = has_front code pc turn _ has in
      let there : pc ≡ pc + length turn - length turn = omega arith in
      let back : length turn ≤ pc + length turn = omega arith in
      both_land pc turn _ (lands pc front (omega arith)) ((back, subst (λ n. ticks (slice_get code n) ≡ true) there (first pc front)), tt)
  turns_land (Some e) turn pc has fits first lands =
      let ce = expr_code e in
      let p1 = pc + length ce in
      let p2 = p1 + 1 + length turn in
      let n = length turn + length ce in
      let last = instrs.JumpBackUnlessZero n ∷ [] in
      let rest = instrs.JumpIfZero (n + 1) ∷ (turn ++ (ce ++ last)) in
      let front = has_front code (p1 + 1) turn _ (has_back code pc ce rest has).1 in
      let l1 = length-append ce rest in
      let l2 = length-append turn (ce ++ last) in
      let l3 = length-append ce last in
      let there : p1 + 1 ≡ p2 + length ce - n = omega arith in
      let back : n ≤ p2 + length ce = omega arith in
      let jump : p1 + 1 + (n + 1) ≤ length code = omega arith in
      value_lands e pc rest fits (
        jump,
        both_land (p1 + 1) turn _ (lands (p1 + 1) front (omega arith))
            (value_lands e p2 last (omega arith) ((back, subst (λ n. ticks (slice_get code n) ≡ true) there (first (p1 + 1) front)), tt)),
      )

  mutual
    stmt_lands : (s : Statement) (k pc : ℕ) → HasAt code pc (stmt_code k s) → pc + length (stmt_code k s) ≤ length code → AllLand code pc (stmt_code k s)
    stmt_lands Empty k pc has fits = (tt, tt)
    stmt_lands (Block row) k pc has fits = (tt, all_land row k (pc + 1) has.1 (omega arith))
    stmt_lands (Declare ds) k pc has fits = (tt, all_declare_lands k ds (pc + 1) (omega arith))
    stmt_lands (Assign t e) k pc has fits = (tt, index_lands t (pc + 1) (expr_code e ++ store t ∷ []) (omega arith) (let l = length-append (index_code t) (expr_code e ++ store t ∷ []) in value_lands e _ (store t ∷ []) (omega arith) (store_lands t _, tt)))
    stmt_lands (Change t op e) k pc has fits =
        let tail = instrs.Combine op ∷ (store t ∷ []) in
        let l = length-append (index_code t) (fetch t ∷ (expr_code e ++ tail)) in
        (tt, index_lands t (pc + 1) (fetch t ∷ (expr_code e ++ tail)) (omega arith) (fetch_lands t _, value_lands e _ tail (omega arith) (tt, (store_lands t _, tt))))
    stmt_lands (Step t n) k pc has fits = (tt, index_lands t (pc + 1) _ (omega arith) (fetch_lands t _, (tt, (store_lands t _, tt))))
    stmt_lands (Invokes i) k pc has fits = (tt, invoke_lands k i (pc + 1) (omega arith))
    stmt_lands Sync k pc has fits = (tt, (tt, tt))
    stmt_lands (Print e) k pc has fits = (tt, value_lands e (pc + 1) (instrs.Print ∷ []) (omega arith) (tt, tt))
    stmt_lands (Update r e) k pc has fits = (tt, value_lands e (pc + 1) (instrs.Update r ∷ []) (omega arith) (tt, tt))
    stmt_lands (Set r e) k pc has fits = (tt, value_lands e (pc + 1) (instrs.Set r ∷ []) (omega arith) (tt, tt))
    stmt_lands (Return None) k pc has fits = (tt, (tt, (tt, (tt, tt))))
    stmt_lands (Return (Some e)) k pc has fits = (tt, value_lands e (pc + 1) (instrs.SetResult ∷ ends) (omega arith) (tt, (tt, (tt, (tt, tt)))))
    stmt_lands (ParallelFor e f n) k pc has fits =
        let tail = instrs.CallLoop n ∷ (instrs.Resume ∷ []) in
        let l1 = length-append (expr_code e) (expr_code f ++ tail) in
        let l2 = length-append (expr_code f) tail in
        (tt, value_lands e (pc + 1) (expr_code f ++ tail) (omega arith) (value_lands f _ tail (omega arith) (omega arith, (tt, tt))))
    stmt_lands (If e s) k pc has fits =
        let ce = expr_code e in let cs = stmt_code k s in
        let p1 = pc + 1 + length ce in
        let behind = has_back code (pc + 1) ce (instrs.JumpIfZero (length cs) ∷ cs) has.1 in
        let l = length-append ce (instrs.JumpIfZero (length cs) ∷ cs) in
        (tt, value_lands e (pc + 1) _ (omega arith) (omega arith, stmt_lands s k (p1 + 1) behind.1 (omega arith)))
    stmt_lands (IfElse e s t) k pc has fits =
        let k1 = k + length (stmt_sites s) in
        let ce = expr_code e in let cs = stmt_code k s in let ct = stmt_code k1 t in
        let p1 = pc + 1 + length ce in
        let p2 = p1 + 1 + length cs in
        let tail = cs ++ (instrs.Jump (length ct) ∷ ct) in
        let behind = has_back code (pc + 1) ce (instrs.JumpIfZero (length cs + 1) ∷ tail) has.1 in
        let after = has_back code (p1 + 1) cs (instrs.Jump (length ct) ∷ ct) behind.1 in
        let l1 = length-append ce (instrs.JumpIfZero (length cs + 1) ∷ tail) in
        let l2 = length-append cs (instrs.Jump (length ct) ∷ ct) in (
          tt,
          value_lands e (pc + 1) _ (omega arith) (
            omega arith,
            both_land (p1 + 1) cs _ (stmt_lands s k (p1 + 1) (has_front code (p1 + 1) cs _ behind.1) (omega arith)) (omega arith, stmt_lands t k1 (p2 + 1) after.1 (omega arith)),
          ),
        )
    stmt_lands (For row test step s) k pc has fits =
        let k1 = k + length (all_sites row) in
        let k2 = k1 + length (stmt_sites s) in
        let cr = all_code k row in
        let cs = stmt_code k1 s in let cp = all_code k2 step in
        let l = length-append cr (turns_code test (cs ++ cp)) in
        let lt = length-append cs cp in (
          tt,
          both_land (pc + 1) cr _ (all_land row k (pc + 1) (has_front code (pc + 1) cr _ has.1) (omega arith)) (turns_land test (cs ++ cp) (pc + 1 + length cr) (has_back code (pc + 1) cr _ has.1) (omega arith)
              (λ p h. begins code k1 s p (has_front code p cs cp h))
              (λ p h fits. both_land p cs cp (stmt_lands s k1 p (has_front code p cs cp h) (omega arith)) (all_land step k2 (p + length cs) (has_back code p cs cp h) (omega arith)))),
        )

    all_land : (row : Statements) (k pc : ℕ) → HasAt code pc (all_code k row) → pc + length (all_code k row) ≤ length code → AllLand code pc (all_code k row)
    all_land Nothing k pc has fits = tt
    all_land (Then s row) k pc has fits =
        let k1 = k + length (stmt_sites s) in
        let cs = stmt_code k s in let cr = all_code k1 row in
        let l = length-append cs cr in
        both_land pc cs cr (stmt_lands s k pc (has_front code pc cs cr has) (omega arith)) (all_land row k1 (pc + length cs) (has_back code pc cs cr has) (omega arith))

  words_land : (n count pc : ℕ) → AllLand code pc (words_code n count)
  words_land n zero pc = tt
  words_land n (suc count) pc = (tt, words_land (suc n) count (pc + 1))

  creates_land : (place : ℕ → ReducerPlace) (n : ℕ) (ks : List MonoidKind) (pc : ℕ) → AllLand code pc (creates_code place n ks)
  creates_land place n [] pc = tt
  creates_land place n (k ∷ ks) pc = (tt, creates_land place (suc n) ks (pc + 1))

  function_lands : (k : ℕ) (f : Function) (pc : ℕ) → HasAt code pc (function_code k f) → pc + length (function_code k f) ≤ length code → AllLand code pc (function_code k f)
  function_lands k f pc has fits =
      let cw = words_code 0 f.words in
      let cg = creates_code (reducers.Own 0) 0 f.reducers in
      let cb = all_code k f.body in
      let p1 = pc + length cw in
      let p2 = p1 + length cg in
      let l1 = length-append cw (cg ++ (cb ++ ends)) in
      let l2 = length-append cg (cb ++ ends) in
      let l3 = length-append cb ends in
      let body = has_front code p2 cb ends (has_back code p1 cg _ (has_back code pc cw _ has)) in
      both_land pc cw _ (words_land 0 f.words pc) (both_land p1 cg _ (creates_land (reducers.Own 0) 0 f.reducers p1) (both_land p2 cb ends (all_land f.body k p2 body (omega arith)) (tt, (tt, (tt, tt)))))

  loop_lands : (k : ℕ) (l : Loop) (pc : ℕ) → HasAt code pc (loop_code k l) → pc + length (loop_code k l) ≤ length code → AllLand code pc (loop_code k l)
  loop_lands k l pc has fits =
      let cb = all_code k l.body in
      let p2 = pc + 1 + 1 in
      let l1 = length-append cb (ends ++ halves_code) in
      let jump : pc + 1 + (length cb + 4) ≤ length code = omega arith in
      (jump, (tt, both_land p2 cb _ (all_land l.body k p2 (has_front code p2 cb _ has.1.1) (omega arith)) (tt, (tt, (tt, (tt, (tt, (tt, (tt, (tt, (tt, (tt, tt))))))))))))

-- more code after it changes nothing
ticks_more : (code more : List Instr) (place : ℕ) (o : Option Instr) → slice_get code place ≡ o → ticks o ≡ true → ticks (slice_get (code ++ more) place) ≡ true
ticks_more code more place None e h = cc
ticks_more code more place (Some j) e h = ap ticks (get_more code more place j e) ∙ h

lands_more : (code more : List Instr) (place : ℕ) (i : Instr) → Lands code place i → Lands (code ++ more) place i
lands_more code more place (instrs.ApplyNumber op n) h = omega (arith, h, length-append code more)
lands_more code more place (instrs.CallLoop n) h = omega (arith, h, length-append code more)
lands_more code more place (instrs.JumpIfZero n) h = omega (arith, h, length-append code more)
lands_more code more place (instrs.SkipUnlessOne n) h = omega (arith, h, length-append code more)
lands_more code more place (instrs.Jump n) h = omega (arith, h, length-append code more)
lands_more code more place (instrs.JumpBack n) h = (h.0, ticks_more code more (place - n) (slice_get code (place - n)) refl h.1)
lands_more code more place (instrs.JumpBackUnlessZero n) h = (h.0, ticks_more code more (place - n) (slice_get code (place - n)) refl h.1)
lands_more code more place _ h = tt

both_jump : (code more : List Instr) → JumpsLand code → AllLand (code ++ more) (length code) more → JumpsLand (code ++ more)
both_jump code more old new place i at = elim (get_split code more place i at) [
  | inl h ↦ lands_more code more place i (old place i h)
  | inr h ↦ subst (λ n. Lands (code ++ more) n i) (sym h.1) (lands_at (code ++ more) (length code) more h.0 i new h.2)
]

-- one more body
pub function_jumps : (code : List Instr) (k : ℕ) (f : Function) → JumpsLand code → JumpsLand (code ++ function_code k f)
function_jumps code k f old =
    let more = function_code k f in
    let fits : length code + length more ≤ length (code ++ more) = omega (arith, length-append code more) in
    both_jump code more old (function_lands (code ++ more) k f (length code) (has_rest code more) fits)

pub loop_jumps : (code : List Instr) (k : ℕ) (l : Loop) → JumpsLand code → JumpsLand (code ++ loop_code k l)
loop_jumps code k l old =
    let more = loop_code k l in
    let fits : length code + length more ≤ length (code ++ more) = omega (arith, length-append code more) in
    both_jump code more old (loop_lands (code ++ more) k l (length code) (has_rest code more) fits)

pub creates_jump : (code : List Instr) (place : ℕ → ReducerPlace) (n : ℕ) (ks : List MonoidKind) → JumpsLand code → JumpsLand (code ++ creates_code place n ks)
creates_jump code place n ks old = both_jump code (creates_code place n ks) old (creates_land (code ++ creates_code place n ks) place n ks (length code))
