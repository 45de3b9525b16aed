-- Invocations with their arguments, and declarations.
use Rattle.std.proofs.Common.{◌≡◌, ℕ, suc, ◌+◌, ◌≤◌, ℤ, pos, List, [], ◌∷◌, ◌++◌, Some, None, refl, ap, ◌∙◌, subst, arith, length, length-append}
use Rattle.std.specs.Prelude.{slice_get}
use Rattle.cilk_program.specs.declared.ask.Ask.TheVariants as asks
use Rattle.cilk_program.specs.declared.ask.Callee.TheVariants as callees
use Rattle.cilk_program.specs.declared.syntax.Place.TheVariants as places
use Rattle.cilk_program.specs.Syntax.{Expression, Invoke, Declaration, Zero, Opening, Invoking}
use Rattle.cilk_program.specs.Behaviour.{Got, Gives, Asks, ◌>>=◌, ask, value, values, Flow, invokes, invokes_function, declares, all_declare}
use Rattle.cilk_lower.specs.declared.code.Instr.TheVariants as instrs
use Rattle.cilk_lower.specs.declared.code.Owed.TheVariants.{Nothing}
use Rattle.cilk_lower.specs.declared.code.Site.{Site}
use Rattle.cilk_lower.specs.Code.{expr_code, exprs_code, site, invoke_code, declaration_code, declarations_code, declaration_sites, declarations_sites}
use Rattle.cilk_lower.specs.Machine.{Setting, Move, Waits, on_some, on_words, on_none, invoked}
use Rattle.cilk_lower.specs.Rooms.{depth, depths, declaration_depth, declarations_depth}
use Rattle.cilk_lower.proofs.Flows.{Plain, plain_then, invokes_plain, plain_acts, last_asks, invokes_acts, valued_acts}
use Rattle.cilk_lower.proofs.Leads.{moves, Leads, Comes, Does, Acts, stays, leads_on, comes_on, then_acts}
use Rattle.cilk_lower.specs.Bodies.{HasAt}
use Rattle.cilk_lower.proofs.Places.{has_front, has_back}
use Rattle.cilk_lower.proofs.Values.{expr_does}

-- values above the operands there, the last one on top
abbrev pub onto : List ℤ → List ℤ → List ℤ
onto [] stack = stack
onto (v ∷ vs) stack = onto vs (v ∷ stack)

append_none : (l : List ℤ) → l ++ [] ≡ l
append_none [] = refl
append_none (x ∷ l) = ap (λ k. x ∷ k) (append_none l)

-- they are popped again
taken : (vs words stack : List ℤ) (j n : ℕ) (go : List ℤ → List ℤ → Move) → n ≡ length vs + j → on_words n words (onto vs stack) go ≡ on_words j (vs ++ words) stack go
taken [] words stack j n go e = let same : n ≡ j = omega arith in ap (λ k. on_words k words stack go) same
taken (v ∷ vs) words stack j n go e = let same : n ≡ length vs + suc j = omega arith in taken vs words (v ∷ stack) (suc j) n go same

-- n values are pushed, or a request comes first
abbrev DoesAll : Setting → ℕ → List ℤ → List ℤ → ℕ → ℕ → ℕ → Got (List ℤ) → Type 0
DoesAll m pc stack answers left pc' n (Gives vs a l) = Leads m pc stack answers left pc' (onto vs stack) a l × (length vs ≡ n)
DoesAll m pc stack answers left pc' n (Asks k) = Comes m pc stack answers left k

module _ (m : Setting) where
  rest_does : (pc pc1 pc' n : ℕ) (v : ℤ) (stack answers a1 : List ℤ) (left l1 : ℕ) (g : Got (List ℤ)) → Leads m pc stack answers left pc1 (v ∷ stack) a1 l1 → DoesAll m pc1 (v ∷ stack) a1 l1 pc' n g → DoesAll m pc stack answers left pc' (suc n) (g >>= λ vs. Gives (v ∷ vs))
  rest_does pc pc1 pc' n v stack answers a1 left l1 (Asks k) f r = comes_on m pc pc1 stack (v ∷ stack) answers a1 left l1 k f r
  rest_does pc pc1 pc' n v stack answers a1 left l1 (Gives vs a l) f r = (leads_on m pc pc1 pc' stack (v ∷ stack) (onto vs (v ∷ stack)) answers a1 a left l1 l f r.0, omega (arith, r.1))

  first_does : (pc pc1 pc' n : ℕ) (stack answers : List ℤ) (left : ℕ) (g : Got ℤ) (h : List ℤ → ℕ → Got (List ℤ)) → Does m pc stack stack answers left pc1 g → ((v : ℤ) (a : List ℤ) (l : ℕ) → DoesAll m pc1 (v ∷ stack) a l pc' n (h a l)) → DoesAll m pc stack answers left pc' (suc n) (g >>= λ v a l. h a l >>= λ vs. Gives (v ∷ vs))
  first_does pc pc1 pc' n stack answers left (Asks k) h r s = r
  first_does pc pc1 pc' n stack answers left (Gives v a l) h r s = rest_does pc pc1 pc' n v stack answers a left l (h a l) r (s v a l)

  values_do : (es : List Expression) (pc : ℕ) (stack answers : List ℤ) (left : ℕ) → length stack + depths es ≤ m.room → HasAt m.code.instrs pc (exprs_code es) → DoesAll m pc stack answers left (pc + length (exprs_code es)) (length es) (values m.inputs es answers left)
  values_do [] pc stack answers left fits has =
      let e : pc ≡ pc + 0 = omega arith in
      (subst (λ n. Leads m pc stack answers left n stack answers left) e (stays m pc stack answers left), refl)
  values_do (e ∷ es) pc stack answers left fits has =
      let ce = expr_code e in let cs = exprs_code es in
      let p1 = pc + length ce in
      let room_e : length stack + depth e ≤ m.room = omega arith in
      let room_s : suc (length stack) + depths es ≤ m.room = omega arith in
      let len : p1 + length cs ≡ pc + length (ce ++ cs) = omega (arith, length-append ce cs) in
      subst (λ n. DoesAll m pc stack answers left n (length (e ∷ es)) (values m.inputs (e ∷ es) answers left)) len
      (first_does pc p1 (p1 + length cs) (length es) stack answers left (value m.inputs e answers left) (values m.inputs es) (expr_does m e pc stack answers left room_e (has_front m.code.instrs pc ce cs has))
      (λ v a l. values_do es p1 (v ∷ stack) a l room_s (has_back m.code.instrs pc ce cs has)))

  values_act : (pc pc1 pc' n : ℕ) (answers : List ℤ) (left : ℕ) (g : Got (List ℤ)) (h : List ℤ → List ℤ → ℕ → Got Flow) → DoesAll m pc [] answers left pc1 n g → ((vs a : List ℤ) (l : ℕ) → length vs ≡ n → Acts m pc1 (onto vs []) [] a l pc' (h vs a l)) → Acts m pc [] [] answers left pc' (g >>= h)
  values_act pc pc1 pc' n answers left (Asks k) h r s = r
  values_act pc pc1 pc' n answers left (Gives vs a l) h r s = then_acts m pc pc1 pc' [] [] (onto vs []) answers a left l (h vs a l) r.0 (s vs a l r.1)

  invoke_moves : (i : Invoke) (k pc : ℕ) (vs : List ℤ) (left : ℕ) → slice_get m.code.sites k ≡ Some (site i) → length vs ≡ length i.arguments → moves m (instrs.Invoke k) pc (onto vs []) left ≡ Waits (invoked (site i) vs) Nothing (pc + 1) [] (pos 0) left
  invoke_moves i k pc vs left at n =
      let go : Site → List ℤ → List ℤ → Move = λ s words rest. on_none rest (Waits (invoked s words) Nothing (pc + 1) [] (pos 0) left) in
      let count : length i.arguments ≡ length vs + 0 = omega arith in
      ap (λ o. on_some o (λ s. on_words s.words [] (onto vs []) (go s))) at
      ∙ taken vs [] [] 0 (length i.arguments) (go (site i)) count
      ∙ ap (λ words. Waits (invoked (site i) words) Nothing (pc + 1) [] (pos 0) left) (append_none vs)

  pub invoke_acts : (i : Invoke) (k pc : ℕ) (answers : List ℤ) (left : ℕ) → depths i.arguments ≤ m.room → HasAt m.code.instrs pc (invoke_code k i) → HasAt m.code.sites k (site i ∷ []) → Acts m pc [] [] answers left (pc + length (invoke_code k i)) (invokes_function m.inputs i answers left)
  invoke_acts i k pc answers left fits has called =
      let ca = exprs_code i.arguments in
      let p1 = pc + length ca in
      let behind = has_back m.code.instrs pc ca (instrs.Invoke k ∷ (instrs.Resume ∷ [])) has in
      let room_a : length {A = ℤ} [] + depths i.arguments ≤ m.room = omega arith in
      let len : p1 + 1 + 1 ≡ pc + length (invoke_code k i) = omega (arith, length-append ca (instrs.Invoke k ∷ (instrs.Resume ∷ []))) in
      subst (λ n. Acts m pc [] [] answers left n (invokes_function m.inputs i answers left)) len
      (values_act pc p1 (p1 + 1 + 1) (length i.arguments) answers left (values m.inputs i.arguments answers left) (λ vs. invokes i.how (callees.Function (record { function = i.function; words = vs; reducers = i.reducers; result = i.result })))
      (values_do i.arguments pc [] answers left room_a (has_front m.code.instrs pc ca _ has))
      (λ vs a l n. invokes_acts m p1 (onto vs []) a l (instrs.Invoke k) i.how _ behind.0 behind.1.0 (invoke_moves i k p1 vs l called.0 n)))

  declares_acts : (d : Declaration) (k pc : ℕ) (answers : List ℤ) (left : ℕ) → declaration_depth d ≤ m.room → HasAt m.code.instrs pc (declaration_code k d) → HasAt m.code.sites k (declaration_sites d) → Acts m pc [] [] answers left (pc + length (declaration_code k d)) (declares m.inputs d answers left)
  declares_acts (Zero n) k pc answers left fits has called = last_asks m pc [] [] answers left (instrs.Zero n) _ has.0 refl
  declares_acts (Opening n e) k pc answers left fits has called =
      valued_acts m e (instrs.Store (places.Local 0 n)) pc answers left (λ v a l. ask (asks.Write (places.Local 0 n) v) a l >>= λ _. Gives None) fits has
      (λ pc1 v a l at. last_asks m pc1 (v ∷ []) [] a l (instrs.Store (places.Local 0 n)) _ at refl)
  declares_acts (Invoking i) k pc answers left fits has called = invoke_acts i k pc answers left fits has called

  declares_plain : (d : Declaration) (a : List ℤ) (l : ℕ) → Plain (declares m.inputs d a l)
  declares_plain (Zero n) a l = plain_then (ask (asks.Write (places.Local 0 n) (pos 0)) a l) _ (λ _ a l. tt)
  declares_plain (Opening n e) a l = plain_then (value m.inputs e a l) _ (λ v a l. plain_then (ask (asks.Write (places.Local 0 n) v) a l) _ (λ _ a l. tt))
  declares_plain (Invoking i) a l = plain_then (values m.inputs i.arguments a l) _ (λ vs a l. invokes_plain i.how _ a l)

  pub all_declare_acts : (ds : List Declaration) (k pc : ℕ) (answers : List ℤ) (left : ℕ) → declarations_depth ds ≤ m.room → HasAt m.code.instrs pc (declarations_code k ds) → HasAt m.code.sites k (declarations_sites ds) → Acts m pc [] [] answers left (pc + length (declarations_code k ds)) (all_declare m.inputs ds answers left)
  all_declare_acts [] k pc answers left fits has called = let e : pc ≡ pc + 0 = omega arith in subst (λ n. Leads m pc [] answers left n [] answers left) e (stays m pc [] answers left)
  all_declare_acts (d ∷ ds) k pc answers left fits has called =
      let cd = declaration_code k d in
      let k1 = k + length (declaration_sites d) in
      let cs = declarations_code k1 ds in
      let room_d : declaration_depth d ≤ m.room = omega arith in
      let room_s : declarations_depth ds ≤ m.room = omega arith in
      let len : pc + length cd + length cs ≡ pc + length (cd ++ cs) = omega (arith, length-append cd cs) in
      subst (λ n. Acts m pc [] [] answers left n (all_declare m.inputs (d ∷ ds) answers left)) len
      (plain_acts m pc (pc + length cd) (pc + length cd + length cs) answers left (declares m.inputs d answers left) (all_declare m.inputs ds)
      (declares_acts d k pc answers left room_d (has_front m.code.instrs pc cd cs has) (has_front m.code.sites k (declaration_sites d) _ called)) (declares_plain d answers left)
      (λ a l. all_declare_acts ds k1 (pc + length cd) a l room_s (has_back m.code.instrs pc cd cs has) (has_back m.code.sites k (declaration_sites d) _ called)))
