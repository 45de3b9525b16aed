-- A part of a tree resolves only to the result of the pass.
use Rattle.std.proofs.Common.{◌≡◌, ℕ, List, [], ◌∷◌, ◌++◌, Option, Some, None, pos, negsuc, sym, ap, ◌∙◌}
use Rattle.std.specs.Option.{option_map, option_to_list}
use Rattle.cilk_types.specs.declared.invocation.Invocation.{Invocation}
use Rattle.cilk_syntax.specs.Trees as trees
use Rattle.cilk_program.specs.declared.syntax.Place.{Place}
use Rattle.cilk_program.specs.declared.syntax.Place.TheVariants.{Local}
use Rattle.cilk_program.specs.declared.syntax.Reducer.{Reducer}
use Rattle.cilk_program.specs.Syntax.{Expression, Element, Input, Target, ToElement, Invoke, Declaration, Opening, Statement, Block, Declare, Assign, Change, Step, Invokes, If, IfElse, For, ParallelFor, Print, Return, Statements, Then, Nothing, Update, Set, Loop}
use Rattle.cilk_names.specs.declared.signature.ParameterKind.{ParameterKind}
use Rattle.cilk_names.specs.declared.signature.ParameterKind.TheVariants as kinds
use Rattle.cilk_names.specs.declared.signature.Signature.{Signature}
use Rattle.cilk_names.specs.Names.{Names}
use Rattle.cilk_names.specs.Contexts.{Context, inside, behind_scope, ahead, with_variable, behind_beginning, in_body, behind}
use Rattle.cilk_names.specs.Sights.{signature_of}
use Rattle.cilk_names.specs.Calls.{bare_name}
use Rattle.cilk_names.specs.Operators.{prefixed, joined}
use Rattle.cilk_names.specs.Pass.{read_of, element_of, value_of, expression_of, optional_of, to_variable, to_element, target_of, or_empty, assignment_of, optional_row, bare_reducer, words_of, reducers_of, invoke_of, invoking, declaration_of, declarations_of, beginning_of, statement_of, row_of, loop_of, loops_of, row_loops}
use Rattle.cilk_names.specs.Resolution.{ResolvesExpression, ResolvesOptional, ResolvesPlace, ResolvesAssignment, ResolvesStep, ResolvesBare, ResolvesArguments, ResolvesCall, ResolvesInitializer, ResolvesLocals, ResolvesBeginning, ResolvesStatement, ResolvesRow}

pub expression_only : (names : Names) (e : trees.Expression) (r : Expression) → ResolvesExpression names e r → r ≡ expression_of names e
expression_only names (trees.Number n) r h = h
expression_only names (trees.Expression.Variable x) r h = h.2 ∙ sym (ap read_of h.1)
expression_only names (trees.Expression.Element x e) r h = h.4 ∙ ap (Element h.0) (expression_only names e h.1 h.3) ∙ sym (ap (λ o. element_of o (expression_of names e)) h.2)
expression_only names (trees.Group e) r h = expression_only names e r h
expression_only names (trees.Unary op e) r h = h.2 ∙ ap (prefixed op) (expression_only names e h.0 h.1)
expression_only names (trees.Binary op a b) r h =
    h.4 ∙ ap (λ x. joined op x h.1) (expression_only names a h.0 h.2) ∙ ap (λ x. joined op (expression_of names a) x) (expression_only names b h.1 h.3)
expression_only names (trees.Expression.Value x) r h = h.2 ∙ sym (ap value_of h.1)
expression_only names (trees.Input e) r h = h.2 ∙ ap Input (expression_only names e h.0 h.1)
expression_only names trees.InputCount r h = h

optional_only : (names : Names) (e : Option trees.Expression) (r : Option Expression) → ResolvesOptional names e r → r ≡ optional_of names e
optional_only names None r h = h
optional_only names (Some e) r h = h.2 ∙ ap (λ x. let o : Option Expression = Some x in o) (expression_only names e h.0 h.1)

place_only : (names : Names) (p : trees.Lvalue) (t : Target) → ResolvesPlace names p t → target_of names p ≡ Some t
place_only names (trees.Lvalue.Variable x) t h = ap to_variable h.1 ∙ ap Some (sym h.2)
place_only names (trees.Lvalue.Element x e) t h =
    ap (λ o. to_element o (expression_of names e)) h.2 ∙ ap Some (ap (ToElement h.0) (sym (expression_only names e h.1 h.3)) ∙ sym h.4)

assignment_only : (names : Names) (a : trees.Assignment) (r : Statement) → ResolvesAssignment names a r → r ≡ assignment_of names a
assignment_only names (trees.Assignment.Set p e) r (t, e', k, l, is) =
    is ∙ ap (Assign t) (expression_only names e e' l) ∙ sym (ap (λ o. or_empty o (λ x. Assign x (expression_of names e))) (place_only names p t k))
assignment_only names (trees.Compound op p e) r (t, e', k, l, is) =
    is ∙ ap (Change t op) (expression_only names e e' l) ∙ sym (ap (λ o. or_empty o (λ x. Change x op (expression_of names e))) (place_only names p t k))
assignment_only names (trees.Increment p) r (t, k, is) = is ∙ sym (ap (λ o. or_empty o (λ x. Step x (pos 1))) (place_only names p t k))
assignment_only names (trees.Decrement p) r (t, k, is) = is ∙ sym (ap (λ o. or_empty o (λ x. Step x (negsuc 0))) (place_only names p t k))

step_only : (names : Names) (a : Option trees.Assignment) (r : Statements) → ResolvesStep names a r → r ≡ optional_row names a
step_only names None r h = h
step_only names (Some a) r h = h.2 ∙ ap (λ s. Then s Nothing) (assignment_only names a h.0 h.1)

bare_only : (names : Names) (e : trees.Expression) (r : Reducer) → ResolvesBare names e r → bare_reducer names (bare_name e) ≡ Some r
bare_only names e r h = ap (bare_reducer names) h.1 ∙ h.2

arguments_only : (names : Names) (ks : List ParameterKind) (list : List trees.Argument) (ws : List Expression) (rs : List Reducer)
    → ResolvesArguments names ks list ws rs → (ws ≡ words_of names ks list) × (rs ≡ reducers_of names ks list)
arguments_only names [] [] ws rs h = h
arguments_only names [] (a ∷ list) ws rs h = absurd h
arguments_only names (k ∷ ks) [] ws rs h = absurd h
arguments_only names (kinds.Word ∷ ks) (a ∷ list) ws rs (w, ws', k, l, is) =
    let p = arguments_only names ks list ws' rs l in
    (is ∙ ap (λ x. x ∷ ws') (expression_only names a.value w k) ∙ ap (λ x. expression_of names a.value ∷ x) p.0, p.1)
arguments_only names (kinds.Reducer k ∷ ks) (a ∷ list) ws rs (r, rs', b, same, l, is) =
    let p = arguments_only names ks list ws rs' l in
    (p.0, is ∙ ap (λ x. r ∷ x) p.1 ∙ sym (ap (λ o. option_to_list o ++ reducers_of names ks list) (bare_only names a.value r b)))

call_only : (names : Names) (how : Invocation) (c : trees.Call) (place : Option Place) (i : Invoke) → ResolvesCall names how c place i → invoke_of names how c place ≡ Some i
call_only names how c place i (n, ws, rs, e, args, is) =
    let of : Signature → ℕ → Invoke = λ s n. record { how = how; function = n; arguments = words_of names s.parameters c.arguments; reducers = reducers_of names s.parameters c.arguments; result = place } in
    let s = signature_of names (Some n) in
    let p = arguments_only names s.parameters c.arguments ws rs args in
    ap (λ (o : Option ℕ). option_map (of (signature_of names o)) o) e
    ∙ ap (λ (j : Invoke). let o : Option Invoke = Some j in o) (sym (
    is
    ∙ ap (λ x. let j : Invoke = record { how = how; function = n; arguments = x; reducers = rs; result = place } in j) p.0
    ∙ ap (λ x. let j : Invoke = record { how = how; function = n; arguments = words_of names s.parameters c.arguments; reducers = x; result = place } in j) p.1))

initializer_only : (names : Names) (n : ℕ) (i : trees.LocalInitializer) (d : Declaration) → ResolvesInitializer names n i d → d ≡ declaration_of names n i
initializer_only names n trees.Absent d h = h
initializer_only names n (trees.LocalInitializer.Value e) d h = h.2 ∙ ap (Opening n) (expression_only names e h.0 h.1)
initializer_only names n (trees.LocalInitializer.Invoke how c) d h = h.2 ∙ sym (ap (invoking n) (call_only names how c (Some (Local 0 n)) h.0 h.1))

locals_only : (c : Context) (ls : List trees.Local) (ds : List Declaration) → ResolvesLocals c ls ds → ds ≡ declarations_of c ls
locals_only c [] ds h = h
locals_only c (l ∷ ls) ds (d, ds', k, m, is) =
    let c' = with_variable c l.name in
    is ∙ ap (λ x. x ∷ ds') (initializer_only c'.names c.frame.cells l.initializer d k) ∙ ap (λ x. declaration_of c'.names c.frame.cells l.initializer ∷ x) (locals_only c' ls ds' m)

beginning_only : (c : Context) (b : Option trees.Beginning) (r : Statements) → ResolvesBeginning c b r → r ≡ beginning_of c b
beginning_only c None r h = h
beginning_only c (Some (trees.Declares x e)) r h =
    let c' = with_variable c x in h.2 ∙ ap (λ y. Then (Declare (Opening c.frame.cells y ∷ [])) Nothing) (expression_only c'.names e h.0 h.1)
beginning_only c (Some (trees.Assigns a)) r h = h.2 ∙ ap (λ s. Then s Nothing) (assignment_only c.names a h.0 h.1)

mutual
  pub statement_only : (c : Context) (s : trees.Statement) (r : Statement) (ls : List Loop) → ResolvesStatement c s r ls → (r ≡ statement_of c s) × (ls ≡ loops_of c s)
  statement_only c trees.Empty r ls h = h
  statement_only c (trees.Block row) r ls (row', k, is) = let p = row_only (inside c) row row' ls k in (is ∙ ap Block p.0, p.1)
  statement_only c (trees.Declare vs) r ls (ds, k, is, none) = (is ∙ ap Declare (locals_only c vs ds k), none)
  statement_only c (trees.Statement.Reducer x) r ls h = h
  statement_only c (trees.Assign a) r ls (k, none) = (assignment_only c.names a r k, none)
  statement_only c (trees.Statement.Invoke how k) r ls (i, l, is, none) = (is ∙ sym (ap (λ o. or_empty o Invokes) (call_only c.names how k None i l)), none)
  statement_only c (trees.AssignCall x how k) r ls (p, i, v, l, is, none) =
      (is ∙ sym (ap (λ o. or_empty (invoke_of c.names how k o) Invokes) v ∙ ap (λ o. or_empty o Invokes) (call_only c.names how k (Some p) i l)), none)
  statement_only c trees.Sync r ls h = h
  statement_only c (trees.If e s) r ls (e', s', k, l, is) =
      let p = statement_only (inside c) s s' ls l in
      (is ∙ ap (λ x. If x s') (expression_only c.names e e' k) ∙ ap (If (expression_of c.names e)) p.0, p.1)
  statement_only c (trees.IfElse e s other) r ls (e', s', other', first, second, k, l, m, is, all) =
      let d = inside (behind_scope c (behind (inside c) s)) in
      let p = statement_only (inside c) s s' first l in
      let q = statement_only d other other' second m in (
        is ∙ ap (λ x. IfElse x s' other') (expression_only c.names e e' k) ∙ ap (λ x. IfElse (expression_of c.names e) x other') p.0 ∙ ap (IfElse (expression_of c.names e) (statement_of (inside c) s)) q.0,
        all ∙ ap (λ x. x ++ second) p.1 ∙ ap (λ x. loops_of (inside c) s ++ x) q.1,
      )
  statement_only c (trees.While e s) r ls (e', s', k, l, is) =
      let p = statement_only (inside c) s s' ls l in
      (is ∙ ap (λ x. For Nothing (Some x) Nothing s') (expression_only c.names e e' k) ∙ ap (For Nothing (Some (expression_of c.names e)) Nothing) p.0, p.1)
  statement_only c (trees.For b e a s) r ls (b', e', a', s', k, l, m, n, is) =
      let d = behind_beginning (inside c) b in
      let p = statement_only (inside d) s s' ls n in (
        is ∙ ap (λ x. For x e' a' s') (beginning_only (inside c) b b' k) ∙ ap (λ x. For (beginning_of (inside c) b) x a' s') (optional_only d.names e e' l)
            ∙ ap (λ x. For (beginning_of (inside c) b) (optional_of d.names e) x s') (step_only d.names a a' m)
            ∙ ap (For (beginning_of (inside c) b) (optional_of d.names e) (optional_row d.names a)) p.0,
        p.1,
      )
  statement_only c (trees.ParallelFor b s) r ls (low, high, s', inner, k, l, m, is, all) =
      let d = inside (in_body c b.variable) in
      let after = behind d s in
      let p = statement_only d s s' inner m in (
        is ∙ ap (λ x. ParallelFor x high c.loops) (expression_only c.names b.low low k) ∙ ap (λ x. ParallelFor (expression_of c.names b.low) x c.loops) (expression_only c.names b.high high l),
        all
            ∙ ap (λ x. let l : Loop = record { within = c.frame.body; cells = after.frame.cells; body = Then x Nothing } in l ∷ inner) p.0
            ∙ ap (λ x. loop_of c b.variable s ∷ x) p.1,
      )
  statement_only c (trees.Return place e) r ls (e', k, is, none) = (is ∙ ap Return (optional_only c.names e e' k), none)
  statement_only c (trees.Print e) r ls (e', k, is, none) = (is ∙ ap Print (expression_only c.names e e' k), none)
  statement_only c (trees.Update x e) r ls (k, e', v, l, is, none) =
      (is ∙ ap (Update k) (expression_only c.names e e' l) ∙ sym (ap (λ o. or_empty o (λ r. Update r (expression_of c.names e))) v), none)
  statement_only c (trees.Statement.Set x e) r ls (k, e', v, l, is, none) =
      (is ∙ ap (Set k) (expression_only c.names e e' l) ∙ sym (ap (λ o. or_empty o (λ r. Set r (expression_of c.names e))) v), none)

  pub row_only : (c : Context) (row : trees.Statements) (r : Statements) (ls : List Loop) → ResolvesRow c row r ls → (r ≡ row_of c row) × (ls ≡ row_loops c row)
  row_only c trees.End r ls h = h
  row_only c (trees.Then s row) r ls (s', row', first, second, k, l, is, all) =
      let d = behind (ahead c s) s in
      let p = statement_only (ahead c s) s s' first k in
      let q = row_only d row row' second l in
      (is ∙ ap (λ x. Then x row') p.0 ∙ ap (Then (statement_of (ahead c s) s)) q.0, all ∙ ap (λ x. x ++ second) p.1 ∙ ap (λ x. loops_of (ahead c s) s ++ x) q.1)
