-- A part of a tree without faults resolves to the result of the pass.
use Rattle.std.proofs.Common.{◌≡◌, ℕ, nat_eq, Bool, true, false, not, ◌||◌, List, [], ◌∷◌, ◌++◌, length, Option, Some, None, pos, negsuc, refl, sym, ap, ◌∙◌, subst, arith}
use Rattle.std.specs.Option.{is_some, option_map, option_to_list}
use Rattle.std.proofs.lemmas.Bool.{eqb-true}
use Rattle.cilk_monoid.specs.declared.kind.MonoidKind.{MonoidKind}
use Rattle.cilk_monoid.proofs.SameKinds.{same_kind-eq}
use Rattle.cilk_syntax.specs.declared.tree.Name.{Name}
use Rattle.cilk_types.specs.declared.invocation.Invocation.{Invocation}
use Rattle.cilk_syntax.specs.Trees as trees
use Rattle.cilk_program.specs.declared.syntax.Place.{Place}
use Rattle.cilk_program.specs.declared.syntax.Place.TheVariants.{Local}
use Rattle.cilk_program.specs.declared.syntax.Reducer.{Reducer}
use Rattle.cilk_program.specs.Syntax.{Target, ToVariable, ToElement, Invoke, Assign, Change, Step, Invokes, Update, Set}
use Rattle.cilk_names.specs.declared.kind.NameErrorKind.{NameErrorKind}
use Rattle.cilk_names.specs.declared.kind.NameErrorKind.TheVariants.{WrongCount, WrongKind}
use Rattle.cilk_names.specs.declared.table.Meaning.{Meaning}
use Rattle.cilk_names.specs.declared.table.Meaning.TheVariants as meanings
use Rattle.cilk_names.specs.declared.signature.ParameterKind.{ParameterKind}
use Rattle.cilk_names.specs.declared.signature.ParameterKind.TheVariants as kinds
use Rattle.cilk_names.specs.declared.signature.Signature.{Signature}
use Rattle.cilk_names.specs.Names.{Names, meaning}
use Rattle.cilk_names.specs.Contexts.{Context, inside, behind_scope, ahead, with_variable, behind_beginning, in_body, behind}
use Rattle.cilk_names.specs.Sights.{place_of, array_of, reducer_of, is_same, is_reducer_of, function_of, seen, variable, array, reducer, called, signature_of}
use Rattle.cilk_names.specs.Calls.{bare_name}
use Rattle.cilk_names.specs.Faults.{unless, name_faults, turn_faults, variable_faults, array_faults, reducer_faults, written_faults}
use Rattle.cilk_names.specs.Misnamings.{expression_faults, optional_faults, place_faults, assignment_faults, optional_assignment_faults, bare_faults, arguments_faults, returns_word, fit_faults, call_faults, declared_faults, initializer_faults, local_faults, locals_faults, beginning_faults, same_faults, head_faults, gives_what_it_returns, return_faults, statement_faults, row_faults}
use Rattle.cilk_names.specs.Pass.{read_of, element_of, value_of, expression_of, optional_of, to_variable, to_element, target_of, or_empty, assignment_of, optional_row, bare_reducer, words_of, reducers_of, invoke_of, invoking, declaration_of, declarations_of, beginning_of, statement_of, row_of, loops_of, row_loops}
use Rattle.cilk_names.specs.Resolution.{ResolvesExpression, ResolvesOptional, ResolvesPlace, ResolvesAssignment, ResolvesStep, ResolvesBare, ResolvesArguments, ResolvesCall, ResolvesInitializer, ResolvesLocals, ResolvesBeginning, ResolvesStatement, ResolvesRow}

-- both lists are empty
pub both_nil : {A : Type 0} (xs ys : List A) → xs ++ ys ≡ [] → (xs ≡ []) × (ys ≡ [])
both_nil [] ys h = (refl, h)
both_nil (x ∷ xs) ys h = absurd cc

pub unless_right : (b : Bool) (n : NameErrorKind) (place : ℕ) → unless b n place ≡ [] → b ≡ true
unless_right true n place h = refl
unless_right false n place h = absurd cc

some_right : {A : Type 0} (o : Option A) → is_some o ≡ true → (x : A) × (o ≡ Some x)
some_right None h = absurd cc
some_right (Some x) h = (x, refl)

-- a name with no fault is of the right kind
pub name_right : {A : Type 0} (f : Meaning → Option A) (m : Option Meaning) (place : ℕ) → name_faults (λ n. is_some (f n)) m place ≡ [] → (x : A) × (seen f m ≡ Some x)
name_right f None place h = absurd cc
name_right f (Some m) place h = some_right (f m) (unless_right (is_some (f m)) WrongKind place h)

pub variable_right : (names : Names) (x : Name) → variable_faults names x ≡ [] → (p : Place) × (variable names x ≡ Some p)
variable_right names x h = name_right (place_of names.level) (meaning names x) x.at h

pub array_right : (names : Names) (x : Name) → array_faults names x ≡ [] → (a : _) × (array names x ≡ Some a)
array_right names x h = name_right array_of (meaning names x) x.at h

pub reducer_right : (names : Names) (x : Name) → reducer_faults names x ≡ [] → (r : Reducer) × (reducer names x ≡ Some r)
reducer_right names x h = name_right (reducer_of names.level) (meaning names x) x.at h

pub written_right : (names : Names) (x : Name) → written_faults names x ≡ [] → (p : Place) × (variable names x ≡ Some p)
written_right names x h = variable_right names x (both_nil (variable_faults names x) (turn_faults (meaning names x) x.at) h).0

pub expression_right : (names : Names) (e : trees.Expression) → expression_faults names e ≡ [] → ResolvesExpression names e (expression_of names e)
expression_right names (trees.Number n) h = refl
expression_right names (trees.Expression.Variable x) h = let v = variable_right names x h in (v.0, v.1, ap read_of v.1)
expression_right names (trees.Expression.Element x e) h =
    let p = both_nil (array_faults names x) (expression_faults names e) h in
    let v = array_right names x p.0 in
    (v.0, expression_of names e, v.1, expression_right names e p.1, ap (λ o. element_of o (expression_of names e)) v.1)
expression_right names (trees.Group e) h = expression_right names e h
expression_right names (trees.Unary op e) h = (expression_of names e, expression_right names e h, refl)
expression_right names (trees.Binary op a b) h =
    let p = both_nil (expression_faults names a) (expression_faults names b) h in
    (expression_of names a, expression_of names b, expression_right names a p.0, expression_right names b p.1, refl)
expression_right names (trees.Expression.Value x) h = let v = reducer_right names x h in (v.0, v.1, ap value_of v.1)
expression_right names (trees.Input e) h = (expression_of names e, expression_right names e h, refl)
expression_right names trees.InputCount h = refl

pub optional_right : (names : Names) (e : Option trees.Expression) → optional_faults names e ≡ [] → ResolvesOptional names e (optional_of names e)
optional_right names None h = refl
optional_right names (Some e) h = (expression_of names e, expression_right names e h, refl)

pub place_right : (names : Names) (p : trees.Lvalue) → place_faults names p ≡ [] → (t : Target) × (target_of names p ≡ Some t) × ResolvesPlace names p t
place_right names (trees.Lvalue.Variable x) h = let v = written_right names x h in (ToVariable v.0, ap to_variable v.1, (v.0, v.1, refl))
place_right names (trees.Lvalue.Element x e) h =
    let p = both_nil (array_faults names x) (expression_faults names e) h in
    let v = array_right names x p.0 in
    (ToElement v.0 (expression_of names e), ap (λ o. to_element o (expression_of names e)) v.1, (v.0, expression_of names e, v.1, expression_right names e p.1, refl))

pub assignment_right : (names : Names) (a : trees.Assignment) → assignment_faults names a ≡ [] → ResolvesAssignment names a (assignment_of names a)
assignment_right names (trees.Assignment.Set p e) h =
    let q = both_nil (place_faults names p) (expression_faults names e) h in
    let t = place_right names p q.0 in
    (t.0, expression_of names e, t.2, expression_right names e q.1, ap (λ o. or_empty o (λ x. Assign x (expression_of names e))) t.1)
assignment_right names (trees.Compound op p e) h =
    let q = both_nil (place_faults names p) (expression_faults names e) h in
    let t = place_right names p q.0 in
    (t.0, expression_of names e, t.2, expression_right names e q.1, ap (λ o. or_empty o (λ x. Change x op (expression_of names e))) t.1)
assignment_right names (trees.Increment p) h = let t = place_right names p h in (t.0, t.2, ap (λ o. or_empty o (λ x. Step x (pos 1))) t.1)
assignment_right names (trees.Decrement p) h = let t = place_right names p h in (t.0, t.2, ap (λ o. or_empty o (λ x. Step x (negsuc 0))) t.1)

pub step_right : (names : Names) (a : Option trees.Assignment) → optional_assignment_faults names a ≡ [] → ResolvesStep names a (optional_row names a)
step_right names None h = refl
step_right names (Some a) h = (assignment_of names a, assignment_right names a h, refl)

both_same : (j k : Option MonoidKind) → is_same j k ≡ true → (i : MonoidKind) × (j ≡ Some i) × (k ≡ Some i)
both_same None k h = absurd cc
both_same (Some j) None h = absurd cc
both_same (Some j) (Some k) h = (k, ap Some (same_kind-eq j k h), refl)

kind_right : (level : ℕ) (k : Option MonoidKind) (m : Meaning) → is_reducer_of k m ≡ true → (r : Reducer) × (reducer_of level m ≡ Some r) × (k ≡ Some r.kind)
kind_right level k (meanings.Global n) h = absurd cc
kind_right level k (meanings.Array a) h = absurd cc
kind_right level k (meanings.Local l n) h = absurd cc
kind_right level k (meanings.Turn l) h = absurd cc
kind_right level k (meanings.Reducer home None) h = absurd cc
kind_right level k (meanings.Reducer home (Some j)) h =
    let e = both_same (Some j) k h in
    let r : (r : Reducer) × (reducer_of level (meanings.Reducer home (Some j)) ≡ Some r) × (r.kind ≡ j) = (_, refl, refl) in
    let same : j ≡ e.0 = cc in
    (r.0, r.1, e.2 ∙ ap Some (sym same ∙ sym r.2))
kind_right level k (meanings.Function n) h = absurd cc

bare_named : (names : Names) (k : Option MonoidKind) (place : ℕ) (m : Option Meaning) → name_faults (is_reducer_of k) m place ≡ []
    → (r : Reducer) × (seen (reducer_of names.level) m ≡ Some r) × (k ≡ Some r.kind)
bare_named names k place None h = absurd cc
bare_named names k place (Some m) h = kind_right names.level k m (unless_right (is_reducer_of k m) WrongKind place h)

pub bare_right : (names : Names) (k : Option MonoidKind) (place : ℕ) (e : trees.Expression) (o : Option Name) → bare_name e ≡ o → bare_faults names k place e o ≡ []
    → (r : Reducer) × ResolvesBare names e r × (k ≡ Some r.kind) × (bare_reducer names o ≡ Some r)
bare_right names k place e None is h = absurd cc
bare_right names k place e (Some x) is h = let r = bare_named names k place (meaning names x) h in (r.0, (x, is, r.1), r.2, r.1)

pub arguments_right : (names : Names) (ks : List ParameterKind) (list : List trees.Argument) → length list ≡ length ks → arguments_faults names ks list ≡ []
    → ResolvesArguments names ks list (words_of names ks list) (reducers_of names ks list)
arguments_right names [] [] n h = (refl, refl)
arguments_right names [] (a ∷ list) n h = absurd (omega arith)
arguments_right names (k ∷ ks) [] n h = absurd (omega arith)
arguments_right names (kinds.Word ∷ ks) (a ∷ list) n h =
    let p = both_nil (expression_faults names a.value) (arguments_faults names ks list) h in
    (expression_of names a.value, words_of names ks list, expression_right names a.value p.0, arguments_right names ks list (omega arith) p.1, refl)
arguments_right names (kinds.Reducer k ∷ ks) (a ∷ list) n h =
    let p = both_nil (bare_faults names k a.at a.value (bare_name a.value)) (arguments_faults names ks list) h in
    let r = bare_right names k a.at a.value (bare_name a.value) refl p.0 in
    (r.0, reducers_of names ks list, r.1, r.2, arguments_right names ks list (omega arith) p.1, ap (λ o. option_to_list o ++ reducers_of names ks list) r.3)

fit_right : (o : Option ℕ) (n : ℕ) (s : Signature) (taken : Bool) (c : trees.Call) → o ≡ Some n → fit_faults o s taken c ≡ [] → length c.arguments ≡ length s.parameters
fit_right None n s taken c e h = absurd cc
fit_right (Some k) n s taken c e h =
    let p = both_nil (unless (nat_eq (length c.arguments) (length s.parameters)) WrongCount c.name.at) (unless (returns_word s.returns || not taken) WrongKind c.name.at) h in
    eqb-true (length c.arguments) (length s.parameters) (unless_right (nat_eq (length c.arguments) (length s.parameters)) WrongCount c.name.at p.0)

pub call_right : (names : Names) (taken : Bool) (how : Invocation) (c : trees.Call) (place : Option Place) → call_faults names taken c ≡ []
    → (i : Invoke) × (invoke_of names how c place ≡ Some i) × ResolvesCall names how c place i
call_right names taken how c place h =
    let s = signature_of names (called names c.name) in
    let p = both_nil (name_faults (λ m. is_some (function_of m)) (meaning names c.name) c.name.at ++ fit_faults (called names c.name) s taken c) (arguments_faults names s.parameters c.arguments) h in
    let q = both_nil (name_faults (λ m. is_some (function_of m)) (meaning names c.name) c.name.at) (fit_faults (called names c.name) s taken c) p.0 in
    let f : (n : ℕ) × (called names c.name ≡ Some n) = name_right function_of (meaning names c.name) c.name.at q.0 in
    let same : s ≡ signature_of names (Some f.0) = ap (signature_of names) f.1 in
    let args : ResolvesArguments names s.parameters c.arguments (words_of names s.parameters c.arguments) (reducers_of names s.parameters c.arguments) =
    arguments_right names s.parameters c.arguments (fit_right (called names c.name) f.0 s taken c f.1 q.1) p.1 in
    let i : Invoke = record { how = how; function = f.0; arguments = words_of names s.parameters c.arguments; reducers = reducers_of names s.parameters c.arguments; result = place } in (
      i,
      ap (λ (o : Option ℕ). option_map (λ n. let j : Invoke = record { how = how; function = n; arguments = words_of names s.parameters c.arguments; reducers = reducers_of names s.parameters c.arguments; result = place } in j) o) f.1,
      (
        f.0,
        words_of names s.parameters c.arguments,
        reducers_of names s.parameters c.arguments,
        f.1,
        subst (λ (t : Signature). ResolvesArguments names t.parameters c.arguments (words_of names s.parameters c.arguments) (reducers_of names s.parameters c.arguments)) same args,
        refl,
      ),
    )

pub initializer_right : (names : Names) (n : ℕ) (i : trees.LocalInitializer) → initializer_faults names i ≡ [] → ResolvesInitializer names n i (declaration_of names n i)
initializer_right names n trees.Absent h = refl
initializer_right names n (trees.LocalInitializer.Value e) h = (expression_of names e, expression_right names e h, refl)
initializer_right names n (trees.LocalInitializer.Invoke how c) h =
    let i = call_right names true how c (Some (Local 0 n)) h in (i.0, i.2, ap (invoking n) i.1)

pub locals_right : (c : Context) (ls : List trees.Local) → locals_faults c ls ≡ [] → ResolvesLocals c ls (declarations_of c ls)
locals_right c [] h = refl
locals_right c (l ∷ ls) h =
    let c' = with_variable c l.name in
    let p = both_nil (local_faults c l) (locals_faults c' ls) h in
    let q = both_nil (declared_faults c l.name) (initializer_faults c'.names l.initializer) p.0 in
    (declaration_of c'.names c.frame.cells l.initializer, declarations_of c' ls, initializer_right c'.names c.frame.cells l.initializer q.1, locals_right c' ls p.1, refl)

pub beginning_right : (c : Context) (b : Option trees.Beginning) → beginning_faults c b ≡ [] → ResolvesBeginning c b (beginning_of c b)
beginning_right c None h = refl
beginning_right c (Some (trees.Declares x e)) h =
    let c' = with_variable c x in
    let p = both_nil (declared_faults c x) (expression_faults c'.names e) h in (expression_of c'.names e, expression_right c'.names e p.1, refl)
beginning_right c (Some (trees.Assigns a)) h = (assignment_of c.names a, assignment_right c.names a h, refl)

-- the bounds of a parallel loop
pub head_right : (names : Names) (b : trees.Bounds) → head_faults names b ≡ [] → (expression_faults names b.low ≡ []) × (expression_faults names b.high ≡ [])
head_right names b h =
    let p = both_nil (expression_faults names b.low ++ same_faults names b.variable b.tested ++ expression_faults names b.high) (same_faults names b.variable b.stepped) h in
    let q = both_nil (expression_faults names b.low ++ same_faults names b.variable b.tested) (expression_faults names b.high) p.0 in
    ((both_nil (expression_faults names b.low) (same_faults names b.variable b.tested) q.0).0, q.1)

-- the parts of a `for`
pub for_right : (c : Context) (b : Option trees.Beginning) (e : Option trees.Expression) (a : Option trees.Assignment) (s : trees.Statement) → statement_faults c (trees.For b e a s) ≡ []
    → (beginning_faults (inside c) b ≡ []) × (let d = behind_beginning (inside c) b in optional_faults d.names e ≡ [])
    × (let d = behind_beginning (inside c) b in optional_assignment_faults d.names a ≡ []) × (statement_faults (inside (behind_beginning (inside c) b)) s ≡ [])
for_right c b e a s h =
    let d = behind_beginning (inside c) b in
    let p = both_nil (beginning_faults (inside c) b ++ optional_faults d.names e ++ optional_assignment_faults d.names a) (statement_faults (inside d) s) h in
    let q = both_nil (beginning_faults (inside c) b ++ optional_faults d.names e) (optional_assignment_faults d.names a) p.0 in
    let r = both_nil (beginning_faults (inside c) b) (optional_faults d.names e) q.0 in
    (r.0, r.1, q.1, p.1)

pub return_right : (names : Names) (returns : _) (place : ℕ) (e : Option trees.Expression) → return_faults names returns place e ≡ [] → optional_faults names e ≡ []
return_right names returns place e h =
    (both_nil (unless (nat_eq names.level 0) _ place ++ unless (gives_what_it_returns returns e) WrongKind place) (optional_faults names e) h).1

mutual
  pub statement_right : (c : Context) (s : trees.Statement) → statement_faults c s ≡ [] → ResolvesStatement c s (statement_of c s) (loops_of c s)
  statement_right c trees.Empty h = (refl, refl)
  statement_right c (trees.Block row) h = (row_of (inside c) row, row_right (inside c) row h, refl)
  statement_right c (trees.Declare ls) h = (declarations_of c ls, locals_right c ls h, refl, refl)
  statement_right c (trees.Statement.Reducer r) h = (refl, refl)
  statement_right c (trees.Assign a) h = (assignment_right c.names a h, refl)
  statement_right c (trees.Statement.Invoke how k) h = let i = call_right c.names false how k None h in (i.0, i.2, ap (λ o. or_empty o Invokes) i.1, refl)
  statement_right c (trees.AssignCall x how k) h =
      let p = both_nil (written_faults c.names x) (call_faults c.names true k) h in
      let v = written_right c.names x p.0 in
      let i = call_right c.names true how k (Some v.0) p.1 in
      (v.0, i.0, v.1, i.2, ap (λ o. or_empty (invoke_of c.names how k o) Invokes) v.1 ∙ ap (λ o. or_empty o Invokes) i.1, refl)
  statement_right c trees.Sync h = (refl, refl)
  statement_right c (trees.If e s) h =
      let p = both_nil (expression_faults c.names e) (statement_faults (inside c) s) h in
      (expression_of c.names e, statement_of (inside c) s, expression_right c.names e p.0, statement_right (inside c) s p.1, refl)
  statement_right c (trees.IfElse e s other) h =
      let d = inside (behind_scope c (behind (inside c) s)) in
      let p = both_nil (expression_faults c.names e ++ statement_faults (inside c) s) (statement_faults d other) h in
      let q = both_nil (expression_faults c.names e) (statement_faults (inside c) s) p.0 in (
        expression_of c.names e,
        statement_of (inside c) s,
        statement_of d other,
        loops_of (inside c) s,
        loops_of d other,
        expression_right c.names e q.0,
        statement_right (inside c) s q.1,
        statement_right d other p.1,
        refl,
        refl,
      )
  statement_right c (trees.While e s) h =
      let p = both_nil (expression_faults c.names e) (statement_faults (inside c) s) h in
      (expression_of c.names e, statement_of (inside c) s, expression_right c.names e p.0, statement_right (inside c) s p.1, refl)
  statement_right c (trees.For b e a s) h =
      let d = behind_beginning (inside c) b in
      let p = for_right c b e a s h in (
        beginning_of (inside c) b,
        optional_of d.names e,
        optional_row d.names a,
        statement_of (inside d) s,
        beginning_right (inside c) b p.0,
        optional_right d.names e p.1,
        step_right d.names a p.2,
        statement_right (inside d) s p.3,
        refl,
      )
  statement_right c (trees.ParallelFor b s) h =
      let d = inside (in_body c b.variable) in
      let p = both_nil (head_faults c.names b) (statement_faults d s) h in
      let q = head_right c.names b p.0 in (
        expression_of c.names b.low,
        expression_of c.names b.high,
        statement_of d s,
        loops_of d s,
        expression_right c.names b.low q.0,
        expression_right c.names b.high q.1,
        statement_right d s p.1,
        refl,
        refl,
      )
  statement_right c (trees.Return place e) h = (optional_of c.names e, optional_right c.names e (return_right c.names c.frame.returns place e h), refl, refl)
  statement_right c (trees.Print e) h = (expression_of c.names e, expression_right c.names e h, refl, refl)
  statement_right c (trees.Update x e) h =
      let p = both_nil (reducer_faults c.names x) (expression_faults c.names e) h in
      let v = reducer_right c.names x p.0 in
      (v.0, expression_of c.names e, v.1, expression_right c.names e p.1, ap (λ o. or_empty o (λ r. Update r (expression_of c.names e))) v.1, refl)
  statement_right c (trees.Statement.Set x e) h =
      let p = both_nil (reducer_faults c.names x) (expression_faults c.names e) h in
      let v = reducer_right c.names x p.0 in
      (v.0, expression_of c.names e, v.1, expression_right c.names e p.1, ap (λ o. or_empty o (λ r. Set r (expression_of c.names e))) v.1, refl)

  pub row_right : (c : Context) (row : trees.Statements) → row_faults c row ≡ [] → ResolvesRow c row (row_of c row) (row_loops c row)
  row_right c trees.End h = (refl, refl)
  row_right c (trees.Then s row) h =
      let d = behind (ahead c s) s in
      let p = both_nil (statement_faults (ahead c s) s) (row_faults d row) h in
      (statement_of (ahead c s) s, row_of d row, loops_of (ahead c s) s, row_loops d row, statement_right (ahead c s) s p.0, row_right d row p.1, refl, refl)
