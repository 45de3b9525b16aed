-- Tokens that are read to their end have a tree. Each expected symbol spells a sequence of tokens,
-- and a list of symbols spells one sequence after the other. The move of a token is read backward:
-- from the symbols that are expected after it to those before it.
use Rattle.std.proofs.Common.{◌≡◌, ℕ, ℤ, pos, ◌+◌, ◌<◌, ◌≤◌, Bool, true, false, cond, List, [], ◌∷◌, ◌⊎◌, inl, inr, Option, Some, None, refl, sym, ap, ◌∙◌, subst, arith}
use Rattle.std.specs.Ordering.{int_eq}
use Rattle.std.proofs.lemmas.Bool.{cases_lt}
use Rattle.std.proofs.lemmas.Bool.Decides.{Decides-int_eq}
use Rattle.cilk_syntax.specs.declared.token.Kind.{Kind}
use Rattle.cilk_syntax.specs.declared.token.Kind.TheVariants as kinds
use Rattle.cilk_syntax.specs.declared.token.Token.{Token}
use Rattle.cilk_syntax.specs.declared.marks.Punct.{Punct}
use Rattle.cilk_syntax.specs.declared.marks.Punct.TheVariants as marks
use Rattle.cilk_syntax.specs.declared.tree.Name.{Name}
use Rattle.cilk_syntax.specs.declared.tree.UnaryOperator.TheVariants.{Negate, Not}
use Rattle.cilk_syntax.specs.declared.tree.BinaryOperator.{BinaryOperator}
use Rattle.cilk_syntax.specs.declared.tree.BinaryOperator.TheVariants as operators
use Rattle.cilk_types.specs.declared.compound.Compound.TheVariants as compounds
use Rattle.cilk_types.specs.declared.invocation.Invocation.TheVariants as invocations
use Rattle.cilk_syntax.specs.declared.tree.ReturnType.TheVariants as types
use Rattle.cilk_syntax.specs.declared.tree.Reducer as reducers
use Rattle.cilk_syntax.specs.declared.tree.Initializer.{Initializer}
use Rattle.cilk_syntax.specs.declared.tree.Initializer.TheVariants as initializers
use Rattle.cilk_syntax.specs.declared.tree.GlobalVariable.{GlobalVariable}
use Rattle.cilk_syntax.specs.declared.tree.GlobalVariable.TheVariants as globals
use Rattle.cilk_syntax.specs.declared.tree.Parameter as declared_parameters
use Rattle.cilk_syntax.specs.declared.tree.Parameter.TheVariants as parameters
use Rattle.cilk_syntax.specs.Trees as trees
use Rattle.cilk_syntax.specs.Trees.{Expression, Number, Group, Unary, Binary, Input, InputCount, Argument, Call, Local, LocalInitializer, Statement, Statements, End, Then}
use Rattle.cilk_syntax.specs.Expected as expected
use Rattle.cilk_syntax.specs.Expected.{Symbol, One, Named, Numeral, Single, Operand, Index, Tail, Anew, Optional, ElsePart, AfterName, Subscript, Operation, Source, SourceRest, Arguments, MoreArguments, Declaration, LocalInitial, Locals, Step, UnitStep, UnitStepRest, Declared, Literal, Initial, Variables, Parameters, MoreParameters, Items, After, Goes, Fails, move_one, move_named, move_numeral, move_single, move_operand, move_index, move_tail, move_optional, move_statement, move_else, move_after_name, move_assignment, move_subscript, move_operation, move_source, move_source_rest, move_arguments, move_more_arguments, move_declaration, move_local_initial, move_locals, move_beginning, move_step, move_unit_step, move_unit_step_rest, move_item, move_declared, move_literal, move_initial, move_variables, move_parameters, move_parameter, move_more_parameters, move_items, kind_of, fits, level_of, begins_statement, followed, passed, chosen, after, at_end}
use Rattle.cilk_syntax.specs.Grammar.{Is, IsName, mark_of, level, level_in, SpellsExpr, SpellsInside, SpellsEnded, SpellsOptional, SpellsArgument, SpellsMoreArguments, SpellsArguments, SpellsCall, SpellsSource, SpellsLvalue, SpellsAssignment, SpellsLocalInitializer, SpellsLocal, SpellsMoreLocals, SpellsLocalLine, SpellsReducer, SpellsDefined, SpellsTested, SpellsUnit, SpellsUnitStep, SpellsBeginning, SpellsStep, SpellsHead, SpellsBounds, SpellsUpdate, SpellsStmt, SpellsAll, SpellsLiteral, SpellsGlobal, SpellsMore, SpellsLine, SpellsParameter, SpellsMoreParameters, SpellsParameters, SpellsBody, SpellsFunction, SpellsItem, SpellsItems, NoElse}
use Rattle.cilk_syntax.proofs.Lists.{form_repeats, spells_initial}
use Rattle.cilk_syntax.proofs.MarkLaws.{is_mark}
use Rattle.cilk_parser.proofs.Accepted.{low}
use Rattle.cilk_parser.proofs.Traces.{trace, noted, ended, ahead}

-- an expression followed by an operator and a part
abbrev Longer : Expression → BinaryOperator → List Token → List Token → Type 0
Longer e op ts rest = (e' : Expression) × SpellsExpr e' ts rest × ((k : ℕ) → k ≤ level_in e → k ≤ level op → k ≤ level_in e')

on_top : (e : Expression) (op : BinaryOperator) (u : Expression) (ts ts1 ts2 rest : List Token) → level op ≤ level_in e → SpellsExpr e ts ts1 → Is (mark_of op) ts1 ts2 → SpellsExpr u ts2 rest → 6 ≤ level_in u → Longer e op ts rest
on_top e op u ts ts1 ts2 rest l h is k m =
    (Binary op e u, (ts1, ts2, h, l, is, k, omega (arith, low op)), λ n p q. q)

longer : (e : Expression) (op : BinaryOperator) (u : Expression) (ts ts1 ts2 rest : List Token) → SpellsExpr e ts ts1 → Is (mark_of op) ts1 ts2 → SpellsExpr u ts2 rest → 6 ≤ level_in u → Longer e op ts rest
longer (Binary o a b) op u ts ts1 ts2 rest h is k m = choose (cases_lt (level o) (level op)) (longer b op u h.1 ts1 ts2 rest h.5 is k m)
  where
    choose : (level o < level op) ⊎ (level op ≤ level o) → Longer b op h.1 rest → Longer (Binary o a b) op ts rest
    choose (inl less) b' =
        (Binary o a b'.0, (h.0, h.1, h.2, h.3, h.4, b'.1, b'.2 (level o + 1) h.6 (omega arith)), λ n p q. p)
    choose (inr more) b' = on_top (Binary o a b) op u ts ts1 ts2 rest more h is k m
longer (Number n) op u ts ts1 ts2 rest h is k m = on_top (Number n) op u ts ts1 ts2 rest (omega (arith, low op)) h is k m
longer (Expression.Variable n) op u ts ts1 ts2 rest h is k m = on_top (Expression.Variable n) op u ts ts1 ts2 rest (omega (arith, low op)) h is k m
longer (Expression.Element n e) op u ts ts1 ts2 rest h is k m = on_top (Expression.Element n e) op u ts ts1 ts2 rest (omega (arith, low op)) h is k m
longer (Group e) op u ts ts1 ts2 rest h is k m = on_top (Group e) op u ts ts1 ts2 rest (omega (arith, low op)) h is k m
longer (Unary o e) op u ts ts1 ts2 rest h is k m = on_top (Unary o e) op u ts ts1 ts2 rest (omega (arith, low op)) h is k m
longer (Expression.Value n) op u ts ts1 ts2 rest h is k m = on_top (Expression.Value n) op u ts ts1 ts2 rest (omega (arith, low op)) h is k m
longer (Input e) op u ts ts1 ts2 rest h is k m = on_top (Input e) op u ts ts1 ts2 rest (omega (arith, low op)) h is k m
longer InputCount op u ts ts1 ts2 rest h is k m = on_top InputCount op u ts ts1 ts2 rest (omega (arith, low op)) h is k m

-- each expression that ends here can be extended
abbrev Extends : List Token → List Token → Type 0
Extends ts rest = (e : Expression) (ts0 : List Token) → SpellsExpr e ts0 ts → (e' : Expression) × SpellsExpr e' ts0 rest

abbrev Second : List Token → List Token → Type 0
Second ts rest = (ts1 : List Token) × (s : Statement) × Is kinds.Else ts ts1 × SpellsStmt s ts1 rest

-- each name that ends here can be extended to a part
abbrev NamesPart : List Token → List Token → Type 0
NamesPart ts rest = (name : Name) (ts0 : List Token) → IsName name ts0 ts → (e : Expression) × SpellsExpr e ts0 rest × (6 ≤ level_in e)

-- the same for a statement, a place and a right side
abbrev NamesStatement : List Token → List Token → Type 0
NamesStatement ts rest = (name : Name) (ts0 : List Token) → IsName name ts0 ts → (s : Statement) × SpellsStmt s ts0 rest

abbrev NamesLvalue : List Token → List Token → Type 0
NamesLvalue ts rest = (name : Name) (ts0 : List Token) → IsName name ts0 ts → (p : trees.Lvalue) × SpellsLvalue p ts0 rest

abbrev NamesSource : List Token → List Token → Type 0
NamesSource ts rest = (name : Name) (ts0 : List Token) → IsName name ts0 ts → (v : LocalInitializer) × SpellsSource v ts0 rest

-- each place that ends here is assigned to
abbrev Assigns : List Token → List Token → Type 0
Assigns ts rest = (p : trees.Lvalue) (ts0 : List Token) → SpellsLvalue p ts0 ts → (a : trees.Assignment) × SpellsAssignment a ts0 rest

-- an `int` that ends here declares something
abbrev DeclaresLocals : List Token → List Token → Type 0
DeclaresLocals ts rest = (ts0 : List Token) → Is kinds.Int ts0 ts → (s : Statement) × SpellsStmt s ts0 rest

abbrev DeclaresItem : List Token → List Token → Type 0
DeclaresItem ts rest = (ts0 : List Token) → Is kinds.Int ts0 ts → (i : trees.Item) × SpellsItem i ts0 rest

-- the same with a name after it
abbrev Declares : List Token → List Token → Type 0
Declares ts rest = (name : Name) (ts0 ts1 : List Token) → Is kinds.Int ts0 ts1 → IsName name ts1 ts → (i : trees.Item) × SpellsItem i ts0 rest

abbrev NamesGlobal : List Token → List Token → Type 0
NamesGlobal ts rest = (name : Name) → (v : GlobalVariable) × SpellsGlobal v name ts rest

-- more items of a list, and its end
abbrev MoreArgumentsAndEnd : List Token → List Token → Type 0
MoreArgumentsAndEnd ts rest = (list : List Argument) × (ts1 : List Token) × SpellsMoreArguments list ts ts1 × Is kinds.Close ts1 rest

abbrev MoreLocalsAndEnd : List Token → List Token → Type 0
MoreLocalsAndEnd ts rest = (list : List Local) × (ts1 : List Token) × SpellsMoreLocals list ts ts1 × Is kinds.Semicolon ts1 rest

abbrev MoreAndEnd : List Token → List Token → Type 0
MoreAndEnd ts rest = (list : List GlobalVariable) × (ts1 : List Token) × SpellsMore list ts ts1 × Is kinds.Semicolon ts1 rest

abbrev MoreParametersAndEnd : List Token → List Token → Type 0
MoreParametersAndEnd ts rest = (list : List declared_parameters.Parameter) × (ts1 : List Token) × SpellsMoreParameters list ts ts1 × Is kinds.Close ts1 rest

-- the tokens before rest, spelled by the symbol
abbrev Stands : Symbol → List Token → List Token → Type 0
Stands (One mark) ts rest = Is (kind_of mark) ts rest
Stands Named ts rest = Is kinds.Name ts rest
Stands Numeral ts rest = (n : _) × Is (kinds.Number n) ts rest
Stands Single ts rest = Is (kinds.Number (pos 1)) ts rest
Stands (Operand d) ts rest = (e : Expression) × SpellsExpr e ts rest × (6 ≤ level_in e)
Stands (Index d) ts rest = NamesPart ts rest
Stands (Tail d) ts rest = Extends ts rest
Stands Anew ts rest = ts ≡ rest
Stands (Optional d) ts rest = (v : Option Expression) × SpellsOptional v ts rest
Stands (expected.Statement d) ts rest = (s : Statement) × SpellsStmt s ts rest
Stands (expected.Statements d) ts rest = (row : Statements) × SpellsAll row ts rest
Stands (ElsePart d) ts rest = ((ts ≡ rest) × NoElse ts) ⊎ Second ts rest
Stands (AfterName d) ts rest = NamesStatement ts rest
Stands (expected.Assignment d) ts rest = (a : trees.Assignment) × SpellsAssignment a ts rest
Stands (Subscript d) ts rest = NamesLvalue ts rest
Stands (Operation d) ts rest = Assigns ts rest
Stands (Source d) ts rest = (v : LocalInitializer) × SpellsSource v ts rest
Stands (SourceRest d) ts rest = NamesSource ts rest
Stands (Arguments d) ts rest = (list : List Argument) × SpellsArguments list ts rest
Stands (MoreArguments d) ts rest = MoreArgumentsAndEnd ts rest
Stands (Declaration d) ts rest = DeclaresLocals ts rest
Stands (LocalInitial d) ts rest = (v : LocalInitializer) × SpellsLocalInitializer v ts rest
Stands (Locals d) ts rest = MoreLocalsAndEnd ts rest
Stands (expected.Beginning d) ts rest = (b : Option trees.Beginning) × SpellsBeginning b ts rest
Stands (Step d) ts rest = (a : Option trees.Assignment) × SpellsStep a ts rest
Stands UnitStep ts rest = (name : Name) × SpellsUnitStep name ts rest
Stands UnitStepRest ts rest = SpellsUnit ts rest
Stands expected.Item ts rest = DeclaresItem ts rest
Stands Declared ts rest = Declares ts rest
Stands Literal ts rest = (i : Initializer) × SpellsLiteral i ts rest
Stands Initial ts rest = NamesGlobal ts rest
Stands Variables ts rest = MoreAndEnd ts rest
Stands Parameters ts rest = (list : List declared_parameters.Parameter) × SpellsParameters list ts rest
Stands expected.Parameter ts rest = (p : declared_parameters.Parameter) × SpellsParameter p ts rest
Stands MoreParameters ts rest = MoreParametersAndEnd ts rest
Stands Items ts rest = (list : List trees.Item) × SpellsItems list ts rest

-- the symbols spell the tokens, one after the other
abbrev Row : List Symbol → List Token → Type 0
Row [] ts = ts ≡ []
Row (s ∷ stack) ts = (rest : List Token) × Stands s ts rest × Row stack rest

abbrev RowAfter : After → List Token → Type 0
RowAfter (Goes b stack n) ts = Row stack ts
RowAfter Fails ts = ⊥

-- the name that a token is
abbrev name_at : Token → Name
name_at t = record { at = t.at; end = t.end }

is_name : (ts rest : List Token) → (h : Is kinds.Name ts rest) → IsName (name_at h.0) ts rest
is_name ts rest h = (h.0, h.1, h.2, refl, refl)

first_is_name : (t : Token) (ts : List Token) → t.kind ≡ kinds.Name → IsName (name_at t) (t ∷ ts) ts
first_is_name t ts e = (t, refl, e, refl, refl)

-- an expression has a first token
first_of : (e : Expression) (ts rest : List Token) → SpellsExpr e ts rest → (t : Token) × (ts1 : List Token) × (ts ≡ t ∷ ts1)
first_of (Number n) ts rest h = (h.0, rest, h.1)
first_of (Expression.Variable n) ts rest h = (h.0, rest, h.1)
first_of (Expression.Element n e) ts rest h = (h.3.0, h.0, h.3.1)
first_of (Group e) ts rest h = (h.2.0, h.0, h.2.1)
first_of (Unary o e) ts rest h = (h.1.0, h.0, h.1.1)
first_of (Binary o a b) ts rest h = first_of a ts h.0 h.2
first_of (Expression.Value n) ts rest h = (h.3.0, h.0, h.3.1)
first_of (Input e) ts rest h = (h.3.0, h.0, h.3.1)
first_of InputCount ts rest h = (h.2.0, h.0, h.2.1)

as_argument : (e : Expression) (ts rest : List Token) → SpellsExpr e ts rest → (a : Argument) × SpellsArgument a ts rest
as_argument e ts rest h =
    let f = first_of e ts rest h in
    (record { at = f.0.at; value = e }, (f.0, f.1, f.2, refl, h))

back_one : (t : Token) (ts : List Token) (mark : Punct) (stack : List Symbol) (n : ℕ) (below : After) (b : Bool) → fits mark t.kind ≡ b → RowAfter (chosen (move_one b) stack n below) ts → Row (One mark ∷ stack) (t ∷ ts)
back_one t ts mark stack n below true e h = (ts, (t, refl, is_mark mark t.kind e), h)
back_one t ts mark stack n below false e h = absurd h

back_named : (t : Token) (ts : List Token) (stack : List Symbol) (n : ℕ) (below : After) (k : Kind) → t.kind ≡ k → RowAfter (chosen (move_named k) stack n below) ts → Row (Named ∷ stack) (t ∷ ts)
back_named t ts stack n below kinds.Name e h = (ts, (t, refl, e), h)
back_named t ts stack n below _ e h = absurd h

back_numeral : (t : Token) (ts : List Token) (stack : List Symbol) (n : ℕ) (below : After) (k : Kind) → t.kind ≡ k → RowAfter (chosen (move_numeral k) stack n below) ts → Row (Numeral ∷ stack) (t ∷ ts)
back_numeral t ts stack n below (kinds.Number v) e h = (ts, (v, (t, refl, e)), h)
back_numeral t ts stack n below _ e h = absurd h

single_number : (t : Token) (ts : List Token) (stack : List Symbol) (n : ℕ) (below : After) (v : ℤ) (b : Bool) → t.kind ≡ kinds.Number v → int_eq v (pos 1) ≡ b → RowAfter (chosen (move_one b) stack n below) ts → Row (Single ∷ stack) (t ∷ ts)
single_number t ts stack n below v true e is h = (ts, (t, refl, e ∙ ap kinds.Number ((Decides-int_eq v (pos 1)).0 is)), h)
single_number t ts stack n below v false e is h = absurd h

back_single : (t : Token) (ts : List Token) (stack : List Symbol) (n : ℕ) (below : After) (k : Kind) → t.kind ≡ k → RowAfter (chosen (move_single k) stack n below) ts → Row (Single ∷ stack) (t ∷ ts)
back_single t ts stack n below (kinds.Number v) e h = single_number t ts stack n below v (int_eq v (pos 1)) e refl h
back_single t ts stack n below _ e h = absurd h

back_operand : (t : Token) (ts : List Token) (d : ℕ) (stack : List Symbol) (n : ℕ) (below : After) (k : Kind) → t.kind ≡ k → RowAfter (chosen (move_operand d k) stack n below) ts → Row (Operand d ∷ stack) (t ∷ ts)
back_operand t ts d stack n below kinds.Minus e h =
    (h.0, (Unary Negate h.1.0, (ts, (t, refl, e), h.1.1, h.1.2), omega arith), h.2)
back_operand t ts d stack n below kinds.Not e h =
    (h.0, (Unary Not h.1.0, (ts, (t, refl, e), h.1.1, h.1.2), omega arith), h.2)
back_operand t ts d stack n below kinds.Open e h =
    let whole = h.2.1 h.1.0 ts h.1.1 in
    (h.2.2.0, (Group whole.0, (ts, h.2.0, (t, refl, e), whole.1, h.2.2.1), omega arith), h.2.2.2)
back_operand t ts d stack n below kinds.Value e h =
    (h.2.2.0, (Expression.Value (name_at h.2.1.0), (ts, h.0, h.2.0, (t, refl, e), h.1, is_name h.0 h.2.0 h.2.1, h.2.2.1), omega arith), h.2.2.2)
back_operand t ts d stack n below kinds.Input e h =
    let whole = h.2.2.1 h.2.1.0 h.0 h.2.1.1 in
    (h.2.2.2.0, (Input whole.0, (ts, h.0, h.2.2.0, (t, refl, e), h.1, whole.1, h.2.2.2.1), omega arith), h.2.2.2.2)
back_operand t ts d stack n below kinds.InputCount e h =
    (h.2.0, (InputCount, (ts, h.0, (t, refl, e), h.1, h.2.1), omega arith), h.2.2)
back_operand t ts d stack n below (kinds.Number v) e h = (ts, (Number v, (t, refl, e), omega arith), h)
back_operand t ts d stack n below kinds.Name e h =
    let part = h.1 (name_at t) (t ∷ ts) (first_is_name t ts e) in
    (h.0, (part.0, part.1, part.2), h.2)
back_operand t ts d stack n below _ e h = absurd h

back_index : (t : Token) (ts : List Token) (d : ℕ) (stack : List Symbol) (n : ℕ) (below : After) (k : Kind) → t.kind ≡ k → (RowAfter below ts → Row stack (t ∷ ts)) → RowAfter (chosen (move_index d k) stack n below) ts → Row (Index d ∷ stack) (t ∷ ts)
back_index t ts d stack n below kinds.OpenBracket e pass h =
    let whole = h.2.1 h.1.0 ts h.1.1 in
    (h.2.2.0, (λ name ts0 is. (Expression.Element name whole.0, (t ∷ ts, ts, h.2.0, is, (t, refl, e), whole.1, h.2.2.1), omega arith)), h.2.2.2)
back_index t ts d stack n below _ e pass h = (t ∷ ts, (λ name ts0 is. (Expression.Variable name, is, omega arith)), pass h)

operated : (op : BinaryOperator) (t : Token) (ts : List Token) (d : ℕ) (stack : List Symbol) → t.kind ≡ mark_of op → Row (Operand d ∷ Tail d ∷ stack) ts → Row (Tail d ∷ stack) (t ∷ ts)
operated op t ts d stack is h =
    (h.2.0, (λ e ts0 k. let more = longer e op h.1.0 ts0 (t ∷ ts) ts h.0 k (t, refl, is) h.1.1 h.1.2 in h.2.1 more.0 ts0 more.1), h.2.2)

back_tail : (t : Token) (ts : List Token) (d : ℕ) (stack : List Symbol) (n : ℕ) (below : After) (k : Kind) → t.kind ≡ k → (RowAfter below ts → Row stack (t ∷ ts)) → RowAfter (chosen (move_tail d (level_of k)) stack n below) ts → Row (Tail d ∷ stack) (t ∷ ts)
back_tail t ts d stack n below kinds.Or e pass h = operated operators.Or t ts d stack e h
back_tail t ts d stack n below kinds.And e pass h = operated operators.And t ts d stack e h
back_tail t ts d stack n below kinds.Equal e pass h = operated operators.Equal t ts d stack e h
back_tail t ts d stack n below kinds.NotEqual e pass h = operated operators.NotEqual t ts d stack e h
back_tail t ts d stack n below kinds.Less e pass h = operated operators.Less t ts d stack e h
back_tail t ts d stack n below kinds.LessEqual e pass h = operated operators.LessEqual t ts d stack e h
back_tail t ts d stack n below kinds.Greater e pass h = operated operators.Greater t ts d stack e h
back_tail t ts d stack n below kinds.GreaterEqual e pass h = operated operators.GreaterEqual t ts d stack e h
back_tail t ts d stack n below kinds.Plus e pass h = operated operators.Add t ts d stack e h
back_tail t ts d stack n below kinds.Minus e pass h = operated operators.Subtract t ts d stack e h
back_tail t ts d stack n below kinds.Star e pass h = operated operators.Multiply t ts d stack e h
back_tail t ts d stack n below kinds.Slash e pass h = operated operators.Divide t ts d stack e h
back_tail t ts d stack n below kinds.Percent e pass h = operated operators.Remainder t ts d stack e h
back_tail t ts d stack n below _ e pass h = (t ∷ ts, (λ x ts0 k. (x, k)), pass h)

-- a whole expression before more symbols
whole : (d : ℕ) (stack : List Symbol) (ts : List Token) → Row (Operand d ∷ Tail d ∷ Anew ∷ stack) ts → (rest : List Token) × (e : Expression) × SpellsExpr e ts rest × Row stack rest
whole d stack ts h =
    let w = h.2.1 h.1.0 ts h.1.1 in
    (h.2.0, w.0, w.1, subst (λ x. Row stack x) (sym h.2.2.1) h.2.2.2)

inside : (d : ℕ) (stack : List Symbol) (ts : List Token) → Row (One marks.Open ∷ Operand d ∷ Tail d ∷ Anew ∷ One marks.Close ∷ stack) ts → (rest : List Token) × (e : Expression) × SpellsInside e ts rest × Row stack rest
unfolding SpellsInside
inside d stack ts h =
    let w = whole d (One marks.Close ∷ stack) h.0 h.2 in
    (w.3.0, w.1, (h.0, w.0, h.1, w.2, w.3.1), w.3.2)

ended_by : (d : ℕ) (stack : List Symbol) (ts : List Token) → Row (Operand d ∷ Tail d ∷ Anew ∷ One marks.Semicolon ∷ stack) ts → (rest : List Token) × (e : Expression) × SpellsEnded e ts rest × Row stack rest
ended_by d stack ts h =
    let w = whole d (One marks.Semicolon ∷ stack) ts h in
    (w.3.0, w.1, (w.0, w.2, w.3.1), w.3.2)

some_value : (d : ℕ) (stack : List Symbol) (ts : List Token) → Row (Operand d ∷ Tail d ∷ Anew ∷ One marks.Semicolon ∷ stack) ts → Row (Optional d ∷ stack) ts
unfolding SpellsOptional
some_value d stack ts h = let w = ended_by d stack ts h in (w.0, (Some w.1, w.2), w.3)

back_optional : (t : Token) (ts : List Token) (d : ℕ) (stack : List Symbol) (n : ℕ) (below : After) (k : Kind) → t.kind ≡ k → RowAfter (chosen (move_optional d k) stack n below) ts → Row (Optional d ∷ stack) (t ∷ ts)
unfolding SpellsOptional
back_optional t ts d stack n below kinds.Semicolon e h = (ts, (None, (t, refl, e)), h)
back_optional t ts d stack n below kinds.Minus e h = some_value d stack (t ∷ ts) (back_operand t ts d (Tail d ∷ Anew ∷ One marks.Semicolon ∷ stack) n below kinds.Minus e h)
back_optional t ts d stack n below kinds.Not e h = some_value d stack (t ∷ ts) (back_operand t ts d (Tail d ∷ Anew ∷ One marks.Semicolon ∷ stack) n below kinds.Not e h)
back_optional t ts d stack n below kinds.Open e h = some_value d stack (t ∷ ts) (back_operand t ts d (Tail d ∷ Anew ∷ One marks.Semicolon ∷ stack) n below kinds.Open e h)
back_optional t ts d stack n below kinds.Value e h = some_value d stack (t ∷ ts) (back_operand t ts d (Tail d ∷ Anew ∷ One marks.Semicolon ∷ stack) n below kinds.Value e h)
back_optional t ts d stack n below kinds.Input e h = some_value d stack (t ∷ ts) (back_operand t ts d (Tail d ∷ Anew ∷ One marks.Semicolon ∷ stack) n below kinds.Input e h)
back_optional t ts d stack n below kinds.InputCount e h = some_value d stack (t ∷ ts) (back_operand t ts d (Tail d ∷ Anew ∷ One marks.Semicolon ∷ stack) n below kinds.InputCount e h)
back_optional t ts d stack n below (kinds.Number v) e h = some_value d stack (t ∷ ts) (back_operand t ts d (Tail d ∷ Anew ∷ One marks.Semicolon ∷ stack) n below (kinds.Number v) e h)
back_optional t ts d stack n below kinds.Name e h = some_value d stack (t ∷ ts) (back_operand t ts d (Tail d ∷ Anew ∷ One marks.Semicolon ∷ stack) n below kinds.Name e h)
back_optional t ts d stack n below _ e h = absurd h

some_argument : (d : ℕ) (stack : List Symbol) (ts : List Token) → Row (Operand d ∷ Tail d ∷ Anew ∷ MoreArguments d ∷ stack) ts → Row (Arguments d ∷ stack) ts
some_argument d stack ts h =
    let w = whole d (MoreArguments d ∷ stack) ts h in
    let a = as_argument w.1 ts w.0 w.2 in
    (w.3.0, (a.0 ∷ w.3.1.0, (w.3.1.1, (w.0, a.1, w.3.1.2), w.3.1.3)), w.3.2)

back_arguments : (t : Token) (ts : List Token) (d : ℕ) (stack : List Symbol) (n : ℕ) (below : After) (k : Kind) → t.kind ≡ k → RowAfter (chosen (move_arguments d k) stack n below) ts → Row (Arguments d ∷ stack) (t ∷ ts)
back_arguments t ts d stack n below kinds.Close e h = (ts, ([], (t, refl, e)), h)
back_arguments t ts d stack n below kinds.Minus e h = some_argument d stack (t ∷ ts) (back_operand t ts d (Tail d ∷ Anew ∷ MoreArguments d ∷ stack) n below kinds.Minus e h)
back_arguments t ts d stack n below kinds.Not e h = some_argument d stack (t ∷ ts) (back_operand t ts d (Tail d ∷ Anew ∷ MoreArguments d ∷ stack) n below kinds.Not e h)
back_arguments t ts d stack n below kinds.Open e h = some_argument d stack (t ∷ ts) (back_operand t ts d (Tail d ∷ Anew ∷ MoreArguments d ∷ stack) n below kinds.Open e h)
back_arguments t ts d stack n below kinds.Value e h = some_argument d stack (t ∷ ts) (back_operand t ts d (Tail d ∷ Anew ∷ MoreArguments d ∷ stack) n below kinds.Value e h)
back_arguments t ts d stack n below kinds.Input e h = some_argument d stack (t ∷ ts) (back_operand t ts d (Tail d ∷ Anew ∷ MoreArguments d ∷ stack) n below kinds.Input e h)
back_arguments t ts d stack n below kinds.InputCount e h = some_argument d stack (t ∷ ts) (back_operand t ts d (Tail d ∷ Anew ∷ MoreArguments d ∷ stack) n below kinds.InputCount e h)
back_arguments t ts d stack n below (kinds.Number v) e h = some_argument d stack (t ∷ ts) (back_operand t ts d (Tail d ∷ Anew ∷ MoreArguments d ∷ stack) n below (kinds.Number v) e h)
back_arguments t ts d stack n below kinds.Name e h = some_argument d stack (t ∷ ts) (back_operand t ts d (Tail d ∷ Anew ∷ MoreArguments d ∷ stack) n below kinds.Name e h)
back_arguments t ts d stack n below _ e h = absurd h

back_more_arguments : (t : Token) (ts : List Token) (d : ℕ) (stack : List Symbol) (n : ℕ) (below : After) (k : Kind) → t.kind ≡ k → RowAfter (chosen (move_more_arguments d k) stack n below) ts → Row (MoreArguments d ∷ stack) (t ∷ ts)
back_more_arguments t ts d stack n below kinds.Comma e h =
    let w = whole d (MoreArguments d ∷ stack) ts h in
    let a = as_argument w.1 ts w.0 w.2 in
    (w.3.0, (a.0 ∷ w.3.1.0, w.3.1.1, (ts, w.0, (t, refl, e), a.1, w.3.1.2), w.3.1.3), w.3.2)
back_more_arguments t ts d stack n below kinds.Close e h = (ts, ([], t ∷ ts, refl, (t, refl, e)), h)
back_more_arguments t ts d stack n below _ e h = absurd h

called : (d : ℕ) (stack : List Symbol) (ts : List Token) → Row (Named ∷ One marks.Open ∷ Arguments d ∷ stack) ts → (rest : List Token) × (c : Call) × SpellsCall c ts rest × Row stack rest
unfolding SpellsCall
called d stack ts h =
    (h.2.2.0, record { name = name_at h.1.0; arguments = h.2.2.1.0 }, (h.0, h.2.0, is_name ts h.0 h.1, h.2.1, h.2.2.1.1), h.2.2.2)

-- after a name
named_call : (t : Token) (ts rest : List Token) (list : List Argument) → t.kind ≡ kinds.Open → SpellsArguments list ts rest → (name : Name) (ts0 : List Token) → IsName name ts0 (t ∷ ts) → (c : Call) × SpellsCall c ts0 rest
unfolding SpellsCall
named_call t ts rest list e h name ts0 is = (record { name = name; arguments = list }, (t ∷ ts, ts, is, (t, refl, e), h))

source_value : (d : ℕ) (stack : List Symbol) (ts : List Token) → Row (Operand d ∷ Tail d ∷ Anew ∷ stack) ts → Row (Source d ∷ stack) ts
source_value d stack ts h = let w = whole d stack ts h in (w.0, (LocalInitializer.Value w.1, w.2), w.3)

back_source : (t : Token) (ts : List Token) (d : ℕ) (stack : List Symbol) (n : ℕ) (below : After) (k : Kind) → t.kind ≡ k → RowAfter (chosen (move_source d k) stack n below) ts → Row (Source d ∷ stack) (t ∷ ts)
back_source t ts d stack n below kinds.CilkSpawn e h =
    let w = called d stack ts h in
    (w.0, (LocalInitializer.Invoke invocations.Spawn w.1, (ts, (t, refl, e), w.2)), w.3)
back_source t ts d stack n below kinds.Name e h =
    let v = h.1 (name_at t) (t ∷ ts) (first_is_name t ts e) in
    (h.0, (v.0, v.1), h.2)
back_source t ts d stack n below kinds.Minus e h = source_value d stack (t ∷ ts) (back_operand t ts d (Tail d ∷ Anew ∷ stack) n below kinds.Minus e h)
back_source t ts d stack n below kinds.Not e h = source_value d stack (t ∷ ts) (back_operand t ts d (Tail d ∷ Anew ∷ stack) n below kinds.Not e h)
back_source t ts d stack n below kinds.Open e h = source_value d stack (t ∷ ts) (back_operand t ts d (Tail d ∷ Anew ∷ stack) n below kinds.Open e h)
back_source t ts d stack n below kinds.Value e h = source_value d stack (t ∷ ts) (back_operand t ts d (Tail d ∷ Anew ∷ stack) n below kinds.Value e h)
back_source t ts d stack n below kinds.Input e h = source_value d stack (t ∷ ts) (back_operand t ts d (Tail d ∷ Anew ∷ stack) n below kinds.Input e h)
back_source t ts d stack n below kinds.InputCount e h = source_value d stack (t ∷ ts) (back_operand t ts d (Tail d ∷ Anew ∷ stack) n below kinds.InputCount e h)
back_source t ts d stack n below (kinds.Number v) e h = source_value d stack (t ∷ ts) (back_operand t ts d (Tail d ∷ Anew ∷ stack) n below (kinds.Number v) e h)
back_source t ts d stack n below _ e h = absurd h

-- an element or a variable, with operators after it
part_source : (d : ℕ) (stack : List Symbol) (ts : List Token) → Row (Index d ∷ Tail d ∷ Anew ∷ stack) ts → Row (SourceRest d ∷ stack) ts
part_source d stack ts h =
    (h.2.0, (λ name ts0 is. let x = h.1 name ts0 is in let y = h.2.1 x.0 ts0 x.1 in (LocalInitializer.Value y.0, y.1)), subst (λ z. Row stack z) (sym h.2.2.1) h.2.2.2)

variable_source : (d : ℕ) (stack : List Symbol) (ts : List Token) → Row (Tail d ∷ Anew ∷ stack) ts → Row (SourceRest d ∷ stack) ts
variable_source d stack ts h = part_source d stack ts (ts, (λ name ts0 is. (Expression.Variable name, is, omega arith)), h)

back_source_rest : (t : Token) (ts : List Token) (d : ℕ) (stack : List Symbol) (n : ℕ) (below : After) (k : Kind) → t.kind ≡ k → (RowAfter below ts → Row stack (t ∷ ts)) → RowAfter (chosen (move_source_rest d k) stack n below) ts → Row (SourceRest d ∷ stack) (t ∷ ts)
back_source_rest t ts d stack n below kinds.Open e pass h =
    (h.0, (λ name ts0 is. let c = named_call t ts h.0 h.1.0 e h.1.1 name ts0 is in (LocalInitializer.Invoke invocations.Call c.0, c.1)), h.2)
back_source_rest t ts d stack n below kinds.OpenBracket e pass h = part_source d stack (t ∷ ts) (back_index t ts d (Tail d ∷ Anew ∷ stack) n Fails kinds.OpenBracket e (λ z. absurd z) h)
back_source_rest t ts d stack n below kinds.Or e pass h = variable_source d stack (t ∷ ts) (operated operators.Or t ts d (Anew ∷ stack) e h)
back_source_rest t ts d stack n below kinds.And e pass h = variable_source d stack (t ∷ ts) (operated operators.And t ts d (Anew ∷ stack) e h)
back_source_rest t ts d stack n below kinds.Equal e pass h = variable_source d stack (t ∷ ts) (operated operators.Equal t ts d (Anew ∷ stack) e h)
back_source_rest t ts d stack n below kinds.NotEqual e pass h = variable_source d stack (t ∷ ts) (operated operators.NotEqual t ts d (Anew ∷ stack) e h)
back_source_rest t ts d stack n below kinds.Less e pass h = variable_source d stack (t ∷ ts) (operated operators.Less t ts d (Anew ∷ stack) e h)
back_source_rest t ts d stack n below kinds.LessEqual e pass h = variable_source d stack (t ∷ ts) (operated operators.LessEqual t ts d (Anew ∷ stack) e h)
back_source_rest t ts d stack n below kinds.Greater e pass h = variable_source d stack (t ∷ ts) (operated operators.Greater t ts d (Anew ∷ stack) e h)
back_source_rest t ts d stack n below kinds.GreaterEqual e pass h = variable_source d stack (t ∷ ts) (operated operators.GreaterEqual t ts d (Anew ∷ stack) e h)
back_source_rest t ts d stack n below kinds.Plus e pass h = variable_source d stack (t ∷ ts) (operated operators.Add t ts d (Anew ∷ stack) e h)
back_source_rest t ts d stack n below kinds.Minus e pass h = variable_source d stack (t ∷ ts) (operated operators.Subtract t ts d (Anew ∷ stack) e h)
back_source_rest t ts d stack n below kinds.Star e pass h = variable_source d stack (t ∷ ts) (operated operators.Multiply t ts d (Anew ∷ stack) e h)
back_source_rest t ts d stack n below kinds.Slash e pass h = variable_source d stack (t ∷ ts) (operated operators.Divide t ts d (Anew ∷ stack) e h)
back_source_rest t ts d stack n below kinds.Percent e pass h = variable_source d stack (t ∷ ts) (operated operators.Remainder t ts d (Anew ∷ stack) e h)
back_source_rest t ts d stack n below _ e pass h = variable_source d stack (t ∷ ts) (t ∷ ts, (λ x ts0 k. (x, k)), (t ∷ ts, refl, pass h))

back_subscript : (t : Token) (ts : List Token) (d : ℕ) (stack : List Symbol) (n : ℕ) (below : After) (k : Kind) → t.kind ≡ k → (RowAfter below ts → Row stack (t ∷ ts)) → RowAfter (chosen (move_subscript d k) stack n below) ts → Row (Subscript d ∷ stack) (t ∷ ts)
back_subscript t ts d stack n below kinds.OpenBracket e pass h =
    let w = whole (d + 1) (One marks.CloseBracket ∷ stack) ts h in
    (w.3.0, (λ name ts0 is. (trees.Lvalue.Element name w.1, (t ∷ ts, ts, w.0, is, (t, refl, e), w.2, w.3.1))), w.3.2)
back_subscript t ts d stack n below _ e pass h = (t ∷ ts, (λ name ts0 is. (trees.Lvalue.Variable name, is)), pass h)

back_operation : (t : Token) (ts : List Token) (d : ℕ) (stack : List Symbol) (n : ℕ) (below : After) (k : Kind) → t.kind ≡ k → RowAfter (chosen (move_operation d k) stack n below) ts → Row (Operation d ∷ stack) (t ∷ ts)
back_operation t ts d stack n below kinds.Assign e h =
    let w = whole d stack ts h in
    (w.0, (λ p ts0 place. (trees.Assignment.Set p w.1, (t ∷ ts, ts, place, (t, refl, e), w.2))), w.3)
back_operation t ts d stack n below kinds.PlusAssign e h =
    let w = whole d stack ts h in
    (w.0, (λ p ts0 place. (trees.Compound compounds.Add p w.1, (t ∷ ts, ts, place, (t, refl, e), w.2))), w.3)
back_operation t ts d stack n below kinds.MinusAssign e h =
    let w = whole d stack ts h in
    (w.0, (λ p ts0 place. (trees.Compound compounds.Subtract p w.1, (t ∷ ts, ts, place, (t, refl, e), w.2))), w.3)
back_operation t ts d stack n below kinds.StarAssign e h =
    let w = whole d stack ts h in
    (w.0, (λ p ts0 place. (trees.Compound compounds.Multiply p w.1, (t ∷ ts, ts, place, (t, refl, e), w.2))), w.3)
back_operation t ts d stack n below kinds.Increment e h = (ts, (λ p ts0 place. (trees.Increment p, inr (t ∷ ts, place, (t, refl, e)))), h)
back_operation t ts d stack n below kinds.Decrement e h = (ts, (λ p ts0 place. (trees.Decrement p, inr (t ∷ ts, place, (t, refl, e)))), h)
back_operation t ts d stack n below _ e h = absurd h

placed : (d : ℕ) (stack : List Symbol) (ts : List Token) → Row (Named ∷ Subscript d ∷ stack) ts → (rest : List Token) × (p : trees.Lvalue) × SpellsLvalue p ts rest × Row stack rest
placed d stack ts h =
    let p = h.2.1 (name_at h.1.0) ts (is_name ts h.0 h.1) in
    (h.2.0, p.0, p.1, h.2.2)

back_assignment : (t : Token) (ts : List Token) (d : ℕ) (stack : List Symbol) (n : ℕ) (below : After) (k : Kind) → t.kind ≡ k → RowAfter (chosen (move_assignment d k) stack n below) ts → Row (expected.Assignment d ∷ stack) (t ∷ ts)
back_assignment t ts d stack n below kinds.Name e h =
    let p = h.1 (name_at t) (t ∷ ts) (first_is_name t ts e) in
    let a = h.2.1 p.0 (t ∷ ts) p.1 in
    (h.2.0, (a.0, a.1), h.2.2)
back_assignment t ts d stack n below kinds.Increment e h =
    let w = placed d stack ts h in
    (w.0, (trees.Increment w.1, inl (ts, (t, refl, e), w.2)), w.3)
back_assignment t ts d stack n below kinds.Decrement e h =
    let w = placed d stack ts h in
    (w.0, (trees.Decrement w.1, inl (ts, (t, refl, e), w.2)), w.3)
back_assignment t ts d stack n below _ e h = absurd h

-- a variable has a value or the result of a call
taking : (v : LocalInitializer) (name : Name) (ts0 ts ts1 ts2 rest : List Token) → IsName name ts0 ts → Is kinds.Assign ts ts1 → SpellsSource v ts1 ts2 → Is kinds.Semicolon ts2 rest → (s : Statement) × SpellsStmt s ts0 rest
taking trees.Absent name ts0 ts ts1 ts2 rest is a v c = absurd v
taking (LocalInitializer.Value x) name ts0 ts ts1 ts2 rest is a v c = (trees.Assign (trees.Assignment.Set (trees.Lvalue.Variable name) x), (ts2, (ts, ts1, is, a, v), c))
taking (LocalInitializer.Invoke how call) name ts0 ts ts1 ts2 rest is a v c = (trees.AssignCall name how call, (ts, ts1, ts2, is, a, v, c))

assigning : (d : ℕ) (stack : List Symbol) (ts : List Token) → Row (Subscript d ∷ Operation d ∷ One marks.Semicolon ∷ stack) ts → Row (AfterName d ∷ stack) ts
assigning d stack ts h =
    (h.2.2.0, (λ name ts0 is. let p = h.1 name ts0 is in let a = h.2.1 p.0 ts0 p.1 in (trees.Assign a.0, (h.2.0, a.1, h.2.2.1))), h.2.2.2)

back_after_name : (t : Token) (ts : List Token) (d : ℕ) (stack : List Symbol) (n : ℕ) (below : After) (k : Kind) → t.kind ≡ k → RowAfter (chosen (move_after_name d k) stack n below) ts → Row (AfterName d ∷ stack) (t ∷ ts)
back_after_name t ts d stack n below kinds.Open e h =
    (h.2.0, (λ name ts0 is. let c = named_call t ts h.0 h.1.0 e h.1.1 name ts0 is in (Statement.Invoke invocations.Call c.0, (h.0, c.1, h.2.1))), h.2.2)
back_after_name t ts d stack n below kinds.Assign e h =
    (h.2.0, (λ name ts0 is. taking h.1.0 name ts0 (t ∷ ts) ts h.0 h.2.0 is (t, refl, e) h.1.1 h.2.1), h.2.2)
back_after_name t ts d stack n below kinds.OpenBracket e h = assigning d stack (t ∷ ts) (back_subscript t ts d (Operation d ∷ One marks.Semicolon ∷ stack) n Fails kinds.OpenBracket e (λ z. absurd z) h)
back_after_name t ts d stack n below kinds.PlusAssign e h = assigning d stack (t ∷ ts) (t ∷ ts, (λ name ts0 is. (trees.Lvalue.Variable name, is)), back_operation t ts d (One marks.Semicolon ∷ stack) n Fails kinds.PlusAssign e h)
back_after_name t ts d stack n below kinds.MinusAssign e h = assigning d stack (t ∷ ts) (t ∷ ts, (λ name ts0 is. (trees.Lvalue.Variable name, is)), back_operation t ts d (One marks.Semicolon ∷ stack) n Fails kinds.MinusAssign e h)
back_after_name t ts d stack n below kinds.StarAssign e h = assigning d stack (t ∷ ts) (t ∷ ts, (λ name ts0 is. (trees.Lvalue.Variable name, is)), back_operation t ts d (One marks.Semicolon ∷ stack) n Fails kinds.StarAssign e h)
back_after_name t ts d stack n below kinds.Increment e h = assigning d stack (t ∷ ts) (t ∷ ts, (λ name ts0 is. (trees.Lvalue.Variable name, is)), back_operation t ts d (One marks.Semicolon ∷ stack) n Fails kinds.Increment e h)
back_after_name t ts d stack n below kinds.Decrement e h = assigning d stack (t ∷ ts) (t ∷ ts, (λ name ts0 is. (trees.Lvalue.Variable name, is)), back_operation t ts d (One marks.Semicolon ∷ stack) n Fails kinds.Decrement e h)
back_after_name t ts d stack n below _ e h = absurd h

reduced : (t : Token) (ts : List Token) (stack : List Symbol) → t.kind ≡ kinds.CilkReducer → Row (One marks.Open ∷ Named ∷ One marks.Close ∷ Named ∷ stack) ts → (rest : List Token) × (r : reducers.Reducer) × SpellsReducer r (t ∷ ts) rest × Row stack rest
unfolding SpellsReducer
reduced t ts stack e h =
    (h.2.2.2.0, record { monoid = name_at h.2.1.0; name = name_at h.2.2.2.1.0 }, (ts, h.0, h.2.0, h.2.2.0, (t, refl, e), h.1, is_name h.0 h.2.0 h.2.1, h.2.2.1, is_name h.2.2.0 h.2.2.2.0 h.2.2.2.1), h.2.2.2.2)

local_source : (v : LocalInitializer) (ts ts1 rest : List Token) → Is kinds.Assign ts ts1 → SpellsSource v ts1 rest → SpellsLocalInitializer v ts rest
local_source trees.Absent ts ts1 rest a h = absurd h
local_source (LocalInitializer.Value e) ts ts1 rest a h = (ts1, a, h)
local_source (LocalInitializer.Invoke how c) ts ts1 rest a h = (ts1, a, h)

back_local_initial : (t : Token) (ts : List Token) (d : ℕ) (stack : List Symbol) (n : ℕ) (below : After) (k : Kind) → t.kind ≡ k → (RowAfter below ts → Row stack (t ∷ ts)) → RowAfter (chosen (move_local_initial d k) stack n below) ts → Row (LocalInitial d ∷ stack) (t ∷ ts)
back_local_initial t ts d stack n below kinds.Assign e pass h = (h.0, (h.1.0, local_source h.1.0 (t ∷ ts) ts h.0 (t, refl, e) h.1.1), h.2)
back_local_initial t ts d stack n below _ e pass h = (t ∷ ts, (trees.Absent, refl), pass h)

back_locals : (t : Token) (ts : List Token) (d : ℕ) (stack : List Symbol) (n : ℕ) (below : After) (k : Kind) → t.kind ≡ k → RowAfter (chosen (move_locals d k) stack n below) ts → Row (Locals d ∷ stack) (t ∷ ts)
unfolding SpellsLocal
back_locals t ts d stack n below kinds.Comma e h =
    let l : Local = record { name = name_at h.1.0; initializer = h.2.1.0 } in
    (h.2.2.0, (l ∷ h.2.2.1.0, h.2.2.1.1, (ts, h.2.0, (t, refl, e), (h.0, is_name ts h.0 h.1, h.2.1.1), h.2.2.1.2), h.2.2.1.3), h.2.2.2)
back_locals t ts d stack n below kinds.Semicolon e h = (ts, ([], t ∷ ts, refl, (t, refl, e)), h)
back_locals t ts d stack n below _ e h = absurd h

back_declaration : (t : Token) (ts : List Token) (d : ℕ) (stack : List Symbol) (n : ℕ) (below : After) (k : Kind) → t.kind ≡ k → RowAfter (chosen (move_declaration d k) stack n below) ts → Row (Declaration d ∷ stack) (t ∷ ts)
unfolding SpellsLocal SpellsLocalLine
back_declaration t ts d stack n below kinds.Name e h =
    let l : Local = record { name = name_at t; initializer = h.1.0 } in
    (h.2.0, (λ ts0 is. (trees.Declare (l ∷ h.2.1.0), (t ∷ ts, is, (h.2.1.1, (h.0, (ts, first_is_name t ts e, h.1.1), h.2.1.2), h.2.1.3)))), h.2.2)
back_declaration t ts d stack n below kinds.CilkReducer e h =
    let r = reduced t ts (One marks.Semicolon ∷ stack) e h in
    (r.3.0, (λ ts0 is. (Statement.Reducer r.1, (t ∷ ts, r.0, is, r.2, r.3.1))), r.3.2)
back_declaration t ts d stack n below _ e h = absurd h

defined : (d : ℕ) (stack : List Symbol) (ts : List Token) → Row (Named ∷ One marks.Assign ∷ Operand d ∷ Tail d ∷ Anew ∷ One marks.Semicolon ∷ stack) ts → (rest : List Token) × (name : Name) × (e : Expression) × SpellsDefined name e ts rest × Row stack rest
unfolding SpellsDefined
defined d stack ts h =
    let w = ended_by d stack h.2.0 h.2.2 in
    (w.0, name_at h.1.0, w.1, (h.0, h.2.0, is_name ts h.0 h.1, h.2.1, w.2), w.3)

tested : (d : ℕ) (stack : List Symbol) (ts : List Token) → Row (Named ∷ One marks.Less ∷ Operand d ∷ Tail d ∷ Anew ∷ One marks.Semicolon ∷ stack) ts → (rest : List Token) × (name : Name) × (e : Expression) × SpellsTested name e ts rest × Row stack rest
unfolding SpellsTested
tested d stack ts h =
    let w = ended_by d stack h.2.0 h.2.2 in
    (w.0, name_at h.1.0, w.1, (h.0, h.2.0, is_name ts h.0 h.1, h.2.1, w.2), w.3)

beginning_assigns : (d : ℕ) (stack : List Symbol) (ts : List Token) → Row (expected.Assignment d ∷ One marks.Semicolon ∷ stack) ts → Row (expected.Beginning d ∷ stack) ts
unfolding SpellsBeginning
beginning_assigns d stack ts h = (h.2.0, (Some (trees.Assigns h.1.0), (h.0, h.1.1, h.2.1)), h.2.2)

step_assigns : (d : ℕ) (stack : List Symbol) (ts : List Token) → Row (expected.Assignment d ∷ One marks.Close ∷ stack) ts → Row (Step d ∷ stack) ts
unfolding SpellsStep
step_assigns d stack ts h = (h.2.0, (Some h.1.0, (h.0, h.1.1, h.2.1)), h.2.2)

back_beginning : (t : Token) (ts : List Token) (d : ℕ) (stack : List Symbol) (n : ℕ) (below : After) (k : Kind) → t.kind ≡ k → RowAfter (chosen (move_beginning d k) stack n below) ts → Row (expected.Beginning d ∷ stack) (t ∷ ts)
unfolding SpellsBeginning
back_beginning t ts d stack n below kinds.Semicolon e h = (ts, (None, (t, refl, e)), h)
back_beginning t ts d stack n below kinds.Int e h =
    let w = defined d stack ts h in
    (w.0, (Some (trees.Declares w.1 w.2), (ts, (t, refl, e), w.3)), w.4)
back_beginning t ts d stack n below kinds.Name e h = beginning_assigns d stack (t ∷ ts) (back_assignment t ts d (One marks.Semicolon ∷ stack) n below kinds.Name e h)
back_beginning t ts d stack n below kinds.Increment e h = beginning_assigns d stack (t ∷ ts) (back_assignment t ts d (One marks.Semicolon ∷ stack) n below kinds.Increment e h)
back_beginning t ts d stack n below kinds.Decrement e h = beginning_assigns d stack (t ∷ ts) (back_assignment t ts d (One marks.Semicolon ∷ stack) n below kinds.Decrement e h)
back_beginning t ts d stack n below _ e h = absurd h

back_step : (t : Token) (ts : List Token) (d : ℕ) (stack : List Symbol) (n : ℕ) (below : After) (k : Kind) → t.kind ≡ k → RowAfter (chosen (move_step d k) stack n below) ts → Row (Step d ∷ stack) (t ∷ ts)
unfolding SpellsStep
back_step t ts d stack n below kinds.Close e h = (ts, (None, (t, refl, e)), h)
back_step t ts d stack n below kinds.Name e h = step_assigns d stack (t ∷ ts) (back_assignment t ts d (One marks.Close ∷ stack) n below kinds.Name e h)
back_step t ts d stack n below kinds.Increment e h = step_assigns d stack (t ∷ ts) (back_assignment t ts d (One marks.Close ∷ stack) n below kinds.Increment e h)
back_step t ts d stack n below kinds.Decrement e h = step_assigns d stack (t ∷ ts) (back_assignment t ts d (One marks.Close ∷ stack) n below kinds.Decrement e h)
back_step t ts d stack n below _ e h = absurd h

back_unit_step : (t : Token) (ts : List Token) (stack : List Symbol) (n : ℕ) (below : After) (k : Kind) → t.kind ≡ k → RowAfter (chosen (move_unit_step k) stack n below) ts → Row (UnitStep ∷ stack) (t ∷ ts)
unfolding SpellsUnitStep
back_unit_step t ts stack n below kinds.Increment e h = (h.0, (name_at h.1.0, inl (ts, (t, refl, e), is_name ts h.0 h.1)), h.2)
back_unit_step t ts stack n below kinds.Name e h = (h.0, (name_at t, inr (ts, first_is_name t ts e, h.1)), h.2)
back_unit_step t ts stack n below _ e h = absurd h

back_unit_step_rest : (t : Token) (ts : List Token) (stack : List Symbol) (n : ℕ) (below : After) (k : Kind) → t.kind ≡ k → RowAfter (chosen (move_unit_step_rest k) stack n below) ts → Row (UnitStepRest ∷ stack) (t ∷ ts)
back_unit_step_rest t ts stack n below kinds.Increment e h = (ts, inl (t, refl, e), h)
back_unit_step_rest t ts stack n below kinds.PlusAssign e h = (h.0, inr (ts, (t, refl, e), h.1), h.2)
back_unit_step_rest t ts stack n below _ e h = absurd h

with_else : (e : Expression) (s : Statement) (d : ℕ) (stack : List Symbol) (ts ts1 ts2 ts3 rest : List Token) → Is kinds.If ts ts1 → SpellsInside e ts1 ts2 → SpellsStmt s ts2 ts3 → Stands (ElsePart d) ts3 rest → Row stack rest → Row (expected.Statement d ∷ stack) ts
with_else e s d stack ts ts1 ts2 ts3 rest is test first (inl none) row =
    (ts3, (trees.If e s, (ts1, ts2, is, test, first, none.1)), subst (λ x. Row stack x) (sym none.0) row)
with_else e s d stack ts ts1 ts2 ts3 rest is test first (inr other) row =
    (rest, (trees.IfElse e s other.1, (ts1, ts2, ts3, other.0, is, test, first, other.2, other.3)), row)

-- the head of a `cilk_for`
bounded : (d : ℕ) (stack : List Symbol) (ts : List Token) → Row (One marks.Open ∷ One marks.Int ∷ Named ∷ One marks.Assign ∷ Operand d ∷ Tail d ∷ Anew ∷ One marks.Semicolon ∷ Named ∷ One marks.Less ∷ Operand d ∷ Tail d ∷ Anew ∷ One marks.Semicolon ∷ UnitStep ∷ One marks.Close ∷ stack) ts → (rest : List Token) × (b : trees.Bounds) × SpellsBounds b ts rest × Row stack rest
unfolding SpellsBounds
bounded d stack ts h =
    let low = defined d (Named ∷ One marks.Less ∷ Operand d ∷ Tail d ∷ Anew ∷ One marks.Semicolon ∷ UnitStep ∷ One marks.Close ∷ stack) h.2.0 h.2.2 in
    let high = tested d (UnitStep ∷ One marks.Close ∷ stack) low.0 low.4 in
    let step = high.4 in
    (step.2.0, record { variable = low.1; low = low.2; tested = high.1; high = high.2; stepped = step.1.0 }, (h.0, h.2.0, low.0, high.0, step.0, h.1, h.2.1, low.3, high.3, step.1.1, step.2.1), step.2.2)

updated : (d : ℕ) (stack : List Symbol) (ts : List Token) → Row (One marks.Open ∷ Named ∷ One marks.Comma ∷ Operand d ∷ Tail d ∷ Anew ∷ One marks.Close ∷ One marks.Semicolon ∷ stack) ts → (rest : List Token) × (name : Name) × (e : Expression) × SpellsUpdate name e ts rest × Row stack rest
unfolding SpellsUpdate
updated d stack ts h =
    let w = whole d (One marks.Close ∷ One marks.Semicolon ∷ stack) h.2.2.0 h.2.2.2 in
    (w.3.2.0, name_at h.2.1.0, w.1, (h.0, h.2.0, h.2.2.0, w.0, w.3.0, h.1, is_name h.0 h.2.0 h.2.1, h.2.2.1, w.2, w.3.1, w.3.2.1), w.3.2.2)

headed : (t : Token) (ts : List Token) (d : ℕ) (stack : List Symbol) → t.kind ≡ kinds.For → Row (One marks.Open ∷ expected.Beginning d ∷ Optional d ∷ Step d ∷ expected.Statement (d + 1) ∷ stack) ts → Row (expected.Statement d ∷ stack) (t ∷ ts)
unfolding SpellsHead
headed t ts d stack e h =
    (h.2.2.2.2.0, (trees.For h.2.1.0 h.2.2.1.0 h.2.2.2.1.0 h.2.2.2.2.1.0, (ts, h.2.2.2.0, (t, refl, e), (h.0, h.2.0, h.2.2.0, h.1, h.2.1.1, h.2.2.1.1, h.2.2.2.1.1), h.2.2.2.2.1.1)), h.2.2.2.2.2)

back_statement : (t : Token) (ts : List Token) (d : ℕ) (stack : List Symbol) (n : ℕ) (below : After) (k : Kind) → t.kind ≡ k → RowAfter (chosen (move_statement d k) stack n below) ts → Row (expected.Statement d ∷ stack) (t ∷ ts)
back_statement t ts d stack n below kinds.Semicolon e h = (ts, (trees.Empty, (t, refl, e)), h)
back_statement t ts d stack n below kinds.OpenBrace e h =
    (h.2.0, (trees.Block h.1.0, (ts, h.0, (t, refl, e), h.1.1, h.2.1)), h.2.2)
back_statement t ts d stack n below kinds.Int e h =
    let s = h.1 (t ∷ ts) (t, refl, e) in
    (h.0, (s.0, s.1), h.2)
back_statement t ts d stack n below kinds.Name e h =
    let s = h.1 (name_at t) (t ∷ ts) (first_is_name t ts e) in
    (h.0, (s.0, s.1), h.2)
back_statement t ts d stack n below kinds.Increment e h =
    let w = placed d (One marks.Semicolon ∷ stack) ts h in
    (w.3.0, (trees.Assign (trees.Increment w.1), (w.0, inl (ts, (t, refl, e), w.2), w.3.1)), w.3.2)
back_statement t ts d stack n below kinds.Decrement e h =
    let w = placed d (One marks.Semicolon ∷ stack) ts h in
    (w.3.0, (trees.Assign (trees.Decrement w.1), (w.0, inl (ts, (t, refl, e), w.2), w.3.1)), w.3.2)
back_statement t ts d stack n below kinds.CilkSpawn e h =
    let w = called d (One marks.Semicolon ∷ stack) ts h in
    (w.3.0, (Statement.Invoke invocations.Spawn w.1, (w.0, (ts, (t, refl, e), w.2), w.3.1)), w.3.2)
back_statement t ts d stack n below kinds.CilkSync e h = (h.0, (trees.Sync, (ts, (t, refl, e), h.1)), h.2)
back_statement t ts d stack n below kinds.If e h =
    let test = inside d (expected.Statement (d + 1) ∷ ElsePart (d + 1) ∷ stack) ts h in
    with_else test.1 test.3.1.0 d stack (t ∷ ts) ts test.0 test.3.0 test.3.2.0 (t, refl, e) test.2 test.3.1.1 test.3.2.1 test.3.2.2
back_statement t ts d stack n below kinds.While e h =
    let test = inside d (expected.Statement (d + 1) ∷ stack) ts h in
    (test.3.0, (trees.While test.1 test.3.1.0, (ts, test.0, (t, refl, e), test.2, test.3.1.1)), test.3.2)
back_statement t ts d stack n below kinds.For e h = headed t ts d stack e h
back_statement t ts d stack n below kinds.CilkFor e h =
    let w = bounded d (expected.Statement (d + 1) ∷ stack) ts h in
    (w.3.0, (trees.ParallelFor w.1 w.3.1.0, (ts, w.0, (t, refl, e), w.2, w.3.1.1)), w.3.2)
back_statement t ts d stack n below kinds.Return e h =
    (h.0, (trees.Return t.at h.1.0, (ts, (t, refl, e, refl), h.1.1)), h.2)
back_statement t ts d stack n below kinds.Print e h =
    let value = inside d (One marks.Semicolon ∷ stack) ts h in
    (value.3.0, (trees.Print value.1, (ts, value.0, (t, refl, e), value.2, value.3.1)), value.3.2)
back_statement t ts d stack n below kinds.Update e h =
    let w = updated d stack ts h in
    (w.0, (trees.Update w.1 w.2, (ts, (t, refl, e), w.3)), w.4)
back_statement t ts d stack n below kinds.Set e h =
    let w = updated d stack ts h in
    (w.0, (Statement.Set w.1 w.2, (ts, (t, refl, e), w.3)), w.4)
back_statement t ts d stack n below _ e h = absurd h

back_else : (t : Token) (ts : List Token) (d : ℕ) (stack : List Symbol) (n : ℕ) (below : After) (k : Kind) → t.kind ≡ k → (RowAfter below ts → Row stack (t ∷ ts)) → RowAfter (chosen (move_else d k) stack n below) ts → Row (ElsePart d ∷ stack) (t ∷ ts)
back_else t ts d stack n below kinds.Else e pass h = (h.0, inr (ts, h.1.0, (t, refl, e), h.1.1), h.2)
back_else t ts d stack n below _ e pass h = (t ∷ ts, inl (refl, λ z. cc), pass h)

back_statements : (t : Token) (ts : List Token) (d : ℕ) (stack : List Symbol) (n : ℕ) (b : Bool) → begins_statement t.kind ≡ b → (RowAfter (after stack n t.kind) ts → Row stack (t ∷ ts)) → RowAfter (after (expected.Statements d ∷ stack) n t.kind) ts → Row (expected.Statements d ∷ stack) (t ∷ ts)
back_statements t ts d stack n true e pass h =
    let one = back_statement t ts d (expected.Statements d ∷ stack) n (after (expected.Statements d ∷ stack) n t.kind) t.kind refl (subst (λ a. RowAfter a ts) (form_repeats d t.kind stack n e) h) in
    (one.2.0, (Then one.1.0 one.2.1.0, (one.0, one.1.1, one.2.1.1)), one.2.2)
back_statements t ts d stack n false e pass h =
    (t ∷ ts, (End, refl), pass (subst (λ b. RowAfter (chosen (cond b (followed (expected.Statements d ∷ []) (move_statement d t.kind)) expected.Passes) stack n (after stack n t.kind)) ts) e h))

back_literal : (t : Token) (ts : List Token) (stack : List Symbol) (n : ℕ) (below : After) (k : Kind) → t.kind ≡ k → RowAfter (chosen (move_literal k) stack n below) ts → Row (Literal ∷ stack) (t ∷ ts)
back_literal t ts stack n below (kinds.Number v) e h = (ts, (initializers.Number v, (t, refl, e)), h)
back_literal t ts stack n below kinds.Minus e h = (h.0, (initializers.Negative h.1.0, (ts, (t, refl, e), h.1.1)), h.2)
back_literal t ts stack n below _ e h = absurd h

back_initial : (t : Token) (ts : List Token) (stack : List Symbol) (n : ℕ) (below : After) (k : Kind) → t.kind ≡ k → (RowAfter below ts → Row stack (t ∷ ts)) → RowAfter (chosen (move_initial k) stack n below) ts → Row (Initial ∷ stack) (t ∷ ts)
back_initial t ts stack n below kinds.Assign e pass h =
    (h.0, (λ name. (globals.Variable name h.1.0, (refl, spells_initial h.1.0 (t ∷ ts) ts h.0 (t, refl, e) h.1.1))), h.2)
back_initial t ts stack n below kinds.OpenBracket e pass h =
    (h.2.0, (λ name. (globals.Array name h.1.0, (ts, h.0, refl, (t, refl, e), h.1.1, h.2.1))), h.2.2)
back_initial t ts stack n below _ e pass h = (t ∷ ts, (λ name. (globals.Variable name initializers.Absent, (refl, refl))), pass h)

-- after a comma there is one more variable
one_more : (t : Token) (ts : List Token) (stack : List Symbol) → t.kind ≡ kinds.Comma → Row (Named ∷ Initial ∷ Variables ∷ stack) ts → Row (Variables ∷ stack) (t ∷ ts)
one_more t ts stack e h =
    let v = h.2.1 (name_at h.1.0) in
    (h.2.2.0, (v.0 ∷ h.2.2.1.0, h.2.2.1.1, (name_at h.1.0, ts, h.0, h.2.0, (t, refl, e), is_name ts h.0 h.1, v.1, h.2.2.1.2), h.2.2.1.3), h.2.2.2)

back_variables : (t : Token) (ts : List Token) (stack : List Symbol) (n : ℕ) (below : After) (k : Kind) → t.kind ≡ k → RowAfter (chosen (move_variables k) stack n below) ts → Row (Variables ∷ stack) (t ∷ ts)
back_variables t ts stack n below kinds.Comma e h = one_more t ts stack e h
back_variables t ts stack n below kinds.Semicolon e h = (ts, ([], t ∷ ts, refl, (t, refl, e)), h)
back_variables t ts stack n below _ e h = absurd h

-- a line of variables after the name of the first
lined : (stack : List Symbol) (ts : List Token) → Row (Initial ∷ Variables ∷ stack) ts → Row (Declared ∷ stack) ts
unfolding SpellsLine
lined stack ts h =
    (h.2.0, (λ name ts0 ts1 int is. let v = h.1 name in (trees.Globals (v.0 ∷ h.2.1.0), (name, ts1, ts, int, is, (h.2.1.1, (h.0, v.1, h.2.1.2), h.2.1.3)))), h.2.2)

-- parameters and a body
functional : (stack : List Symbol) (ts : List Token) → Row (Parameters ∷ One marks.OpenBrace ∷ expected.Statements 0 ∷ One marks.CloseBrace ∷ stack) ts → (rest : List Token) × (list : List declared_parameters.Parameter) × (row : Statements) × SpellsFunction list row ts rest × Row stack rest
unfolding SpellsFunction SpellsBody
functional stack ts h =
    (h.2.2.2.0, h.1.0, h.2.2.1.0, (h.0, h.1.1, (h.2.0, h.2.2.0, h.2.1, h.2.2.1.1, h.2.2.2.1)), h.2.2.2.2)

back_declared : (t : Token) (ts : List Token) (stack : List Symbol) (n : ℕ) (below : After) (k : Kind) → t.kind ≡ k → RowAfter (chosen (move_declared k) stack n below) ts → Row (Declared ∷ stack) (t ∷ ts)
back_declared t ts stack n below kinds.Open e h =
    let f = functional stack ts h in
    (f.0, (λ name ts0 ts1 int is. (trees.Function types.Int name f.1 f.2, (ts1, t ∷ ts, ts, int, is, (t, refl, e), f.3))), f.4)
back_declared t ts stack n below kinds.Assign e h = lined stack (t ∷ ts) (back_initial t ts (Variables ∷ stack) n Fails kinds.Assign e (λ z. absurd z) h)
back_declared t ts stack n below kinds.OpenBracket e h = lined stack (t ∷ ts) (back_initial t ts (Variables ∷ stack) n Fails kinds.OpenBracket e (λ z. absurd z) h)
back_declared t ts stack n below kinds.Comma e h = lined stack (t ∷ ts) (t ∷ ts, (λ name. (globals.Variable name initializers.Absent, (refl, refl))), one_more t ts stack e h)
back_declared t ts stack n below kinds.Semicolon e h = lined stack (t ∷ ts) (t ∷ ts, (λ name. (globals.Variable name initializers.Absent, (refl, refl))), (ts, ([], t ∷ ts, refl, (t, refl, e)), h))
back_declared t ts stack n below _ e h = absurd h

back_item : (t : Token) (ts : List Token) (stack : List Symbol) (n : ℕ) (below : After) (k : Kind) → t.kind ≡ k → RowAfter (chosen (move_item k) stack n below) ts → Row (expected.Item ∷ stack) (t ∷ ts)
back_item t ts stack n below kinds.Name e h = (h.0, (λ ts0 int. h.1 (name_at t) ts0 (t ∷ ts) int (first_is_name t ts e)), h.2)
back_item t ts stack n below kinds.CilkReducer e h =
    let r = reduced t ts (One marks.Semicolon ∷ stack) e h in
    (r.3.0, (λ ts0 is. (trees.Item.Reducer r.1, (t ∷ ts, r.0, is, r.2, r.3.1))), r.3.2)
back_item t ts stack n below _ e h = absurd h

back_parameter : (t : Token) (ts : List Token) (stack : List Symbol) (n : ℕ) (below : After) (k : Kind) → t.kind ≡ k → RowAfter (chosen (move_parameter k) stack n below) ts → Row (expected.Parameter ∷ stack) (t ∷ ts)
back_parameter t ts stack n below kinds.Name e h = (ts, (parameters.Variable (name_at t), first_is_name t ts e), h)
back_parameter t ts stack n below kinds.CilkReducer e h = let r = reduced t ts stack e h in (r.0, (parameters.Reducer r.1, r.2), r.3)
back_parameter t ts stack n below _ e h = absurd h

back_more_parameters : (t : Token) (ts : List Token) (stack : List Symbol) (n : ℕ) (below : After) (k : Kind) → t.kind ≡ k → RowAfter (chosen (move_more_parameters k) stack n below) ts → Row (MoreParameters ∷ stack) (t ∷ ts)
back_more_parameters t ts stack n below kinds.Comma e h =
    (h.2.2.0, (h.2.1.0 ∷ h.2.2.1.0, h.2.2.1.1, (ts, h.0, h.2.0, (t, refl, e), h.1, h.2.1.1, h.2.2.1.2), h.2.2.1.3), h.2.2.2)
back_more_parameters t ts stack n below kinds.Close e h = (ts, ([], t ∷ ts, refl, (t, refl, e)), h)
back_more_parameters t ts stack n below _ e h = absurd h

back_parameters : (t : Token) (ts : List Token) (stack : List Symbol) (n : ℕ) (below : After) (k : Kind) → t.kind ≡ k → RowAfter (chosen (move_parameters k) stack n below) ts → Row (Parameters ∷ stack) (t ∷ ts)
back_parameters t ts stack n below kinds.Close e h = (ts, ([], inl (t, refl, e)), h)
back_parameters t ts stack n below kinds.Void e h = (h.0, ([], inr (ts, (t, refl, e), h.1)), h.2)
back_parameters t ts stack n below kinds.Int e h =
    (h.2.0, (h.1.0 ∷ h.2.1.0, (ts, h.2.1.1, (t, refl, e), (h.0, h.1.1, h.2.1.2), h.2.1.3)), h.2.2)
back_parameters t ts stack n below _ e h = absurd h

back_items : (t : Token) (ts : List Token) (stack : List Symbol) (n : ℕ) (below : After) (k : Kind) → t.kind ≡ k → (RowAfter below ts → Row stack (t ∷ ts)) → RowAfter (chosen (move_items k) stack n below) ts → Row (Items ∷ stack) (t ∷ ts)
back_items t ts stack n below kinds.Int e pass h =
    let i = h.1 (t ∷ ts) (t, refl, e) in
    (h.2.0, (i.0 ∷ h.2.1.0, (h.0, i.1, h.2.1.1)), h.2.2)
back_items t ts stack n below kinds.Void e pass h =
    let f = functional (Items ∷ stack) h.2.0 h.2.2 in
    (f.4.0, (trees.Function types.Void (name_at h.1.0) f.1 f.2 ∷ f.4.1.0, (f.0, (ts, h.0, h.2.0, (t, refl, e), is_name ts h.0 h.1, h.2.1, f.3), f.4.1.1)), f.4.2)
back_items t ts stack n below _ e pass h = (t ∷ ts, ([], refl), pass h)

-- a token's move, read backward
back : (stack : List Symbol) (n : ℕ) (t : Token) (ts : List Token) → RowAfter (after stack n t.kind) ts → Row stack (t ∷ ts)
back [] n t ts h = absurd h
back (One mark ∷ stack) n t ts h = back_one t ts mark stack n (after stack n t.kind) (fits mark t.kind) refl h
back (Named ∷ stack) n t ts h = back_named t ts stack n (after stack n t.kind) t.kind refl h
back (Numeral ∷ stack) n t ts h = back_numeral t ts stack n (after stack n t.kind) t.kind refl h
back (Single ∷ stack) n t ts h = back_single t ts stack n (after stack n t.kind) t.kind refl h
back (Operand d ∷ stack) n t ts h = back_operand t ts d stack n (after stack n t.kind) t.kind refl h
back (Index d ∷ stack) n t ts h = back_index t ts d stack n (after stack n t.kind) t.kind refl (λ k. back stack n t ts k) h
back (Tail d ∷ stack) n t ts h = back_tail t ts d stack n (after stack n t.kind) t.kind refl (λ k. back stack n t ts k) h
back (Anew ∷ stack) n t ts h = (t ∷ ts, refl, back stack 0 t ts h)
back (Optional d ∷ stack) n t ts h = back_optional t ts d stack n (after stack n t.kind) t.kind refl h
back (expected.Statement d ∷ stack) n t ts h = back_statement t ts d stack n (after stack n t.kind) t.kind refl h
back (expected.Statements d ∷ stack) n t ts h = back_statements t ts d stack n (begins_statement t.kind) refl (λ k. back stack n t ts k) h
back (ElsePart d ∷ stack) n t ts h = back_else t ts d stack n (after stack n t.kind) t.kind refl (λ k. back stack n t ts k) h
back (AfterName d ∷ stack) n t ts h = back_after_name t ts d stack n (after stack n t.kind) t.kind refl h
back (expected.Assignment d ∷ stack) n t ts h = back_assignment t ts d stack n (after stack n t.kind) t.kind refl h
back (Subscript d ∷ stack) n t ts h = back_subscript t ts d stack n (after stack n t.kind) t.kind refl (λ k. back stack n t ts k) h
back (Operation d ∷ stack) n t ts h = back_operation t ts d stack n (after stack n t.kind) t.kind refl h
back (Source d ∷ stack) n t ts h = back_source t ts d stack n (after stack n t.kind) t.kind refl h
back (SourceRest d ∷ stack) n t ts h = back_source_rest t ts d stack n (after stack 0 t.kind) t.kind refl (λ k. back stack 0 t ts k) h
back (Arguments d ∷ stack) n t ts h = back_arguments t ts d stack n (after stack n t.kind) t.kind refl h
back (MoreArguments d ∷ stack) n t ts h = back_more_arguments t ts d stack n (after stack n t.kind) t.kind refl h
back (Declaration d ∷ stack) n t ts h = back_declaration t ts d stack n (after stack n t.kind) t.kind refl h
back (LocalInitial d ∷ stack) n t ts h = back_local_initial t ts d stack n (after stack n t.kind) t.kind refl (λ k. back stack n t ts k) h
back (Locals d ∷ stack) n t ts h = back_locals t ts d stack n (after stack n t.kind) t.kind refl h
back (expected.Beginning d ∷ stack) n t ts h = back_beginning t ts d stack n (after stack n t.kind) t.kind refl h
back (Step d ∷ stack) n t ts h = back_step t ts d stack n (after stack n t.kind) t.kind refl h
back (UnitStep ∷ stack) n t ts h = back_unit_step t ts stack n (after stack n t.kind) t.kind refl h
back (UnitStepRest ∷ stack) n t ts h = back_unit_step_rest t ts stack n (after stack n t.kind) t.kind refl h
back (expected.Item ∷ stack) n t ts h = back_item t ts stack n (after stack n t.kind) t.kind refl h
back (Declared ∷ stack) n t ts h = back_declared t ts stack n (after stack n t.kind) t.kind refl h
back (Literal ∷ stack) n t ts h = back_literal t ts stack n (after stack n t.kind) t.kind refl h
back (Initial ∷ stack) n t ts h = back_initial t ts stack n (after stack n t.kind) t.kind refl (λ k. back stack n t ts k) h
back (Variables ∷ stack) n t ts h = back_variables t ts stack n (after stack n t.kind) t.kind refl h
back (Parameters ∷ stack) n t ts h = back_parameters t ts stack n (after stack n t.kind) t.kind refl h
back (expected.Parameter ∷ stack) n t ts h = back_parameter t ts stack n (after stack n t.kind) t.kind refl h
back (MoreParameters ∷ stack) n t ts h = back_more_parameters t ts stack n (after stack n t.kind) t.kind refl h
back (Items ∷ stack) n t ts h = back_items t ts stack n (after stack n t.kind) t.kind refl (λ k. back stack n t ts k) h

at_last : (stack : List Symbol) (past : List Bool) → ended (at_end stack) ≡ Some past → Row stack []
at_last [] past h = refl
at_last (One mark ∷ stack) past h = cc
at_last (Named ∷ stack) past h = cc
at_last (Numeral ∷ stack) past h = cc
at_last (Single ∷ stack) past h = cc
at_last (Operand d ∷ stack) past h = cc
at_last (Index d ∷ stack) past h = ([], (λ name ts0 is. (Expression.Variable name, is, omega arith)), at_last stack past h)
at_last (Tail d ∷ stack) past h = ([], (λ e ts0 k. (e, k)), at_last stack past h)
at_last (Anew ∷ stack) past h = ([], refl, at_last stack past h)
at_last (Optional d ∷ stack) past h = cc
at_last (expected.Statement d ∷ stack) past h = cc
at_last (expected.Statements d ∷ stack) past h = ([], (End, refl), at_last stack past h)
at_last (ElsePart d ∷ stack) past h = ([], inl (refl, tt), at_last stack past h)
at_last (AfterName d ∷ stack) past h = cc
at_last (expected.Assignment d ∷ stack) past h = cc
at_last (Subscript d ∷ stack) past h = ([], (λ name ts0 is. (trees.Lvalue.Variable name, is)), at_last stack past h)
at_last (Operation d ∷ stack) past h = cc
at_last (Source d ∷ stack) past h = cc
at_last (SourceRest d ∷ stack) past h = ([], (λ name ts0 is. (LocalInitializer.Value (Expression.Variable name), is)), at_last stack past h)
at_last (Arguments d ∷ stack) past h = cc
at_last (MoreArguments d ∷ stack) past h = cc
at_last (Declaration d ∷ stack) past h = cc
at_last (LocalInitial d ∷ stack) past h = ([], (trees.Absent, refl), at_last stack past h)
at_last (Locals d ∷ stack) past h = cc
at_last (expected.Beginning d ∷ stack) past h = cc
at_last (Step d ∷ stack) past h = cc
at_last (UnitStep ∷ stack) past h = cc
at_last (UnitStepRest ∷ stack) past h = cc
at_last (expected.Item ∷ stack) past h = cc
at_last (Declared ∷ stack) past h = cc
at_last (Literal ∷ stack) past h = cc
at_last (Initial ∷ stack) past h = ([], (λ name. (globals.Variable name initializers.Absent, (refl, refl))), at_last stack past h)
at_last (Variables ∷ stack) past h = cc
at_last (Parameters ∷ stack) past h = cc
at_last (expected.Parameter ∷ stack) past h = cc
at_last (MoreParameters ∷ stack) past h = cc
at_last (Items ∷ stack) past h = ([], ([], refl), at_last stack past h)

more_past : (b : Bool) (o : Option (List Bool)) (past : List Bool) → ahead b o ≡ Some past → (rest : List Bool) × (o ≡ Some rest)
more_past b None past h = cc
more_past b (Some rest) past h = (rest, refl)

went : (a : After) (ts : List Token) (past : List Bool) → ((stack : List Symbol) (n : ℕ) (rest : List Bool) → trace ts stack n ≡ Some rest → Row stack ts) → noted a (trace ts) ≡ Some past → RowAfter a ts
went (Goes b stack n) ts past go h = let m = more_past b (trace ts stack n) past h in go stack n m.0 m.1
went Fails ts past go h = cc

row_of_trace : (ts : List Token) (stack : List Symbol) (n : ℕ) (past : List Bool) → trace ts stack n ≡ Some past → Row stack ts
row_of_trace [] stack n past h = at_last stack past h
row_of_trace (t ∷ ts) stack n past h = back stack n t ts (went (after stack n t.kind) ts past (λ s m rest k. row_of_trace ts s m rest k) h)

-- so they spell a program
pub spelled : (ts : List Token) (past : List Bool) → trace ts (Items ∷ []) 0 ≡ Some past → (list : List trees.Item) × SpellsItems list ts []
spelled ts past h =
    let row = row_of_trace ts (Items ∷ []) 0 past h in
    (row.1.0, subst (λ x. SpellsItems row.1.0 ts x) row.2 row.1.1)
