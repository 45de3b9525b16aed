-- Lists that the parser's loops make.
use Rattle.std.proofs.Common.{◌≡◌, ℕ, true, cond, List, [], ◌∷◌, ◌++◌, refl, sym, ap, ◌∙◌, subst, rules, Vec}
use Rattle.std.specs.declared.alloc.Global.{Global}
use Rattle.cilk_syntax.specs.declared.token.Kind.{Kind}
use Rattle.cilk_syntax.specs.declared.token.Kind.TheVariants as kinds
use Rattle.cilk_syntax.specs.declared.token.Token.{Token}
use Rattle.cilk_syntax.specs.declared.tree.Stmt.{Stmt, Row_of-Stmt, Block, end_of-Stmt, more_of-Stmt, items-the_row-Stmt, the_lemmas}
use Rattle.cilk_syntax.specs.declared.tree.Stmt.TheBlock.{hidden-the_row-Stmt-0}
use Rattle.cilk_syntax.specs.Expected.{Symbol, Statement, Statements, Passes, After, move_statement, followed, begins_statement, first_begins, chosen, after, settled, run}
use Rattle.cilk_syntax.specs.Trees as trees
use Rattle.cilk_syntax.specs.declared.tree.Item as declared
use Rattle.cilk_syntax.specs.Trees.{Argument, Then, argument, arguments_of, local, locals_of, statement, statements, row_view, item, items_of}
use Rattle.cilk_syntax.specs.declared.tree.Name.{Name}
use Rattle.cilk_syntax.specs.declared.tree.Argument as declared_arguments
use Rattle.cilk_syntax.specs.declared.tree.Local as declared_locals
use Rattle.cilk_syntax.specs.declared.tree.Initializer.{Initializer}
use Rattle.cilk_syntax.specs.declared.tree.Initializer.TheVariants as initializers
use Rattle.cilk_syntax.specs.declared.tree.GlobalVariable.{GlobalVariable}
use Rattle.cilk_syntax.specs.declared.tree.Parameter.{Parameter}
use Rattle.cilk_syntax.specs.declared.tree.Reducer.{Reducer}
use Rattle.cilk_syntax.specs.Grammar.{Is, IsName, SpellsStmt, SpellsAll, SpellsArgument, SpellsMoreArguments, SpellsSome, SpellsArguments, SpellsLocal, SpellsMoreLocals, SpellsLocals, SpellsReducer, SpellsReducerRest, SpellsLiteral, SpellsInitializer, SpellsGlobal, SpellsMore, SpellsVariables, SpellsParameter, SpellsMoreParameters, SpellsListed, SpellsParameters, SpellsItem, SpellsItems}

-- one more statement
pub spells_push : (list : List Stmt) (s : Stmt) (ts ts1 rest : List Token) → SpellsAll (statements list) ts ts1 → SpellsStmt (statement s) ts1 rest → SpellsAll (statements (list ++ s ∷ [])) ts rest
spells_push [] s ts ts1 rest h k = (rest, subst (λ x. SpellsStmt (statement s) x rest) (sym h) k, refl)
spells_push (a ∷ list) s ts ts1 rest h k = (h.0, h.1, spells_push list s h.0 ts1 rest h.2 k)

-- a row of statements in a tree is the list that it was made from
row_is : (n : _) (row : Row_of-Stmt n) → row_view row ≡ statements (items-the_row-Stmt n row)
row_is _ end_of-Stmt = refl
row_is _ (more_of-Stmt s row) = ap (λ x. Then (statement s) x) (row_is _ row)

pub block_is : (at : ℕ) (v : Vec Stmt Global) → statement (Block at v) ≡ trees.Block (statements v.items)
block_is at v =
    ap trees.Block (row_is _ (hidden-the_row-Stmt-0 v) ∙ ap statements {x = items-the_row-Stmt _ (hidden-the_row-Stmt-0 v)} {y = v.items} (search (rules, the_lemmas)))

pub spells_block : (at : ℕ) (v : Vec Stmt Global) (ts ts1 ts2 rest : List Token) → Is kinds.OpenBrace ts ts1 → SpellsAll (statements v.items) ts1 ts2 → Is kinds.CloseBrace ts2 rest → SpellsStmt (statement (Block at v)) ts rest
spells_block at v ts ts1 ts2 rest first all close = subst (λ s. SpellsStmt s ts rest) (sym (block_is at v)) (ts1, ts2, first, all, close)

-- where a statement begins, a list of statements is one statement and more
with_form : (d : ℕ) (x : Kind) (stack : List Symbol) (n : ℕ) (below below' : After) → begins_statement x ≡ true → chosen (followed (Statements d ∷ []) (move_statement d x)) stack n below ≡ chosen (move_statement d x) (Statements d ∷ stack) n below'
with_form d kinds.OpenBrace stack n below below' h = refl
with_form d kinds.Semicolon stack n below below' h = refl
with_form d kinds.Int stack n below below' h = refl
with_form d kinds.Name stack n below below' h = refl
with_form d kinds.Increment stack n below below' h = refl
with_form d kinds.Decrement stack n below below' h = refl
with_form d kinds.CilkSpawn stack n below below' h = refl
with_form d kinds.CilkSync stack n below below' h = refl
with_form d kinds.If stack n below below' h = refl
with_form d kinds.While stack n below below' h = refl
with_form d kinds.For stack n below below' h = refl
with_form d kinds.CilkFor stack n below below' h = refl
with_form d kinds.Return stack n below below' h = refl
with_form d kinds.Print stack n below below' h = refl
with_form d kinds.Update stack n below below' h = refl
with_form d kinds.Set stack n below below' h = refl
with_form d _ stack n below below' h = cc

pub form_repeats : (d : ℕ) (x : Kind) (stack : List Symbol) (n : ℕ) → begins_statement x ≡ true → after (Statements d ∷ stack) n x ≡ after (Statement d ∷ Statements d ∷ stack) n x
form_repeats d x stack n h =
    ap (λ b. chosen (cond b (followed (Statements d ∷ []) (move_statement d x)) Passes) stack n (after stack n x)) h
    ∙ with_form d x stack n (after stack n x) (after (Statements d ∷ stack) n x) h

pub repeats : (d : ℕ) (ts : List Token) (stack : List Symbol) (n : ℕ) → first_begins ts ≡ true → run ts (Statements d ∷ stack) n ≡ run ts (Statement d ∷ Statements d ∷ stack) n
repeats d [] stack n h = cc
repeats d (t ∷ ts) stack n h = ap (λ a. settled a (run ts) (t ∷ ts)) (form_repeats d t.kind stack n h)

-- a literal after its `=`
pub spells_initial : (i : Initializer) (ts ts1 rest : List Token) → Is kinds.Assign ts ts1 → SpellsLiteral i ts1 rest → SpellsInitializer i ts rest
spells_initial initializers.Absent ts ts1 rest h k = absurd k
spells_initial (initializers.Number n) ts ts1 rest h k = (ts1, h, k)
spells_initial (initializers.Negative n) ts ts1 rest h k = (ts1, h, k)

more_push : (list : List GlobalVariable) (v : GlobalVariable) (name : Name) (ts ts1 ts2 ts3 rest : List Token) → SpellsMore list ts ts1 → Is kinds.Comma ts1 ts2 → IsName name ts2 ts3 → SpellsGlobal v name ts3 rest → SpellsMore (list ++ v ∷ []) ts rest
more_push [] v name ts ts1 ts2 ts3 rest h c n i = (name, ts2, ts3, rest, subst (λ x. Is kinds.Comma x ts2) (sym h) c, n, i, refl)
more_push (a ∷ list) v name ts ts1 ts2 ts3 rest h c n i = (h.0, h.1, h.2, h.3, h.4, h.5, h.6, more_push list v name h.3 ts1 ts2 ts3 rest h.7 c n i)

-- one more variable
pub variables_push : (first : Name) (list : List GlobalVariable) (v : GlobalVariable) (name : Name) (ts ts1 ts2 ts3 rest : List Token) → SpellsVariables first list ts ts1 → Is kinds.Comma ts1 ts2 → IsName name ts2 ts3 → SpellsGlobal v name ts3 rest → SpellsVariables first (list ++ v ∷ []) ts rest
variables_push first [] v name ts ts1 ts2 ts3 rest h c n i = absurd h
variables_push first (a ∷ list) v name ts ts1 ts2 ts3 rest h c n i = (h.0, h.1, more_push list v name h.0 ts1 ts2 ts3 rest h.2 c n i)

more_arguments_push : (list : List declared_arguments.Argument) (a : declared_arguments.Argument) (ts ts1 ts2 rest : List Token) → SpellsMoreArguments (arguments_of list) ts ts1 → Is kinds.Comma ts1 ts2 → SpellsArgument (argument a) ts2 rest → SpellsMoreArguments (arguments_of (list ++ a ∷ [])) ts rest
more_arguments_push [] a ts ts1 ts2 rest h c k = (ts2, rest, subst (λ x. Is kinds.Comma x ts2) (sym h) c, k, refl)
more_arguments_push (b ∷ list) a ts ts1 ts2 rest h c k = (h.0, h.1, h.2, h.3, more_arguments_push list a h.1 ts1 ts2 rest h.4 c k)

-- one more argument
pub arguments_push : (list : List declared_arguments.Argument) (a : declared_arguments.Argument) (ts ts1 ts2 rest : List Token) → SpellsSome (arguments_of list) ts ts1 → Is kinds.Comma ts1 ts2 → SpellsArgument (argument a) ts2 rest → SpellsSome (arguments_of (list ++ a ∷ [])) ts rest
arguments_push [] a ts ts1 ts2 rest h c k = absurd h
arguments_push (b ∷ list) a ts ts1 ts2 rest h c k = (h.0, h.1, more_arguments_push list a h.0 ts1 ts2 rest h.2 c k)

-- and the parenthesis after them
pub spells_arguments : (list : List Argument) (ts ts1 rest : List Token) → SpellsSome list ts ts1 → Is kinds.Close ts1 rest → SpellsArguments list ts rest
spells_arguments [] ts ts1 rest h c = absurd h
spells_arguments (a ∷ list) ts ts1 rest h c = (ts1, h, c)

more_locals_push : (list : List declared_locals.Local) (l : declared_locals.Local) (ts ts1 ts2 rest : List Token) → SpellsMoreLocals (locals_of list) ts ts1 → Is kinds.Comma ts1 ts2 → SpellsLocal (local l) ts2 rest → SpellsMoreLocals (locals_of (list ++ l ∷ [])) ts rest
more_locals_push [] l ts ts1 ts2 rest h c k = (ts2, rest, subst (λ x. Is kinds.Comma x ts2) (sym h) c, k, refl)
more_locals_push (b ∷ list) l ts ts1 ts2 rest h c k = (h.0, h.1, h.2, h.3, more_locals_push list l h.1 ts1 ts2 rest h.4 c k)

-- one more local variable
pub locals_push : (list : List declared_locals.Local) (l : declared_locals.Local) (ts ts1 ts2 rest : List Token) → SpellsLocals (locals_of list) ts ts1 → Is kinds.Comma ts1 ts2 → SpellsLocal (local l) ts2 rest → SpellsLocals (locals_of (list ++ l ∷ [])) ts rest
locals_push [] l ts ts1 ts2 rest h c k = absurd h
locals_push (b ∷ list) l ts ts1 ts2 rest h c k = (h.0, h.1, more_locals_push list l h.0 ts1 ts2 rest h.2 c k)

more_parameters_push : (list : List Parameter) (p : Parameter) (ts ts1 ts2 ts3 rest : List Token) → SpellsMoreParameters list ts ts1 → Is kinds.Comma ts1 ts2 → Is kinds.Int ts2 ts3 → SpellsParameter p ts3 rest → SpellsMoreParameters (list ++ p ∷ []) ts rest
more_parameters_push [] p ts ts1 ts2 ts3 rest h c n k = (ts2, ts3, rest, subst (λ x. Is kinds.Comma x ts2) (sym h) c, n, k, refl)
more_parameters_push (b ∷ list) p ts ts1 ts2 ts3 rest h c n k = (h.0, h.1, h.2, h.3, h.4, h.5, more_parameters_push list p h.2 ts1 ts2 ts3 rest h.6 c n k)

-- one more parameter
pub parameters_push : (list : List Parameter) (p : Parameter) (ts ts1 ts2 ts3 rest : List Token) → SpellsListed list ts ts1 → Is kinds.Comma ts1 ts2 → Is kinds.Int ts2 ts3 → SpellsParameter p ts3 rest → SpellsListed (list ++ p ∷ []) ts rest
parameters_push [] p ts ts1 ts2 ts3 rest h c n k = absurd h
parameters_push (b ∷ list) p ts ts1 ts2 ts3 rest h c n k = (h.0, h.1, more_parameters_push list p h.0 ts1 ts2 ts3 rest h.2 c n k)

-- with the first `int` before them and the parenthesis after them
pub spells_parameters : (list : List Parameter) (ts ts1 ts2 rest : List Token) → Is kinds.Int ts ts1 → SpellsListed list ts1 ts2 → Is kinds.Close ts2 rest → SpellsParameters list ts rest
spells_parameters [] ts ts1 ts2 rest int h c = absurd h
spells_parameters (p ∷ list) ts ts1 ts2 rest int h c = (ts1, ts2, int, h, c)

-- one more item
pub items_push : (list : List declared.Item) (i : declared.Item) (ts ts1 rest : List Token) → SpellsItems (items_of list) ts ts1 → SpellsItem (item i) ts1 rest → SpellsItems (items_of (list ++ i ∷ [])) ts rest
items_push [] i ts ts1 rest h k = (rest, subst (λ x. SpellsItem (item i) x rest) (sym h) k, refl)
items_push (a ∷ list) i ts ts1 rest h k = (h.0, h.1, items_push list i h.0 ts1 rest h.2 k)

-- a reducer after its word
pub spells_reducer : (r : Reducer) (ts ts1 rest : List Token) → Is kinds.CilkReducer ts ts1 → SpellsReducerRest r ts1 rest → SpellsReducer r ts rest
spells_reducer r ts ts1 rest is h = subst (λ x. SpellsReducer r x rest) (sym is.1) (h is.0 is.2)
