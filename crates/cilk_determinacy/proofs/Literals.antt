-- A program of the code writes words alone: each number in it keeps in its type that it is one.
--
-- - `expression_words` to `loops_words`: by what a program is made of;
-- - `numbers_are`, `program_words`: with the words that its globals open with.
use Rattle.std.proofs.Common.{ℤ, List, [], ◌∷◌, map, Option, Some, None, Box}
use Rattle.std.specs.declared.alloc.Global.{Global}
use Rattle.std.specs.List.{All}
use Rattle.std.proofs.lemmas.List.Elements.{All-head, All-tail}
use Rattle.cilk_types.specs.Word.{IsWord}
use Rattle.cilk_program.specs.declared.program.Function as declared_functions
use Rattle.cilk_program.specs.declared.program.Loop as declared_loops
use Rattle.cilk_program.specs.declared.program.Program.{Program}
use Rattle.cilk_program.specs.declared.syntax.Declaration as declared_declarations
use Rattle.cilk_program.specs.declared.syntax.Declaration.TheVariants as declarations
use Rattle.cilk_program.specs.declared.syntax.Expr as exprs
use Rattle.cilk_program.specs.declared.syntax.Stmt as stmts
use Rattle.cilk_program.specs.declared.syntax.Target as declared_targets
use Rattle.cilk_program.specs.declared.syntax.Target.TheVariants as targets
use Rattle.cilk_program.specs.Programs.{expression, optional, target, declaration, statement, row_view, statements, function, loop}
use Rattle.cilk_program.specs.Sources.{source}
use Rattle.cilk_determinacy.specs.Words.{AreWords, ExpressionWords, ExpressionsWords, OptionWords, TargetWords, DeclarationWords, DeclarationsWords, StatementWords, RowWords, FunctionsWords, LoopsWords, HasWords}

expression_words : (e : exprs.Expr) → ExpressionWords (expression e)
expression_words (exprs.Number at n) = n.word
expression_words (exprs.Variable at x) = tt
expression_words (exprs.Element' at a p e) = expression_words e
expression_words (exprs.Negate' at p e) = expression_words e
expression_words (exprs.Not' at p e) = expression_words e
expression_words (exprs.Binary' at op p a q b) = (expression_words a, expression_words b)
expression_words (exprs.And' at p a q b) = (expression_words a, expression_words b)
expression_words (exprs.Or' at p a q b) = (expression_words a, expression_words b)
expression_words (exprs.Value at r) = tt
expression_words (exprs.Input' at p e) = expression_words e
expression_words (exprs.InputCount at) = tt

expressions_words : (es : List exprs.Expr) → ExpressionsWords (map expression es)
expressions_words [] = tt
expressions_words (e ∷ es) = (expression_words e, expressions_words es)

optional_words : (o : Option (Box exprs.Expr Global)) → OptionWords (optional o)
optional_words None = tt
optional_words (Some e) = expression_words e.value

target_words : (t : declared_targets.Target) → TargetWords (target t)
target_words (targets.Variable at x) = tt
target_words (targets.Element at a e) = expression_words e.value

declaration_words : (d : declared_declarations.Declaration) → DeclarationWords (declaration d)
declaration_words (declarations.Zero at n) = tt
declaration_words (declarations.Value at n e) = expression_words e
declaration_words (declarations.Invoke i) = expressions_words i.arguments.items

declarations_words : (ds : List declared_declarations.Declaration) → DeclarationsWords (map declaration ds)
declarations_words [] = tt
declarations_words (d ∷ ds) = (declaration_words d, declarations_words ds)

mutual
  statement_words : (s : stmts.Stmt) → StatementWords (statement s)
  statement_words (stmts.Empty at) = tt
  statement_words (stmts.Block' at shape row) = row_words row
  statement_words (stmts.Declare row) = declarations_words row.items
  statement_words (stmts.Assign t e) = (target_words t, expression_words e)
  statement_words (stmts.Change op t at e) = (target_words t, expression_words e)
  statement_words (stmts.Step t n) = target_words t
  statement_words (stmts.Invoke i) = expressions_words i.arguments.items
  statement_words (stmts.Sync at) = tt
  statement_words (stmts.If' at e p s) = (expression_words e, statement_words s)
  statement_words (stmts.IfElse' at e p s q other) = (expression_words e, statement_words s, statement_words other)
  statement_words (stmts.For' at shape row test shape2 row2 p s) = (row_words row, optional_words test, row_words row2, statement_words s)
  statement_words (stmts.ParallelFor at a b n) = (expression_words a.value, expression_words b.value)
  statement_words (stmts.Print at e) = expression_words e
  statement_words (stmts.Update at r e) = expression_words e
  statement_words (stmts.Set at r e) = expression_words e
  statement_words (stmts.Return at e) = optional_words e

  row_words : {n : _} (row : stmts.Row_of-Stmt n) → RowWords (row_view row)
  row_words stmts.end_of-Stmt = tt
  row_words (stmts.more_of-Stmt s row) = (statement_words s, row_words row)

statements_words : (list : List stmts.Stmt) → RowWords (statements list)
statements_words [] = tt
statements_words (s ∷ list) = (statement_words s, statements_words list)

functions_words : (fs : List declared_functions.Function) → FunctionsWords (map function fs)
functions_words [] = tt
functions_words (f ∷ fs) = (statements_words f.body.items, functions_words fs)

loops_words : (ls : List declared_loops.Loop) → LoopsWords (map loop ls)
loops_words [] = tt
loops_words (l ∷ ls) = (statements_words l.body.items, loops_words ls)

pub numbers_are : (vs : List ℤ) → All IsWord vs → AreWords vs
numbers_are [] h = tt
numbers_are (v ∷ vs) h = (All-head IsWord v vs h, numbers_are vs (All-tail IsWord v vs h))

pub program_words : (p : Program) → All IsWord p.globals → HasWords (source p)
program_words p h = record {
  openings = numbers_are p.globals h;
  functions = functions_words p.functions.items;
  loops = loops_words p.loops.items;
}
