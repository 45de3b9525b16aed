-- Lists of statements, as the code's loops build them and as a block has them.
use Rattle.std.proofs.Common.{◌≡◌, ℕ, List, [], ◌∷◌, ◌++◌, Option, refl, sym, ap, ◌∙◌, rules, Vec, Box}
use Rattle.std.specs.declared.alloc.Global.{Global}
use Rattle.cilk_syntax.specs.declared.tree.Stmt as code
use Rattle.cilk_syntax.specs.declared.tree.Stmt.TheBlock as coded
use Rattle.cilk_syntax.specs.Trees as trees
use Rattle.cilk_program.specs.declared.syntax.Expr.{Expr}
use Rattle.cilk_program.specs.declared.syntax.Stmt as resolved
use Rattle.cilk_program.specs.declared.syntax.Stmt.TheBlock as given
use Rattle.cilk_program.specs.Programs as programs
use Rattle.cilk_program.specs.Syntax.{For, Statements, Nothing, Then}

-- a row of statements in a tree is the list that it was made from
tree_row : (n : _) (row : code.Row_of-Stmt n) → trees.row_view row ≡ trees.statements (code.items-the_row-Stmt n row)
tree_row _ code.end_of-Stmt = refl
tree_row _ (code.more_of-Stmt s row) = ap (λ x. trees.Then (trees.statement s) x) (tree_row _ row)

tree_list : (v : Vec code.Stmt Global) → trees.row_view (coded.hidden-the_row-Stmt-0 v) ≡ trees.statements v.items
tree_list v =
    tree_row _ (coded.hidden-the_row-Stmt-0 v) ∙ ap trees.statements {x = code.items-the_row-Stmt _ (coded.hidden-the_row-Stmt-0 v)} {y = v.items} (search (rules, code.the_lemmas))

-- a block is the statements of its list, whatever its place
pub tree_block : (s : code.Stmt) (at : ℕ) (v : Vec code.Stmt Global) (list : List code.Stmt) → s ≡ code.Block at v → list ≡ v.items → trees.Block (trees.statements list) ≡ trees.statement s
tree_block s at v list is same = ap (λ l. trees.Block (trees.statements l)) same ∙ sym (ap trees.statement is ∙ ap trees.Block (tree_list v))

-- the same of resolved statements
resolved_row : (n : _) (row : resolved.Row_of-Stmt n) → programs.row_view row ≡ programs.statements (resolved.items-the_row-Stmt n row)
resolved_row _ resolved.end_of-Stmt = refl
resolved_row _ (resolved.more_of-Stmt s row) = ap (λ x. Then (programs.statement s) x) (resolved_row _ row)

pub resolved_list : (v : Vec resolved.Stmt Global) → programs.row_view (given.hidden-the_row-Stmt-0 v) ≡ programs.statements v.items
resolved_list v =
    resolved_row _ (given.hidden-the_row-Stmt-0 v) ∙ ap programs.statements {x = resolved.items-the_row-Stmt _ (given.hidden-the_row-Stmt-0 v)} {y = v.items} (search (rules, resolved.the_lemmas))

pub for_is : (at : ℕ) (b : Vec resolved.Stmt Global) (e : Option (Box Expr Global)) (a : Vec resolved.Stmt Global) (s : Box resolved.Stmt Global)
    → programs.statement (resolved.For at b e a s) ≡ For (programs.statements b.items) (programs.optional e) (programs.statements a.items) (programs.statement s.value)
for_is at b e a s =
    ap (λ x. For x (programs.optional e) (programs.row_view (given.hidden-the_row-Stmt-0 a)) (programs.statement s.value)) (resolved_list b)
    ∙ ap (λ x. For (programs.statements b.items) (programs.optional e) x (programs.statement s.value)) (resolved_list a)

-- a list followed by a row
abbrev pub followed : List resolved.Stmt → Statements → Statements
followed [] row = row
followed (s ∷ list) row = Then (programs.statement s) (followed list row)

pub followed_push : (list : List resolved.Stmt) (s : resolved.Stmt) (row : Statements) → followed (list ++ s ∷ []) row ≡ followed list (Then (programs.statement s) row)
followed_push [] s row = refl
followed_push (a ∷ list) s row = ap (λ x. Then (programs.statement a) x) (followed_push list s row)

pub followed_nothing : (list : List resolved.Stmt) → followed list Nothing ≡ programs.statements list
followed_nothing [] = refl
followed_nothing (a ∷ list) = ap (λ x. Then (programs.statement a) x) (followed_nothing list)
