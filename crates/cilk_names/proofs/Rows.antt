-- Statements in order, and their loops in the list of loops.
use Rattle.std.proofs.Common.{◌≡◌, ℕ, suc, ◌+◌, ◌<◌, ◌≤◌, List, [], ◌∷◌, ◌++◌, length, drop, get_or, Option, sym, ap, ◌∙◌, append_assoc, add-one}
use Rattle.std.proofs.lemmas.List.{append-nil, drop_all}
use Rattle.std.proofs.Math.Seq.{drop-cons}
use Rattle.cilk_syntax.specs.declared.tree.Stmt as code
use Rattle.cilk_syntax.specs.Trees as trees
use Rattle.cilk_program.specs.declared.syntax.Stmt as resolved
use Rattle.cilk_program.specs.Programs as programs
use Rattle.cilk_program.specs.Syntax.{Loop, Then}
use Rattle.cilk_names.specs.declared.kind.Misnaming.{Misnaming}
use Rattle.cilk_names.specs.Contexts.{Context, ahead, behind, behind_row}
use Rattle.cilk_names.specs.Faults.{earliest}
use Rattle.cilk_names.specs.Misnamings.{statement_faults, row_faults}
use Rattle.cilk_names.specs.Pass.{statement_of, row_of, loops_of, row_loops}
use Rattle.cilk_names.proofs.Earliest.{earliest_append}
use Rattle.cilk_names.proofs.Blocks.{followed, followed_push, followed_nothing}

-- the statements that are left, if there is one
left : (list : List code.Stmt) (i : ℕ) (s : code.Stmt) → i < length list → s ≡ get_or list i s → trees.statements (drop i list) ≡ trees.Then (trees.statement s) (trees.statements (drop (suc i) list))
left list i s h e = ap trees.statements (drop-cons list i s h ∙ ap (λ y. y ∷ drop (suc i) list) (sym e))

none : (list : List code.Stmt) (i : ℕ) → length list ≤ i → trees.statements (drop i list) ≡ trees.End
none list i h = ap trees.statements (drop_all i list h)

module _ (start before mid now : Context) (list : List code.Stmt) (i : ℕ) (s : code.Stmt) (lt : i < length list) (at : s ≡ get_or list i s)
    (reaches : mid ≡ ahead before (trees.statement s)) (goes : now ≡ behind mid (trees.statement s)) where
  passes : now ≡ behind (ahead before (trees.statement s)) (trees.statement s)
  passes = goes ∙ ap (λ c. behind c (trees.statement s)) reaches

  pub row_context : behind_row before (trees.statements (drop i list)) ≡ behind_row start (trees.statements list)
      → behind_row now (trees.statements (drop (i + 1) list)) ≡ behind_row start (trees.statements list)
  row_context h =
      rw add-one (
      ap (λ c. behind_row c (trees.statements (drop (suc i) list))) passes
      ∙ ap (λ x. behind_row before x) (sym (left list i s lt at)) ∙ h)

  pub row_step : (from first next : Option Misnaming)
      → earliest first (row_faults before (trees.statements (drop i list))) ≡ earliest from (row_faults start (trees.statements list))
      → next ≡ earliest first (statement_faults mid (trees.statement s))
      → earliest next (row_faults now (trees.statements (drop (i + 1) list))) ≡ earliest from (row_faults start (trees.statements list))
  row_step from first next h n =
      rw add-one (
      ap (λ c. earliest next (row_faults c (trees.statements (drop (suc i) list)))) passes
      ∙ ap (λ x. earliest x (row_faults (behind (ahead before (trees.statement s)) (trees.statement s)) (trees.statements (drop (suc i) list)))) (n ∙ ap (λ c. earliest first (statement_faults c (trees.statement s))) reaches)
      ∙ sym (earliest_append first (statement_faults (ahead before (trees.statement s)) (trees.statement s)) (row_faults (behind (ahead before (trees.statement s)) (trees.statement s)) (trees.statements (drop (suc i) list))))
      ∙ ap (λ x. earliest first (row_faults before x)) (sym (left list i s lt at))
      ∙ h)

  pub row_loops_step : (from done more : List Loop)
      → done ++ row_loops before (trees.statements (drop i list)) ≡ from ++ row_loops start (trees.statements list)
      → more ≡ done ++ loops_of mid (trees.statement s)
      → more ++ row_loops now (trees.statements (drop (i + 1) list)) ≡ from ++ row_loops start (trees.statements list)
  row_loops_step from done more h n =
      rw add-one (
      ap (λ c. more ++ row_loops c (trees.statements (drop (suc i) list))) passes
      ∙ ap (λ x. x ++ row_loops (behind (ahead before (trees.statement s)) (trees.statement s)) (trees.statements (drop (suc i) list))) (n ∙ ap (λ c. done ++ loops_of c (trees.statement s)) reaches)
      ∙ append_assoc done (loops_of (ahead before (trees.statement s)) (trees.statement s)) (row_loops (behind (ahead before (trees.statement s)) (trees.statement s)) (trees.statements (drop (suc i) list)))
      ∙ ap (λ x. done ++ row_loops before x) (sym (left list i s lt at))
      ∙ h)

  pub row_value_step : (done more : List resolved.Stmt) (r : resolved.Stmt)
      → followed done (row_of before (trees.statements (drop i list))) ≡ row_of start (trees.statements list)
      → programs.statement r ≡ statement_of mid (trees.statement s)
      → more ≡ done ++ r ∷ []
      → followed more (row_of now (trees.statements (drop (i + 1) list))) ≡ row_of start (trees.statements list)
  row_value_step done more r h n e =
      rw add-one (
      ap (λ c. followed more (row_of c (trees.statements (drop (suc i) list)))) passes
      ∙ ap (λ x. followed x (row_of (behind (ahead before (trees.statement s)) (trees.statement s)) (trees.statements (drop (suc i) list)))) e
      ∙ followed_push done r (row_of (behind (ahead before (trees.statement s)) (trees.statement s)) (trees.statements (drop (suc i) list)))
      ∙ ap (λ x. followed done (Then x (row_of (behind (ahead before (trees.statement s)) (trees.statement s)) (trees.statements (drop (suc i) list))))) (n ∙ ap (λ c. statement_of c (trees.statement s)) reaches)
      ∙ ap (λ x. followed done (row_of before x)) (sym (left list i s lt at))
      ∙ h)

module _ (start now : Context) (list : List code.Stmt) (i : ℕ) (le : length list ≤ i) where
  pub row_context_end : behind_row now (trees.statements (drop i list)) ≡ behind_row start (trees.statements list) → now ≡ behind_row start (trees.statements list)
  row_context_end h = ap (λ x. behind_row now x) (sym (none list i le)) ∙ h

  pub row_end : (from first : Option Misnaming) → earliest first (row_faults now (trees.statements (drop i list))) ≡ earliest from (row_faults start (trees.statements list))
      → first ≡ earliest from (row_faults start (trees.statements list))
  row_end from first h = ap (λ x. earliest first (row_faults now x)) (sym (none list i le)) ∙ h

  pub row_loops_end : (from done : List Loop) → done ++ row_loops now (trees.statements (drop i list)) ≡ from ++ row_loops start (trees.statements list)
      → done ≡ from ++ row_loops start (trees.statements list)
  row_loops_end from done h = sym (append-nil done) ∙ ap (λ x. done ++ row_loops now x) (sym (none list i le)) ∙ h

  pub row_value_end : (done : List resolved.Stmt) → followed done (row_of now (trees.statements (drop i list))) ≡ row_of start (trees.statements list)
      → programs.statements done ≡ row_of start (trees.statements list)
  row_value_end done h = sym (followed_nothing done) ∙ ap (λ x. followed done (row_of now x)) (sym (none list i le)) ∙ h
