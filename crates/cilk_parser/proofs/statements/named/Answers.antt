use Rattle.std.proofs.Common.{◌≡◌, ◌∷◌, ◌∙◌, refl, sym, subst, rules}
use Rattle.cilk_syntax.specs.declared.token.Kind.TheVariants as kinds
use Rattle.cilk_syntax.specs.declared.marks.Punct.TheVariants as marks
use Rattle.cilk_syntax.specs.declared.tree.Assignment.{Assignment}
use Rattle.cilk_syntax.specs.Expected.{One, AfterName, Arguments, Source}
use Rattle.cilk_syntax.specs.Grammar.{SpellsStmt}
use Rattle.cilk_syntax.specs.Stops.{IsStop}
use Rattle.cilk_syntax.specs.Trees as trees
use Rattle.cilk_syntax.proofs.Runs.{assigns, takes}
use Rattle.cilk_syntax.proofs.Stopping.{handed, if_ok, if_err}
use Rattle.cilk_parser.proofs.statements.named.Goals as goal

pub returns-in-Some-clause-tree : goal.returns-in-Some-clause-tree
returns-in-Some-clause-tree c = if_ok c.called.result _ _ (λ v h ts is. h ts c.args.tokens.now is c.in-Some.ensures.found) c.called.ensures.tree

pub returns-in-Some-behind-clause-tree : goal.returns-in-Some-behind-clause-tree
returns-in-Some-behind-clause-tree c = if_ok c.taken.result _ _ (λ v h ts is. h ts c.args.tokens.now is c.in-Some-behind.ensures.found) c.taken.ensures.tree

pub returns-clause-tree : goal.returns-clause-tree
returns-clause-tree c =
    let same : c.in_ok-new.field-0.value ≡ c.in_ok-assignment.assignment = search rules in
    λ ts is. subst (λ (a : Assignment). SpellsStmt (trees.Assign (trees.assignment a)) ts c.in_ok-rest.rest.now) (sym same)
    (c.in_ok-assignment.rest.now, c.in_ok-assignment.ensures.tree ts is, c.in_ok-rest.ensures.token)

pub returns-in-Some-clause-reads : goal.returns-in-Some-clause-reads
returns-in-Some-clause-reads c =
    if_ok c.called.result _ _
    (λ v h stack. takes kinds.Open _ _ (AfterName c.args.depth ∷ stack) (Arguments c.args.depth ∷ One marks.Semicolon ∷ stack) 0 0 c.in-Some.ensures.found refl
    ∙ h stack) c.called.ensures.reads

pub returns-in-Some-clause-stops : goal.returns-in-Some-clause-stops
returns-in-Some-clause-stops c =
    if_err c.called.result _ _
    (λ e h stack. subst (IsStop e)
    (sym (takes kinds.Open _ _ (AfterName c.args.depth ∷ stack) (Arguments c.args.depth ∷ One marks.Semicolon ∷ stack) 0 0 c.in-Some.ensures.found refl))
    (h stack)) c.called.ensures.stops

pub returns-in-Some-behind-clause-reads : goal.returns-in-Some-behind-clause-reads
returns-in-Some-behind-clause-reads c =
    if_ok c.taken.result _ _
    (λ v h stack. takes kinds.Assign _ _ (AfterName c.args.depth ∷ stack) (Source c.args.depth ∷ One marks.Semicolon ∷ stack) 0 0 c.in-Some-behind.ensures.found refl
    ∙ h stack) c.taken.ensures.reads

pub returns-in-Some-behind-clause-stops : goal.returns-in-Some-behind-clause-stops
returns-in-Some-behind-clause-stops c =
    if_err c.taken.result _ _
    (λ e h stack. subst (IsStop e)
    (sym (takes kinds.Assign _ _ (AfterName c.args.depth ∷ stack) (Source c.args.depth ∷ One marks.Semicolon ∷ stack) 0 0 c.in-Some-behind.ensures.found refl))
    (h stack)) c.taken.ensures.stops

pub returns-in_err-assignment-clause-stops : goal.returns-in_err-assignment-clause-stops
returns-in_err-assignment-clause-stops c =
    handed c.from_residual.result c.in_err-assignment.field-0.0 _ c.from_residual.ensures.1
    (λ stack. subst (IsStop c.in_err-assignment.field-0.0)
    (sym (assigns c.args.tokens.now c.args.depth stack 0 c.in_default.ensures.none c.in_default-behind.ensures.none))
    (c.in_err-assignment.ensures.stops (One marks.Semicolon ∷ stack)))

pub returns-in_err-rest-clause-stops : goal.returns-in_err-rest-clause-stops
returns-in_err-rest-clause-stops c =
    handed c.from_residual-in_err-rest.result c.in_err-rest.field-0.0 _ c.from_residual-in_err-rest.ensures.1
    (λ stack. subst (IsStop c.in_err-rest.field-0.0)
    (sym (assigns c.args.tokens.now c.args.depth stack 0 c.in_default.ensures.none c.in_default-behind.ensures.none
    ∙ c.in_ok-assignment.ensures.reads (One marks.Semicolon ∷ stack)))
    (c.in_err-rest.ensures.stops stack 0))

pub returns-clause-reads : goal.returns-clause-reads
returns-clause-reads c =
    λ stack. assigns c.args.tokens.now c.args.depth stack 0 c.in_default.ensures.none c.in_default-behind.ensures.none
    ∙ (c.in_ok-assignment.ensures.reads (One marks.Semicolon ∷ stack) ∙ c.in_ok-rest.ensures.reads stack 0)
