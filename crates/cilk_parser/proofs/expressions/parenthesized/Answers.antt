use Rattle.std.proofs.Common.{◌∷◌, ◌∙◌, sym, subst}
use Rattle.cilk_syntax.specs.declared.marks.Punct.TheVariants as marks
use Rattle.cilk_syntax.specs.Expected.{One, Operand, Tail, Anew}
use Rattle.cilk_syntax.specs.Stops.{IsStop}
use Rattle.cilk_syntax.proofs.Stopping.{handed, if_ok, if_err}
use Rattle.cilk_parser.proofs.expressions.parenthesized.Goals as goal

pub returns-in_err-rest-clause-stops : goal.returns-in_err-rest-clause-stops
returns-in_err-rest-clause-stops c =
    handed c.from_residual.result c.in_err-rest.field-0.0 _ c.from_residual.ensures.1
    (λ stack. c.in_err-rest.ensures.stops (Operand c.args.depth ∷ Tail c.args.depth ∷ Anew ∷ One marks.Close ∷ stack) 0)

pub returns-in_err-e-clause-stops : goal.returns-in_err-e-clause-stops
returns-in_err-e-clause-stops c =
    handed c.from_residual-in_err-e.result c.in_err-e.field-0.0 _ c.from_residual-in_err-e.ensures.1
    (λ stack. subst (IsStop c.in_err-e.field-0.0)
    (sym (c.in_ok-rest.ensures.reads (Operand c.args.depth ∷ Tail c.args.depth ∷ Anew ∷ One marks.Close ∷ stack) 0))
    (c.in_err-e.ensures.stops (One marks.Close ∷ stack)))

pub returns-clause-reads : goal.returns-clause-reads
returns-clause-reads c =
    if_ok c.then_one.result _ _
    (λ v h stack. c.in_ok-rest.ensures.reads (Operand c.args.depth ∷ Tail c.args.depth ∷ Anew ∷ One marks.Close ∷ stack) 0
    ∙ (c.in_ok-e.ensures.reads (One marks.Close ∷ stack) ∙ h stack 0)) c.then_one.ensures.reads

pub returns-clause-stops : goal.returns-clause-stops
returns-clause-stops c =
    if_err c.then_one.result _ _
    (λ e h stack. subst (IsStop e)
    (sym (c.in_ok-rest.ensures.reads (Operand c.args.depth ∷ Tail c.args.depth ∷ Anew ∷ One marks.Close ∷ stack) 0
    ∙ c.in_ok-e.ensures.reads (One marks.Close ∷ stack))) (h stack 0)) c.then_one.ensures.stops
