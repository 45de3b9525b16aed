use Rattle.std.proofs.Common.{◌≡◌, reverse, sym, ap, ◌∙◌, subst}
use Rattle.cilk_program.specs.Sources.{source}
use Rattle.cilk_program.specs.declared.ask.Ask.TheVariants.{Invoke}
use Rattle.cilk_program.specs.declared.ask.Callee.{Callee}
use Rattle.cilk_program.specs.declared.ask.Callee.TheVariants.{Function}
use Rattle.cilk_program.specs.declared.ask.FunctionCall.{FunctionCall}
use Rattle.cilk_lower.specs.declared.layout.Layout.{Layout}
use Rattle.cilk_checker.specs.Frames.{own_of}
use Rattle.cilk_helpers.specs.Asked.{ask_in, call_in}
use Rattle.cilk_helpers.specs.declared.note.Given.{Given}
use Rattle.cilk_helpers.specs.Notes.{IsReplay}
use Rattle.cilk_helpers.proofs.whole.begin_function.Goals as goal

pub begin_function-requires-clause-asked : goal.begin_function-requires-clause-asked
begin_function-requires-clause-asked c =
    ap ask_in c.in-Function.is
    ∙ (ap (λ (g : Given). Invoke c.in-Function.how (Function (call_in g))) (sym c.deref.ensures)
    ∙ (ap (λ (call : FunctionCall). Invoke c.in-Function.how (Function call)) (sym c.in-Some.ensures)
    ∙ ap (Invoke c.in-Function.how) c.in-Function-callee.is))

pub returns-then-begun : goal.returns-then-begun
returns-then-begun c =
    let code = c.args.code.now in
    let p = source c.args.program.now in
    let inputs = c.args.input.now in
    let replay = c.args.replay in
    let callee = Function c.in-Function-callee.call in
    let same : replay.callee ≡ callee = c.is_call-is_next.ensures c.if-not-is_next.false ∙ c.in-Function-callee.is in
    let kept = subst (λ (d : Callee). IsReplay code p inputs d (reverse replay.notes.items)) same c.requires.kept in (
      callee,
      c.of_callee-own.ensures ∙ (ap (λ (l : Layout). own_of p l (Function c.in-Some.call)) c.layout.ensures ∙ ap (own_of p code.layout) c.in-Function-callee.is),
      c.in_ok-begun.ensures code inputs c.requires.tells kept c.if-begun.true,
    )
