use Rattle.std.proofs.Common.{reverse, subst}
use Rattle.cilk_program.specs.Sources.{source}
use Rattle.cilk_program.specs.declared.ask.Callee.{Callee}
use Rattle.cilk_helpers.specs.Notes.{IsReplay}
use Rattle.cilk_helpers.proofs.whole.begin.Goals as goal

pub returns-clause-tells : goal.returns-clause-tells
returns-clause-tells c =
    let code = c.args.code.now in
    let p = source c.args.program.now in
    let inputs = c.args.input.now in
    let root = c.is_root-is_root.ensures c.if-not-is_root.false in
    c.in_ok-new.ensures.tells code inputs c.requires.behaves
    (subst (λ (d : Callee). IsReplay code p inputs d (reverse c.in-Some.replay.notes.items)) root c.in-Some.ensures.one)
