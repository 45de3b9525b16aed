use Rattle.std.proofs.Common.{◌≡◌, reverse, ap, ◌∙◌, subst}
use Rattle.cilk_program.specs.Sources.{source}
use Rattle.cilk_program.specs.declared.ask.Callee.{Callee}
use Rattle.cilk_program.specs.declared.ask.Callee.TheVariants.{Loop}
use Rattle.cilk_lower.specs.declared.layout.Layout.{Layout}
use Rattle.cilk_checker.specs.Frames.{own_of}
use Rattle.cilk_helpers.specs.Notes.{IsReplay}
use Rattle.cilk_helpers.proofs.whole.begin_turns.Goals as goal

pub returns-then-begun : goal.returns-then-begun
returns-then-begun c =
    let code = c.args.code.now in
    let p = source c.args.program.now in
    let inputs = c.args.input.now in
    let replay = c.args.replay in
    let part = Loop c.args.turns.1 in
    let of_part : replay.callee ≡ part = c.is_part-is_next.ensures c.if-not-is_next.false in
    let kept = subst (λ (d : Callee). IsReplay code p inputs d (reverse replay.notes.items)) of_part c.requires.kept in (
      part,
      c.of_callee-own.ensures ∙ ap (λ (l : Layout). own_of p l part) c.layout.ensures,
      c.in_ok-begun.ensures code inputs c.requires.tells kept c.if-begun.true,
    )
