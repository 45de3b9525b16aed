use Rattle.std.proofs.Common.{sym, ap, ◌∙◌, w64, to_z, of_z, SFits, rules}
use Rattle.std.proofs.lemmas.Int.{to_z-of_z}
use Rattle.cilk_program.specs.Operators.{apply}
use Rattle.cilk_frames.specs.Cursor.{CursorView}
use Rattle.cilk_frames.specs.Moving.{moved}
use Rattle.cilk_frames.proofs.Applied.{applied}
use Rattle.cilk_frames.proofs.moves.apply_number.Goals as goal

pub returns-clause-moves : goal.returns-clause-moves
returns-clause-moves c = λ code.
    let x = c.pop-x.result in
    let fits : SFits w64 x = search rules in
    let value = c.apply-word.ensures ∙ ap (λ x. apply c.args.operator x (to_z w64 (of_z w64 c.args.number))) (to_z-of_z w64 x fits) ∙ ap (λ n. apply c.args.operator x n) (to_z-of_z w64 c.args.number c.ranges.number) in
    applied c.args.cursor.now c.pop-x.new.self c.args.operator c.args.number x c.apply-word.result c.args.left.now c.take_tick.new.left (moved code c.give_checked.result c.give_checked.new.cursor c.give_checked.new.left)
    (sym (ap (λ (v : CursorView). v.stack) c.next.ensures) ∙ c.pop-x.ensures.stack) (c.pop-x.ensures.place ∙ ap (λ (v : CursorView). v.place) c.next.ensures) (c.pop-x.ensures.held ∙ ap (λ (v : CursorView). v.held) c.next.ensures)
    c.if-not-take_tick.ensures value (c.give_checked.ensures.moves code)
