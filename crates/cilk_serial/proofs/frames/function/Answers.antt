use Rattle.std.proofs.Common.{◌≡◌, suc, ◌+◌, ◌∷◌, List, [], length, sym, ap, ◌∙◌, subst, arith, rules}
use Rattle.cilk_program.specs.declared.ask.Callee.TheVariants.{Function}
use Rattle.cilk_frames.specs.Sight.{HasScope}
use Rattle.cilk_frames.specs.Cursor.{CursorView}
use Rattle.cilk_frames.specs.Following.{Stands}
use Rattle.cilk_serial.specs.Scoped.{Activation}
use Rattle.cilk_serial.proofs.Beginnings.{function_scoped}
use Rattle.cilk_serial.proofs.Homes.{result_fits, seen_scope}
use Rattle.cilk_serial.proofs.frames.function.Goals as goal

pub function-requires : goal.function-requires
function-requires c =
    let h = c.requires.may in
    let fr = h.1 in
    let may = h.4 in
    let sees = seen_scope h.0 c.args.frames.now fr h.2 h.3 in
    (fr.scope, subst (λ (list : List Activation). HasScope list c.args.frames.now.top fr.scope) (sym c.as_slice.ensures.value) sees, may.0, result_fits fr (length c.args.state.now.cells.items) c.args.call.now.result c.requires.cells may.1)

pub returns : goal.returns
returns c =
    let made = c.in_ok-frame.ensures in
    let cursor = c.in_ok-cursor.ensures in
    let call = c.args.call.now in
    let s = c.args.state.now in
    let base : c.len-base.result ≡ length s.cells.items = search rules in
    record {
      stands = λ p inputs behaves fit. subst (λ (x : CursorView). Stands c.args.code.now inputs p (Function call) x [] 0) (sym made.cursor) (cursor.stands p inputs behaves fit);
      owes = ap (λ (x : CursorView). x.owed) made.cursor ∙ cursor.owes;
      scoped = λ p fr parents m q seen may shows same.
          let sees = subst (λ (list : List Activation). HasScope list c.args.frames.now.top fr.scope) (sym c.as_slice.ensures.value) (seen_scope p c.args.frames.now fr parents seen) in
          let number : s.frames + 1 ≡ suc m.frames = omega (arith, shows.frames) in
          function_scoped p fr m (q ∷ parents) call c.in_ok-frame.frame (made.number ∙ number) (made.base ∙ base ∙ sym shows.cells) (made.given fr.scope sees) made.outer (made.result fr.scope sees) made.first made.creator may.2;
    }
