use Rattle.std.proofs.Common.{◌≡◌, ◌==◌, if◌then◌else◌, ℕ, suc, ◌+◌, [], length, reverse, Some, sym, ap, ◌∙◌, subst, arith, rules}
use Rattle.std.proofs.lemmas.List.{length-reverse}
use Rattle.cilk_program.specs.declared.ask.Callee.TheVariants.{Loop}
use Rattle.cilk_frames.specs.Cursor.{CursorView}
use Rattle.cilk_frames.specs.Following.{Stands}
use Rattle.cilk_serial.proofs.Beginnings.{turns_scoped}
use Rattle.cilk_serial.proofs.frames.turns.Goals as goal

pub returns : goal.returns
returns c =
    let made = c.turns-frame.ensures in
    let cursor = c.in_ok-cursor.ensures in
    let l = c.args.part.now in
    let s = c.args.state.now in
    let frames = c.args.frames.now in
    let top = frames.top in
    let base : c.len-base.result ≡ length s.cells.items = search rules in
    let here : c.depth-here.result ≡ length (reverse frames.below.items) = c.depth-here.ensures ∙ sym (length-reverse frames.below.items) in
    let outer = λ (n : ℕ). if n == 0 then Some c.depth-here.result else top.outer in
    record {
      stands = λ p inputs behaves fit. subst (λ (x : CursorView). Stands c.args.code.now inputs p (Loop l) x [] 0) (sym made.cursor) (cursor.stands p inputs behaves fit);
      owes = ap (λ (x : CursorView). x.owed) made.cursor ∙ cursor.owes;
      scoped = λ p fr parents m q seen may shows same.
          let number : s.frames + 1 ≡ suc m.frames = omega (arith, shows.frames) in
          turns_scoped p frames fr parents m q l c.turns-frame.result seen same may (λ zero. made.outer ∙ ap outer zero ∙ ap Some here) (λ one. made.outer ∙ ap outer one) (made.number ∙ number) (made.base ∙ base ∙ sym shows.cells) made.given made.result made.first made.creator;
    }
