use Rattle.std.proofs.Common.{None, refl, arith}
use Rattle.cilk_frames.specs.declared.activation.Activation.{Activation}
use Rattle.cilk_frames.proofs.Links.{sees_turns}
use Rattle.cilk_frames.proofs.beginnings.turns.Goals as goal
use Rattle.cilk_frames.proofs.beginnings.turns.Goals.{then-part-eq0, else-part-eq0}

pub returns-clause-sees : goal.returns-clause-sees
returns-clause-sees g c = λ p scope more at sees.
    let made : Activation g.row.C.Denot = record { cursor = c.args.cursor; number = c.args.number; base = c.args.base; first = 1; given = c.new.result; outer = c.if-part-eq0.outer; result = None; creator = None } in
    let l = c.args.part.now in
    let top = c.args.top.now in
    elim c.if-part-eq0.branch [
      | then-part-eq0 w ↦ sees_turns p more made top c.args.number c.args.base c.args.here l scope refl refl refl c.new.ensures.items at sees c.requires (λ zero. w.outer-is) (λ one. absurd (omega (arith, one, w.if-part-eq0.true)))
      | else-part-eq0 w ↦ sees_turns p more made top c.args.number c.args.base c.args.here l scope refl refl refl c.new.ensures.items at sees c.requires (λ zero. absurd (w.if-part-eq0.false zero)) (λ one. w.outer-is)
    ]
