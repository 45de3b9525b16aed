use Rattle.std.proofs.Common.{List, [], ◌∷◌, ◌++◌, ◌∙◌, sym, ap, arith}
use Rattle.cilk_trace.specs.declared.positions.Positions.{Positions}
use Rattle.cilk_trace.proofs.Grains.{all_doubled, doubled_none, doubled_step}
use Rattle.cilk_trace.proofs.histories.Page.halve.Goals as goal

pub each-init : goal.each-init
each-init c = c.in_ok-halves.ensures.items ∙ doubled_none

pub each-preserved : goal.each-preserved
each-preserved c =
    let items = c.args.self.now.grains.items in
    let kept = c.index-kept.result.now in
    let add = λ (xs : List Positions). xs ++ kept ∷ [] in
    c.in_ok-push-2.ensures.items
    ∙ (ap add (c.in_ok-push.ensures.items ∙ ap add c.each.invariant)
    ∙ sym (doubled_step items c.each.place kept (omega (arith, c.args.self.now.grains.ok.0)) c.index-kept.ensures))

pub returns-clause-same : goal.returns-clause-same
returns-clause-same c = λ x.
    all_doubled c.args.self.now.grains.items c.each.halves.items c.each.place c.args.self.now.shift x c.requires
    (omega (arith, c.args.self.now.grains.ok.0)) c.each.invariant
