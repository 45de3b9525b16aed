use Rattle.std.proofs.Common.{ap, arith}
use Rattle.cilk_workers.specs.declared.rack.Offers.{Offers}
use Rattle.cilk_workers.proofs.Moves.{takes}
use Rattle.cilk_workers.proofs.rack.Picker.oldest.Goals as goal

pub steal_as-requires-clause-takes : goal.steal_as-requires-clause-takes
steal_as-requires-clause-takes g c = takes g.N.Naming.replay g.N.Naming.taken c.requires _ c.args.self.now.guest _

pub returns-in-Success-clause-rule : goal.returns-in-Success-clause-rule
returns-in-Success-clause-rule g c =
    (c.in-Success.ensures.rule.1 0 c.in-Success.task (omega arith), ap (λ (v : Offers). v.waiting) c.in-Success.ensures.rule.0)
