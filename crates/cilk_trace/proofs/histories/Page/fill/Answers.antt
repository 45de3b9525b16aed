use Rattle.std.proofs.Common.{◌/◌, ◌^◌, arith}
use Rattle.cilk_trace.proofs.Pages.{filled}
use Rattle.cilk_trace.proofs.histories.Page.fill.Goals as goal

pub returns-clause-same : goal.returns-clause-same
returns-clause-same c = λ x. filled _ _ _ _ (omega arith) c.in_ok-resize.ensures.items (x / 2 ^ c.args.self.now.shift)
