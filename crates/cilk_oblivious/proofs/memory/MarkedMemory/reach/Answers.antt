use Rattle.std.proofs.Common.{◌≡◌, ◌∙◌, false, ap}
use Rattle.std.specs.Prelude.{slice_index_or}
use Rattle.cilk_oblivious.proofs.Marked.{one_longer}
use Rattle.cilk_oblivious.proofs.memory.MarkedMemory.reach.Goals as goal

pub grow-preserved : goal.grow-preserved
grow-preserved c = (λ n. ap (λ l. slice_index_or l n false) c.in_ok-push.ensures.items ∙ one_longer c.grow.self.cells.items n ∙ c.grow.invariant.0 n, c.grow.invariant.1)
