use Rattle.std.proofs.Common.{◌≡◌, ℕ, List, length, refl, subst}
use Rattle.cilk_tree.specs.Columns.{AreBlockEnds}
use Rattle.cilk_workers.specs.Shared.{SharedValue, event_order_in}
use Rattle.cilk_workers.proofs.shared.Shared.blocks.Goals as goal

pub returns : goal.returns
returns c =
    let i = c.self.inside in
    subst (λ (y : SharedValue). (syncs : List ℕ) × AreBlockEnds (event_order_in y) syncs × (length i.columns.syncs.now ≡ length syncs)) c.self.view_is (i.columns.syncs.now, c.self.invariant.5.0, refl)
