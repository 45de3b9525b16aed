use Rattle.std.proofs.Common.{◌≡◌, ◌↔◌, sym, ◌∙◌, subst}
use Rattle.cilk_tree.specs.PlanStrands.{BeginsStrand}
use Rattle.cilk_workers.specs.Shared.{SharedValue, event_order_in}
use Rattle.cilk_workers.proofs.shared.Shared.strand_at.Goals as goal

pub returns : goal.returns
returns c = λ n some.
    let h = c.self.invariant.5.2 c.args.at n some in
    let is = c.strand_in.ensures in
    subst (λ (y : SharedValue). (c.strand_in.result ≡ n) ↔ (let s = event_order_in y in BeginsStrand s.events n c.args.at)) c.self.view_is
    (λ e. h.0 (sym is ∙ e), λ b. is ∙ h.1 b)
