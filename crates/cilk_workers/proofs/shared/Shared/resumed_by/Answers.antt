use Rattle.std.proofs.Common.{◌≡◌, ◌↔◌, Some, subst}
use Rattle.cilk_tree.proofs.AlongPlans.{same_resume}
use Rattle.cilk_tree.specs.Word.{resume, word_step}
use Rattle.cilk_workers.specs.Shared.{SharedValue, event_order_in}
use Rattle.cilk_workers.proofs.shared.Shared.resumed_by.Goals as goal

pub returns : goal.returns
returns c = λ k.
    let r = c.resumed_by.ensures k in
    let i = c.self.inside in
    let m = same_resume i.plan.now i.yard.now.event_order c.self.invariant.0 c.args.at k in
    subst (λ (y : SharedValue). (c.resumed_by.result ≡ Some k) ↔ (word_step (event_order_in y) c.args.at ≡ resume k)) c.self.view_is (λ q. m.1 (r.0 q), λ q. r.1 (m.0 q))
