use Rattle.std.proofs.Common.{◌≡◌, eqb-true, subst}
use Rattle.cilk_tree.specs.Word.{resume, word_step}
use Rattle.cilk_workers.specs.Shared.{event_order_in}
use Rattle.cilk_worker_tests.proofs.boxes.resumes_at.Goals as goal

pub returns-in-Some : goal.returns-in-Some
returns-in-Some c = λ told.
    let same : c.in-Some.child ≡ c.args.key = eqb-true c.in-Some.child c.args.key told in
    subst (λ k. word_step (event_order_in c.args.shared.now) c.args.at ≡ resume k) same ((c.resumed_by.ensures c.in-Some.child).0 c.in-Some.is)
