use Rattle.std.proofs.Common.{◌≡◌, Some, ap, ◌∙◌}
use Rattle.std.specs.Option.{is_some}
use Rattle.cilk_tree.proofs.AlongPlans.{same_resume}
use Rattle.cilk_thread_tests.proofs.steps.yard_resumes.Goals as goal

pub returns : goal.returns
returns c k is =
    let found : c.resumed_by.result ≡ Some k = (c.resumed_by.ensures k).1 ((same_resume c.args.plan.now c.args.yard.now.event_order c.requires c.args.at k).0 is) in
    c.is_some.ensures ∙ ap is_some found
