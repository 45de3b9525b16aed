use Rattle.cilk_thread_tests.proofs.OtherRuns.{turns_along}
use Rattle.cilk_thread_tests.proofs.others.turns_yard.Goals as goal

pub new-requires : goal.new-requires
new-requires c =
    let all = turns_along c.args.plan.now c.args.input.now c.requires.plan c.requires.input c.laws.ensures.values in (all.0, (all.1, all.2))
