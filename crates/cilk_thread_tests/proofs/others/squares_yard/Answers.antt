use Rattle.cilk_thread_tests.proofs.OtherRuns.{squares_along}
use Rattle.cilk_thread_tests.proofs.others.squares_yard.Goals as goal

pub new-requires : goal.new-requires
new-requires c =
    let all = squares_along c.args.plan.now c.args.input.now c.requires.plan c.requires.input c.laws.ensures.values in (all.0, (all.1, all.2))
