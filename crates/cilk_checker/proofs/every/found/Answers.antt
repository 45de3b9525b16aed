use Rattle.std.proofs.Common.{subst}
use Rattle.cilk_checker.specs.Runs.{EndsWith}
use Rattle.cilk_checker.specs.declared.ending.End.{End}
use Rattle.cilk_checker.proofs.OnEvery.{judged_is}
use Rattle.cilk_checker.proofs.every.found.Goals as goal

pub returns-in_ok-race-in-Left : goal.returns-in_ok-race-in-Left
returns-in_ok-race-in-Left c = λ p inputs ends.
    let left = subst (λ (e : End). EndsWith p inputs e c.args.trace.now) c.in-Left.is ends in
    (judged_is p inputs c.args.trace.now c.in-Left.outcome c.in_ok-race-in-Left.race c.judged.result left.0 c.in_ok-race-in-Left.ensures c.judged.ensures, left.2)

pub returns-in-Stopped : goal.returns-in-Stopped
returns-in-Stopped c = λ p inputs ends.
    let stopped = subst (λ (e : End). EndsWith p inputs e c.args.trace.now) c.in-Stopped.is ends in
    ((stopped.0, c.position_after-at.ensures), stopped.1)
