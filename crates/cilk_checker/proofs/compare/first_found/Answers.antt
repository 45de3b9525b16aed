use Rattle.std.proofs.lemmas.Result.{IfOk-weaker}
use Rattle.cilk_checker.proofs.compare.first_found.Goals as goal

pub returns-in-Some : goal.returns-in-Some
returns-in-Some c = λ s d columns creations h. c.in-Some.ensures s d columns h

pub returns : goal.returns
returns c =
    IfOk-weaker c.first_race_of.result _ _
    (λ found k s d columns creations h.
    k s c.args.outcome.now.result d columns creations (c.in_default.ensures s d columns h)) c.first_race_of.ensures
