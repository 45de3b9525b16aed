use Rattle.std.proofs.lemmas.Result.{IfOk-weaker}
use Rattle.cilk_checker.proofs.compare.first_race_of.Goals as goal

pub returns-in-Some : goal.returns-in-Some
returns-in-Some c = λ s value d columns creations right. (right, (rw c.in-Some.is at (c.in_ok-earlier.ensures s columns.spells columns.hebrews)))

pub returns-in-None : goal.returns-in-None
returns-in-None c =
    IfOk-weaker c.first_view_race.result _ _
    (λ found k s value d columns creations right.
    k s value d columns creations right
    (rw c.in-None.is at (c.in_ok-earlier.ensures s columns.spells columns.hebrews))) c.first_view_race.ensures
