use Rattle.std.proofs.Common.{⊎_elim}
use Rattle.cilk_join.proofs.ByKey.{keys_increase}
use Rattle.cilk_join.proofs.Histories.{holds}
use Rattle.cilk_join.proofs.laws.awaited_keys_are_stolen.Goals as goal

pub returns-clause-ascend : goal.returns-clause-ascend
returns-clause-ascend c = λ steps h. let state = holds steps h in keys_increase _ state.rises

pub returns-clause-stolen : goal.returns-clause-stolen
returns-clause-stolen c = λ steps h k.
    let state = holds steps h in
    (state.awaited k, λ s out. ⊎_elim (λ a. a) (λ b. absurd (out b)) (state.there k s))
