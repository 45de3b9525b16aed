-- Each branch changes the views of its own kind.
use Rattle.std.proofs.Common.{refl, rules}
use Rattle.std.proofs.lemmas.Result.{on_ok_weaker}
use Rattle.cilk_hypermap.proofs.hypermap.Hypermap.value.Goals as goal

pub returns-in-Add-clause-ok : goal.returns-in-Add-clause-ok
returns-in-Add-clause-ok c = rw c.in-Add.is (on_ok_weaker c.value.result (λ h. (h, (λ j. refl), (λ j. refl), (λ j. refl), (λ j. refl))) c.value.ensures.ok)

pub returns-in-Least-clause-ok : goal.returns-in-Least-clause-ok
returns-in-Least-clause-ok c = rw c.in-Least.is (on_ok_weaker c.value-in-Least.result (λ h. ((λ j. refl), h, (λ j. refl), (λ j. refl), (λ j. refl))) c.value-in-Least.ensures.ok)

pub returns-in-Greatest-clause-ok : goal.returns-in-Greatest-clause-ok
returns-in-Greatest-clause-ok c = rw c.in-Greatest.is (on_ok_weaker c.value-in-Greatest.result (λ h. ((λ j. refl), (λ j. refl), h, (λ j. refl), (λ j. refl))) c.value-in-Greatest.ensures.ok)

pub returns-in-Append-clause-ok : goal.returns-in-Append-clause-ok
returns-in-Append-clause-ok c = rw c.in-Append.is (on_ok_weaker c.value-in-Append.result (λ h. ((λ j. refl), (λ j. refl), (λ j. refl), h, (λ j. refl))) c.value-in-Append.ensures.ok)

pub returns-in-Affine-clause-ok : goal.returns-in-Affine-clause-ok
returns-in-Affine-clause-ok c = rw c.in-Affine.is (on_ok_weaker c.value-in-Affine.result (λ h. ((λ j. refl), (λ j. refl), (λ j. refl), (λ j. refl), h)) c.value-in-Affine.ensures.ok)

pub returns-in-Greatest-clause-number : goal.returns-in-Greatest-clause-number
returns-in-Greatest-clause-number c = search rules
