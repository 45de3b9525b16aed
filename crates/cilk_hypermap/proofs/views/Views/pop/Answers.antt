use Rattle.std.proofs.Common.{◌≡◌, IfSome, None, Some, cond, subst}
use Rattle.std.specs.Map.{lookup}
use Rattle.cilk_types.specs.declared.event.Instance.{Instance}
use Rattle.cilk_monoid.specs.Ranges.{same_instance}
use Rattle.cilk_hypermap.proofs.Entries.{behind, popped, if_some}
use Rattle.cilk_hypermap.proofs.views.Views.pop.Goals as goal

pub returns-in-Some-clause-view : goal.returns-in-Some-clause-view
returns-in-Some-clause-view g c =
    subst (λ es. IfSome c.pop.result (λ p. lookup (same_instance p.0) es ≡ Some p.1)) (behind c.args.self.now.views c.in-Some.views c.deref_mut.result.now c.in-Some.is c.deref_mut.ensures.value)
    (popped c.pop.result c.deref_mut.result.now.entries c.pop.new.self.entries c.pop.ensures.entries (if_some c.pop.result (λ p u. u.0) c.pop.ensures.updates))

pub returns-in-Some-clause-rest : goal.returns-in-Some-clause-rest
returns-in-Some-clause-rest g c =
    subst (λ es. IfSome c.pop.result (λ p. (j : Instance) → lookup (same_instance j) c.pop.new.self.entries ≡ cond (same_instance p.0 j) None (lookup (same_instance j) es)))
    (behind c.args.self.now.views c.in-Some.views c.deref_mut.result.now c.in-Some.is c.deref_mut.ensures.value) (if_some c.pop.result (λ p u. u.0) c.pop.ensures.updates)
