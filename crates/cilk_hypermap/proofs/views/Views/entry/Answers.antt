use Rattle.std.proofs.Common.{◌≡◌, Some, IfSome, subst}
use Rattle.std.specs.Map.{lookup}
use Rattle.cilk_monoid.specs.Ranges.{same_instance}
use Rattle.cilk_hypermap.proofs.Entries.{behind}
use Rattle.cilk_hypermap.proofs.views.Views.entry.Goals as goal

pub returns-in-Some-clause-value : goal.returns-in-Some-clause-value
returns-in-Some-clause-value g c =
    subst (λ es. IfSome c.get_index.result (λ p. lookup (same_instance p.0.now) es ≡ Some p.1.now)) (behind c.args.self.now.views c.in-Some.views c.deref.result.now c.in-Some.is c.deref.ensures) c.get_index.ensures.value
