use Rattle.std.proofs.Common.{◌≡◌, ◌∙◌, refl}
use Rattle.std.specs.Map.{lookup}
use Rattle.cilk_monoid.specs.Ranges.{same_instance}
use Rattle.cilk_hypermap.specs.Views.{entries, found}
use Rattle.cilk_hypermap.proofs.Entries.{behind}
use Rattle.cilk_hypermap.proofs.Writes.{based_on, changes}
use Rattle.cilk_hypermap.proofs.views.Views.put.Goals as goal

pub returns-clause-view : goal.returns-clause-view
returns-clause-view g c =
    let same : c.deref_mut.result.now.entries ≡ entries c.args.self.now = behind c.make.new.self.views c.in-Some.views c.deref_mut.result.now c.in-Some.is c.deref_mut.ensures.value ∙ c.make.ensures.kept in
    based_on c.args.instance c.args.view c.insert.new.self.entries same c.in_ok-insert.ensures.updates.0

pub returns-clause-ok : goal.returns-clause-ok
returns-clause-ok g c =
    let value = g.M.Monoid.value in
    changes (found c.args.self.now) (λ j. lookup (same_instance j) c.insert.new.self.entries) c.args.instance c.args.view (returns-clause-view g c) value (value c.args.view) refl
