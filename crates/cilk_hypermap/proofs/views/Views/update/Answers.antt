use Rattle.std.proofs.Common.{◌≡◌, Some, IsSome, OnOk, sym, ap, subst, refl, rules, ◌∙◌}
use Rattle.std.specs.Option.{option_map}
use Rattle.std.specs.Map.{lookup}
use Rattle.indexmap.specs.IndexMap.{get}
use Rattle.cilk_types.specs.declared.event.Instance.{Instance}
use Rattle.cilk_monoid.specs.Ranges.{same_instance}
use Rattle.cilk_hypermap.specs.Views.{entries, found, or_unit}
use Rattle.cilk_hypermap.proofs.Entries.{behind}
use Rattle.cilk_hypermap.proofs.Writes.{on_ok, on_err, based_on, changes, same_values}
use Rattle.cilk_hypermap.proofs.views.Views.update.Goals as goal

pub returns-in-Some-get_mut-clause-ok : goal.returns-in-Some-get_mut-clause-ok
returns-in-Some-get_mut-clause-ok g c =
    let same : c.deref_mut.result.now.entries ≡ entries c.args.self.now = behind c.make.new.self.views c.in-Some.views c.deref_mut.result.now c.in-Some.is c.deref_mut.ensures.value ∙ c.make.ensures.kept in
    let i = c.args.instance in
    let v = c.in-Some-get_mut.view.now in
    let w = c.update.new.view in
    let at : get same_instance c.deref_mut.result.now i ≡ Some v = sym c.in-Some-get_mut.ensures.value in
    let held = c.get_mut.follows.holds w in
    let write = based_on i w (c.get_mut.follows.lender w).entries same (held.3 (subst IsSome (sym at) refl)).0 in
    let was : found c.args.self.now i ≡ Some v = ap (lookup (same_instance i)) (sym same) ∙ at in
    let after = λ (j : Instance). lookup (same_instance j) (c.get_mut.follows.lender w).entries in
    let m = g.M.Monoid in
    let ok : OnOk c.update.result (m.value w ≡ m.structure.combine (m.value v) (m.structure.single c.args.x)) = search rules in
    on_ok c.update.result
    (λ (e : m.value w ≡ m.structure.combine (m.value v) (m.structure.single c.args.x)). changes (found c.args.self.now) after i w write m.value (m.structure.combine (or_unit m.structure (option_map m.value (found c.args.self.now i))) (m.structure.single c.args.x))
    (e ∙ ap (λ o. m.structure.combine (or_unit m.structure (option_map m.value o)) (m.structure.single c.args.x)) (sym was)))
    ok

pub returns-in-Some-get_mut-clause-err : goal.returns-in-Some-get_mut-clause-err
returns-in-Some-get_mut-clause-err g c =
    let same : c.deref_mut.result.now.entries ≡ entries c.args.self.now = behind c.make.new.self.views c.in-Some.views c.deref_mut.result.now c.in-Some.is c.deref_mut.ensures.value ∙ c.make.ensures.kept in
    let i = c.args.instance in
    let v = c.in-Some-get_mut.view.now in
    let w = c.update.new.view in
    let at : get same_instance c.deref_mut.result.now i ≡ Some v = sym c.in-Some-get_mut.ensures.value in
    let held = c.get_mut.follows.holds w in
    let write = based_on i w (c.get_mut.follows.lender w).entries same (held.3 (subst IsSome (sym at) refl)).0 in
    let was : found c.args.self.now i ≡ Some v = ap (lookup (same_instance i)) (sym same) ∙ at in
    let after = λ (j : Instance). lookup (same_instance j) (c.get_mut.follows.lender w).entries in
    on_err c.update.result (λ same. same_values (found c.args.self.now) after i w write g.M.Monoid.value v was same) c.update.ensures.err
