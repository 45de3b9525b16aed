use Rattle.std.proofs.Common.{◌≡◌, Some, IsSome, ◌≤◌, ◌+◌, sym, ap, subst, refl, ◌∙◌}
use Rattle.std.specs.Option.{option_map}
use Rattle.std.specs.Map.{lookup}
use Rattle.indexmap.specs.IndexMap.{get}
use Rattle.cilk_types.specs.declared.event.Instance.{Instance}
use Rattle.cilk_monoid.specs.Ranges.{same_instance}
use Rattle.cilk_hypermap.specs.Views.{entries, found, or_unit}
use Rattle.cilk_hypermap.proofs.Entries.{behind}
use Rattle.cilk_hypermap.proofs.Writes.{based_on, changes, less_room}
use Rattle.cilk_hypermap.proofs.views.Views.multiply.Goals as goal

pub returns-clause-views : goal.returns-clause-views
returns-clause-views g c =
    let i = c.args.instance in
    let w = c.in-Ok.product in
    let same : c.deref_mut.result.now.entries ≡ entries c.args.self.now = behind c.args.self.now.views c.in-Some.views c.deref_mut.result.now c.in-Some.is c.deref_mut.ensures.value in
    let v = c.unwrap-slot.result.now in
    let at : get same_instance c.deref_mut.result.now i ≡ Some v = sym (rw c.unwrap-slot.ensures at c.get_mut.ensures.value) in
    let held = c.get_mut.follows.holds w in
    let write = based_on i w (c.get_mut.follows.lender w).entries same (held.3 (subst IsSome (sym at) refl)).0 in
    let was : found c.args.self.now i ≡ Some v = ap (lookup (same_instance i)) (sym same) ∙ at in
    let after = λ (j : Instance). lookup (same_instance j) (c.get_mut.follows.lender w).entries in
    let m = g.M.Monoid in
    let right = m.value c.args.right in
    changes (found c.args.self.now) after i w write m.value (m.structure.combine (or_unit m.structure (option_map m.value (found c.args.self.now i))) right)
    (c.in-Ok.ensures.ok ∙ ap (λ x. m.structure.combine (m.value x) right) c.replace-left.ensures.value ∙ ap (λ o. m.structure.combine (or_unit m.structure (option_map m.value o)) right) (sym was))

pub returns-clause-room : goal.returns-clause-room
returns-clause-room g c =
    let i = c.args.instance in
    let w = c.in-Ok.product in
    let same : c.deref_mut.result.now.entries ≡ entries c.args.self.now = behind c.args.self.now.views c.in-Some.views c.deref_mut.result.now c.in-Some.is c.deref_mut.ensures.value in
    let v = c.unwrap-slot.result.now in
    let at : get same_instance c.deref_mut.result.now i ≡ Some v = sym (rw c.unwrap-slot.ensures at c.get_mut.ensures.value) in
    let held = c.get_mut.follows.holds w in
    let write = based_on i w (c.get_mut.follows.lender w).entries same (held.3 (subst IsSome (sym at) refl)).0 in
    let was : found c.args.self.now i ≡ Some v = ap (lookup (same_instance i)) (sym same) ∙ at in
    let after = λ (j : Instance). lookup (same_instance j) (c.get_mut.follows.lender w).entries in
    let m = g.M.Monoid in
    let size = m.structure.size (m.value c.args.right) in
    less_room (found c.args.self.now) after i w write m.reserved v size was (subst (λ x. m.reserved x ≤ m.reserved w + size) c.replace-left.ensures.value c.in-Ok.ensures.room)
