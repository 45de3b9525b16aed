use Rattle.std.proofs.Common.{◌≡◌, Some, None, IsSome, is_some, ◌≤◌, inl, inr, sym, ap, subst, refl, rules, ◌∙◌, true≢false}
use Rattle.std.specs.Option.{option_map, unwrap_or}
use Rattle.std.specs.Map.{lookup}
use Rattle.indexmap.specs.IndexMap.{get}
use Rattle.cilk_types.specs.declared.event.Instance.{Instance}
use Rattle.cilk_monoid.specs.Ranges.{same_instance}
use Rattle.cilk_hypermap.specs.Views.{entries, found}
use Rattle.cilk_hypermap.proofs.Entries.{behind}
use Rattle.cilk_hypermap.proofs.Writes.{either, based_on, same_values, more_room, fills_in}
use Rattle.cilk_hypermap.proofs.views.Views.reserve.Goals as goal

pub returns-in-Some-get_mut-clause-views : goal.returns-in-Some-get_mut-clause-views
returns-in-Some-get_mut-clause-views g c j =
    let same : c.deref_mut.result.now.entries ≡ entries c.args.self.now = behind c.make.new.self.views c.in-Some.views c.deref_mut.result.now c.in-Some.is c.deref_mut.ensures.value ∙ c.make.ensures.kept in
    let i = c.args.instance in
    let v = c.in-Some-get_mut.view.now in
    let w = c.room.new.view in
    let at : get same_instance c.deref_mut.result.now i ≡ Some v = sym c.in-Some-get_mut.ensures.value in
    let held = c.get_mut.follows.holds w in
    let write = based_on i w (c.get_mut.follows.lender w).entries same (held.3 (subst IsSome (sym at) refl)).0 in
    let was : found c.args.self.now i ≡ Some v = ap (lookup (same_instance i)) (sym same) ∙ at in
    let after = λ (j : Instance). lookup (same_instance j) (c.get_mut.follows.lender w).entries in
    inl (same_values (found c.args.self.now) after i w write g.M.Monoid.value v was c.room.ensures.value j)

pub returns-in-Some-get_mut-clause-kept : goal.returns-in-Some-get_mut-clause-kept
returns-in-Some-get_mut-clause-kept g c =
    let same : c.deref_mut.result.now.entries ≡ entries c.args.self.now = behind c.make.new.self.views c.in-Some.views c.deref_mut.result.now c.in-Some.is c.deref_mut.ensures.value ∙ c.make.ensures.kept in
    let i = c.args.instance in
    let v = c.in-Some-get_mut.view.now in
    let w = c.room.new.view in
    let at : get same_instance c.deref_mut.result.now i ≡ Some v = sym c.in-Some-get_mut.ensures.value in
    let held = c.get_mut.follows.holds w in
    let write = based_on i w (c.get_mut.follows.lender w).entries same (held.3 (subst IsSome (sym at) refl)).0 in
    let was : found c.args.self.now i ≡ Some v = ap (lookup (same_instance i)) (sym same) ∙ at in
    let after = λ (j : Instance). lookup (same_instance j) (c.get_mut.follows.lender w).entries in
    more_room (found c.args.self.now) after i w write g.M.Monoid.reserved v was c.room.ensures.kept

pub returns-in-Some-get_mut-clause-succeeds : goal.returns-in-Some-get_mut-clause-succeeds
returns-in-Some-get_mut-clause-succeeds g c some fits =
    let same : c.deref_mut.result.now.entries ≡ entries c.args.self.now = behind c.make.new.self.views c.in-Some.views c.deref_mut.result.now c.in-Some.is c.deref_mut.ensures.value ∙ c.make.ensures.kept in
    let i = c.args.instance in
    let v = c.in-Some-get_mut.view.now in
    let at : get same_instance c.deref_mut.result.now i ≡ Some v = sym c.in-Some-get_mut.ensures.value in
    let was : found c.args.self.now i ≡ Some v = ap (lookup (same_instance i)) (sym same) ∙ at in
    c.room.ensures.succeeds (subst (λ o. c.args.size ≤ unwrap_or (option_map g.M.Monoid.reserved o) 0) was fits)

pub returns-in_err-room-clause-succeeds : goal.returns-in_err-room-clause-succeeds
returns-in_err-room-clause-succeeds g c some fits =
    let same : c.deref_mut.result.now.entries ≡ entries c.args.self.now = behind c.make.new.self.views c.in-Some.views c.deref_mut.result.now c.in-Some.is c.deref_mut.ensures.value ∙ c.make.ensures.kept in
    let i = c.args.instance in
    let none : get same_instance c.deref_mut.result.now i ≡ None = search rules in
    let was : found c.args.self.now i ≡ None = ap (lookup (same_instance i)) (sym same) ∙ none in
    absurd (true≢false (sym some ∙ ap (λ o. is_some (option_map g.M.Monoid.value o)) was))

pub returns-clause-views : goal.returns-clause-views
returns-clause-views g c j =
    let same : c.deref_mut.result.now.entries ≡ entries c.args.self.now = behind c.make.new.self.views c.in-Some.views c.deref_mut.result.now c.in-Some.is c.deref_mut.ensures.value ∙ c.make.ensures.kept in
    let i = c.args.instance in
    let none : get same_instance c.deref_mut.result.now i ≡ None = search rules in
    let was : found c.args.self.now i ≡ None = ap (lookup (same_instance i)) (sym same) ∙ none in
    let w = c.room-2.new.view in
    let value = g.M.Monoid.value in
    let base : (c.get_mut.follows.lender-at-none).entries ≡ entries c.args.self.now = ap (λ h. h.entries) c.get_mut.follows.holds-at-none ∙ same in
    elim (either c.put.result c.put.ensures.view c.put.ensures.err) [
      | inl view ↦ fills_in (found c.args.self.now) (found c.put.new.self) i w (based_on i w (entries c.put.new.self) base view) value g.M.Monoid.structure.unit was (c.room-2.ensures.value ∙ c.unit-view.ensures) j
      | inr kept ↦ inl (ap (option_map value) (kept j ∙ ap (lookup (same_instance j)) base))
    ]

pub returns-clause-succeeds : goal.returns-clause-succeeds
returns-clause-succeeds g c some fits =
    let same : c.deref_mut.result.now.entries ≡ entries c.args.self.now = behind c.make.new.self.views c.in-Some.views c.deref_mut.result.now c.in-Some.is c.deref_mut.ensures.value ∙ c.make.ensures.kept in
    let i = c.args.instance in
    let none : get same_instance c.deref_mut.result.now i ≡ None = search rules in
    let was : found c.args.self.now i ≡ None = ap (lookup (same_instance i)) (sym same) ∙ none in
    absurd (true≢false (sym some ∙ ap (λ o. is_some (option_map g.M.Monoid.value o)) was))
