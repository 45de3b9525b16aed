use Rattle.std.proofs.Common.{◌≡◌, ℕ, Some, sym, ap, ◌∙◌}
use Rattle.cilk_tree.specs.declared.event_order.EventOrder.{EventOrder}
use Rattle.cilk_tree.specs.Word.{event, resume, word_step}
use Rattle.cilk_tree.specs.Kinds.{kind_of_event}
use Rattle.cilk_tree.specs.declared.kind.Kind.TheVariants.{Resume, Spawn}
use Rattle.cilk_tree.proofs.Resuming.{not_sync, resumed_here}
use Rattle.cilk_tree.proofs.plan.Plan.resumed_by.Goals as goal

pub returns-in-Some-Spawn : goal.returns-in-Some-Spawn
returns-in-Some-Spawn c =
    let s : EventOrder = c.args.self.now in
    let at : ℕ = c.args.at in
    let k : ℕ = c.in_ok-spawned.spawned in
    let kind : kind_of_event (event s at) ≡ Some (Resume c.in-Some-Resume.field-0-0) = sym c.kind_at.ensures ∙ c.in-Some-Resume.is ∙ ap Some c.in-Some-Resume.field-0-is in
    let spawned : kind_of_event (event s k) ≡ Some (Spawn c.in-Some-Spawn.field-0-0) = sym c.kind_at-2.ensures ∙ c.in-Some-Spawn.is ∙ ap Some c.in-Some-Spawn.field-0-is in
    let here : word_step s at ≡ resume k = resumed_here s at k _ _ (c.laws.ensures.ahead at (λ e. not_sync (event s at) _ kind e)) kind (sym c.earliest_before.ensures ∙ c.in_ok-spawned.was) spawned in
    λ other. (
      λ e. (let same : Some k ≡ Some other = e in let d : k ≡ other = cc same in here ∙ ap (λ (x : ℕ). resume x) d),
      λ w. (let same : resume k ≡ resume other = sym here ∙ w in let d : k ≡ other = cc same in ap Some d),
    )
