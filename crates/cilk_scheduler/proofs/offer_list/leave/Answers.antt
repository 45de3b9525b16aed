use Rattle.std.proofs.Common.{◌≡◌, ◌<◌, ◌-◌, ◌∙◌, set, get_or, length, remove, sym, ap, subst, arith}
use Rattle.cilk_scheduler.specs.Slots.{IsTallied, standing, ahead}
use Rattle.cilk_scheduler.specs.declared.offer_list.Slot.{Slot}
use Rattle.cilk_scheduler.proofs.Slots.{gone, left, lowered, same_slot}
use Rattle.cilk_scheduler.proofs.offer_list.leave.Goals as goal

pub returns-clause-tallied : goal.returns-clause-tallied
returns-clause-tallied c =
    let slots = c.args.slots.now.items in
    let at = c.args.at in
    let s = c.requires.stands.1 in
    let same = same_slot slots at c.index_mut.result.now s.0 c.index_mut.ensures.value s.1 in
    let less = lowered slots c.args.tally.now at s.0 c.requires.tallied s.1 s.2 in
    c.trim.ensures.tallied _ (subst (λ l. IsTallied (set slots at (gone c.index_mut.result.now)) l) (sym c.lower.ensures) (subst (λ z. IsTallied (set slots at (gone z)) (set c.args.tally.now at (get_or c.args.tally.now at 0 - 1))) (sym same) less))

pub returns-clause-left : goal.returns-clause-left
returns-clause-left c =
    let slots = c.args.slots.now.items in
    let at = c.args.at in
    let s = c.requires.stands.1 in
    let same = same_slot slots at c.index_mut.result.now s.0 c.index_mut.ensures.value s.1 in
    c.trim.ensures.standing ∙ ap (λ z. standing (set slots at (gone z))) same ∙ left slots at s.0 s.1 s.2
