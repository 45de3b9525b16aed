use Rattle.std.proofs.Common.{◌≡◌, Some, slice_get, remove, ap, refl, sym, ◌∙◌, subst}
use Rattle.cilk_scheduler.specs.OfferLists.{OfferList}
use Rattle.cilk_scheduler.specs.Slots.{StandsIn, ahead, standing}
use Rattle.cilk_scheduler.proofs.Slots.{at_standing, in_slot}
use Rattle.cilk_scheduler.proofs.offer_list.Offers.withdraw.Goals as goal

pub leave-requires-clause-stands : goal.leave-requires-clause-stands
leave-requires-clause-stands c = (c.args.frame, subst (λ l. StandsIn l c.in-Some.at c.args.frame) c.deref.ensures.value c.in-Some.ensures)

pub returns-in-Some : goal.returns-in-Some
returns-in-Some c =
    let slots = c.self.inside.slots.items in
    let s = subst (λ l. StandsIn l c.in-Some.at c.args.frame) c.deref.ensures.value c.in-Some.ensures in
    let items = ap (λ (o : OfferList). o.items) c.self.view_is in (
      ahead slots c.in-Some.at,
      ap (λ l. slice_get l (ahead slots c.in-Some.at)) (sym items) ∙ at_standing slots c.in-Some.at s.0 s.1 s.2 ∙ ap Some s.3,
      c.leave.ensures.left ∙ ap (λ l. remove l (ahead slots c.in-Some.at)) items,
    )

pub returns-in-None : goal.returns-in-None
returns-in-None c =
    let slots = c.self.inside.slots.items in
    let items = ap (λ (o : OfferList). o.items) c.self.view_is in (
      λ at h. (let g = in_slot slots at c.args.frame (ap (λ l. slice_get l at) items ∙ h) in c.in-None.ensures g.0 (subst (λ l. StandsIn l g.0 c.args.frame) (sym c.deref.ensures.value) g.1)),
      refl,
    )
