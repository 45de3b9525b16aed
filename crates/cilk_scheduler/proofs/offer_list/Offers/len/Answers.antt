use Rattle.std.proofs.Common.{◌≡◌, length, ap, ◌∙◌}
use Rattle.cilk_scheduler.specs.OfferLists.{OfferList}
use Rattle.cilk_scheduler.proofs.Slots.{total}
use Rattle.cilk_scheduler.proofs.offer_list.Offers.len.Goals as goal

pub returns : goal.returns
returns c = c.total.ensures ∙ total c.self.inside.slots.items c.self.inside.tally c.self.invariant ∙ ap (λ (o : OfferList). length o.items) c.self.view_is
