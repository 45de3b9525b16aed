use Rattle.std.proofs.Common.{◌≡◌, ◌<◌, ap, refl, sym, ◌∙◌, length, remove, subst, arith}
use Rattle.cilk_scheduler.specs.OfferLists.{OfferList}
use Rattle.cilk_scheduler.specs.Slots.{standing}
use Rattle.cilk_scheduler.proofs.Slots.{total, sought}
use Rattle.cilk_scheduler.proofs.offer_list.Offers.remove.Goals as goal

pub find-at-requires : goal.find-at-requires
find-at-requires c =
    let all = total c.self.inside.slots.items c.self.inside.tally c.self.invariant in
    let is = ap (λ (o : OfferList). length o.items) c.self.view_is in
    let low = c.requires in
    omega (arith, all, is, low)

pub leave-requires-clause-stands : goal.leave-requires-clause-stands
leave-requires-clause-stands c =
    let s = sought c.self.inside.slots.items c.self.inside.tally c.args.place c.find-at.result c.self.invariant c.find-at.ensures.before c.find-at.ensures.above in
    let it = s.0 in
    (it.frame, (it, s.1, s.2, refl))

pub returns : goal.returns
returns c =
    let slots = c.self.inside.slots.items in
    let s = sought slots c.self.inside.tally c.args.place c.find-at.result c.self.invariant c.find-at.ensures.before c.find-at.ensures.above in
    c.leave.ensures.left ∙ ap (λ n. remove (standing slots) n) s.3 ∙ ap (λ (o : OfferList). remove o.items c.args.place) c.self.view_is
