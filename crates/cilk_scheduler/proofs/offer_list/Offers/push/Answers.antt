use Rattle.std.proofs.Common.{◌≡◌, ◌<◌, ◌≤◌, ap, sym, refl, ◌∙◌, ◌++◌, ◌∷◌, [], length, subst, arith}
use Rattle.cilk_scheduler.specs.OfferLists.{OfferList}
use Rattle.cilk_scheduler.specs.Slots.{IsTallied, standing}
use Rattle.cilk_scheduler.proofs.Slots.{total, standing_short, standing_push, tallied_with}
use Rattle.cilk_scheduler.proofs.offer_list.Offers.push.Goals as goal

pub raise-requires-clause-here : goal.raise-requires-clause-here
raise-requires-clause-here c =
    let at = c.len-at.ensures in
    let ok = c.self.inside.slots.ok.0 in
    let room = c.in_ok-make_room.ensures.room in
    omega (arith, at, ok, room)

pub raise-requires-clause-few : goal.raise-requires-clause-few
raise-requires-clause-few c =
    let slots = c.self.inside.slots in
    let sum = total slots.items c.make_room.new.tally c.in_ok-make_room.ensures.tallied in
    let short = standing_short slots.items in
    let ok = slots.ok.0 in
    let cap = slots.ok.1 in
    let small = slots.small in
    omega (arith, sum, short, ok, cap, small)

pub invariant_of-self-2 : goal.invariant_of-self-2
invariant_of-self-2 c =
    let slots = c.self.inside.slots in
    let at = c.len-at.ensures in
    let ok = slots.ok.0 in
    let with = tallied_with slots.items _ c.make_room.new.tally c.len-at.result refl c.in_ok-make_room.ensures.tallied c.in_ok-make_room.ensures.room (omega (arith, at, ok)) in
    rw (c.in_ok-push.ensures.items, c.raise.ensures) with

pub returns-clause-added : goal.returns-clause-added
returns-clause-added c = rw c.in_ok-push.ensures.items (standing_push c.self.inside.slots.items _ refl ∙ ap (λ (o : OfferList). o.items ++ c.args.frame ∷ []) c.self.view_is)
