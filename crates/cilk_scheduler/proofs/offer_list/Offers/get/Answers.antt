use Rattle.std.proofs.Common.{◌≡◌, ◌≤◌, ◌<◌, ap, sym, ◌∙◌, Some, slice_get, length, subst, arith}
use Rattle.std.proofs.lemmas.List.{get_or_read}
use Rattle.std.proofs.lemmas.Option.{slice_get_past}
use Rattle.cilk_scheduler.specs.OfferLists.{OfferList}
use Rattle.cilk_scheduler.specs.Slots.{standing}
use Rattle.cilk_scheduler.specs.declared.offer_list.Slot.{Slot}
use Rattle.cilk_scheduler.proofs.Slots.{total, sought, at_standing, same_slot, inside}
use Rattle.cilk_scheduler.proofs.offer_list.Offers.get.Goals as goal

pub returns-then-place-total : goal.returns-then-place-total
returns-then-place-total c =
    let all = total c.self.inside.slots.items c.self.inside.tally c.self.invariant in
    let sum = c.total.ensures in
    let far = c.if-place-total.true in
    sym (slice_get_past (standing c.self.inside.slots.items) c.args.place (omega (arith, all, sum, far))) ∙ ap (λ (o : OfferList). slice_get o.items c.args.place) c.self.view_is

pub index-requires : goal.index-requires
index-requires c =
    let s = sought c.self.inside.slots.items c.self.inside.tally c.args.place c.find.result c.self.invariant c.find.ensures.before c.find.ensures.above in
    let low = inside c.self.inside.slots.items c.find.result s.0 s.1 in
    let ok = c.self.inside.slots.ok.0 in
    omega (arith, low, ok)

pub returns : goal.returns
returns c =
    let slots = c.self.inside.slots.items in
    let s = sought slots c.self.inside.tally c.args.place c.find.result c.self.invariant c.find.ensures.before c.find.ensures.above in
    let same = same_slot slots c.find.result c.index.result.now s.0 c.index.ensures s.1 in
    let at = at_standing slots c.find.result s.0 s.1 s.2 in
    ap (λ (z : Slot). Some z.frame) same ∙ sym at ∙ ap (λ n. slice_get (standing slots) n) s.3 ∙ ap (λ (o : OfferList). slice_get o.items c.args.place) c.self.view_is
