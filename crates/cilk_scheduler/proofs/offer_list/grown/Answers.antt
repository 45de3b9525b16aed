use Rattle.std.proofs.Common.{◌≡◌, ◌≤◌, ◌<◌, ◌+◌, ◌++◌, ◌∷◌, [], take, get_or, sym, ap, ◌∙◌, subst, arith, length}
use Rattle.std.proofs.lemmas.List.{take_more, length-take-le, length-set}
use Rattle.cilk_scheduler.specs.Slots.{IsTallied}
use Rattle.cilk_scheduler.proofs.Slots.{total, standing_short, tallied_with, tallied_dead}
use Rattle.cilk_scheduler.proofs.offer_list.grown.Goals.{then-index, else-index}
use Rattle.cilk_scheduler.proofs.offer_list.grown.Goals as goal

pub raise-requires-clause-few : goal.raise-requires-clause-few
raise-requires-clause-few c =
    let slots = c.args.slots.now.items in
    let sum = total (take c.each.at slots) c.each.wider c.each.invariant.tallied in
    let short = standing_short (take c.each.at slots) in
    let ok = c.args.slots.now.ok.0 in
    let cap = c.args.slots.now.ok.1 in
    let small = c.args.slots.now.small in
    let end = c.len-at-end.ensures in
    let low = c.each-test.true in
    let len = length-take-le c.each.at slots (omega (arith, ok, end, low)) in
    omega (arith, sum, short, len, ok, cap, small, end, low)

pub each-preserved : goal.each-preserved
each-preserved c =
    let slots = c.args.slots.now.items in
    let at = c.each.at in
    let ok = c.args.slots.now.ok.0 in
    let end = c.len-at-end.ensures in
    let low = c.each-test.true in
    let here : at < length slots = omega (arith, ok, end, low) in
    let s = c.index.result.now in
    let more : take (at + 1) slots ≡ take at slots ++ s ∷ [] = take_more slots at s here ∙ ap (λ z. take at slots ++ z ∷ []) (sym c.index.ensures) in
    let len = length-take-le at slots (omega (arith, here)) in
    let room = c.each.invariant.room in
    elim c.if-index.branch [
      | then-index w ↦ record {
        tallied = rw (more, w.wider-is, w.raise.ensures) (tallied_with (take at slots) s c.each.wider at w.if-index.true c.each.invariant.tallied (omega (arith, len, here, room)) (sym len));
        room = (let same = ap length (w.wider-is ∙ w.raise.ensures) in let as_long = length-set c.each.wider at (get_or c.each.wider at 0 + 1) in omega (arith, same, as_long, room));
      }
      | else-index w ↦ record {
        tallied = rw (more, w.wider-is) (tallied_dead (take at slots) s c.each.wider w.if-index.false c.each.invariant.tallied (omega (arith, len, here, room)));
        room = rw w.wider-is room;
      }
    ]
