use Rattle.std.proofs.Common.{length, refl, sym, arith}
use Rattle.std.proofs.lemmas.Bool.{ltb-false}
use Rattle.cilk_schedule.proofs.Linked.{event_added, event_nowhere}
use Rattle.cilk_scheduler.proofs.Placed.{there_at}
use Rattle.cilk_schedule.proofs.showing.place.Goals as goal

pub returns-in_default : goal.returns-in_default
returns-in_default c = event_nowhere c.args.frames.now c.args.globals c.args.list.now.items c.args.entry (λ low. let l = c.in_default.ensures.item in let far = ltb-false c.args.entry.frame (length c.args.list.now.items) (sym l.0) in absurd (omega (arith, low, far)))

pub returns : goal.returns
returns c =
    let at = c.in-Some.ensures.item in
    let list = c.args.list.now.items in
    let f = c.in-Some.frame.now in
    let f' = record f { events = c.push.new.self } in
    event_added c.args.frames.now c.args.globals list c.args.entry f f' c.named.result (there_at list c.args.entry.frame f at.0 at.1) refl refl c.named.ensures (let r = c.in_ok-push.ensures in r.items)
