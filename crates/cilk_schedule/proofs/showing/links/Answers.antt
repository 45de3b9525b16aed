use Rattle.std.proofs.Common.{◌≡◌, ◌+◌, [], refl, sym, subst, rules}
use Rattle.cilk_schedule.specs.Gathering.{HaveLinks}
use Rattle.cilk_schedule.specs.declared.showing.ShownFrame.{ShownFrame}
use Rattle.cilk_schedule.proofs.Linked.{have_more}
use Rattle.cilk_scheduler.proofs.Placed.{get_there}
use Rattle.cilk_schedule.proofs.showing.links.Goals as goal

pub each-preserved : goal.each-preserved
each-preserved c =
    let a = c.frame-item.result in
    let n = c.each.frame-index in
    let r = c.in_ok-push.ensures in
    let f : ShownFrame = record { link = record { parent = a.cursor.parent; ordinal = a.cursor.ordinal }; children = c.new.result; events = c.new-in-each.result } in
    let no_children : c.new.result.items ≡ [] = search rules in
    let no_events : c.new-in-each.result.items ≡ [] = search rules in
    subst (λ l. HaveLinks c.args.frames.now (n + 1) l) (sym r.items)
    (have_more c.args.frames.now n a c.each.list.items c.add_child.new.list.items f (get_there c.args.frames.now n a c.frame-item.is c.each-test.true) c.each.invariant c.in_ok-add_child.ensures refl no_children no_events)
