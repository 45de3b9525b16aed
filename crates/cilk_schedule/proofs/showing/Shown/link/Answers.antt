use Rattle.std.proofs.Common.{slice_get, sym, ap, ◌∙◌}
use Rattle.cilk_scheduler.proofs.Placed.{there_at}
use Rattle.cilk_schedule.proofs.Shows.{link_named}
use Rattle.cilk_schedule.proofs.showing.Shown.link.Goals as goal

pub returns-clause-named : goal.returns-clause-named
returns-clause-named c = λ name linked some.
    let f = c.in_ok-frame.frame.now in
    let g = c.in_ok-frame.ensures.lookup in
    let here = ap (λ z. slice_get z c.args.place) (sym c.deref.ensures.value) ∙ there_at c.deref.result.now c.args.place f g.0 g.1 in
    link_named c.args.self.now.frames.items name linked c.args.place f here some
