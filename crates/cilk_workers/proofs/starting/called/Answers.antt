use Rattle.std.proofs.Common.{◌≡◌, Some}
use Rattle.cilk_shared.specs.Reducers.{frame_in}
use Rattle.cilk_tree.specs.Kinds.{kind_of_event}
use Rattle.cilk_tree.specs.declared.kind.Kind.TheVariants as kinds
use Rattle.cilk_tree.specs.Word.{event}
use Rattle.cilk_workers.specs.Shared.{event_order_in}
use Rattle.cilk_workers.proofs.Due.{can_pass, of_event_order}
use Rattle.cilk_workers.proofs.OfKind.{no_sync, quiet, what_plain}
use Rattle.cilk_workers.proofs.starting.called.Goals as goal

pub pass-requires-clause-next : goal.pass-requires-clause-next
pass-requires-clause-next c =
    let y = c.args.shared.now in
    let p = c.args.work.now.piece in
    let k = kinds.Call c.requires.due.0 in
    let due = c.requires.due.1 in
    let works = due.works in
    let is = due.kind_is in
    can_pass y p works.good c.laws.ensures.order due.asked c.requires.more (what_plain (event_order_in y) p.upto k is tt) (no_sync (event (event_order_in y) p.upto) k is (λ q. cc q))

pub pass-requires-clause-quiet : goal.pass-requires-clause-quiet
pass-requires-clause-quiet c =
    let p = c.args.work.now.piece in
    let k = kinds.Call c.requires.due.0 in
    let due = c.requires.due.1 in
    let works = due.works in
    quiet p.reducers (frame_in p.event_order.events p.upto) (event p.event_order p.upto) k
    (of_event_order (λ s. kind_of_event (event s p.upto) ≡ Some k) c.args.shared.now.run p works.good.0 due.kind_is) tt
