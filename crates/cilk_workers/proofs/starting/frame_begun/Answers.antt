use Rattle.std.proofs.Common.{◌≡◌, ◌+◌, Some, sym, ◌∙◌, arith}
use Rattle.cilk_tree.specs.declared.kind.Kind.TheVariants as kinds
use Rattle.cilk_workers.specs.Shared.{event_order_in}
use Rattle.cilk_workers.proofs.BegunTurn.{child_begins, next_there}
use Rattle.cilk_workers.proofs.starting.frame_begun.Goals as goal

pub unreachable-requires : goal.unreachable-requires
unreachable-requires c =
    let more = c.requires.more in
    next_there (event_order_in c.args.shared.now) (c.args.at + 1) c.next.result c.next.ensures (omega arith) (omega (arith, more)) c.in_default.not-Next

pub unreachable-requires-in_default-kind : goal.unreachable-requires-in_default-kind
unreachable-requires-in_default-kind c =
    let b = child_begins c.args.shared.now c.laws.ensures.replay c.laws.ensures.same c.args.at c.requires.first c.requires.start in
    let n = c.in-Next.ensures in
    let z : Some c.in-Next.kind ≡ Some (kinds.Begin b.0) = sym n.0 ∙ b.1 in
    c.in_default-kind.not-Begin b.0 (cc z)
