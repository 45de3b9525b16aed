use Rattle.std.proofs.Common.{◌≤◌, ℕ, length, subst}
use Rattle.cilk_workers.specs.Shared.{IsNext, event_order_in}
use Rattle.cilk_workers.proofs.BegunTurn.{next_there}
use Rattle.cilk_workers.proofs.Due.{off_chain}
use Rattle.cilk_workers.proofs.turn.act.Goals as goal

pub unreachable-requires : goal.unreachable-requires
unreachable-requires c =
    let y = c.args.shared.now in
    let p = c.args.work.now.piece in
    let within = off_chain (λ s at. (1 ≤ at) × (at ≤ length s.events)) y c.args.work.now c.requires c.laws.ensures.same c.stands_within.ensures in
    next_there (event_order_in y) p.upto c.next.result (subst (λ (n : ℕ). IsNext (event_order_in y) n c.next.result) c.upto-at.ensures c.next.ensures) within.0 within.1 c.in_default.not-Next
