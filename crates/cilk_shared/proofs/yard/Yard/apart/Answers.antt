use Rattle.cilk_shared.specs.Values.{OfYard}
use Rattle.cilk_shared.proofs.Steps.{both}
use Rattle.cilk_shared.proofs.Seats.{splits}
use Rattle.cilk_shared.proofs.yard.Yard.apart.Goals as goal

pub split_seat-other-requires : goal.split_seat-other-requires
split_seat-other-requires c =
    let of = both OfYard c.self.view_is c.segment.view_is c.requires in
    (of.0, c.self.invariant.1, splits c.self.inside.table.shared.key.event_order c.segment.inside.seat.id c.segment.inside.seat.me.0)
