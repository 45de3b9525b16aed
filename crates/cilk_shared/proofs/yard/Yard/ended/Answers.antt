use Rattle.std.proofs.Common.{arith}
use Rattle.cilk_shared.specs.Values.{OfYard}
use Rattle.cilk_shared.proofs.Steps.{both, ended_at}
use Rattle.cilk_shared.proofs.yard.Yard.ended.Goals as goal

pub load-found-requires : goal.load-found-requires
load-found-requires c =
    let i = c.self.invariant in
    let of = both OfYard c.self.view_is c.segment.view_is c.requires in (
      of.0,
      omega (arith, i.3, i.4),
      ended_at c.self.inside.table.shared.key.event_order i.0 c.self.inside.table.shared.table_id.slots c.segment.inside.seat.id c.self.inside.cells c.segment.inside.seat.me of.1 c.segment.invariant.0 i.4,
    )
