use Rattle.cilk_shared.specs.Values.{OfYard, Adjoin}
use Rattle.cilk_shared.proofs.Steps.{both, both_along}
use Rattle.cilk_shared.proofs.Seats.{joins_at, spans_at}
use Rattle.cilk_shared.proofs.yard.Yard.together.Goals as goal

pub join_seat-requires : goal.join_seat-requires
join_seat-requires c =
    let i = c.self.invariant in
    let one = both OfYard c.self.view_is c.first.view_is c.requires.yard.0 in
    let two = both OfYard c.self.view_is c.second.view_is c.requires.yard.1 in
    let near = both_along Adjoin c.first.view_is c.second.view_is c.requires.near in (
      one.0,
      two.0,
      c.second.invariant.0,
      i.1,
      joins_at c.self.inside.table.shared.key.event_order i.0 c.first.inside.seat.me c.second.inside.seat.me one.1 two.1 c.first.inside.from c.first.inside.upto c.second.inside.from c.second.inside.upto c.first.invariant.1 c.second.invariant.1 near c.first.inside.seat.id c.second.inside.seat.id,
    )

pub invariant_of-result : goal.invariant_of-result
invariant_of-result c =
    let i = c.self.invariant in
    let one = both OfYard c.self.view_is c.first.view_is c.requires.yard.0 in
    let two = both OfYard c.self.view_is c.second.view_is c.requires.yard.1 in
    let near = both_along Adjoin c.first.view_is c.second.view_is c.requires.near in
    let r = spans_at c.self.inside.table.shared.key.event_order i.0 c.first.inside.seat.me c.second.inside.seat.me one.1 two.1 c.first.inside.from c.first.inside.upto c.second.inside.from c.second.inside.upto c.first.invariant.1 c.second.invariant.1 near c.span-range.result c.span-range.ensures c.join_seat.new.seat.me c.join_seat.ensures.2 c.first.invariant.0 in
    (r.0, r.2)
