use Rattle.cilk_schedule.proofs.Stepping.{if_ok}
use Rattle.cilk_schedule.proofs.ending.bring_awaited.Goals as goal

pub bring-requires : goal.bring-requires
bring-requires c = c.may_bring.ensures.yes c.if-not-may_bring.false

pub returns-clause-brings : goal.returns-clause-brings
returns-clause-brings c = if_ok c.bring.result c.bring.ensures.brings (λ passes h may. h)
