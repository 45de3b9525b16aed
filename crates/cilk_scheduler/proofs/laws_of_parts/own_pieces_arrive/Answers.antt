use Rattle.cilk_scheduler.proofs.Parts.{may_bring, passes_on, stays}
use Rattle.cilk_scheduler.proofs.laws_of_parts.own_pieces_arrive.Goals as goal

pub returns-clause-arrive : goal.returns-clause-arrive
returns-clause-arrive c = may_bring

pub returns-clause-stay : goal.returns-clause-stay
returns-clause-stay c = stays

pub returns-clause-pass : goal.returns-clause-pass
returns-clause-pass c = passes_on
