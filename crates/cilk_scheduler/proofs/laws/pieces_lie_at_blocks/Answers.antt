use Rattle.cilk_scheduler.proofs.Blocks.{arrives, closes, passes, steals}
use Rattle.cilk_scheduler.proofs.laws.pieces_lie_at_blocks.Goals as goal

pub returns-clause-steal : goal.returns-clause-steal
returns-clause-steal c = steals

pub returns-clause-child : goal.returns-clause-child
returns-clause-child c = λ kind kid kid' there own k same x is. arrives kind kid kid' there own k same x is

pub returns-clause-own : goal.returns-clause-own
returns-clause-own c = closes

pub returns-clause-passes : goal.returns-clause-passes
returns-clause-passes c = λ kind kid loose there own ds run h. passes kind kid loose there own ds run h
