use Rattle.std.proofs.Common.{arith}
use Rattle.cilk_checker.proofs.compare.found_before.Goals as goal

pub returns-in-None : goal.returns-in-None
returns-in-None c = λ d h. ((λ k l. c.in-None.ensures d h k), omega arith)

pub returns-then-at-count : goal.returns-then-at-count
returns-then-at-count c = λ d h. (c.in-Some.ensures d h, omega arith)

pub returns-else-at-count : goal.returns-else-at-count
returns-else-at-count c = λ d h. ((λ k l w. let least = (c.in-Some.ensures d h).least k w in absurd (omega (arith, least, l))), omega arith)
