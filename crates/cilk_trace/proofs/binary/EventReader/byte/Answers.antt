use Rattle.std.proofs.Common.{arith}
use Rattle.cilk_trace.proofs.binary.EventReader.byte.Goals as goal

pub invariant_of-self-clause-short : goal.invariant_of-self-clause-short
invariant_of-self-clause-short c = let u = c.if-self-gt-FOURTH_UNIT.false in omega (arith, u)
