use Rattle.std.proofs.Common.{take}
use Rattle.cilk_trace.specs.Reading.{HasNoLf}
use Rattle.cilk_trace.proofs.text.end_of_line.Given as goal

abbrev pub invariant-loop-at : goal.invariant-loop-at
invariant-loop-at l = HasNoLf (take l.at l.piece)
