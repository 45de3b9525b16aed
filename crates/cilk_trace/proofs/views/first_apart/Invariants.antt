use Rattle.std.proofs.Common.{length}
use Rattle.cilk_trace.specs.Views.{AreHeld}
use Rattle.cilk_trace.proofs.ViewReads.{Apart}
use Rattle.cilk_trace.proofs.views.first_apart.Given as goal

abbrev pub invariant-each : goal.invariant-each
invariant-each l = AreHeld (length l.classes) l.reads → Apart l.classes l.reads l.at
