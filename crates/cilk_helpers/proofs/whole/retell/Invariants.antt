use Rattle.std.proofs.Common.{All}
use Rattle.cilk_program.specs.Sources.{source}
use Rattle.cilk_checker.proofs.Noting.{NotedSoFar}
use Rattle.cilk_helpers.specs.Telling.{Tells}
use Rattle.cilk_helpers.specs.Whole.{IsKept}
use Rattle.cilk_helpers.proofs.whole.retell.Given as goal

-- the frames that the events so far have begun are noted
abbrev pub invariant-each : goal.invariant-each
invariant-each l = record {
  tells : Tells l.code (source l.program) l.input l.run;
  kept : All (IsKept l.code (source l.program) l.input) l.replays.items;
  noted : NotedSoFar (source l.program) l.input l.run.state.events.items l.frames.items l.cells;
}
