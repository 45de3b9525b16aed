use Rattle.std.proofs.Common.{◌≡◌}
use Rattle.cilk_program.specs.Sources.{source}
use Rattle.cilk_threads.proofs.Tabled.{bodies_in, LaidSoFar}
use Rattle.cilk_threads.proofs.table.laid.Given as goal

abbrev pub invariant-each : goal.invariant-each
invariant-each l = LaidSoFar (source l.run.value.program) (bodies_in l.planned) l.place l.frames.items × (l.program ≡ l.run.value.program)
