use Rattle.std.proofs.Common.{◌↔◌, drop}
use Rattle.cilk_workers.specs.Rows.{FitsFrom}
use Rattle.cilk_workers.proofs.awaited.fits_from.Given as goal

abbrev pub invariant-each : goal.invariant-each
invariant-each l = FitsFrom l.at (drop l.place l.waits) l.key l.piece ↔ FitsFrom l.begin l.waits l.key l.piece
