use Rattle.std.proofs.Common.{ℕ, ◌≤◌}
use Rattle.cilk_cert_maker.specs.Sources.{AllFit}
use Rattle.cilk_cert_maker.proofs.Fitting.{FitSoFar}
use Rattle.cilk_cert_maker.proofs.sources.cells_written.Given as goal

abbrev pub invariant-loop-event : goal.invariant-loop-event
invariant-loop-event l = record { fit : FitSoFar l.events l.event-index l.cells; least : (n : ℕ) → AllFit n l.events → l.cells ≤ n }
