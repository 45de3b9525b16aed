use Rattle.std.proofs.Common.{◌≡◌, ℕ, length, slice_get, Some}
use Rattle.cilk_scheduler.specs.Parts.{OpensAs}
use Rattle.cilk_scheduler.specs.declared.frame_state.Worker.{Worker}
use Rattle.cilk_schedule.proofs.opening.first_workers.Given as goal

abbrev pub invariant-each : goal.invariant-each
invariant-each l = record {
  count : length l.workers.items ≡ l.number;
  opens : (v : ℕ) (u : Worker) → slice_get l.workers.items v ≡ Some u → OpensAs v u;
}
