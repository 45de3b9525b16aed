use Rattle.std.proofs.Common.{◌-◌, [], ◌∷◌}
use Rattle.cilk_schedule.specs.Played.{IsUnstopped}
use Rattle.cilk_schedule.specs.Playing.{Leads, Rounds}
use Rattle.cilk_schedule.specs.declared.player.TheConstants.{MAX_ROUNDS}
use Rattle.cilk_schedule.proofs.player.rounds.Given as goal

abbrev pub invariant-rounds : goal.invariant-rounds
invariant-rounds l = record {
  going : IsUnstopped l.machine;
  led : Leads l.workers (Rounds MAX_ROUNDS ∷ []) l.fn.machine (Rounds (MAX_ROUNDS - l._made) ∷ []) l.machine;
}
