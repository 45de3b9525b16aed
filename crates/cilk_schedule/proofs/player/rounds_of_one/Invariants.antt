use Rattle.std.proofs.Common.{[], ◌∷◌, ◌≤◌}
use Rattle.cilk_schedule.specs.Played.{IsUnstopped}
use Rattle.cilk_schedule.specs.Playing.{Leads, Rounds}
use Rattle.cilk_schedule.specs.declared.player.TheConstants.{MAX_ROUNDS}
use Rattle.cilk_schedule.proofs.player.rounds_of_one.Given as goal

abbrev pub invariant-stretches : goal.invariant-stretches
invariant-stretches l = record {
  going : IsUnstopped l.machine;
  few : l.left ≤ MAX_ROUNDS;
  led : Leads 1 (Rounds MAX_ROUNDS ∷ []) l.fn.machine (Rounds l.left ∷ []) l.machine;
}

abbrev pub decreases-stretches : goal.decreases-stretches
decreases-stretches l = l.left
