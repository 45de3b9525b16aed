use Rattle.cilk_schedule.specs.Played.{IsUnstopped}
use Rattle.cilk_races.proofs.plays.Player.rounds.Given as goal

abbrev pub invariant-rounds : goal.invariant-rounds
invariant-rounds l = IsUnstopped l.self.machine

abbrev pub invariant-turns : goal.invariant-turns
invariant-turns l = IsUnstopped l.self.machine
