use Rattle.std.proofs.Common.{ℕ, List, ◌++◌}
use Rattle.std.specs.Prelude.{replicate}
use Rattle.cilk_schedule.specs.Played.{IsUnstopped}
use Rattle.cilk_schedule.specs.Playing.{Choose}
use Rattle.cilk_schedule.specs.Strict.{HasMade, LineTask}
use Rattle.cilk_schedule.specs.declared.machine.Machine.{Machine}
use Rattle.cilk_schedule.proofs.strict.repeat.Given as goal

abbrev pub invariant-times : goal.invariant-times
invariant-times l = record {
  going : IsUnstopped l.machine;
  made : (workers : ℕ) (first : Machine) (done : List LineTask) → HasMade workers first done l.fn.machine → HasMade workers first (done ++ replicate l._made (record { line = l.line; task = Choose l.choice })) l.machine;
}
