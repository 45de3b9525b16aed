use Rattle.std.proofs.Common.{◌+◌, ◌≤◌, ℕ}
use Rattle.std.specs.Prelude.{replicate}
use Rattle.cilk_schedule.specs.Played.{IsUnstopped}
use Rattle.cilk_schedule.specs.Playing.{Choose}
use Rattle.cilk_schedule.specs.Strict.{PlaysMore}
use Rattle.cilk_schedule.proofs.counting.repeat.Given as goal

abbrev pub invariant-times : goal.invariant-times
invariant-times l = record {
  going : IsUnstopped l.machine;
  few : l.skips.count ≤ l.fn.skips.count + l._made;
  made : (workers : ℕ) → PlaysMore workers (replicate l._made (record { line = l.line; task = Choose l.choice })) l.fn.machine l.fn.skips l.machine l.skips;
}
