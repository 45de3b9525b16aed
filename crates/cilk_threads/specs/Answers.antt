-- What the exit reasons of workers tell, and the answer of their run.
use Rattle.std.specs.Prelude.{ℕ, ℤ, Result, Ok, Err}
use Rattle.cilk_shared.specs.Pieces.{PieceValue}
use Rattle.cilk_workers.specs.declared.activity.ExitReason.{ExitReason}
use Rattle.cilk_workers.specs.declared.activity.ExitReason.TheVariants as reasons
use Rattle.cilk_threads.specs.declared.run.ThreadFault.{ThreadFault}
use Rattle.cilk_threads.specs.declared.run.ThreadFault.TheVariants as faults

-- how much an exit reason tells: nothing, that memory ran out, or how the run ended
abbrev pub tells : ExitReason → ℕ
tells reasons.Stopped = 0
tells reasons.OutOfMemory = 1
tells (reasons.Departed p) = 2
tells (reasons.Whole p value) = 2

-- the answer of a run whose best exit reason this is
abbrev pub answer_of : ExitReason → Result (PieceValue × ℤ) ThreadFault
answer_of reasons.Stopped = Err faults.Memory
answer_of reasons.OutOfMemory = Err faults.Memory
answer_of (reasons.Departed p) = Err (faults.Departs p)
answer_of (reasons.Whole p value) = Ok (p, value)
