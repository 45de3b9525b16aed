-- An event of the binary form that is read at once.
use Rattle.std.specs.Prelude.{ℕ, ◌+◌}
use Rattle.cilk_trace.specs.declared.event.Step.{Step}
use Rattle.cilk_trace.specs.Binary.{Events, after_step, events_reading}
use Rattle.cilk_trace.specs.Numbers.{Numbers}
use Rattle.cilk_trace.specs.Reading.{Reading, count_of, taken, with_lines}

-- the reading from the last number of an event on, where it makes this step and these numbers follow
abbrev pub step_reading : Events → ℕ → Step → Numbers → Reading
step_reading s number step ns = taken number (λ p. with_lines p.0 (events_reading p.1 (number + count_of p.0) ns)) (after_step s number step)
