-- The requests of a frame with fewer ticks.
use Rattle.std.specs.Prelude.{◌≡◌, ◌<◌, ◌+◌, ℕ, ℤ, List}
use Rattle.cilk_types.specs.declared.fault.Fault.TheVariants.{TooManyEvents}
use Rattle.cilk_program.specs.declared.ask.Ask.{Ask}
use Rattle.cilk_program.specs.declared.ask.Ask.TheVariants as asks
use Rattle.cilk_program.specs.declared.ask.Callee.{Callee}
use Rattle.cilk_program.specs.Syntax.{Source}
use Rattle.cilk_program.specs.Behaviour.{asks_for, frame_asks}

-- the ticks haven't run out
abbrev pub IsWithin : Ask → Type 0
IsWithin (asks.Fault TooManyEvents) = ⊥
IsWithin k = Unit {0}

pub record TicksRunShort (p : Source) (inputs : List ℤ) : Type 0 where
  -- If the ticks run out, but with `more` ticks the frame reaches another request, then fewer than
  -- `more` ticks are left there.
  pub missing : (callee : Callee) (history : List ℤ) (start more left : ℕ) (k : Ask) → (frame_asks p inputs callee history start).ask ≡ asks.Fault TooManyEvents
      → frame_asks p inputs callee history (start + more) ≡ asks_for k left → IsWithin k → left < more
  -- without ticks that it doesn't use, the frame makes the same request
  pub fewer : (callee : Callee) (history : List ℤ) (start spare left : ℕ) (k : Ask) → frame_asks p inputs callee history (start + spare) ≡ asks_for k (left + spare) → IsWithin k
      → frame_asks p inputs callee history start ≡ asks_for k left
