-- The events of frames are the requests of their behaviours.
use Rattle.std.specs.Prelude.{◌≡◌, ℕ, ℤ, pos, List, [], ◌∷◌, ◌++◌}
use Rattle.cilk_program.specs.declared.ask.Ask.{Ask}
use Rattle.cilk_program.specs.declared.ask.Ask.TheVariants as asks
use Rattle.cilk_program.specs.declared.ask.Callee.{Callee}
use Rattle.cilk_program.specs.Syntax.{Source}
use Rattle.cilk_program.specs.Behaviour.{asks_for, frame_asks}
use Rattle.cilk_program.specs.SerialRun.{Transcript, stop, act, child}

module _ (p : Source) (inputs : List ℤ) where
  -- after these answers, with some number of ticks, the frame's next request is this one
  abbrev pub Asks : Callee → List ℤ → Ask → Type 0
  Asks callee history k = (start left : ℕ) × (frame_asks p inputs callee history start ≡ asks_for k left)

  -- After this history of answers, each event is the frame's next request, with its answer. The
  -- same holds for its children, each from its beginning.
  abbrev pub Behaves : Callee → List ℤ → Transcript → Type 0
  Behaves callee history stop = Unit {0}
  Behaves callee history (act k a r) = Asks callee history k × Behaves callee (history ++ a ∷ []) r
  Behaves callee history (child how c u r) = Asks callee history (asks.Invoke how c) × Behaves c [] u × Behaves callee (history ++ pos 0 ∷ []) r
