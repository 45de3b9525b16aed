-- How the serial run of a program on an input ends.
use Rattle.std.specs.Prelude.{ℤ, List}
use Rattle.cilk_types.specs.declared.event.Event.{Event}
use Rattle.cilk_program.specs.Syntax.{Source}
use Rattle.cilk_lower.specs.Lowered.{IsLowered}
use Rattle.cilk_serial.specs.Ran.{Ran, StopsAfter}
use Rattle.cilk_checker.specs.Frames.{AreFramesIn}
use Rattle.cilk_checker.specs.declared.ending.End.{End}
use Rattle.cilk_checker.specs.declared.ending.End.TheVariants.{Left, Stopped}

-- The serial run makes these events and ends in this way, and this is the program's code. A run
-- without a fault has these frames.
abbrev pub EndsWith : Source → List ℤ → End → List Event → Type 0
EndsWith p inputs (Left o frames code) es = Ran p inputs o es × AreFramesIn p inputs es o frames.items × IsLowered p code
EndsWith p inputs (Stopped fault frames code) es = StopsAfter p inputs es fault × IsLowered p code
