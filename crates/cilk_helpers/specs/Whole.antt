-- A whole run, retold.
use Rattle.std.specs.Prelude.{◌≡◌, ℤ, List, Some, None, reverse}
use Rattle.cilk_program.specs.declared.ask.Callee.{Callee}
use Rattle.cilk_program.specs.Syntax.{Source}
use Rattle.cilk_lower.specs.Code.{CodeView}
use Rattle.cilk_serial.specs.Ran.{Ran}
use Rattle.cilk_checker.specs.Frames.{AreFramesIn, own_of}
use Rattle.cilk_helpers.specs.Notes.{IsReplay}
use Rattle.cilk_helpers.specs.declared.retelling.Retelling.{Retelling}
use Rattle.cilk_helpers.specs.declared.whole.Replay.{Replay}
use Rattle.cilk_helpers.specs.declared.whole.Retold.{Retold}
use Rattle.cilk_helpers.specs.declared.whole.Step.{Step}
use Rattle.cilk_helpers.specs.declared.whole.Step.TheVariants.{GoesOn, Begins, Ends, Departs}
use Rattle.cilk_helpers.specs.Telling.{TellsMore, TellsLast}

-- a frame's notes are kept with the next one last
abbrev pub IsKept : CodeView → Source → List ℤ → Replay → Type 0
IsKept code p inputs r = IsReplay code p inputs r.callee (reverse r.notes.items)

-- the result of a step
abbrev pub Retells : CodeView → Source → List ℤ → Retelling → Step → Retelling → Type 0
Retells code p inputs t GoesOn t' = TellsMore code p inputs t None t'
Retells code p inputs t (Begins own) t' = (callee : Callee) × (own ≡ own_of p code.layout callee) × TellsMore code p inputs t (Some callee) t'
Retells code p inputs t (Ends v) t' = TellsLast p inputs t v t'
Retells code p inputs t Departs t' = Unit {0}

-- the outcome, frames and events of the program's serial run
abbrev pub IsRetold : Source → List ℤ → Retold → Type 0
IsRetold p inputs r = Ran p inputs r.outcome r.trace × AreFramesIn p inputs r.trace r.outcome r.frames.items
