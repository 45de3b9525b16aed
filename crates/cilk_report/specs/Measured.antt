-- What `measure` replies: the totals of a run, or why nothing is shown of it.
use Rattle.std.specs.Prelude.{◌≡◌, ℤ, List, Option}
use Rattle.cilk_types.specs.declared.event.Event.{Event}
use Rattle.cilk_checker.specs.Judging.{Meant}
use Rattle.cilk_profile.specs.Measures.{AreMeasures}
use Rattle.cilk_profile.specs.declared.totals.Totals.{Totals}
use Rattle.cilk_profile.specs.declared.text.NoText.{NoText}
use Rattle.cilk_profile.specs.declared.text.NoText.TheVariants as reasons
use Rattle.cilk_commands.specs.Replies.{NoMemory, Reply, Text}
use Rattle.cilk_commands.specs.Serving.{AreGiven, Surroundings, WordsFail}
use Rattle.cilk_messages.specs.Words.{Origin}

-- the totals of the run of a program on its input, which are read from files and standard input; no
-- read of a file failed
pub record AreTotalsOf (w : Surroundings) (program : Origin) (input : Option Text) (t : Totals) : Type 0 where
  pub meant : Meant
  pub inputs : List ℤ
  pub given : AreGiven w program input meant inputs
  pub unfailed : w.failed' ≡ w.failed
  pub events : List Event
  pub measures : AreMeasures meant.source inputs t events

-- the reply that tells why no text is shown: an error about the words, or that there is no memory
abbrev pub TellsWhy : NoText → Reply → Type 0
TellsWhy (reasons.Fault fault) r = r ≡ NoMemory
TellsWhy (reasons.Undrawn text) r = WordsFail r
