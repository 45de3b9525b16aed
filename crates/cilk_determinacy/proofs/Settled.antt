-- A serial run without a race settles all runs.
use Rattle.std.proofs.Common.{ℤ, List, IsTrue}
use Rattle.cilk_program.specs.Syntax.{Source}
use Rattle.cilk_program.specs.WellNamed.{is_well_named}
use Rattle.cilk_determinacy.specs.Settled.{SerialRunsSettle}
use Rattle.cilk_determinacy.specs.Words.{HasWords, InputsAreWords}
use Rattle.cilk_determinacy.proofs.Wordy.{determinate_in_words}

module _ (p : Source) (inputs : List ℤ) (well : IsTrue (is_well_named p)) (has : HasWords p) (words : InputsAreWords inputs) where
  pub serial_settles : SerialRunsSettle p inputs
  serial_settles r es outcome runs free ns s reached = determinate_in_words p inputs well has words r es outcome runs free ns s reached
