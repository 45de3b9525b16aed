use Rattle.cilk_program.specs.Sources.{source}
use Rattle.cilk_determinacy.proofs.Settled.{serial_settles}
use Rattle.cilk_determinacy.proofs.words.serial_runs_settle.Goals as goal

pub returns : goal.returns
returns c = serial_settles (source c.args.program.now) c.args.input.now c.args.program.now.well_named c.programs_are_of_words.ensures c.inputs_are_words.ensures
