use Rattle.cilk_determinacy.proofs.Literals.{program_words}
use Rattle.cilk_determinacy.proofs.words.programs_are_of_words.Goals as goal

pub returns : goal.returns
returns c = program_words c.args.program.now c.are_words.ensures
