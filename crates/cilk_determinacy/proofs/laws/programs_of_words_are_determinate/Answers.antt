use Rattle.cilk_determinacy.proofs.Wordy.{determinate_in_words}
use Rattle.cilk_determinacy.proofs.laws.programs_of_words_are_determinate.Goals as goal

pub returns : goal.returns
returns c = determinate_in_words
