use Rattle.cilk_types.proofs.Words.{one_word}
use Rattle.cilk_types.proofs.laws.words_are_modulo.Goals as goal

pub returns : goal.returns
returns c = one_word
