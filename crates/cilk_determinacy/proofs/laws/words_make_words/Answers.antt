use Rattle.cilk_determinacy.proofs.Wordy.{set_words}
use Rattle.cilk_determinacy.proofs.laws.words_make_words.Goals as goal

pub returns : goal.returns
returns c = λ p inputs has inputs_words. set_words p has inputs inputs_words
