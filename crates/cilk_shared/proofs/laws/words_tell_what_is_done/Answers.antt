use Rattle.cilk_shared.proofs.Telling.{tells_what_is_done}
use Rattle.cilk_shared.proofs.laws.words_tell_what_is_done.Goals as goal

pub returns : goal.returns
returns c = tells_what_is_done
