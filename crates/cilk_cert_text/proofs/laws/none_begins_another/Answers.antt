use Rattle.cilk_cert_text.proofs.Texts.{no_beginning}
use Rattle.cilk_cert_text.proofs.laws.none_begins_another.Goals as goal

pub returns : goal.returns
returns c = no_beginning
