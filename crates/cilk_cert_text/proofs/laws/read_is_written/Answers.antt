use Rattle.cilk_cert_text.proofs.Texts.{from_text}
use Rattle.cilk_cert_text.proofs.laws.read_is_written.Goals as goal

pub returns : goal.returns
returns c = from_text
