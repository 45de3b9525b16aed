use Rattle.cilk_cert_text.proofs.Shown.{line_again}
use Rattle.cilk_cert_text.proofs.Entries.{line_sound}
use Rattle.cilk_cert_text.proofs.laws.one_spelling.Goals as goal

pub returns-clause-read : goal.returns-clause-read
returns-clause-read c = line_again

pub returns-clause-written : goal.returns-clause-written
returns-clause-written c = line_sound
