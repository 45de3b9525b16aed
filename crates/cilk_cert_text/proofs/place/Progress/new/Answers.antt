use Rattle.std.proofs.Common.{refl}
use Rattle.cilk_cert_text.specs.Places.{forms_left}
use Rattle.cilk_cert_text.proofs.Dues.{sub-zero}
use Rattle.cilk_cert_text.proofs.place.Progress.new.Goals as goal

pub returns-clause-forms : goal.returns-clause-forms
unfolding forms_left
returns-clause-forms c = rw (sub-zero c.args.size.frames, sub-zero c.args.size.strands, sub-zero c.args.size.events) refl
