use Rattle.std.proofs.Common.{ap, ◌∙◌}
use Rattle.cilk_commands.specs.Files.{Failures}
use Rattle.cilk_served.proofs.served.FolderFiles.read.Goals as goal

pub returns-in_err-to_vec-in-Some-clause-elsewhere : goal.returns-in_err-to_vec-in-Some-clause-elsewhere
returns-in_err-to_vec-in-Some-clause-elsewhere c = ap (λ (f : Failures). f.elsewhere c.args.path.now) c.text.ensures.uncounted

pub returns-in_ok-to_vec-in-Some-clause-elsewhere : goal.returns-in_ok-to_vec-in-Some-clause-elsewhere
returns-in_ok-to_vec-in-Some-clause-elsewhere c = ap (λ (f : Failures). f.elsewhere c.args.path.now) c.text.ensures.uncounted

pub returns-in-None-clause-elsewhere : goal.returns-in-None-clause-elsewhere
returns-in-None-clause-elsewhere c = c.fail.ensures.elsewhere ∙ ap (λ (f : Failures). f.elsewhere c.args.path.now) c.text.ensures.uncounted
