use Rattle.std.proofs.Common.{ap, inl, ◌∙◌}
use Rattle.cilk_commands.specs.Files.{Failures}
use Rattle.cilk_served.proofs.served.FolderFiles.part.Goals as goal

pub returns-in_default-clause-elsewhere : goal.returns-in_default-clause-elsewhere
returns-in_default-clause-elsewhere c = c.fail.ensures.elsewhere ∙ ap (λ (f : Failures). f.elsewhere c.args.path.now) c.text.ensures.uncounted

pub returns-clause-risen : goal.returns-clause-risen
returns-clause-risen c = inl c.text.ensures.uncounted

pub returns-clause-elsewhere : goal.returns-clause-elsewhere
returns-clause-elsewhere c = ap (λ (f : Failures). f.elsewhere c.args.path.now) c.text.ensures.uncounted
