use Rattle.cilk_commands.proofs.Kept.{pulled}
use Rattle.cilk_commands.proofs.parts.PartSourceSource.pull.Goals as goal

pub returns-in-Ok-clause-taken : goal.returns-in-Ok-clause-taken
returns-in-Ok-clause-taken g c =
    let path = c.args.self.now.path.now in
    pulled (g.F.Files.holds c.args.self.now.files.now path) (g.F.Files.holds c.part.new.self path) c.args.self.now.at c.in-Ok.count c.part.new.into
    (c.part.ensures.same path) c.in-Ok.ensures.held
