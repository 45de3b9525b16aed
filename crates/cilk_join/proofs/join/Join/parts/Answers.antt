use Rattle.std.proofs.Common.{sym, ◌∙◌}
use Rattle.cilk_join.specs.Products.{product}
use Rattle.cilk_join.proofs.AwaitedRows.{parts_shown}
use Rattle.cilk_join.proofs.join.Join.parts.Goals as goal

pub returns : goal.returns
returns c = c.parts.ensures ∙ sym (parts_shown product c.args.self.now.row)
