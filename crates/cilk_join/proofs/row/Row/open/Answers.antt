use Rattle.std.proofs.Common.{◌∙◌}
use Rattle.cilk_join.proofs.AwaitedRows.{parts_are}
use Rattle.cilk_join.proofs.row.Row.open.Goals as goal

pub returns-clause-parts : goal.returns-clause-parts
returns-clause-parts g c =
    c.of.ensures ∙ parts_are c.args.self.now c.replace-left.new.self c.place-place.result c.args.piece c.replace-left.result c.replace_after-right.result c.replace-left.ensures.out c.replace-left.ensures.new c.replace_after-right.ensures.out
