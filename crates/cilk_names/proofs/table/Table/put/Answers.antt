-- The effect of an insertion.
use Rattle.cilk_syntax.specs.Trees.{bytes_of}
use Rattle.cilk_names.proofs.Tables.{put_entry}
use Rattle.cilk_names.proofs.table.Table.put.Goals as goal

pub returns-clause-updates : goal.returns-clause-updates
returns-clause-updates c =
    put_entry c.args.self.now.inner c.insert.new.self (bytes_of c.args.self.now.text.now c.args.name) c.bytes_of.result.now c.args.entry c.bytes_of.ensures c.in_ok-insert.ensures.updates
