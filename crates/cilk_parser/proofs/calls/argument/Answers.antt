use Rattle.cilk_syntax.proofs.Stopping.{first_at}
use Rattle.cilk_parser.proofs.calls.argument.Goals as goal

pub returns-clause-tree : goal.returns-clause-tree
returns-clause-tree c =
    let first = first_at c.args.tokens.now _ c.in-len1-up.len_at_least in
    (first.0, first.1, first.2, first.3, c.in_ok-value.ensures.tree)
