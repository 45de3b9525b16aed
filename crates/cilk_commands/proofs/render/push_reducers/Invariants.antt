use Rattle.std.proofs.Common.{◌≡◌, ◌++◌}
use Rattle.std.specs.Iterator.Adapters.{zip_first, zip_second}
use Rattle.std.specs.Slice.Iter.{iter_rest}
use Rattle.cilk_commands.specs.Replies.{reducer_lines}
use Rattle.cilk_commands.proofs.render.push_reducers.Given as goal

abbrev pub invariant-loop-name : goal.invariant-loop-name
invariant-loop-name l =
    l.text.items ++ reducer_lines (iter_rest (zip_first l.name-iterator)) (iter_rest (zip_second l.name-iterator)) ≡ l.initial.text.items ++ reducer_lines l.names l.reducers
