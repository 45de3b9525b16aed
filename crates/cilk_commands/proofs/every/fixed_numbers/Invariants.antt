use Rattle.std.proofs.Common.{◌≡◌, ◌+◌, ◌++◌, length}
use Rattle.cilk_commands.specs.Every.{fixed_from}
use Rattle.cilk_oblivious.specs.Cursors.{hidden_of}
use Rattle.cilk_commands.proofs.every.fixed_numbers.Given as goal

abbrev pub invariant-each : goal.invariant-each
invariant-each l = record {
  all : l.fixed.items ++ fixed_from (hidden_of l.hidden) l.at l.rest ≡ fixed_from (hidden_of l.hidden) 0 l.numbers;
  at : l.at + length l.rest ≡ length l.numbers;
}

abbrev pub decreases-each : goal.decreases-each
decreases-each l = length l.rest
