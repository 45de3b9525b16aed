-- The zeros so far.
use Rattle.std.proofs.Common.{◌≡◌, ◌++◌}
use Rattle.cilk_names.specs.Globals.{zeros}
use Rattle.cilk_names.proofs.items.push_zeros.Given as goal

abbrev pub invariant-each : goal.invariant-each
invariant-each l = l.openings ≡ l.initial.openings ++ zeros l._index
