-- The kinds so far, and those that are left.
use Rattle.std.proofs.Common.{◌≡◌, ◌++◌, drop}
use Rattle.cilk_names.specs.Contexts.{kinds_of}
use Rattle.cilk_names.proofs.headings.kinds_of.Given as goal

abbrev pub invariant-each : goal.invariant-each
invariant-each l = l.kinds.items ++ kinds_of l.text (drop l.parameter-index l.parameters) ≡ kinds_of l.text l.parameters
