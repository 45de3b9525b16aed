use Rattle.std.proofs.Common.{ℕ, ◌+◌, ◌≤◌, List, ◌++◌, length}
use Rattle.cilk_parser.specs.Scripts.{FailsAtLine, IsNoScript, IsScript, Orders}
use Rattle.cilk_parser.specs.declared.script.Step.{Step}
use Rattle.cilk_parser.proofs.script.read.Given as goal

abbrev pub invariant-lines : goal.invariant-lines
invariant-lines l = record {
  script : (more : List Step) → Orders l.line l.room l.rest more → IsScript l.text (l.steps.items ++ more);
  fails : (at : ℕ) → FailsAtLine l.line l.room l.rest at → IsNoScript l.text at;
  few : l.line + length l.rest ≤ length l.text + 1;
}

abbrev pub decreases-lines : goal.decreases-lines
decreases-lines l = length l.rest
