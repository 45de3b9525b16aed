use Rattle.std.proofs.Common.{◌≡◌, take}
use Rattle.std.specs.Prelude.{map}
use Rattle.cilk_commands.proofs.programs.names.Given as goal

abbrev pub invariant-loop-reducer : goal.invariant-loop-reducer
invariant-loop-reducer l = l.names.items ≡ map (λ r. r.name) (take l.reducer-index l.reducers)
