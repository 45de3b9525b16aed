use Rattle.std.proofs.Common.{◌≡◌, map, take}
use Rattle.cilk_program.specs.declared.program.GlobalReducer.{GlobalReducer}
use Rattle.cilk_threads.proofs.table.of_root.Given as goal

abbrev pub invariant-globals : goal.invariant-globals
invariant-globals l = l.kinds.items ≡ map (λ (r : GlobalReducer). r.kind) (take l.number l.program.reducers.items)
