use Rattle.std.proofs.Common.{◌≡◌, map, take}
use Rattle.cilk_lower.proofs.layout.global_kinds.Given as goal

abbrev pub invariant-each : goal.invariant-each
invariant-each l = l.kinds.items ≡ map (λ r. r.kind) (take l.reducer-index l.reducers)
