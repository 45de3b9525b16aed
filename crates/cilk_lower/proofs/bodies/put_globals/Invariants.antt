use Rattle.std.proofs.Common.{◌≡◌, ◌++◌, map, take}
use Rattle.cilk_program.specs.declared.syntax.ReducerPlace.TheVariants.{Global}
use Rattle.cilk_lower.specs.Code.{creates_code}
use Rattle.cilk_lower.proofs.bodies.put_globals.Given as goal

abbrev pub invariant-each : goal.invariant-each
invariant-each l = l.code.items ≡ l.fn.code.items ++ creates_code Global 0 (map (λ r. r.kind) (take l.n l.reducers))
