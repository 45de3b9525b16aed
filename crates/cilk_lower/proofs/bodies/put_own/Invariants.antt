use Rattle.std.proofs.Common.{◌≡◌, ◌++◌, take}
use Rattle.cilk_program.specs.declared.syntax.ReducerPlace.TheVariants.{Own}
use Rattle.cilk_lower.specs.Code.{creates_code}
use Rattle.cilk_lower.proofs.bodies.put_own.Given as goal

abbrev pub invariant-each : goal.invariant-each
invariant-each l = l.code.items ≡ l.fn.code.items ++ creates_code (Own 0) 0 (take l.n l.kinds)
