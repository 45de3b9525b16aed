use Rattle.std.proofs.Common.{◌≡◌, ◌-◌, length, drop}
use Rattle.cilk_lower.proofs.emitter.references.Given as goal

abbrev pub invariant-each : goal.invariant-each
invariant-each l = l.references ≡ drop (length l.reducers - l.i) l.reducers
