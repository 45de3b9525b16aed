use Rattle.std.proofs.Common.{◌≡◌, ◌++◌, length}
use Rattle.std.specs.Prelude.{flat_map}
use Rattle.cilk_messages.specs.Claims.{fixed_tokens}
use Rattle.cilk_messages.proofs.batch.write_fixed.Given as goal

abbrev pub invariant-each : goal.invariant-each
invariant-each l =
    (l.writer.tokens ++ flat_map fixed_tokens l.rest ≡ l.initial.writer.tokens ++ flat_map fixed_tokens l.fixed) × (l.writer.before ≡ l.initial.writer.before)

abbrev pub decreases-each : goal.decreases-each
decreases-each l = length l.rest
