use Rattle.std.proofs.Common.{◌≡◌, ◌++◌, length}
use Rattle.cilk_commands.specs.Replies.{strand_text}
use Rattle.cilk_commands.proofs.render.push_strand.Given as goal

abbrev pub invariant-each : goal.invariant-each
invariant-each l = l.text.items ++ strand_text l.rest ≡ l.initial.text.items ++ strand_text l.name

abbrev pub decreases-each : goal.decreases-each
decreases-each l = length l.rest
