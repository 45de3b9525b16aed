use Rattle.std.proofs.Common.{◌≡◌, ◌++◌, length}
use Rattle.cilk_messages.specs.Batches.{first_line}
use Rattle.cilk_messages.proofs.batch.push_first_line.Given as goal

abbrev pub invariant-line : goal.invariant-line
invariant-line l = l.text.items ++ first_line l.rest ≡ l.initial.text.items ++ first_line l.reply

abbrev pub decreases-line : goal.decreases-line
decreases-line l = length l.rest
