use Rattle.std.proofs.Common.{◌≡◌, ◌++◌, length}
use Rattle.cilk_messages.specs.Claims.{list_text}
use Rattle.cilk_messages.proofs.claim.push_list.Given as goal

abbrev pub invariant-each : goal.invariant-each
invariant-each l = l.text.items ++ list_text l.mark l.left l.rest ≡ l.initial.text.items ++ list_text l.first l.most l.fixed

abbrev pub decreases-each : goal.decreases-each
decreases-each l = length l.rest
