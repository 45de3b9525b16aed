-- One more zero.
use Rattle.cilk_names.proofs.AllItems.{zeros_push}
use Rattle.cilk_names.proofs.items.push_zeros.Goals as goal

pub each-preserved : goal.each-preserved
each-preserved c = zeros_push c.args.openings.now c.each.openings c.push.new.self c.each._index c.each.invariant c.in_ok-push.ensures
