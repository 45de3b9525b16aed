use Rattle.cilk_lower.proofs.Rows.{words_more}
use Rattle.cilk_lower.proofs.bodies.put_words.Goals as goal

pub each-preserved : goal.each-preserved
each-preserved c = words_more c.args.code.now.items c.each.code.items _ c.each.n c.each.invariant c.in_ok-put.ensures
