use Rattle.cilk_syntax.proofs.Words.{cut_front, stops_front, whole_run}
use Rattle.cilk_syntax.proofs.lexer.split.Goals as goal

pub returns-then-not-belongs-clause-front : goal.returns-then-not-belongs-clause-front
returns-then-not-belongs-clause-front c = cut_front _ _ c.each.rest.now (stops_front c.args.class c.each.rest.now c.if-not-belongs.ensures) c.each.invariant.front c.each.invariant.shorter

pub returns-clause-front : goal.returns-clause-front
returns-clause-front c = whole_run _ _ c.each.rest.now c.in_default.len_below c.each.invariant.front
