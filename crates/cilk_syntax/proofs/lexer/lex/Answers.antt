use Rattle.std.proofs.Common.{[], arith, append_assoc, append-nil}
use Rattle.std.proofs.lemmas.Grind.{common_steps}
use Rattle.cilk_syntax.specs.Lexing.{Skipped, Found, Here, Behind, Beyond}
use Rattle.cilk_syntax.proofs.Words.{nothing_left}
use Rattle.cilk_syntax.proofs.lexer.lex.Goals as goal

pub each-preserved-in-Skip : goal.each-preserved-in-Skip
each-preserved-in-Skip c = record {
  tokens = λ ts h. c.each.invariant.tokens ts (Skipped c.in-Skip.ensures.front.0 c.in-Skip.ensures.front.1 h);
  fault = λ bad place h. c.each.invariant.fault bad place (Behind c.in-Skip.ensures.front.0 c.in-Skip.ensures.front.1 h);
  shorter = grind (arith, common_steps);
}

pub each-preserved : goal.each-preserved
each-preserved c = record {
  tokens = λ ts h. rw (c.in_ok-push-in-Word.ensures.items, append_assoc) (c.each.invariant.tokens _ (Found _ c.in-Word.ensures.front (omega arith) (omega (arith, c.in-Word.ensures.shorter)) h));
  fault = λ bad place h. c.each.invariant.fault bad place (Beyond c.in-Word.kind c.in-Word.ensures.front h);
  shorter = grind (arith, common_steps);
}

pub returns-in-Fault-clause-fault : goal.returns-in-Fault-clause-fault
returns-in-Fault-clause-fault c = c.each.invariant.fault _ _ (Here c.in-Fault.ensures.front (omega arith))

pub returns-clause-tokens : goal.returns-clause-tokens
returns-clause-tokens c = simp append-nil at (c.each.invariant.tokens [] (nothing_left _ _ _ c.in_default.len_below))
