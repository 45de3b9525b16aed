use Rattle.std.proofs.Common.{◌≡◌, drop, subst, arith}
use Rattle.cilk_checker.specs.Tallies.{Heard}
use Rattle.cilk_checker.proofs.hearing.hear_next.Goals as goal

pub returns-clause-line : goal.returns-clause-line
returns-clause-line c = λ text h.
    let none : c.in_ok-passed.passed ≡ 0 = omega arith in
    c.hear_line.ensures.line text
    (subst (λ n. Heard c.args.right.now text (drop n c.args.piece.now) c.hear_block.new.reader c.hear_block.new.tally) none (c.in_ok-passed.ensures.lines text h))

pub returns-clause-fault : goal.returns-clause-fault
returns-clause-fault c = λ text h.
    let none : c.in_ok-passed.passed ≡ 0 = omega arith in
    c.hear_line.ensures.fault text
    (subst (λ n. Heard c.args.right.now text (drop n c.args.piece.now) c.hear_block.new.reader c.hear_block.new.tally) none (c.in_ok-passed.ensures.lines text h))
