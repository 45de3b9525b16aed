use Rattle.std.proofs.Common.{◌≡◌, [], ◌++◌, subst, arith, length-drop}
use Rattle.std.proofs.lemmas.Grind.{common_steps}
use Rattle.std.proofs.lemmas.List.{take_rest}
use Rattle.std.proofs.lemmas.Result.{err_from_is_err_and}
use Rattle.cilk_checker.specs.Tallies.{Heard}
use Rattle.cilk_checker.proofs.hearing.hear.Goals as goal

pub hear_next-requires-clause-heard : goal.hear_next-requires-clause-heard
hear_next-requires-clause-heard c = let h = c.requires.heard in (h.0 ++ c.args.piece.now, c.lines.invariant.0 h.0 h.1)

pub returns-in_err-taken-clause-fault : goal.returns-in_err-taken-clause-fault
returns-in_err-taken-clause-fault c = λ text h.
    let p = err_from_is_err_and c.from_residual.result c.from_residual.ensures.1 in
    rw (p.1, p.2) (c.in_err-taken.ensures.fault (text ++ c.args.piece.now) (c.lines.invariant.0 text h))

pub lines-preserved : goal.lines-preserved
lines-preserved c = (
  (λ text h. rw take_rest (c.in_ok-taken.ensures.line (text ++ c.args.piece.now) (c.lines.invariant.0 text h))),
  rw take_rest (let i = c.lines.invariant.1 in let n = c.in_ok-taken.ensures.room in let w = c.in_ok-taken.ensures.within in omega (arith, i, n, w, length-drop c.in_ok-taken.taken c.lines.rest.now)),
)

pub returns-clause-lines : goal.returns-clause-lines
returns-clause-lines c = λ text h.
    let e : c.lines.rest.now ≡ [] = grind (arith, common_steps) in
    subst (λ rest. Heard c.args.right.now (text ++ c.args.piece.now) rest c.lines.reader c.lines.tally) e (c.lines.invariant.0 text h)
