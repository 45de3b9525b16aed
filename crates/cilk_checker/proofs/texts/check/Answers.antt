use Rattle.cilk_checker.proofs.OneVerdict.{only_memory}
use Rattle.cilk_checker.proofs.texts.check.Goals as goal

pub returns-in-Err-Refusal-clause-only : goal.returns-in-Err-Refusal-clause-only
returns-in-Err-Refusal-clause-only c = λ a.
    only_memory c.args.program.now c.args.input.now c.args.certificate.now c.in-Err-Refusal.refusal a
    (rw (c.new-source.ensures, c.in-Err-Refusal.field-0-is) at c.in-Err-Refusal.ensures.unaccepted)
