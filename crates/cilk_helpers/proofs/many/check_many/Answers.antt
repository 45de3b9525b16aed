use Rattle.cilk_checker.proofs.OneVerdict.{only_memory}
use Rattle.cilk_helpers.proofs.many.check_many.Goals as goal

pub returns-in-Err-Refusal-clause-only : goal.returns-in-Err-Refusal-clause-only
returns-in-Err-Refusal-clause-only g c = λ a.
    only_memory c.args.program.now c.args.input.now c.args.certificate.now c.in-Err-Refusal.refusal a
    (rw c.in-Err-Refusal.field-0-is at c.in-Err-Refusal.ensures.unaccepted)
