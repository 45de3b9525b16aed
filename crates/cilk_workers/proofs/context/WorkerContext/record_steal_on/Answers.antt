use Rattle.std.proofs.Common.{◌≡◌, ◌∙◌, false, true, sym, subst}
use Rattle.cilk_tree.specs.Word.{resume, word_step}
use Rattle.cilk_workers.specs.Boxes.{IsOpen}
use Rattle.cilk_workers.specs.Rows.{RunValue}
use Rattle.cilk_workers.proofs.Arrivals.{records}
use Rattle.cilk_workers.proofs.context.WorkerContext.record_steal_on.Goals as goal
use Rattle.cilk_workers.proofs.context.WorkerContext.record_steal_on.Goals.{then-not-open, else-not-open}

pub record_steal-requires-clause-resumes : goal.record_steal-requires-clause-resumes
record_steal-requires-clause-resumes g c = subst (λ (y : RunValue). word_step y.event_order c.args.goes_on ≡ resume c.args.child) (sym c.in-Ok.ensures.run.0) c.requires.resumes

pub returns-clause-recorded : goal.returns-clause-recorded
returns-clause-recorded g c =
    let may : IsOpen c.in-Ok.found c.args.child c.args.goes_on = elim c.if-not-open.branch [
      | then-not-open w ↦ absurd (let no : false ≡ true = w.never.ensures in cc no)
      | else-not-open w ↦ c.«open».ensures.0 w.if-not-open.false
    ] in
    records c.args.shelf.now c.taken_from.new.shelf c.put.new.self c.args.block.sync c.args.child c.args.goes_on c.in-Ok.found c.record_steal.new.self c.record_steal.result c.is_ok-told.result
    c.wait_if_passed.ensures c.in-Ok.ensures.taken may c.record_steal.ensures.ok c.record_steal.ensures.err c.is_ok-told.ensures.value c.put.ensures.put (c.put.ensures.passed ∙ c.taken_from.ensures.passed)
