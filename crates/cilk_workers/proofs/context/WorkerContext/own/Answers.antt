use Rattle.std.proofs.Common.{◌≡◌, rules, subst}
use Rattle.cilk_tree.specs.Word.{resume, word_step}
use Rattle.cilk_workers.specs.Shared.{event_order_in}
use Rattle.cilk_workers.proofs.Held.{of_replay}
use Rattle.cilk_workers.proofs.context.WorkerContext.own.Goals as goal

pub returns-clause-resumes : goal.returns-clause-resumes
returns-clause-resumes g c =
    let y = c.args.self.now.shared.now in
    let p = c.args.work.now.piece in
    let same : c.at.result ≡ p.upto = search rules in
    subst (λ n. word_step (event_order_in y) n ≡ resume c.args.task.ticket) same
    (of_replay (λ s. word_step s c.at.result ≡ resume c.args.task.ticket) y c.args.task.of c.requires.task c.laws.ensures.same c.at.ensures.resumption)
