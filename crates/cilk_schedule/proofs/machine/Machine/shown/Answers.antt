use Rattle.std.proofs.Common.{◌≡◌, length, rules}
use Rattle.std.proofs.lemmas.Result.{IfOk-weaker}
use Rattle.cilk_schedule.specs.Showing.{ShowsScheduler}
use Rattle.cilk_schedule.specs.Shown.{ShowsReached}
use Rattle.cilk_schedule.proofs.Shown.{shows_reached}
use Rattle.cilk_schedule.proofs.machine.Machine.shown.Goals as goal

pub returns-clause-run : goal.returns-clause-run
returns-clause-run c =
    let m = c.args.self.now in
    let many : c.len.result ≡ length m.code.now.layout.openings = search rules in
    IfOk-weaker c.show.result (ShowsScheduler c.len.result m.scheduler) (ShowsReached m.code.now m.input.now m.scheduler) (λ shown h. shows_reached m.code.now m.input.now m.scheduler c.len.result shown many h) c.show.ensures.run
