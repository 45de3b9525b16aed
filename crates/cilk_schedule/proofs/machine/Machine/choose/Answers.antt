use Rattle.std.proofs.Common.{◌≡◌, None}
use Rattle.cilk_schedule.proofs.Faults.{if_err_halts, if_err_reaches}
use Rattle.cilk_schedule.proofs.Leading.{if_ok_reaches}
use Rattle.cilk_schedule.proofs.machine.Machine.choose.Goals as goal

pub returns-clause-reached : goal.returns-clause-reached
returns-clause-reached c =
    let e = c.choose.ensures in
    if_ok_reaches c.args.self.now.code.now c.args.self.now.input.now c.args.self.now.scheduler c.choose.new.scheduler c.args.choice c.choose.result e.steps e.starts e.syncs e.ends e.thieves e.waits e.skips

pub returns-clause-stops : goal.returns-clause-stops
returns-clause-stops c =
    if_err_reaches c.args.self.now.code.now c.args.self.now.input.now c.args.self.now.scheduler c.choose.new.scheduler c.args.choice c.choose.result (c.args.self.now.scheduler.stopped ≡ None) c.choose.ensures.faults c.choose.ensures.kept

pub returns-clause-halted : goal.returns-clause-halted
returns-clause-halted c =
    if_err_halts c.args.self.now.code.now c.args.self.now.input.now c.args.self.now.scheduler c.choose.new.scheduler c.args.choice c.choose.result (c.args.self.now.scheduler.stopped ≡ None)
    (if_err_reaches c.args.self.now.code.now c.args.self.now.input.now c.args.self.now.scheduler c.choose.new.scheduler c.args.choice c.choose.result (c.args.self.now.scheduler.stopped ≡ None) c.choose.ensures.faults c.choose.ensures.kept)
