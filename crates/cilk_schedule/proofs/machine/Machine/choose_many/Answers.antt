use Rattle.std.proofs.Common.{Some}
use Rattle.cilk_scheduler.specs.declared.choice.Choice.TheVariants as choices
use Rattle.cilk_schedule.proofs.Faults.{halted}
use Rattle.cilk_schedule.proofs.machine.Machine.choose_many.Goals as goal

pub returns-in-Err-clause-halted : goal.returns-in-Err-clause-halted
returns-in-Err-clause-halted c =
    let r = c.in-Err.ensures.halted in
    let k = r.kept in
    record {
      count = r.count;
      few = r.few;
      between = r.between;
      led = r.led;
      going = r.going;
      busy = r.busy;
      faults = halted c.args.self.now.code.now c.args.self.now.input.now r.between c.run_many.new.scheduler (choices.Run c.args.worker) c.in-Err.stop (Some c.in-Err.stop) r.faults;
      kept = record { frames = k.frames; journal = k.journal; outcome = k.outcome };
    }
