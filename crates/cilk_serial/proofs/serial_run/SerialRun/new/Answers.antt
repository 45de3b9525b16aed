use Rattle.std.proofs.Common.{List, ap}
use Rattle.cilk_types.specs.declared.event.Event.{Event}
use Rattle.cilk_serial.specs.declared.serial_run.Stage.TheVariants.{Going}
use Rattle.cilk_serial.proofs.serial_run.SerialRun.new.Goals as goal

pub returns : goal.returns
returns c = ap (λ (es : List Event). record { program = c.args.program.now; inputs = c.args.input.now; events = es; stage = Going }) c.in_ok-running.ensures.unbegun

pub invariant_of-result : goal.invariant_of-result
invariant_of-result c = c.in_ok-running.ensures.going c.args.input.now
