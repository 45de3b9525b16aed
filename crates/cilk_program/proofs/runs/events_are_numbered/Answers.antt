use Rattle.cilk_program.proofs.Numbers.{run_events}
use Rattle.cilk_program.proofs.runs.events_are_numbered.Goals as goal

pub returns : goal.returns
returns c = run_events
