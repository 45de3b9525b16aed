use Rattle.cilk_scheduler.proofs.Choosing.{choices_are_steps}
use Rattle.cilk_scheduler.proofs.orders.choices_are_steps.Goals as goal

pub returns : goal.returns
returns c = choices_are_steps
