use Rattle.cilk_schedule.proofs.Reaching.{choices_lead_on}
use Rattle.cilk_schedule.proofs.laws.choices_lead_on.Goals as goal

pub returns : goal.returns
returns c = choices_lead_on
