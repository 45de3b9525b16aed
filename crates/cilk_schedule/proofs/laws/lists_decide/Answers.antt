use Rattle.cilk_schedule.proofs.Played.{lists_decide}
use Rattle.cilk_schedule.proofs.laws.lists_decide.Goals as goal

pub returns : goal.returns
returns c = λ p inputs. lists_decide p inputs
