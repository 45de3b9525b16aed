use Rattle.cilk_schedule.proofs.Deciding.{choices_decide}
use Rattle.cilk_schedule.proofs.laws.choices_decide.Goals as goal

pub returns : goal.returns
returns c = λ p inputs. choices_decide p inputs
