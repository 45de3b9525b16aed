use Rattle.cilk_schedule.proofs.OneEnd.{one_end}
use Rattle.cilk_schedule.proofs.play_laws.script_has_one_end.Goals as goal

pub returns : goal.returns
returns c = λ p inputs. one_end p inputs
