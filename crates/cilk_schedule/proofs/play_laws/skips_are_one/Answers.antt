use Rattle.cilk_schedule.proofs.OneSkip.{skips_are_one}
use Rattle.cilk_schedule.proofs.play_laws.skips_are_one.Goals as goal

pub returns : goal.returns
returns c = λ p inputs. skips_are_one p inputs
