use Rattle.cilk_schedule.proofs.FirstSchedulers.{first_reached}
use Rattle.cilk_schedule.proofs.play_laws.openings_are_reached.Goals as goal

pub returns : goal.returns
returns c = λ code p inputs b idle opened. first_reached code p inputs b idle opened
