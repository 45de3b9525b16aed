use Rattle.cilk_program.proofs.Closings.{runs_begin, runs_resume, runs_end}
use Rattle.cilk_program.proofs.runs.frames_are_closed.Goals as goal

pub returns : goal.returns
returns c = λ p inputs. record { begins = runs_begin p inputs; resumes = runs_resume p inputs; ends = runs_end p inputs }
