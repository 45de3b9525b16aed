use Rattle.cilk_determinacy.proofs.Progress.{progress}
use Rattle.cilk_determinacy.specs.FrameEnvMachine.{costs}
use Rattle.cilk_determinacy.specs.Reducers.{View, monoid_of}
use Rattle.cilk_determinacy.specs.Steps.{Next}
use Rattle.cilk_determinacy.specs.FrameEnvs.{FrameEnv}
use Rattle.cilk_determinacy.proofs.env_laws.machine_has_progress.Goals as goal

pub returns : goal.returns
returns c = λ p inputs. progress FrameEnv View monoid_of (Next p inputs) (costs p inputs)
