-- The reducers that the frames of a program's run create.
use Rattle.std.specs.Prelude.{◌≡◌, ℕ, List, Some}
use Rattle.cilk_program.specs.declared.ask.Callee.{Callee}
use Rattle.cilk_program.specs.SerialRun.{Transcript}
use Rattle.cilk_program.specs.Syntax.{Source}
use Rattle.cilk_program.specs.Numbering.{Block, frame_at}
use Rattle.cilk_shared.specs.declared.reducers.FrameReducers.{FrameReducers}
use Rattle.cilk_shared.specs.declared.reducers.Reducers.{Reducers}
use Rattle.cilk_shared.specs.Reducers.{own, kind_in}
use Rattle.cilk_determinacy.specs.Runs.{Instance}
use Rattle.cilk_determinacy.specs.Reducers.{kind_of}
use Rattle.cilk_determinacy.specs.FrameEnvs.{before_own}
use Rattle.cilk_determinacy.specs.Numbers.{all_reducers, frame_runs, instance_number, HasInstance}

-- the reducers of a frame that runs this: the root's frame creates the global ones before its own,
-- and they outlive it
abbrev pub reducers_of : Source → Callee → FrameReducers
reducers_of p callee = record { kinds = all_reducers p callee; outlive = before_own p callee }

-- the table has the reducers of each frame of the run, by the frame's number
abbrev pub AreReducersOf : Source → Transcript → Reducers → Type 0
AreReducersOf p run r =
    (path : List ℕ) (block : Block) (callee : Callee) → frame_at p run path ≡ Some block → frame_runs run path ≡ Some callee
    → own r block.number ≡ reducers_of p callee

-- each reducer that the run creates has its monoid in the table
abbrev pub HaveTheirKinds : Source → Transcript → Reducers → Type 0
HaveTheirKinds p run r = (i : Instance) → HasInstance p run i → kind_in r (instance_number p run i) ≡ kind_of i
