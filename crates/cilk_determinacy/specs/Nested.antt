-- The serial run of a program by names, with each child's run inside its parent's.
use Rattle.std.specs.Prelude.{ℕ, suc, ℤ}
use Rattle.cilk_program.specs.declared.ask.Ask as language
use Rattle.cilk_program.specs.declared.ask.Ask.TheVariants as asks
use Rattle.cilk_program.specs.Syntax.{Source}
use Rattle.cilk_program.specs.SerialRun as serial
use Rattle.cilk_determinacy.specs.Runs.{Event, Reads, Writes, Syncs, Ends, Passes, Begins, Resumes, Creates, Updates, Sets, Values, Prints, Run, stop, act, child}
use Rattle.cilk_determinacy.specs.FrameEnvs.{FrameEnv, first_env, child_env, cell_seen, reducer_seen, result_cell}
use Rattle.cilk_determinacy.specs.FrameEnvMachine.{retired_by}

-- the event of an ask with this answer; a child's start and a fault are no events of this kind
abbrev pub named_event : Source → FrameEnv → language.Ask → ℤ → Event
named_event p w asks.Begin a = Passes Begins
named_event p w (asks.Read x) a = Reads (cell_seen w x) a
named_event p w (asks.Write x v) a = Writes (cell_seen w x) v
named_event p w (asks.Create r) a = Passes (Creates (reducer_seen w r))
named_event p w (asks.Update r v) a = Passes (Updates (reducer_seen w r) v)
named_event p w (asks.Set r v) a = Passes (Sets (reducer_seen w r) v)
named_event p w (asks.Value r) a = Passes (Values (reducer_seen w r) a)
named_event p w (asks.Print v) a = Passes (Prints v)
named_event p w (asks.Invoke how callee) a = Passes Begins
named_event p w asks.Resume a = Passes Resumes
named_event p w asks.Sync a = Syncs
named_event p w (asks.Result v) a = Writes (result_cell w) v
named_event p w (asks.End v) a = Ends v (retired_by p w)
named_event p w (asks.Fault f) a = Passes Begins

-- the rest of a frame's run, where its next child has this ordinal
abbrev pub named_from : Source → FrameEnv → ℕ → serial.Transcript → Run FrameEnv
named_from p w k serial.stop = stop
named_from p w k (serial.act a v r) = act (named_event p w a v) (named_from p w k r)
named_from p w k (serial.child how callee u r) =
    child how (child_env p w k callee) (named_from p (child_env p w k callee) 1 u) (named_from p w (suc k) r)

-- the run of the first frame
abbrev pub named : Source → serial.Transcript → Run FrameEnv
named p r = named_from p (first_env p) 1 r
